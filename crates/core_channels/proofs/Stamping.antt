-- What a stamp is that the clock gave: the next one, which is later than the clock and than what it answers.
-- By the test of the clock, whether the next stamp is within its range.
use Rattle.std.proofs.Common.{◌≡◌, ℕ, ◌<◌, ◌^◌, Bool, true, false, cond, Some, None, arith, nat_lt}
use Rattle.ac_base.specs.Stamps.{next_stamp, stamp_after}

by_test : (x s : ℕ) (b : Bool) → cond b (Some x) None ≡ Some s → s ≡ x
by_test x s true h = cc
by_test x s false h = cc

pub stamp_is_next : (last seen s : ℕ) → stamp_after last seen ≡ Some s → s ≡ next_stamp last seen
stamp_is_next last seen s h = by_test (next_stamp last seen) s (nat_lt (next_stamp last seen) (2 ^ 60)) h

pub stamp_is_later : (last seen s : ℕ) → stamp_after last seen ≡ Some s → seen < s
stamp_is_later last seen s h = let e = stamp_is_next last seen s h in omega arith

pub stamp_rises : (last seen s : ℕ) → stamp_after last seen ≡ Some s → last < s
stamp_rises last seen s h = let e = stamp_is_next last seen s h in omega arith

pub next_is_later : (last seen s : ℕ) → s ≡ next_stamp last seen → seen < s
next_is_later last seen s e = omega arith
