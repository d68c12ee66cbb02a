-- The rule on the ends of a channel by what the cores reach. The row of a function says none, one or several: by cases on the row and on
-- the channel's core, the test is true just where some core reaches the function and is not that one.
use Rattle.std.proofs.Common.{◌≡◌, ℕ, Bool, true, false, List, slice_get, Option, None, Some, refl, arith}
use Rattle.std.specs.Prelude.{nat_eq, not}
use Rattle.std.proofs.lemmas.Bool.Decides.{nat_tests}
use Rattle.ac_tree.specs.declared.item.Item.{Item}
use Rattle.ac_reach.specs.declared.reached.Reached.{Reached}
use Rattle.ac_reach.specs.declared.reached.Reached.TheVariants as r
use Rattle.ac_reach.specs.Reached.{IsReachedBy}
use Rattle.ac_reach.proofs.Rows.{one_table}
use Rattle.ac_types.specs.Around.{is_reached_by_another}
use Rattle.ac_types.specs.Reached.{AreReached, IsReachedByAnother, all_calls, entries_of}

-- there is one table of what is reached
pub reached_once : (items : List Item) (a b : List Reached) → AreReached items a → AreReached items b → a ≡ b
reached_once items a b h k = one_table (all_calls items) (entries_of items) a b h k

module _ (items : List Item) (function : ℕ) where
  abbrev By : Reached → Type 0
  By row = IsReachedBy (all_calls items) (entries_of items) function row

  not_none : (k : ℕ) → Some k ≡ None → ⊥
  not_none k e = cc

  not_same : (k core : ℕ) → nat_eq k core ≡ false → Some k ≡ Some core → ⊥
  not_same k core e f =
      let same : k ≡ core = cc f in
      grind (arith, nat_tests, e, same)

  same_core : (k core : ℕ) → nat_eq k core ≡ true → k ≡ core
  same_core k core e = grind (arith, nat_tests, e)

  told : (row : Reached) (core : Option ℕ) → By row → is_reached_by_another row core ≡ true → IsReachedByAnother items function core
  told r.ByNone core h e = cc
  told (r.ByOne k) None h e = record { other = k; reaches = h.0; differs = not_none k }
  told (r.ByOne k) (Some core) h e = by (nat_eq k core) refl e where
    by : (b : Bool) → nat_eq k core ≡ b → not b ≡ true → IsReachedByAnother items function (Some core)
    by true f g = cc
    by false f g = record { other = k; reaches = h.0; differs = not_same k core f }
  told r.BySeveral None h e = record { other = h.one; reaches = h.one_does; differs = not_none h.one }
  told r.BySeveral (Some core) h e = by (nat_eq h.one core) refl where
    by : (b : Bool) → nat_eq h.one core ≡ b → IsReachedByAnother items function (Some core)
    by false f = record { other = h.one; reaches = h.one_does; differs = not_same h.one core f }
    by true f = record {
      other = h.other;
      reaches = h.other_does;
      differs = λ g. h.differ (let same : h.other ≡ core = cc g in let first : h.one ≡ core = same_core h.one core f in cc);
    }

  found : (row : Reached) (core : Option ℕ) → By row → IsReachedByAnother items function core → is_reached_by_another row core ≡ true
  found r.ByNone core h a = absurd (h a.other a.reaches)
  found (r.ByOne k) None h a = refl
  found (r.ByOne k) (Some core) h a = by (nat_eq k core) refl where
    by : (b : Bool) → nat_eq k core ≡ b → not b ≡ true
    by false f = refl
    by true f = absurd (a.differs (let only : a.other ≡ k = h.1 a.other a.reaches in let first : k ≡ core = same_core k core f in cc))
  found r.BySeveral core h a = refl

  -- by its row, just where some core reaches the function and is not that one
  pub reached_by_another : (rows : List Reached) (row : Reached) (core : Option ℕ) → AreReached items rows → slice_get rows function ≡ Some row →
      (is_reached_by_another row core ≡ true → IsReachedByAnother items function core) × (IsReachedByAnother items function core → is_reached_by_another row core ≡ true)
  reached_by_another rows row core are e = let h = are.each function row e in (told row core h, found row core h)
