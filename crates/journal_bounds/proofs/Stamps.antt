-- The merged history has as many entries as its journals, so few, and its stamps are small. For `histories_are_short` and `stamps_are_small`.
-- No stamp is above the number of entries (ac_history), each core has few (Runs), and the worker and the passes as many as cores made offers (Passing).
use Rattle.std.proofs.Common.{◌≡◌, ℕ, suc, ◌*◌, ◌≤◌, List, [], ◌∷◌, length, get_or, Bool, true, false, refl, ap, ◌∙◌, arith}
use Rattle.std.specs.Prelude.{nat_le, if◌then◌else◌}
use Rattle.std.specs.List.{AllByRecursion}
use Rattle.std.proofs.Math.Nat.{mul_left_comm}
use Rattle.ac_base.specs.declared.entry.Stamped.{Stamped}
use Rattle.ac_links.specs.Order.{placed, in_order, stamp_of}
use Rattle.ac_history.specs.Merged.{all_from, merged}
use Rattle.ac_history.proofs.Bound.{stamps_at_most}
use Rattle.journal_bounds.specs.Actions.{most_actions}
use Rattle.journal_bounds.specs.Laws.{HistoriesAreShort, StampsAreSmall}
use Rattle.journal_bounds.proofs.Counting.{settled, offered_below, idle_of, count_in_order, few_offered, few_from}
use Rattle.journal_bounds.proofs.Passing.{settled_at_most}
use Rattle.journal_bounds.proofs.Runs.{short}

-- ---- how many entries there are

placed_length : {X : Type 0} (key : X → ℕ) (x : X) (xs : List X) → length (placed key x xs) ≡ suc (length xs)
placed_length key x [] = refl
placed_length key x (y ∷ ys) = at (nat_le (key x) (key y)) (placed_length key x ys)
  where
    at : (b : Bool) → length (placed key x ys) ≡ suc (length ys) → length (if b then x ∷ y ∷ ys else y ∷ placed key x ys) ≡ suc (suc (length ys))
    at true ih = refl
    at false ih = ap suc ih

order_length : {X : Type 0} (key : X → ℕ) (xs : List X) → length (in_order key xs) ≡ length xs
order_length key [] = refl
order_length key (x ∷ xs) = placed_length key x (in_order key xs) ∙ ap suc (order_length key xs)

each_more : (m n : ℕ) → m ≤ n → (es : List Stamped) → AllByRecursion (λ e. e.entry.stamp ≤ m) es → AllByRecursion (λ e. e.entry.stamp ≤ n) es
each_more m n le [] a = tt
each_more m n le (e ∷ es) a = (let h = a.0 in omega arith, each_more m n le es a.1)

pub histories_short : HistoriesAreShort
histories_short program capacities widths cores bound js many runs legal =
    let k = most_actions program * bound in
    let settles = settled_at_most capacities widths cores (merged js) legal in
    let fewer = settles.0 in
    let busy = settles.1 in
    let all_settled = count_in_order settled stamp_of (all_from 0 js) in
    let all_offered = count_in_order (offered_below cores) stamp_of (all_from 0 js) in
    let all_idle = count_in_order (idle_of cores) stamp_of (all_from 0 js) in
    let offered = few_offered k cores cores 0 js many (omega arith) (λ i lt. let r = runs i lt in (short program i bound (get_or js i []) r.0 r.1).1) in
    let few = few_from cores cores (3 * k) 0 js many (omega arith) (λ i lt. let r = runs i lt in (short program i bound (get_or js i []) r.0 r.1).0) in
    let all = order_length stamp_of (all_from 0 js) in
    let thrice = mul_left_comm cores 3 k in
    let four_times = mul_left_comm cores 4 k in
    record { entries = omega arith; stamps = stamps_at_most capacities widths cores (merged js) legal }

pub stamps_small : StampsAreSmall
stamps_small program capacities widths cores bound js many runs legal =
    let short = histories_short program capacities widths cores bound js many runs legal in
    each_more (length (merged js)) (cores * (4 * (most_actions program * bound))) short.entries (merged js) short.stamps
