-- How the bound on what a core can still do changes with its threads.
-- `grown` of a rank is more than two of lower ranks together with a dispatch, or one with three entries and a dispatch; and what threads
-- weigh that stay the same stays the same, in a list, among the operations and in the table of blocks.
use Rattle.std.proofs.Common.{◌≡◌, ℕ, zero, suc, ◌+◌, ◌-◌, ◌*◌, ◌≤◌, ◌<◌, List, [], ◌∷◌, ◌++◌, length, Option, Some, None, Bool, true, false, refl, ap, ◌∙◌, inl, inr, arith}
use Rattle.std.specs.Prelude.{◌&&◌, not, sum, slice_index, slice_index_or, if◌then◌else◌}
use Rattle.std.proofs.lemmas.Bool.{cases_lt}
use Rattle.std.proofs.lemmas.List.{get_or_past}
use Rattle.std.proofs.lemmas.List.Sums.{get_or-le-sum_by}
use Rattle.work_item.specs.declared.ids.Item.{Item}
use Rattle.cancel_scope.specs.declared.operation.Operation.{Operation}
use Rattle.cancel_scope.specs.declared.operation.Progress.{Progress}
use Rattle.cancel_scope.specs.declared.operation.Progress.TheVariants.{Waiting, Offered, Started}
use Rattle.cancel_scope.specs.Outstanding.{is_outgoing, is_request, is_waiting, has_begun, offered_as, as_begun}
use Rattle.code_meaning.specs.Machine.{Thread, Block, thread_at}
use Rattle.code_safety.specs.Fit.{one_if, one_at, occurs, items_of}
use Rattle.code_safety.specs.Left.{grown, at_weight, thread_weight, parked_weight, ready_weight, entries_left, operation_weight, operations_weight, owner_weight, waiting_weight}
use Rattle.code_safety.proofs.Lives.{one_same, one_at_most}

-- ---- ranks

pub grown_some : (r : ℕ) → 3 ≤ grown r
grown_some zero = omega arith
grown_some (suc r) = let h = grown_some r in omega (arith, h)

grown_le : (q r : ℕ) → q ≤ r → grown q ≤ grown r
grown_le zero r h = grown_some r
grown_le (suc q) zero h = absurd (omega (arith, h))
grown_le (suc q) (suc r) h = let x : grown q ≤ grown r = grown_le q r (omega (arith, h)) in omega (arith, x)

-- one of lower rank, and an operation of three entries and a dispatch
pub grown_one : (q r : ℕ) → q < r → 4 + grown q < grown r
grown_one q zero h = absurd (omega (arith, h))
grown_one q (suc r) h = let x : grown q ≤ grown r = grown_le q r (omega (arith, h)) in let s = grown_some q in omega (arith, x, s)

pub grown_two : (q k r : ℕ) → q < r → k < r → 1 + (grown q + grown k) < grown r
grown_two q k zero h g = absurd (omega (arith, h))
grown_two q k (suc r) h g =
    let x : grown q ≤ grown r = grown_le q r (omega (arith, h)) in
    let y : grown k ≤ grown r = grown_le k r (omega (arith, g)) in
    omega (arith, x, y)

rank_within : (ranks : List ℕ) (at : ℕ) → slice_index ranks at ≤ sum ranks
rank_within ranks at =
    elim (cases_lt at (length ranks)) as (λ _. slice_index ranks at ≤ sum ranks) [
      | inl lt ↦ get_or-le-sum_by (λ x. x) ranks at 0 lt
      | inr past ↦ omega (arith, get_or_past ranks at 0 past)
    ]

pub weight_within : (ranks : List ℕ) (at : ℕ) → at_weight ranks at ≤ grown (sum ranks)
weight_within ranks at = grown_le (slice_index ranks at) (sum ranks) (rank_within ranks at)

-- a step is used
pub step_falls : (bound steps all x y rest : ℕ) → steps < bound → x ≤ all → 2 ≤ y → (bound - (steps + 1)) * all + (x + rest) < (bound - steps) * all + (y + rest)
step_falls bound steps all x y rest lt le some = let e : bound - steps ≡ (bound - (steps + 1)) + 1 = omega arith in rw e (omega (arith, le, some))

-- ---- entries

-- an operation has one to three entries before it
pub one_to_three : (o : Operation) → (1 ≤ entries_left o) × (entries_left o ≤ 3)
one_to_three o =
    let offer = one_at_most (is_outgoing o.asked && is_waiting o.progress) in
    let begins = one_at_most (is_request o.asked && not (has_begun o.progress)) in
    (omega arith, omega (arith, offer, begins))

-- one less once it is offered
pub one_less_offered : (o : Operation) (number : ℕ) → (is_outgoing o.asked && is_waiting o.progress) ≡ true → entries_left o ≡ 1 + entries_left (offered_as number o)
one_less_offered o number waits = go (is_outgoing o.asked) (is_request o.asked) o.progress waits
  where
    go : (b r : Bool) (p : Progress) → (b && is_waiting p) ≡ true
        → one_if (b && is_waiting p) + (one_if (r && not (has_begun p)) + 1) ≡ 1 + (one_if (b && false) + (one_if (r && true) + 1))
    go true true Waiting e = refl
    go true false Waiting e = refl
    go true r (Offered n) e = let no : false ≡ true = e in absurd (cc)
    go true r (Started n) e = let no : false ≡ true = e in absurd (cc)
    go false r p e = let no : false ≡ true = e in absurd (cc)

-- and once a request that was offered has begun
pub one_less_begun : (o : Operation) (number : ℕ) → is_request o.asked ≡ true → o.progress ≡ Offered number → entries_left o ≡ 1 + entries_left (as_begun o)
one_less_begun o number request offered = rw (offered, request) (go (is_outgoing o.asked))
  where
    go : (b : Bool) → one_if (b && false) + (1 + 1) ≡ 1 + (one_if (b && false) + (0 + 1))
    go true = refl
    go false = refl

-- ---- other threads

module _ (ranks : List ℕ) (old new : List Thread) where
  abbrev Same : Item → Type 0
  Same u = thread_weight ranks (thread_at new u) ≡ thread_weight ranks (thread_at old u)

  pub ready_same : (ready : List Item) → ((u : Item) → 0 < occurs u.number ready → Same u) → ready_weight ranks new ready ≡ ready_weight ranks old ready
  ready_same [] h = refl
  ready_same (t ∷ ready) h =
      let first = h t (let one = one_same t.number in let o : one_at t.number t ≡ 1 = one in omega (arith, o)) in
      let rest = ready_same ready (λ u lt. h u (omega (arith, lt))) in
      omega (arith, first, rest)

  pub operations_same : (os : List Operation) → ((u : Item) → 0 < occurs u.number (items_of os) → Same u) → operations_weight ranks new os ≡ operations_weight ranks old os
  operations_same [] h = refl
  operations_same (x ∷ os) h =
      let first = h x.item (let one = one_same x.item.number in let o : one_at x.item.number x.item ≡ 1 = one in omega (arith, o)) in
      let rest = operations_same os (λ u lt. h u (omega (arith, lt))) in
      let a : operation_weight ranks new x ≡ operation_weight ranks old x = ap (λ w. entries_left x + (1 + w)) first in
      ap (λ w. w + operations_weight ranks new os) a ∙ ap (λ w. operation_weight ranks old x + w) rest

  owner_same : (o : Option Block) → ((x : Block) → o ≡ Some x → x.waits ≡ true → Same x.owner) → owner_weight ranks new o ≡ owner_weight ranks old o
  owner_same None h = refl
  owner_same (Some x) h = go x.waits refl
    where
      go : (b : Bool) → x.waits ≡ b → (if b then parked_weight ranks new x.owner else 0) ≡ (if b then parked_weight ranks old x.owner else 0)
      go true e = ap (λ w. 1 + w) (h x refl e)
      go false e = refl

  pub waiting_same : (blocks : List (Option Block)) → ((n : ℕ) (x : Block) → slice_index_or blocks n None ≡ Some x → x.waits ≡ true → Same x.owner)
      → waiting_weight ranks new blocks ≡ waiting_weight ranks old blocks
  waiting_same [] h = refl
  waiting_same (o ∷ blocks) h =
      let first = owner_same o (λ x e w. h zero x e w) in
      let rest = waiting_same blocks (λ n x e w. h (suc n) x e w) in
      omega (arith, first, rest)

pub ready_append : (ranks : List ℕ) (threads : List Thread) (xs ys : List Item) → ready_weight ranks threads (xs ++ ys) ≡ ready_weight ranks threads xs + ready_weight ranks threads ys
ready_append ranks threads [] ys = omega arith
ready_append ranks threads (x ∷ xs) ys = let h = ready_append ranks threads xs ys in omega (arith, h)
