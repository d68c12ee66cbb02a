-- Each thread that lives has its place in the table, so the one that runs, the one that is next and those that operate do. For the calls of `Running` that keep, take, end or resume a thread.
-- Read off `HavePlaces`, by the way in which the thread lives.
use Rattle.std.proofs.Common.{◌≡◌, ℕ, zero, suc, ◌+◌, ◌<◌, List, [], ◌∷◌, ◌++◌, Some, None, Bool, true, false, sym, ap, ◌∙◌, subst, length, arith}
use Rattle.std.specs.Prelude.{find, slice_get, slice_index_or}
use Rattle.work_item.specs.declared.ids.Item.{Item}
use Rattle.cancel_scope.specs.declared.operation.Operation.{Operation}
use Rattle.code_meaning.specs.Machine.{thread_at}
use Rattle.code_safety.specs.Fit.{items_of, one_at, occurs}
use Rattle.code_safety.specs.Living.{as_operating, as_running, as_ready}
use Rattle.code_safety.proofs.Lives.{one_same}
use Rattle.code_safety.proofs.Waiting.{found_at, occurs_between}
use Rattle.thread_table.specs.Table.{HasPlace}
use Rattle.core_machine.specs.declared.running.Running.{Running}
use Rattle.core_machine.specs.State.{HavePlaces, thread_of}

-- the numbers stay, and a further one is there
pub has_after : (lives : List Bool) (n : ℕ) (b : Bool) → slice_index_or lives n false ≡ true → slice_index_or (lives ++ b ∷ []) n false ≡ true
has_after [] n b h = let no : false ≡ true = h in cc
has_after (x ∷ lives) zero b h = h
has_after (x ∷ lives) (suc n) b h = has_after lives n b h

-- and has its place
pub has_new : (lives : List Bool) (n : ℕ) → n ≡ length lives → slice_index_or (lives ++ true ∷ []) n false ≡ true
has_new [] n e = ap (λ k. slice_index_or (true ∷ []) k false) e
has_new (x ∷ lives) zero e = absurd (omega (arith, e))
has_new (x ∷ lives) (suc n) e = has_new lives n (omega (arith, e))

occurs_at : (os : List Operation) (n : ℕ) (o : Operation) → slice_get os n ≡ Some o → 0 < occurs o.item.number (items_of os)
occurs_at [] n o e = let no : None ≡ Some o = e in absurd (cc)
occurs_at (x ∷ os) zero o e =
    let same : x ≡ o = let both : Some x ≡ Some o = e in cc in
    let one : one_at o.item.number x.item ≡ 1 = ap (λ (z : Operation). one_at o.item.number z.item) same ∙ one_same o.item.number in
    omega (arith, one)
occurs_at (x ∷ os) (suc n) o e = let h = occurs_at os n o e in omega (arith, h)

module _ (m : Running) (places : HavePlaces m) where
  pub runner_place : (t : Item) → m.schedule.running ≡ Some t → HasPlace m.threads t
  runner_place t run = places t (thread_of m) (as_running t run)

  pub next_place : (t : Item) (later : List Item) → m.schedule.ready ≡ t ∷ later → HasPlace m.threads t
  next_place t later is =
      let one : one_at t.number t ≡ 1 = one_same t.number in
      let some : 0 < occurs t.number (t ∷ later) = omega (arith, one) in
      places t (thread_at m.threads.threads t) (as_ready t (subst (λ r. 0 < occurs t.number r) (sym is) some))

  -- the thread of an operation
  pub place_at : (n : ℕ) (o : Operation) → slice_get m.outstanding.operations n ≡ Some o → HasPlace m.threads o.item
  place_at n o e = places o.item (thread_at m.threads.threads o.item) (as_operating o.item (occurs_at m.outstanding.operations n o e))

  pub place_found : (test : Operation → Bool) (o : Operation) → find test m.outstanding.operations ≡ Some o → HasPlace m.threads o.item
  place_found test o e =
      let f = found_at test m.outstanding.operations o e in
      let one : one_at o.item.number o.item ≡ 1 = one_same o.item.number in
      let all : occurs o.item.number (items_of m.outstanding.operations) ≡ one_at o.item.number o.item + occurs o.item.number (items_of (f.front ++ f.back)) =
      ap (λ os. occurs o.item.number (items_of os)) f.is ∙ occurs_between o.item.number f.front f.back o in
      places o.item (thread_at m.threads.threads o.item) (as_operating o.item (omega (arith, one, all)))
