-- The moves of a turn of a core, before none of which but the first an entry could come in. For `turn` and `start_next`.
-- While a thread runs, an entry comes in only at a cancel that asks for it; with none to come, such a core is stalled. So where an instruction was done, none was asked for.
use Rattle.std.proofs.Common.{◌≡◌, ℕ, zero, suc, [], Option, Some, None, IsSome, Bool, true, false, refl, sym, ap, ◌∙◌, subst}
use Rattle.std.specs.Prelude.{List, find, is_none, is_some, nat_eq, not, slice_get, if◌then◌else◌}
use Rattle.ac_base.specs.declared.ends.CoreEnd.{CoreEnd}
use Rattle.ac_base.specs.declared.ends.EndWord.{EndWord}
use Rattle.ac_base.specs.declared.ends.EndWord.TheVariants as word
use Rattle.ac_base.specs.declared.entry.Entry.{Entry}
use Rattle.work_item.specs.declared.ids.Item.{Item}
use Rattle.work_item.specs.declared.ids.BlockId.{BlockId}
use Rattle.work_item.specs.Store.{cell_at}
use Rattle.cancel_scope.specs.declared.operation.Progress.{Progress}
use Rattle.cancel_scope.specs.declared.operation.Progress.TheVariants.{Waiting, Offered, Started}
use Rattle.cancel_scope.specs.declared.operation.Operation.{Operation}
use Rattle.core_state.specs.Moves.{Move, On, Over}
use Rattle.core_state.specs.Cancelling.{Fate, by_outcome, decided, is_to_try, tried, tries}
use Rattle.core_state.specs.Frames.{block_in}
use Rattle.core_state.specs.Shared.{Shared, core_end, seen_left}
use Rattle.stack_code.specs.declared.instr.Instr.{Instr}
use Rattle.stack_code.specs.declared.instr.Instr.TheVariants as i
use Rattle.stack_code.specs.Parts.{Parts}
use Rattle.code_meaning.specs.Machine as flat
use Rattle.code_meaning.specs.Machine.{Flat, FlatEnd, arrived, begin, calls_off, counted, exec, exec_of, is_inside, marked, told}
use Rattle.replay_laws.specs.Given.{asks, asks_at, asks_by, asks_of, is_asking, is_on_offer, Passes, passes_by, passes_first}
use Rattle.core_machine.specs.declared.ending.Ending.{Ending}
use Rattle.core_machine.specs.declared.ending.Ending.TheVariants.{Finished, Trapped, OutOfSteps}
use Rattle.core_machine.specs.declared.running.Running.{Running}
use Rattle.core_machine.specs.Points.{IsOfTurn}
use Rattle.core_machine.specs.State.{flat_of, end_or, machine_of, state_of}
use Rattle.core_machine.specs.Tried.{cancelled_at, cancelled_by, tried_as, tried_in, tried_of, tried_within}
use Rattle.core_machine.specs.inner.Changes.{IsSameCode, Stays}
use Rattle.core_machine.proofs.Sound.{running, stays_state}

-- ---- whether a core asks for an outcome

progress_asks : (link : ℕ) (p : Progress) → is_on_offer p ≡ is_some (tried_as link p)
progress_asks link Waiting = refl
progress_asks link (Offered number) = refl
progress_asks link (Started number) = refl

found_asks : (o : Option Operation) → asks_of o ≡ is_some (tried_in o)
found_asks None = refl
found_asks (Some o) = progress_asks o.link o.progress

instr_asks : (m : Flat) (o : Option Instr) → asks_by m o ≡ is_some (tried_within m (cancelled_by m o))
instr_asks m (Some (i.Cancel level slot)) = found_asks (find (is_to_try (is_inside m (block_in (cell_at m.store m.current.frame level slot)))) m.operations)
instr_asks m o = refl

-- it does where it stands at a cancel that tries an offer
pub asking_is : (code : Parts) (m : Flat) → is_asking code m ≡ is_some (tried_of code (On m))
asking_is code m = by m.running
  where
    by : (o : Option Item) → asks code m o ≡ is_some (tried_within m (cancelled_at code m o))
    by None = refl
    by (Some t) = instr_asks m (slice_get code.instrs m.current.place)

-- ---- with no entry to come, one that asks is stalled

abbrev pub stalled_asking : Flat → FlatEnd
stalled_asking m = told (counted m.count) (Some (core_end word.Stalled false m.store.globals m.operations m.shared))

module _ (code : Parts) (bound : ℕ) (m : Flat) (last : m.shared.todo ≡ []) where
  abbrev stalls : Move Flat FlatEnd → Type 0
  stalls a = a ≡ Over (stalled_asking m)

  tried_stalls : (o : Operation) (p : Progress) (go : Shared → Fate → Move Flat FlatEnd) → is_on_offer p ≡ true
      → stalls (tried (told (counted m.count)) m.shared m.store.globals m.operations o.link p go)
  tried_stalls o (Offered number) go h =
      ap (λ (todo : List Entry). decided (told (counted m.count)) m.shared m.store.globals m.operations o.link number go todo) last
      ∙ ap (λ (todo : List Entry). Over (told (counted m.count) (seen_left word.Stalled false m.store.globals m.operations m.shared todo))) last
  tried_stalls o Waiting go h = let no : false ≡ true = h in absurd (cc)
  tried_stalls o (Started number) go h = let no : false ≡ true = h in absurd (cc)

  module _ (block : BlockId) where
    abbrev test : Operation → Bool
    test = is_to_try (is_inside m block)

    calls_off_stalls : asks_at m block ≡ true → stalls (calls_off m block)
    calls_off_stalls h = by (find test m.operations) h
      where
        by : (r : Option Operation) → asks_of r ≡ true
            → stalls (tries (told (counted m.count)) m.shared m.store m.operations test (λ shared x. On (arrived (marked m block) shared x)) (flat.goes (marked m block) m.current.operands) r)
        by None h = let no : false ≡ true = h in absurd (cc)
        by (Some o) h = tried_stalls o o.progress (λ shared it. On (arrived (marked m block) shared (by_outcome it m.store test m.operations o))) h

  begin_stalls : (t : Item) (o : Option Instr) → asks_by m o ≡ true → stalls (begin code bound m t o)
  begin_stalls t (Some (i.Cancel level slot)) h = calls_off_stalls (block_in (cell_at m.store m.current.frame level slot)) h
  begin_stalls t o h = let no : false ≡ true = h in absurd (cc)

  pub asking_stalls : is_asking code m ≡ true → exec code bound m ≡ Over (stalled_asking m)
  asking_stalls h = by m.running h
    where
      by : (o : Option Item) → asks code m o ≡ true → stalls (exec_of code bound m o)
      by None h = let no : false ≡ true = h in absurd (cc)
      by (Some t) h = begin_stalls t (slice_get code.instrs m.current.place) h

-- ---- so one whose instruction was done did not ask

abbrev word_in : Option CoreEnd → EndWord
word_in None = word.Finished
word_in (Some end) = end.word

abbrev word_at : Move Flat FlatEnd → EndWord
word_at (On m) = word.Finished
word_at (Over x) = word_in x.core

not_stalled : (after : Running) → word_at (state_of after) ≡ word.Stalled → ⊥
not_stalled after h = by after.ended h
  where
    by : (o : Option Ending) → word_at (end_or (flat_of after) o) ≡ word.Stalled → ⊥
    by None h = let no : word.Finished ≡ word.Stalled = h in cc
    by (Some Finished) h = let no : word.Finished ≡ word.Stalled = h in cc
    by (Some (Trapped trap)) h = let no : word.Trapped trap ≡ word.Stalled = h in cc
    by (Some OutOfSteps) h = let no : word.OutOfSteps ≡ word.Stalled = h in cc

done_asks_not : (code : Parts) (bound : ℕ) (m : Flat) (after : Running) → m.shared.todo ≡ [] → state_of after ≡ exec code bound m → is_asking code m ≡ false
done_asks_not code bound m after last done = by (is_asking code m) refl
  where
    by : (b : Bool) → is_asking code m ≡ b → is_asking code m ≡ false
    by false e = e
    by true e = absurd (not_stalled after (ap word_at (done ∙ asking_stalls code bound m last e)))

passes_running : (code : Parts) (turn : ℕ) (m : Flat) → IsSome m.running → is_asking code m ≡ false → passes_by code turn m ≡ true
passes_running code turn m runs off = by m.running runs off
  where
    by : (o : Option Item) → IsSome o → asks code m o ≡ false → (if is_none o then not (nat_eq turn m.shared.turn) else not (asks code m o)) ≡ true
    by None h off = let no : false ≡ true = h in absurd (cc)
    by (Some t) h off = ap not off

-- ---- moves, one after the other

module _ (code : Parts) (bound turn : ℕ) where
  -- one move more
  pub passes_more : (k : ℕ) (from : Move Flat FlatEnd) (m : Flat) → Passes code bound turn k from (On m) → passes_by code turn m ≡ true
      → (j : ℕ) × Passes code bound turn j from (exec code bound m)
  passes_more zero from m here past = (suc zero, subst (λ (a : Move Flat FlatEnd). Passes code bound turn (suc zero) a (exec code bound m)) here (past, refl))
  passes_more (suc k) (On n) m h past = let rest = passes_more k (exec code bound n) m h.1 past in (suc rest.0, (h.0, rest.1))
  passes_more (suc k) (Over x) m h past = let no : On m ≡ Over x = h in absurd (cc)

  -- some moves more
  pub passes_on : (k j : ℕ) (a b c : Move Flat FlatEnd) → Passes code bound turn k a b → Passes code bound turn j b c → (i : ℕ) × Passes code bound turn i a c
  passes_on zero j a b c h g = (j, subst (λ (x : Move Flat FlatEnd). Passes code bound turn j x c) h g)
  passes_on (suc k) j (On m) b c h g = let rest = passes_on k j (exec code bound m) b c h.1 g in (suc rest.0, (h.0, rest.1))
  passes_on (suc k) j (Over x) b c h g = (j, subst (λ (y : Move Flat FlatEnd). Passes code bound turn j y c) h g)

-- ---- a running core

abbrev pub PassesTo : Running → ℕ → Move Flat FlatEnd → Move Flat FlatEnd → Type 0
PassesTo m turn from to = (k : ℕ) × Passes m.code.now m.bound turn k from to

-- its instruction was done
pub one_passes : (a b c : Running) → IsSameCode a b → b.ended ≡ None → IsSome b.schedule.running → state_of c ≡ exec b.code.now b.bound (flat_of b) → (turn : ℕ)
    → PassesTo a turn (state_of a) (state_of b) → PassesTo a turn (state_of a) (state_of c)
one_passes a b c k still runs done turn before =
    let same : state_of c ≡ exec a.code.now a.bound (flat_of b) = done ∙ ap (λ (code : Parts). exec code b.bound (flat_of b)) k.code ∙ ap (λ (n : ℕ). exec a.code.now n (flat_of b)) k.bound in
    let there = subst (λ (x : Move Flat FlatEnd). Passes a.code.now a.bound turn before.0 (state_of a) x) (running (flat_of b) b.ended still) before.1 in
    let past = passes_running a.code.now turn (flat_of b) runs (done_asks_not a.code.now a.bound (flat_of b) c refl same) in
    let more = passes_more a.code.now a.bound turn before.0 (state_of a) (flat_of b) there past in
    (more.0, subst (λ (x : Move Flat FlatEnd). Passes a.code.now a.bound turn more.0 (state_of a) x) (sym same) more.1)

-- where no entry of that turn can come in before the first of them
abbrev pub PassesFrom : Running → ℕ → Move Flat FlatEnd → Move Flat FlatEnd → Type 0
PassesFrom m turn from to = passes_first m.code.now turn from ≡ true → PassesTo m turn from to

-- the next thread runs
pub dispatch_passes : (a c : Running) → a.ended ≡ None → state_of c ≡ exec a.code.now a.bound (flat_of a) → (turn : ℕ) → PassesFrom a turn (state_of a) (state_of c)
dispatch_passes a c still done turn first =
    let on = running (flat_of a) a.ended still in
    let past : passes_by a.code.now turn (flat_of a) ≡ true = subst (λ (x : Move Flat FlatEnd). passes_first a.code.now turn x ≡ true) on first in
    (suc zero, subst (λ (x : Move Flat FlatEnd). Passes a.code.now a.bound turn (suc zero) x (state_of c)) (sym on) (past, done))

-- nothing has changed before that the code's meaning sees
module _ (a b : Running) (stays : Stays a b) (same : IsSameCode a b) where
  pub stays_passes : (turn : ℕ) → PassesFrom a turn (state_of a) (state_of b)
  stays_passes turn first = (zero, stays_state a b stays)

  pub then_passes : (c : Running) → ((turn : ℕ) → PassesFrom b turn (state_of b) (state_of c)) → (turn : ℕ) → PassesFrom a turn (state_of a) (state_of c)
  then_passes c h turn first =
      let here = stays_state a b stays in
      let there : passes_first b.code.now turn (state_of b) ≡ true =
      ap (λ (code : Parts). passes_first code turn (state_of b)) same.code ∙ ap (λ (x : Move Flat FlatEnd). passes_first a.code.now turn x) here ∙ first in
      let more = h turn there in (
        more.0,
        subst (λ (code : Parts). Passes code a.bound turn more.0 (state_of a) (state_of c)) same.code
            (subst (λ (n : ℕ). Passes b.code.now n turn more.0 (state_of a) (state_of c)) same.bound
            (subst (λ (x : Move Flat FlatEnd). Passes b.code.now b.bound turn more.0 x (state_of c)) here more.1)),
      )

-- ---- the turn that callers see

pub of_turn : (m : Running) → IsOfTurn (machine_of m) m.turn
of_turn m = by m.ended
  where
    by : (o : Option Ending) → IsOfTurn (record (machine_of m) { state = end_or (flat_of m) o }) m.turn
    by None = (refl, (refl, refl))
    by (Some ending) = tt
