-- Where a journal has a run, so has each front of it: one entry is taken off the end.
-- While other entries are to come, the core with one entry more goes the same way (`Together`). Once none is to come, each end of the shorter journal is seen.
-- By induction on the moves of the shorter one, which ends since valid code comes to an end. If its end were not seen, the longer one would end unseen too, and has no run.
use Rattle.std.proofs.Common.{◌≡◌, ℕ, zero, suc, List, [], ◌∷◌, ◌++◌, Option, Some, None}
use Rattle.std.proofs.Common.{Result, Ok, Err, Bool, true, false, refl, sym, ap, ◌∙◌, subst}
use Rattle.std.specs.Prelude.{find, not, nat_eq, nat_lt, slice_get, slice_set, replicate, ◌^◌, ◌-◌, if◌then◌else◌}
use Rattle.std.proofs.lemmas.Bool.{and_parts}
use Rattle.ac_base.specs.declared.ends.Trap.{Trap}
use Rattle.ac_base.specs.declared.ends.EndWord.{EndWord}
use Rattle.ac_base.specs.declared.ends.EndWord.TheVariants as word
use Rattle.ac_base.specs.declared.ends.CoreEnd.{CoreEnd}
use Rattle.ac_base.specs.declared.entry.Entry.{Entry}
use Rattle.work_item.specs.declared.ids.Item.{Item}
use Rattle.work_item.specs.declared.ids.BlockId.{BlockId}
use Rattle.work_item.specs.declared.cell.Cell.TheVariants as cell
use Rattle.work_item.specs.Store.{Store, cell_at, no_int}
use Rattle.cancel_scope.specs.declared.operation.Progress.{Progress}
use Rattle.cancel_scope.specs.declared.operation.Progress.TheVariants as progress
use Rattle.cancel_scope.specs.declared.operation.Operation.{Operation}
use Rattle.cancel_scope.specs.Outstanding.{has_begun}
use Rattle.core_state.specs.Moves.{Move, On, Over, moves, and_then, GoesOn, ComesTo}
use Rattle.core_state.specs.Frames.{block_in, begun, first_store}
use Rattle.core_state.specs.Arrivals as arrivals
use Rattle.core_state.specs.Arrivals.{Arrival, at_point, comes_in}
use Rattle.core_state.specs.Cancelling.{Fate, NeverHappens, by_outcome, tried, tries, is_to_try, goes_by, decided, outcome}
use Rattle.core_state.specs.Shared.{Shared, with_turn, with_entry, seen, seen_left, begins_with}
use Rattle.core_state.proofs.Runs.{GoesOn-none, GoesOn-more}
use Rattle.stack_code.specs.declared.instr.Instr.{Instr}
use Rattle.stack_code.specs.declared.instr.Instr.TheVariants as i
use Rattle.stack_code.specs.Parts.{Parts}
use Rattle.stack_code.specs.Valid.{IsValid}
use Rattle.stack_code.specs.Kept.{IsRanked}
use Rattle.code_meaning.specs.Machine as flat
use Rattle.code_meaning.specs.Machine.{Flat, FlatEnd, nobody, arrived, resumed, begin, exec, exec_of, dispatched, told, first_flat, first_core, first_globals, shared_at_first, thread_at}
use Rattle.code_safety.proofs.Beginnings.{comes_to}
use Rattle.code_safety.proofs.Alike.{Alike, begin_alike, more_shared, more_to_come}
use Rattle.code_safety.proofs.Waiting.{found_at}
use Rattle.replay_laws.specs.Given.{HasRun}
use Rattle.replay_laws.proofs.Refusals.{no_run}
use Rattle.replay_laws.proofs.Turns.{Keeps, stays, takes, exec_keeps}

-- something is seen of an end
pub record IsSeen (o : Option CoreEnd) : Type 0 where
  pub end : CoreEnd
  pub is : o ≡ Some end

abbrev on : Flat → Move Flat FlatEnd
on m = On m

-- ---- while other entries are still to come, a core goes the same way with one entry more

abbrev Together : Entry → Move Flat FlatEnd → Move Flat FlatEnd → Type 0
Together e (On n) r = r ≡ On (more_to_come e n)
Together e (Over x) r = (y : FlatEnd) × (r ≡ Over y) × (y.core ≡ None)

together_alike : (e : Entry) (m : Flat) (a r : Move Flat FlatEnd) → Alike e m a r → Together e a r
together_alike e m (On n) r h = h.0
together_alike e m (Over x) r h = h.1

module _ (code : Parts) (bound : ℕ) (e : Entry) (m : Flat) (first : Entry) (rest : List Entry) (is : m.shared.todo ≡ first ∷ rest) where
  abbrev more : Flat
  more = more_to_come e m

  hidden : (why : EndWord) (idle : Bool) → seen why idle m.store.globals m.operations more.shared ≡ None
  hidden why idle = ap (λ (todo : List Entry). seen_left why idle m.store.globals m.operations more.shared (todo ++ e ∷ [])) is

  dispatched_together : (ready : List Item) → Together e (dispatched m ready) (dispatched more ready)
  dispatched_together [] = (told m.count (seen word.Stalled true m.store.globals m.operations more.shared), refl, hidden word.Stalled true)
  dispatched_together (t ∷ ready) =
      by (nat_lt m.shared.turn (2 ^ 64 - 1)) (told m.count (seen word.OutOfSteps false m.store.globals m.operations m.shared))
    where
      by : (b : Bool) (x : FlatEnd) → Together e
          (if b then On (record m { shared = with_turn m.shared; running = Some t; current = thread_at m.threads t; ready = ready; threads = slice_set m.threads t.number nobody }) else Over x)
          (if b then On (record m {
            shared = with_turn (more_shared e m.shared);
            running = Some t;
            current = thread_at m.threads t;
            ready = ready;
            threads = slice_set m.threads t.number nobody;
          }) else Over (told m.count (seen word.OutOfSteps false m.store.globals m.operations more.shared)))
      by true x = refl
      by false x = (told m.count (seen word.OutOfSteps false m.store.globals m.operations more.shared), refl, hidden word.OutOfSteps false)

  -- the next entry comes in
  came_together : (n : Flat) (x : Arrival)
      → Together e (On (arrived n (with_entry m.shared first rest) x)) (On (arrived (more_to_come e n) (with_entry more.shared first (rest ++ e ∷ [])) x))
  came_together n x = by x.woken
    where
      by : (o : Option Item) → on (resumed (record (more_to_come e n) { shared = with_entry more.shared first (rest ++ e ∷ []); store = x.store; operations = x.operations }) (cell.Int x.value) o)
          ≡ on (more_to_come e (resumed (record n { shared = with_entry m.shared first rest; store = x.store; operations = x.operations }) (cell.Int x.value) o))
      by None = refl
      by (Some t) = refl

  abbrev at_rest : Flat → List Entry → Move Flat FlatEnd
  at_rest n todo = at_point (told m.count) n.shared m.store m.operations (λ shared x. On (arrived n shared x)) (dispatched n m.ready) todo

  rests_together : Together e (at_rest m m.shared.todo) (at_rest more more.shared.todo)
  rests_together =
      let plain : at_rest m m.shared.todo ≡ at_rest m (first ∷ rest) = ap (at_rest m) is in
      let other : at_rest more more.shared.todo ≡ at_rest more (first ∷ (rest ++ e ∷ [])) = ap (λ (todo : List Entry). at_rest more (todo ++ e ∷ [])) is in
      rw (plain, other) (by (nat_eq first.turn m.shared.turn))
    where
      enters : (o : Option Arrival) → Together e
          (comes_in (told m.count) (λ x. On (arrived m (with_entry m.shared first rest) x)) o)
          (comes_in (told m.count) (λ x. On (arrived more (with_entry more.shared first (rest ++ e ∷ [])) x)) o)
      enters None = (told m.count None, refl, refl)
      enters (Some x) = came_together m x

      by : (b : Bool) → Together e
          (if b then comes_in (told m.count) (λ x. On (arrived m (with_entry m.shared first rest) x)) (arrivals.arrives m.shared.past m.store m.operations first.event) else dispatched m m.ready)
          (if b then comes_in (told m.count) (λ x. On (arrived more (with_entry more.shared first (rest ++ e ∷ [])) x)) (arrivals.arrives m.shared.past m.store m.operations first.event)
          else dispatched more m.ready)
      by true = enters (arrivals.arrives m.shared.past m.store m.operations first.event)
      by false = dispatched_together m.ready

  module _ (block : BlockId) where
    abbrev inside : Operation → Bool
    inside = is_to_try (flat.is_inside m block)

    abbrev made : Fate → Operation → Arrival
    made it o = by_outcome it m.store inside m.operations o

    never_together : (x : Arrival) → Together e (On (arrived (flat.marked m block) m.shared x)) (On (arrived (flat.marked more block) more.shared x))
    never_together x = by x.woken
      where
        by : (o : Option Item) → on (resumed (record (flat.marked more block) { shared = more.shared; store = x.store; operations = x.operations }) (cell.Int x.value) o)
            ≡ on (more_to_come e (resumed (record (flat.marked m block) { shared = m.shared; store = x.store; operations = x.operations }) (cell.Int x.value) o))
        by None = refl
        by (Some t) = refl

    abbrev decides : Flat → Shared → Operation → ℕ → List Entry → Move Flat FlatEnd
    decides n s o number todo =
        decided (told (flat.counted m.count)) s m.store.globals m.operations o.link number (λ s it. On (arrived (flat.marked n block) s (made it o))) todo

    decided_together : (o : Operation) (number : ℕ) → Together e (decides m m.shared o number m.shared.todo) (decides more more.shared o number more.shared.todo)
    decided_together o number =
        let plain : decides m m.shared o number m.shared.todo ≡ decides m m.shared o number (first ∷ rest) = ap (decides m m.shared o number) is in
        let other : decides more more.shared o number more.shared.todo ≡ decides more more.shared o number (first ∷ (rest ++ e ∷ [])) =
        ap (λ (todo : List Entry). decides more more.shared o number (todo ++ e ∷ [])) is in
        rw (plain, other) (by (nat_eq first.turn m.shared.turn))
      where
        outcomes : (r : Option Fate) → Together e
            (goes_by (told (flat.counted m.count)) (λ it. On (arrived (flat.marked m block) (with_entry m.shared first rest) (made it o))) r)
            (goes_by (told (flat.counted m.count)) (λ it. On (arrived (flat.marked more block) (with_entry more.shared first (rest ++ e ∷ [])) (made it o))) r)
        outcomes None = (told (flat.counted m.count) None, refl, refl)
        outcomes (Some it) = came_together (flat.marked m block) (made it o)

        by : (b : Bool) → Together e
            (if b then goes_by (told (flat.counted m.count)) (λ it. On (arrived (flat.marked m block) (with_entry m.shared first rest) (made it o))) (outcome o.link number first.event)
            else Over (told (flat.counted m.count) None))
            (if b then goes_by (told (flat.counted m.count)) (λ it. On (arrived (flat.marked more block) (with_entry more.shared first (rest ++ e ∷ [])) (made it o)))
            (outcome o.link number first.event)
            else Over (told (flat.counted m.count) None))
        by true = outcomes (outcome o.link number first.event)
        by false = (told (flat.counted m.count) None, refl, refl)

    tried_together : (o : Operation) (p : Progress) → Together e
        (tried (told (flat.counted m.count)) m.shared m.store.globals m.operations o.link p (λ s it. On (arrived (flat.marked m block) s (made it o))))
        (tried (told (flat.counted m.count)) more.shared m.store.globals m.operations o.link p (λ s it. On (arrived (flat.marked more block) s (made it o))))
    tried_together o progress.Waiting = never_together (made NeverHappens o)
    tried_together o (progress.Offered number) = decided_together o number
    tried_together o (progress.Started number) = (told (flat.counted m.count) None, refl, refl)

    calls_off_together : Together e (flat.calls_off m block) (flat.calls_off more block)
    calls_off_together = by (find inside m.operations)
      where
        by : (r : Option Operation) → Together e
            (tries (told (flat.counted m.count)) m.shared m.store m.operations inside (λ s x. On (arrived (flat.marked m block) s x)) (flat.goes (flat.marked m block) m.current.operands) r)
            (tries (told (flat.counted m.count)) more.shared m.store m.operations inside (λ s x. On (arrived (flat.marked more block) s x))
            (flat.goes (flat.marked more block) m.current.operands) r)
        by None = refl
        by (Some o) = tried_together o o.progress

  begin_together : (t : Item) (o : Option Instr) → Together e (begin code bound m t o) (begin code bound more t o)
  begin_together t (Some (i.Cancel level slot)) = calls_off_together (block_in (cell_at m.store m.current.frame level slot))
  begin_together t o = together_alike e m (begin code bound m t o) (begin code bound more t o) (begin_alike e m code bound t o refl)

  exec_together : Together e (exec code bound m) (exec code bound more)
  exec_together = by m.running
    where
      by : (o : Option Item) → Together e (exec_of code bound m o) (exec_of code bound more o)
      by None = rests_together
      by (Some t) = begin_together t (slice_get code.instrs m.current.place)

-- ---- where no entry is to come, an end is seen

abbrev Shows : Move Flat FlatEnd → Type 0
Shows (On n) = Unit {0}
Shows (Over x) = IsSeen x.core

module _ (code : Parts) (bound : ℕ) (m : Flat) (none : m.shared.todo ≡ []) where
  shown : (why : EndWord) (idle : Bool) → IsSeen (seen why idle m.store.globals m.operations m.shared)
  shown why idle = record { end = _; is = ap (seen_left why idle m.store.globals m.operations m.shared) none }

  alike_shows : (e : Entry) (a r : Move Flat FlatEnd) → Alike e m a r → Shows a
  alike_shows e (On n) r h = tt
  alike_shows e (Over x) r h = let s = shown h.0.word h.0.idle in record { end = s.end; is = h.0.shows ∙ s.is }

  dispatched_shows : (ready : List Item) → Shows (dispatched m ready)
  dispatched_shows [] = shown word.Stalled true
  dispatched_shows (t ∷ ready) = by (nat_lt m.shared.turn (2 ^ 64 - 1))
    where
      by : (b : Bool) → Shows
          (if b then On (record m { shared = with_turn m.shared; running = Some t; current = thread_at m.threads t; ready = ready; threads = slice_set m.threads t.number nobody })
          else Over (told m.count (seen word.OutOfSteps false m.store.globals m.operations m.shared)))
      by true = tt
      by false = shown word.OutOfSteps false

  rests_shows : Shows (at_point (told m.count) m.shared m.store m.operations (λ shared x. On (arrived m shared x)) (dispatched m m.ready) m.shared.todo)
  rests_shows = subst (λ (todo : List Entry). Shows (at_point (told m.count) m.shared m.store m.operations (λ shared x. On (arrived m shared x)) (dispatched m m.ready) todo)) (sym none)
      (dispatched_shows m.ready)

  module _ (block : BlockId) where
    abbrev within : Operation → Bool
    within = is_to_try (flat.is_inside m block)

    abbrev ended : Operation → Shared → Fate → Move Flat FlatEnd
    ended o s it = On (arrived (flat.marked m block) s (by_outcome it m.store within m.operations o))

    not_begun : (o : Operation) → find within m.operations ≡ Some o → not (has_begun o.progress) ≡ true
    not_begun o h = (and_parts (flat.is_inside m block o) (not (has_begun o.progress)) (found_at within m.operations o h).passes).1

    tried_shows : (o : Operation) (p : Progress) → not (has_begun p) ≡ true → Shows (tried (told (flat.counted m.count)) m.shared m.store.globals m.operations o.link p (ended o))
    tried_shows o progress.Waiting h = tt
    tried_shows o (progress.Offered number) h =
        subst (λ (todo : List Entry). Shows (decided (told (flat.counted m.count)) m.shared m.store.globals m.operations o.link number (ended o) todo)) (sym none) (shown word.Stalled false)
    tried_shows o (progress.Started number) h = absurd (false_true h)
      where
        false_true : false ≡ true → ⊥
        false_true g = cc

    calls_off_shows : Shows (flat.calls_off m block)
    calls_off_shows = by (find within m.operations) refl
      where
        by : (r : Option Operation) → find within m.operations ≡ r
            → Shows (tries (told (flat.counted m.count)) m.shared m.store m.operations within (λ s x. On (arrived (flat.marked m block) s x)) (flat.goes (flat.marked m block) m.current.operands) r)
        by None h = tt
        by (Some o) h = tried_shows o o.progress (not_begun o h)

  begin_shows : (e : Entry) (t : Item) (o : Option Instr) → Shows (begin code bound m t o)
  begin_shows e t (Some (i.Cancel level slot)) = calls_off_shows (block_in (cell_at m.store m.current.frame level slot))
  begin_shows e t o = alike_shows e (begin code bound m t o) (begin code bound (more_to_come e m) t o) (begin_alike e m code bound t o refl)

  exec_shows : Entry → Shows (exec code bound m)
  exec_shows e = by m.running
    where
      by : (o : Option Item) → Shows (exec_of code bound m o)
      by None = rests_shows
      by (Some t) = begin_shows e t (slice_get code.instrs m.current.place)

-- ---- so many moves

module _ (code : Parts) (bound : ℕ) (e : Entry) where
  on_over : (n : Flat) (x : FlatEnd) → On n ≡ Over x → ⊥
  on_over n x h = cc

  abbrev end_of : FlatEnd → Move Flat FlatEnd
  end_of x = Over x

  over_same : (x y : FlatEnd) → end_of x ≡ end_of y → x ≡ y
  over_same x y h = cc

  none_later : (m n : Flat) → m.shared.todo ≡ [] → Keeps m (On n) → n.shared.todo ≡ []
  none_later m n none (stays past todo turn) = todo ∙ none
  none_later m n none (takes f fs is now past todo turn) = absurd (some_nothing f fs (sym none ∙ is))
    where
      abbrev' : List Entry
      abbrev' = []

      some_nothing : (f : Entry) (fs : List Entry) → abbrev' ≡ f ∷ fs → ⊥
      some_nothing f fs h = cc

  -- behind its last entry a core comes to an end that is seen
  ends_seen : (k : ℕ) (m : Flat) (x : FlatEnd) → m.shared.todo ≡ [] → moves (exec code bound) k m ≡ Over x → IsSeen x.core
  ends_seen zero m x none h = absurd (on_over m x h)
  ends_seen (suc k) m x none h = by (exec code bound m) (exec_keeps code bound m e) (exec_shows code bound m none e) h (λ n q g. ends_seen k n x q g)
    where
      by : (a : Move Flat FlatEnd) → Keeps m a → Shows a → and_then a (moves (exec code bound) k) ≡ Over x
          → ((n : Flat) → n.shared.todo ≡ [] → moves (exec code bound) k n ≡ Over x → IsSeen x.core) → IsSeen x.core
      by (On n) keeps s g again = again n (none_later m n none keeps) g
      by (Over z) keeps s g again = record { end = s.end; is = ap (λ (y : FlatEnd). y.core) (sym (over_same z x g)) ∙ s.is }

  -- a core whose run goes on with one entry more comes to an end that is seen without it
  front_ends : (longer : Move Flat FlatEnd) → ((y : FlatEnd) → ComesTo (exec code bound) longer y → y.core ≡ None → ⊥) → (k : ℕ) (m : Flat) (x : FlatEnd)
      → GoesOn (exec code bound) longer (On (more_to_come e m)) → moves (exec code bound) k m ≡ Over x → IsSeen x.core
  front_ends longer runs zero m x go h = absurd (on_over m x h)
  front_ends longer runs (suc k) m x go h = split m.shared.todo refl (λ n q g. front_ends longer runs k n x q g)
    where
      step : GoesOn (exec code bound) longer (exec code bound (more_to_come e m))
      step = GoesOn-more (exec code bound) longer (more_to_come e m) go

      by : (a : Move Flat FlatEnd) → Together e a (exec code bound (more_to_come e m)) → and_then a (moves (exec code bound) k) ≡ Over x
          → ((n : Flat) → GoesOn (exec code bound) longer (On (more_to_come e n)) → moves (exec code bound) k n ≡ Over x → IsSeen x.core) → IsSeen x.core
      by (On n) both g again = again n (subst (GoesOn (exec code bound) longer) both step) g
      by (Over z) both g again = absurd (runs both.0 (subst (GoesOn (exec code bound) longer) both.1 step) both.2)

      split : (todo : List Entry) → m.shared.todo ≡ todo
          → ((n : Flat) → GoesOn (exec code bound) longer (On (more_to_come e n)) → moves (exec code bound) k n ≡ Over x → IsSeen x.core) → IsSeen x.core
      split [] none again = ends_seen (suc k) m x none h
      split (first ∷ rest) is again = by (exec code bound m) (exec_together code bound e m first rest is) h again

-- where a journal has a run, so has that without its last entry
-- The shorter journal comes to some end (`comes_to`). The longer one has a run, so no end of it is unseen (`refuses`); so by `front_ends` the end of the shorter one is seen.
-- Where the first call cannot begin, both end at once and unseen, which `refuses` excludes.
pub front_has_run : (code : Parts) (core bound : ℕ) (ranks : List ℕ) → IsValid code → IsRanked code ranks → (journal : List Entry) (e : Entry)
    → HasRun code core bound (journal ++ e ∷ []) → HasRun code core bound journal
front_has_run code core bound ranks valid ranked journal e r =
    let c = comes_to code bound valid ranks ranked core r.runs.function r.runs.begins journal in
    made c.0 c.1 (seen_at (begun (first_store (first_globals code)) None (replicate r.runs.function.words no_int)) refl c.0 c.1)
  where
    begin : Result Store Trap
    begin = begun (first_store (first_globals code)) None (replicate r.runs.function.words no_int)

    first : List Entry → Result Store Trap → Move Flat FlatEnd
    first es b = begins_with (told 0) (first_globals code) (shared_at_first code core es) b (λ store. On (first_core r.runs.function (shared_at_first code core es) store))

    refuses : (y : FlatEnd) → ComesTo (exec code bound) (first_flat code core r.runs.function (journal ++ e ∷ [])) y → y.core ≡ None → ⊥
    refuses y comes none = no_run code core bound (journal ++ e ∷ []) r.runs.function y r.runs.begins comes none r

    unseen : (es : List Entry) (trap : Trap) → seen_left (word.Trapped trap) false (first_globals code) [] (shared_at_first code core (es ++ e ∷ [])) (es ++ e ∷ []) ≡ None
    unseen [] trap = refl
    unseen (f ∷ fs) trap = refl

    seen_at : (b : Result Store Trap) → begin ≡ b → (x : FlatEnd) → ComesTo (exec code bound) (first_flat code core r.runs.function journal) x → IsSeen x.core
    seen_at (Ok store) is x comes =
        let longer : first_flat code core r.runs.function (journal ++ e ∷ []) ≡ On (more_to_come e (first_core r.runs.function (shared_at_first code core journal) store)) =
        ap (first (journal ++ e ∷ [])) is in
        let shorter : first_flat code core r.runs.function journal ≡ On (first_core r.runs.function (shared_at_first code core journal) store) = ap (first journal) is in
        let run : GoesOn (exec code bound) (first_flat code core r.runs.function (journal ++ e ∷ [])) (On (more_to_come e (first_core r.runs.function (shared_at_first code core journal) store))) =
        subst (GoesOn (exec code bound) (first_flat code core r.runs.function (journal ++ e ∷ []))) longer (GoesOn-none (exec code bound) (first_flat code core r.runs.function (journal ++ e ∷ []))) in
        front_ends code bound e (first_flat code core r.runs.function (journal ++ e ∷ [])) refuses comes.0 (first_core r.runs.function (shared_at_first code core journal) store) x run
        (sym (comes.1 ∙ ap (λ (a : Move Flat FlatEnd). and_then a (moves (exec code bound) comes.0)) shorter))
    seen_at (Err trap) is x comes =
        absurd (refuses (told 0 (seen (word.Trapped trap) false (first_globals code) [] (shared_at_first code core (journal ++ e ∷ []))))
        (subst (GoesOn (exec code bound) (first_flat code core r.runs.function (journal ++ e ∷ []))) (ap (first (journal ++ e ∷ [])) is)
        (GoesOn-none (exec code bound) (first_flat code core r.runs.function (journal ++ e ∷ [])))) (unseen journal trap))

    made : (x : FlatEnd) → ComesTo (exec code bound) (first_flat code core r.runs.function journal) x → IsSeen x.core → HasRun code core bound journal
    made x comes s = record {
      end = s.end;
      count = x.count;
      runs = record {
        function = r.runs.function;
        begins = r.runs.begins;
        comes = subst (ComesTo (exec code bound) (first_flat code core r.runs.function journal)) (λ j. record { core = s.is j; count = x.count }) comes;
      };
    }
