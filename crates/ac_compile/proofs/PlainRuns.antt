-- The runs of a program whose calls and operations stand alone are its plain runs.
-- Each state of a core has only such work (`Calm`): so it is at first, and each step keeps it. From such a state both kinds of step lead to
-- the same move, so by induction on the number of moves they come to the same end.
use Rattle.std.proofs.Common.{◌≡◌, ℕ, zero, suc, ◌^◌, ◌-◌, List, [], ◌∷◌, ◌++◌, get_or, set, Option, Some, None, Bool, true, false, refl, sym, ap, ◌∙◌}
use Rattle.std.specs.Prelude.{ℤ, nat_eq, nat_lt, find, replicate, Result, Ok, Err, if◌then◌else◌}
use Rattle.std.specs.List.{AllByRecursion}
use Rattle.ac_base.specs.declared.entry.Entry.{Entry}
use Rattle.ac_base.specs.declared.ends.CoreEnd.{CoreEnd}
use Rattle.ac_base.specs.declared.ends.EndWord.TheVariants as word
use Rattle.ac_base.specs.declared.ends.Trap.{Trap}
use Rattle.work_item.specs.declared.ids.Item.{Item}
use Rattle.work_item.specs.declared.ids.BlockId.{BlockId}
use Rattle.work_item.specs.declared.cell.Cell.{Cell}
use Rattle.work_item.specs.declared.cell.Cell.TheVariants as cell
use Rattle.work_item.specs.Store.{Store, no_int, released}
use Rattle.cancel_scope.specs.declared.operation.Asked.{Asked}
use Rattle.cancel_scope.specs.declared.operation.Progress.{Progress}
use Rattle.cancel_scope.specs.declared.operation.Progress.TheVariants as progress
use Rattle.cancel_scope.specs.declared.operation.Operation.{Operation}
use Rattle.core_state.specs.Moves.{Move, On, Over, and_then, moves}
use Rattle.core_state.specs.Frames.{begun, first_store, first_frame}
use Rattle.core_state.specs.Shared.{Shared, with_entry, begins_with}
use Rattle.core_state.specs.Arrivals.{Arrival, arrives, comes_in, at_point, cancelled}
use Rattle.core_state.specs.Cancelling.{Fate, NeverHappens, by_outcome, outcome, goes_by, decided, tried, tries, is_to_try}
use Rattle.ac_commands.specs.declared.program.Function.{Function}
use Rattle.ac_commands.specs.declared.program.Resolved.{Resolved}
use Rattle.ac_semantics.specs.Held.{Held, with_store, with_mark, any_marked, turned, seen_of}
use Rattle.ac_semantics.specs.Work.{Work, Leave, ahead, given}
use Rattle.ac_semantics.specs.Statements.{Next, Goes, Ends, Starts, Yields, Arrives, Cancels, Operates, Dies, Stays}
use Rattle.ac_semantics.specs.Threads.{Phase, Active, AtFinish, Ended, Thread, nobody, CoreState, thread_at, with_phase, none_within, stops, goes_on, starts, arrives as arrives_at, woken, wakes}
use Rattle.ac_semantics.specs.Threads.{path, is_inside, operates, calls_off, applied, resumed, arrived, dispatched, step_of, step, first_core, first_globals, shared_at_first, first_state}
use Rattle.ac_semantics.specs.Replay.{Enters, Replays}
use Rattle.ac_compile.specs.Alone.{body_nested, AreAlone}
use Rattle.ac_compile.specs.PlainRuns.{plain_step_of, plain_step, ReplaysPlainly, RunsPlainly}
use Rattle.ac_compile.proofs.PlainWork.{AreCalm, LeavesCalm, before_calm, given_calm, ahead_calm, function_alone, next_same, next_calm}

-- ---- the table of threads

abbrev AllCalm : List Thread → Type 0
AllCalm = AllByRecursion (λ t. AreCalm t.work)

calm_set : (ts : List Thread) (i : ℕ) (x : Thread) → AreCalm x.work → AllCalm ts → AllCalm (set ts i x)
calm_set [] i x h a = tt
calm_set (t ∷ ts) zero x h a = (h, a.1)
calm_set (t ∷ ts) (suc i) x h a = (a.0, calm_set ts i x h a.1)

calm_push : (ts : List Thread) (x : Thread) → AreCalm x.work → AllCalm ts → AllCalm (ts ++ x ∷ [])
calm_push [] x h a = (h, tt)
calm_push (t ∷ ts) x h a = (a.0, calm_push ts x h a.1)

calm_at : (ts : List Thread) (i : ℕ) → AllCalm ts → AreCalm (get_or ts i nobody).work
calm_at [] i a = tt
calm_at (t ∷ ts) zero a = a.0
calm_at (t ∷ ts) (suc i) a = calm_at ts i a.1

-- ---- a state

record Calm (c : CoreState) : Type 0 where
  work : AreCalm c.work
  threads : AllCalm c.threads

-- a move leads to such a state, or to an end
abbrev Fine : Move CoreState (Option CoreEnd) → Type 0
Fine (On c) = Calm c
Fine (Over end) = Unit {0}

-- ---- threads stop, start and go on

stops_calm : (c : CoreState) (t : Item) (phase : Phase) (s : Held) (ws : List Work) (ready : List Item) → AllCalm c.threads → AreCalm ws → Calm (stops c t phase s ws ready)
stops_calm c t phase s ws ready threads h =
    record { work = tt; threads = calm_set c.threads t.number (record (thread_at c.threads t) { phase = phase; work = ws }) h threads }

starts_calm : (c : CoreState) (t : Item) (s : Held) (own ws : List Work) → AllCalm c.threads → AreCalm own → AreCalm ws → Calm (starts c t s own ws)
starts_calm c t s own ws threads own_calm h =
    let new : Thread = record { around = path ws (thread_at c.threads t); phase = Active; work = [] } in
    record {
      work = own_calm;
      threads = calm_push (with_phase c.threads t Active ws) new tt (calm_set c.threads t.number (record (thread_at c.threads t) { phase = Active; work = ws }) h threads);
    }

wakes_calm : (o : Option Item) (c : CoreState) → Calm c → Calm (wakes o c)
wakes_calm None c h = h
wakes_calm (Some owner) c h =
    let x : Thread = record (thread_at c.threads owner) { phase = Active; work = (thread_at c.threads owner).work } in
    record { work = h.work; threads = calm_set c.threads owner.number x (calm_at c.threads owner.number h.threads) h.threads }

arrives_calm : (b : Bool) (c : CoreState) (t : Item) (block : BlockId) (s : Held) (ws : List Work) → AllCalm c.threads → AreCalm ws → Calm (arrives_at b c t block s ws)
arrives_calm true c t block s ws threads h = record { work = h; threads = threads }
arrives_calm false c t block s ws threads h = stops_calm c t (AtFinish block) s ws c.ready threads h

operates_calm : (b : Bool) (c : CoreState) (t : Item) (link : ℕ) (asked : Asked) (s : Held) (ws : List Work) → AllCalm c.threads → AreCalm ws → Calm (operates b c t link asked s ws)
operates_calm true c t link asked s ws threads h = record { work = given_calm (cell.Int cancelled) ws h; threads = threads }
operates_calm false c t link asked s ws threads h = stops_calm c t Active _ ws c.ready threads h

resumed_calm : (c : CoreState) (value : Cell) (o : Option Item) → Calm c → Calm (resumed c value o)
resumed_calm c value None h = h
resumed_calm c value (Some t) h =
    let x : Thread = record (thread_at c.threads t) { phase = Active; work = given value (thread_at c.threads t).work } in
    record { work = h.work; threads = calm_set c.threads t.number x (given_calm value (thread_at c.threads t).work (calm_at c.threads t.number h.threads)) h.threads }

arrived_calm : (c : CoreState) (shared : Shared) (x : Arrival) → Calm c → Calm (arrived c shared x)
arrived_calm c shared x h =
    resumed_calm (record c { held = record c.held { shared = shared; store = x.store; operations = x.operations } }) (cell.Int x.value) x.woken
    (record { work = h.work; threads = h.threads })

-- ---- a cancel

module _ (s : Shared) (store : Store) (os : List Operation) (test : Operation → Bool) (go : Shared → Arrival → Move CoreState (Option CoreEnd))
    (fine : (shared : Shared) (x : Arrival) → Fine (go shared x)) where
  outcome_fine : (o : Operation) (shared : Shared) (q : Option Fate) → Fine (goes_by (λ e. e) (λ it. go shared (by_outcome it store test os o)) q)
  outcome_fine o shared None = tt
  outcome_fine o shared (Some it) = fine shared (by_outcome it store test os o)

  decided_fine : (o : Operation) (number : ℕ) (todo : List Entry) → Fine (decided (λ e. e) s store.globals os o.link number (λ shared it. go shared (by_outcome it store test os o)) todo)
  decided_fine o number [] = tt
  decided_fine o number (e ∷ todo) = at (nat_eq e.turn s.turn)
    where
      at : (b : Bool) → Fine (if b then goes_by (λ e. e) (λ it. go (with_entry s e todo) (by_outcome it store test os o)) (outcome o.link number e.event) else Over None)
      at true = outcome_fine o (with_entry s e todo) (outcome o.link number e.event)
      at false = tt

  tried_fine : (o : Operation) (progress : Progress) → Fine (tried (λ e. e) s store.globals os o.link progress (λ shared it. go shared (by_outcome it store test os o)))
  tried_fine o progress.Waiting = fine s (by_outcome NeverHappens store test os o)
  tried_fine o (progress.Offered number) = decided_fine o number s.todo
  tried_fine o (progress.Started number) = tt

  tries_fine : (others : Move CoreState (Option CoreEnd)) → Fine others → (q : Option Operation) → Fine (tries (λ e. e) s store os test go others q)
  tries_fine others h None = h
  tries_fine others h (Some o) = tried_fine o o.progress

calls_off_fine : (c : CoreState) (block : BlockId) (s : Held) (again ws : List Work) → AllCalm c.threads → AreCalm again → AreCalm ws → Fine (calls_off c block s again ws)
calls_off_fine c block s again ws threads a h =
    let test = is_to_try (is_inside c.threads block) in
    tries_fine s.shared s.store s.operations test (λ shared x. On (arrived (goes_on c (with_mark s block) again) shared x))
    (λ shared x. arrived_calm (goes_on c (with_mark s block) again) shared x (record { work = a; threads = threads }))
    (On (goes_on c (with_mark s block) ws)) (record { work = h; threads = threads }) (find test s.operations)

-- ---- a move

applied_fine : (c : CoreState) (t : Item) (next : Next) → Calm c → LeavesCalm next → Fine (applied c t next)
applied_fine c t (Goes s ws) h l = record { work = l; threads = h.threads }
applied_fine c t (Ends word s) h l = tt
applied_fine c t (Starts s frame own ws) h l = starts_calm c t s own ws h.threads l.0 l.1
applied_fine c t (Yields s ws) h l = stops_calm c t Active s ws (c.ready ++ t ∷ []) h.threads l
applied_fine c t (Arrives block s ws) h l = arrives_calm (none_within block c.threads) c t block s ws h.threads l
applied_fine c t (Cancels block s again ws) h l = calls_off_fine c block s again ws h.threads l.0 l.1
applied_fine c t (Operates link asked s ws) h l = operates_calm (any_marked s.marks (path ws (thread_at c.threads t))) c t link asked s ws h.threads l
applied_fine c t (Dies frame s) h l =
    let d = stops c t Ended (with_store s (released s.store frame)) [] c.ready in
    wakes_calm (woken d.threads d.threads 0) d (stops_calm c t Ended (with_store s (released s.store frame)) [] c.ready h.threads tt)
applied_fine c t Stays h l = h

dispatched_fine : (c : CoreState) (ready : List Item) → Calm c → Fine (dispatched c ready)
dispatched_fine c [] h = tt
dispatched_fine c (t ∷ ready) h = turn (nat_lt c.held.shared.turn (2 ^ 64 - 1))
  where
    turn : (b : Bool) → Fine (if b then On (record { held = turned c.held; running = Some t; work = (thread_at c.threads t).work; ready = ready; threads = c.threads })
        else Over (seen_of word.OutOfSteps false c.held))
    turn true = record { work = calm_at c.threads t.number h.threads; threads = h.threads }
    turn false = tt

comes_fine : (c : CoreState) (shared : Shared) → Calm c → (q : Option Arrival) → Fine (comes_in (λ e. e) (λ x. On (arrived c shared x)) q)
comes_fine c shared h None = tt
comes_fine c shared h (Some x) = arrived_calm c shared x h

point_fine : (c : CoreState) → Calm c → (todo : List Entry)
    → Fine (at_point (λ e. e) c.held.shared c.held.store c.held.operations (λ shared x. On (arrived c shared x)) (dispatched c c.ready) todo)
point_fine c h [] = dispatched_fine c c.ready h
point_fine c h (e ∷ todo) = at (nat_eq e.turn c.held.shared.turn)
  where
    at : (b : Bool) → Fine (if b then comes_in (λ e. e) (λ x. On (arrived c (with_entry c.held.shared e todo) x)) (arrives c.held.shared.past c.held.store c.held.operations e.event)
        else dispatched c c.ready)
    at true = comes_fine c (with_entry c.held.shared e todo) h (arrives c.held.shared.past c.held.store c.held.operations e.event)
    at false = dispatched_fine c c.ready h

module _ (program : Resolved) (alone : AreAlone program) (bound : ℕ) where
  step_fine : (c : CoreState) (r : Option Item) → Calm c → Fine (plain_step_of program bound c r)
  step_fine c None h = point_fine c h c.held.shared.todo
  step_fine c (Some t) h = applied_fine c t _ h (next_calm program alone bound (ahead c.work) c.held (ahead_calm c.work h.work))

  step_same : (c : CoreState) (r : Option Item) → Calm c → step_of program bound c r ≡ plain_step_of program bound c r
  step_same c None h = refl
  step_same c (Some t) h = ap (applied c t) (next_same program alone bound (ahead c.work) c.held (ahead_calm c.work h.work))

  -- ---- runs

  then_same : (m : Move CoreState (Option CoreEnd)) (f g : CoreState → Move CoreState (Option CoreEnd)) → Fine m → ((c : CoreState) → Calm c → f c ≡ g c) → and_then m f ≡ and_then m g
  then_same (On c) f g h same = same c h
  then_same (Over e) f g h same = refl

  moves_same : (k : ℕ) (c : CoreState) → Calm c → moves (step program bound) k c ≡ moves (plain_step program bound) k c
  moves_same zero c h = refl
  moves_same (suc k) c h =
      ap (λ (m : Move CoreState (Option CoreEnd)). and_then m (moves (step program bound) k)) (step_same c c.running h)
      ∙ then_same (plain_step program bound c) (moves (step program bound) k) (moves (plain_step program bound) k) (step_fine c c.running h) (moves_same k)

  begins_fine : (globals : List ℤ) (shared : Shared) (f : Function) → body_nested f.body ≡ 0 → (r : Result Store Trap) → Fine (begins_with (λ e. e) globals shared r (λ store. On
      (first_core f shared store)))
  begins_fine globals shared f none (Ok store) = record { work = tt; threads = (before_calm first_frame f.body (Leave ∷ []) none (tt, tt), tt) }
  begins_fine globals shared f none (Err trap) = tt

  -- the core enters a function of the program
  run_same : (core : ℕ) (journal : List Entry) (f : Function) → body_nested f.body ≡ 0 → (k : ℕ) →
      and_then (first_state program core f journal) (moves (step program bound) k) ≡ and_then (first_state program core f journal) (moves (plain_step program bound) k)
  run_same core journal f none k =
      then_same (first_state program core f journal) (moves (step program bound) k) (moves (plain_step program bound) k)
      (begins_fine (first_globals program) (shared_at_first program core journal) f none (begun (first_store (first_globals program)) None (replicate f.slots no_int))) (moves_same k)

module _ (program : Resolved) (alone : AreAlone program) where
  entered_none : (core : ℕ) (f : Function) → Enters program core f → body_nested f.body ≡ 0
  entered_none core f h = function_alone program.functions alone h.here.entry f h.function_is

  pub runs_plainly : RunsPlainly program
  runs_plainly core bound journal end = (there, back)
    where
      there : Replays program core bound journal end → ReplaysPlainly program core bound journal end
      there r =
          record { function = r.function; enters = r.enters; ends = (r.ends.0, r.ends.1 ∙ run_same program alone bound core journal r.function (entered_none core r.function r.enters) r.ends.0) }

      back : ReplaysPlainly program core bound journal end → Replays program core bound journal end
      back r =
          record { function = r.function; enters = r.enters; ends = (r.ends.0, r.ends.1 ∙ sym (run_same program alone bound core journal r.function (entered_none core r.function r.enters) r.ends.0)) }
