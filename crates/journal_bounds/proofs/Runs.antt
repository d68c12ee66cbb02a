-- A run of a core has few entries. For `entries_are_few`.
-- `Counted` (Cores) holds of the first state and is kept by each step, so by induction on the steps it holds of the last; there nothing is to come.
use Rattle.std.proofs.Common.{ℕ, zero, suc, ◌≤◌, List, [], ◌∷◌, Option, Some, None, Result, Ok, Err, false, refl, sym, subst, arith}
use Rattle.std.specs.Prelude.{ℤ, replicate}
use Rattle.ac_base.specs.declared.ends.CoreEnd.{CoreEnd}
use Rattle.ac_base.specs.declared.ends.EndWord.TheVariants as word
use Rattle.ac_base.specs.declared.ends.Trap.{Trap}
use Rattle.ac_base.specs.declared.entry.Entry.{Entry}
use Rattle.work_item.specs.Store.{Store, no_int}
use Rattle.core_state.specs.Moves.{Move, On, Over, and_then, moves}
use Rattle.core_state.specs.Frames.{begun, first_store, first_frame}
use Rattle.core_state.specs.Shared.{begins_with}
use Rattle.ac_commands.specs.declared.program.Function.{Function}
use Rattle.ac_commands.specs.declared.program.Resolved.{Resolved}
use Rattle.ac_semantics.specs.Work.{Leave}
use Rattle.ac_semantics.specs.Threads.{CoreState, step, first_core, first_globals, shared_at_first, first_state}
use Rattle.ac_semantics.specs.Replay.{Replays}
use Rattle.journal_bounds.specs.Actions.{most_of, most_actions}
use Rattle.journal_bounds.specs.Laws.{EntriesAreFew}
use Rattle.journal_bounds.proofs.Work.{before_few, before_actions, body_few}
use Rattle.journal_bounds.proofs.Cores.{Counted, Fine, IsShort, none_left, step_fine}

module _ (program : Resolved) (core bound : ℕ) (journal : List Entry) where
  abbrev F : Move CoreState (Option CoreEnd) → Type 0
  F = Fine program bound journal

  -- ---- the beginning

  first_counted : (function : Function) (store : Store) → most_of function.body ≤ most_actions program
      → Counted program bound journal (first_core function (shared_at_first program core journal) store)
  first_counted function store m =
      let e = before_actions first_frame function.body (Leave ∷ []) in
      record {
        work = tt;
        threads = (before_few (most_actions program) first_frame function.body (Leave ∷ []) m (tt, tt), tt);
        left = 0;
        to_come = omega arith;
        paid = record { whole = refl; steps = omega arith; entries = omega arith; offered = omega arith };
      }

  begins_fine : (function : Function) (globals : List ℤ) (r : Result Store Trap) → most_of function.body ≤ most_actions program
      → F (begins_with (λ e. e) globals (shared_at_first program core journal) r (λ store. On (first_core function (shared_at_first program core journal) store)))
  begins_fine function globals (Ok store) m = first_counted function store m
  begins_fine function globals (Err trap) m = none_left program bound journal (word.Trapped trap) false globals [] (shared_at_first program core journal) journal refl (omega arith, omega arith)

  -- ---- moves

  then_fine : (m : Move CoreState (Option CoreEnd)) (g : CoreState → Move CoreState (Option CoreEnd)) → F m → ((c : CoreState) → Counted program bound journal c → F (g c)) → F (and_then m g)
  then_fine (On c) g h k = k c h
  then_fine (Over e) g h k = h

  moves_fine : (k : ℕ) (c : CoreState) → Counted program bound journal c → F (moves (step program bound) k c)
  moves_fine zero c h = h
  moves_fine (suc k) c h = then_fine (step program bound c) (moves (step program bound) k) (step_fine program bound journal c h) (moves_fine k)

-- so it has, and makes few offers
pub short : (program : Resolved) (core bound : ℕ) (journal : List Entry) (end : CoreEnd) → Replays program core bound journal (Some end) → IsShort program bound journal journal
short program core bound journal end r =
    let f = r.function in
    let m = body_few program.functions r.enters.here.entry f r.enters.function_is in
    let first = begins_fine program core bound journal f (first_globals program) (begun (first_store (first_globals program)) None (replicate f.slots no_int)) m in
    subst (Fine program bound journal) (sym r.ends.1) (then_fine program core bound journal (first_state program core f journal) (moves (step program bound) r.ends.0) first
    (moves_fine program core bound journal r.ends.0))

pub entries_few : EntriesAreFew
entries_few program core bound journal end r = (short program core bound journal end r).0
