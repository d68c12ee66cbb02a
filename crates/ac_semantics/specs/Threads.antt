-- The threads of a core and their blocks, and the moves of a core (Harris, Abadi, Isaacs, McIlroy, OOPSLA 2011).
use Rattle.std.specs.Prelude.{ℕ, ◌+◌, ℤ, pos, List, [], ◌∷◌, ◌++◌, length, replicate, Option, Some, None}
use Rattle.std.specs.Prelude.{Bool, true, false, not, ◌&&◌, nat_eq, slice_index_or, slice_set, if◌then◌else◌}
use Rattle.ac_base.specs.declared.entry.Entry.{Entry}
use Rattle.ac_base.specs.declared.ends.CoreEnd.{CoreEnd}
use Rattle.ac_base.specs.declared.ends.EndWord.TheVariants as word
use Rattle.work_item.specs.declared.ids.Item.{Item}
use Rattle.work_item.specs.declared.ids.BlockId.{BlockId}
use Rattle.work_item.specs.Store.{Store, released}
use Rattle.work_item.specs.declared.cell.Cell.{Cell}
use Rattle.work_item.specs.declared.cell.Cell.TheVariants as cell
use Rattle.cancel_scope.specs.declared.operation.Asked.{Asked}
use Rattle.cancel_scope.specs.declared.operation.Operation.{Operation}
use Rattle.core_state.specs.Moves.{Move, On, Over}
use Rattle.core_state.specs.Frames.{first_frame}
use Rattle.core_state.specs.Shared.{Shared, request_link, first_shared, begins, if_turn}
use Rattle.core_state.specs.Arrivals.{Arrival, point, cancelled}
use Rattle.core_state.specs.Cancelling.{cancels}
use Rattle.ac_commands.specs.declared.program.Function.{Function}
use Rattle.ac_commands.specs.declared.program.Start.{Start}
use Rattle.ac_commands.specs.declared.program.Resolved.{Resolved}
use Rattle.ac_semantics.specs.Held.{Held, with_store, with_mark, any_marked, with_started, turned, seen_of}
use Rattle.ac_semantics.specs.Work.{Work, Leave, before, closes, given}
use Rattle.ac_semantics.specs.Statements.{Next, Goes, Ends, Starts, Yields, Arrives, Cancels, Operates, Dies, Stays, next_of}

pub data Phase : Type 0 where
  -- it runs, is ready to, or waits for the end of an operation
  Active : Phase
  AtFinish : BlockId → Phase
  Ended : Phase

-- a thread, the blocks round the place where it was started, the innermost first, and what it has still to do while another runs
pub record Thread : Type 0 where
  pub around : List BlockId
  pub phase : Phase
  pub work : List Work

abbrev pub nobody : Thread
nobody = record { around = []; phase = Ended; work = [] }

-- a core; its threads stand at their numbers, and the work of the running one beside them
pub record CoreState : Type 0 where
  pub held : Held
  pub running : Option Item
  pub work : List Work
  pub ready : List Item
  pub threads : List Thread

abbrev pub thread_at : List Thread → Item → Thread
thread_at threads t = slice_index_or threads t.number nobody

-- ---- blocks

abbrev pub is_among : BlockId → List BlockId → Bool
is_among block [] = false
is_among block (x ∷ xs) = if nat_eq block.number x.number then true else is_among block xs

-- the blocks in which a thread stands that has this work, the innermost first: those that it has entered and not left, also in functions
-- that it has called, and those round the place where it was started
abbrev pub path : List Work → Thread → List BlockId
path ws t = closes ws ++ t.around

abbrev pub is_living : Phase → Bool
is_living Ended = false
is_living _ = true

-- a living thread that was started in the block, or in one that descends from it
abbrev pub is_within : BlockId → Thread → Bool
is_within block t = is_living t.phase && is_among block t.around

abbrev pub none_within : BlockId → List Thread → Bool
none_within block [] = true
none_within block (t ∷ ts) = not (is_within block t) && none_within block ts

-- whether a thread waits at a finish that would now pass
abbrev pub may_pass : List Thread → Phase → Bool
may_pass all (AtFinish block) = none_within block all
may_pass all _ = false

-- the first such thread, counted from this number
abbrev pub woken : List Thread → List Thread → ℕ → Option Item
woken all [] number = None
woken all (t ∷ ts) number = if may_pass all t.phase then Some (record { number = number }) else woken all ts (number + 1)

-- ---- threads

abbrev pub with_phase : List Thread → Item → Phase → List Work → List Thread
with_phase ts t phase work = slice_set ts t.number (record (thread_at ts t) { phase = phase; work = work })

-- the running thread stops with this work
abbrev pub stops : CoreState → Item → Phase → Held → List Work → List Item → CoreState
stops c t phase s ws ready = record { held = s; running = None; work = []; ready = ready; threads = with_phase c.threads t phase ws }

-- the running thread goes on with this work
abbrev pub goes_on : CoreState → Held → List Work → CoreState
goes_on c s ws = record c { held = s; work = ws }

-- a thread is started and runs, with the next number of the table, which only grows; its creator goes to the front
abbrev pub starts : CoreState → Item → Held → List Work → List Work → CoreState
starts c t s own ws =
    record {
      held = s;
      running = Some (record { number = length c.threads });
      work = own;
      ready = t ∷ c.ready;
      threads = with_phase c.threads t Active ws ++ record {
        around = path ws (thread_at c.threads t);
        phase = Active;
        work = [];
      } ∷ [];
    }

abbrev pub arrives : Bool → CoreState → Item → BlockId → Held → List Work → CoreState
arrives true c t block s ws = goes_on c s ws
arrives false c t block s ws = stops c t (AtFinish block) s ws c.ready

-- an owner whose block has no living thread any more goes to the front
abbrev pub wakes : Option Item → CoreState → CoreState
wakes None c = c
wakes (Some owner) c = record c { ready = owner ∷ c.ready; threads = with_phase c.threads owner Active (thread_at c.threads owner).work }

abbrev pub wakes_owner : CoreState → CoreState
wakes_owner c = wakes (woken c.threads c.threads 0) c

-- ---- operations

-- the thread of the operation stands in the block, or in one that descends from it
abbrev pub is_inside : List Thread → BlockId → Operation → Bool
is_inside ts block o = is_among block (path (thread_at ts o.item).work (thread_at ts o.item))

-- in a cancelled block, or in one that descends from such a block, an operation gives its value at once
abbrev pub operates : Bool → CoreState → Item → ℕ → Asked → Held → List Work → CoreState
operates true c t link asked s ws = goes_on c s (given (cell.Int cancelled) ws)
operates false c t link asked s ws = stops c t Active (with_started s link asked t) ws c.ready

-- the thread whose operation has ended has its value, and goes to the back
abbrev pub resumed : CoreState → Cell → Option Item → CoreState
resumed c value None = c
resumed c value (Some t) =
    record c { ready = c.ready ++ t ∷ []; threads = with_phase c.threads t Active (given value (thread_at c.threads t).work) }

-- an entry has come in, or a cancel has tried an operation
abbrev pub arrived : CoreState → Shared → Arrival → CoreState
arrived c shared x =
    resumed (record c { held = record c.held { shared = shared; store = x.store; operations = x.operations } }) (cell.Int x.value) x.woken

-- the block is marked, and the oldest operation within it is tried; where none is left the thread goes on
abbrev pub calls_off : CoreState → BlockId → Held → List Work → List Work → Move CoreState (Option CoreEnd)
calls_off c block s again ws =
    cancels (λ e. e) s.shared s.store s.operations (is_inside c.threads block)
    (λ shared x. On (arrived (goes_on c (with_mark s block) again) shared x)) (On (goes_on c (with_mark s block) ws))

-- ---- a move

abbrev pub applied : CoreState → Item → Next → Move CoreState (Option CoreEnd)
applied c t (Goes s ws) = On (goes_on c s ws)
applied c t (Ends word s) = Over (seen_of word false s)
applied c t (Starts s frame own ws) = On (starts c t s own ws)
applied c t (Yields s ws) = On (stops c t Active s ws (c.ready ++ t ∷ []))
applied c t (Arrives block s ws) = On (arrives (none_within block c.threads) c t block s ws)
applied c t (Cancels block s again ws) = calls_off c block s again ws
applied c t (Operates link asked s ws) = On (operates (any_marked s.marks (path ws (thread_at c.threads t))) c t link asked s ws)
applied c t (Dies frame s) = On (wakes_owner (stops c t Ended (with_store s (released s.store frame)) [] c.ready))
applied c t Stays = On c

-- the front of the ready list runs, or the core waits; after the last turn it is out of steps
abbrev pub dispatched : CoreState → List Item → Move CoreState (Option CoreEnd)
dispatched c [] = Over (seen_of word.Stalled true c.held)
dispatched c (t ∷ ready) =
    if_turn (λ e. e) c.held.store.globals c.held.operations c.held.shared
    (On (record { held = turned c.held; running = Some t; work = (thread_at c.threads t).work; ready = ready; threads = c.threads }))

-- no thread runs: an entry comes in, or the front of the ready list runs
abbrev pub rests : CoreState → Move CoreState (Option CoreEnd)
rests c =
    point (λ e. e) c.held.shared c.held.store c.held.operations (λ shared x. On (arrived c shared x)) (dispatched c c.ready)

abbrev pub step_of : Resolved → ℕ → CoreState → Option Item → Move CoreState (Option CoreEnd)
step_of program bound c None = rests c
step_of program bound c (Some t) = applied c t (next_of program bound c.work c.held)

abbrev pub step : Resolved → ℕ → CoreState → Move CoreState (Option CoreEnd)
step program bound c = step_of program bound c c.running

-- ---- the beginning

abbrev pub first_item : Item
first_item = record { number = 0 }

-- a core whose one thread is about to enter a function, in the frame that is made for it
abbrev pub first_core : Function → Shared → Store → CoreState
first_core function s store =
    record {
      held = record { shared = s; store = store; marks = []; operations = [] };
      running = None;
      work = [];
      ready = first_item ∷ [];
      threads = record { around = []; phase = Active; work = before first_frame function.body (Leave ∷ []) } ∷ [];
    }

abbrev pub with_starts : List Start → List ℤ → List ℤ
with_starts [] globals = globals
with_starts (x ∷ starts) globals = with_starts starts (slice_set globals x.slot x.value)

abbrev pub first_globals : Resolved → List ℤ
first_globals program = with_starts program.starts (replicate program.slots (pos 0))

-- before its first step the whole journal is to come, and its requests have their link
abbrev pub shared_at_first : Resolved → ℕ → List Entry → Shared
shared_at_first program core journal = first_shared (request_link (length program.channels) core) journal

-- where its words are over their limit, the core has ended before its first step
abbrev pub first_state : Resolved → ℕ → Function → List Entry → Move CoreState (Option CoreEnd)
first_state program core function journal =
    begins (λ e. e) (first_globals program) (shared_at_first program core journal) function.slots (λ store.
    On (first_core function (shared_at_first program core journal) store))
