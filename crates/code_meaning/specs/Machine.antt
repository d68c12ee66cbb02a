-- What the flat machine does, instruction by instruction.
use Rattle.std.specs.Prelude.{ℕ, zero, suc, ◌+◌, ◌-◌, ◌^◌, min, ℤ, pos, List, [], ◌∷◌, ◌++◌, length, map, take, drop}
use Rattle.std.specs.List.{list_any}
use Rattle.std.specs.Prelude.{replicate, reverse, Option, Some, None, Bool, true, false, nat_eq, nat_le}
use Rattle.std.specs.Prelude.{nat_lt, ◌&&◌, slice_get, slice_index_or, slice_set, Result, Ok, Err, if◌then◌else◌}
use Rattle.ac_base.specs.declared.ends.Trap.{Trap}
use Rattle.ac_base.specs.declared.ends.EndWord.{EndWord}
use Rattle.ac_base.specs.declared.ends.EndWord.TheVariants as word
use Rattle.ac_base.specs.declared.ends.CoreEnd.{CoreEnd}
use Rattle.ac_base.specs.declared.entry.Entry.{Entry}
use Rattle.work_item.specs.declared.ids.FrameId.{FrameId}
use Rattle.work_item.specs.declared.ids.Item.{Item}
use Rattle.work_item.specs.declared.ids.BlockId.{BlockId}
use Rattle.work_item.specs.declared.cell.Cell.{Cell}
use Rattle.work_item.specs.declared.cell.Cell.TheVariants as cell
use Rattle.work_item.specs.Store.{Store, above, cell_at, global_at, no_int, int_in, place_in}
use Rattle.work_item.specs.Store.{next_frame, with_cell_at, with_cleared, with_global, released}
use Rattle.cancel_scope.specs.declared.operation.Asked.{Asked}
use Rattle.cancel_scope.specs.declared.operation.Asked.TheVariants as asked
use Rattle.cancel_scope.specs.declared.operation.Operation.{Operation}
use Rattle.cancel_scope.specs.Outstanding.{started}
use Rattle.core_state.specs.Moves.{Move, On, Over, ComesTo}
use Rattle.core_state.specs.Arithmetic.{Computed, at_zero, truth, negated, not_true, flipped, sum_of, difference_of}
use Rattle.core_state.specs.Arithmetic.{product_of, quotient, remainder, shifted_left, shifted_right, is_equal}
use Rattle.core_state.specs.Arithmetic.{is_not_equal, is_less, is_at_most, both_bits, either_bits, differing_bits}
use Rattle.core_state.specs.Frames.{element, set_element, part_at, begun, begun_with, first_frame, with_entered, block_in}
use Rattle.core_state.specs.Shared.{Shared, with_step, with_turn, request_link, first_shared, printed, formatted, seen, if_turn, begins}
use Rattle.core_state.specs.Messages.{message_in}
use Rattle.core_state.specs.Requests.{read_of, write_of}
use Rattle.core_state.specs.Arrivals.{Arrival, point, cancelled}
use Rattle.core_state.specs.Cancelling.{cancels}
use Rattle.stack_code.specs.declared.instr.Instr.{Instr}
use Rattle.stack_code.specs.declared.instr.Instr.TheVariants as i
use Rattle.stack_code.specs.declared.parts.Entered.{Entered}
use Rattle.stack_code.specs.declared.parts.Start.{Start}
use Rattle.stack_code.specs.Parts.{Parts, Begins}

-- ---- the state

-- an activation that waits for what it has called: where it goes on, in which frame, and with which operands below the value
pub record Caller : Type 0 where
  pub place : ℕ
  pub frame : FrameId
  pub operands : List Cell

-- a thread; the topmost operand is the first, and so is the innermost caller
pub record Thread : Type 0 where
  pub place : ℕ
  pub frame : FrameId
  pub operands : List Cell
  pub callers : List Caller
  pub block : Option BlockId

-- a block, the thread that entered it, how many threads that were started directly in it live, whether the owner waits at its finish, and
-- whether it is marked as cancelled
pub record Block : Type 0 where
  pub parent : Option BlockId
  pub owner : Item
  pub count : ℕ
  pub waits : Bool
  pub cancelled : Bool

-- a core in the machine: what it shares with its source, what its globals and frames hold, its operations that have not ended, and its
-- threads
-- and blocks at their numbers; the running thread stands beside the table of the others, and the count is that of the instructions begun
pub record Flat : Type 0 where
  pub shared : Shared
  pub store : Store
  pub operations : List Operation
  pub running : Option Item
  pub current : Thread
  pub ready : List Item
  pub threads : List Thread
  pub blocks : List (Option Block)
  pub count : ℕ

-- how the machine is over: what is seen of the core, none where an entry of the journal is still to come, and the count
pub record FlatEnd : Type 0 where
  pub core : Option CoreEnd
  pub count : ℕ

abbrev pub nobody : Thread
nobody = record { place = 0; frame = first_frame; operands = []; callers = []; block = None }

-- one instruction more; the count stays at its last value
abbrev pub counted : ℕ → ℕ
counted k = min (k + 1) (2 ^ 64 - 1)

-- ---- single changes

abbrev pub told : ℕ → Option CoreEnd → FlatEnd
told count core = record { core = core; count = count }

abbrev pub ends : Option CoreEnd → ℕ → Move Flat FlatEnd
ends core count = Over (told count core)

abbrev pub seen_of : EndWord → Bool → Flat → Option CoreEnd
seen_of word idle m = seen word idle m.store.globals m.operations m.shared

abbrev pub with_shared : Flat → Shared → Flat
with_shared m s = record m { shared = s }

abbrev pub with_store : Flat → Store → Flat
with_store m store = record m { store = store }

abbrev pub at : Thread → ℕ → List Cell → Thread
at t place operands = record t { place = place; operands = operands }

-- the running thread goes on at that address, with these operands
abbrev pub goes_to : ℕ → Flat → List Cell → Move Flat FlatEnd
goes_to place m operands = On (record m { current = at m.current place operands; count = counted m.count })

abbrev pub goes : Flat → List Cell → Move Flat FlatEnd
goes m operands = goes_to (m.current.place + 1) m operands

-- a trap ends the core
abbrev pub or_trap : {A : Type 0} → Flat → Result A Trap → (A → Move Flat FlatEnd) → Move Flat FlatEnd
or_trap m (Ok x) go = go x
or_trap m (Err trap) go = ends (seen_of (word.Trapped trap) false m) (counted m.count)

-- ---- operands; a machine that lacks one, or an instruction, stays where it is

abbrev pub on_top : Flat → (Cell → List Cell → Move Flat FlatEnd) → List Cell → Move Flat FlatEnd
on_top m go [] = On m
on_top m go (x ∷ below) = go x below

-- the one below the topmost is the first
abbrev pub on_two : Flat → (Cell → Cell → List Cell → Move Flat FlatEnd) → List Cell → Move Flat FlatEnd
on_two m go (y ∷ x ∷ below) = go x y below
on_two m go _ = On m

abbrev pub on_three : Flat → (Cell → Cell → Cell → List Cell → Move Flat FlatEnd) → List Cell → Move Flat FlatEnd
on_three m go (z ∷ y ∷ x ∷ below) = go x y z below
on_three m go _ = On m

-- so many, of which the last stands on top
abbrev pub on_many : Flat → ℕ → (List Cell → List Cell → Move Flat FlatEnd) → List Cell → Move Flat FlatEnd
on_many m count go operands = if nat_le count (length operands) then go (reverse (take count operands)) (drop count operands) else On m

-- ---- operators

abbrev pub one_operand : Flat → (ℤ → ℤ) → Move Flat FlatEnd
one_operand m f = on_top m (λ x below. goes m (cell.Int (f (int_in x)) ∷ below)) m.current.operands

abbrev pub two_operands : Flat → (ℤ → ℤ → Computed) → Move Flat FlatEnd
two_operands m f = on_two m (λ x y below. or_trap m (f (int_in x) (int_in y)) (λ v. goes m (cell.Int v ∷ below))) m.current.operands

abbrev pub always : (ℤ → ℤ → ℤ) → ℤ → ℤ → Computed
always f x y = Ok (f x y)

-- ---- threads and blocks

abbrev pub thread_at : List Thread → Item → Thread
thread_at threads t = slice_index_or threads t.number nobody

abbrev pub block_at : List (Option Block) → BlockId → Option Block
block_at blocks b = slice_index_or blocks b.number None

abbrev pub with_block : List (Option Block) → BlockId → Option Block → List (Option Block)
with_block blocks b x = slice_set blocks b.number x

-- the running thread stops and is kept so
abbrev pub stops : Flat → Item → Thread → List Item → List (Option Block) → Flat
stops m t kept ready blocks =
    record m {
      running = None;
      current = nobody;
      ready = ready;
      threads = slice_set m.threads t.number kept;
      blocks = blocks;
      count = counted m.count;
    }

abbrev pub one_more : Option Block → Option Block
one_more None = None
one_more (Some x) = Some (record x { count = x.count + 1 })

abbrev pub counted_in : List (Option Block) → Option BlockId → List (Option Block)
counted_in blocks None = blocks
counted_in blocks (Some b) = with_block blocks b (one_more (block_at blocks b))

-- a thread is started and runs, with the next number of the table, which only grows; its creator goes to the front and on at the address
abbrev pub starts : Flat → Item → ℕ → Store → Flat
starts m t to store =
    record {
      shared = m.shared;
      store = store;
      operations = m.operations;
      running = Some (record { number = length m.threads });
      current = record { place = m.current.place + 1; frame = next_frame m.store; operands = []; callers = []; block = m.current.block };
      ready = t ∷ m.ready;
      threads = slice_set m.threads t.number (record m.current { place = to }) ++ nobody ∷ [];
      blocks = counted_in m.blocks m.current.block;
      count = counted m.count;
    }

-- the owner arrives at the finish of its innermost block: it passes at count 0, and else waits
abbrev pub arrives_at : Bool → Flat → Item → BlockId → Block → Move Flat FlatEnd
arrives_at true m t b x =
    On (record m {
      current = record m.current { place = m.current.place + 1; block = x.parent };
      blocks = with_block m.blocks b None;
      count = counted m.count;
    })
arrives_at false m t b x =
    On (stops m t (record m.current { place = m.current.place + 1; block = x.parent }) m.ready
    (with_block m.blocks b (Some (record x { waits = true }))))

abbrev pub arrives_in : Flat → Item → BlockId → Option Block → Move Flat FlatEnd
arrives_in m t b None = On m
arrives_in m t b (Some x) = arrives_at (nat_eq x.count 0) m t b x

abbrev pub arrives : Flat → Item → Option BlockId → Move Flat FlatEnd
arrives m t None = On m
arrives m t (Some b) = arrives_in m t b (block_at m.blocks b)

-- a thread of a block has ended: at count 0 an owner that waits goes to the front, and the block is gone
abbrev pub counted_out : Bool → Flat → Item → BlockId → Block → Flat
counted_out true m t b x = stops m t nobody (x.owner ∷ m.ready) (with_block m.blocks b None)
counted_out false m t b x = stops m t nobody m.ready (with_block m.blocks b (Some (record x { count = x.count - 1 })))

abbrev pub dies_in : Flat → Item → BlockId → Option Block → Flat
dies_in m t b None = m
dies_in m t b (Some x) = counted_out (nat_eq x.count 1 && x.waits) m t b x

abbrev pub dies : Flat → Item → Option BlockId → Flat
dies m t None = m
dies m t (Some b) = dies_in m t b (block_at m.blocks b)

-- ---- cancelled blocks

abbrev pub parent_of : Option Block → Option BlockId
parent_of None = None
parent_of (Some x) = x.parent

abbrev pub is_marked : Option Block → Bool
is_marked None = false
is_marked (Some x) = x.cancelled

abbrev pub with_mark : Option Block → Option Block
with_mark None = None
with_mark (Some x) = Some (record x { cancelled = true })

-- the block and those round it, the innermost first, but not more than so many
abbrev pub few_round : ℕ → List (Option Block) → Option BlockId → List BlockId
few_round k blocks None = []
few_round zero blocks (Some b) = []
few_round (suc k) blocks (Some b) = b ∷ few_round k blocks (parent_of (block_at blocks b))

-- all of them: a block lies only in older ones
abbrev pub round : List (Option Block) → Option BlockId → List BlockId
round blocks b = few_round (length blocks) blocks b

-- it is marked, or one of those round it
abbrev pub is_cancelled : List (Option Block) → Option BlockId → Bool
is_cancelled blocks b = list_any (λ (x : BlockId). is_marked (block_at blocks x)) (round blocks b)

-- the thread of the operation stands in the block, or in one that descends from it
abbrev pub is_inside : Flat → BlockId → Operation → Bool
is_inside m block o = list_any (λ (x : BlockId). nat_eq block.number x.number) (round m.blocks (thread_at m.threads o.item).block)

abbrev pub marked : Flat → BlockId → Flat
marked m block = record m { blocks = with_block m.blocks block (with_mark (block_at m.blocks block)) }

-- ---- operations

-- the running thread waits for the end of an operation on that link, with these operands below its value
abbrev pub operates : Flat → Item → ℕ → Asked → List Cell → Flat
operates m t link asked below =
    record (stops m t (at m.current (m.current.place + 1) below) m.ready m.blocks)
    { operations = m.operations ++ started link asked t ∷ [] }

-- in a cancelled block an operation gives its value at once
abbrev pub asks_in : Bool → Flat → Item → ℕ → Asked → List Cell → Move Flat FlatEnd
asks_in true m t link asked below = goes m (cell.Int cancelled ∷ below)
asks_in false m t link asked below = On (operates m t link asked below)

abbrev pub asks : Flat → Item → ℕ → Asked → List Cell → Move Flat FlatEnd
asks m t link asked below = asks_in (is_cancelled m.blocks m.current.block) m t link asked below

-- what a read or a write asks for starts on the core's own link, where its range is right
abbrev pub requests : Flat → Item → Result Asked Trap → List Cell → Move Flat FlatEnd
requests m t it below = or_trap m it (λ asked. asks m t m.shared.requests asked below)

-- with the value of its operation on top of its operands
abbrev pub given : Cell → Thread → Thread
given value h = record h { operands = value ∷ h.operands }

-- the thread whose operation has ended has its value, and goes to the back
abbrev pub resumed : Flat → Cell → Option Item → Flat
resumed m value None = m
resumed m value (Some t) =
    record m { ready = m.ready ++ t ∷ []; threads = slice_set m.threads t.number (given value (thread_at m.threads t)) }

-- an entry has come in, which is no instruction, or a cancel has tried an operation
abbrev pub arrived : Flat → Shared → Arrival → Flat
arrived m shared x = resumed (record m { shared = shared; store = x.store; operations = x.operations }) (cell.Int x.value) x.woken

-- The block is marked, and the oldest operation within it is tried. The running thread stays at its instruction until none is left; the
-- instruction is counted once, as it leaves it or as the run stops there.
abbrev pub calls_off : Flat → BlockId → Move Flat FlatEnd
calls_off m block =
    cancels (told (counted m.count)) m.shared m.store m.operations (is_inside m block) (λ shared x. On (arrived (marked m block) shared x))
    (goes (marked m block) m.current.operands)

-- ---- calls

abbrev pub calls : Flat → Option Entered → List Cell → List Cell → Move Flat FlatEnd
calls m None args below = On m
calls m (Some f) args below =
    or_trap m (begun_with m.store f.params f.words args) (λ store. On (record m {
      store = store;
      current = record {
        place = f.at;
        frame = next_frame m.store;
        operands = [];
        callers = record { place = m.current.place + 1; frame = m.current.frame; operands = below } ∷ m.current.callers;
        block = m.current.block;
      };
      count = counted m.count;
    }))

-- the value of an activation, for its caller; without one the core has finished
abbrev pub returns : Flat → Cell → List Caller → Move Flat FlatEnd
returns m value [] = ends (seen_of word.Finished false m) (counted m.count)
returns m value (caller ∷ callers) =
    On (record m {
      store = released m.store m.current.frame;
      current = record m.current { place = caller.place; frame = caller.frame; operands = value ∷ caller.operands; callers = callers };
      count = counted m.count;
    })

-- ---- instructions

abbrev pub text_at : Parts → ℕ → List ℕ
text_at code text = slice_index_or code.texts text []

abbrev pub begin : Parts → ℕ → Flat → Item → Option Instr → Move Flat FlatEnd
begin code bound m t None = On m
begin code bound m t (Some i.Step) =
    if nat_lt m.shared.steps bound
    then goes (with_shared m (with_step m.shared)) m.current.operands
    else ends (seen_of word.OutOfSteps false m) m.count
begin code bound m t (Some (i.Push v)) = goes m (cell.Int v ∷ m.current.operands)
begin code bound m t (Some (i.Load level slot)) = goes m (cell_at m.store m.current.frame level slot ∷ m.current.operands)
begin code bound m t (Some (i.LoadG slot)) = goes m (cell.Int (global_at m.store slot) ∷ m.current.operands)
begin code bound m t (Some (i.Store level slot)) =
    on_top m (λ x below.
    goes (with_store m (with_cell_at m.store m.current.frame level slot (cell.Int (int_in x)))) below) m.current.operands
begin code bound m t (Some (i.StoreG slot)) =
    on_top m (λ x below. goes (with_store m (with_global m.store slot (int_in x))) below) m.current.operands
begin code bound m t (Some (i.Arr level slot len)) =
    goes m (cell.Array (record { home = Some (above m.store m.current.frame level); start = slot; len = len }) ∷ m.current.operands)
begin code bound m t (Some (i.ArrG slot len)) = goes m (cell.Array (record { home = None; start = slot; len = len }) ∷ m.current.operands)
begin code bound m t (Some i.Elem) =
    on_two m (λ x y below. or_trap m (element m.store (place_in x) (int_in y)) (λ v. goes m (cell.Int v ∷ below))) m.current.operands
begin code bound m t (Some i.SetElem) =
    on_three m (λ x y z below.
    or_trap m (set_element m.store (place_in y) (int_in z) (int_in x)) (λ store. goes (with_store m store) below)) m.current.operands
begin code bound m t (Some i.Place) =
    on_two m (λ x y below.
    or_trap m (part_at (place_in x) (int_in y)) (λ part. goes m (cell.Array part ∷ below))) m.current.operands
begin code bound m t (Some (i.Clear slot len)) = goes (with_store m (with_cleared m.store m.current.frame slot len)) m.current.operands
begin code bound m t (Some i.Neg) = one_operand m negated
begin code bound m t (Some i.Not) = one_operand m not_true
begin code bound m t (Some i.Flip) = one_operand m flipped
begin code bound m t (Some i.Bool) = one_operand m truth
begin code bound m t (Some i.BitOr) = two_operands m (always either_bits)
begin code bound m t (Some i.BitXor) = two_operands m (always differing_bits)
begin code bound m t (Some i.BitAnd) = two_operands m (always both_bits)
begin code bound m t (Some i.Eq) = two_operands m (always is_equal)
begin code bound m t (Some i.Ne) = two_operands m (always is_not_equal)
begin code bound m t (Some i.Less) = two_operands m (always is_less)
begin code bound m t (Some i.LessEq) = two_operands m (always is_at_most)
begin code bound m t (Some i.More) = two_operands m (always (λ x y. is_less y x))
begin code bound m t (Some i.MoreEq) = two_operands m (always (λ x y. is_at_most y x))
begin code bound m t (Some i.Shl) = two_operands m (always shifted_left)
begin code bound m t (Some i.Shr) = two_operands m (always shifted_right)
begin code bound m t (Some i.Add) = two_operands m (always sum_of)
begin code bound m t (Some i.Sub) = two_operands m (always difference_of)
begin code bound m t (Some i.Mul) = two_operands m (always product_of)
begin code bound m t (Some i.Div) = two_operands m quotient
begin code bound m t (Some i.Rem) = two_operands m remainder
begin code bound m t (Some i.Drop) = on_top m (λ x below. goes m below) m.current.operands
begin code bound m t (Some (i.Jump to)) = goes_to to m m.current.operands
begin code bound m t (Some (i.Jz to)) =
    on_top m (λ x below. goes_to (at_zero (int_in x) to (m.current.place + 1)) m below) m.current.operands
begin code bound m t (Some (i.Jnz to)) =
    on_top m (λ x below. goes_to (at_zero (int_in x) (m.current.place + 1) to) m below) m.current.operands
begin code bound m t (Some (i.Print text count)) =
    on_many m count (λ args below.
    or_trap m (printed m.shared (formatted (text_at code text) (map int_in args))) (λ s. goes (with_shared m s) below)) m.current.operands
begin code bound m t (Some (i.Call function count)) =
    on_many m count (λ args below. calls m (slice_get code.functions function) args below) m.current.operands
begin code bound m t (Some i.Ret) = on_top m (λ x below. returns m (cell.Int (int_in x)) m.current.callers) m.current.operands
-- a new block has the next number of the table, which only grows
begin code bound m t (Some (i.Enter slot)) =
    On (record m {
      store = with_entered m.store m.current.frame slot (length m.blocks);
      current = record m.current { place = m.current.place + 1; block = Some (record { number = length m.blocks }) };
      blocks = m.blocks ++ Some (record { parent = m.current.block; owner = t; count = 0; waits = false; cancelled = false }) ∷ [];
      count = counted m.count;
    })
begin code bound m t (Some (i.Finish slot)) = arrives m t m.current.block
begin code bound m t (Some (i.Async slots to)) =
    or_trap m (begun m.store (Some m.current.frame) (replicate slots no_int)) (λ store. On (starts m t to store))
begin code bound m t (Some i.End) = On (dies (with_store m (released m.store m.current.frame)) t m.current.block)
begin code bound m t (Some (i.Cancel level slot)) = calls_off m (block_in (cell_at m.store m.current.frame level slot))
begin code bound m t (Some i.Yield) = On (stops m t (record m.current { place = m.current.place + 1 }) (m.ready ++ t ∷ []) m.blocks)
begin code bound m t (Some (i.Send channel)) =
    on_top m (λ x below. asks m t channel (asked.Send (message_in m.store x)) below) m.current.operands
begin code bound m t (Some (i.Recv channel)) =
    on_top m (λ x below. asks m t channel (asked.Recv (place_in x)) below) m.current.operands
-- the place in the file, the length and the array
begin code bound m t (Some (i.Read file)) =
    on_three m (λ x y z below. requests m t (read_of file (int_in x) (int_in y) (place_in z)) below) m.current.operands
begin code bound m t (Some (i.Write file)) =
    on_three m (λ x y z below. requests m t (write_of m.store file (int_in x) (int_in y) (place_in z)) below) m.current.operands

-- the front of the ready list runs, which is no instruction, or the core waits
abbrev pub dispatched : Flat → List Item → Move Flat FlatEnd
dispatched m [] = ends (seen_of word.Stalled true m) m.count
dispatched m (t ∷ ready) =
    if_turn (told m.count) m.store.globals m.operations m.shared
    (On (record m {
      shared = with_turn m.shared;
      running = Some t;
      current = thread_at m.threads t;
      ready = ready;
      threads = slice_set m.threads t.number nobody;
    }))

-- no thread runs: an entry comes in, or the front of the ready list runs
abbrev pub rests : Flat → Move Flat FlatEnd
rests m = point (told m.count) m.shared m.store m.operations (λ shared x. On (arrived m shared x)) (dispatched m m.ready)

-- one instruction of the running thread, or what happens where none runs
abbrev pub exec_of : Parts → ℕ → Flat → Option Item → Move Flat FlatEnd
exec_of code bound m None = rests m
exec_of code bound m (Some t) = begin code bound m t (slice_get code.instrs m.current.place)

abbrev pub exec : Parts → ℕ → Flat → Move Flat FlatEnd
exec code bound m = exec_of code bound m m.running

-- ---- the beginning

abbrev pub with_starts : List Start → List ℤ → List ℤ
with_starts [] globals = globals
with_starts (x ∷ starts) globals = with_starts starts (slice_set globals x.slot x.value)

abbrev pub first_globals : Parts → List ℤ
first_globals code = with_starts code.starts (replicate code.globals (pos 0))

abbrev pub first_item : Item
first_item = record { number = 0 }

-- a core whose one thread is about to enter a function, in the frame that is made for it
abbrev pub first_core : Entered → Shared → Store → Flat
first_core function s store =
    record {
      shared = s;
      store = store;
      operations = [];
      running = None;
      current = nobody;
      ready = first_item ∷ [];
      threads = record nobody { place = function.at } ∷ [];
      blocks = [];
      count = 0;
    }

-- before its first step the whole journal is to come, and its requests have their link
abbrev pub shared_at_first : Parts → ℕ → List Entry → Shared
shared_at_first code core journal = first_shared (request_link (length code.ends) core) journal

-- where its words are over their limit, the core has ended before its first step
abbrev pub first_flat : Parts → ℕ → Entered → List Entry → Move Flat FlatEnd
first_flat code core function journal =
    begins (told 0) (first_globals code) (shared_at_first code core journal) function.words (λ store.
    On (first_core function (shared_at_first code core journal) store))

-- the code of the core, with at most so many steps, comes to this end under this journal
pub record Runs (code : Parts) (core bound : ℕ) (journal : List Entry) (end : FlatEnd) : Type 0 where
  pub function : Entered
  pub begins : Begins code core function
  pub comes : ComesTo (exec code bound) (first_flat code core function journal) end
