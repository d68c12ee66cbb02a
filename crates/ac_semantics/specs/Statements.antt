-- What the next step of a thread comes to, by the work that it has.
use Rattle.std.specs.Prelude.{ℕ, ℤ, pos, List, [], ◌∷◌, map, replicate, reverse, Option, Some}
use Rattle.std.specs.Prelude.{None, nat_lt, slice_get, slice_index_or, Result, Ok, Err, if◌then◌else◌}
use Rattle.ac_base.specs.declared.ends.Trap.{Trap}
use Rattle.ac_base.specs.declared.ends.EndWord.{EndWord}
use Rattle.ac_base.specs.declared.ends.EndWord.TheVariants as word
use Rattle.work_item.specs.declared.ids.FrameId.{FrameId}
use Rattle.work_item.specs.declared.ids.BlockId.{BlockId}
use Rattle.work_item.specs.declared.cell.Cell.{Cell}
use Rattle.work_item.specs.declared.cell.Cell.TheVariants as cell
use Rattle.work_item.specs.Store.{Store, cell_at, no_int, int_in, place_in, next_frame, with_cell_at, with_cleared, with_global, released}
use Rattle.cancel_scope.specs.declared.operation.Asked.{Asked}
use Rattle.cancel_scope.specs.declared.operation.Asked.TheVariants as asked
use Rattle.core_state.specs.Arithmetic.{at_zero}
use Rattle.core_state.specs.Frames.{set_element, begun, begun_with, block_in}
use Rattle.core_state.specs.Shared.{printed, formatted}
use Rattle.core_state.specs.Messages.{message_in}
use Rattle.core_state.specs.Requests.{read_of, write_of}
use Rattle.ac_commands.specs.declared.value.Value.{Value}
use Rattle.ac_commands.specs.declared.value.Value.TheVariants as v
use Rattle.ac_commands.specs.declared.value.Place.{Place}
use Rattle.ac_commands.specs.declared.value.Place.TheVariants as p
use Rattle.ac_commands.specs.declared.value.Action.TheVariants.{Call, Send, Recv, Read, Write}
use Rattle.ac_commands.specs.declared.command.Target.{Target}
use Rattle.ac_commands.specs.declared.command.Target.TheVariants as t
use Rattle.ac_commands.specs.declared.command.Command.{Command, out-Command}
use Rattle.ac_commands.specs.declared.command.Command.TheOpen.{Command-F}
use Rattle.ac_commands.specs.declared.program.Function.{Function}
use Rattle.ac_commands.specs.declared.program.Resolved.{Resolved}
use Rattle.ac_semantics.specs.Evaluation.{Acting, Ending, Context, Evaluated, Comes, Traps, Stops, row_goes, resumes}
use Rattle.ac_semantics.specs.Held.{Held, with_shared, with_store, stepped, next_block, entered}
use Rattle.ac_semantics.specs.Work.{Work, Do, Pend, Given, CallOff, Turn, Close, Back, Leave, End}
use Rattle.ac_semantics.specs.Work.{before, ahead, past_loop, at_turn, given}

-- What a step comes to. Where it has no meaning, no case of these, the core stays where it is, and comes to no end.
pub data Next : Type 0 where
  Goes : Held → List Work → Next
  -- the core has ended
  Ends : EndWord → Held → Next
  -- a thread is started in this frame with this work; its creator has the other
  Starts : Held → FrameId → List Work → List Work → Next
  Yields : Held → List Work → Next
  -- the thread arrives at the finish of a block
  Arrives : BlockId → Held → List Work → Next
  -- the thread cancels a block: it has the first work while an operation within it is left to try, and then the other
  Cancels : BlockId → Held → List Work → List Work → Next
  -- the thread starts an operation on that link, and waits for its end where it stands in no cancelled block
  Operates : ℕ → Asked → Held → List Work → Next
  -- the thread has ended, and its frame is given back
  Dies : FrameId → Held → Next
  Stays : Next

-- goes on from what is computed, and a trap ends the core
abbrev pub or_trap : {A : Type 0} → Held → Result A Trap → (A → Next) → Next
or_trap s (Ok x) go = go x
or_trap s (Err trap) go = Ends (word.Trapped trap) s

-- ---- operands of a statement

-- after the value, what the place needs into which it is put
abbrev pub target_operands : Target → List Value
target_operands (t.Variable place) = []
target_operands (t.Element array index) = v.Reference array ∷ index ∷ []

abbrev pub some_operand : Option Value → List Value
some_operand None = []
some_operand (Some x) = x ∷ []

-- the expressions of a statement, in the order in which they are computed
abbrev pub operands_of : {A : Type 0} → Command-F A → List Value
operands_of (Command-F.Set target value) = value ∷ target_operands target
operands_of (Command-F.Run value) = value ∷ []
operands_of (Command-F.Print text args) = args
operands_of (Command-F.If test body other) = test ∷ []
operands_of (Command-F.While test body) = test ∷ []
operands_of (Command-F.For test next body) = some_operand test
operands_of (Command-F.Return value) = some_operand value
operands_of _ = []

-- the last of them, and the one before it; the last is the first
abbrev pub last_of : List Cell → Cell
last_of [] = no_int
last_of (x ∷ operands) = x

abbrev pub before_last : List Cell → List Cell
before_last [] = []
before_last (x ∷ operands) = operands

-- ---- what a statement does with its operands

abbrev pub with_variable : Store → FrameId → Place → ℤ → Store
with_variable store frame (p.Global slot) value = with_global store slot value
with_variable store frame (p.Local level slot) value = with_cell_at store frame level slot (cell.Int value)

-- an int, below what its place needs
abbrev pub put_in : Target → List Cell → FrameId → Store → Result Store Trap
put_in (t.Variable place) operands frame store = Ok (with_variable store frame place (int_in (last_of operands)))
put_in (t.Element array index) operands frame store =
    set_element store (place_in (last_of (before_last operands))) (int_in (last_of operands))
    (int_in (last_of (before_last (before_last operands))))

-- the innermost call gives a value, and its frame is over
abbrev pub returns : ℤ → List Work → Held → Next
returns value [] s = Stays
returns value (Back own ∷ ws) s = Goes (with_store s (released s.store own)) (given (cell.Int value) ws)
returns value (Leave ∷ ws) s = Ends word.Finished s
returns value (_ ∷ ws) s = returns value ws s

-- the value of a `return`; without one it is 0
abbrev pub value_or_zero : Option Value → List Cell → ℤ
value_or_zero None operands = pos 0
value_or_zero (Some x) operands = int_in (last_of operands)

abbrev pub some_body : Option (List Command) → List Command
some_body None = []
some_body (Some body) = body

-- a missing test is true
abbrev pub test_or_true : Option Value → List Cell → ℤ
test_or_true None operands = pos 1
test_or_true (Some test) operands = int_in (last_of operands)

abbrev pub loops : ℤ → Command → List Command → FrameId → List Work → Held → Next
loops test loop body frame ws s = Goes s (at_zero test ws (before frame body (Turn frame loop ∷ ws)))

-- a statement by its form
abbrev pub finish_form : Resolved → Command → Command-F Command → List Cell → FrameId → List Work → Held → Next
finish_form program self Command-F.Nothing operands frame ws s = Goes s ws
finish_form program self (Command-F.Set target value) operands frame ws s =
    or_trap s (put_in target operands frame s.store) (λ store. Goes (with_store s store) ws)
finish_form program self (Command-F.Clear slot len) operands frame ws s = Goes (with_store s (with_cleared s.store frame slot len)) ws
finish_form program self (Command-F.Run value) operands frame ws s = Goes s ws
finish_form program self (Command-F.Print text args) operands frame ws s =
    or_trap s (printed s.shared (formatted (slice_index_or program.texts text []) (map int_in (reverse operands))))
    (λ shared. Goes (with_shared s shared) ws)
finish_form program self (Command-F.If test body other) operands frame ws s =
    Goes s (at_zero (int_in (last_of operands)) (before frame (some_body other) ws) (before frame body ws))
finish_form program self (Command-F.While test body) operands frame ws s = loops (int_in (last_of operands)) self body frame ws s
finish_form program self (Command-F.For test next body) operands frame ws s = loops (test_or_true test operands) self body frame ws s
finish_form program self Command-F.Break operands frame ws s = Goes s (past_loop ws)
finish_form program self Command-F.Continue operands frame ws s = Goes s (at_turn ws)
finish_form program self (Command-F.Return value) operands frame ws s = returns (value_or_zero value operands) ws s
finish_form program self (Command-F.Do slot body) operands frame ws s =
    Goes (entered s frame slot) (before frame body (Close (next_block s) ∷ ws))
finish_form program self (Command-F.Async slots body) operands frame ws s =
    or_trap s (begun s.store (Some frame) (replicate slots no_int)) (λ store.
    Starts (with_store s store) (next_frame s.store) (before (next_frame s.store) body (End (next_frame s.store) ∷ [])) ws)
finish_form program self (Command-F.Cancel level slot) operands frame ws s = Goes s (CallOff frame level slot ∷ ws)
finish_form program self Command-F.Yield operands frame ws s = Yields s ws

abbrev pub finish : Resolved → Command → List Cell → FrameId → List Work → Held → Next
finish program command operands frame ws s = finish_form program command (out-Command command) operands frame ws s

-- ---- calls

-- of the arguments, the last is the first
abbrev pub calls : Option Function → List Cell → List Work → Held → Next
calls None operands ws s = Stays
calls (Some f) operands ws s =
    or_trap s (begun_with s.store f.params f.slots (reverse operands)) (λ store.
    Goes (with_store s store) (before (next_frame s.store) f.body (Back (next_frame s.store) ∷ ws)))

-- ---- requests

-- what a read or a write asks for starts on the core's own link, where its range is right
abbrev pub requests : Result Asked Trap → List Work → Held → Next
requests it ws s = or_trap s it (λ asked. Operates s.shared.requests asked s ws)

-- a request has a place in its file, a length and an array, in this order
abbrev pub place_operand : List Cell → ℤ
place_operand operands = int_in (last_of (before_last (before_last operands)))

abbrev pub length_operand : List Cell → ℤ
length_operand operands = int_in (last_of (before_last operands))

-- ---- statements

-- a statement goes on with what its operands come to
abbrev pub settles : Resolved → Command → FrameId → List Work → Held → Evaluated → Next
settles program command frame ws s (Comes value) = Stays
settles program command frame ws s (Traps trap) = Ends (word.Trapped trap) s
settles program command frame ws s (Stops Ending operands around) = finish program command operands frame ws s
settles program command frame ws s (Stops (Acting (Call function)) operands around) =
    calls (slice_get program.functions function) operands (Pend frame command around ∷ ws) s
settles program command frame ws s (Stops (Acting (Send channel)) operands around) =
    Operates channel (asked.Send (message_in s.store (last_of operands))) s (Pend frame command around ∷ ws)
settles program command frame ws s (Stops (Acting (Recv channel)) operands around) =
    Operates channel (asked.Recv (place_in (last_of operands))) s (Pend frame command around ∷ ws)
settles program command frame ws s (Stops (Acting (Read file)) operands around) =
    requests (read_of file (place_operand operands) (length_operand operands) (place_in (last_of operands)))
    (Pend frame command around ∷ ws) s
settles program command frame ws s (Stops (Acting (Write file)) operands around) =
    requests (write_of s.store file (place_operand operands) (length_operand operands) (place_in (last_of operands)))
    (Pend frame command around ∷ ws) s

-- a statement, whose step is used
abbrev pub does : Resolved → Command → FrameId → List Work → Held → Next
does program command frame ws s =
    settles program command frame ws s (row_goes s.store frame Ending [] (operands_of (out-Command command)) [])

-- the same, where the value has come for which it has waited
abbrev pub goes_on_with : Resolved → Cell → Command → List Context → FrameId → List Work → Held → Next
goes_on_with program value command around frame ws s = settles program command frame ws s (resumes s.store frame around value)

-- with a step if there is one left, and else out of steps
abbrev pub if_step : ℕ → Held → Next → Next
if_step bound s next = if nat_lt s.shared.steps bound then next else Ends word.OutOfSteps s

-- the next step
abbrev pub next_at : Resolved → ℕ → List Work → Held → Next
next_at program bound [] s = Stays
next_at program bound (Do frame command ∷ ws) s = if_step bound s (does program command frame ws (stepped s))
next_at program bound (CallOff frame level slot ∷ ws) s =
    Cancels (block_in (cell_at s.store frame level slot)) s (CallOff frame level slot ∷ ws) ws
next_at program bound (Turn frame loop ∷ ws) s = Stays
next_at program bound (Close block ∷ ws) s = if_step bound s (Arrives block (stepped s) ws)
next_at program bound (Back own ∷ ws) s = returns (pos 0) (Back own ∷ ws) s
next_at program bound (Pend frame command around ∷ ws) s = Stays
next_at program bound (Given value frame command around ∷ ws) s = goes_on_with program value command around frame ws s
next_at program bound (Leave ∷ ws) s = Ends word.Finished s
next_at program bound (End frame ∷ ws) s = Dies frame s

abbrev pub next_of : Resolved → ℕ → List Work → Held → Next
next_of program bound ws s = next_at program bound (ahead ws) s
