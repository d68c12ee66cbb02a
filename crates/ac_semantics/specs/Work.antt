-- What a thread has still to do.
use Rattle.std.specs.Prelude.{ℕ, List, [], ◌∷◌}
use Rattle.work_item.specs.declared.ids.FrameId.{FrameId}
use Rattle.work_item.specs.declared.ids.BlockId.{BlockId}
use Rattle.work_item.specs.declared.cell.Cell.{Cell}
use Rattle.ac_commands.specs.declared.command.Command.{Command, out-Command}
use Rattle.ac_commands.specs.declared.command.Command.TheOpen.{Command-F}
use Rattle.ac_semantics.specs.Evaluation.{Context}

-- statements, each with the frame in which it runs, and what is left of loops, calls and blocks
pub data Work : Type 0 where
  Do : FrameId → Command → Work
  -- a statement that waits for a value, and what is round the place where it will stand
  Pend : FrameId → Command → List Context → Work
  -- the same, where this value has come
  Given : Cell → FrameId → Command → List Context → Work
  -- a cancel that goes on, of the block whose number stands in that slot so many levels up
  CallOff : FrameId → ℕ → ℕ → Work
  -- the end of a loop's body
  Turn : FrameId → Command → Work
  -- the finish of a block that was entered
  Close : BlockId → Work
  -- the end of a called function that runs in this frame; a statement that waits comes next
  Back : FrameId → Work
  -- the end of the core's entry
  Leave : Work
  -- the end of an async body that runs in this frame
  End : FrameId → Work

-- statements in front of other work
abbrev pub before : FrameId → List Command → List Work → List Work
before frame [] ws = ws
before frame (x ∷ xs) ws = Do frame x ∷ before frame xs ws

-- what a loop does between its body and its test
abbrev pub next_in : Command-F Command → List Command
next_in (Command-F.For test next body) = next
next_in _ = []

abbrev pub next_part : Command → List Command
next_part loop = next_in (out-Command loop)

-- the work from its next step on: after its body a loop goes on with its next part and its test
abbrev pub ahead : List Work → List Work
ahead (Turn frame loop ∷ ws) = before frame (next_part loop) (Do frame loop ∷ ws)
ahead ws = ws

-- what is left when the innermost loop is left, and at the end of its body
abbrev pub past_loop : List Work → List Work
past_loop [] = []
past_loop (Turn frame loop ∷ ws) = ws
past_loop (_ ∷ ws) = past_loop ws

abbrev pub at_turn : List Work → List Work
at_turn [] = []
at_turn (Turn frame loop ∷ ws) = Turn frame loop ∷ ws
at_turn (_ ∷ ws) = at_turn ws

-- the blocks that a thread with this work has entered and not left, the innermost first
abbrev pub closes : List Work → List BlockId
closes [] = []
closes (Close block ∷ ws) = block ∷ closes ws
closes (_ ∷ ws) = closes ws

-- the value for which the first statement waits has come
abbrev pub given : Cell → List Work → List Work
given value (Pend frame command around ∷ ws) = Given value frame command around ∷ ws
given value ws = ws
