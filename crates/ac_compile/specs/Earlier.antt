-- Programs that were accepted while each call and each operation had to stand alone: they are accepted, and have the runs and the code that
-- they had.
use Rattle.std.specs.Prelude.{◌≡◌, List, [], ◌∷◌}
use Rattle.ac_tree.specs.declared.item.Program.{Program}
use Rattle.work_item.specs.declared.ids.FrameId.{FrameId}
use Rattle.work_item.specs.declared.cell.Cell.{Cell}
use Rattle.ac_types.specs.Reached.{BreaksNone}
use Rattle.ac_commands.specs.declared.command.Command.{Command}
use Rattle.ac_commands.specs.declared.program.Resolved.{Resolved}
use Rattle.ac_resolve.specs.Resolution.{resolved}
use Rattle.ac_semantics.specs.Evaluation.{Ending, Operands}
use Rattle.ac_semantics.specs.Held.{Held}
use Rattle.ac_semantics.specs.Work.{Work}
use Rattle.ac_semantics.specs.Statements.{does, goes_on_with}
use Rattle.ac_compile.specs.StandAlone.{StandAlone}
use Rattle.ac_compile.specs.Alone.{IsAlone, AreAlone}
use Rattle.ac_compile.specs.Plain.{waits_for, plain_does, plain_goes_on}
use Rattle.ac_compile.specs.PlainRuns.{RunsPlainly}
use Rattle.ac_compile.specs.PlainCode.{HasPlainCode}

-- by the rules of today and the one that was taken away
abbrev pub WasAccepted : Program → Type 0
WasAccepted p = BreaksNone p.items × StandAlone p

-- what a statement does is its plain step: at once, and when the value has come for which it waits
pub record IsPlainStep (program : Resolved) (command : Command) : Type 0 where
  pub first : (frame : FrameId) (ws : List Work) (s : Held)
      → does program command frame ws s ≡ plain_does program command frame ws s
  pub later : (frame : FrameId) (ws : List Work) (s : Held) (value : Cell)
      → goes_on_with program value command (Operands Ending [] (waits_for command) ∷ []) frame ws s
      ≡ plain_goes_on program command frame ws s value

-- It is accepted, and each call and each operation stands alone without its names too. So whatever a statement with such calls does is its
-- plain step, the runs of its cores are plain ones, and so is its code.
pub record StaysAsItWas (p : Program) : Type 0 where
  pub accepted : BreaksNone p.items
  pub alone : AreAlone (resolved p)
  pub steps : (command : Command) → IsAlone command → IsPlainStep (resolved p) command
  pub runs : RunsPlainly (resolved p)
  pub code : HasPlainCode (resolved p)

abbrev pub EarlierProgramsStay : Type 0
EarlierProgramsStay = (p : Program) → WasAccepted p → StaysAsItWas p
