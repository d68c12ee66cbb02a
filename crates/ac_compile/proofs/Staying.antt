-- A program that was accepted stays as it was.
-- Its calls stand alone without its names too (StandingAlone); so its statements go by plain steps (Plainly), its runs are plain (PlainRuns) and
-- so is its code (PlainCoding).
use Rattle.ac_commands.specs.declared.command.Command.{Command}
use Rattle.ac_commands.specs.declared.program.Resolved.{Resolved}
use Rattle.ac_resolve.specs.Resolution.{resolved}
use Rattle.ac_compile.specs.Alone.{IsAlone, AreAlone}
use Rattle.ac_compile.specs.Earlier.{IsPlainStep, EarlierProgramsStay}
use Rattle.ac_compile.proofs.Plainly.{does_plainly, goes_on_plainly}
use Rattle.ac_compile.proofs.PlainRuns.{runs_plainly}
use Rattle.ac_compile.proofs.PlainCoding.{plainly_coded}
use Rattle.ac_compile.proofs.StandingAlone.{stand_alone}

pub plain_steps : (program : Resolved) (command : Command) → IsAlone command → IsPlainStep program command
plain_steps program command h = record { first = λ frame ws s. does_plainly program command h frame ws s; later = λ frame ws s value. goes_on_plainly program command h frame ws s value }

pub programs_stay : EarlierProgramsStay
programs_stay p h =
    let alone : AreAlone (resolved p) = stand_alone p h.1 in
    record { accepted = h.0; alone = alone; steps = plain_steps (resolved p); runs = runs_plainly (resolved p) alone; code = plainly_coded (resolved p) alone }
