-- The runs of a core whose statements go by their plain steps; all else is as in any run.
use Rattle.std.specs.Prelude.{ℕ, List, ◌∷◌, Option, Some, None, ◌↔◌}
use Rattle.ac_base.specs.declared.ends.CoreEnd.{CoreEnd}
use Rattle.ac_base.specs.declared.entry.Entry.{Entry}
use Rattle.work_item.specs.declared.ids.Item.{Item}
use Rattle.core_state.specs.Moves.{Move, ComesTo}
use Rattle.ac_commands.specs.declared.program.Function.{Function}
use Rattle.ac_commands.specs.declared.program.Resolved.{Resolved}
use Rattle.ac_semantics.specs.Held.{Held, stepped}
use Rattle.ac_semantics.specs.Work.{Work, Do, Given, ahead}
use Rattle.ac_semantics.specs.Statements.{Next, if_step, next_at}
use Rattle.ac_semantics.specs.Threads.{CoreState, applied, rests, first_state}
use Rattle.ac_semantics.specs.Replay.{Enters, Replays}
use Rattle.ac_compile.specs.Plain.{plain_does, plain_goes_on}

abbrev pub plain_next_at : Resolved → ℕ → List Work → Held → Next
plain_next_at program bound (Do frame command ∷ ws) s = if_step bound s (plain_does program command frame ws (stepped s))
plain_next_at program bound (Given value frame command around ∷ ws) s = plain_goes_on program command frame ws s value
plain_next_at program bound ws s = next_at program bound ws s

abbrev pub plain_step_of : Resolved → ℕ → CoreState → Option Item → Move CoreState (Option CoreEnd)
plain_step_of program bound c None = rests c
plain_step_of program bound c (Some t) = applied c t (plain_next_at program bound (ahead c.work) c.held)

abbrev pub plain_step : Resolved → ℕ → CoreState → Move CoreState (Option CoreEnd)
plain_step program bound c = plain_step_of program bound c c.running

-- the core comes plainly to this end
pub record ReplaysPlainly (program : Resolved) (core bound : ℕ) (journal : List Entry) (end : Option CoreEnd) : Type 0 where
  pub function : Function
  pub enters : Enters program core function
  pub ends : ComesTo (plain_step program bound) (first_state program core function journal) end

-- each core comes to just the ends to which it comes plainly, with every bound on steps and under every journal
abbrev pub RunsPlainly : Resolved → Type 0
RunsPlainly program =
    (core bound : ℕ) (journal : List Entry) (end : Option CoreEnd)
    → Replays program core bound journal end ↔ ReplaysPlainly program core bound journal end
