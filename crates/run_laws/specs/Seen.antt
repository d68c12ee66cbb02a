-- A driver as a core of a run.
use Rattle.std.specs.Prelude.{[], Option, Some, None, false}
use Rattle.ac_base.specs.declared.ends.CoreEnd.{CoreEnd}
use Rattle.ac_base.specs.declared.ends.EndWord.TheVariants.{Stalled}
use Rattle.ac_base.specs.declared.ends.MachineEnd.{MachineEnd}
use Rattle.core_state.specs.Moves.{Move, On, Over}
use Rattle.core_state.specs.Shared.{core_end}
use Rattle.code_meaning.specs.Machine.{Flat, FlatEnd}
use Rattle.core_machine.specs.Machine.{is_resting}
use Rattle.core_driver.specs.Driven.{Driven}
use Rattle.run_laws.specs.Cores.{CoreView}

-- a core of which nothing is seen has done nothing
abbrev pub core_or_none : Option CoreEnd → CoreEnd
core_or_none None = record { word = Stalled; steps = 0; output = []; globals = []; waiting = []; idle = false }
core_or_none (Some end) = end

-- what is seen of a machine in this state: its end, or its present state as that of a core that is stalled
abbrev pub end_in : Move Flat FlatEnd → MachineEnd
end_in (On m) = record { core = core_end Stalled (is_resting m) m.store.globals m.operations m.shared; instructions = m.count }
end_in (Over x) = record { core = core_or_none x.core; instructions = x.count }

abbrev pub view_of : Driven → CoreView
view_of d =
    record {
      code = d.machine.code;
      core = d.machine.core;
      bound = d.machine.bound;
      journal = d.machine.journal;
      end = end_in d.machine.state;
    }
