-- What is seen of a driver as a core of a run, by example.
use Rattle.std.proofs.Common.{◌≡◌, refl, [], Some, None, true, false}
use Rattle.ac_base.specs.declared.ends.EndWord.TheVariants.{Stalled}
use Rattle.core_state.specs.Moves.{On, Over}
use Rattle.stack_code.specs.Parts.{Parts}
use Rattle.core_machine.specs.Machine.{Machine}
use Rattle.core_machine.proofs.Examples.{finished, its_end, running}
use Rattle.run_laws.specs.Seen.{core_or_none, end_in, view_of}

pub one_that_goes_on_is_stalled : end_in (On running) ≡ record { core = its_end; instructions = 3 }
one_that_goes_on_is_stalled = refl

pub one_that_has_finished : end_in (Over (record { core = Some finished; count = 4 })) ≡ record { core = finished; instructions = 4 }
one_that_has_finished = refl

pub what_is_seen_of_a_core : (core_or_none (Some finished) ≡ finished)
    × (core_or_none None ≡ record { word = Stalled; steps = 0; output = []; globals = []; waiting = []; idle = false })
what_is_seen_of_a_core = (refl, refl)

module _ (code : Parts) where
  abbrev machine : Machine
  machine = record { code = code; core = 1; bound = 9; journal = []; state = On running; room = true }

  -- whether it has found that all stamps are used is not seen
  pub the_core_of_a_driver : view_of (record { machine = machine; full = false })
      ≡ record { code = code; core = 1; bound = 9; journal = []; end = record { core = its_end; instructions = 3 } }
  the_core_of_a_driver = refl
