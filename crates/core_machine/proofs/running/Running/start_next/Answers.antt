use Rattle.std.proofs.Common.{refl, sym}
use Rattle.core_machine.specs.State.{flat_of}
use Rattle.core_machine.proofs.Lives.{has_next}
use Rattle.core_machine.proofs.Passing.{dispatch_passes}
use Rattle.core_machine.proofs.Sound.{still_sound, next_placed, keeps_code, less, goes_on, stays_there}
use Rattle.core_machine.proofs.running.Running.start_next.Goals as goal

pub dispatch-requires-clause-next : goal.dispatch-requires-clause-next
dispatch-requires-clause-next c = has_next (flat_of c.args.self.now) c.requires.idle c.requires.active

pub dispatch-requires-clause-places : goal.dispatch-requires-clause-places
dispatch-requires-clause-places c = c.requires.sound.places c.requires.running

pub returns-clause-goes : goal.returns-clause-goes
returns-clause-goes c =
    let m = c.args.self.now in
    goes_on m m c.dispatch.new.self (record { code = refl; core = refl; bound = refl; seats = λ h. h }) c.requires.running (stays_there m m refl) c.dispatch.ensures.does

pub returns-clause-passes : goal.returns-clause-passes
returns-clause-passes c = dispatch_passes c.args.self.now c.dispatch.new.self c.requires.running c.dispatch.ensures.does

pub returns-clause-sound : goal.returns-clause-sound
returns-clause-sound c =
    let m = c.args.self.now in
    let kept = keeps_code m c.dispatch.new.self c.dispatch.ensures.keeps in
    still_sound m c.dispatch.new.self c.requires.running c.requires.sound kept (sym c.dispatch.ensures.does) c.args._ranks.now c.requires.ranked
    (next_placed m c.dispatch.new.self c.requires.running c.requires.sound kept (sym c.dispatch.ensures.does) c.requires.idle c.dispatch.ensures.keeps.lives)

pub returns-clause-less : goal.returns-clause-less
returns-clause-less c =
    let kept = keeps_code c.args.self.now c.dispatch.new.self c.dispatch.ensures.keeps in
    less c.args.self.now c.dispatch.new.self c.requires.running c.requires.sound kept (sym c.dispatch.ensures.does) c.args._ranks.now c.requires.ranked
