use Rattle.std.proofs.Common.{◌≡◌, true, ap, subst, ◌∙◌}
use Rattle.ac_base.specs.declared.entry.Event.TheVariants as event
use Rattle.core_state.specs.Arrivals.{offers_on}
use Rattle.core_machine.specs.Points.{offer_carries}
use Rattle.core_machine.proofs.Points.{come_less, come_sound, has_come, operations_there, roomed_by, oldest_carries, journal_by}
use Rattle.core_machine.proofs.machine.CoreMachine.offered.Goals as goal

pub offered-requires-clause-room : goal.offered-requires-clause-room
offered-requires-clause-room c = (roomed_by c.self.inside.running c.args.self.now c.self.view_is c.requires.room).journal

pub offered-requires-clause-next : goal.offered-requires-clause-next
offered-requires-clause-next c = c.requires.next ∙ ap (offers_on c.args.link) (journal_by c.self.inside.running c.args.self.now c.self.view_is)

pub offered-requires-clause-oldest : goal.offered-requires-clause-oldest
offered-requires-clause-oldest c = (oldest_carries c.self.inside.running.outstanding.operations c.args.link c.args.payload
    (subst (λ os. offer_carries os c.args.link c.args.payload ≡ true) (operations_there c.self.inside.running c.args.self.now c.self.view_is c.requires.point) c.requires.oldest)).1

pub offered-requires-clause-some : goal.offered-requires-clause-some
offered-requires-clause-some c = (oldest_carries c.self.inside.running.outstanding.operations c.args.link c.args.payload
    (subst (λ os. offer_carries os c.args.link c.args.payload ≡ true) (operations_there c.self.inside.running c.args.self.now c.self.view_is c.requires.point) c.requires.oldest)).0

pub invariant_of-self : goal.invariant_of-self
invariant_of-self c = come_sound c.self.inside.running c.offered.new.self (event.Offer c.args.link c.args.number c.args.payload) c.args.stamp c.args.self.now c.self.view_is
    c.self.invariant c.requires.point c.offered.ensures.enters

pub returns-clause-come : goal.returns-clause-come
returns-clause-come c = has_come c.self.inside.running c.offered.new.self (event.Offer c.args.link c.args.number c.args.payload) c.args.stamp c.args.self.now c.self.view_is
    c.self.invariant c.requires.point c.offered.ensures.enters

pub returns-clause-less : goal.returns-clause-less
returns-clause-less c = come_less c.self.inside.running c.offered.new.self (event.Offer c.args.link c.args.number c.args.payload) c.args.stamp c.args.self.now c.self.view_is
    c.self.invariant c.requires.point c.offered.ensures.enters

pub returns-clause-run : goal.returns-clause-run
returns-clause-run c = (come_sound c.self.inside.running c.offered.new.self (event.Offer c.args.link c.args.number c.args.payload) c.args.stamp c.args.self.now c.self.view_is
    c.self.invariant c.requires.point c.offered.ensures.enters).ran
