use Rattle.std.proofs.Common.{◌≢◌, ◌+◌, Option, Some, IsSome, sym, ◌∙◌, subst, slice_index_or}
use Rattle.stack_code.specs.declared.instr.Instr.TheVariants as i
use Rattle.core_machine.specs.declared.tried.Tried.{Tried}
use Rattle.core_machine.specs.declared.went.Follows.TheVariants.{Asks, Refused}
use Rattle.core_machine.specs.Tried.{cancelled_by, tried_within}
use Rattle.core_machine.specs.State.{flat_of, IsSound}
use Rattle.core_machine.specs.inner.Changes.{Places, Stays, Continues, at_address}
use Rattle.core_machine.specs.inner.Led.{IsLed, DoesOn}
use Rattle.core_machine.proofs.Sound.{keeps_at, code_of, is_item, asks_at}
use Rattle.core_machine.proofs.Follows.{of_asks, of_done, of_ok, of_refused, of_same}
use Rattle.core_machine.proofs.Seats.{has_seat}
use Rattle.core_machine.proofs.Pushed.{LeadsOn, at_comparison, does_on, went_on}
use Rattle.core_machine.proofs.running.Running.one.Goals as goal

pub execute-requires-clause-places : goal.execute-requires-clause-places
execute-requires-clause-places c = c.requires.sound.places c.requires.running

pub execute-requires-clause-seat : goal.execute-requires-clause-seat
execute-requires-clause-seat c = has_seat (at_address c.args.self.now c.args.address.now) c.requires.running c.requires.runs c.requires.sound

pub execute-requires-clause-next : goal.execute-requires-clause-next
execute-requires-clause-next c compares =
    let m = at_address c.args.self.now c.args.address.now in
    (at_comparison m c.requires.running c.requires.runs c.requires.sound c.args.instr.now c.requires.here compares c.args._ranks.now c.requires.ranked c.args.instrs.now
    c.requires.instrs).within

pub returns-clause-asks : goal.returns-clause-asks
returns-clause-asks c e =
    let m = at_address c.args.self.now c.args.address.now in
    let t = is_item m.schedule.running c.requires.runs in
    let there = of_asks (IsSome (tried_within (flat_of m) (cancelled_by (flat_of m) (Some c.args.instr.now)))) c.execute.result c.execute.ensures.asks
    (sym c.how_on.ensures ∙ e) in
    subst (λ (o : Option Tried). IsSome o) (sym (asks_at m t.0 c.args.instr.now c.requires.running t.1 c.requires.here)) there

pub returns-clause-stays : goal.returns-clause-stays
returns-clause-stays c e =
    let m = at_address c.args.self.now c.args.address.now in
    let n = at_address c.execute.new.self c.execute.new.address in
    of_asks (Stays m n) c.execute.result c.execute.ensures.stays (sym c.how_on.ensures ∙ e)

-- what is known where it was done
done : (c : goal.After-how_on) → c.how_on.result ≢ Asks → c.how_on.result ≢ Refused
    → LeadsOn c.args._ranks.now (at_address c.args.self.now c.args.address.now) (at_address c.execute.new.self c.execute.new.address)
done c asks refused =
    let m = at_address c.args.self.now c.args.address.now in
    let n = at_address c.execute.new.self c.execute.new.address in
    let next = slice_index_or c.args.instrs.now (m.place + 1) i.Step in
    let does = of_done (DoesOn m c.args.instr.now next n) c.execute.result c.execute.ensures.ok (λ e. asks (c.how_on.ensures ∙ e)) (λ e. refused (c.how_on.ensures ∙ e)) in
    let places = of_ok (Places m c.args.instr.now n) c.execute.result c.execute.ensures.places (λ e. refused (c.how_on.ensures ∙ e)) in
    does_on m c.requires.running c.requires.runs c.requires.sound c.args.instr.now c.requires.here c.args._ranks.now c.requires.ranked c.args.instrs.now c.requires.instrs n does
    places (keeps_at c.args.self.now c.execute.new.self c.args.address.now c.execute.new.address c.execute.ensures.keeps)

went : (c : goal.After-how_on)
    → IsLed (at_address c.args.self.now c.args.address.now) (at_address c.execute.new.self c.execute.new.address) × IsSound (at_address c.execute.new.self c.execute.new.address)
went c =
    let m = at_address c.args.self.now c.args.address.now in
    let n = at_address c.execute.new.self c.execute.new.address in
    let kept = keeps_at c.args.self.now c.execute.new.self c.args.address.now c.execute.new.address c.execute.ensures.keeps in
    went_on m n c.how_on.result c.args._ranks.now c.requires.sound (code_of m n kept) (done c)
    (λ e. of_asks (Stays m n) c.execute.result c.execute.ensures.stays (sym c.how_on.ensures ∙ e))
    (λ e. of_refused (Stays m n) c.execute.result c.execute.ensures.err (sym c.how_on.ensures ∙ e))

pub returns-clause-led : goal.returns-clause-led
returns-clause-led c = (went c).0

pub returns-clause-sound : goal.returns-clause-sound
returns-clause-sound c = (went c).1

pub returns-clause-less : goal.returns-clause-less
returns-clause-less c asks refused = (done c asks refused).1.1

pub returns-clause-continues : goal.returns-clause-continues
returns-clause-continues c e =
    of_same (Continues c.args.self.now c.execute.new.self) c.execute.result c.execute.ensures.continues (sym c.how_on.ensures ∙ e)
