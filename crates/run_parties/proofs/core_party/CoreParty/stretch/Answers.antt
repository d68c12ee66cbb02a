use Rattle.std.proofs.Common.{◌≤◌, sym, subst}
use Rattle.ac_links.specs.Journals.{last_of}
use Rattle.code_safety.specs.KeptEnds.{KeepsEnds}
use Rattle.core_machine.specs.Machine.{ComesToEnd}
use Rattle.run_parties.specs.Seats.{CoreSeat}
use Rattle.run_parties.specs.Seated.{seat_of}
use Rattle.run_parties.proofs.Advancing.{not_before, full_tells}
use Rattle.run_parties.proofs.core_party.CoreParty.stretch.Goals as goal

pub returns-in_err-went-clause-rises : goal.returns-in_err-went-clause-rises
returns-in_err-went-clause-rises c =
    let new : CoreSeat = record { driven = c.advance-went.new.self; ports = c.advance-went.new.ports } in
    subst (λ (s : CoreSeat). last_of 0 s.driven.machine.journal ≤ last_of 0 new.driven.machine.journal) c.self.view_is
    (not_before (seat_of c.self.inside) new c.in_err-went.ensures.later c.in_err-went.ensures.agrees)

pub returns-clause-rises : goal.returns-clause-rises
returns-clause-rises c =
    let new : CoreSeat = record { driven = c.advance-went.new.self; ports = c.advance-went.new.ports } in
    subst (λ (s : CoreSeat). last_of 0 s.driven.machine.journal ≤ last_of 0 new.driven.machine.journal) c.self.view_is
    (not_before (seat_of c.self.inside) new c.in_ok-went.ensures.later c.in_ok-went.ensures.agrees)

pub invariant_of-self-2 : goal.invariant_of-self-2
invariant_of-self-2 c =
    let old = seat_of c.self.inside in
    let new : CoreSeat = record { driven = c.advance-went.new.self; ports = c.advance-went.new.ports } in
    let e = c.in_ok-went.ensures in
    let comes = subst ComesToEnd c.machine.ensures c.ending-ending.ensures.comes in
    record {
      ports = e.ports;
      agrees = e.agrees;
      keeps = subst KeepsEnds (sym e.later.code) c.self.invariant.keeps;
      full = full_tells old new e.later e.agrees c.in_ok-went.field-0 (λ h. ((e.for_good h).1, (e.for_good h).2)) e.heard e.full comes c.self.invariant.full;
    }
