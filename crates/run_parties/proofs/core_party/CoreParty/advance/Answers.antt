use Rattle.std.proofs.Common.{◌≡◌, ◌≤◌, false, sym, ap, ◌∙◌, subst}
use Rattle.std.specs.Prelude.{nat_lt}
use Rattle.ac_links.specs.Journals.{last_of}
use Rattle.stack_code.specs.Valid.{IsValid}
use Rattle.code_safety.specs.KeptEnds.{KeepsEnds}
use Rattle.core_machine.specs.Machine.{Machine, ComesToEnd}
use Rattle.core_machine.specs.Points.{KeepsOperations}
use Rattle.run_parties.specs.Seats.{CoreSeat}
use Rattle.run_parties.specs.Moving.{SeatStays}
use Rattle.run_parties.specs.Seated.{seat_of}
use Rattle.run_parties.proofs.Advancing.{not_before, same_journal, seat_stays, full_tells, can_go_no_further}
use Rattle.run_parties.proofs.core_party.CoreParty.advance.Goals as goal

pub returns-in_err-went-clause-rises : goal.returns-in_err-went-clause-rises
returns-in_err-went-clause-rises c =
    let new : CoreSeat = record { driven = c.advance-went.new.self; ports = c.advance-went.new.ports } in
    subst (λ (s : CoreSeat). last_of 0 s.driven.machine.journal ≤ last_of 0 new.driven.machine.journal) c.self.view_is
    (not_before (seat_of c.self.inside) new c.in_err-went.ensures.later c.in_err-went.ensures.agrees)

pub returns-clause-rises : goal.returns-clause-rises
returns-clause-rises c =
    let new : CoreSeat = record { driven = c.advance-went.new.self; ports = c.advance-went.new.ports } in
    subst (λ (s : CoreSeat). last_of 0 s.driven.machine.journal ≤ last_of 0 new.driven.machine.journal) c.self.view_is
    (not_before (seat_of c.self.inside) new c.in_ok-went.ensures.later c.in_ok-went.ensures.agrees)

pub invariant_of-self-2 : goal.invariant_of-self-2
invariant_of-self-2 c =
    let old = seat_of c.self.inside in
    let new : CoreSeat = record { driven = c.advance-went.new.self; ports = c.advance-went.new.ports } in
    let e = c.in_ok-went.ensures in
    let comes = subst ComesToEnd c.machine.ensures c.ending-ending.ensures.comes in
    record {
      ports = e.ports;
      agrees = e.agrees;
      keeps = subst KeepsEnds (sym e.later.code) c.self.invariant.keeps;
      full = full_tells old new e.later e.agrees c.in_ok-went.field-0 (λ h. ((e.for_good h).1, (e.for_good h).2)) e.heard e.full comes c.self.invariant.full;
    }

pub returns-clause-stops : goal.returns-clause-stops
returns-clause-stops c =
    let old = seat_of c.self.inside in
    let new : CoreSeat = record { driven = c.advance-went.new.self; ports = c.advance-went.new.ports } in
    let e = c.in_ok-went.ensures in
    let comes = subst ComesToEnd c.machine.ensures c.ending-ending.ensures.comes in
    let own = subst KeepsOperations c.machine.ensures c.ending-ending.ensures.ends in
    let valid = subst IsValid (c.code.ensures ∙ ap (λ (m : Machine). m.code) c.machine-2.ensures) c.instrs-instrs.ensures.valid in
    let keeps = subst KeepsEnds (sym e.later.code) c.self.invariant.keeps in
    can_go_no_further old new e.later e.agrees c.in_ok-went.field-0 (λ h. ((e.for_good h).1, (e.for_good h).2)) e.heard e.full comes valid keeps own e.pause e.idle c.self.invariant.full

pub returns-clause-rests : goal.returns-clause-rests
returns-clause-rests c = λ none.
    let old = seat_of c.self.inside in
    let new : CoreSeat = record { driven = c.advance-went.new.self; ports = c.advance-went.new.ports } in
    let e = c.in_ok-went.ensures in
    let unrisen : nat_lt (last_of 0 old.driven.machine.journal) (last_of 0 new.driven.machine.journal) ≡ false =
    ap (λ n. nat_lt n (last_of 0 new.driven.machine.journal)) (sym c.last-before.ensures.same) ∙ ap (nat_lt c.last-before.result) (sym c.last-after.ensures.same) ∙ none in
    let still = e.quiet (same_journal old new e.later e.agrees unrisen) in
    subst (λ (s : CoreSeat). SeatStays s new) c.self.view_is (seat_stays old new e.later e.agrees e.terms still.0 still.1)
