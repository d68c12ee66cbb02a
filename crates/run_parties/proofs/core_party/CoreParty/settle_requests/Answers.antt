use Rattle.std.proofs.Common.{◌≡◌, true, sym, ap, ◌∙◌, subst, refl}
use mathlib.Core.List.{IsPrefix}
use Rattle.core_machine.specs.Machine.{Machine}
use Rattle.end_ports.specs.OnLinks.{on_link}
use Rattle.file_worker.specs.Settling.{SettlesCore, IsSettledWith, LeavesAtHand}
use Rattle.file_worker.specs.Workers.{desk_of}
use Rattle.settled_run.specs.Disk.{payloads_at}
use Rattle.std.specs.Prelude.{OnErr}
use Rattle.run_parties.specs.Seats.{CoreSeat, on_desk, popped_at}
use Rattle.run_parties.specs.Seated.{seat_of}
use Rattle.run_parties.specs.Settling.{IsSettledOn}
use Rattle.run_parties.specs.Moving.{SeatStays, DeskStays}
use Rattle.run_parties.specs.Parties.{HasRequests}
use Rattle.run_parties.proofs.Desks.{core_now}
use Rattle.run_parties.proofs.Requests.{asking_settled, asking_taken, both_rest, still_seated, on_err, on_ok}
use Rattle.run_parties.proofs.core_party.CoreParty.settle_requests.Goals as goal

pub returns-clause-settled : goal.returns-clause-settled
returns-clause-settled g c =
    let s = seat_of c.self.inside in
    let e = c.settle-settled in
    let new : CoreSeat = record { driven = c.self.inside.driver; ports = e.new.ports } in
    let v = desk_of c.args.worker.now in
    let w = desk_of e.new.self in
    let has = subst (λ (x : CoreSeat). HasRequests x.ports.ask.link x v) (sym c.self.view_is) c.requires.pair in
    let number : c.core-core.result ≡ s.driven.machine.core = c.core-core.ensures ∙ ap (λ (m : Machine). m.core) c.machine.ensures in
    let settles = subst (λ n. SettlesCore n v s.ports.ask.end w new.ports.ask.end) number e.ensures.settles in
    on_ok e.result _ _ (λ ok.
    subst (λ l. IsSettledOn true (on_link new.ports l) (on_desk w l)) (sym e.ensures.ports.stays.ask.link)
    (asking_settled s new v w s.ports.ask.link has refl e.ensures.ports settles
    (subst (λ n. IsSettledWith n w new.ports.ask) number ok settles.after (core_now s.driven.machine.core v w s.ports.ask.end new.ports.ask.end settles))
    c.cores-cores.ensures.agrees (still_seated s.driven s.ports new.ports e.ensures.ports c.self.invariant))) e.ensures.ok

pub returns-clause-taken : goal.returns-clause-taken
returns-clause-taken g c =
    let s = seat_of c.self.inside in
    let e = c.settle-settled in
    let new : CoreSeat = record { driven = c.self.inside.driver; ports = e.new.ports } in
    let v = desk_of c.args.worker.now in
    let w = desk_of e.new.self in
    let has = subst (λ (x : CoreSeat). HasRequests x.ports.ask.link x v) (sym c.self.view_is) c.requires.pair in
    let number : c.core-core.result ≡ s.driven.machine.core = c.core-core.ensures ∙ ap (λ (m : Machine). m.core) c.machine.ensures in
    let settles = subst (λ n. SettlesCore n v s.ports.ask.end w new.ports.ask.end) number e.ensures.settles in
    on_ok e.result _ _ (λ ok.
    subst (λ l. IsPrefix (popped_at w l) (payloads_at (on_link new.ports l).end)) (sym e.ensures.ports.stays.ask.link)
    (asking_taken s new v w s.ports.ask.link has refl e.ensures.ports settles
    (subst (λ n. IsSettledWith n w new.ports.ask) number ok settles.after (core_now s.driven.machine.core v w s.ports.ask.end new.ports.ask.end settles))
    c.cores-cores.ensures.agrees (still_seated s.driven s.ports new.ports e.ensures.ports c.self.invariant))) e.ensures.ok

pub returns-clause-rests : goal.returns-clause-rests
returns-clause-rests g c =
    let s = seat_of c.self.inside in
    let e = c.settle-settled in
    let new : CoreSeat = record { driven = c.self.inside.driver; ports = e.new.ports } in
    let v = desk_of c.args.worker.now in
    let w = desk_of e.new.self in
    let has = subst (λ (x : CoreSeat). HasRequests x.ports.ask.link x v) (sym c.self.view_is) c.requires.pair in
    let number : c.core-core.result ≡ s.driven.machine.core = c.core-core.ensures ∙ ap (λ (m : Machine). m.core) c.machine.ensures in
    let settles = subst (λ n. SettlesCore n v s.ports.ask.end w new.ports.ask.end) number e.ensures.settles in
    subst (λ (x : CoreSeat). OnErr e.result (SeatStays x new × DeskStays v w)) c.self.view_is
    (on_err e.result _ _ (λ left. both_rest s new v w s.ports.ask.link has refl e.ensures.ports settles
    (subst (λ n. LeavesAtHand n v s.ports.ask w new.ports.ask) number left)) e.ensures.err)
