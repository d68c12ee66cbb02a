-- Two parties that are settled with each other, two cores or a core and the worker, are what the run asks of them: each is the same party later,
-- with its clock and all else as it was but what is at hand on that link; there they are settled, and where both knew all before, nothing is new.
use Rattle.std.proofs.Common.{◌≡◌, ℕ, List, true, sym, ap, ◌∙◌, subst}
use Rattle.std.specs.Prelude.{OnOk, OnErr, Result, Ok}
use mathlib.Core.List.{IsPrefix}
use Rattle.ac_base.specs.declared.entry.Entry.{Entry}
use Rattle.ac_links.specs.Journals.{last_of}
use Rattle.ac_outside.specs.Disks.{DiskTold}
use Rattle.core_driver.specs.Driven.{Driven}
use Rattle.end_ports.specs.OnLinks.{on_link}
use Rattle.end_ports.specs.SettledLinks.{Settles, IsSettled, SettlesRequests}
use Rattle.file_worker.specs.declared.worker.Worker.{Worker}
use Rattle.file_worker.specs.Settling.{SettlesCore}
use Rattle.file_worker.specs.Workers.{desk_of, loan_of, seen_of, told_of}
use Rattle.file_worker.proofs.Going.{settling_goes_on}
use Rattle.file_worker.proofs.Readying.{on_both}
use Rattle.settled_run.specs.Disk.{payloads_at}
use Rattle.run_parties.specs.declared.run_party.RunParty.{RunParty}
use Rattle.run_parties.specs.declared.run_party.RunParty.TheVariants.{Core, Disk}
use Rattle.run_parties.specs.Seats.{CoreSeat, on_desk, popped_at}
use Rattle.run_parties.specs.Settling.{IsSettledOn}
use Rattle.run_parties.specs.Moving.{SeatStays, DeskStays}
use Rattle.run_parties.specs.Parties.{clock_of, IsLaterParty, HaveEnds, AreKnownAt, AreSettledAt, PartyStays, PartyButAt}
use Rattle.run_parties.proofs.Channels.{seat_later, seat_apart, is_settled_on, both_stay}
use Rattle.run_parties.proofs.Desks.{entries_same, desk_apart}
use Rattle.run_parties.proofs.Requests.{asking_later, asking_apart, asking_stays, desk_rests, either_way, on_ok}

same_clock : (s s' : CoreSeat) → s'.driven ≡ s.driven → last_of 0 s'.driven.machine.journal ≡ last_of 0 s.driven.machine.journal
same_clock s s' e = ap (λ (d : Driven). last_of 0 d.machine.journal) e

have_ends : {D : Type 0} (l : ℕ) (p q a b : RunParty D) → p ≡ a → q ≡ b → HaveEnds l p q → HaveEnds l a b
have_ends l p q a b ep eq h = subst (λ x. HaveEnds l a x) eq (subst (λ x. HaveEnds l x q) ep h)

module _ {D E : Type 0} (told : D → DiskTold) (l : ℕ) where
  pub record HaveMet (p q p' q' : RunParty D) (r : Result (Unit {0}) E) : Type 0 where
    pub owner : IsLaterParty told p p' × (clock_of p' ≡ clock_of p) × PartyButAt l p p'
    pub peer : IsLaterParty told q q' × (clock_of q' ≡ clock_of q) × PartyButAt l q q'
    pub settled : OnOk r (AreSettledAt l p' q')
    pub again : AreKnownAt l p q → PartyStays p p' × PartyStays q q'

  -- what is so of parties at their places is so of those that are equal to them
  at_places : (p q p' q' a b a' b' : RunParty D) (r r' : Result (Unit {0}) E) → p ≡ a → q ≡ b → p' ≡ a' → q' ≡ b' → r ≡ r' → HaveMet a b a' b' r'
      → HaveMet p q p' q' r
  at_places p q p' q' a b a' b' r r' ep eq ep' eq' er h =
      subst (λ x. HaveMet x q p' q' r) (sym ep) (subst (λ x. HaveMet a x p' q' r) (sym eq)
      (subst (λ x. HaveMet a b x q' r) (sym ep') (subst (λ x. HaveMet a b a' x r) (sym eq') (subst (λ x. HaveMet a b a' b' x) (sym er) h))))

  pub cores_have_met : (p q p' q' : RunParty D) (r : Result (Unit {0}) E) (s t s' t' : CoreSeat) → p ≡ Core s → q ≡ Core t → p' ≡ Core s' → q' ≡ Core t'
      → r ≡ Ok tt → HaveEnds l p q → s'.driven ≡ s.driven → t'.driven ≡ t.driven → Settles s.ports l s'.ports → Settles t.ports l t'.ports
      → IsSettled (on_link s'.ports l) (on_link t'.ports l) → HaveMet p q p' q' r
  cores_have_met p q p' q' r s t s' t' ep eq ep' eq' er ends ds dt mine its link =
      at_places p q p' q' (Core s) (Core t) (Core s') (Core t') r (Ok tt) ep eq ep' eq' er (record {
        owner = (seat_later l s s' ds mine, same_clock s s' ds, seat_apart l s s' ds mine);
        peer = (seat_later l t t' dt its, same_clock t t' dt, seat_apart l t t' dt its);
        settled = is_settled_on (on_link s'.ports l) (on_link t'.ports l) link;
        again = λ known. both_stay l s t s' t' (have_ends l p q (Core s) (Core t) ep eq ends) mine its link known;
      })

  pub requests_have_met : (p q p' q' : RunParty D) (r r' : Result (Unit {0}) E) (s s' : CoreSeat) (v w : Worker D) → p ≡ Core s → q ≡ Disk v → p' ≡ Core s' → q' ≡ Disk w → r ≡ r'
      → HaveEnds l p q → s'.driven ≡ s.driven → SettlesRequests s.ports s'.ports
      → SettlesCore s.driven.machine.core (desk_of v) s.ports.ask.end (desk_of w) s'.ports.ask.end
      → OnOk r' (IsSettledOn true (on_link s'.ports s'.ports.ask.link) (on_desk (desk_of w) s'.ports.ask.link))
      → OnOk r' (IsPrefix (popped_at (desk_of w) s'.ports.ask.link) (payloads_at (on_link s'.ports s'.ports.ask.link).end))
      → told_of told w ≡ told_of told v → loan_of w ≡ loan_of v → OnErr r' (SeatStays s s' × DeskStays (desk_of v) (desk_of w)) → HaveMet p q p' q' r
  requests_have_met p q p' q' r r' s s' v w ep eq ep' eq' er ends ds ports settles settled taken same loan rests =
      let has = have_ends l p q (Core s) (Disk v) ep eq ends in
      let here : s'.ports.ask.link ≡ l = ports.stays.ask.link ∙ has.asked in
      let settled_here = on_ok r' _ (IsSettledOn true (on_link s'.ports l) (on_desk (desk_of w) l))
      (λ h. subst (λ k. IsSettledOn true (on_link s'.ports k) (on_desk (desk_of w) k)) here h) settled in
      let taken_here = on_ok r' _ (IsPrefix (popped_at (desk_of w) l) (payloads_at (on_link s'.ports l).end))
      (λ h. subst (λ k. IsPrefix (popped_at (desk_of w) k) (payloads_at (on_link s'.ports k).end)) here h) taken in
      at_places p q p' q' (Core s) (Disk v) (Core s') (Disk w) r r' ep eq ep' eq' er (record {
        owner = (asking_later s s' (desk_of v) (desk_of w) l has ds ports settles, same_clock s s' ds, asking_apart s s' (desk_of v) (desk_of w) l has ds ports settles);
        peer = (
          (settling_goes_on s.driven.machine.core (seen_of told v) (seen_of told w) s.ports.ask.end s'.ports.ask.end settles same, loan),
          ap (λ (es : List Entry). last_of 0 es) (entries_same s.driven.machine.core (desk_of v) (desk_of w) s.ports.ask.end s'.ports.ask.end settles),
          desk_apart s.driven.machine.core (desk_of v) (desk_of w) s.ports.ask.end s'.ports.ask.end settles l has.link,
        );
        settled = on_both r' _ _ _ settled_here taken_here (λ a b. (a, b));
        again = λ known. either_way r' _ _ _ settled_here rests
            (λ a. (
              asking_stays s s' (desk_of v) (desk_of w) l has ds ports settles known a.known,
              desk_rests s s' (desk_of v) (desk_of w) l has ds ports settles known a.known,
            ))
            (λ left. left);
      })
