-- What is told of a core with its ports and of a worker with one core, and what of it stays when a free slot is lost.
use Rattle.std.proofs.Common.{◌≡◌, ◌-◌, ℕ, ℤ, zero, suc, List, [], ◌∷◌, Some, None, Bool, true, false, cond, refl, sym, ap, ◌∙◌, inl, inr, arith}
use Rattle.std.specs.Prelude.{◌==◌, nat_le, slice_get}
use Rattle.std.proofs.lemmas.Bool.Decides.{nat_tests}
use Rattle.ac_base.specs.Stamps.{stamp_after}
use Rattle.channel_ends.specs.Sending.{Sending}
use Rattle.channel_ends.proofs.Examples.{new_one}
use Rattle.core_driver.specs.Driven.{Driven}
use Rattle.completion_word.specs.Steps.{stamp_seen}
use Rattle.end_ports.specs.Held.{Held, AskingAt}
use Rattle.end_ports.specs.Held.HeldEnd.{OfAsk}
use Rattle.end_ports.specs.OnLinks.{OnLink, not_held, or_sent, told_by, on_link}
use Rattle.end_ports.proofs.Placing.{not_equal}
use Rattle.end_ports.specs.PortsTold.{told_of}
use Rattle.file_worker.specs.Ends.{CoreEnds, AtDesk, end_of}
use Rattle.run_laws.proofs.CoreExamples.{crossing}
use Rattle.run_parties.specs.Seats.{CoreSeat, ports_of, on_request, or_not_held, on_desk, popped_by, popped_at}
use Rattle.run_parties.specs.Seated.{seat_of, HasItsPorts, IsSeated}
use Rattle.run_parties.specs.Moving.{SeatStays, SeatButAt, DeskStays, DeskStops}
use Rattle.run_parties.specs.inner.Keeping.{stays_on}

-- ---- a worker with the ends of one core, whose link is 2

module _ (e : CoreEnds) where
  abbrev desk : AtDesk
  desk = record { first = 2; ends = e ∷ []; entries = [] }

  pub one_link_is_its_own : (on_desk desk 1 ≡ not_held) × (on_desk desk 2 ≡ on_request e) × (on_desk desk 3 ≡ not_held)
  one_link_is_its_own = (refl, refl, refl)

  pub what_it_has_taken : (popped_at desk 1 ≡ []) × (popped_at desk 2 ≡ e.ask.popped)
  what_it_has_taken = (refl, refl)

  pub it_decides_there : ((on_request e).end ≡ end_of e) × ((on_request e).heard ≡ stamp_seen e.ask.peer.look)
  it_decides_there = (refl, refl)

-- it can go no further where no request is left of which a settling told
module _ (e : CoreEnds) where
  pub it_stops_with_none : (on_request e).hand.front ≡ false → DeskStops (desk e)
  it_stops_with_none none = inl each
    where
      each : (l : ℕ) → (on_desk (desk e) l).hand.front ≡ false
      each zero = refl
      each (suc zero) = refl
      each (suc (suc zero)) = none
      each (suc (suc (suc l))) =
          let high : nat_le 2 (suc (suc (suc l))) ≡ true = grind (arith, nat_tests) in
          let place : suc (suc (suc l)) - 2 ≡ suc l = omega arith in
          ap (λ b. (cond b (or_not_held (slice_get (e ∷ []) (suc (suc (suc l)) - 2))) not_held).hand.front) high
          ∙ ap (λ k. (or_not_held (slice_get (e ∷ []) k)).hand.front) place

  pub not_with_one : (on_request e).hand.front ≡ true → ((l : ℕ) → stamp_after 0 (on_desk (desk e) l).heard ≡ None → ⊥) → DeskStops (desk e) → ⊥
  not_with_one one stamps h = elim h [
    | inl none ↦ (let two = none 2 in cc)
    | inr full ↦ stamps full.0 full.1
  ]

  pub a_desk_stays : DeskStays (desk e) (desk e)
  a_desk_stays l = stays_on (on_desk (desk e) l)

  pub not_where_a_request_comes_to_hand : (after : CoreEnds) → (on_request e).hand.front ≡ false → (on_request after).hand.front ≡ true
      → DeskStays (desk e) (desk after) → ⊥
  not_where_a_request_comes_to_hand after none one h = let same : (on_request after).hand.front ≡ (on_request e).hand.front = (h 2).front in cc

  pub but_without_a_stamp : (stamp_after 0 (on_request e).heard ≡ None) → DeskStops (desk e)
  but_without_a_stamp none = inr (2, none)

pub nothing_of_a_core_that_is_not_there : (or_not_held None ≡ not_held) × (popped_by None ≡ [])
nothing_of_a_core_that_is_not_there = (refl, refl)

-- ---- a core that sends on channel 0

module _ (d : Driven) (a : AskingAt) where
  abbrev held : Sending (List ℤ) → Held
  held end = record { sends = record { link = 0; end = end; polls = 0; tries = 0 } ∷ []; recvs = []; ask = record a { link = 9 }; full = false }

  abbrev seat : Sending (List ℤ) → CoreSeat
  seat end = record { driven = d; ports = held end }

  pub from_its_fields : seat_of (record { driver = d; ports = held new_one }) ≡ seat new_one
  from_its_fields = refl

  pub its_ports : ports_of (seat new_one) ≡ told_of (held new_one)
  its_ports = refl

  pub all_stays : SeatStays (seat new_one) (seat new_one)
  all_stays l = stays_on (on_link (held new_one) l)

  -- what is told of link l, where it is or is not that of the channel
  abbrev shown : Sending (List ℤ) → ℕ → Bool → OnLink
  shown end l here = told_by (cond (9 == l) (OfAsk (record a { link = 9 })) (or_sent (cond here (Some (record { link = 0; end = end; polls = 0; tries = 0 })) None) None))

  -- where there is room a slot is not lost
  pub a_slot_does_not_go : SeatStays (seat new_one) (seat (record new_one { free = 0 })) → ⊥
  a_slot_does_not_go h = let e = (h 0).slot refl in cc

  pub but_here_it_may : SeatButAt 0 (seat new_one) (seat (record new_one { free = 0 }))
  but_here_it_may = record { driven = refl; here = record { terms = refl; end = refl; heard = omega arith }; others = others }
    where
      others : (l : ℕ) → (l ≡ 0 → ⊥) → on_link (held (record new_one { free = 0 })) l ≡ on_link (held new_one) l
      others zero n = absurd (n refl)
      others (suc l) n =
          let e : (0 == suc l) ≡ false = not_equal 0 (suc l) (λ e. cc) in
          ap (shown (record new_one { free = 0 }) (suc l)) e ∙ sym (ap (shown new_one (suc l)) e)

  pub and_not_elsewhere : SeatButAt 1 (seat new_one) (seat (record new_one { free = 0 })) → ⊥
  and_not_elsewhere h = let e : false ≡ true = ap (λ (x : OnLink). x.hand.slot) (h.others 0 (λ e. cc)) in cc

  -- ---- the ports have to be the core's own

  pub they_are_asked_for : (s : CoreSeat) → HasItsPorts s → IsSeated (record { driver = s.driven; ports = s.ports })
  they_are_asked_for s h = h

  abbrev sender : CoreSeat
  sender = record {
    driven = record d { machine = record d.machine { code = crossing; core = 0 } };
    ports = record (held new_one) { sends = [] };
  }

  pub not_without_its_end : HasItsPorts sender → ⊥
  not_without_its_end h = let e = h.ports.owner 0 refl in cc
