-- The settling of a core's requests is to the run what the core and the worker owe: no entry is made, all is as it was but what is at hand on that
-- link and what was heard there, the two ends are one settled link, and what the worker has taken are the first requests.
use Rattle.std.proofs.Common.{◌≡◌, ◌+◌, ◌++◌, ℕ, List, [], ◌∷◌, true, Some, refl, sym, ap, ◌∙◌, subst, length, map, nat_lt, All, arith}
use Rattle.std.specs.Prelude.{slice_get, OnOk, OnErr, Result, Ok, Err}
use Rattle.std.specs.List.{filter}
use mathlib.Core.List.{IsPrefix}
use Rattle.ac_base.specs.declared.entry.Payload.{Payload}
use Rattle.ac_links.specs.declared.payloads.Terms.{Terms}
use Rattle.ac_links.specs.Journals.{last_of}
use Rattle.ac_links.specs.Noted.{owner_noted}
use Rattle.ac_links.specs.Order.{of_party, is_of_link}
use Rattle.ac_links.specs.Party.{LinkEnd, EndRuns, PartyAgrees}
use Rattle.ac_links.specs.Payloads.{is_payload}
use Rattle.ac_links.specs.Replies.{waiting_replies}
use Rattle.ac_links.specs.Views.{OwnerOffer, Response}
use Rattle.channel_ends.specs.Receiving.{Receiving}
use Rattle.channel_ends.specs.Sending.{MadeOffer}
use Rattle.core_ports.specs.AtHand.{AtHand}
use Rattle.core_driver.specs.Driven.{Driven}
use Rattle.core_driver.specs.Idle.{IsLater}
use Rattle.core_driver.specs.Sides.{ArePortsOf}
use Rattle.request_ends.specs.Asking.{asked, requests_of, replies_after, end_of}
use Rattle.end_ports.specs.Held.{Held}
use Rattle.end_ports.specs.OnLinks.{OnLink, on_link, on_ask, told_by}
use Rattle.end_ports.specs.PortsTold.{told_of}
use Rattle.end_ports.specs.SettledLinks.{SettlesRequests}
use Rattle.end_ports.proofs.Lasting.{shown_ask}
use Rattle.end_ports.proofs.Stamps.{none_above}
use Rattle.file_worker.specs.Agreement.{WorkerAgrees}
use Rattle.file_worker.specs.Ends.{AtDesk}
use Rattle.file_worker.specs.Settling.{SettlesCore, AskIsSettled, LeavesAtHand}
use Rattle.file_worker.proofs.Going.{begins_with}
use Rattle.run_laws.specs.Cores.{CoreView, HasNoStamp}
use Rattle.run_laws.specs.Seen.{view_of}
use Rattle.settled_run.specs.Disk.{payloads_at}
use Rattle.run_parties.specs.Seats.{CoreSeat, on_request, on_desk, popped_at}
use Rattle.run_parties.specs.Settling.{IsKnownOn, IsSettledOn}
use Rattle.run_parties.specs.Moving.{IsLaterSeat, SeatStays, SeatButAt, DeskStays}
use Rattle.run_parties.specs.Parties.{HasRequests}
use Rattle.run_parties.specs.inner.Keeping.{later_seat}
use Rattle.run_parties.specs.Seated.{HasItsPorts}
use Rattle.run_parties.proofs.Answered.{requests_carried, requests_settled}
use Rattle.run_parties.proofs.Channels.{same_offers, same_decisions, owner_stays, peer_stays, all_stay}
use Rattle.run_parties.proofs.Desks.{desk_at, popped_here, core_now, desk_others, desk_apart}

-- what the requests carry
carried_by : (xs : List Payload) (os : List MadeOffer) (rs : List Response) → length xs ≡ length os → map (λ (o : OwnerOffer). o.payload) (asked xs os rs) ≡ xs
carried_by [] os rs e = refl
carried_by (x ∷ xs) [] rs e = cc
carried_by (x ∷ xs) (o ∷ os) rs e = ap (λ (ys : List Payload). x ∷ ys) (carried_by xs os (replies_after o.withdrawn rs) (omega (arith, e)))

module _ (s s' : CoreSeat) (v w : AtDesk) (l : ℕ) (has : HasRequests l s v) (driven : s'.driven ≡ s.driven) (ports : SettlesRequests s.ports s'.ports)
    (settles : SettlesCore s.driven.machine.core v s.ports.ask.end w s'.ports.ask.end) where
  abbrev core : ℕ
  core = s.driven.machine.core

  asked_now : s'.ports.ask.link ≡ l
  asked_now = ports.stays.ask.link ∙ has.asked

  seat_was : on_link s.ports l ≡ on_ask s.ports.ask
  seat_was = shown_ask l s.ports has.asked

  seat_is : on_link s'.ports l ≡ on_ask s'.ports.ask
  seat_is = shown_ask l s'.ports asked_now

  first_same : w.first ≡ v.first
  first_same = ap (λ (d : AtDesk). d.first) settles.is

  desk_was : on_desk v l ≡ on_request settles.before
  desk_was = desk_at v l core settles.before has.link settles.was

  now : slice_get w.ends core ≡ Some settles.after
  now = core_now core v w s.ports.ask.end s'.ports.ask.end settles

  desk_is : on_desk w l ≡ on_request settles.after
  desk_is = desk_at w l core settles.after (ap (λ n. n + core) first_same ∙ has.link) now

  -- ---- the core

  pub asking_later : IsLaterSeat s s'
  asking_later = record {
    machine = subst (λ (d : Driven). IsLater s.driven.machine d.machine) (sym driven) (later_seat s).machine;
    ports = ports.stays;
  }

  pub asking_apart : SeatButAt l s s'
  asking_apart = record {
    driven = driven;
    here = record {
      terms = ap (λ (f : ℕ → Terms). f l) ports.terms;
      end = ap (λ (f : ℕ → LinkEnd). f l) ports.ends;
      heard = ports.heard l;
    };
    others = λ k n. ap told_by (ports.others k (λ e. n (sym e ∙ has.asked)));
  }

  -- ---- what is there of the link before and after

  abbrev owns : (on_link s'.ports l).end ≡ (on_link s.ports l).end
  owns = ap (λ (f : ℕ → LinkEnd). f l) ports.ends

  abbrev apart_here : (on_desk w l).end ≡ (on_desk v l).end
  apart_here = (desk_apart core v w s.ports.ask.end s'.ports.ask.end settles l has.link).here.end

  -- both tell at this link what the record has by itself
  seat_same : {X : Type 0} (f : OnLink → X) → f (on_ask s'.ports.ask) ≡ f (on_ask s.ports.ask) → f (on_link s'.ports l) ≡ f (on_link s.ports l)
  seat_same f e = ap f seat_is ∙ e ∙ sym (ap f seat_was)

  desk_same : {X : Type 0} (f : OnLink → X) → f (on_request settles.after) ≡ f (on_request settles.before) → f (on_desk w l) ≡ f (on_desk v l)
  desk_same f e = ap f desk_is ∙ e ∙ sym (ap f desk_was)

  -- where there was no memory
  pub asking_rests : (on_ask s'.ports.ask).hand ≡ (on_ask s.ports.ask).hand → SeatStays s s'
  asking_rests hand = all_stay l (on_link s.ports) (on_link s'.ports)
      (record {
        terms = ap (λ (f : ℕ → Terms). f l) ports.terms;
        end = owns;
        decision = seat_same (λ x. x.hand.decision) (ap (λ (h : AtHand). h.decision) hand);
        front = seat_same (λ x. x.hand.front) (ap (λ (h : AtHand). h.front) hand);
        reply = seat_same (λ x. x.hand.reply) (ap (λ (h : AtHand). h.reply) hand);
        slot = λ room. seat_same (λ x. x.hand.slot) (ap (λ (h : AtHand). h.slot) hand);
      })
      (λ k n. ap told_by (ports.others k (λ e. n (sym has.asked ∙ e))))

  pub desk_left : settles.after.ask ≡ settles.before.ask → DeskStays v w
  desk_left taken = all_stay l (on_desk v) (on_desk w)
      (record {
        terms = (desk_apart core v w s.ports.ask.end s'.ports.ask.end settles l has.link).here.terms;
        end = apart_here;
        decision = desk_same (λ x. x.hand.decision) refl;
        front = desk_same (λ x. x.hand.front) (ap (λ (r : Receiving Payload). nat_lt (length r.peer.decisions) r.peer.told_offers) taken);
        reply = desk_same (λ x. x.hand.reply) refl;
        slot = λ room. desk_same (λ x. x.hand.slot) refl;
      })
      (λ k n. desk_others core v w s.ports.ask.end s'.ports.ask.end settles k (λ e. n (sym has.link ∙ e)))

  pub both_rest : LeavesAtHand core v s.ports.ask w s'.ports.ask → SeatStays s s' × DeskStays v w
  both_rest left = (asking_rests left.hand, desk_left (left.taken settles.before settles.after settles.was now))

  -- ---- the link

  module _ (ask_settled : AskIsSettled s'.ports.ask settles.after) (agrees : WorkerAgrees w) (seated : HasItsPorts s') where
    mine : EndRuns (on_ask s'.ports.ask).terms (end_of s'.ports.ask.end) (filter (is_of_link l) (of_party s'.driven.machine.core s'.driven.machine.journal))
    mine = subst (λ (x : OnLink). EndRuns x.terms x.end (filter (is_of_link l) (of_party s'.driven.machine.core s'.driven.machine.journal))) seat_is
        (seated.agrees.runs l)

    carried : All (λ x. is_payload true x ≡ true) s'.ports.ask.end.send.payloads
    carried = requests_carried (on_ask s'.ports.ask).terms (owner_noted (requests_of s'.ports.ask.end))
        (filter (is_of_link l) (of_party s'.driven.machine.core s'.driven.machine.journal)) s'.ports.ask.end refl mine ask_settled.settled.one_sent

    pub asking_settled : IsSettledOn true (on_link s'.ports l) (on_desk w l)
    asking_settled =
        subst (λ (x : OnLink). IsSettledOn true x (on_desk w l)) (sym seat_is) (subst (λ (x : OnLink). IsSettledOn true (on_ask s'.ports.ask) x) (sym desk_is)
        (requests_settled settles.after s'.ports.ask ask_settled (agrees.answered core settles.after now) carried))

    pub asking_taken : IsPrefix (popped_at w l) (payloads_at (on_link s'.ports l).end)
    asking_taken =
        let popped = popped_here w l core settles.after (ap (λ n. n + core) first_same ∙ has.link) now in
        let all : payloads_at (on_link s'.ports l).end ≡ s'.ports.ask.end.send.payloads =
        ap (λ (x : OnLink). payloads_at x.end) seat_is
        ∙ carried_by s'.ports.ask.end.send.payloads s'.ports.ask.end.send.notes.offers s'.ports.ask.end.replies ask_settled.settled.one_sent in
        begins_with (popped_at w l) (payloads_at (on_link s'.ports l).end) settles.after.ask.items
        (all ∙ sym ask_settled.settled.in_order ∙ ap (λ (xs : List Payload). xs ++ settles.after.ask.items) (sym popped))

  -- ---- where all was at hand before

  module _ (known : IsKnownOn true (on_link s.ports l) (on_desk v l)) (is : IsKnownOn true (on_link s'.ports l) (on_desk w l)) where
    reply_same : (on_link s'.ports l).hand.reply ≡ (on_link s.ports l).hand.reply
    reply_same = is.reply refl
        ∙ ap (λ os. nat_lt 0 (length (waiting_replies os is.decisions))) (same_offers true (on_link s.ports l) (on_desk v l) (on_link s'.ports l) (on_desk w l) known is owns apart_here)
        ∙ ap (λ ds. nat_lt 0 (length (waiting_replies known.offers ds))) (same_decisions true (on_link s.ports l) (on_desk v l) (on_link s'.ports l) (on_desk w l) known is owns apart_here)
        ∙ sym (known.reply refl)

    pub asking_stays : SeatStays s s'
    asking_stays = all_stay l (on_link s.ports) (on_link s'.ports)
        (owner_stays true (on_link s.ports l) (on_desk v l) (on_link s'.ports l) (on_desk w l) known is owns apart_here
        (ap (λ (f : ℕ → Terms). f l) ports.terms) (seat_same (λ x. x.hand.front) refl) reply_same)
        (λ k n. ap told_by (ports.others k (λ e. n (sym has.asked ∙ e))))

    pub desk_rests : DeskStays v w
    desk_rests = all_stay l (on_desk v) (on_desk w)
        (peer_stays true (on_link s.ports l) (on_desk v l) (on_link s'.ports l) (on_desk w l) known is owns apart_here
        (desk_apart core v w s.ports.ask.end s'.ports.ask.end settles l has.link).here.terms
        (desk_same (λ x. x.hand.decision) refl) (desk_same (λ x. x.hand.reply) refl) (desk_same (λ x. x.hand.slot) refl))
        (λ k n. desk_others core v w s.ports.ask.end s'.ports.ask.end settles k (λ e. n (sym has.link ∙ e)))

-- ---- the core as it was

still_no_stamp : (c : CoreView) (h h' : Held) → SettlesRequests h h' → HasNoStamp c (told_of h).heard → HasNoStamp c (told_of h').heard
still_no_stamp c h h' settles x = record {
  end = x.end;
  comes = x.comes;
  link = x.link;
  full = none_above (last_of 0 c.journal) ((told_of h).heard x.link) ((told_of h').heard x.link) (settles.heard x.link) x.full;
}

pub still_seated : (d : Driven) (h h' : Held) → SettlesRequests h h' → HasItsPorts (record { driven = d; ports = h }) → HasItsPorts (record { driven = d; ports = h' })
still_seated d h h' settles x = record {
  ports = subst (λ t. ArePortsOf d.machine.code d.machine.core t (told_of h').ends) (sym settles.terms)
      (subst (λ e. ArePortsOf d.machine.code d.machine.core (told_of h).terms e) (sym settles.ends) x.ports);
  agrees = subst (λ t. PartyAgrees t d.machine.core (told_of h').ends d.machine.journal) (sym settles.terms)
      (subst (λ e. PartyAgrees (told_of h).terms d.machine.core e d.machine.journal) (sym settles.ends) x.agrees);
  keeps = x.keeps;
  full = λ f. still_no_stamp (view_of d) h h' settles (x.full f);
}

pub on_ok : {A E : Type 0} (r : Result A E) (X Y : Type 0) → (X → Y) → OnOk r X → OnOk r Y
on_ok (Ok a) X Y f h = f h
on_ok (Err e) X Y f h = h

pub on_err : {A E : Type 0} (r : Result A E) (X Y : Type 0) → (X → Y) → OnErr r X → OnErr r Y
on_err (Ok a) X Y f h = h
on_err (Err e) X Y f h = f h

-- what follows from either answer
pub either_way : {A E : Type 0} (r : Result A E) (X Y Z : Type 0) → OnOk r X → OnErr r Y → (X → Z) → (Y → Z) → Z
either_way (Ok a) X Y Z x y f g = f x
either_way (Err e) X Y Z x y f g = g y
