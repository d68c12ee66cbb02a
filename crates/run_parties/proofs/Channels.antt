-- The settling of a channel is to the run what two parties owe: no entry is made, all is as it was but what is at hand on that link, and where all
-- was at hand before, it is at hand as before, since the lists are the same and what is at hand is read off them.
use Rattle.std.proofs.Common.{◌≡◌, ◌≤◌, ℕ, List, Bool, false, refl, sym, ap, ◌∙◌, subst, inl, inr, length, nat_lt}
use Rattle.std.proofs.Math.Nat.{le_refl}
use Rattle.std.proofs.lemmas.Bool.{cases_eq}
use Rattle.ac_links.specs.declared.payloads.Terms.{Terms}
use Rattle.ac_links.specs.Party.{LinkEnd}
use Rattle.ac_links.specs.Views.{OwnerOffer, PeerDecision, owner_lead}
use Rattle.core_driver.specs.Driven.{Driven}
use Rattle.core_driver.specs.Idle.{IsLater}
use Rattle.core_ports.specs.Ends.{has_room, offers_of}
use Rattle.end_ports.specs.OnLinks.{OnLink, on_link, on_send, on_recv, told_by}
use Rattle.end_ports.specs.SettledLinks.{HavePair, Settles, IsSettled}
use Rattle.end_ports.proofs.Lasting.{pair_lasts, shown_send, shown_recv}
use Rattle.settled_run.specs.Ends.{decisions_of}
use Rattle.run_parties.specs.Seats.{CoreSeat}
use Rattle.run_parties.specs.Settling.{IsKnownOn, IsSettledOn, StaysOn}
use Rattle.run_parties.specs.Moving.{IsLaterSeat, SeatStays, SeatButAt}
use Rattle.run_parties.specs.inner.Keeping.{later_seat, stays_on}

equal_most : (m n : ℕ) → n ≡ m → m ≤ n
equal_most m n e = subst (λ k. m ≤ k) (sym e) (le_refl m)

-- ---- two settlings of the same lists tell the same

module _ (requests : Bool) (owner peer owner' peer' : OnLink) (was : IsKnownOn requests owner peer) (is : IsKnownOn requests owner' peer')
    (owns : owner'.end ≡ owner.end) (decides : peer'.end ≡ peer.end) where
  pub same_offers : is.offers ≡ was.offers
  same_offers = ap offers_of (sym is.owns ∙ owns ∙ was.owns)

  pub same_decisions : is.decisions ≡ was.decisions
  same_decisions = ap decisions_of (sym is.decides ∙ decides ∙ was.decides)

  pub owner_stays : owner'.terms ≡ owner.terms → owner'.hand.front ≡ owner.hand.front → owner'.hand.reply ≡ owner.hand.reply → StaysOn owner owner'
  owner_stays terms front reply = record {
    terms = terms;
    end = owns;
    decision = is.decision ∙ ap (λ (os : List OwnerOffer). nat_lt (owner_lead os) (length is.decisions)) same_offers
        ∙ ap (λ (ds : List PeerDecision). nat_lt (owner_lead was.offers) (length ds)) same_decisions ∙ sym was.decision;
    front = front;
    reply = reply;
    slot = λ room.
        is.slot (ap (λ (t : Terms). has_room t owner'.end) terms ∙ ap (λ (e : LinkEnd). has_room owner.terms e) owns ∙ room) ∙ sym (was.slot room);
  }

  pub peer_stays : peer'.terms ≡ peer.terms → peer'.hand.decision ≡ peer.hand.decision → peer'.hand.reply ≡ peer.hand.reply
      → peer'.hand.slot ≡ peer.hand.slot → StaysOn peer peer'
  peer_stays terms decision reply slot = record {
    terms = terms;
    end = decides;
    decision = decision;
    front = is.front ∙ ap (λ (os : List OwnerOffer). nat_lt (length is.decisions) (length os)) same_offers
        ∙ ap (λ (ds : List PeerDecision). nat_lt (length ds) (length was.offers)) same_decisions ∙ sym was.front;
    reply = reply;
    slot = λ room. slot;
  }

-- ---- one of the two

-- where other links tell what they told
pub all_stay : (l : ℕ) (old new : ℕ → OnLink) → StaysOn (old l) (new l) → ((k : ℕ) → (l ≡ k → ⊥) → new k ≡ old k) → (k : ℕ) → StaysOn (old k) (new k)
all_stay l old new here others k = elim (cases_eq l k) [
  | inl e ↦ subst (λ n. StaysOn (old n) (new n)) e here
  | inr n ↦ subst (λ (x : OnLink). StaysOn (old k) x) (sym (others k n)) (stays_on (old k))
]

module _ (l : ℕ) (s s' : CoreSeat) (driven : s'.driven ≡ s.driven) (settles : Settles s.ports l s'.ports) where
  pub seat_later : IsLaterSeat s s'
  seat_later = record {
    machine = subst (λ (d : Driven). IsLater s.driven.machine d.machine) (sym driven) (later_seat s).machine;
    ports = settles.stays;
  }

  pub seat_others : (k : ℕ) → (l ≡ k → ⊥) → on_link s'.ports k ≡ on_link s.ports k
  seat_others k n = ap told_by (settles.others k n)

  pub seat_apart : SeatButAt l s s'
  seat_apart = record {
    driven = driven;
    here = record {
      terms = ap (λ (f : ℕ → Terms). f l) settles.terms;
      end = ap (λ (f : ℕ → LinkEnd). f l) settles.ends;
      heard = equal_most (on_link s.ports l).heard (on_link s'.ports l).heard (ap (λ (f : ℕ → ℕ). f l) settles.heard);
    };
    others = λ k n. seat_others k (λ e. n (sym e));
  }

-- ---- both

pub is_settled_on : (owner peer : OnLink) → IsSettled owner peer → IsSettledOn false owner peer
is_settled_on owner peer h = record {
  known = record {
    offers = h.offers;
    decisions = h.decisions;
    owns = h.owns;
    decides = h.decides;
    views = h.views;
    decision = h.decision;
    reply = λ e. absurd cc;
    slot = h.slot;
    front = h.front;
  };
  heard_by_owner = h.heard_by_owner;
  heard_by_peer = h.heard_by_peer;
}

module _ (l : ℕ) (s t s' t' : CoreSeat) (pair : HavePair s.ports t.ports l) (mine : Settles s.ports l s'.ports) (its : Settles t.ports l t'.ports)
    (link : IsSettled (on_link s'.ports l) (on_link t'.ports l)) (known : IsKnownOn false (on_link s.ports l) (on_link t.ports l)) where
  abbrev after : HavePair s'.ports t'.ports l
  after = pair_lasts l s.ports t.ports s'.ports t'.ports pair mine.stays its.stays

  abbrev now : IsKnownOn false (on_link s'.ports l) (on_link t'.ports l)
  now = (is_settled_on (on_link s'.ports l) (on_link t'.ports l) link).known

  same_send : {X : Type 0} (f : OnLink → X) → f (on_send after.send) ≡ f (on_send pair.send) → f (on_link s'.ports l) ≡ f (on_link s.ports l)
  same_send f e = ap f (shown_send l s'.ports t'.ports after) ∙ e ∙ sym (ap f (shown_send l s.ports t.ports pair))

  same_recv : {X : Type 0} (f : OnLink → X) → f (on_recv after.recv) ≡ f (on_recv pair.recv) → f (on_link t'.ports l) ≡ f (on_link t.ports l)
  same_recv f e = ap f (shown_recv l s'.ports t'.ports after) ∙ e ∙ sym (ap f (shown_recv l s.ports t.ports pair))

  pub both_stay : SeatStays s s' × SeatStays t t'
  both_stay =
      let owns = ap (λ (f : ℕ → LinkEnd). f l) mine.ends in
      let decides = ap (λ (f : ℕ → LinkEnd). f l) its.ends in (
        all_stay l (on_link s.ports) (on_link s'.ports)
            (owner_stays false (on_link s.ports l) (on_link t.ports l) (on_link s'.ports l) (on_link t'.ports l) known now owns decides
            (ap (λ (f : ℕ → Terms). f l) mine.terms) (same_send (λ x. x.hand.front) refl) (same_send (λ x. x.hand.reply) refl))
            (λ k n. ap told_by (mine.others k n)),
        all_stay l (on_link t.ports) (on_link t'.ports)
            (peer_stays false (on_link s.ports l) (on_link t.ports l) (on_link s'.ports l) (on_link t'.ports l) known now owns decides
            (ap (λ (f : ℕ → Terms). f l) its.terms) (same_recv (λ x. x.hand.decision) refl) (same_recv (λ x. x.hand.reply) refl)
            (same_recv (λ x. x.hand.slot) refl))
            (λ k n. ap told_by (its.others k n)),
      )
