-- What the answers of a sending end are to the offers of its channel.
use Rattle.std.proofs.Common.{◌≡◌, ℕ, ℤ, zero, suc, List, [], ◌∷◌, ◌++◌, Option, Some, None, Bool, true, false, refl, sym, ap, ◌∙◌, subst, arith, length, is_some, nat_lt, ⊎_elim}
use Rattle.std.specs.Prelude.{slice_get, map, IfNone}
use Rattle.ac_base.specs.declared.entry.Payload.{Payload}
use Rattle.ac_base.specs.declared.entry.Payload.TheVariants.{Int}
use Rattle.ac_links.specs.Views.{OwnerOffer, altered, withdrawn_at, known_at, owner_offer, may_withdraw}
use Rattle.ac_links.specs.Noted.{or_zero}
use Rattle.ac_links.specs.Party.LinkEnd.{Owns}
use Rattle.core_channels.specs.declared.answers.Offering.{Offering}
use Rattle.core_channels.specs.declared.answers.Offering.TheVariants.{Offered, NoRoom, NotYet, ClockFull}
use Rattle.core_channels.specs.declared.answers.Learning.{Learning}
use Rattle.core_channels.specs.declared.answers.Learning.TheVariants as learning
use Rattle.core_channels.specs.declared.answers.Withdrawing.{Withdrawing}
use Rattle.core_channels.specs.declared.answers.Withdrawing.TheVariants as withdrawing
use Rattle.core_channels.specs.Counts.{counted}
use Rattle.core_channels.specs.Laws.{told_by_offering, told_by_withdrawing}
use Rattle.core_channels.specs.Learns.{learning_clock}
use Rattle.core_channels.specs.Withdraws.{withdrawing_clock}
use Rattle.channel_ends.specs.Sending.{MadeOffer, OwnerNotes, Sending, made_offer}
use Rattle.channel_ends.specs.Sending as notes
use Rattle.channel_ends.specs.Offers.{Offers, offering_clock}
use Rattle.channel_ends.specs.Learns.{Learns, IsHeardOnly}
use Rattle.channel_ends.specs.Withdraws.{Withdraws, IsNotTried}
use Rattle.channel_ends.specs.Settled.{owner_offers}
use Rattle.core_ports.specs.Answers.{IsOfferAnswer}
use Rattle.core_ports.specs.Tells.{told_by_arrival}
use Rattle.end_ports.specs.Held.{SendingAt}
use Rattle.end_ports.specs.Held.HeldEnd.{OfSend}
use Rattle.end_ports.specs.EndCalls.{OffersAt}
use Rattle.core_ports.specs.Ends.{greatest}
use Rattle.end_ports.specs.OnLinks.{is_decided, offers_on, on_send}
use Rattle.end_ports.specs.inner.Calls.{TellsAt, OffersOn, WithdrawsOn, PollsOn}
use Rattle.end_ports.specs.Answers.{as_payload, learned_as}
use Rattle.request_ends.specs.Requesting.{ListLearns, ListWithdraws}
use Rattle.end_ports.proofs.Owning.{made, room_is, count_is, offer_tells}
use Rattle.end_ports.proofs.Answering.{learning_tells, withdrawal_tells, learning_answers, withdrawal_answers, decided_learned, decided_withdrawn, as_long_learned, as_long_withdrawn}

-- ---- the list of offers

module _ {M : Type 0} (payload : M → Payload) where
  abbrev one : M → MadeOffer → OwnerOffer
  one x o = record { payload = payload x; stamp = o.stamp; withdrawn = o.withdrawn; known = o.known; reply = None }

  pub made_offers : (xs : List M) (os : List MadeOffer) → length xs ≡ length os → map made (owner_offers payload xs os) ≡ os
  made_offers [] [] h = refl
  made_offers [] (o ∷ os) h = absurd (omega arith)
  made_offers (x ∷ xs) [] h = absurd (omega arith)
  made_offers (x ∷ xs) (o ∷ os) h = ap (λ rest. o ∷ rest) (made_offers xs os (omega arith))

  pub offers_altered : (xs : List M) (os : List MadeOffer) (n : ℕ) (f : MadeOffer → MadeOffer) (g : OwnerOffer → OwnerOffer)
      → ((x : M) (o : MadeOffer) → one x (f o) ≡ g (one x o)) → owner_offers payload xs (altered os n f) ≡ altered (owner_offers payload xs os) n g
  offers_altered [] os n f g h = refl
  offers_altered (x ∷ xs) [] n f g h = refl
  offers_altered (x ∷ xs) (o ∷ os) zero f g h = ap (λ y. y ∷ owner_offers payload xs os) (h x o)
  offers_altered (x ∷ xs) (o ∷ os) (suc n) f g h = ap (λ ys. one x o ∷ ys) (offers_altered xs os n f g h)

  pub offers_added : (xs : List M) (os : List MadeOffer) (x : M) (s : ℕ) → length xs ≡ length os
      → owner_offers payload (xs ++ x ∷ []) (os ++ made_offer s ∷ []) ≡ owner_offers payload xs os ++ owner_offer (payload x) s ∷ []
  offers_added [] [] x s h = refl
  offers_added [] (o ∷ os) x s h = absurd (omega arith)
  offers_added (y ∷ xs) [] x s h = absurd (omega arith)
  offers_added (y ∷ xs) (o ∷ os) x s h = ap (λ ys. one y o ∷ ys) (offers_added xs os x s (omega arith))

  -- what is learned of the notes is learned of the list
  pub list_learns : (xs : List M) (old : OwnerNotes) (last : ℕ) (r : Learning) (new : OwnerNotes) → Learns old last r new
      → ListLearns (owner_offers payload xs old.offers) last r (owner_offers payload xs new.offers)
  list_learns xs old last (learning.Know number s) new h =
      (h.3.of, h.3.next, ap (owner_offers payload xs) h.3.offers ∙ offers_altered xs old.offers number (notes.known_at h.3.of) (known_at h.3.of) (λ x o. refl))
  list_learns xs old last (learning.Room number s) new h =
      (h.3.of, h.3.next, ap (owner_offers payload xs) h.3.offers ∙ offers_altered xs old.offers number (notes.known_at h.3.of) (known_at h.3.of) (λ x o. refl))
  list_learns xs old last learning.Undecided new h = ap (owner_offers payload xs) h.offers
  list_learns xs old last learning.AllKnown new h = ap (λ (v : OwnerNotes). owner_offers payload xs v.offers) h.1
  list_learns xs old last learning.ClockFull new h = ap (owner_offers payload xs) h.1.offers

  pub list_withdraws : (xs : List M) (old : OwnerNotes) (number last : ℕ) (r : Withdrawing) (new : OwnerNotes) → Withdraws old number last r new
      → ListWithdraws (owner_offers payload xs old.offers) number last r (owner_offers payload xs new.offers)
  list_withdraws xs old number last (withdrawing.Withdrawn s) new h =
      ap (λ (v : OwnerNotes). owner_offers payload xs v.offers) h.after ∙ offers_altered xs old.offers number (notes.withdrawn_at s) (withdrawn_at s) (λ x o. refl)
  list_withdraws xs old number last (withdrawing.Taken s) new h =
      (h.of, h.next, ap (owner_offers payload xs) h.offers ∙ offers_altered xs old.offers number (notes.known_at h.of) (known_at h.of) (λ x o. refl))
  list_withdraws xs old number last withdrawing.ClockFull new h =
      ⊎_elim (λ (n : IsNotTried old last new). ap (λ (v : OwnerNotes). owner_offers payload xs v.offers) n.after)
      (λ (n : IsHeardOnly old last number new). ap (owner_offers payload xs) n.offers) h

-- ---- calls

with_hand : {R S T : Type 0} (q : Option T) → (R → S) → IfNone q R → IfNone q S
with_hand None f h = f h
with_hand (Some t) f h = h

module _ (s : SendingAt) (carries : length s.end.payloads ≡ length s.end.notes.offers) (hears : length s.end.notes.heard ≡ length s.end.notes.offers) where
  pub same : map made (offers_on s) ≡ s.end.notes.offers
  same = made_offers Int s.end.payloads s.end.notes.offers carries

  module _ (last : ℕ) (new : OwnerNotes) where
    abbrev after : ℕ → SendingAt
    after polls = record { link = s.link; end = record s.end { notes = new }; polls = polls; tries = s.tries }

    hand_is : (polls : ℕ) → (is_decided new ≡ is_decided s.end.notes) × (new.offers ≡ s.end.notes.offers) → (on_send (after polls)).hand ≡ (on_send s).hand
    hand_is polls h = ap (λ b. record { decision = b; front = false; reply = false; slot = (on_send s).hand.slot }) h.0

    pub send_polls : (r : Learning) (wants : Bool) (now polls : ℕ) → Learns s.end.notes last r new → now ≡ learning_clock last r → polls ≡ counted s.polls
        → PollsOn (OfSend s) s.link last wants (learned_as r) (OfSend (after polls)) now
    send_polls r wants now polls h clock count = record {
      answer = learning_answers (on_send s).terms (offers_on s) s.end.notes same hears last new (greatest or_zero new.heard) (omega arith) r (on_send s).hand wants h
          refl refl (λ none w a. refl);
      serves = record {
        terms = ap (λ n. record { capacity = n; requests = false }) (ap (λ t. t.words) (as_long_learned s.end.notes last r new h).table);
        tells = learning_tells (on_send s).terms (offers_on s) s.end.notes same s.link last (offers_on (after polls)) new r now h
            (list_learns Int s.end.payloads s.end.notes last r new h) clock;
        hand = with_hand (told_by_arrival s.link (learned_as r)) (hand_is polls) (decided_learned s.end.notes s.link last r new h);
      };
      polls = count;
      tries = refl;
      exact = (r, h, refl);
    }

    pub send_withdraws : (n : ℕ) (r : Withdrawing) (now : ℕ) → may_withdraw (slice_get (offers_on s) n) ≡ true → Withdraws s.end.notes n last r new
        → now ≡ withdrawing_clock last r → WithdrawsOn (OfSend s) s.link last n r (OfSend (after s.polls)) now
    send_withdraws n r now may h clock = record {
      answer = withdrawal_answers (on_send s).terms (offers_on s) s.end.notes same hears last new (greatest or_zero new.heard) (omega arith) n r may h;
      serves = record {
        terms = ap (λ n. record { capacity = n; requests = false }) (ap (λ t. t.words) (as_long_withdrawn s.end.notes n last r new h).table);
        tells = withdrawal_tells (on_send s).terms (offers_on s) s.end.notes same s.link last (offers_on (after s.polls)) n r now may new h
            (list_withdraws Int s.end.payloads s.end.notes n last r new h) clock;
        hand = with_hand (told_by_withdrawing s.link n r) (hand_is s.polls) (decided_withdrawn s.end.notes s.link n last r new h);
      };
      polls = refl;
      tries = refl;
      exact = h;
    }

  -- an offer
  abbrev tried : Sending (List ℤ) → ℕ → SendingAt
  tried end tries = record { link = s.link; end = end; polls = s.polls; tries = tries }

  not_offered : (last : ℕ) (payload : Payload) (back : Offering Payload) (new : Sending (List ℤ)) (now tries : ℕ) → new ≡ s.end → now ≡ last → tries ≡ counted s.tries
      → told_by_offering s.link payload back ≡ None → IsOfferAnswer (on_send s).terms (on_send s).end (on_send s).hand last payload back
      → OffersAt (OfSend s) last payload back (OfSend (tried new tries))
      → OffersOn (OfSend s) s.link last payload back (OfSend (tried new tries)) now
  not_offered last payload back new now tries e clock count none answer exact =
      subst (λ (v : Sending (List ℤ)). OffersAt (OfSend s) last payload back (OfSend (tried v tries)) → OffersOn (OfSend s) s.link last payload back (OfSend (tried v tries)) now) (sym e)
      (λ exact. record {
        answer = answer;
        serves = record {
          terms = refl;
          tells = subst (λ q. TellsAt (on_send s).terms (on_send s).end s.link last q (on_send s).end now) (sym none) (refl, clock);
          hand = subst (λ q. IfNone q ((on_send s).hand ≡ (on_send s).hand)) (sym none) refl;
        };
        polls = refl;
        tries = count;
        exact = exact;
      }) exact

  pub send_offers : (last : ℕ) (value : List ℤ) (r : Offering (List ℤ)) (new : Sending (List ℤ)) (now tries : ℕ) → Offers s.end value last r new → now ≡ offering_clock last r
      → tries ≡ counted s.tries → OffersOn (OfSend s) s.link last (Int value) (as_payload r) (OfSend (tried new tries)) now
  send_offers last value (NoRoom back) new now tries h clock count =
      not_offered last (Int value) (NoRoom (Int back)) new now tries h.2 clock count refl
      (ap Int h.1, room_is (on_send s).terms (offers_on s) s.end.notes same refl ∙ h.0) (NoRoom back, h, refl)
  send_offers last value (ClockFull back) new now tries h clock count =
      not_offered last (Int value) (ClockFull (Int back)) new now tries h.3 clock count refl
      (ap Int h.2, room_is (on_send s).terms (offers_on s) s.end.notes same refl ∙ h.0, h.1) (ClockFull back, h, refl)
  send_offers last value (NotYet back) new now tries h clock count =
      not_offered last (Int value) (NotYet (Int back)) new now tries h.4 clock count refl
      (ap Int h.3, room_is (on_send s).terms (offers_on s) s.end.notes same refl ∙ h.0, ap is_some h.1.1, ap (nat_lt 0) h.2) (NotYet back, h, refl)
  send_offers last value (Offered number stamp) new now tries h clock count = record {
    answer = room_is (on_send s).terms (offers_on s) s.end.notes same refl ∙ h.0;
    serves = record {
      terms = ap (λ t. record { capacity = t.words; requests = false }) h.3.notes.table;
      tells =
          let at : number ≡ length (offers_on s) = h.2 ∙ sym (count_is (offers_on s) s.end.notes.offers same) in
          let list : offers_on (tried new tries) ≡ offers_on s ++ owner_offer (Int value) stamp ∷ [] =
          ap (λ xs. owner_offers Int xs new.notes.offers) h.3.payloads
          ∙ ap (owner_offers Int (s.end.payloads ++ value ∷ [])) h.3.notes.offers
          ∙ offers_added Int s.end.payloads s.end.notes.offers value stamp carries in
          subst (λ os. TellsAt (on_send s).terms (on_send s).end s.link last (told_by_offering s.link (Int value) (Offered number stamp)) (Owns os) now) (sym list)
          (subst (λ now. TellsAt (on_send s).terms (on_send s).end s.link last (told_by_offering s.link (Int value) (Offered number stamp))
          (Owns (offers_on s ++ owner_offer (Int value) stamp ∷ [])) now) (sym clock)
          (offer_tells (on_send s).terms (offers_on s) s.link last (Int value) number stamp (room_is (on_send s).terms (offers_on s) s.end.notes same refl ∙ h.0) refl at h.1));
      hand = tt;
    };
    polls = refl;
    tries = count;
    exact = (Offered number stamp, h, refl);
  }
