-- What the answers of the end of a core's requests are to its link.
use Rattle.std.proofs.Common.{◌≡◌, ℕ, suc, ◌-◌, ◌<◌, ◌≤◌, List, [], ◌∷◌, ◌++◌, Option, Some, None, Bool, true, false}
use Rattle.std.proofs.Common.{◌&&◌, ◌||◌, not, cond, refl, sym, ap, ◌∙◌, subst, arith, length, nat_lt, is_some, is_none, ◌⊎◌, ⊎_elim}
use Rattle.std.specs.Prelude.{slice_get, map, IfNone}
use Rattle.ac_base.specs.declared.entry.Payload.{Payload}
use Rattle.ac_links.specs.declared.payloads.Terms.{Terms}
use Rattle.ac_links.specs.Payloads.{is_payload}
use Rattle.ac_links.specs.Views.{Response, OwnerOffer, altered, owner_offer, replied_with, may_withdraw, may_reply}
use Rattle.ac_links.specs.Noted.{or_zero}
use Rattle.ac_links.specs.Replies.{least_open}
use Rattle.ac_links.specs.Party.{LinkEnd}
use Rattle.ac_links.specs.Party.LinkEnd.{Owns}
use Rattle.core_channels.specs.declared.answers.Arrived.{Arrived}
use Rattle.core_channels.specs.declared.answers.Offering.{Offering}
use Rattle.core_channels.specs.declared.answers.Offering.TheVariants.{Offered, NoRoom, NotYet, ClockFull}
use Rattle.core_channels.specs.declared.answers.Learning.{Learning}
use Rattle.core_channels.specs.declared.answers.Learning.TheVariants as learning
use Rattle.core_channels.specs.declared.answers.Withdrawing.{Withdrawing}
use Rattle.core_channels.specs.declared.answers.Withdrawing.TheVariants as withdrawing
use Rattle.core_channels.specs.Counts.{counted}
use Rattle.core_channels.specs.Laws.{told_by_offering, told_by_withdrawing}
use Rattle.core_channels.specs.Learns.{learning_clock}
use Rattle.core_channels.specs.Withdraws.{withdrawing_clock}
use Rattle.channel_ends.specs.Sending.{MadeOffer, OwnerNotes, known_lead, capacity_of}
use Rattle.channel_ends.specs.Sending as notes
use Rattle.channel_ends.specs.Offers.{offering_clock}
use Rattle.channel_ends.specs.Learns.{Learns}
use Rattle.channel_ends.specs.Withdraws.{Withdraws}
use Rattle.core_ports.specs.AtHand.{AtHand}
use Rattle.core_ports.specs.Answers.{IsOfferAnswer, IsPollAnswer}
use Rattle.core_ports.specs.Ends.{awaits_reply, greatest, is_known}
use Rattle.core_ports.specs.Tells.{told_by_arrival}
use Rattle.request_ends.specs.declared.asking.Replied.{Replied}
use Rattle.request_ends.specs.declared.asking.Replied.TheVariants as replied
use Rattle.request_ends.specs.Asking.{Asking, asked, requests_of, replies_after}
use Rattle.request_ends.specs.Requesting.{Requests, NotesOnly, ListLearns, ListWithdraws}
use Rattle.request_ends.specs.Answered.{Replies, OnlyLooks, replied_clock}
use Rattle.end_ports.specs.Held.{AskingAt}
use Rattle.end_ports.specs.Held.HeldEnd.{OfAsk}
use Rattle.end_ports.specs.EndCalls.{AfterLearning, HasWanted}
use Rattle.end_ports.specs.OnLinks.{is_decided, on_ask}
use Rattle.end_ports.specs.inner.Calls.{TellsAt, Serves, OffersOn, WithdrawsOn, PollsOn, LooksOn}
use Rattle.end_ports.specs.Answers.{learned_as, replied_as, is_quiet}
use Rattle.end_ports.specs.inner.Entered.{enters_offering, enters_withdrawal, enters_learning, enters_reply}
use Rattle.end_ports.proofs.Owning.{made, room_is, count_is, offer_tells, reply_tells}
use Rattle.end_ports.proofs.Answering.{learning_tells, withdrawal_tells, learning_answers, withdrawal_answers, decided_learned, decided_withdrawn, as_long_learned, as_long_withdrawn}
use Rattle.end_ports.proofs.Stamps.{none_above, among}

-- ---- the requests

pub made_asked : (xs : List Payload) (os : List MadeOffer) (rs : List Response) → length xs ≡ length os → map made (asked xs os rs) ≡ os
made_asked [] [] rs h = refl
made_asked [] (o ∷ os) rs h = absurd (omega arith)
made_asked (x ∷ xs) [] rs h = absurd (omega arith)
made_asked (x ∷ xs) (o ∷ os) rs h = ap (λ rest. o ∷ rest) (made_asked xs os (replies_after o.withdrawn rs) (omega arith))

-- the reply that is awaited may come
open_by : (o : OwnerOffer) (os : List OwnerOffer) (w : Option ℕ) (r : Option Response) → o.withdrawn ≡ w → o.reply ≡ r
    → (is_known (slice_get os (least_open os)) ≡ true → may_reply (slice_get os (least_open os)) ≡ true)
    → is_known (slice_get (o ∷ os) (cond (is_some w || is_some r) (suc (least_open os)) 0)) ≡ true
    → may_reply (slice_get (o ∷ os) (cond (is_some w || is_some r) (suc (least_open os)) 0)) ≡ true
open_by o os (Some w) r e f more h = more h
open_by o os None (Some r) e f more h = more h
open_by o os None None e f more h = ap (λ q. is_none q && is_none o.reply) e ∙ ap is_none f

may_have : (os : List OwnerOffer) → is_known (slice_get os (least_open os)) ≡ true → may_reply (slice_get os (least_open os)) ≡ true
may_have [] h = cc
may_have (o ∷ os) h = open_by o os o.withdrawn o.reply refl refl (may_have os) h

and_true : (b : Bool) → (b && true) ≡ b
and_true true = refl
and_true false = refl

pub room_stays : (old new : OwnerNotes) → new.offers ≡ old.offers → new.table ≡ old.table → notes.has_room new ≡ notes.has_room old
room_stays old new offers table =
    ap (λ ms. nat_lt (length ms - known_lead ms) (capacity_of new)) offers ∙ ap (λ t. nat_lt (length old.offers - known_lead old.offers) t.words) table

with_none : {R S T : Type 0} (q : Option T) → (q ≡ None → R → S) → IfNone q R → IfNone q S
with_none None f h = f refl h
with_none (Some t) f h = h

-- where no decision is learned the clock stays
pub quiet_clock : (last : ℕ) (r : Learning) → is_quiet r ≡ true → learning_clock last r ≡ last
quiet_clock last (learning.Know number s) q = cc
quiet_clock last (learning.Room number s) q = cc
quiet_clock last learning.Undecided q = refl
quiet_clock last learning.AllKnown q = refl
quiet_clock last learning.ClockFull q = refl

module _ (a : AskingAt) (carries : length a.end.send.payloads ≡ length a.end.send.notes.offers) (hears : length a.end.send.notes.heard ≡ length a.end.send.notes.offers) where
  abbrev os : List OwnerOffer
  os = requests_of a.end

  abbrev old : OwnerNotes
  old = a.end.send.notes

  pub same : map made os ≡ old.offers
  same = made_asked a.end.send.payloads old.offers a.end.replies carries

  abbrev after : Asking → ℕ → ℕ → Bool → AskingAt
  after end polls tries settled = record { link = a.link; end = end; polls = polls; tries = tries; settled = settled }

  -- ---- offers
  module _ (ready : a.settled ≡ true → notes.has_room old ≡ true → (0 < a.end.send.free) × (0 < a.end.places)) where
    no_slot : (b : Bool) → a.settled ≡ b → notes.has_room old ≡ true → (a.end.send.free ≡ 0) ⊎ (a.end.places ≡ 0) → (a.settled && notes.has_room old) ≡ false
    no_slot true e room none = absurd (⊎_elim (λ (z : a.end.send.free ≡ 0). let r = ready e room in omega (arith, z, r.0))
        (λ (z : a.end.places ≡ 0). let r = ready e room in omega (arith, z, r.1)) none)
    no_slot false e room none = ap (λ b. b && notes.has_room old) e

    not_requested : (last : ℕ) (payload : Payload) (back : Offering Payload) (new : Asking) (now tries : ℕ) (settled : Bool) → new ≡ a.end → now ≡ last → tries ≡ counted a.tries
        → settled ≡ (a.settled && true) → told_by_offering a.link payload back ≡ None → IsOfferAnswer (on_ask a).terms (on_ask a).end (on_ask a).hand last payload back
        → Requests a.end payload last back new → OffersOn (OfAsk a) a.link last payload back (OfAsk (after new a.polls tries settled)) now
    not_requested last payload back new now tries settled e clock count stays none answer exact =
        subst (λ (v : Asking). Requests a.end payload last back v → OffersOn (OfAsk a) a.link last payload back (OfAsk (after v a.polls tries settled)) now) (sym e)
        (λ exact. subst (λ b. OffersOn (OfAsk a) a.link last payload back (OfAsk (after a.end a.polls tries b)) now) (sym (stays ∙ and_true a.settled)) (record {
          answer = answer;
          serves = record {
            terms = refl;
            tells = subst (λ q. TellsAt (on_ask a).terms (on_ask a).end a.link last q (on_ask a).end now) (sym none) (refl, clock);
            hand = subst (λ q. IfNone q ((on_ask a).hand ≡ (on_ask a).hand)) (sym none) refl;
          };
          polls = refl;
          tries = count;
          exact = exact;
        })) exact

    pub ask_offers : (last : ℕ) (payload : Payload) (r : Offering Payload) (new : Asking) (now tries : ℕ) (settled : Bool) → Requests a.end payload last r new
        → is_payload true payload ≡ true → now ≡ offering_clock last r → tries ≡ counted a.tries → settled ≡ (a.settled && not (enters_offering r))
        → OffersOn (OfAsk a) a.link last payload r (OfAsk (after new a.polls tries settled)) now
    ask_offers last payload (NoRoom back) new now tries settled h fits clock count stays =
        not_requested last payload (NoRoom back) new now tries settled h.2 clock count stays refl (h.1, room_is (on_ask a).terms os old same refl ∙ h.0) h
    ask_offers last payload (ClockFull back) new now tries settled h fits clock count stays =
        not_requested last payload (ClockFull back) new now tries settled h.3 clock count stays refl (h.2, room_is (on_ask a).terms os old same refl ∙ h.0, h.1) h
    ask_offers last payload (NotYet back) new now tries settled h fits clock count stays =
        not_requested last payload (NotYet back) new now tries settled h.4 clock count stays refl
        (h.3, room_is (on_ask a).terms os old same refl ∙ h.0, ap is_some h.1.1, no_slot a.settled refl h.0 h.2) h
    ask_offers last payload (Offered number stamp) new now tries settled h fits clock count stays = record {
      answer = room_is (on_ask a).terms os old same refl ∙ h.0;
      serves = record {
        terms = ap (λ t. record { capacity = t.words; requests = true }) h.3.send.notes.table;
        tells =
            let at : number ≡ length os = h.2 ∙ sym (count_is os old.offers same) in
            subst (λ xs. TellsAt (on_ask a).terms (Owns os) a.link last (told_by_offering a.link payload (Offered number stamp)) (Owns xs) now) (sym h.3.list)
            (subst (λ now. TellsAt (on_ask a).terms (Owns os) a.link last (told_by_offering a.link payload (Offered number stamp)) (Owns (os ++ owner_offer payload stamp ∷ [])) now) (sym clock)
            (offer_tells (on_ask a).terms os a.link last payload number stamp (room_is (on_ask a).terms os old same refl ∙ h.0) fits at h.1));
        hand = tt;
      };
      polls = refl;
      tries = count;
      exact = h;
    }

  -- ---- what is learned
  module _ (last : ℕ) (new : Asking) (only : NotesOnly a.end new) where
    heard_most : greatest or_zero new.send.notes.heard ≤ (on_ask (after new a.polls a.tries a.settled)).heard
    heard_most = omega arith

    gathered_is : new.gathered ≡ a.end.gathered
    gathered_is = ap (λ (e : Asking). e.gathered) only

    hand_is : (polls tries : ℕ) (settled : Bool) → settled ≡ a.settled → new.send.notes.table ≡ old.table → (is_decided new.send.notes ≡ is_decided old) × (new.send.notes.offers ≡ old.offers)
        → (on_ask (after new polls tries settled)).hand ≡ (on_ask a).hand
    hand_is polls tries settled stays table h =
        ap (λ b. record { decision = b; front = false; reply = nat_lt 0 (length new.gathered); slot = settled && notes.has_room new.send.notes }) h.0
        ∙ ap (λ gs. record { decision = is_decided old; front = false; reply = nat_lt 0 (length gs); slot = settled && notes.has_room new.send.notes }) gathered_is
        ∙ ap (λ b. record { decision = is_decided old; front = false; reply = nat_lt 0 (length a.end.gathered); slot = b && notes.has_room new.send.notes }) stays
        ∙ ap (λ b. record { decision = is_decided old; front = false; reply = nat_lt 0 (length a.end.gathered); slot = a.settled && b }) (room_stays old new.send.notes h.1 table)

    quiet_withdrawal : (n : ℕ) (r : Withdrawing) (settled : Bool) → settled ≡ (a.settled && not (enters_withdrawal r)) → told_by_withdrawing a.link n r ≡ None → settled ≡ a.settled
    quiet_withdrawal n (withdrawing.Withdrawn s) settled e none = cc
    quiet_withdrawal n (withdrawing.Taken s) settled e none = cc
    quiet_withdrawal n withdrawing.ClockFull settled e none = e ∙ and_true a.settled

    pub ask_withdraws : (n : ℕ) (r : Withdrawing) (now : ℕ) (settled : Bool) → may_withdraw (slice_get os n) ≡ true → Withdraws old n last r new.send.notes
        → ListWithdraws os n last r (requests_of new) → now ≡ withdrawing_clock last r → settled ≡ (a.settled && not (enters_withdrawal r))
        → WithdrawsOn (OfAsk a) a.link last n r (OfAsk (after new a.polls a.tries settled)) now
    ask_withdraws n r now settled may h list clock stays = let table = (as_long_withdrawn old n last r new.send.notes h).table in record {
      answer = withdrawal_answers (on_ask a).terms os old same hears last new.send.notes (on_ask (after new a.polls a.tries settled)).heard heard_most n r may h;
      serves = record {
        terms = ap (λ t. record { capacity = t.words; requests = true }) table;
        tells = withdrawal_tells (on_ask a).terms os old same a.link last (requests_of new) n r now may new.send.notes h list clock;
        hand = with_none (told_by_withdrawing a.link n r) (λ none. hand_is a.polls a.tries settled (quiet_withdrawal n r settled stays none) table)
            (decided_withdrawn old a.link n last r new.send.notes h);
      };
      polls = refl;
      tries = refl;
      exact = h;
    }

    quiet_learning : (r : Learning) (settled : Bool) → settled ≡ (a.settled && not (enters_learning r)) → told_by_arrival a.link (learned_as r) ≡ None → settled ≡ a.settled
    quiet_learning (learning.Know number s) settled e none = cc
    quiet_learning (learning.Room number s) settled e none = cc
    quiet_learning learning.Undecided settled e none = e ∙ and_true a.settled
    quiet_learning learning.AllKnown settled e none = e ∙ and_true a.settled
    quiet_learning learning.ClockFull settled e none = e ∙ and_true a.settled

    -- a decision was learned, or there is no stamp for it
    pub ask_learns : (r : Learning) (wants : Bool) (now polls : ℕ) (settled : Bool) → is_quiet r ≡ false → Learns old last r new.send.notes → ListLearns os last r (requests_of new)
        → now ≡ learning_clock last r → polls ≡ counted a.polls → settled ≡ (a.settled && not (enters_learning r))
        → PollsOn (OfAsk a) a.link last wants (learned_as r) (OfAsk (after new polls a.tries settled)) now
    ask_learns r wants now polls settled news h list clock count stays = let table = (as_long_learned old last r new.send.notes h).table in record {
      answer = learning_answers (on_ask a).terms os old same hears last new.send.notes (on_ask (after new polls a.tries settled)).heard heard_most r (on_ask a).hand wants h refl refl
          (λ q. let no : true ≡ false = sym q ∙ news in absurd (cc));
      serves = record {
        terms = ap (λ t. record { capacity = t.words; requests = true }) table;
        tells = learning_tells (on_ask a).terms os old same a.link last (requests_of new) new.send.notes r now h list clock;
        hand = with_none (told_by_arrival a.link (learned_as r)) (λ none. hand_is polls a.tries settled (quiet_learning r settled stays none) table)
            (decided_learned old a.link last r new.send.notes h);
      };
      polls = count;
      tries = refl;
      exact = record { learned = r; then = new; learns = h; only = only; after = subst (λ b. AfterLearning b r new last wants (learned_as r) new) (sym news) (refl, refl) };
    }

  -- ---- the next reply
  module _ (last : ℕ) (new : Asking) (settled : Bool) (undecided : (on_ask a).hand.decision ≡ false) where
    abbrev then_at : AskingAt
    then_at = after new a.polls a.tries settled

    only_looked : OnlyLooks a.end new → settled ≡ (a.settled && true) → (on_ask then_at).hand ≡ (on_ask a).hand
    only_looked h stays =
        ap (λ (e : Asking). record { decision = is_decided e.send.notes; front = false; reply = nat_lt 0 (length e.gathered); slot = settled && notes.has_room e.send.notes }) h.rest
        ∙ ap (λ b. record { decision = is_decided old; front = false; reply = nat_lt 0 (length a.end.gathered); slot = b && notes.has_room old }) (stays ∙ and_true a.settled)

    no_entry : (r : Replied) (now : ℕ) → told_by_arrival a.link (replied_as r) ≡ None → OnlyLooks a.end new → settled ≡ (a.settled && true) → now ≡ last
        → Serves (on_ask a) a.link last (told_by_arrival a.link (replied_as r)) (on_ask then_at) now
    no_entry r now none h stays clock = record {
      terms = ap (λ (e : Asking). record { capacity = capacity_of e.send.notes; requests = true }) h.rest;
      tells = subst (λ q. TellsAt (on_ask a).terms (on_ask a).end a.link last q (on_ask then_at).end now) (sym none)
          (ap (λ (e : Asking). Owns (requests_of e)) h.rest, clock);
      hand = subst (λ q. IfNone q ((on_ask then_at).hand ≡ (on_ask a).hand)) (sym none) (only_looked h stays);
    }

    has_reply : (r : Replied) → awaits_reply (on_ask a).end ≡ true → Replies a.end last r new → HasWanted (true && awaits_reply (on_ask a).end) a.end last (replied_as r) new
    has_reply r awaits h = subst (λ b. HasWanted b a.end last (replied_as r) new) (sym awaits) (r, h, refl)

    pub ask_replies : (r : Replied) (now : ℕ) → awaits_reply (on_ask a).end ≡ true → Replies a.end last r new → now ≡ replied_clock last r
        → settled ≡ (a.settled && not (enters_reply r)) → LooksOn a last true (replied_as r) then_at now
    ask_replies (replied.Reply number answer s) now awaits h clock stays = record {
      answer = (refl, refl, h.2, awaits);
      serves = record {
        terms = ap (λ (e : Asking). record { capacity = capacity_of e.send.notes; requests = true }) h.3.rest;
        tells =
            let may : may_reply (slice_get os number) ≡ true = subst (λ n. may_reply (slice_get os n) ≡ true) (sym h.2) (may_have os awaits) in
            let list : requests_of new ≡ altered os number (replied_with answer h.0) = h.3.list ∙ ap (λ n. altered os n (replied_with answer h.0)) (sym h.2) in
            subst (λ xs. TellsAt (on_ask a).terms (Owns os) a.link last (told_by_arrival a.link (replied_as (replied.Reply number answer s))) (Owns xs) now) (sym list)
            (subst (λ now. TellsAt (on_ask a).terms (Owns os) a.link last (told_by_arrival a.link (replied_as (replied.Reply number answer s)))
            (Owns (altered os number (replied_with answer h.0))) now) (sym clock)
            (reply_tells (on_ask a).terms os a.link last number s h.0 answer may h.1));
        hand = tt;
      };
      polls = refl;
      tries = refl;
      exact = has_reply (replied.Reply number answer s) awaits h;
    }
    ask_replies replied.Nothing now awaits h clock stays = record {
      answer = record { decision = undecided; front = λ w. refl; reply = λ w aw. ap (λ (gs : List Response). nat_lt 0 (length gs)) h.0 };
      serves = no_entry replied.Nothing now refl h.2 stays clock;
      polls = refl;
      tries = refl;
      exact = has_reply replied.Nothing awaits h;
    }
    ask_replies replied.ClockFull now awaits h clock stays = record {
      answer = (
        let up = among (λ (r : Response). r.of) (new.gathered ++ new.items) 0 h.0 h.1 in
            none_above last h.0.of (on_ask then_at).heard (omega arith) h.2,
        λ p. cc,
      );
      serves = no_entry replied.ClockFull now refl h.3 stays clock;
      polls = refl;
      tries = refl;
      exact = has_reply replied.ClockFull awaits h;
    }

  -- ---- where no decision is to be learned
  module _ (last : ℕ) (new : Asking) (only : NotesOnly a.end new) (r : Learning) (quiet : is_quiet r ≡ true) (h : Learns old last r new.send.notes)
      (list : ListLearns os last r (requests_of new)) where
    told_none : (r : Learning) → is_quiet r ≡ true → told_by_arrival a.link (learned_as r) ≡ None
    told_none (learning.Know number s) q = cc
    told_none (learning.Room number s) q = cc
    told_none learning.Undecided q = refl
    told_none learning.AllKnown q = refl
    told_none learning.ClockFull q = cc

    none_undecided : (r : Learning) → is_quiet r ≡ true → Learns old last r new.send.notes → is_decided old ≡ false
    none_undecided (learning.Know number s) q h = cc
    none_undecided (learning.Room number s) q h = cc
    none_undecided learning.Undecided q h =
        (learning_answers (on_ask a).terms os old same hears last new.send.notes (greatest or_zero new.send.notes.heard) (omega arith) learning.Undecided
        (record { decision = is_decided old; front = false; reply = false; slot = false }) false h refl refl (λ q w aw. refl)).decision
    none_undecided learning.AllKnown q h =
        (learning_answers (on_ask a).terms os old same hears last new.send.notes (greatest or_zero new.send.notes.heard) (omega arith) learning.AllKnown
        (record { decision = is_decided old; front = false; reply = false; slot = false }) false h refl refl (λ q w aw. refl)).decision
    none_undecided learning.ClockFull q h = cc

    same_list : (r : Learning) → is_quiet r ≡ true → ListLearns os last r (requests_of new) → requests_of new ≡ os
    same_list (learning.Know number s) q list = cc
    same_list (learning.Room number s) q list = cc
    same_list learning.Undecided q list = list
    same_list learning.AllKnown q list = list
    same_list learning.ClockFull q list = cc

    pub quiet_stays : (is_decided new.send.notes ≡ is_decided old) × (new.send.notes.offers ≡ old.offers)
    quiet_stays = subst (λ q. IfNone q ((is_decided new.send.notes ≡ is_decided old) × (new.send.notes.offers ≡ old.offers))) (told_none r quiet)
        (decided_learned old a.link last r new.send.notes h)

    pub quiet_undecided : is_decided new.send.notes ≡ false
    quiet_undecided = quiet_stays.0 ∙ none_undecided r quiet h

    -- the look that follows is a poll
    pub ask_goes_on : (polls : ℕ) (wants : Bool) (result : Arrived) (b : AskingAt) (now : ℕ) → polls ≡ counted a.polls
        → LooksOn (after new polls a.tries a.settled) last wants result b now → PollsOn (OfAsk a) a.link last wants result (OfAsk b) now
    ask_goes_on polls wants result b now count look =
        let table = (as_long_learned old last r new.send.notes h).table in
        let mid = on_ask (after new polls a.tries a.settled) in
        let x = on_ask b in
        let terms : mid.terms ≡ (on_ask a).terms = ap (λ t. record { capacity = t.words; requests = true }) table in
        let end : mid.end ≡ (on_ask a).end = ap Owns (same_list r quiet list) in
        let hand : mid.hand ≡ (on_ask a).hand = hand_is last new only polls a.tries a.settled refl table quiet_stays in
        record {
          answer = subst (λ (t : Terms). IsPollAnswer t (on_ask a).end (on_ask a).hand wants x.heard last result) terms
              (subst (λ (e : LinkEnd). IsPollAnswer mid.terms e (on_ask a).hand wants x.heard last result) end
              (subst (λ (d : AtHand). IsPollAnswer mid.terms mid.end d wants x.heard last result) hand look.answer));
          serves = record {
            terms = look.serves.terms ∙ terms;
            tells = subst (λ (t : Terms). TellsAt t (on_ask a).end a.link last (told_by_arrival a.link result) x.end now) terms
                (subst (λ (e : LinkEnd). TellsAt mid.terms e a.link last (told_by_arrival a.link result) x.end now) end look.serves.tells);
            hand = subst (λ (d : AtHand). IfNone (told_by_arrival a.link result) (x.hand ≡ d)) hand look.serves.hand;
          };
          polls = look.polls ∙ count;
          tries = look.tries;
          exact = record {
            learned = r;
            then = new;
            learns = h;
            only = only;
            after = subst (λ q. AfterLearning q r new last wants result b.end) (sym quiet) look.exact;
          };
        }
