-- The link of a core's requests once the worker has settled them: what the two ends tell of it is settled. The worker's decisions with its
-- replies are those of an end that makes a link, the replies that the core has not had are those that it has gathered, and each stamp that
-- one end has heard of is that of an entry of the other.
use Rattle.std.proofs.Common.{◌≡◌, ℕ, zero, suc, ◌<◌, ◌≤◌, List, [], ◌∷◌, ◌++◌, Option, Some, None, Bool, true, false}
use Rattle.std.proofs.Common.{◌&&◌, refl, sym, ap, ◌∙◌, subst, arith, length, max, nat_lt}
use Rattle.std.specs.Prelude.{◌==◌, ◌-◌, map}
use Rattle.std.specs.Option.{ForSome}
use Rattle.std.specs.List.{All, AllByRecursion}
use Rattle.std.proofs.lemmas.List.Elements.{All-cons}
use Rattle.ac_base.specs.declared.entry.Payload.{Payload}
use Rattle.ac_base.specs.declared.entry.Event.{Event}
use Rattle.ac_base.specs.declared.entry.Event.TheVariants.{Offer, Withdraw, Know, Room, Got, Pass, Did, Reply}
use Rattle.ac_base.specs.declared.entry.Stamped.{Stamped}
use Rattle.ac_links.specs.declared.payloads.Terms.{Terms}
use Rattle.ac_links.specs.Payloads.{is_payload}
use Rattle.ac_links.specs.Views.{Response, OwnerOffer, PeerDecision, OwnerRuns, owner_fits, owner_after, owner_lead, owner_offer, altered, withdrawn_at, known_at, replied_with}
use Rattle.ac_links.specs.Noted.{or_zero}
use Rattle.ac_links.specs.Replies.{waiting_replies}
use Rattle.core_channels.specs.LinkViews.{AreViews}
use Rattle.core_ports.specs.Ends.{greatest, last_stamp_of}
use Rattle.completion_word.specs.declared.answers.Look.{Look}
use Rattle.completion_word.specs.declared.answers.Look.TheVariants as look
use Rattle.completion_word.specs.declared.views.Decision.{Decision}
use Rattle.completion_word.specs.declared.views.DecisionKind.{DecisionKind}
use Rattle.completion_word.specs.declared.views.DecisionKind.TheVariants as outcome
use Rattle.completion_word.specs.Steps.{stamp_seen}
use Rattle.channel_ends.specs.Sending.{MadeOffer, made_at}
use Rattle.channel_ends.specs.Settled.{stamp_of, IsTrueOf, owner_offers}
use Rattle.request_ends.specs.Asking.{Asking, asked, requests_of, replies_after}
use Rattle.request_ends.proofs.Viewing.{requests_are_views}
use Rattle.end_ports.specs.Held.{AskingAt}
use Rattle.end_ports.specs.OnLinks.{on_ask}
use Rattle.end_ports.proofs.Owning.{made, lead_is, count_is}
use Rattle.end_ports.proofs.Asking.{made_asked}
use Rattle.file_worker.specs.Ends.{CoreEnds, AreAnswered, HasReply, decisions_of, replies_left}
use Rattle.file_worker.specs.Laws.{AreViewed, taking_of}
use Rattle.file_worker.specs.Settling.{AskIsSettled}
use Rattle.file_worker.proofs.Answering.{are_viewed, decisions_long}
use Rattle.run_parties.specs.Seats.{on_request}
use Rattle.run_parties.specs.Settling.{IsSettledOn}

-- ---- a link of requests carries requests

abbrev IsCarried : OwnerOffer → Type 0
IsCarried o = is_payload true o.payload ≡ true

third : (a b c : Bool) → (a && b && c) ≡ true → c ≡ true
third true true c h = h
third true false c h = cc
third false b c h = cc

carried_push : (os : List OwnerOffer) (o : OwnerOffer) → AllByRecursion IsCarried os → IsCarried o → AllByRecursion IsCarried (os ++ o ∷ [])
carried_push [] o h c = (c, tt)
carried_push (x ∷ os) o h c = (h.0, carried_push os o h.1 c)

carried_altered : (os : List OwnerOffer) (n : ℕ) (f : OwnerOffer → OwnerOffer) → ((o : OwnerOffer) → (f o).payload ≡ o.payload)
    → AllByRecursion IsCarried os → AllByRecursion IsCarried (altered os n f)
carried_altered [] n f same h = tt
carried_altered (o ∷ os) zero f same h = (ap (is_payload true) (same o) ∙ h.0, h.1)
carried_altered (o ∷ os) (suc n) f same h = (h.0, carried_altered os n f same h.1)

module _ (terms : Terms) (mine : Event → ℕ) (requests : terms.requests ≡ true) where
  carried_after : (os : List OwnerOffer) (s of : ℕ) (e : Event) → owner_fits terms os e ≡ true → AllByRecursion IsCarried os
      → AllByRecursion IsCarried (owner_after os s of e)
  carried_after os s of (Offer l n payload) fits h =
      let own = third (n == length os) (nat_lt (length os - owner_lead os) terms.capacity) (is_payload terms.requests payload) fits in
      carried_push os (owner_offer payload s) h (ap (λ b. is_payload b payload) (sym requests) ∙ own)
  carried_after os s of (Withdraw l n) fits h = carried_altered os n (withdrawn_at s) (λ o. refl) h
  carried_after os s of (Know l n) fits h = carried_altered os n (known_at of) (λ o. refl) h
  carried_after os s of (Room l n) fits h = carried_altered os n (known_at of) (λ o. refl) h
  carried_after os s of (Got l n value) fits h = h
  carried_after os s of (Pass l n) fits h = h
  carried_after os s of (Did l n answer) fits h = h
  carried_after os s of (Reply l n answer) fits h = carried_altered os n (replied_with answer of) (λ o. refl) h

  carried_run : (os : List OwnerOffer) (es : List Stamped) (end : List OwnerOffer) → OwnerRuns terms mine os es end → AllByRecursion IsCarried os
      → AllByRecursion IsCarried end
  carried_run os [] end r h = subst (AllByRecursion IsCarried) (sym r) h
  carried_run os (e ∷ es) end r h = carried_run (owner_after os e.entry.stamp (mine e.entry.event) e.entry.event) es end r.2
      (carried_after os e.entry.stamp (mine e.entry.event) e.entry.event r.0 h)

payloads_carried : (xs : List Payload) (os : List MadeOffer) (rs : List Response) → length xs ≡ length os
    → AllByRecursion IsCarried (asked xs os rs) → All (λ x. is_payload true x ≡ true) xs
payloads_carried [] os rs e h = λ i d q. absurd (omega arith)
payloads_carried (x ∷ xs) [] rs e h = absurd (omega arith)
payloads_carried (x ∷ xs) (o ∷ os) rs e h =
    All-cons (λ x. is_payload true x ≡ true) x xs h.0 (payloads_carried xs os (replies_after o.withdrawn rs) (omega arith) h.1)

-- the requests carry what a link of requests carries
pub requests_carried : (terms : Terms) (mine : Event → ℕ) (es : List Stamped) (ask : Asking) → terms.requests ≡ true
    → OwnerRuns terms mine [] es (requests_of ask) → length ask.send.payloads ≡ length ask.send.notes.offers
    → All (λ x. is_payload true x ≡ true) ask.send.payloads
requests_carried terms mine es ask requests runs long =
    payloads_carried ask.send.payloads ask.send.notes.offers ask.replies long (carried_run terms mine requests [] es (requests_of ask) runs tt)

-- ---- the stamps of the worker's entries

-- the law on links has the same stamps of the decisions
decided_stamps : (ds : List Decision) (rs : List Response)
    → greatest (λ (d : Decision). stamp_of d.outcome) ds ≡ greatest (λ (d : PeerDecision). d.stamp) (decisions_of ds rs)
decided_stamps [] rs = refl
decided_stamps (d ∷ ds) rs = ap (max (stamp_of d.outcome)) (decided_stamps ds (replies_left d.outcome rs))

first_replied : (x : Payload) (kind : DecisionKind) (rs : List Response) (most : ℕ) → HasReply x kind rs
    → greatest (λ (r : Response). r.of) (replies_left kind rs) ≤ most → greatest (λ (r : Response). r.of) rs ≤ max (stamp_of kind) most
first_replied x (outcome.Taken t) [] most h later = absurd h
first_replied x (outcome.Taken t) (r ∷ rs) most h later = omega (arith, h.0, later)
first_replied x (outcome.Passed t) rs most h later = omega (arith, later)

-- each reply has the stamp of the decision that took its request
replied_stamps : (xs : List Payload) (ds : List Decision) (rs : List Response) → AreAnswered xs ds rs
    → greatest (λ (r : Response). r.of) rs ≤ greatest (λ (d : Decision). stamp_of d.outcome) ds
replied_stamps [] [] rs h = let none : greatest (λ (r : Response). r.of) rs ≡ 0 = ap (greatest (λ (r : Response). r.of)) h in omega (arith, none)
replied_stamps [] (d ∷ ds) rs h = absurd h
replied_stamps (x ∷ xs) [] rs h = absurd h
replied_stamps (x ∷ xs) (d ∷ ds) rs h = first_replied x d.outcome rs (greatest (λ (d : Decision). stamp_of d.outcome) ds) h.0
    (replied_stamps xs ds (replies_left d.outcome rs) h.1)

-- ---- the stamps of the requests

asked_most : (xs : List Payload) (os : List MadeOffer) (rs : List Response) (k : ℕ) → length xs ≡ length os → k < length os
    → max (made_at os k).stamp (or_zero (made_at os k).withdrawn) ≤ greatest last_stamp_of (asked xs os rs)
asked_most [] [] rs k e h = absurd (omega arith)
asked_most [] (o ∷ os) rs k e h = absurd (omega arith)
asked_most (x ∷ xs) [] rs k e h = absurd (omega arith)
asked_most (x ∷ xs) (o ∷ os) rs zero e h = omega arith
asked_most (x ∷ xs) (o ∷ os) rs (suc k) e h =
    let up = asked_most xs os (replies_after o.withdrawn rs) k (omega arith) (omega arith) in omega arith

below_most : (q : Option ℕ) (a w most : ℕ) → q ≡ Some w → max a (or_zero q) ≤ most → w ≤ most
below_most q a w most e h = let v : or_zero q ≡ w = ap or_zero e in omega arith

-- what a look at one of the offers showed is no later than the last stamp of it
module _ (os : List MadeOffer) (n most : ℕ) (last : n < length os → max (made_at os n).stamp (or_zero (made_at os n).withdrawn) ≤ most) where
  seen_most : (shown : Look) → IsTrueOf os n shown → stamp_seen (Some shown) ≤ most
  seen_most (look.Offered t) h = let up = last h.0 in omega (arith, h.1)
  seen_most (look.Withdrawn w) h = below_most (made_at os n).withdrawn (made_at os n).stamp w most h.1 (last h.0)
  seen_most look.Nothing h = omega arith

  looked_most : (seen : Option Look) → ForSome seen (IsTrueOf os n) → stamp_seen seen ≤ most
  looked_most None h = omega arith
  looked_most (Some shown) h = seen_most shown (h shown refl)

-- ---- both ends

module _ (e : CoreEnds) (ask : AskingAt) (settled : AskIsSettled ask e)
    (answered : AreAnswered e.ask.popped e.ask.peer.decisions e.reply.replies)
    (carried : All (λ x. is_payload true x ≡ true) ask.end.send.payloads) where
  abbrev offers : List OwnerOffer
  offers = requests_of ask.end

  abbrev decisions : List PeerDecision
  decisions = decisions_of e.ask.peer.decisions e.reply.replies

  viewed : AreViewed e.ask.popped e.ask.peer.decisions e.reply.replies
  viewed = are_viewed e.ask.popped e.ask.peer.decisions e.reply.replies answered

  without_replies : AreViews true (owner_offers (λ x. x) ask.end.send.payloads ask.end.send.notes.offers) decisions
  without_replies = subst (AreViews true (owner_offers (λ x. x) ask.end.send.payloads ask.end.send.notes.offers)) viewed.same
      (settled.link true (λ x. x) (taking_of e.ask.peer.decisions e.reply.replies) carried viewed.taken)

  views : AreViews true offers decisions × (waiting_replies offers decisions ≡ ask.end.gathered)
  views = requests_are_views ask.end.send.payloads ask.end.send.notes.offers ask.end.replies ask.end.gathered decisions without_replies
      viewed.requests (viewed.on_ring ∙ sym settled.replies.all)

  same_offers : map made offers ≡ ask.end.send.notes.offers
  same_offers = made_asked ask.end.send.payloads ask.end.send.notes.offers ask.end.replies settled.settled.one_sent

  same_count : length decisions ≡ length e.ask.peer.decisions
  same_count = decisions_long e.ask.peer.decisions e.reply.replies

  heard_by_owner : (on_ask ask).heard ≤ greatest (λ (d : PeerDecision). d.stamp) decisions
  heard_by_owner =
      let replies = replied_stamps e.ask.popped e.ask.peer.decisions e.reply.replies answered in
      let same = decided_stamps e.ask.peer.decisions e.reply.replies in
      omega (arith, settled.told.heard, replies, same)

  heard_by_peer : stamp_seen e.ask.peer.look ≤ greatest last_stamp_of offers
  heard_by_peer = looked_most ask.end.send.notes.offers (length e.ask.peer.decisions) (greatest last_stamp_of offers)
      (asked_most ask.end.send.payloads ask.end.send.notes.offers ask.end.replies (length e.ask.peer.decisions) settled.settled.one_sent)
      e.ask.peer.look settled.settled.one_link.seen_true

  -- all that was decided, replied or offered is at hand, and nothing later was heard of
  pub requests_settled : IsSettledOn true (on_ask ask) (on_request e)
  requests_settled = record {
    known = record {
      offers = offers;
      decisions = decisions;
      owns = refl;
      decides = refl;
      views = views.0;
      decision = settled.told.decision
          ∙ ap (λ n. nat_lt n (length e.ask.peer.decisions)) (sym (lead_is offers ask.end.send.notes.offers same_offers))
          ∙ ap (nat_lt (owner_lead offers)) (sym same_count);
      reply = λ r. ap (λ rs. nat_lt 0 (length rs)) (sym views.1);
      slot = settled.told.slot;
      front = ap (nat_lt (length e.ask.peer.decisions)) settled.settled.offers_told
          ∙ ap (λ n. nat_lt n (length ask.end.send.notes.offers)) (sym same_count)
          ∙ ap (nat_lt (length decisions)) (sym (count_is offers ask.end.send.notes.offers same_offers));
    };
    heard_by_owner = heard_by_owner;
    heard_by_peer = heard_by_peer;
  }
