-- What holds of the two views of every link, of its ring of replies, and of every party with its journal.
use Rattle.std.specs.Prelude.{◌≡◌, ℕ, ◌≤◌, List, [], ◌∷◌, ◌++◌, length, slice_get, Some, None, Bool}
use Rattle.ac_base.specs.declared.entry.Answer.{Answer}
use Rattle.ac_base.specs.declared.entry.Event.{Event}
use Rattle.ac_base.specs.declared.entry.Entry.{Entry}
use Rattle.ac_base.specs.declared.entry.Stamped.{Stamped}
use Rattle.ac_links.specs.declared.payloads.Terms.{Terms}
use Rattle.ac_links.specs.Payloads.Taking.{Done}
use Rattle.ac_links.specs.Link.{link_of}
use Rattle.ac_links.specs.Order.{in_order, stamp_of, Rises}
use Rattle.ac_links.specs.Journals.{LinkAgrees}
use Rattle.ac_links.specs.Views.{Response, OwnerOffer, PeerDecision, altered, withdrawn_at, known_at, replied_with}
use Rattle.ac_links.specs.Views.{OwnerRuns, PeerRuns, OfferAgrees, ViewsAgree}
use Rattle.ac_links.specs.Noted.{seen_of, request_of}
use Rattle.ac_links.specs.Replies.{response_of, responses, waiting_replies, least_open, NoMessages, replies_had, AreInTurn, TakesReply}
use Rattle.ac_links.specs.Combined.{link_after_all, combine}
use Rattle.ac_links.specs.AtRest.{OwnerHasNothing, PeerHasNothing, OwnerRests, PeerRests}
use Rattle.ac_links.specs.Party.{LinkEnd, end_after, with_end, PartyAgrees, MayEnter}

-- ---- from two views to one link

-- both sides come to views that agree, by entries whose stamps rise: in order these are right on the link, whichever party is the lower
abbrev pub TwoViewsMakeALink : Type 0
TwoViewsMakeALink = (terms : Terms) (offers : List OwnerOffer) (decisions : List PeerDecision)
    (mine yours : Event → ℕ) (os ds : List Stamped)
    → ViewsAgree offers decisions → OwnerRuns terms mine [] os offers → PeerRuns terms yours [] ds decisions
    → Rises stamp_of os → Rises stamp_of ds
    → LinkAgrees (seen_of offers decisions) (request_of offers) terms [] (in_order stamp_of (os ++ ds))
    × LinkAgrees (seen_of offers decisions) (request_of offers) terms [] (in_order stamp_of (ds ++ os))

-- after all of them, the link is what the two views make it
abbrev pub TwoViewsEndAsALink : Type 0
TwoViewsEndAsALink = (terms : Terms) (offers : List OwnerOffer) (decisions : List PeerDecision)
    (mine yours : Event → ℕ) (os ds : List Stamped)
    → ViewsAgree offers decisions → OwnerRuns terms mine [] os offers → PeerRuns terms yours [] ds decisions
    → Rises stamp_of os → Rises stamp_of ds
    → (link_after_all [] (in_order stamp_of (os ++ ds)) ≡ combine offers decisions)
    × (link_after_all [] (in_order stamp_of (ds ++ os)) ≡ combine offers decisions)

-- ---- what the views tell of rest holds of the link

abbrev pub OwnerAtRest : Type 0
OwnerAtRest = (terms : Terms) (waits : Bool) (offers : List OwnerOffer) (decisions : List PeerDecision)
    → OwnerRests terms waits offers decisions → OwnerHasNothing terms waits (combine offers decisions)

abbrev pub PeerAtRest : Type 0
PeerAtRest = (waits : Bool) (offers : List OwnerOffer) (decisions : List PeerDecision) → ViewsAgree offers decisions
    → PeerRests waits offers decisions → PeerHasNothing waits (combine offers decisions)

-- ---- what keeps two views in agreement

abbrev pub OfferKeeps : Type 0
OfferKeeps = (os : List OwnerOffer) (ds : List PeerDecision) (o : OwnerOffer) → o.known ≡ None → o.reply ≡ None
    → ViewsAgree os ds → ViewsAgree (os ++ o ∷ []) ds

-- the peer decides the next offer
abbrev pub DecideKeeps : Type 0
DecideKeeps = (os : List OwnerOffer) (ds : List PeerDecision) (o : OwnerOffer) (d : PeerDecision) → slice_get os (length ds) ≡ Some o
    → OfferAgrees o d → ViewsAgree os ds → ViewsAgree os (ds ++ d ∷ [])

-- the owner withdraws one that is not decided
abbrev pub WithdrawKeeps : Type 0
WithdrawKeeps = (os : List OwnerOffer) (ds : List PeerDecision) (n s : ℕ) → length ds ≤ n
    → ViewsAgree os ds → ViewsAgree (altered os n (withdrawn_at s)) ds

-- the owner learns of a decision
abbrev pub LearnKeeps : Type 0
LearnKeeps = (os : List OwnerOffer) (ds : List PeerDecision) (n : ℕ) (d : PeerDecision) → slice_get ds n ≡ Some d
    → ViewsAgree os ds → ViewsAgree (altered os n (known_at d.stamp)) ds

-- the owner has the answer to a request that was done
abbrev pub ReplyKeeps : Type 0
ReplyKeeps = (os : List OwnerOffer) (ds : List PeerDecision) (n : ℕ) (d : PeerDecision) (answer : Answer) → slice_get ds n ≡ Some d
    → d.value ≡ Some (Done answer) → ViewsAgree os ds → ViewsAgree (altered os n (replied_with answer d.stamp)) ds

-- ---- the ring of replies

abbrev pub FrontIsTheNext : Type 0
FrontIsTheNext = (terms : Terms) (l : ℕ) (os : List OwnerOffer) (ds : List PeerDecision) (r : Response) (rest : List Response)
    → ViewsAgree os ds → NoMessages ds → waiting_replies os ds ≡ r ∷ rest → TakesReply terms l os ds r rest

-- the replies that came, and then those on the ring, are the answers that were given, in their order
abbrev pub NoneIsLost : Type 0
NoneIsLost = (os : List OwnerOffer) (ds : List PeerDecision) → ViewsAgree os ds → AreInTurn os
    → replies_had os ++ waiting_replies os ds ≡ responses ds

-- what the peer decides goes to the end of the ring
abbrev pub DecideAdds : Type 0
DecideAdds = (os : List OwnerOffer) (ds : List PeerDecision) (d : PeerDecision) (o : OwnerOffer) → slice_get os (length ds) ≡ Some o
    → o.reply ≡ None → waiting_replies os (ds ++ d ∷ []) ≡ waiting_replies os ds ++ response_of d

-- no other change but a reply changes the ring
abbrev pub OfferAddsNone : Type 0
OfferAddsNone = (os : List OwnerOffer) (ds : List PeerDecision) (o : OwnerOffer) → length ds ≤ length os
    → waiting_replies (os ++ o ∷ []) ds ≡ waiting_replies os ds

abbrev pub WithdrawAddsNone : Type 0
WithdrawAddsNone = (os : List OwnerOffer) (ds : List PeerDecision) (n s : ℕ)
    → waiting_replies (altered os n (withdrawn_at s)) ds ≡ waiting_replies os ds

abbrev pub LearnAddsNone : Type 0
LearnAddsNone = (os : List OwnerOffer) (ds : List PeerDecision) (n s : ℕ)
    → waiting_replies (altered os n (known_at s)) ds ≡ waiting_replies os ds

-- each change of the owner keeps its replies in turn
abbrev pub OfferKeepsTurn : Type 0
OfferKeepsTurn = (os : List OwnerOffer) (o : OwnerOffer) → o.reply ≡ None → AreInTurn os → AreInTurn (os ++ o ∷ [])

abbrev pub WithdrawKeepsTurn : Type 0
WithdrawKeepsTurn = (os : List OwnerOffer) (n s : ℕ) → AreInTurn os → AreInTurn (altered os n (withdrawn_at s))

abbrev pub LearnKeepsTurn : Type 0
LearnKeepsTurn = (os : List OwnerOffer) (n s : ℕ) → AreInTurn os → AreInTurn (altered os n (known_at s))

abbrev pub ReplyKeepsTurn : Type 0
ReplyKeepsTurn = (os : List OwnerOffer) (answer : Answer) (s : ℕ) → AreInTurn os
    → AreInTurn (altered os (least_open os) (replied_with answer s))

-- ---- a party

-- a party that enters one more entry, at any of its ends, goes on agreeing with its journal at all of them
abbrev pub PartyGoesOn : Type 0
PartyGoesOn = (terms : ℕ → Terms) (p : ℕ) (ends : ℕ → LinkEnd) (j : List Entry) (e : Entry) (of : ℕ)
    → PartyAgrees terms p ends j → MayEnter terms ends j e of
    → PartyAgrees terms p (with_end ends (link_of e.event) (end_after (ends (link_of e.event)) e.stamp of e.event)) (j ++ e ∷ [])
