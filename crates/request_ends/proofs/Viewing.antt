-- The requests of a core with the replies that it has had are a legal link together with the decisions that answer them.
use Rattle.std.proofs.Common.{◌≡◌, ℕ, List, [], ◌∷◌, ◌++◌, Option, Some, None, true, refl, sym, ap, ◌∙◌, subst, arith}
use Rattle.std.specs.List.{All}
use Rattle.std.proofs.lemmas.List.Elements.{All-cons, All-head, All-tail}
use Rattle.ac_base.specs.declared.entry.Payload.{Payload}
use Rattle.ac_base.specs.declared.entry.Answer.{Answer}
use Rattle.ac_links.specs.Payloads.{Taking}
use Rattle.ac_links.specs.Payloads.Taking.{Message, Done}
use Rattle.ac_links.specs.Views.{Response, OwnerOffer, PeerDecision, ViewsAgree, OfferAgrees, IsReplyTo}
use Rattle.ac_links.specs.Replies.{NoMessages, responses, waiting_replies, is_done_or_passed}
use Rattle.core_channels.specs.LinkViews.{IsOffer}
use Rattle.channel_ends.specs.Sending.{MadeOffer}
use Rattle.channel_ends.specs.Settled.{owner_offers}
use Rattle.request_ends.specs.Asking.{asked, reply_for, replies_after}
use Rattle.request_ends.specs.Laws.{RequestsAreViews}

abbrev one : Payload → ℕ → Option ℕ → Option ℕ → Option Response → OwnerOffer
one x s w k r = record { payload = x; stamp = s; withdrawn = w; known = k; reply = r }

abbrev decided : Option Taking → ℕ → ℕ → PeerDecision
decided v t a = record { value = v; stamp = t; answers = a }

-- what the rest of the requests are, whatever replies were had of them
abbrev AreAsked : (List Response → List OwnerOffer) → List PeerDecision → List Response → List Response → Type 0
AreAsked later ds rs rest = ViewsAgree (later rs) ds × (waiting_replies (later rs) ds ≡ rest)

abbrev LaterAre : (List Response → List OwnerOffer) → List PeerDecision → Type 0
LaterAre later ds = (rs rest : List Response) → responses ds ≡ rs ++ rest → AreAsked later ds rs rest

-- one that is done has the next reply, where that was had
done_at : (x : Payload) (s t a : ℕ) (k : Option ℕ) (answer : Answer) (ds : List PeerDecision) (later : List Response → List OwnerOffer) → LaterAre later ds
    → OfferAgrees (one x s None k None) (decided (Some (Done answer)) t a)
    → (rs rest : List Response) → responses (decided (Some (Done answer)) t a ∷ ds) ≡ rs ++ rest
    → AreAsked (λ rs. one x s None k (reply_for None rs) ∷ later (replies_after None rs)) (decided (Some (Done answer)) t a ∷ ds) rs rest
done_at x s t a k answer ds later ih h [] rest e =
    let there = ih [] (responses ds) refl in
    ((h, there.0), ap (λ rs. record { answer = answer; of = t } ∷ rs) there.1 ∙ e)
done_at x s t a k answer ds later ih h (r ∷ rs) rest e =
    let first : record { answer = answer; of = t } ≡ r = cc in
    let left : responses ds ≡ rs ++ rest = cc in
    let there = ih rs rest left in
    let to : IsReplyTo (decided (Some (Done answer)) t a) r = subst (λ r. IsReplyTo (decided (Some (Done answer)) t a) r) first (refl, refl) in
    (((h.0, h.1, h.2, h.3, to), there.0), there.1)

-- and one that is withdrawn has none
step : (x : Payload) (s t a : ℕ) (w k : Option ℕ) (v : Option Taking) (ds : List PeerDecision) (later : List Response → List OwnerOffer) → LaterAre later ds
    → OfferAgrees (one x s w k None) (decided v t a) → is_done_or_passed v ≡ true
    → (rs rest : List Response) → responses (decided v t a ∷ ds) ≡ rs ++ rest
    → AreAsked (λ rs. one x s w k (reply_for w rs) ∷ later (replies_after w rs)) (decided v t a ∷ ds) rs rest
step x s t a None k None ds later ih h m rs rest e = let none : None ≡ Some h.1.0 = h.1.1 in absurd cc
step x s t a None k (Some (Message value)) ds later ih h m rs rest e = absurd cc
step x s t a None k (Some (Done answer)) ds later ih h m rs rest e = done_at x s t a k answer ds later ih h rs rest e
step x s t a (Some w) k None ds later ih h m rs rest e = let there = ih rs rest e in ((h, there.0), there.1)
step x s t a (Some w) k (Some g) ds later ih h m rs rest e = let none : Some g ≡ None = h.1.0 in absurd cc

none_had : (rs rest : List Response) → [] ≡ rs ++ rest → (rs ≡ []) × (rest ≡ [])
none_had [] rest e = (refl, sym e)
none_had (r ∷ rs) rest e = absurd cc

-- of offers that nobody has decided there is no reply
none_decided : (xs : List Payload) (os : List MadeOffer) → ViewsAgree (owner_offers (λ x. x) xs os) [] → ViewsAgree (asked xs os []) []
none_decided [] os h = tt
none_decided (x ∷ xs) [] h = tt
none_decided (x ∷ xs) (o ∷ os) h = undecided o.withdrawn (none_decided xs os h.2)
  where
    undecided : (w : Option ℕ) → ViewsAgree (asked xs os []) [] → ViewsAgree (one x o.stamp w o.known (reply_for w []) ∷ asked xs os (replies_after w [])) []
    undecided None rest = (h.0, refl, rest)
    undecided (Some w) rest = (h.0, refl, rest)

none_waits : (os : List OwnerOffer) → waiting_replies os [] ≡ []
none_waits [] = refl
none_waits (o ∷ os) = refl

views : (xs : List Payload) (os : List MadeOffer) (ds : List PeerDecision) → ViewsAgree (owner_offers (λ x. x) xs os) ds → NoMessages ds
    → LaterAre (asked xs os) ds
views xs os [] h m rs rest e =
    let none = none_had rs rest e in
    (subst (λ rs. ViewsAgree (asked xs os rs) []) (sym none.0) (none_decided xs os h), none_waits (asked xs os rs) ∙ sym none.1)
views [] os (d ∷ ds) h m rs rest e = absurd h
views (x ∷ xs) [] (d ∷ ds) h m rs rest e = absurd h
views (x ∷ xs) (o ∷ os) (d ∷ ds) h m rs rest e =
    step x o.stamp d.stamp d.answers o.withdrawn o.known d.value ds (asked xs os) (views xs os ds h.1 m.1) h.0 m.0 rs rest e

-- an offer is one of the link, whatever its reply
each_asked : (xs : List Payload) (os : List MadeOffer) (rs : List Response) → All (IsOffer true) (owner_offers (λ x. x) xs os)
    → All (IsOffer true) (asked xs os rs)
each_asked [] os rs h = λ i d q. absurd (omega arith)
each_asked (x ∷ xs) [] rs h = λ i d q. absurd (omega arith)
each_asked (x ∷ xs) (o ∷ os) rs h =
    let first = All-head (IsOffer true) (one x o.stamp o.withdrawn o.known None) (owner_offers (λ x. x) xs os) h in
    All-cons (IsOffer true) (one x o.stamp o.withdrawn o.known (reply_for o.withdrawn rs)) (asked xs os (replies_after o.withdrawn rs))
    (record { carried = first.carried; later = first.later })
    (each_asked xs os (replies_after o.withdrawn rs) (All-tail (IsOffer true) (one x o.stamp o.withdrawn o.known None) (owner_offers (λ x. x) xs os) h))

pub requests_are_views : RequestsAreViews
requests_are_views xs os rs rest ds h m e =
    let there = views xs os ds h.agree m rs rest e in
    (record { agree = there.0; each = each_asked xs os rs h.each }, there.1)
