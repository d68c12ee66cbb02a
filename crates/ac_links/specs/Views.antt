-- What the two sides of a link each know of it, what each may enter, and when the two agree.
use Rattle.std.specs.Prelude.{◌≡◌, ℕ, suc, ◌-◌, ◌<◌, List, [], ◌∷◌, length, Option, Bool, true, ◌==◌, zero, ◌++◌, slice_get, Some, None}
use Rattle.std.specs.Prelude.{is_some, is_none, IfSome, false, not, ◌&&◌, nat_lt, if◌then◌else◌}
use Rattle.ac_base.specs.declared.entry.Payload.{Payload}
use Rattle.ac_base.specs.declared.entry.Answer.{Answer}
use Rattle.ac_base.specs.declared.entry.Event.{Event}
use Rattle.ac_base.specs.declared.entry.Stamped.{Stamped}
use Rattle.ac_base.specs.declared.entry.Event.TheVariants.{Offer, Withdraw, Know, Room, Got, Pass, Did, Reply}
use Rattle.ac_links.specs.declared.payloads.Terms.{Terms}
use Rattle.ac_links.specs.Payloads.{is_payload, Taking, carries}
use Rattle.ac_links.specs.Payloads.Taking.{Message, Done}

-- an answer as it came back, with the stamp of the entry by which it was done
pub record Response : Type 0 where
  pub answer : Answer
  pub of : ℕ

-- an offer as its owner knows it: its stamp, those of its withdrawal and of the decision that the owner knows, and the reply that came
pub record OwnerOffer : Type 0 where
  pub payload : Payload
  pub stamp : ℕ
  pub withdrawn : Option ℕ
  pub known : Option ℕ
  pub reply : Option Response

-- a decision as the peer knows it: what it took, or nothing where it passed
pub record PeerDecision : Type 0 where
  pub value : Option Taking
  pub stamp : ℕ
  -- the stamp of the offer or withdrawal that it answers
  pub answers : ℕ

-- how many of its offers before the first one whose decision the owner does not know
abbrev pub owner_lead : List OwnerOffer → ℕ
owner_lead [] = 0
owner_lead (o ∷ os) = if is_some o.known then suc (owner_lead os) else 0

abbrev pub may_withdraw : Option OwnerOffer → Bool
may_withdraw None = false
may_withdraw (Some o) = is_none o.withdrawn && is_none o.known

abbrev pub may_free : Option OwnerOffer → Bool
may_free None = false
may_free (Some o) = is_some o.withdrawn && is_none o.known

abbrev pub may_reply : Option OwnerOffer → Bool
may_reply None = false
may_reply (Some o) = is_none o.withdrawn && is_none o.reply

-- what the owner may enter, as far as its own view tells
abbrev pub owner_fits : Terms → List OwnerOffer → Event → Bool
owner_fits terms os (Offer l n payload) =
    (n == length os) && nat_lt (length os - owner_lead os) terms.capacity && is_payload terms.requests payload
owner_fits terms os (Withdraw l n) = may_withdraw (slice_get os n)
owner_fits terms os (Know l n) = may_withdraw (slice_get os n)
owner_fits terms os (Room l n) = may_free (slice_get os n)
owner_fits terms os (Got l n value) = false
owner_fits terms os (Pass l n) = false
owner_fits terms os (Did l n answer) = false
owner_fits terms os (Reply l n answer) = may_reply (slice_get os n)

-- the list with the element at n changed, if there is one
abbrev pub altered : {X : Type 0} → List X → ℕ → (X → X) → List X
altered [] n f = []
altered (x ∷ xs) zero f = f x ∷ xs
altered (x ∷ xs) (suc n) f = x ∷ altered xs n f

abbrev pub withdrawn_at : ℕ → OwnerOffer → OwnerOffer
withdrawn_at s o = record o { withdrawn = Some s }

abbrev pub known_at : ℕ → OwnerOffer → OwnerOffer
known_at of o = record o { known = Some of }

abbrev pub replied_with : Answer → ℕ → OwnerOffer → OwnerOffer
replied_with answer of o = record o { reply = Some (record { answer = answer; of = of }) }

-- one that the owner has just made
abbrev pub owner_offer : Payload → ℕ → OwnerOffer
owner_offer payload stamp = record { payload = payload; stamp = stamp; withdrawn = None; known = None; reply = None }

-- the owner's view after an entry of stamp s, which answers one of stamp `of`
abbrev pub owner_after : List OwnerOffer → ℕ → ℕ → Event → List OwnerOffer
owner_after os s of (Offer l n payload) = os ++ owner_offer payload s ∷ []
owner_after os s of (Withdraw l n) = altered os n (withdrawn_at s)
owner_after os s of (Know l n) = altered os n (known_at of)
owner_after os s of (Room l n) = altered os n (known_at of)
owner_after os s of (Got l n value) = os
owner_after os s of (Pass l n) = os
owner_after os s of (Did l n answer) = os
owner_after os s of (Reply l n answer) = altered os n (replied_with answer of)

-- what the peer may enter, as far as its own view tells
abbrev pub peer_fits : Terms → List PeerDecision → Event → Bool
peer_fits terms ds (Offer l n payload) = false
peer_fits terms ds (Withdraw l n) = false
peer_fits terms ds (Know l n) = false
peer_fits terms ds (Room l n) = false
peer_fits terms ds (Got l n value) = not terms.requests && (n == length ds)
peer_fits terms ds (Pass l n) = n == length ds
peer_fits terms ds (Did l n answer) = terms.requests && (n == length ds)
peer_fits terms ds (Reply l n answer) = false

-- the decision that an entry of stamp s makes, which answers one of stamp `of`
abbrev pub decision_of : ℕ → ℕ → Event → PeerDecision
decision_of s of (Offer l n payload) = record { value = None; stamp = s; answers = of }
decision_of s of (Withdraw l n) = record { value = None; stamp = s; answers = of }
decision_of s of (Know l n) = record { value = None; stamp = s; answers = of }
decision_of s of (Room l n) = record { value = None; stamp = s; answers = of }
decision_of s of (Got l n value) = record { value = Some (Message value); stamp = s; answers = of }
decision_of s of (Pass l n) = record { value = None; stamp = s; answers = of }
decision_of s of (Did l n answer) = record { value = Some (Done answer); stamp = s; answers = of }
decision_of s of (Reply l n answer) = record { value = None; stamp = s; answers = of }

-- the event answers no other
abbrev pub answers_none : Event → Bool
answers_none (Offer l n payload) = true
answers_none (Withdraw l n) = true
answers_none (Know l n) = false
answers_none (Room l n) = false
answers_none (Got l n value) = false
answers_none (Pass l n) = false
answers_none (Did l n answer) = false
answers_none (Reply l n answer) = false

-- the entries of the owner lead from one view to another, where `mine` is the stamp that it noted of what an event answers
abbrev pub OwnerRuns : Terms → (Event → ℕ) → List OwnerOffer → List Stamped → List OwnerOffer → Type 0
OwnerRuns terms mine os [] end = end ≡ os
OwnerRuns terms mine os (e ∷ es) end = (owner_fits terms os e.entry.event ≡ true) × (mine e.entry.event < e.entry.stamp)
    × OwnerRuns terms mine (owner_after os e.entry.stamp (mine e.entry.event) e.entry.event) es end

abbrev pub PeerRuns : Terms → (Event → ℕ) → List PeerDecision → List Stamped → List PeerDecision → Type 0
PeerRuns terms mine ds [] end = end ≡ ds
PeerRuns terms mine ds (e ∷ es) end = (peer_fits terms ds e.entry.event ≡ true) × (mine e.entry.event < e.entry.stamp)
    × PeerRuns terms mine (ds ++ decision_of e.entry.stamp (mine e.entry.event) e.entry.event ∷ []) es end

-- an offer that was not withdrawn was taken as it was made, and one that was withdrawn was passed
abbrev pub DecisionFits : Payload → ℕ → PeerDecision → Option ℕ → Type 0
DecisionFits payload stamp d None = (g : Taking) × (d.value ≡ Some g) × (carries g payload ≡ true) × (d.answers ≡ stamp)
DecisionFits payload stamp d (Some w) = (d.value ≡ None) × (d.answers ≡ w)

-- the reply is the answer that this decision gave
abbrev pub IsReplyTo : PeerDecision → Response → Type 0
IsReplyTo d r = (d.value ≡ Some (Done r.answer)) × (r.of ≡ d.stamp)

abbrev pub OfferAgrees : OwnerOffer → PeerDecision → Type 0
OfferAgrees o d = (o.stamp < d.stamp) × DecisionFits o.payload o.stamp d o.withdrawn × IfSome o.known (λ k. k ≡ d.stamp)
    × (d.answers < d.stamp) × IfSome o.reply (IsReplyTo d)

-- the two views of one link: the peer has decided no more than was offered, each decision answers its offer, and nothing else is known
abbrev pub ViewsAgree : List OwnerOffer → List PeerDecision → Type 0
ViewsAgree [] [] = Unit {0}
ViewsAgree [] (d ∷ ds) = ⊥
ViewsAgree (o ∷ os) [] = (o.known ≡ None) × (o.reply ≡ None) × ViewsAgree os []
ViewsAgree (o ∷ os) (d ∷ ds) = OfferAgrees o d × ViewsAgree os ds
