-- What is on the ring by which the answers to one core's requests come back.
use Rattle.std.specs.Prelude.{◌≡◌, ℕ, suc, List, [], ◌∷◌, Option, Bool, true, ◌++◌, Some, None, is_some, false, if◌then◌else◌, ◌||◌}
use Rattle.std.specs.List.{AllByRecursion}
use Rattle.ac_base.specs.declared.entry.Event.TheVariants.{Reply}
use Rattle.ac_links.specs.declared.payloads.Terms.{Terms}
use Rattle.ac_links.specs.Payloads.{Taking}
use Rattle.ac_links.specs.Views.{Response, OwnerOffer, PeerDecision, owner_fits, altered, replied_with, ViewsAgree}
use Rattle.ac_links.specs.Payloads.Taking.{Message, Done}

-- what a decision of this stamp gives to be answered
abbrev pub response_at : ℕ → Option Taking → List Response
response_at stamp None = []
response_at stamp (Some (Message value)) = []
response_at stamp (Some (Done answer)) = record { answer = answer; of = stamp } ∷ []

-- the response that a decision puts on the ring
abbrev pub response_of : PeerDecision → List Response
response_of d = response_at d.stamp d.value

-- all responses, in the order in which the requests were done
abbrev pub responses : List PeerDecision → List Response
responses [] = []
responses (d ∷ ds) = response_of d ++ responses ds

-- those of them that the owner has not had yet: they are on the ring
abbrev pub waiting_replies : List OwnerOffer → List PeerDecision → List Response
waiting_replies [] ds = []
waiting_replies (o ∷ os) [] = []
waiting_replies (o ∷ os) (d ∷ ds) = if is_some o.reply then waiting_replies os ds else response_of d ++ waiting_replies os ds

-- the least request that is neither withdrawn nor replied: the next reply is that of this one
abbrev pub least_open : List OwnerOffer → ℕ
least_open [] = 0
least_open (o ∷ os) = if is_some o.withdrawn || is_some o.reply then suc (least_open os) else 0

abbrev pub is_done_or_passed : Option Taking → Bool
is_done_or_passed None = true
is_done_or_passed (Some (Message value)) = false
is_done_or_passed (Some (Done answer)) = true

-- no decision of a link of requests is a message
abbrev pub NoMessages : List PeerDecision → Type 0
NoMessages = AllByRecursion (λ d. is_done_or_passed d.value ≡ true)

-- the replies that the owner has had, in the order of its requests
abbrev pub reply_had : Option Response → List Response
reply_had None = []
reply_had (Some r) = r ∷ []

abbrev pub replies_had : List OwnerOffer → List Response
replies_had [] = []
replies_had (o ∷ os) = reply_had o.reply ++ replies_had os

-- no request has had its reply before one that was offered earlier
abbrev pub NoneAfter : Bool → List OwnerOffer → Type 0
NoneAfter true os = Unit {0}
NoneAfter false os = replies_had os ≡ []

abbrev pub AreInTurn : List OwnerOffer → Type 0
AreInTurn [] = Unit {0}
AreInTurn (o ∷ os) = NoneAfter (is_some o.withdrawn || is_some o.reply) os × AreInTurn os

-- the owner may take the front of the ring as the reply to its least request that waits; then the views agree and the rest is on the ring
pub record TakesReply (terms : Terms) (l : ℕ) (os : List OwnerOffer) (ds : List PeerDecision) (r : Response) (rest : List Response)
    : Type 0 where
  pub fits : owner_fits terms os (Reply l (least_open os) r.answer) ≡ true
  pub agree : ViewsAgree (altered os (least_open os) (replied_with r.answer r.of)) ds
  pub left : waiting_replies (altered os (least_open os) (replied_with r.answer r.of)) ds ≡ rest
