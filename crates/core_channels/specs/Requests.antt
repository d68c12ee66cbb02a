-- What the peer of a link of requests finds at its front, what its decisions make of the link, and what a reply does.
use Rattle.std.specs.Prelude.{◌≡◌, ℕ, length, Option, Some, None, Bool, true, false, slice_get}
use Rattle.ac_base.specs.declared.entry.Payload.{Payload}
use Rattle.ac_base.specs.declared.entry.Answer.{Answer}
use Rattle.ac_base.specs.Stamps.{next_stamp, stamp_after}
use Rattle.ac_links.specs.Payloads.{answer_fits}
use Rattle.ac_links.specs.Payloads.Taking.{Done}
use Rattle.ac_links.specs.Views.{OwnerOffer, PeerDecision, altered, replied_with}
use Rattle.ac_links.specs.Noted.{offer_stamp, withdrawal_stamp}
use Rattle.ac_links.specs.Replies.{waiting_replies, least_open}
use Rattle.core_channels.specs.declared.answers.Front.{Front}
use Rattle.core_channels.specs.declared.answers.Front.TheVariants.{Nothing, Withdrawn, Request, ClockFull}
use Rattle.core_channels.specs.LinkViews.{LinkViews}
use Rattle.core_channels.specs.Takes.{passed_decision, with_decision}

-- ---- the front

abbrev pub withdrawn_front : ℕ → Option ℕ → Front
withdrawn_front number None = ClockFull
withdrawn_front number (Some s) = Withdrawn number

abbrev pub request_front : ℕ → Payload → Option ℕ → Front
request_front number payload None = ClockFull
request_front number payload (Some s) = Request number payload

-- one that was withdrawn is to be passed, after its withdrawal, and any other is to be done, after its offer
abbrev pub front_by : ℕ → ℕ → OwnerOffer → Option ℕ → Front
front_by last number o None = request_front number o.payload (stamp_after last o.stamp)
front_by last number o (Some w) = withdrawn_front number (stamp_after last w)

abbrev pub front_of : ℕ → ℕ → Option OwnerOffer → Front
front_of last number None = Nothing
front_of last number (Some o) = front_by last number o o.withdrawn

-- the first offer that is not decided
abbrev pub next_offer : LinkViews → Option OwnerOffer
next_offer v = slice_get v.offers (length v.decisions)

-- what a peer finds whose last stamp is `last`
abbrev pub fronting : LinkViews → ℕ → Front
fronting v last = front_of last (length v.decisions) (next_offer v)

abbrev pub is_withdrawn : Front → Bool
is_withdrawn Nothing = false
is_withdrawn (Withdrawn number) = true
is_withdrawn (Request number payload) = false
is_withdrawn ClockFull = false

-- ---- decisions

-- the front is a request, and this is an answer to it
abbrev pub may_do : Front → Answer → Bool
may_do Nothing answer = false
may_do (Withdrawn number) answer = false
may_do (Request number payload) answer = answer_fits answer payload
may_do ClockFull answer = false

-- a request is done by an entry of stamp s, which answers one of stamp `of`
abbrev pub did_decision : Answer → ℕ → ℕ → PeerDecision
did_decision answer s of = record { value = Some (Done answer); stamp = s; answers = of }

-- the stamps of the entries of a peer whose last stamp is `last`
abbrev pub did_stamp : LinkViews → ℕ → ℕ
did_stamp v last = next_stamp last (offer_stamp (next_offer v))

abbrev pub pass_stamp : LinkViews → ℕ → ℕ
pass_stamp v last = next_stamp last (withdrawal_stamp (next_offer v))

-- the link once the front is done, and once it is passed
abbrev pub after_doing : LinkViews → Answer → ℕ → LinkViews
after_doing v answer last = with_decision v (did_decision answer (did_stamp v last) (offer_stamp (next_offer v)))

abbrev pub after_passing : LinkViews → ℕ → LinkViews
after_passing v last = with_decision v (passed_decision (pass_stamp v last) (withdrawal_stamp (next_offer v)))

-- ---- replies

-- this answer, of an entry of this stamp, is the first of those that the owner has not had
abbrev pub ReplyIsNext : LinkViews → Answer → ℕ → Type 0
ReplyIsNext v answer of = slice_get (waiting_replies v.offers v.decisions) 0 ≡ Some (record { answer = answer; of = of })

-- the link once the owner has it
abbrev pub after_reply : LinkViews → Answer → ℕ → LinkViews
after_reply v answer of = record v { offers = altered v.offers (least_open v.offers) (replied_with answer of) }
