-- What contracts see of the end of a core's requests.
use Rattle.std.specs.Prelude.{◌≡◌, ℕ, List, [], ◌∷◌, Option, Some, None, map}
use Rattle.ac_base.specs.declared.entry.Payload.{Payload}
use Rattle.ac_links.specs.Views.{Response, OwnerOffer}
use Rattle.ac_links.specs.Party.{LinkEnd}
use Rattle.ac_links.specs.Party.LinkEnd.{Owns}
use Rattle.channel_ends.specs.Pairs.{IsSameSend}
use Rattle.channel_ends.specs.Rings.{RingName}
use Rattle.channel_ends.specs.Sending.{MadeOffer, Sending}
use Rattle.request_ends.specs.Replying.{ReplyRing, response_of}

-- its requests with what is known of them; and the replies, each the oldest first: those that the core has had, those that were gathered
-- for it, and those that it knows to be on their ring
pub record Asking : Type 0 where
  pub send : Sending Payload
  pub ring : RingName
  pub replies : List Response
  pub gathered : List Response
  pub items : List Response
  -- for how many more requests there is a place to note them
  pub places : ℕ

-- the reply of a request is the next one, unless it is withdrawn
abbrev pub reply_for : Option ℕ → List Response → Option Response
reply_for None [] = None
reply_for None (r ∷ rs) = Some r
reply_for (Some w) rs = None

abbrev pub replies_after : Option ℕ → List Response → List Response
replies_after None [] = []
replies_after None (r ∷ rs) = rs
replies_after (Some w) rs = rs

-- the requests as the law on links has them: the replies belong to those that are not withdrawn, in order
abbrev pub asked : List Payload → List MadeOffer → List Response → List OwnerOffer
asked [] os rs = []
asked (x ∷ xs) [] rs = []
asked (x ∷ xs) (o ∷ os) rs =
    record { payload = x; stamp = o.stamp; withdrawn = o.withdrawn; known = o.known; reply = reply_for o.withdrawn rs }
    ∷ asked xs os (replies_after o.withdrawn rs)

abbrev pub requests_of : Asking → List OwnerOffer
requests_of a = asked a.send.payloads a.send.notes.offers a.replies

-- the core's end of the link of its requests
abbrev pub end_of : Asking → LinkEnd
end_of a = Owns (requests_of a)

-- it is still the end of the same link and of the same ring
pub record IsSameAsk (old new : Asking) : Type 0 where
  pub send : IsSameSend old.send new.send
  pub ring : new.ring ≡ old.ring

-- it is the end over this sending end and this end of a ring, and no reply was had or gathered
pub record IsNewAsk (of : Sending Payload) (side : ReplyRing) (new : Asking) : Type 0 where
  pub send : new.send ≡ of
  pub ring : new.ring ≡ side.ring
  pub replies : new.replies ≡ []
  pub gathered : new.gathered ≡ []
  pub items : new.items ≡ map response_of side.items
