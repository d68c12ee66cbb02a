-- What the settling of a core's requests says once it is also known how the worker has answered.
use Rattle.std.specs.Prelude.{◌≡◌, List, ◌++◌, true}
use Rattle.ac_base.specs.declared.entry.Payload.{Payload}
use Rattle.ac_links.specs.Views.{Response, PeerDecision}
use Rattle.ac_links.specs.Replies.{NoMessages, responses, waiting_replies}
use Rattle.core_channels.specs.LinkViews.{AreViews}
use Rattle.channel_ends.specs.Sending.{MadeOffer}
use Rattle.channel_ends.specs.Settled.{owner_offers}
use Rattle.request_ends.specs.Asking.{asked}

-- where the offers and the decisions are a link, and what the core has had are the first of the answers that were given, the requests with
-- these replies and the decisions are a link too, and the other answers are on the ring
abbrev pub RequestsAreViews : Type 0
RequestsAreViews = (xs : List Payload) (os : List MadeOffer) (rs rest : List Response) (ds : List PeerDecision)
    → AreViews true (owner_offers (λ x. x) xs os) ds → NoMessages ds → responses ds ≡ rs ++ rest
    → AreViews true (asked xs os rs) ds × (waiting_replies (asked xs os rs) ds ≡ rest)
