-- What is at hand for a core on a link of which both views are seen, and which stamps of the other side it has heard of.
use Rattle.std.specs.Prelude.{ℕ, length, Option, Bool, false, ◌&&◌, nat_lt, is_some, slice_get}
use Rattle.ac_links.specs.Views.{Response, PeerDecision, owner_lead}
use Rattle.ac_links.specs.Replies.{waiting_replies}
use Rattle.core_channels.specs.LinkViews.{LinkViews}
use Rattle.core_ports.specs.AtHand.{AtHand}
use Rattle.core_ports.specs.Ends.{greatest, last_stamp_of}
use Rattle.core_ports.specs.declared.side.Side.{Side}
use Rattle.core_ports.specs.declared.side.Side.TheVariants.{Owner, Peer, Neither}

-- there is an offer that is not known, and the first such is decided
abbrev pub has_decision : LinkViews → Bool
has_decision v = is_some (slice_get v.offers (owner_lead v.offers)) && is_some (slice_get v.decisions (owner_lead v.offers))

-- there is an offer that is not decided
abbrev pub has_front : LinkViews → Bool
has_front v = is_some (slice_get v.offers (length v.decisions))

abbrev pub has_slot : LinkViews → Bool
has_slot v = nat_lt 0 v.spare

-- the first answer that the owner has not had: it is that of its least request that is neither withdrawn nor replied
abbrev pub next_reply : LinkViews → Option Response
next_reply v = slice_get (waiting_replies v.offers v.decisions) 0

abbrev pub has_reply : LinkViews → Bool
has_reply v = is_some (next_reply v)

-- all that is there is at hand
abbrev pub hand_at : LinkViews → Side → AtHand
hand_at v Owner = record { decision = has_decision v; front = false; reply = has_reply v; slot = has_slot v }
hand_at v Peer = record { decision = false; front = has_front v; reply = false; slot = false }
hand_at v Neither = record { decision = false; front = false; reply = false; slot = false }

-- the greatest stamp of the other side
abbrev pub heard_at : LinkViews → Side → ℕ
heard_at v Owner = greatest (λ (d : PeerDecision). d.stamp) v.decisions
heard_at v Peer = greatest last_stamp_of v.offers
heard_at v Neither = 0
