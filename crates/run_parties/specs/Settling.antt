-- When the two ends of a link that two parties hold are settled, and what that leaves as it was.
use Rattle.std.specs.Prelude.{◌≡◌, ◌≤◌, List, length, Bool, true, nat_lt}
use Rattle.ac_links.specs.Views.{OwnerOffer, PeerDecision, owner_lead}
use Rattle.ac_links.specs.Replies.{waiting_replies}
use Rattle.ac_links.specs.Party.LinkEnd.{Owns, Decides}
use Rattle.core_channels.specs.LinkViews.{AreViews}
use Rattle.core_ports.specs.Ends.{greatest, has_room, last_stamp_of}
use Rattle.end_ports.specs.OnLinks.{OnLink}

-- the two ends are one legal link, and all that there is is at hand
pub record IsKnownOn (requests : Bool) (owner peer : OnLink) : Type 0 where
  pub offers : List OwnerOffer
  pub decisions : List PeerDecision
  pub owns : owner.end ≡ Owns offers
  pub decides : peer.end ≡ Decides decisions
  pub views : AreViews requests offers decisions
  pub decision : owner.hand.decision ≡ nat_lt (owner_lead offers) (length decisions)
  pub reply : requests ≡ true → owner.hand.reply ≡ nat_lt 0 (length (waiting_replies offers decisions))
  pub slot : has_room owner.terms owner.end ≡ true → owner.hand.slot ≡ true
  pub front : peer.hand.front ≡ nat_lt (length decisions) (length offers)

-- and of no stamp was heard that is greater than all of the other side
pub record IsSettledOn (requests : Bool) (owner peer : OnLink) : Type 0 where
  pub known : IsKnownOn requests owner peer
  pub heard_by_owner : owner.heard ≤ greatest (λ (d : PeerDecision). d.stamp) known.decisions
  pub heard_by_peer : peer.heard ≤ greatest last_stamp_of known.offers

-- the end is as it was, and so is what is at hand, but that a slot may be lost or found where there is no room
pub record StaysOn (old new : OnLink) : Type 0 where
  pub terms : new.terms ≡ old.terms
  pub end : new.end ≡ old.end
  pub decision : new.hand.decision ≡ old.hand.decision
  pub front : new.hand.front ≡ old.hand.front
  pub reply : new.hand.reply ≡ old.hand.reply
  pub slot : has_room old.terms old.end ≡ true → new.hand.slot ≡ old.hand.slot

-- no entry was made: what is at hand may have changed, and more may have been heard
pub record IsQuietOn (old new : OnLink) : Type 0 where
  pub terms : new.terms ≡ old.terms
  pub end : new.end ≡ old.end
  pub heard : old.heard ≤ new.heard
