-- What the ports of a core tell once its ends are settled: all that is at hand, and no stamp that the other side has not made.
use Rattle.std.specs.Prelude.{◌≡◌, ◌≤◌, ℕ, List, [], length, true, false, ◌&&◌, is_some, slice_get}
use Rattle.ac_links.specs.declared.payloads.Terms.{Terms}
use Rattle.ac_links.specs.Views.{OwnerOffer, PeerDecision, owner_lead}
use Rattle.ac_links.specs.Replies.{waiting_replies}
use Rattle.ac_links.specs.Party.{LinkEnd}
use Rattle.ac_links.specs.Party.LinkEnd.{Owns, Decides}
use Rattle.core_ports.specs.AtHand.{AtHand}
use Rattle.core_ports.specs.Ends.{has_room}
use Rattle.core_ports.specs.PortsTold.{PortsTold}
use Rattle.settled_run.specs.Ends.{greatest_at}

-- Where the core sends: no decision is told, and the first unknown offer is not decided; no reply is told, and none waits; no slot is told,
-- and there is no room
pub record TellsOwner (terms : Terms) (hand : AtHand) (offers : List OwnerOffer) (decisions : List PeerDecision) : Type 0 where
  pub decision : hand.decision ≡ false
      → is_some (slice_get offers (owner_lead offers)) && is_some (slice_get decisions (owner_lead offers)) ≡ false
  pub reply : terms.requests ≡ true → hand.reply ≡ false → waiting_replies offers decisions ≡ []
  pub slot : hand.slot ≡ false → has_room terms (Owns offers) ≡ false

-- where it receives: no front is told, and each offer is decided
abbrev pub TellsPeer : AtHand → List OwnerOffer → List PeerDecision → Type 0
TellsPeer hand offers decisions = hand.front ≡ false → length offers ≤ length decisions

-- on each link, where the other party has these ends; and each stamp that was heard is at most one of the other party
pub record TellsAll (told : PortsTold) (others : ℕ → LinkEnd) : Type 0 where
  pub owner : (l : ℕ) (offers : List OwnerOffer) (decisions : List PeerDecision) → told.ends l ≡ Owns offers
      → others l ≡ Decides decisions → TellsOwner (told.terms l) (told.at_hand l) offers decisions
  pub peer : (l : ℕ) (offers : List OwnerOffer) (decisions : List PeerDecision) → told.ends l ≡ Decides decisions
      → others l ≡ Owns offers → TellsPeer (told.at_hand l) offers decisions
  pub heard : (l : ℕ) → told.heard l ≤ greatest_at (others l)
