-- When nothing on a link waits for one of its sides: as the link stands, and as the two views tell.
use Rattle.std.specs.Prelude.{◌≡◌, ◌-◌, ◌≤◌, List, [], length, Bool, true, false, not, ◌&&◌, nat_lt, is_some}
use Rattle.std.specs.List.{AllByRecursion}
use Rattle.ac_links.specs.declared.offer.LinkOffer.{LinkOffer}
use Rattle.ac_links.specs.declared.payloads.Terms.{Terms}
use Rattle.ac_links.specs.Link.{is_decided, front_of, known_lead}
use Rattle.ac_links.specs.Views.{OwnerOffer, PeerDecision, owner_lead}
use Rattle.ac_links.specs.Replies.{waiting_replies}

-- ---- as the link stands

-- some offer is not decided
abbrev pub has_front : List LinkOffer → Bool
has_front os = nat_lt (front_of os) (length os)

-- fewer offers than the capacity are there from the first unknown one on
abbrev pub has_room : Terms → List LinkOffer → Bool
has_room terms os = nat_lt (length os - known_lead os) terms.capacity

-- the offer was decided, and its owner does not know it
abbrev pub is_news : LinkOffer → Bool
is_news o = is_decided o.standing && not o.known

-- the request was done, and its owner has not had the reply
abbrev pub is_unreplied : LinkOffer → Bool
is_unreplied o = is_some o.answer && not o.replied

-- nothing has become of its offers that the owner has not had, and if it waits to make one, there is no room
pub record OwnerHasNothing (terms : Terms) (waits : Bool) (os : List LinkOffer) : Type 0 where
  pub known : AllByRecursion (λ o. is_news o ≡ false) os
  pub replied : AllByRecursion (λ o. is_unreplied o ≡ false) os
  pub full : waits ≡ true → has_room terms os ≡ false

-- if the peer waits for an offer, there is none
abbrev pub PeerHasNothing : Bool → List LinkOffer → Type 0
PeerHasNothing waits os = waits ≡ true → has_front os ≡ false

-- ---- as the two views tell

-- the first offer that the owner does not know is not decided, no reply is on its way, and if it waits to make one, there is no room
pub record OwnerRests (terms : Terms) (waits : Bool) (offers : List OwnerOffer) (decisions : List PeerDecision) : Type 0 where
  pub known : length decisions ≤ owner_lead offers
  pub replied : waiting_replies offers decisions ≡ []
  pub full : waits ≡ true → nat_lt (length offers - owner_lead offers) terms.capacity ≡ false

-- if the peer waits for an offer, it has decided all that were made
abbrev pub PeerRests : Bool → List OwnerOffer → List PeerDecision → Type 0
PeerRests waits offers decisions = waits ≡ true → length offers ≤ length decisions
