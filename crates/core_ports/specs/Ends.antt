-- What the ends of its links tell a party.
use Rattle.std.specs.Prelude.{ℕ, ◌≤◌, ◌-◌, List, [], ◌∷◌, length, slice_get, Option, Some, None, Bool, true, false, is_some, IfSome}
use Rattle.std.specs.Prelude.{max, nat_lt}
use Rattle.std.specs.List.{AllByRecursion}
use Rattle.ac_links.specs.declared.payloads.Terms.{Terms}
use Rattle.ac_links.specs.Views.{OwnerOffer, PeerDecision, owner_lead}
use Rattle.ac_links.specs.Replies.{least_open}
use Rattle.ac_links.specs.Noted.{or_zero}
use Rattle.ac_links.specs.Party.{LinkEnd}
use Rattle.ac_links.specs.Party.LinkEnd.{Owns, Decides, Absent}

-- the party sends on the link
abbrev pub is_owner : LinkEnd → Bool
is_owner (Owns os) = true
is_owner (Decides ds) = false
is_owner Absent = false

-- it receives on the link
abbrev pub is_peer : LinkEnd → Bool
is_peer (Owns os) = false
is_peer (Decides ds) = true
is_peer Absent = false

-- the link is one of the party's
abbrev pub is_held : LinkEnd → Bool
is_held (Owns os) = true
is_held (Decides ds) = true
is_held Absent = false

-- what the party has offered on the link
abbrev pub offers_of : LinkEnd → List OwnerOffer
offers_of (Owns os) = os
offers_of (Decides ds) = []
offers_of Absent = []

abbrev pub offer_at : LinkEnd → ℕ → Option OwnerOffer
offer_at end number = slice_get (offers_of end) number

-- fewer offers than the link's capacity are there from the first one on that the party does not know
abbrev pub has_room : Terms → LinkEnd → Bool
has_room terms end = nat_lt (length (offers_of end) - owner_lead (offers_of end)) terms.capacity

abbrev pub is_known : Option OwnerOffer → Bool
is_known None = false
is_known (Some o) = is_some o.known

-- of the requests that are neither withdrawn nor replied there is a first one, and the party knows that it is taken
abbrev pub awaits_reply : LinkEnd → Bool
awaits_reply end = is_known (offer_at end (least_open (offers_of end)))

-- ---- stamps

-- the greatest stamp of a list; 0 where there is none
abbrev pub greatest : {X : Type 0} → (X → ℕ) → List X → ℕ
greatest stamp [] = 0
greatest stamp (x ∷ xs) = max (stamp x) (greatest stamp xs)

-- the later one of the stamps of an offer and of its withdrawal
abbrev pub last_stamp_of : OwnerOffer → ℕ
last_stamp_of o = max o.stamp (or_zero o.withdrawn)

-- each stamp that is noted at an offer is at most this one
pub record IsOfferUpTo (last : ℕ) (o : OwnerOffer) : Type 0 where
  pub made : o.stamp ≤ last
  pub withdrawn : IfSome o.withdrawn (λ w. w ≤ last)
  pub known : IfSome o.known (λ k. k ≤ last)
  pub reply : IfSome o.reply (λ r. r.of ≤ last)

pub record IsDecisionUpTo (last : ℕ) (d : PeerDecision) : Type 0 where
  pub made : d.stamp ≤ last
  pub answers : d.answers ≤ last

abbrev pub IsUpTo : ℕ → LinkEnd → Type 0
IsUpTo last (Owns os) = AllByRecursion (IsOfferUpTo last) os
IsUpTo last (Decides ds) = AllByRecursion (IsDecisionUpTo last) ds
IsUpTo last Absent = Unit {0}

-- no stamp at any of the ends is above this one
abbrev pub AreUpTo : ℕ → (ℕ → LinkEnd) → Type 0
AreUpTo last ends = (l : ℕ) → IsUpTo last (ends l)
