-- What a request, its withdrawal and a look for its decision are answered, and what they make of the end of a core's requests.
use Rattle.std.specs.Prelude.{◌≡◌, ◌⊎◌, ℕ, ◌+◌, List, [], ◌∷◌, ◌++◌, length, Some, None, true, false}
use Rattle.ac_base.specs.declared.entry.Payload.{Payload}
use Rattle.ac_base.specs.Stamps.{stamp_after}
use Rattle.ac_links.specs.Views.{OwnerOffer, owner_offer, altered, withdrawn_at, known_at}
use Rattle.core_channels.specs.declared.answers.Offering.{Offering}
use Rattle.core_channels.specs.declared.answers.Offering.TheVariants.{Offered, NoRoom, NotYet, ClockFull}
use Rattle.core_channels.specs.declared.answers.Learning.{Learning}
use Rattle.core_channels.specs.declared.answers.Learning.TheVariants as learning
use Rattle.core_channels.specs.declared.answers.Withdrawing.{Withdrawing}
use Rattle.core_channels.specs.declared.answers.Withdrawing.TheVariants as withdrawing
use Rattle.channel_ends.specs.Sending.{has_room}
use Rattle.channel_ends.specs.Offers.{IsOffered}
use Rattle.request_ends.specs.Asking.{Asking, requests_of}

-- ---- requests

-- one request more
pub record IsRequested (old : Asking) (value : Payload) (stamp : ℕ) (new : Asking) : Type 0 where
  pub send : IsOffered old.send value stamp new.send
  pub rest : new ≡ record old { send = new.send; places = new.places }
  pub places : old.places ≡ new.places + 1
  pub list : requests_of new ≡ requests_of old ++ owner_offer value stamp ∷ []

-- The answer to a request of a core whose last stamp is `last`, and its end after it. First there is room or not, then a stamp or not, and
-- then a free slot of the ring and a place to note it, or not
abbrev pub Requests : Asking → Payload → ℕ → Offering Payload → Asking → Type 0
Requests old value last (NoRoom back) new = (has_room old.send.notes ≡ false) × (back ≡ value) × (new ≡ old)
Requests old value last (ClockFull back) new =
    (has_room old.send.notes ≡ true) × (stamp_after last 0 ≡ None) × (back ≡ value) × (new ≡ old)
Requests old value last (NotYet back) new = (has_room old.send.notes ≡ true) × ((s : ℕ) × (stamp_after last 0 ≡ Some s))
    × ((old.send.free ≡ 0) ⊎ (old.places ≡ 0)) × (back ≡ value) × (new ≡ old)
Requests old value last (Offered number stamp) new = (has_room old.send.notes ≡ true) × (stamp_after last 0 ≡ Some stamp)
    × (number ≡ length old.send.notes.offers) × IsRequested old value stamp new

-- ---- what a core does with the requests that it has made

-- nothing of the end changes but what is noted of them
abbrev pub NotesOnly : Asking → Asking → Type 0
NotesOnly old new = new ≡ record old { send = record old.send { notes = new.send.notes }; places = new.places }

-- the list with the decision of the request of this number, of whose stamp the entry of stamp s is the next
abbrev pub IsKnownIn : List OwnerOffer → ℕ → ℕ → ℕ → List OwnerOffer → Type 0
IsKnownIn old last number s new = (of : ℕ) × (stamp_after last of ≡ Some s) × (new ≡ altered old number (known_at of))

abbrev pub ListWithdraws : List OwnerOffer → ℕ → ℕ → Withdrawing → List OwnerOffer → Type 0
ListWithdraws old number last (withdrawing.Withdrawn s) new = new ≡ altered old number (withdrawn_at s)
ListWithdraws old number last (withdrawing.Taken s) new = IsKnownIn old last number s new
ListWithdraws old number last withdrawing.ClockFull new = new ≡ old

abbrev pub ListLearns : List OwnerOffer → ℕ → Learning → List OwnerOffer → Type 0
ListLearns old last (learning.Know number s) new = IsKnownIn old last number s new
ListLearns old last (learning.Room number s) new = IsKnownIn old last number s new
ListLearns old last learning.Undecided new = new ≡ old
ListLearns old last learning.AllKnown new = new ≡ old
ListLearns old last learning.ClockFull new = new ≡ old
