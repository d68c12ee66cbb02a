-- What contracts see of the sending end of a pair: what it has offered, with the stamps of what that answers, and what it knows.
use Rattle.std.specs.Prelude.{ℕ, suc, ◌-◌, ◌<◌, ◌≤◌, List, [], ◌∷◌, length, Option, Some, None, Bool, is_some}
use Rattle.std.specs.Prelude.{if◌then◌else◌, nat_lt, slice_index_or}
use Rattle.std.specs.Option.{ForSome}
use Rattle.atomic_table.specs.Seated.{TableId}
use Rattle.completion_word.specs.declared.standing.Standing.{Standing}
use Rattle.channel_ends.specs.Rings.{RingName}

-- an offer as its end has noted it: its stamp, that of its withdrawal, and that of the decision which the end knows
pub record MadeOffer : Type 0 where
  pub stamp : ℕ
  pub withdrawn : Option ℕ
  pub known : Option ℕ

-- the offers of one end by their numbers, which count from 0, and what the words have told of them
pub record OwnerNotes : Type 0 where
  -- which words these are, and how many
  pub table : TableId
  pub offers : List MadeOffer
  -- of each offer, the stamp of its decision, where the words have told of one: also where the clock was full as they did
  pub heard : List (Option ℕ)
  -- how many of the leading decisions the last settling told of
  pub told : ℕ
  -- how often the end has loaded a word to learn, and what the last of these loads saw
  pub loads : ℕ
  pub saw : Standing

-- a sending end: its offers, what they carry, and how many free slots of its ring it knows of
pub record Sending (M : Type 0) : Type 0 where
  pub ring : RingName
  pub notes : OwnerNotes
  pub payloads : List M
  pub free : ℕ

-- how many words there are, which is also how many items the ring holds
abbrev pub capacity_of : OwnerNotes → ℕ
capacity_of e = e.table.words

-- how many offers there are before the first whose decision is not known
abbrev pub known_lead : List MadeOffer → ℕ
known_lead [] = 0
known_lead (o ∷ os) = if is_some o.known then suc (known_lead os) else 0

-- one that was just made
abbrev pub made_offer : ℕ → MadeOffer
made_offer stamp = record { stamp = stamp; withdrawn = None; known = None }

-- the offer of a number
abbrev pub made_at : List MadeOffer → ℕ → MadeOffer
made_at offers n = slice_index_or offers n (made_offer 0)

-- no offer and no withdrawal has a greater stamp
abbrev pub AreWithin : ℕ → List MadeOffer → Type 0
AreWithin last offers = (n : ℕ) → n < length offers
    → ((made_at offers n).stamp ≤ last) × ForSome (made_at offers n).withdrawn (λ w. w ≤ last)

-- what was heard of the offer of a number
abbrev pub heard_of : OwnerNotes → ℕ → Option ℕ
heard_of e n = slice_index_or e.heard n None

-- fewer offers than the capacity are there from the first one on that is not known
abbrev pub has_room : OwnerNotes → Bool
has_room e = nat_lt (length e.offers - known_lead e.offers) (capacity_of e)

abbrev pub withdrawn_at : ℕ → MadeOffer → MadeOffer
withdrawn_at s o = record o { withdrawn = Some s }

abbrev pub known_at : ℕ → MadeOffer → MadeOffer
known_at s o = record o { known = Some s }
