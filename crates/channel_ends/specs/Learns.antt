-- What a sending end learns of its first offer that is not known.
use Rattle.std.specs.Prelude.{◌≡◌, ℕ, ◌<◌, ◌≤◌, length, Option, Some, None, Bool, true, false, is_some, slice_get}
use Rattle.ac_base.specs.Stamps.{stamp_after}
use Rattle.ac_links.specs.Views.{altered}
use Rattle.completion_word.specs.Steps.{learnt_of}
use Rattle.completion_word.specs.declared.answers.Learnt.TheVariants as learnt
use Rattle.core_channels.specs.declared.answers.Learning.{Learning}
use Rattle.core_channels.specs.declared.answers.Learning.TheVariants.{Know, Room, Undecided, AllKnown, ClockFull}
use Rattle.channel_ends.specs.Sending.{MadeOffer, OwnerNotes, known_lead, known_at, heard_of}

abbrev pub is_withdrawn : Option MadeOffer → Bool
is_withdrawn None = false
is_withdrawn (Some o) = is_some o.withdrawn

-- the words have told of the decision of the offer of this number, with this stamp, in this call or before; nothing else was told
pub record Hears (old : OwnerNotes) (number stamp : ℕ) (new : OwnerNotes) : Type 0 where
  pub table : new.table ≡ old.table
  pub heard : new.heard ≡ altered old.heard number (λ _. Some stamp)
  -- where they had told of it before, it was with this stamp
  pub same : (s : ℕ) → heard_of old number ≡ Some s → s ≡ stamp
  pub told : new.told ≡ old.told
  pub loads : old.loads ≤ new.loads

-- its decision, of the stamp that was heard, is known by an entry of stamp s
pub record Knows (old : OwnerNotes) (last number s : ℕ) (new : OwnerNotes) : Type 0 where
  pub of : ℕ
  pub hears : Hears old number of new
  pub next : stamp_after last of ≡ Some s
  pub offers : new.offers ≡ altered old.offers number (known_at of)

-- its decision was heard, and no stamp is left for the entry
pub record IsHeardOnly (old : OwnerNotes) (last number : ℕ) (new : OwnerNotes) : Type 0 where
  pub of : ℕ
  pub hears : Hears old number of new
  pub none : stamp_after last of ≡ None
  pub offers : new.offers ≡ old.offers

-- nothing was heard: the load of this call saw no decision, and no settling had told of one
pub record IsUndecided (old : OwnerNotes) (new : OwnerNotes) : Type 0 where
  pub some : known_lead old.offers < length old.offers
  pub not_heard : heard_of old (known_lead old.offers) ≡ None
  pub not_told : old.told ≤ known_lead old.offers
  pub table : new.table ≡ old.table
  pub offers : new.offers ≡ old.offers
  pub heard : new.heard ≡ old.heard
  pub told : new.told ≡ old.told
  pub loads : old.loads < new.loads
  pub saw : learnt_of new.saw ≡ learnt.Undecided

-- the answer to an owner whose last stamp is `last`, and its end after it
abbrev pub Learns : OwnerNotes → ℕ → Learning → OwnerNotes → Type 0
Learns old last (Know number s) new = (known_lead old.offers < length old.offers) × (number ≡ known_lead old.offers)
    × (is_withdrawn (slice_get old.offers number) ≡ false) × Knows old last number s new
Learns old last (Room number s) new = (known_lead old.offers < length old.offers) × (number ≡ known_lead old.offers)
    × (is_withdrawn (slice_get old.offers number) ≡ true) × Knows old last number s new
Learns old last Undecided new = IsUndecided old new
Learns old last AllKnown new = (known_lead old.offers ≡ length old.offers) × (new ≡ old)
Learns old last ClockFull new =
    (known_lead old.offers < length old.offers) × IsHeardOnly old last (known_lead old.offers) new
