-- What an offer is answered, and what it makes of its end and of its party's clock.
use Rattle.std.specs.Prelude.{◌≡◌, ℕ, ◌+◌, ◌≤◌, [], ◌∷◌, ◌++◌, length, Some, None, true, false}
use Rattle.ac_base.specs.Stamps.{stamp_after}
use Rattle.core_channels.specs.declared.answers.Offering.{Offering}
use Rattle.core_channels.specs.declared.answers.Offering.TheVariants.{Offered, NoRoom, NotYet, ClockFull}
use Rattle.channel_ends.specs.Sending.{OwnerNotes, Sending, has_room, made_offer}

-- one offer more, of which nothing was heard; the end may have loaded words before, to learn what it knows
pub record AddsOffer (old : OwnerNotes) (stamp : ℕ) (new : OwnerNotes) : Type 0 where
  pub table : new.table ≡ old.table
  pub offers : new.offers ≡ old.offers ++ made_offer stamp ∷ []
  pub heard : new.heard ≡ old.heard ++ None ∷ []
  pub told : new.told ≡ old.told
  pub loads : old.loads ≤ new.loads

module _ {M : Type 0} where
  -- one offer more, whose payload is in the ring
  pub record IsOffered (old : Sending M) (value : M) (stamp : ℕ) (new : Sending M) : Type 0 where
    pub ring : new.ring ≡ old.ring
    pub notes : AddsOffer old.notes stamp new.notes
    pub payloads : new.payloads ≡ old.payloads ++ value ∷ []
    pub free : old.free ≤ new.free + 1

  -- The answer to an offer whose owner's last stamp is `last`, and the end after it. First there is room or not, then a stamp or not, and
  -- then a free slot or not: one that the end knew of is free
  abbrev pub Offers : Sending M → M → ℕ → Offering M → Sending M → Type 0
  Offers old value last (NoRoom back) new = (has_room old.notes ≡ false) × (back ≡ value) × (new ≡ old)
  Offers old value last (ClockFull back) new =
      (has_room old.notes ≡ true) × (stamp_after last 0 ≡ None) × (back ≡ value) × (new ≡ old)
  Offers old value last (NotYet back) new =
      (has_room old.notes ≡ true) × ((s : ℕ) × (stamp_after last 0 ≡ Some s)) × (old.free ≡ 0) × (back ≡ value) × (new ≡ old)
  Offers old value last (Offered number stamp) new =
      (has_room old.notes ≡ true) × (stamp_after last 0 ≡ Some stamp) × (number ≡ length old.notes.offers)
      × IsOffered old value stamp new

  -- the owner's last stamp after the answer
  abbrev pub offering_clock : ℕ → Offering M → ℕ
  offering_clock last (Offered number stamp) = stamp
  offering_clock last (NoRoom back) = last
  offering_clock last (NotYet back) = last
  offering_clock last (ClockFull back) = last
