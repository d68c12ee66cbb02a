-- What the owner's seat is told as it learns.
use Rattle.std.specs.Prelude.{◌≡◌, ℕ, ◌+◌, ◌-◌, ◌<◌, ◌≤◌, length, Some, None, is_some}
use Rattle.completion_word.specs.declared.views.Owner.{Owner}
use Rattle.completion_word.specs.declared.answers.Learnt.TheVariants as learnt
use Rattle.completion_word.specs.Link.{offer_at}
use Rattle.completion_word.specs.Steps.{learnt_of}
use Rattle.channel_ends.specs.declared.marks.Heard.{Heard}
use Rattle.channel_ends.specs.declared.marks.Heard.TheVariants.{Decided, Nothing}
use Rattle.channel_ends.specs.inner.Noted.{heard_at}

-- as many offers with the same stamps and withdrawals; what a withdrawal has found may be more
pub record SameStamps (old new : Owner) : Type 0 where
  pub count : length new.offers ≡ length old.offers
  pub stamp : (k : ℕ) → (offer_at new.offers k).stamp ≡ (offer_at old.offers k).stamp
  pub withdrawn : (k : ℕ) → (offer_at new.offers k).withdrawn ≡ (offer_at old.offers k).withdrawn

-- learning leaves the offers and what was told of by a settling
pub record IsSame (old new : Owner) : Type 0 where
  pub offers : new.offers ≡ old.offers
  pub last : new.last ≡ old.last
  pub told : new.told ≡ old.told

-- more of the first `lead` offers may be learned, and nothing was heard that had not been heard before
pub record GoesOn (lead : ℕ) (old new : Owner) : Type 0 where
  pub same : IsSame old new
  pub heard : (k : ℕ) → heard_at new k ≡ heard_at old k
  pub kept : length old.learned ≤ length new.learned
  pub most : length new.learned ≤ length old.learned + (lead - length old.learned)
  pub loads : old.loads ≤ new.loads

-- all of them are
pub record CatchesUp (lead : ℕ) (old new : Owner) : Type 0 where
  pub goes : GoesOn lead old new
  pub learned : lead ≤ length new.learned

-- the decision of offer `lead` was heard, now or before, or the load of this call saw none
abbrev pub HeardSo : ℕ → Owner → Heard → Owner → Type 0
HeardSo lead old (Decided withdrawn stamp) new =
    (heard_at new lead ≡ Some stamp) × (withdrawn ≡ is_some (offer_at old.offers lead).withdrawn)
    × ((s : ℕ) → heard_at old lead ≡ Some s → s ≡ stamp)
HeardSo lead old Nothing new = (heard_at new lead ≡ None) × (heard_at old lead ≡ None) × (length old.told ≤ lead) × (old.loads < new.loads)
    × (learnt_of new.saw ≡ learnt.Undecided)

-- nothing else was heard
pub record HearsOne (lead : ℕ) (old : Owner) (heard : Heard) (new : Owner) : Type 0 where
  pub same : IsSame old new
  pub told_so : HeardSo lead old heard new
  pub others : (k : ℕ) → (k ≡ lead → ⊥) → heard_at new k ≡ heard_at old k
  pub learned : length new.learned ≤ lead + 1
  pub loads : old.loads ≤ new.loads
