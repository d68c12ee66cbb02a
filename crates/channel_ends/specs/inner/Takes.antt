-- How a withdrawn offer is passed, in a call of `take` that has looked.
use Rattle.std.specs.Prelude.{◌≡◌, ℕ, ◌∷◌, [], ◌++◌, length, Some, None}
use Rattle.ac_base.specs.Stamps.{stamp_after}
use Rattle.completion_word.specs.Steps.{after_pass}
use Rattle.core_channels.specs.declared.answers.Receiving.{Receiving as Received}
use Rattle.core_channels.specs.declared.answers.Receiving.TheVariants.{Took, Passed, Nothing, NotYet, ClockFull}
use Rattle.channel_ends.specs.Receiving.{Receiving}

module _ {M : Type 0} where
  -- one decision more, and the first item is gone
  pub record PassesOne (old : Receiving M) (number stamp : ℕ) (new : Receiving M) : Type 0 where
    pub value : M
    pub table : new.table ≡ old.table
    pub ring : new.ring ≡ old.ring
    pub number_is : number ≡ length old.peer.decisions
    pub peer : new.peer ≡ after_pass stamp old.peer
    pub popped : new.popped ≡ old.popped ++ value ∷ []
    pub items : old.items ≡ value ∷ new.items

  abbrev pub Passes : Receiving M → ℕ → ℕ → Received M → Receiving M → Type 0
  Passes old last withdrawn (Took number value s) new = ⊥
  Passes old last withdrawn (Passed number s) new = (stamp_after last withdrawn ≡ Some s) × PassesOne old number s new
  Passes old last withdrawn Nothing new = ⊥
  Passes old last withdrawn NotYet new = ⊥
  Passes old last withdrawn ClockFull new = (stamp_after last withdrawn ≡ None) × (new ≡ old)
