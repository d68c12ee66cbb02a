-- A call on one element of a list, and on one link.
use Rattle.std.specs.Prelude.{◌≡◌, ℕ, List, Some, Bool, slice_get, slice_set}
use Rattle.end_ports.specs.Held.{Held}
use Rattle.end_ports.specs.declared.ends.Ends.{Ends}
use Rattle.end_ports.specs.OnLinks.{end_on}
use Rattle.end_ports.specs.PortsTold.{Stays}

module _ {X : Type 0} where
  -- only the element at this place has changed, and so
  pub record ChangesAt (R : X → X → Type 0) (old : List X) (at : ℕ) (new : List X) : Type 0 where
    pub before : X
    pub after : X
    pub was : slice_get old at ≡ Some before
    pub now : new ≡ slice_set old at after
    pub change : R before after

-- the ends of all other links stay as they are
pub record OnlyOn (old : Held) (l : ℕ) (new : Held) : Type 0 where
  pub others : (k : ℕ) → (l ≡ k → ⊥) → end_on new k ≡ end_on old k
  pub full : new.full ≡ old.full
  pub stays : Stays old new

-- the ports that have these ends
abbrev pub held_by : Ends → Bool → Held
held_by it full = record { sends = it.sends; recvs = it.recvs; ask = it.ask; full = full }
