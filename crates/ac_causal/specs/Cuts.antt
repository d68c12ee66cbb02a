-- Cuts of a history: so many entries of each party, from its first one on.
use Rattle.std.specs.Prelude.{◌≡◌, ℕ, ◌<◌, ◌≤◌, List, length, Some, slice_get, slice_index}
use Rattle.ac_base.specs.declared.entry.Stamped.{Stamped}
use Rattle.ac_causal.specs.Before.{Answers, count_below, is_of}
use Rattle.ac_causal.specs.declared.cut.CutAnswer.{CutAnswer}
use Rattle.ac_causal.specs.declared.cut.CutAnswer.TheVariants.{Closed, Open}

-- how many of the first n entries are of the party
abbrev pub made_by : List Stamped → ℕ → ℕ → ℕ
made_by es party n = count_below (λ i. is_of party (slice_get es i)) n

-- a count for each party, of no more entries than it has
pub record IsCut (es : List Stamped) (parties : ℕ) (counts : List ℕ) : Type 0 where
  pub so_many : length counts ≡ parties
  pub each : (p : ℕ) → p < parties → slice_index counts p ≤ made_by es p (length es)

-- entry i is among the first so many of its party
pub record IsInside (es : List Stamped) (counts : List ℕ) (i : ℕ) : Type 0 where
  pub entry : Stamped
  pub there : slice_get es i ≡ Some entry
  pub first : made_by es entry.party i < slice_index counts entry.party

-- what an entry of the cut answers is in the cut
abbrev pub IsClosed : List Stamped → List ℕ → Type 0
IsClosed es counts = (i j : ℕ) → Answers es i j → IsInside es counts j → IsInside es counts i

-- entry i is not in the cut, and one of the cut answers it
pub record IsOpenAt (es : List Stamped) (counts : List ℕ) (i : ℕ) : Type 0 where
  pub by : ℕ
  pub answers : Answers es i by
  pub inside : IsInside es counts by
  pub outside : IsInside es counts i → ⊥

-- the cut is closed, or this is the least entry at which it is open
abbrev pub IsCutAnswer : List Stamped → List ℕ → CutAnswer → Type 0
IsCutAnswer es counts Closed = IsClosed es counts
IsCutAnswer es counts (Open entry) = IsOpenAt es counts entry × ((i : ℕ) → IsOpenAt es counts i → entry ≤ i)
