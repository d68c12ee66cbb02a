-- Where a cut is open, entry by entry, by marks: places counted from 1, and 0 for none.
use Rattle.std.specs.Prelude.{◌≡◌, ℕ, suc, ◌<◌, ◌≤◌, List, slice_get, slice_index, length, Some}
use Rattle.ac_base.specs.declared.entry.Stamped.{Stamped}
use Rattle.stack_code.specs.Parts.{Parts}
use Rattle.trace_text.specs.declared.trace.Trace.{Trace}
use Rattle.ac_causal.specs.Before.{Answers}
use Rattle.ac_causal.specs.Cuts.{IsInside, IsOpenAt}
use Rattle.ac_causal.specs.inner.Marks.{Marked, no_marks, seen_mark, marked_at}
use Rattle.ac_causal.specs.inner.Kept.{IsKept}
use Rattle.ac_causal.specs.Run.{IsAudited}

-- the marks that the first so many entries see
pub record AreSeen (first : Marked) (es : List Stamped) (rows : ℕ) (seen : List ℕ) : Type 0 where
  pub so_many : length seen ≡ rows
  pub each : (j : ℕ) (e : Stamped) → j < rows → slice_get es j ≡ Some e → slice_index seen j ≡ seen_mark (marked_at es first j) e

pub record IsWhole (es : List Stamped) (parties : ℕ) (table seen : List ℕ) : Type 0 where
  pub kept : IsKept es parties table
  pub marks : AreSeen (no_marks (length kept.capacities) parties) es (length es) seen

-- of a trace that is a run of a program with this code
pub record AreVectors (code : Parts) (t : Trace) (parties : ℕ) (table seen : List ℕ) : Type 0 where
  pub audited : IsAudited code t
  pub parties_are : parties ≡ suc (length code.entries)
  pub whole : IsWhole t.entries parties table seen

-- the mark of what entry j answers, if j is in the cut and that is not
pub record IsOpenMark (es : List Stamped) (counts : List ℕ) (j mark : ℕ) : Type 0 where
  pub none : mark ≡ 0 → (i : ℕ) → Answers es i j → IsInside es counts j → IsInside es counts i
  pub some : (i : ℕ) → mark ≡ suc i → Answers es i j × IsInside es counts j × (IsInside es counts i → ⊥)
  pub only : (i : ℕ) → Answers es i j → IsInside es counts j → (IsInside es counts i → ⊥) → mark ≡ suc i

-- the least of those of the first n entries
pub record IsLeastMark (es : List Stamped) (counts : List ℕ) (n mark : ℕ) : Type 0 where
  pub none : mark ≡ 0 → (i j : ℕ) → j < n → Answers es i j → IsInside es counts j → IsInside es counts i
  pub some : (i : ℕ) → mark ≡ suc i → IsOpenAt es counts i
  pub least : (i j : ℕ) → j < n → Answers es i j → IsInside es counts j → (IsInside es counts i → ⊥) → (0 < mark) × (mark ≤ suc i)
