-- What is kept of a run: a legal history, and the table of its vectors.
use Rattle.std.specs.Prelude.{◌≡◌, ℕ, suc, ◌<◌, ◌^◌, List, length}
use Rattle.ac_base.specs.declared.entry.Stamped.{Stamped}
use Rattle.ac_history.specs.History.{IsLegal, start}
use Rattle.ac_causal.specs.inner.Marks.{no_marks, IsTable}

pub record IsKept (es : List Stamped) (parties : ℕ) (table : List ℕ) : Type 0 where
  pub capacities : List ℕ
  pub widths : List ℕ
  pub cores : ℕ
  pub legal : IsLegal (start capacities widths cores) es
  pub parties_are : parties ≡ suc cores
  pub few : length es < 2 ^ 32
  pub rows : IsTable parties (no_marks (length capacities) parties) es (length es) table
