-- The one end of a core.
use Rattle.std.specs.Prelude.{◌≡◌, ℕ, List}
use Rattle.ac_base.specs.declared.entry.Entry.{Entry}
use Rattle.stack_code.specs.Parts.{Parts}
use Rattle.code_meaning.specs.Machine.{FlatEnd, Runs}

-- the code of the core comes to this end and to no other
pub record EndsOnlySo (code : Parts) (core bound : ℕ) (journal : List Entry) (end : FlatEnd) : Type 0 where
  pub comes : Runs code core bound journal end
  pub only : (other : FlatEnd) → Runs code core bound journal other → other ≡ end
