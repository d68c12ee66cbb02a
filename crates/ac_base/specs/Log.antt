-- What contracts see of a journal.
use Rattle.std.specs.Prelude.{ℕ, List}
use Rattle.ac_base.specs.declared.entry.Entry.{Entry}

pub record Log : Type 0 where
  pub entries : List Entry
  pub spare : ℕ
