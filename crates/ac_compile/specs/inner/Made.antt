-- What contracts see of the parts of a code that is made, and of the code.
use Rattle.std.specs.Prelude.{ℕ, List}
use Rattle.stack_code.specs.Parts.{Parts}
use Rattle.stack_code.specs.Kept.{IsRanked}
use Rattle.ac_compile.specs.declared.whole.Whole.{Whole}

abbrev pub parts_of : Whole → Parts
parts_of w = record {
  instrs = w.instrs;
  functions = w.functions;
  texts = w.texts;
  entries = w.entries;
  names = w.names;
  globals = w.globals;
  capacities = w.capacities;
  ends = w.ends;
  starts = w.starts;
  widths = w.widths;
}

-- some ranks fall along the ways of the code without a `Step`
pub record HasRanks (code : Parts) : Type 0 where
  pub ranks : List ℕ
  pub ranked : IsRanked code ranks
