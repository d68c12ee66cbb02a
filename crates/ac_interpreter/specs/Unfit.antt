-- A journal that does not fit a core.
use Rattle.std.specs.Prelude.{ℕ, ◌+◌, ◌<◌, List, length, take, Option, None}
use Rattle.ac_base.specs.declared.ends.CoreEnd.{CoreEnd}
use Rattle.ac_base.specs.declared.entry.Entry.{Entry}
use Rattle.core_state.specs.Moves.{ComesTo}
use Rattle.ac_commands.specs.declared.program.Function.{Function}
use Rattle.ac_commands.specs.declared.program.Resolved.{Resolved}
use Rattle.ac_semantics.specs.Threads.{step, first_state}

-- the run of the core of this number that enters this function, with this bound on its steps, comes to this end under this journal
abbrev pub RunEnds : Resolved → ℕ → Function → ℕ → List Entry → Option CoreEnd → Type 0
RunEnds program core function bound journal end = ComesTo (step program bound) (first_state program core function journal) end

-- the least place whose prefix through it comes to no end that is seen
pub record IsUnfit (program : Resolved) (core : ℕ) (function : Function) (bound : ℕ) (journal : List Entry) (place : ℕ) : Type 0 where
  pub inside : place < length journal
  pub unfit : RunEnds program core function bound (take (place + 1) journal) None
  pub before : (earlier : ℕ) → earlier < place → RunEnds program core function bound (take (earlier + 1) journal) None → ⊥
