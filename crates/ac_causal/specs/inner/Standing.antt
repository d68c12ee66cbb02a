-- How the cores of a code end under their entries of a cut, and a core that is on its way there.
use Rattle.std.specs.Prelude.{◌≡◌, ℕ, ◌-◌, List, length, take, Some, true, slice_get}
use Rattle.ac_base.specs.declared.ends.CoreEnd.{CoreEnd}
use Rattle.ac_base.specs.declared.entry.Entry.{Entry}
use Rattle.ac_base.specs.declared.entry.Stamped.{Stamped}
use Rattle.stack_code.specs.Parts.{Parts}
use Rattle.code_meaning.specs.Machine.{Runs}
use Rattle.core_replay.specs.Replayed.{Replayed}
use Rattle.trace_audit.specs.RunTrace.{journal_of}
use Rattle.ac_causal.specs.States.{cut_journal}

-- the core of the code comes to this end under this journal
abbrev pub RunsTo : Parts → ℕ → ℕ → List Entry → CoreEnd → Type 0
RunsTo code core bound journal end = (count : ℕ) × Runs code core bound journal (record { core = Some end; count = count })

-- the first so many cores
pub record AreRunsTo (code : Parts) (bound : ℕ) (es : List Stamped) (counts : List ℕ) (cores : ℕ) (ends : List CoreEnd) : Type 0 where
  pub so_many : length ends ≡ cores
  pub each : (core : ℕ) (end : CoreEnd) → slice_get ends core ≡ Some end → RunsTo code core bound (cut_journal es counts core) end

-- of the first n entries the core has taken its own, up to so many, and so many of them are left
pub record HasTaken (code : Parts) (core bound count : ℕ) (es : List Stamped) (n : ℕ) (r : Replayed) (left : ℕ) : Type 0 where
  pub took_all : r.took_all ≡ true
  pub code_is : r.code ≡ code
  pub core_is : r.core ≡ core
  pub bound_is : r.bound ≡ bound
  pub journal_is : r.journal ≡ take count (journal_of core (take n es))
  pub left_is : left ≡ count - length (journal_of core (take n es))
