-- The entries of a cut, party by party, how the cores end under them, and their history.
use Rattle.std.specs.Prelude.{◌≡◌, ℕ, suc, List, [], ◌∷◌, length, take, Some, slice_get, slice_index}
use Rattle.ac_base.specs.declared.ends.CoreEnd.{CoreEnd}
use Rattle.ac_base.specs.declared.entry.Entry.{Entry}
use Rattle.ac_base.specs.declared.entry.Stamped.{Stamped}
use Rattle.ac_commands.specs.declared.program.Resolved.{Resolved}
use Rattle.ac_semantics.specs.Replay.{Replays}
use Rattle.ac_history.specs.Merged.{merged}
use Rattle.trace_audit.specs.RunTrace.{journal_of}

-- the entries of a party in the cut: the first so many of its journal
abbrev pub cut_journal : List Stamped → List ℕ → ℕ → List Entry
cut_journal es counts p = take (slice_index counts p) (journal_of p es)

-- each core of the program comes to its end under its entries of the cut
pub record AreStates (program : Resolved) (bound : ℕ) (es : List Stamped) (counts : List ℕ) (ends : List CoreEnd) : Type 0 where
  pub every_core : length ends ≡ length program.cores
  pub each : (core : ℕ) (end : CoreEnd) → slice_get ends core ≡ Some end
      → Replays program core bound (cut_journal es counts core) (Some end)

-- the first so many entries of each party, from this party on
abbrev pub cut_journals : List Stamped → ℕ → List ℕ → List (List Entry)
cut_journals es p [] = []
cut_journals es p (count ∷ counts) = take count (journal_of p es) ∷ cut_journals es (suc p) counts

-- the entries of the cut, merged by their stamps
abbrev pub cut_history : List Stamped → List ℕ → List Stamped
cut_history es counts = merged (cut_journals es 0 counts)
