-- How many entries a run may have, and how great its stamps are by their number.
use Rattle.std.proofs.Common.{ℕ, ◌<◌, ◌≤◌, ◌^◌, [], ◌∷◌, length, arith}
use Rattle.std.proofs.lemmas.List.Elements.{All-from_recursion}
use Rattle.program_run.specs.declared.ended.Ended.{Ended}
use Rattle.program_run.specs.Run.{history_of}
use Rattle.ac_program.specs.Headline.{HasFewEntries}
use Rattle.ac_program.proofs.Examples.{journal, of_party, stamped}

-- a core and the worker have one entry each
abbrev two_entries : ℕ → Ended
two_entries last = record { steps = 9; start = []; journals = journal (stamped 1 0 ∷ []) ∷ journal (stamped last 0 ∷ []) ∷ []; cores = [] }

pub two_entries_are_few : HasFewEntries (two_entries 2)
two_entries_are_few = record {
  entries = omega arith;
  stamps = All-from_recursion (λ s. s.entry.stamp ≤ length (history_of (two_entries 2).journals)) (history_of (two_entries 2).journals) (omega arith, (omega arith, tt));
}

pub a_stamp_is_above_their_number : HasFewEntries (two_entries 3) → ⊥
a_stamp_is_above_their_number h = let three = h.stamps 1 (of_party 0 (stamped 1 0)) (omega arith) in omega (arith, three)
