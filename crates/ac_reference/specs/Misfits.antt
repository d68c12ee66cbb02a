-- A journal that does not fit, and the least place at which it does not.
use Rattle.std.specs.Prelude.{ℕ, ◌+◌, ◌<◌, List, length, take, Some}
use Rattle.ac_base.specs.declared.ends.CoreEnd.{CoreEnd}
use Rattle.ac_base.specs.declared.entry.Entry.{Entry}
use Rattle.ac_commands.specs.declared.program.Resolved.{Resolved}
use Rattle.ac_semantics.specs.Replay.{Replays}

-- the core comes to an end under this journal, with nothing left of it
abbrev pub HasReplay : Resolved → ℕ → ℕ → List Entry → Type 0
HasReplay program core bound journal = (end : CoreEnd) × Replays program core bound journal (Some end)

-- the least place whose prefix through it has no replay
pub record IsMisfit (program : Resolved) (core bound : ℕ) (journal : List Entry) (place : ℕ) : Type 0 where
  pub inside : place < length journal
  pub unfit : HasReplay program core bound (take (place + 1) journal) → ⊥
  pub before : (earlier : ℕ) → earlier < place → HasReplay program core bound (take (earlier + 1) journal)
