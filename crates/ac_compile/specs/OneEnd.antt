-- There is one end: of each core, in the source and in the code.
use Rattle.std.specs.Prelude.{◌≡◌, ℕ, ◌<◌, List, Option, length}
use Rattle.ac_base.specs.declared.ends.CoreEnd.{CoreEnd}
use Rattle.ac_base.specs.declared.entry.Entry.{Entry}
use Rattle.ac_commands.specs.declared.program.Resolved.{Resolved}
use Rattle.ac_semantics.specs.Replay.{Replays}
use Rattle.stack_code.specs.Parts.{Parts}
use Rattle.code_meaning.specs.Machine.{FlatEnd, Runs}

-- there is one, and it is the only one
pub record IsOnly {E : Type 0} (P : E → Type 0) : Type 0 where
  pub end : E
  pub comes : P end
  pub only : (other : E) → P other → other ≡ end

-- Each core comes to one end and to no other, in the source and in the code, with every bound on steps and under every journal. Where the
-- journal does not fit, the end in the source is none.
abbrev pub HasOneEnd : Parts → Resolved → Type 0
HasOneEnd code program =
    (core bound : ℕ) (journal : List Entry) → core < length program.cores →
    IsOnly (λ (end : Option CoreEnd). Replays program core bound journal end)
    × IsOnly (λ (end : FlatEnd). Runs code core bound journal end)
