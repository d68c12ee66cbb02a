-- A program and its code come to one end and to no other.
-- The code does since it is valid (`code_safety`), and the source has the same runs.
use Rattle.std.proofs.Common.{◌≡◌, ℕ, ◌<◌, List, Option, length, sym, ap, subst}
use Rattle.ac_base.specs.declared.ends.CoreEnd.{CoreEnd}
use Rattle.ac_base.specs.declared.entry.Entry.{Entry}
use Rattle.ac_commands.specs.declared.program.Resolved.{Resolved}
use Rattle.ac_semantics.specs.Replay.{Replays}
use Rattle.stack_code.specs.Parts.{Parts}
use Rattle.stack_code.specs.Valid.{IsValid}
use Rattle.code_meaning.specs.Machine.{FlatEnd, Runs}
use Rattle.code_safety.specs.Ends.{EndsOnlySo}
use Rattle.code_safety.proofs.OneEnd.{ends_only_so}
use Rattle.ac_translation.specs.Same.{IsSame}
use Rattle.ac_compile.specs.OneEnd.{IsOnly, HasOneEnd}
use Rattle.ac_compile.specs.inner.Made.{HasRanks}

module _ (code : Parts) (program : Resolved) (same : IsSame code program) (core bound : ℕ) (journal : List Entry) (end : FlatEnd) (one : EndsOnlySo code core bound journal end) where
  in_code : IsOnly (λ (x : FlatEnd). Runs code core bound journal x)
  in_code = record { end = end; comes = one.comes; only = one.only }

  in_source : IsOnly (λ (x : Option CoreEnd). Replays program core bound journal x)
  in_source = record {
    end = end.core;
    comes = (same core bound journal end.core).1 (end.count, one.comes);
    only = λ other h. let run = (same core bound journal other).0 h in ap (λ (x : FlatEnd). x.core) (one.only (record { core = other; count = run.0 }) run.1);
  }

pub has_one_end : (code : Parts) (program : Resolved) → IsSame code program → IsValid code → HasRanks code → length code.entries ≡ length program.cores → HasOneEnd code program
has_one_end code program same valid ranks as_many core bound journal lt =
    let one = ends_only_so code valid core (subst (λ n. core < n) (sym as_many) lt) ranks.ranks ranks.ranked bound journal in
    (in_source code program same core bound journal one.0 one.1, in_code code program same core bound journal one.0 one.1)
