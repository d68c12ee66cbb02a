-- A program whose code is valid and has the same runs is sound: the code is the program's, so what is known of the one is said of the other.
use Rattle.std.proofs.Common.{◌≡◌, ℕ, List, subst}
use Rattle.ac_commands.specs.declared.program.Resolved.{Resolved}
use Rattle.stack_code.specs.Kept.{IsRanked}
use Rattle.stack_code.specs.Parts.{Parts}
use Rattle.stack_code.specs.Valid.{IsValid}
use Rattle.ac_translation.specs.Translation.{code_of}
use Rattle.ac_translation.specs.Same.{IsSame}
use Rattle.trace_audit.specs.Laws.{IsSound}

pub is_sound : (program : Resolved) (code : Parts) (ranks : List ℕ) → IsValid code → IsRanked code ranks → code ≡ code_of program → IsSame code program → IsSound program
is_sound program code ranks valid ranked is same = record {
  valid = subst IsValid is valid;
  ranks = ranks;
  ranked = subst (λ c. IsRanked c ranks) is ranked;
  same = subst (λ c. IsSame c program) is same;
}
