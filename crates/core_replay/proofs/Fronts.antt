-- Each front of a journal that has a run has one: the code is valid, so under the front alone the core comes to an end, whatever is to come.
use Rattle.std.proofs.Common.{ℕ, List, [], ◌∷◌, ◌++◌, sym, subst, append_assoc, append-nil}
use Rattle.ac_base.specs.declared.entry.Entry.{Entry}
use Rattle.stack_code.specs.Parts.{Parts}
use Rattle.stack_code.specs.Valid.{IsValid}
use Rattle.stack_code.specs.Kept.{IsRanked}
use Rattle.replay_laws.specs.Given.{HasRun}
use Rattle.replay_laws.proofs.Prefixes.{front_has_run}

pub front_runs : (code : Parts) (core bound : ℕ) (ranks : List ℕ) → IsValid code → IsRanked code ranks → (front rest : List Entry) → HasRun code core bound (front ++ rest)
    → HasRun code core bound front
front_runs code core bound ranks valid ranked front [] r = subst (HasRun code core bound) (append-nil front) r
front_runs code core bound ranks valid ranked front (e ∷ rest) r =
    front_has_run code core bound ranks valid ranked front e
    (front_runs code core bound ranks valid ranked (front ++ e ∷ []) rest (subst (HasRun code core bound) (sym (append_assoc front (e ∷ []) rest)) r))
