use Rattle.std.proofs.Common.{◌≡◌, List, ℕ, length, subst}
use Rattle.std.specs.Prelude.{IfOk}
use Rattle.ac_commands.specs.declared.program.Resolved.{Resolved}
use Rattle.ac_translation.specs.Translation.{code_of}
use Rattle.ac_translation.specs.Same.{IsSame}
use Rattle.ac_causal.specs.Run.{CausalRun}
use Rattle.ac_causal.specs.States.{AreStates}
use Rattle.ac_causal.specs.inner.Standing.{AreRunsTo}
use Rattle.ac_causal.proofs.Stating.{if_ok_by, are_states}
use Rattle.ac_causal.proofs.causal.Causal.states.Goals as goal

pub returns : goal.returns
returns c =
    let v = c.self.inside.vectors in
    let counts = c.as_slice.result.now in
    subst (λ (r : CausalRun). IfOk c.states.result (λ ends. (program : Resolved) → r.code ≡ code_of program → IsSame r.code program
    → AreStates program r.steps r.entries c.args.counts.now ends)) c.self.view_is
    (subst (λ (xs : List ℕ). IfOk c.states.result (λ ends. (program : Resolved) → v.code ≡ code_of program → IsSame v.code program
    → AreStates program v.steps v.entries xs ends)) c.as_slice.ensures
    (if_ok_by c.states.result (λ ends. AreRunsTo v.code v.steps v.entries counts (length v.code.entries) ends)
    (λ ends. (program : Resolved) → v.code ≡ code_of program → IsSame v.code program → AreStates program v.steps v.entries counts ends)
    (λ ends h program is same. are_states v.code v.steps v.entries counts ends h program is same) c.states.ensures))
