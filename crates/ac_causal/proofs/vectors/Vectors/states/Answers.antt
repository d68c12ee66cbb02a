use Rattle.std.proofs.Common.{◌∙◌, length, ap, subst, sym}
use Rattle.std.specs.Prelude.{IfOk}
use Rattle.ac_causal.specs.Run.{CausalRun}
use Rattle.ac_causal.specs.inner.Standing.{AreRunsTo}
use Rattle.ac_causal.proofs.vectors.Vectors.states.Goals as goal

pub states_of-requires : goal.states_of-requires
states_of-requires c = record {
  audited = c.self.invariant.audited;
  counts = c.requires ∙ sym (ap (λ (r : CausalRun). r.parties) c.self.view_is) ∙ c.self.invariant.parties_are;
}

pub returns : goal.returns
returns c =
    subst (λ (r : CausalRun). IfOk c.states_of.result (λ ends. AreRunsTo r.code r.steps r.entries c.args.counts.now (length r.code.entries) ends)) c.self.view_is c.states_of.ensures
