use Rattle.std.proofs.Common.{◌≡◌, drop, reverse}
use Rattle.ac_semantics.specs.Evaluation.{chain_goes, row_goes}
use Rattle.interpreter_steps.specs.inner.Pending.{head_of}
use Rattle.interpreter_steps.proofs.evaluation.+value.Given as goal

abbrev pub invariant-chain-links : goal.invariant-chain-links
invariant-chain-links l = record {
  same : chain_goes l.memory l.frame l.x (drop l.index l.links) l.fn.around ≡ chain_goes l.memory l.frame l.fn.first l.links l.fn.around;
  around : l.around ≡ l.fn.around;
}

abbrev pub invariant-row-values : goal.invariant-row-values
invariant-row-values l = record {
  same :
      row_goes l.memory l.frame (head_of l.head) (reverse l.done.items) (drop l.index l.values) l.fn.around
      ≡ row_goes l.memory l.frame (head_of l.head) (reverse l.fn.done.items) l.values l.fn.around;
  around : l.around ≡ l.fn.around;
}
