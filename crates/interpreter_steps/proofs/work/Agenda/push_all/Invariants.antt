use Rattle.std.proofs.Common.{◌≡◌, ◌≤◌, drop, length}
use Rattle.ac_semantics.specs.Work.{before}
use Rattle.interpreter_steps.proofs.work.Agenda.push_all.Given as goal

abbrev pub invariant-body : goal.invariant-body
invariant-body l = record {
  same : l.self ≡ before l.frame (drop l.index l.body) l.fn.self;
  inside : l.index ≤ length l.body;
}

abbrev pub decreases-body : goal.decreases-body
decreases-body l = l.index
