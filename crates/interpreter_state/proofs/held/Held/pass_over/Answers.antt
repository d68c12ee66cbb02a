use Rattle.std.proofs.Common.{ap}
use Rattle.cancel_scope.specs.Outstanding.{is_to_receive}
use Rattle.core_state.specs.Arrivals.{passes_over}
use Rattle.interpreter_state.proofs.Finding.{none_found, one_found}
use Rattle.interpreter_state.proofs.held.Held.pass_over.Goals as goal

pub returns-in-Some-clause-fits : goal.returns-in-Some-clause-fits
returns-in-Some-clause-fits c = ap (passes_over c.args.self.now.memory c.args.self.now.operations.items)
    (one_found (is_to_receive c.args.link) c.args.self.now.operations.items c.as_slice.result.now c.in-Some.field-0 c.in-Some.ensures c.as_slice.ensures.value)

pub returns-in-None-clause-fits : goal.returns-in-None-clause-fits
returns-in-None-clause-fits c = ap (passes_over c.args.self.now.memory c.args.self.now.operations.items)
    (none_found (is_to_receive c.args.link) c.args.self.now.operations.items c.as_slice.result.now c.in-None.ensures c.as_slice.ensures.value)
