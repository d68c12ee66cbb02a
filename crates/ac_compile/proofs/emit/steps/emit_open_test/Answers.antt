use Rattle.ac_compile.proofs.StepForms.{tested}
use Rattle.ac_compile.proofs.emit.steps.emit_open_test.Goals as goal

pub returns-in_ok-jump-in-Some-clause-code : goal.returns-in_ok-jump-in-Some-clause-code
returns-in_ok-jump-in-Some-clause-code c = tested c.args.test.now c.in-Some.test c.args.emitter.now c.emit_test.new.emitter c.in-Some.is c.in_ok-jump-in-Some.ensures.code
