use Rattle.stack_code.specs.declared.instr.Instr.TheVariants as i
use Rattle.ac_translation.specs.Pieces.{one}
use Rattle.ac_translation.proofs.Sized.{one_sized}
use Rattle.ac_compile.proofs.Emissions.{two_are}
use Rattle.ac_compile.proofs.emit.steps.emit_stepped.Goals as goal

pub returns : goal.returns
returns c = two_are (one i.Step) (one c.args.instr) (one_sized i.Step) c.args.emitter.now c.put.new.self c.put-2.new.self c.in_ok-put.ensures c.in_ok-put-2.ensures
