use Rattle.std.proofs.Common.{arith}
use Rattle.stack_code.specs.declared.instr.Instr.TheVariants as i
use Rattle.ac_translation.specs.Pieces.{one}
use Rattle.ac_translation.specs.Translation.{value_code}
use Rattle.ac_translation.proofs.Sized.{one_sized, value_sized}
use Rattle.ac_compile.proofs.Emissions.{grown_to, three_are}
use Rattle.ac_compile.proofs.emit.steps.emit_run.Goals as goal

pub emit_value-requires : goal.emit_value-requires
emit_value-requires c =
    let n = grown_to (one i.Step) c.args.emitter.now c.put.new.self (one_sized i.Step) c.in_ok-put.ensures in
    omega (arith, n, c.requires)

pub returns : goal.returns
returns c =
    let x = c.args.value.now in
    three_are (one i.Step) (value_code x) (one i.Drop) (one_sized i.Step)
    (value_sized x) c.args.emitter.now c.put.new.self c.emit_value.new.emitter c.put-2.new.self c.in_ok-put.ensures c.in_ok-emit_value.ensures c.in_ok-put-2.ensures
