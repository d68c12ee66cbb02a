use Rattle.std.proofs.Common.{arith}
use Rattle.stack_code.specs.declared.instr.Instr.TheVariants as i
use Rattle.ac_translation.specs.Pieces.{one}
use Rattle.ac_translation.specs.Translation.{operand_code}
use Rattle.ac_translation.proofs.Sized.{one_sized, operand_sized}
use Rattle.ac_compile.proofs.Emissions.{grown_to, three_are}
use Rattle.ac_compile.proofs.emit.steps.emit_return.Goals as goal

pub emit_operand-requires : goal.emit_operand-requires
emit_operand-requires c =
    let n = grown_to (one i.Step) c.args.emitter.now c.put.new.self (one_sized i.Step) c.in_ok-put.ensures in
    omega (arith, n, c.requires)

pub returns : goal.returns
returns c =
    let x = c.args.value.now in
    three_are (one i.Step) (operand_code x) (one i.Ret) (one_sized i.Step)
    (operand_sized x) c.args.emitter.now c.put.new.self c.emit_operand.new.emitter c.put-2.new.self c.in_ok-put.ensures c.in_ok-emit_operand.ensures c.in_ok-put-2.ensures
