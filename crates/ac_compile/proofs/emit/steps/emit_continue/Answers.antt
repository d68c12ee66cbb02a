use Rattle.std.proofs.Common.{arith}
use Rattle.stack_code.specs.declared.instr.Instr.TheVariants as i
use Rattle.ac_translation.specs.Pieces.{one, out_turn}
use Rattle.ac_translation.proofs.Sized.{one_sized}
use Rattle.ac_compile.proofs.Emissions.{grown_to, two_are}
use Rattle.ac_compile.proofs.emit.steps.emit_continue.Goals as goal

pub put_turn-requires : goal.put_turn-requires
put_turn-requires c =
    let n = grown_to (one i.Step) c.args.emitter.now c.put.new.self (one_sized i.Step) c.in_ok-put.ensures in
    omega (arith, n, c.requires)

pub returns : goal.returns
returns c = two_are (one i.Step) out_turn (one_sized i.Step) c.args.emitter.now c.put.new.self c.put_turn.new.self c.in_ok-put.ensures c.in_ok-put_turn.ensures
