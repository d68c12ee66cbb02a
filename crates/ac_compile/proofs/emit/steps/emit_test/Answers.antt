use Rattle.std.proofs.Common.{length, ap, ◌∙◌, arith}
use Rattle.stack_code.specs.declared.instr.Instr.TheVariants as i
use Rattle.ac_translation.specs.Pieces.{one}
use Rattle.ac_translation.specs.Translation.{value_code}
use Rattle.ac_compile.specs.inner.Emission.{Emitted, with_code}
use Rattle.ac_translation.proofs.Sized.{one_sized, value_sized}
use Rattle.ac_compile.proofs.Emissions.{grown_to, two_are}
use Rattle.ac_compile.proofs.emit.steps.emit_test.Goals as goal

pub emit_value-requires : goal.emit_value-requires
emit_value-requires c =
    let n = grown_to (one i.Step) c.args.emitter.now c.put.new.self (one_sized i.Step) c.in_ok-put.ensures in
    omega (arith, n, c.requires)

pub jump-requires : goal.jump-requires
jump-requires c =
    let x = c.args.test.now in
    let n = grown_to (one i.Step) c.args.emitter.now c.put.new.self (one_sized i.Step) c.in_ok-put.ensures in
    let m = grown_to (value_code x) c.put.new.self c.emit_value.new.emitter (value_sized x) c.in_ok-emit_value.ensures in
    omega (arith, n, m, c.requires)

pub returns-clause-jump : goal.returns-clause-jump
returns-clause-jump c =
    c.in_ok-jump.ensures.at
    ∙ ap (λ (d : Emitted). length d.instrs)
    (two_are (one i.Step) (value_code c.args.test.now) (one_sized i.Step) c.args.emitter.now c.put.new.self c.emit_value.new.emitter c.in_ok-put.ensures c.in_ok-emit_value.ensures)

pub returns-clause-code : goal.returns-clause-code
returns-clause-code c =
    c.in_ok-jump.ensures.code
    ∙ ap (with_code (one (i.Jz 0)))
    (two_are (one i.Step) (value_code c.args.test.now) (one_sized i.Step) c.args.emitter.now c.put.new.self c.emit_value.new.emitter c.in_ok-put.ensures c.in_ok-emit_value.ensures)
