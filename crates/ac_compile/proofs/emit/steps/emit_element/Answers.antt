use Rattle.std.proofs.Common.{ap, ◌∙◌, arith}
use Rattle.stack_code.specs.declared.instr.Instr.TheVariants as i
use Rattle.ac_translation.specs.Pieces.{one}
use Rattle.ac_translation.specs.Translation.{array_code, value_code}
use Rattle.ac_compile.specs.inner.Emission.{with_code}
use Rattle.ac_translation.proofs.Sized.{one_sized, value_sized}
use Rattle.ac_compile.proofs.Emissions.{grown_to, three_are}
use Rattle.ac_compile.proofs.emit.steps.emit_element.Goals as goal

pub emit_value-requires : goal.emit_value-requires
emit_value-requires c =
    let n = grown_to (one c.array_code.result) c.args.emitter.now c.put.new.self (one_sized c.array_code.result) c.in_ok-put.ensures in
    omega (arith, n, c.requires)

pub returns : goal.returns
returns c =
    let e = c.args.emitter.now in
    three_are (one (array_code c.args.array)) (value_code c.args.index.now) (one i.SetElem) (one_sized (array_code c.args.array))
    (value_sized c.args.index.now) e c.put.new.self c.emit_value.new.emitter c.put-2.new.self
    (c.in_ok-put.ensures ∙ ap (λ k. with_code (one k) e) c.array_code.ensures) c.in_ok-emit_value.ensures c.in_ok-put-2.ensures
