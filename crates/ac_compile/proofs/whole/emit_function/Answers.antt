use Rattle.std.proofs.Common.{ap, ◌∙◌}
use Rattle.std.specs.Prelude.{pos}
use Rattle.stack_code.specs.declared.instr.Instr.TheVariants as i
use Rattle.ac_translation.specs.Pieces.{one}
use Rattle.ac_translation.specs.Translation.{body_code}
use Rattle.ac_compile.specs.inner.Emission.{with_code}
use Rattle.ac_translation.proofs.Sized.{one_sized, body_sized}
use Rattle.ac_compile.proofs.Emissions.{three_are}
use Rattle.ac_compile.proofs.whole.emit_function.Goals as goal

pub returns : goal.returns
returns c =
    let body = c.args.function.now.body in
    three_are (body_code body) (one (i.Push (pos 0))) (one i.Ret) (body_sized body) (one_sized (i.Push (pos 0))) c.args.emitter.now c.emit_body.new.emitter c.put.new.self c.put-2.new.self
    (c.in_ok-emit_body.ensures ∙ ap (λ b. with_code (body_code b) c.args.emitter.now) c.as_slice.ensures) c.in_ok-put.ensures c.in_ok-put-2.ensures
