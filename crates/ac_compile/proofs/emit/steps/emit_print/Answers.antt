use Rattle.std.proofs.Common.{List, length, ap, ◌∙◌, arith}
use Rattle.ac_commands.specs.declared.value.Value.{Value}
use Rattle.stack_code.specs.declared.instr.Instr.TheVariants as i
use Rattle.ac_translation.specs.Pieces.{one}
use Rattle.ac_translation.specs.Translation.{values_code}
use Rattle.ac_compile.specs.inner.Emission.{with_code}
use Rattle.ac_translation.proofs.Sized.{one_sized, values_sized}
use Rattle.ac_compile.proofs.Counts.{few_values}
use Rattle.ac_compile.proofs.Emissions.{grown_to, three_are}
use Rattle.ac_compile.proofs.emit.steps.emit_print.Goals as goal

pub overflow_cast-count : goal.overflow_cast-count
overflow_cast-count c = let few = few_values c.args.args.now in omega (arith, few, c.requires, c.len-count.ensures)

pub emit_values-requires : goal.emit_values-requires
emit_values-requires c =
    let n = grown_to (one i.Step) c.args.emitter.now c.put.new.self (one_sized i.Step) c.in_ok-put.ensures in
    let m = ap (λ (xs : List Value). (values_code xs).size) c.as_slice.ensures in
    omega (arith, n, m, c.requires)

pub returns : goal.returns
returns c =
    let xs = c.args.args.now in
    let d1 = c.put.new.self in
    let d2 = c.emit_values.new.emitter in
    three_are (one i.Step) (values_code xs) (one (i.Print c.args.text (length xs))) (one_sized i.Step) (values_sized xs) c.args.emitter.now d1 d2 c.put-2.new.self c.in_ok-put.ensures
    (c.in_ok-emit_values.ensures ∙ ap (λ (ys : List Value). with_code (values_code ys) d1) c.as_slice.ensures)
    (c.in_ok-put-2.ensures ∙ ap (λ n. with_code (one (i.Print c.args.text n)) d2) c.len-count.ensures)
