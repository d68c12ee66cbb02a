use Rattle.std.proofs.Common.{◌+◌, rules, refl, ap, ◌∙◌, arith}
use Rattle.std.specs.Prelude.{pos}
use Rattle.ac_commands.specs.declared.value.Value.TheViews.{the_lemmas}
use Rattle.stack_code.specs.declared.instr.Instr.TheVariants as i
use Rattle.ac_translation.specs.Translation.{value_code, values_code}
use Rattle.ac_translation.specs.Pieces.{one}
use Rattle.ac_translation.proofs.Sized.{one_sized, value_sized}
use Rattle.ac_compile.proofs.Forms.{element_form, part_form}
use Rattle.ac_compile.proofs.Emissions.{done, turn, rest_room, grown_to}
use Rattle.ac_compile.proofs.ValueForms.{indexed_room, indexed_emitted, act_few, act_emitted, unary_emitted, chain_room, chain_emitted, links_code, one_link}
use Rattle.ac_compile.proofs.ValueForms.{first_link, one_link_sized, joined_emitted, part_far, part_emitted, lazily_far, lazily_emitted}
use Rattle.ac_compile.proofs.emit.values.+value.Goals as goal

-- ---- values

pub emit_value-returns-in_ok-put-in-Unary : goal.emit_value-returns-in_ok-put-in-Unary
emit_value-returns-in_ok-put-in-Unary t c =
    unary_emitted c.args.value.now c.get-in-Unary.result.now c.in-Unary.operand c.in-Unary.op c.unary_code.result c.args.emitter.now c.emit_value-in-Unary.new.emitter c.put-in-Unary.new.self
    c.in-Unary.is c.get-in-Unary.ensures
    c.unary_code.ensures c.in_ok-emit_value-in-Unary.ensures c.in_ok-put-in-Unary.ensures

pub emit_value-emit_value-requires : goal.emit_value-emit_value-requires
emit_value-emit_value-requires t c = (
  search (rules, the_lemmas),
  indexed_room c.args.value.now c.get.result.now c.in-Element.index c.in-Element.array i.Elem c.args.emitter.now (ap value_code c.in-Element.is ∙ element_form c.in-Element.array c.in-Element.index)
      c.get.ensures c.array_code-in-Element.result c.put-in-Element.new.self c.in_ok-put-in-Element.ensures c.requires,
)

pub emit_value-emit_value-requires-in-Part : goal.emit_value-emit_value-requires-in-Part
emit_value-emit_value-requires-in-Part t c = (
  search (rules, the_lemmas),
  indexed_room c.args.value.now c.get-in-Part.result.now c.in-Part.index c.in-Part.array i.Place c.args.emitter.now (ap value_code c.in-Part.is ∙ part_form c.in-Part.array c.in-Part.index)
      c.get-in-Part.ensures c.array_code-in-Part.result c.put-in-Part.new.self c.in_ok-put-in-Part.ensures c.requires,
)

pub emit_value-emit_links-requires : goal.emit_value-emit_links-requires
emit_value-emit_links-requires t c = (
  search (rules, the_lemmas),
  chain_room c.args.value.now c.get-in-Chain.result.now c.in-Chain.first c.as_slice.result.now c.in-Chain.rest c.args.emitter.now c.in-Chain.is c.get-in-Chain.ensures c.as_slice.ensures
      c.emit_value-in-Chain.new.emitter
      c.in_ok-emit_value-in-Chain.ensures c.requires,
)

pub emit_value-overflow_cast-count : goal.emit_value-overflow_cast-count
emit_value-overflow_cast-count t c =
    let few = act_few c.args.value.now c.in-Act.action c.in-Act.operands c.args.emitter.now c.in-Act.is c.len-count.result c.len-count.ensures c.requires in
    omega (arith, few)

pub emit_value-returns-in_ok-put-in-Element-2 : goal.emit_value-returns-in_ok-put-in-Element-2
emit_value-returns-in_ok-put-in-Element-2 t c =
    indexed_emitted c.args.value.now c.get.result.now c.in-Element.index c.in-Element.array i.Elem c.args.emitter.now
    (ap value_code c.in-Element.is ∙ element_form c.in-Element.array c.in-Element.index)
    c.get.ensures c.array_code-in-Element.result c.put-in-Element.new.self c.emit_value.new.emitter
    c.put-in-Element-2.new.self c.array_code-in-Element.ensures c.in_ok-put-in-Element.ensures c.in_ok-emit_value-in-Element.ensures c.in_ok-put-in-Element-2.ensures

pub emit_value-returns-in_ok-put-in-Part-2 : goal.emit_value-returns-in_ok-put-in-Part-2
emit_value-returns-in_ok-put-in-Part-2 t c =
    indexed_emitted c.args.value.now c.get-in-Part.result.now c.in-Part.index c.in-Part.array i.Place c.args.emitter.now (ap value_code c.in-Part.is ∙ part_form c.in-Part.array c.in-Part.index)
    c.get-in-Part.ensures c.array_code-in-Part.result c.put-in-Part.new.self c.emit_value-in-Part.new.emitter
    c.put-in-Part-2.new.self c.array_code-in-Part.ensures c.in_ok-put-in-Part.ensures c.in_ok-emit_value-in-Part.ensures c.in_ok-put-in-Part-2.ensures

pub emit_value-returns-in_ok-emit_links-in-Chain : goal.emit_value-returns-in_ok-emit_links-in-Chain
emit_value-returns-in_ok-emit_links-in-Chain t c =
    chain_emitted c.args.value.now c.get-in-Chain.result.now c.in-Chain.first c.as_slice.result.now c.in-Chain.rest c.args.emitter.now c.in-Chain.is c.get-in-Chain.ensures c.as_slice.ensures
    c.emit_value-in-Chain.new.emitter
    c.emit_links.new.emitter c.in_ok-emit_value-in-Chain.ensures c.in_ok-emit_links-in-Chain.ensures

pub emit_value-returns-in_ok-put-in-Act : goal.emit_value-returns-in_ok-put-in-Act
emit_value-returns-in_ok-put-in-Act t c =
    act_emitted c.args.value.now c.in-Act.action c.in-Act.operands c.args.emitter.now c.in-Act.is c.as_slice-in-Act.result.now c.as_slice-in-Act.ensures c.len-count.result c.action_code.result
    c.emit_values.new.emitter c.put-in-Act.new.self c.len-count.ensures c.action_code.ensures c.in_ok-emit_values-in-Act.ensures c.in_ok-put-in-Act.ensures

-- ---- links

pub emit_links-loop-link-preserved : goal.emit_links-loop-link-preserved
emit_links-loop-link-preserved t c =
    let old = c.loop-link.emitter in
    let new = c.emit_joined.new.emitter in
    let links = c.args.links.now in
    let l = c.link-item.result in
    record {
      code = turn links_code one_link first_link refl one_link_sized links c.loop-link.link-index l old c.loop-link-test.true c.link-item.is new _ c.in_ok-emit_joined.ensures
          c.loop-link.invariant.code;
      room = rest_room links_code one_link first_link refl one_link_sized links c.loop-link.link-index l old c.loop-link-test.true c.link-item.is new c.in_ok-emit_joined.ensures
          c.loop-link.invariant.room;
    }

pub emit_links-returns : goal.emit_links-returns
emit_links-returns t c = done links_code one_link first_link refl one_link_sized c.args.links.now c.loop-link.link-index c.loop-link.emitter _ c.loop-link-test.false c.loop-link.invariant.code

pub emit_joined-returns-in_ok-put-in_default : goal.emit_joined-returns-in_ok-put-in_default
emit_joined-returns-in_ok-put-in_default t c =
    joined_emitted c.args.op c.args.right.now c.operator_code.result c.args.emitter.now c.emit_value.new.emitter c.put.new.self c.in_default.not-Or c.in_default.not-And c.operator_code.ensures
    c.in_ok-emit_value-in_default.ensures c.in_ok-put-in_default.ensures

-- ---- values

pub emit_values-loop-value-preserved : goal.emit_values-loop-value-preserved
emit_values-loop-value-preserved t c =
    let old = c.loop-value.emitter in
    let new = c.emit_value.new.emitter in
    let x = c.value-item.result in
    record {
      code = turn values_code value_code (λ x xs. refl) refl value_sized c.args.values.now c.loop-value.value-index x old c.loop-value-test.true c.value-item.is new _ c.in_ok-emit_value.ensures
          c.loop-value.invariant.code;
      room = rest_room values_code value_code (λ x xs. refl) refl value_sized c.args.values.now c.loop-value.value-index x old c.loop-value-test.true c.value-item.is new c.in_ok-emit_value.ensures
          c.loop-value.invariant.room;
    }

pub emit_values-returns : goal.emit_values-returns
emit_values-returns t c =
    done values_code value_code (λ x xs. refl) refl value_sized c.args.values.now c.loop-value.value-index c.loop-value.emitter _ c.loop-value-test.false c.loop-value.invariant.code

-- ---- the right side

pub emit_right-len-to-requires : goal.emit_right-len-to-requires
emit_right-len-to-requires t c =
    let n = part_far (value_code c.args.right.now) (value_sized c.args.right.now) c.args.emitter.now c.emit_value.new.emitter c.put.new.self c.in_ok-emit_value.ensures c.in_ok-put.ensures in
    omega (arith, n, c.requires)

pub emit_right-overflow_add-to : goal.emit_right-overflow_add-to
emit_right-overflow_add-to t c =
    let n = part_far (value_code c.args.right.now) (value_sized c.args.right.now) c.args.emitter.now c.emit_value.new.emitter c.put.new.self c.in_ok-emit_value.ensures c.in_ok-put.ensures in
    omega (arith, n, c.requires, c.len-to.ensures)

pub emit_right-returns : goal.emit_right-returns
emit_right-returns t c =
    part_emitted (value_code c.args.right.now) (value_sized c.args.right.now) c.args.emitter.now c.emit_value.new.emitter c.put.new.self c.put-2.new.self c.len-to.result
    (c.len-to.result + 2) c.in_ok-emit_value.ensures
    c.in_ok-put.ensures c.len-to.ensures refl c.in_ok-put-2.ensures

-- ---- `||`

pub emit_or-emit_right-requires : goal.emit_or-emit_right-requires
emit_or-emit_right-requires t c = (
  search (rules, the_lemmas),
  let n = grown_to (one (i.Jnz 0)) c.args.emitter.now c.jump.new.self (one_sized (i.Jnz 0)) c.in_ok-jump.ensures.code in
      omega (arith, n, c.requires),
)

pub emit_or-len-to-requires : goal.emit_or-len-to-requires
emit_or-len-to-requires t c =
    let n = lazily_far (i.Jnz 0) (value_code c.args.right.now) (value_sized c.args.right.now) c.args.emitter.now c.jump.new.self c.emit_right.new.emitter c.in_ok-jump.ensures.code
    c.in_ok-emit_right.ensures in
    omega (arith, n, c.requires)

pub emit_or-set-requires : goal.emit_or-set-requires
emit_or-set-requires t c =
    let n = lazily_far (i.Jnz 0) (value_code c.args.right.now) (value_sized c.args.right.now) c.args.emitter.now c.jump.new.self c.emit_right.new.emitter c.in_ok-jump.ensures.code
    c.in_ok-emit_right.ensures in
    omega (arith, n, c.in_ok-jump.ensures.at)

pub emit_or-returns : goal.emit_or-returns
emit_or-returns t c =
    lazily_emitted (i.Jnz 0) (value_code c.args.right.now) (value_sized c.args.right.now) c.args.emitter.now c.jump.new.self c.emit_right.new.emitter c.in_ok-jump.ensures.code
    c.in_ok-emit_right.ensures i.Jnz (i.Push (pos 1))
    c.set.new.self c.put.new.self c.in_ok-jump.jump c.len-to.result c.in_ok-jump.ensures.at c.len-to.ensures c.set.ensures c.in_ok-put.ensures

-- ---- `&&`

pub emit_and-emit_right-requires : goal.emit_and-emit_right-requires
emit_and-emit_right-requires t c = (
  search (rules, the_lemmas),
  let n = grown_to (one (i.Jz 0)) c.args.emitter.now c.jump.new.self (one_sized (i.Jz 0)) c.in_ok-jump.ensures.code in
      omega (arith, n, c.requires),
)

pub emit_and-len-to-requires : goal.emit_and-len-to-requires
emit_and-len-to-requires t c =
    let n = lazily_far (i.Jz 0) (value_code c.args.right.now) (value_sized c.args.right.now) c.args.emitter.now c.jump.new.self c.emit_right.new.emitter c.in_ok-jump.ensures.code
    c.in_ok-emit_right.ensures in
    omega (arith, n, c.requires)

pub emit_and-set-requires : goal.emit_and-set-requires
emit_and-set-requires t c =
    let n = lazily_far (i.Jz 0) (value_code c.args.right.now) (value_sized c.args.right.now) c.args.emitter.now c.jump.new.self c.emit_right.new.emitter c.in_ok-jump.ensures.code
    c.in_ok-emit_right.ensures in
    omega (arith, n, c.in_ok-jump.ensures.at)

pub emit_and-returns : goal.emit_and-returns
emit_and-returns t c =
    lazily_emitted (i.Jz 0) (value_code c.args.right.now) (value_sized c.args.right.now) c.args.emitter.now c.jump.new.self c.emit_right.new.emitter c.in_ok-jump.ensures.code
    c.in_ok-emit_right.ensures i.Jz (i.Push (pos 0))
    c.set.new.self c.put.new.self c.in_ok-jump.jump c.len-to.result c.in_ok-jump.ensures.at c.len-to.ensures c.set.ensures c.in_ok-put.ensures
