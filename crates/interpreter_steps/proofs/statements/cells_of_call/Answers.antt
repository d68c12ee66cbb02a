use Rattle.std.proofs.Common.{ap, sym, ◌∙◌, ◌-◌, ◌++◌, length, take, replicate, vec_len, arith}
use Rattle.work_item.specs.Store.{no_int}
use Rattle.interpreter_steps.proofs.Calling.{filled}
use Rattle.interpreter_steps.proofs.statements.cells_of_call.Goals as goal

pub returns : goal.returns
returns c =
    let n = length c.as_slice.result.now in
    filled c.args.params.now c.args.operands.now c.loop-index.cells.items c.resize.new.self.items c.args.slots c.loop-index.index n c.max-count.result c.loop-index.invariant
    (omega (arith, c.loop-index-test.false, c.min-count.ensures)) (sym (ap length c.as_slice.ensures.value)) c.max-count.ensures
    (c.in_ok-resize.ensures.items
    ∙ ap (λ x. take c.max-count.result c.loop-index.cells.items ++ replicate (c.max-count.result - vec_len c.loop-index.cells) x) c.int.ensures
    ∙ ap (λ k. take c.max-count.result c.loop-index.cells.items ++ replicate (c.max-count.result - k) no_int) (sym c.as_slice.ensures.len))
