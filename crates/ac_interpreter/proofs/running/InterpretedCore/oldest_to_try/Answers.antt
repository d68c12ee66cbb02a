use Rattle.std.proofs.Common.{◌≡◌, ap, sym, ◌∙◌}
use Rattle.std.specs.Prelude.{position}
use Rattle.core_state.specs.Cancelling.{is_to_try}
use Rattle.ac_semantics.specs.Threads.{is_inside}
use Rattle.ac_interpreter.proofs.Searching.{found_now, none_more}
use Rattle.ac_interpreter.proofs.running.InterpretedCore.oldest_to_try.Goals as goal

pub returns-then-branch : goal.returns-then-branch
returns-then-branch c =
    let test = is_to_try (is_inside c.args.self.now.threads c.args.block) in
    let o = c.index-operations-index.result in
    let tried : c.in_ok-is_to_try.field-0 ≡ test o = c.in_ok-is_to_try.ensures in
    found_now test c.as_slice-operations.result.now c.loop-index.index c.loop-index.invariant o c.loop-index-test.true c.index-operations-index.is (sym tried ∙ c.if-branch.true)
    ∙ ap (position test) c.as_slice-operations.ensures.value

pub returns : goal.returns
returns c =
    let test = is_to_try (is_inside c.args.self.now.threads c.args.block) in
    none_more test c.as_slice-operations.result.now c.loop-index.index c.loop-index.invariant c.loop-index-test.false ∙ ap (position test) c.as_slice-operations.ensures.value
