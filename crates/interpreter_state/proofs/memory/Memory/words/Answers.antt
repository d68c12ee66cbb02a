use Rattle.std.proofs.Common.{ap, ◌∙◌}
use Rattle.work_item.specs.Store.{Store}
use Rattle.interpreter_state.proofs.Counted.{all_counted}
use Rattle.interpreter_state.proofs.memory.Memory.words.Goals as goal

pub returns : goal.returns
returns c =
    all_counted c.args.self.now c.deref-frame-items.result.now c.loop-frame.words c.loop-frame.frame-index
    (c.deref-frame-items.ensures.value ∙ ap (λ (s : Store). s.frames) c.self.view_is) c.loop-frame-test.false c.loop-frame.invariant.1 c.loop-frame.invariant.0
