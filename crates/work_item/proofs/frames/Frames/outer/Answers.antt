use Rattle.std.proofs.Common.{◌-◌, sym, ap, ◌∙◌, subst, arith}
use Rattle.work_item.specs.Store.{frame_at, parent_or}
use Rattle.work_item.specs.Conditions.{Lives}
use Rattle.work_item.proofs.Levels.{lives_here, goes_up, at_top}
use Rattle.work_item.proofs.frames.Frames.outer.Goals as goal

pub parent_or_self-current-requires : goal.parent_or_self-current-requires
parent_or_self-current-requires c =
    subst (λ s. Lives s c.loop.current) (sym c.self.view_is) (lives_here c.args.self.now c.loop.current (c.args.level - c.loop.counter) c.loop.invariant.0)

pub loop-preserved : goal.loop-preserved
loop-preserved c =
    goes_up c.args.self.now c.loop.current c.parent_or_self-current.result c.args.frame c.args.level c.loop.counter c.loop-test.true c.loop.invariant.0 c.loop.invariant.1
    (c.parent_or_self-current.ensures ∙ ap (λ s. parent_or c.loop.current (frame_at s c.loop.current)) c.self.view_is)

pub returns : goal.returns
returns c =
    at_top c.args.self.now c.loop.current c.args.frame c.args.level c.loop.counter (omega arith) c.loop.invariant.1
