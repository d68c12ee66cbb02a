use Rattle.std.proofs.Common.{◌+◌, ◌<◌, ◌^◌, sym, subst}
use Rattle.work_item.specs.Store.{live_words}
use Rattle.work_item.proofs.Whole.{whole_filled}
use Rattle.work_item.proofs.frames.Frames.make_of.Goals as goal

pub invariant_of-self : goal.invariant_of-self
invariant_of-self c =
    whole_filled _ _ _ c.args.parent c.args.first.now c.args.words c.push.result c.self.invariant c.push.ensures.ok c.push.ensures.err c.requires.first
    (subst (λ s. live_words s + (c.args.words + 4) < 2 ^ 64) (sym c.self.view_is) c.requires.words)
