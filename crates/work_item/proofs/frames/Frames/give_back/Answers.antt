use Rattle.std.proofs.Common.{refl, sym, ◌∙◌, subst}
use Rattle.work_item.specs.Table.{IsWhole}
use Rattle.work_item.specs.inner.Kept.{IsRooted}
use Rattle.work_item.proofs.Unwinding.{goes_alone, lives_before, is_released}
use Rattle.work_item.proofs.frames.Frames.give_back.Goals as goal

pub invariant_of-self : goal.invariant_of-self
invariant_of-self c =
    let n = c.args.frame.number in
    let lives = lives_before _ c.args.frame _ c.self.inside.table c.self.view_is c.requires in
    let alone = sym c.take_alone.ensures.alone ∙ c.if-take_alone.true in
    let gone = c.take_alone.ensures.gone c.if-take_alone.true in
    let ends = goes_alone c.self.inside.globals.items c.self.inside.table n c.self.invariant lives alone (subst IsRooted gone (c.take_alone.ensures.rooted c.if-take_alone.true)) in
    subst (IsWhole c.self.inside.globals.items) (sym gone) ends.whole

pub returns-then-take_alone : goal.returns-then-take_alone
returns-then-take_alone c =
    let n = c.args.frame.number in
    let lives = lives_before _ c.args.frame _ c.self.inside.table c.self.view_is c.requires in
    let alone = sym c.take_alone.ensures.alone ∙ c.if-take_alone.true in
    let gone = c.take_alone.ensures.gone c.if-take_alone.true in
    let ends = goes_alone c.self.inside.globals.items c.self.inside.table n c.self.invariant lives alone (subst IsRooted gone (c.take_alone.ensures.rooted c.if-take_alone.true)) in
    is_released c.args.self.now c.args.frame _ _ c.self.inside.table _ _ c.self.view_is refl refl (gone ∙ ends.is)
