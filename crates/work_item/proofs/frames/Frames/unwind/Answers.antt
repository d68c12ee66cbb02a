use Rattle.std.proofs.Common.{refl, sym, ◌∙◌, subst}
use Rattle.work_item.specs.Table.{IsWhole}
use Rattle.work_item.proofs.Unwinding.{Unwinds, begins, goes_on, older, ends_there, ends_above, same_at_start, lives_before, is_released}
use Rattle.work_item.proofs.frames.Frames.unwind.Goals as goal

pub loop-current-init : goal.loop-current-init
loop-current-init c =
    let lives = lives_before _ c.args.frame _ c.self.inside.table c.self.view_is c.requires in
    (begins c.self.inside.table c.end.new.self c.args.frame.number c.self.invariant.settled lives c.end.ensures.ended c.end.ensures.rooted, refl)

pub loop-current-smaller : goal.loop-current-smaller
loop-current-smaller c =
    older _ _ c.loop-current.current.number c.in-Some.parent c.loop-current.invariant.0 (sym c.take_away.ensures.parent ∙ c.in-Some.is)

pub loop-current-preserved : goal.loop-current-preserved
loop-current-preserved c =
    let done = sym c.is_done.ensures ∙ c.loop-current-test.true in
    let next = goes_on _ _ c.loop-current.current.number c.in-Some.parent c.loop-current.invariant.0 done (sym c.take_away.ensures.parent ∙ c.in-Some.is) in
    (subst (λ t. Unwinds c.end.new.self t c.in-Some.parent.number) (sym c.take_away.ensures.gone) next, c.loop-current.invariant.1)

pub invariant_of-self : goal.invariant_of-self
invariant_of-self c =
    let lives = lives_before _ c.args.frame _ c.self.inside.table c.self.view_is c.requires in
    let same = same_at_start c.self.inside.table c.end.new.self c.args.frame.number lives c.end.ensures.ended in
    let done = sym c.is_done.ensures ∙ c.loop-current-test.false in
    let ends = ends_there _ c.self.inside.table c.end.new.self _ c.loop-current.current.number c.self.invariant same c.loop-current.invariant.0 done in
    subst (λ g. IsWhole g c.loop-current.self-inside.table) (sym c.loop-current.invariant.1) ends.whole

pub returns : goal.returns
returns c =
    let lives = lives_before _ c.args.frame _ c.self.inside.table c.self.view_is c.requires in
    let same = same_at_start c.self.inside.table c.end.new.self c.args.frame.number lives c.end.ensures.ended in
    let done = sym c.is_done.ensures ∙ c.loop-current-test.false in
    let ends = ends_there _ c.self.inside.table c.end.new.self _ c.loop-current.current.number c.self.invariant same c.loop-current.invariant.0 done in
    is_released c.args.self.now c.args.frame _ _ c.self.inside.table c.end.new.self _ c.self.view_is c.loop-current.invariant.1 c.end.ensures.ended ends.is

pub invariant_of-self-in-None : goal.invariant_of-self-in-None
invariant_of-self-in-None c =
    let lives = lives_before _ c.args.frame _ c.self.inside.table c.self.view_is c.requires in
    let same = same_at_start c.self.inside.table c.end.new.self c.args.frame.number lives c.end.ensures.ended in
    let done = sym c.is_done.ensures ∙ c.loop-current-test.true in
    let up = sym c.take_away.ensures.parent ∙ c.in-None.is in
    let ends = ends_above _ c.self.inside.table c.end.new.self _ c.loop-current.current.number c.self.invariant same c.loop-current.invariant.0 done up in
    subst (λ g. IsWhole g c.take_away.new.self) (sym c.loop-current.invariant.1) (subst (IsWhole c.self.inside.globals.items) (sym c.take_away.ensures.gone) ends.whole)

pub returns-in-None : goal.returns-in-None
returns-in-None c =
    let lives = lives_before _ c.args.frame _ c.self.inside.table c.self.view_is c.requires in
    let same = same_at_start c.self.inside.table c.end.new.self c.args.frame.number lives c.end.ensures.ended in
    let done = sym c.is_done.ensures ∙ c.loop-current-test.true in
    let up = sym c.take_away.ensures.parent ∙ c.in-None.is in
    let ends = ends_above _ c.self.inside.table c.end.new.self _ c.loop-current.current.number c.self.invariant same c.loop-current.invariant.0 done up in
    is_released c.args.self.now c.args.frame _ _ c.self.inside.table c.end.new.self _ c.self.view_is c.loop-current.invariant.1 c.end.ensures.ended (c.take_away.ensures.gone ∙ ends.is)
