use Rattle.std.proofs.Common.{◌+◌, sym, ap, ◌∙◌, subst, arith, w64, Fits, rules}
use Rattle.work_item.specs.inner.Kept.{with_less, CanCountLess}
use Rattle.work_item.proofs.Sound.{words_within, can_less}
use Rattle.work_item.proofs.Stands.{gone_sound, gone_seen}
use Rattle.work_item.proofs.table.Table.take_away.Goals as goal

pub overflow_add-self : goal.overflow_add-self
overflow_add-self c =
    let x = c.live_of-live.result.now in
    let fits : Fits w64 c.self.inside.words = search rules in
    omega (arith, words_within _ _ c.args.frame.number x c.self.invariant c.live_of-live.ensures, c.len.ensures, fits)

pub overflow_sub-self : goal.overflow_sub-self
overflow_sub-self c =
    let x = c.live_of-live.result.now in
    omega (arith, words_within _ _ c.args.frame.number x c.self.invariant c.live_of-live.ensures, c.len.ensures)

pub count_out-requires : goal.count_out-requires
count_out-requires c =
    let x = c.live_of-live.result.now in
    subst (λ ls. CanCountLess ls x.parent) (sym c.drop_frame.ensures) (can_less _ _ c.args.frame.number x c.self.invariant c.live_of-live.ensures)

pub invariant_of-self : goal.invariant_of-self
invariant_of-self c =
    let x = c.live_of-live.result.now in
    let now = c.count_out.ensures ∙ ap (λ ls. with_less ls x.parent) c.drop_frame.ensures in
    gone_sound _ _ _ _ c.args.frame.number _ x c.self.invariant c.self.view_is c.live_of-live.ensures c.requires.childless now (ap (λ k. k + 4) c.len.ensures)

pub returns-clause-gone : goal.returns-clause-gone
returns-clause-gone c =
    let x = c.live_of-live.result.now in
    gone_seen _ _ _ c.args.frame.number x.parent c.self.view_is (c.count_out.ensures ∙ ap (λ ls. with_less ls x.parent) c.drop_frame.ensures)

pub returns-clause-rooted : goal.returns-clause-rooted
returns-clause-rooted c =
    let x = c.live_of-live.result.now in
    let now = c.count_out.ensures ∙ ap (λ ls. with_less ls x.parent) c.drop_frame.ensures in
    (gone_sound _ _ _ c.self.inside.words c.args.frame.number _ x c.self.invariant c.self.view_is c.live_of-live.ensures c.requires.childless now
    (ap (λ k. k + 4) c.len.ensures)).rooted
