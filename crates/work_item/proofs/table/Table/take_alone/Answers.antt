use Rattle.std.proofs.Common.{◌+◌, sym, ap, arith, w64, Fits, rules, None}
use Rattle.work_item.proofs.Sound.{words_within}
use Rattle.work_item.proofs.Stands.{none_is, alone_sound, gone_seen}
use Rattle.work_item.proofs.table.Table.take_alone.Goals as goal

pub overflow_add-self : goal.overflow_add-self
overflow_add-self c =
    let x = c.live_of-live.result.now in
    let fits : Fits w64 c.self.inside.words = search rules in
    omega (arith, words_within _ _ c.args.frame.number x c.self.invariant c.live_of-live.ensures, c.len.ensures, fits)

pub overflow_sub-self : goal.overflow_sub-self
overflow_sub-self c =
    let x = c.live_of-live.result.now in
    omega (arith, words_within _ _ c.args.frame.number x c.self.invariant c.live_of-live.ensures, c.len.ensures)

pub invariant_of-self : goal.invariant_of-self
invariant_of-self c =
    let x = c.live_of-live.result.now in
    alone_sound _ _ _ _ c.args.frame.number _ x c.self.invariant c.self.view_is c.live_of-live.ensures c.if-live-ne0.false (none_is x.parent (sym c.if-is_some.ensures))
    c.drop_frame.ensures (ap (λ k. k + 4) c.len.ensures)

pub returns-clause-gone : goal.returns-clause-gone
returns-clause-gone c = λ yes. gone_seen _ _ _ c.args.frame.number None c.self.view_is c.drop_frame.ensures

pub returns-clause-rooted : goal.returns-clause-rooted
returns-clause-rooted c =
    let x = c.live_of-live.result.now in
    λ yes.
    (alone_sound _ _ _ c.self.inside.words c.args.frame.number _ x c.self.invariant c.self.view_is c.live_of-live.ensures c.if-live-ne0.false (none_is x.parent (sym c.if-is_some.ensures))
    c.drop_frame.ensures (ap (λ k. k + 4) c.len.ensures)).rooted
