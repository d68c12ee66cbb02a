use Rattle.std.proofs.Common.{◌∙◌, ap, sym, Some}
use Rattle.stack_code.proofs.Rounds.{held_is, here_reached, here_unfit, here_turned}
use Rattle.stack_code.proofs.work.Work.turn.Goals as goal

pub follow-requires-clause-reached : goal.follow-requires-clause-reached
follow-requires-clause-reached c =
    let w = c.args.self.now in
    let h = held_is c.args.code.now w.table.items w.found.items w.next c.index-at.result.now c.in_ok-shape.shape c.requires.work c.requires.more c.index-at.ensures c.index.result.now c.index.ensures
    (c.in-Some.is ∙ ap Some (sym c.in_ok-shape.ensures)) in
    here_reached c.args.code.now w.table.items w.found.items w.next c.index-at.result.now c.in_ok-shape.shape c.requires.work c.requires.more c.index-at.ensures c.in-Some-instr.instr
    c.in_ok-leads.field-0 c.in-Some-2.to h (sym c.in-Some-instr.ensures) c.in_ok-leads.ensures c.in-Some-2.is

pub returns-in-None-clause-turned : goal.returns-in-None-clause-turned
returns-in-None-clause-turned c =
    let w = c.args.self.now in
    let h = held_is c.args.code.now w.table.items w.found.items w.next c.index-at.result.now c.in_ok-shape.shape c.requires.work c.requires.more c.index-at.ensures c.index.result.now c.index.ensures
    (c.in-Some.is ∙ ap Some (sym c.in_ok-shape.ensures)) in
    here_unfit c.args.code.now w.table.items w.found.items w.next c.index-at.result.now c.in_ok-shape.shape c.requires.work c.requires.more c.index-at.ensures c.in-Some-instr.instr
    c.in_ok-leads.field-0 h (sym c.in-Some-instr.ensures) c.in_ok-leads.ensures c.in-None.is

pub returns-in-Some-2-clause-turned : goal.returns-in-Some-2-clause-turned
returns-in-Some-2-clause-turned c =
    let w = c.args.self.now in
    let h = held_is c.args.code.now w.table.items w.found.items w.next c.index-at.result.now c.in_ok-shape.shape c.requires.work c.requires.more c.index-at.ensures c.index.result.now c.index.ensures
    (c.in-Some.is ∙ ap Some (sym c.in_ok-shape.ensures)) in
    here_turned c.args.code.now w.table.items w.found.items w.next c.index-at.result.now c.in_ok-shape.shape c.requires.work c.requires.more c.index-at.ensures c.in-Some-instr.instr
    c.in_ok-leads.field-0 c.in-Some-2.to h (sym c.in-Some-instr.ensures) c.in_ok-leads.ensures c.in-Some-2.is _ _ c.follow.result c.follow.ensures.followed
