use Rattle.std.proofs.Common.{false, ap, sym, ◌∙◌}
use Rattle.std.specs.Prelude.{slice_set}
use Rattle.code_meaning.specs.Machine.{counted}
use Rattle.core_machine.specs.declared.running.Running.{Running}
use Rattle.core_machine.specs.inner.Changes.{item_of}
use Rattle.core_machine.proofs.Does.{after_end, ends, childless_at_end}
use Rattle.core_machine.proofs.running.Running.end_thread.Goals as goal

pub leave-requires-clause-childless : goal.leave-requires-clause-childless
leave-requires-clause-childless c =
    childless_at_end c.args.self.now c.requires.running c.item-item.result c.item-item.ensures c.requires.can.has c.innermost-block.result c.innermost-block.ensures c.requires.can.childless

pub returns-clause-does : goal.returns-clause-does
returns-clause-does c =
    let m = c.args.self.now in
    let between = c.count_one.ensures
    ∙ ap (λ (y : Running). record y { count = counted y.count }) c.leave.ensures
    ∙ ap (λ s. record (after_end m c.requires.running c.item-item.result c.item-item.ensures c.requires.can.has c.innermost-block.result c.innermost-block.ensures)
    { frames = s }) c.give_back.ensures in
    ends m c.requires.running c.item-item.result c.item-item.ensures c.requires.can.has c.innermost-block.result c.innermost-block.ensures
    c.count_one.new.self c.bury.new.self
    between c.bury.ensures.ended c.bury.ensures.flat

pub returns-clause-places : goal.returns-clause-places
returns-clause-places c e =
    let m = c.args.self.now in
    let between = c.count_one.ensures ∙ ap (λ (y : Running). record y { count = counted y.count }) c.leave.ensures in
    c.bury.ensures.lives ∙ ap (λ (y : Running). slice_set y.threads.lives c.item-item.result.number false) between
    ∙ ap (λ o. slice_set m.threads.lives (item_of o).number false) (sym c.item-item.ensures)
