use Rattle.std.proofs.Common.{sym, ◌∙◌}
use Rattle.core_machine.proofs.Decided.{none_tried, one_tried, still_on}
use Rattle.core_machine.proofs.running.Running.tried.Goals as goal

pub returns-in_err-place : goal.returns-in_err-place
returns-in_err-place c =
    let m = c.args.self.now in
    let still = still_on m.ended (sym c.is_some.ensures ∙ c.if-is_some.false) in
    c.from_residual-in_err-place.ensures
    ∙ sym (none_tried m still c.in_ok-block.block (sym c.cancels.ensures ∙ c.in_ok-block.was) (sym c.oldest_within.ensures ∙ c.in_err-place.was))

pub returns : goal.returns
returns c =
    let m = c.args.self.now in
    let still = still_on m.ended (sym c.is_some.ensures ∙ c.if-is_some.false) in
    c.tried_in.ensures
    ∙ sym (one_tried m still c.in_ok-block.block (sym c.cancels.ensures ∙ c.in_ok-block.was) c.in_ok-place.place c.get.result.now (sym c.oldest_within.ensures ∙ c.in_ok-place.was) c.get.ensures)
