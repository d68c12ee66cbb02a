use Rattle.std.proofs.Common.{true, false, sym, ◌∙◌}
use Rattle.core_machine.proofs.Entered.{is_the_request}
use Rattle.core_machine.proofs.running.Running.know.Goals as goal

pub know_begun-requires-clause-request : goal.know_begun-requires-clause-request
know_begun-requires-clause-request c = is_the_request _ c.in-Some.operation.now true (sym c.in-Some.ensures) (sym c.is_request.ensures ∙ c.if-is_request.true)

pub know_ended-requires-clause-ends : goal.know_ended-requires-clause-ends
know_ended-requires-clause-ends c = is_the_request _ c.in-Some.operation.now false (sym c.in-Some.ensures) (sym c.is_request.ensures ∙ c.if-is_request.false)
