use Rattle.std.proofs.Common.{sym, ◌∙◌}
use Rattle.cancel_scope.specs.Outstanding.{is_begun}
use Rattle.cancel_scope.proofs.Finding.{none_found, none_without, is_first}
use Rattle.cancel_scope.proofs.outstanding.Outstanding.end_begun.Goals as goal

pub returns-in_err-place-clause-result : goal.returns-in_err-place-clause-result
returns-in_err-place-clause-result c =
    c.from_residual.ensures ∙ sym (none_found _ c.args.self.now.operations c.in_err-place.ensures)

pub returns-in_err-place-clause-operations : goal.returns-in_err-place-clause-operations
returns-in_err-place-clause-operations c =
    let ops = c.args.self.now.operations in
    sym (none_without _ ops (none_found _ ops c.in_err-place.ensures))

pub returns-clause-result : goal.returns-clause-result
returns-clause-result c =
    let test = is_begun c.args.link c.args.number in
    let first = is_first test c.args.self.now.operations c.in_ok-place.place (sym c.in_ok-place.was ∙ c.first_begun.ensures) in
    sym (first.found ∙ c.end_at.ensures.result)

pub returns-clause-operations : goal.returns-clause-operations
returns-clause-operations c =
    let test = is_begun c.args.link c.args.number in
    let first = is_first test c.args.self.now.operations c.in_ok-place.place (sym c.in_ok-place.was ∙ c.first_begun.ensures) in
    c.end_at.ensures.operations ∙ sym first.without
