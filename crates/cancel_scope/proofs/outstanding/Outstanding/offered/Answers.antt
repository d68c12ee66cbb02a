use Rattle.std.proofs.Common.{sym, ap, ◌∙◌}
use Rattle.std.specs.Prelude.{option_copied}
use Rattle.cancel_scope.specs.Outstanding.{is_offered}
use Rattle.cancel_scope.proofs.Finding.{none_found, is_first}
use Rattle.cancel_scope.proofs.outstanding.Outstanding.offered.Goals as goal

pub returns-in_err-place : goal.returns-in_err-place
returns-in_err-place c = ap option_copied c.from_residual.ensures ∙ sym (none_found _ c.args.self.now.operations c.in_err-place.ensures)

pub returns : goal.returns
returns c =
    let first = is_first (is_offered c.args.link c.args.number) c.args.self.now.operations c.in_ok-place.place (sym c.in_ok-place.was ∙ c.first_offered.ensures) in
    sym (first.found ∙ c.get.ensures)
