use Rattle.std.proofs.Common.{◌≡◌, length, true, false}
use Rattle.std.proofs.lemmas.Result.{err_from_is_err_and}
use Rattle.ac_lexer.specs.declared.token.Mark.TheVariants as m
use Rattle.reading_laws.specs.Letters.{sign, starts_with}
use Rattle.ac_parser.specs.inner.ReadsItems.{next_param_at}
use Rattle.ac_expressions.proofs.RowLoop.{goes_on, ends, is_over, is_done}
use Rattle.ac_parser.proofs.items.more_params.Goals as goal

pub returns-then-not-is_mark : goal.returns-then-not-is_mark
returns-then-not-is_mark c =
    let h : starts_with (sign m.Comma) c.params.c.rest.now ≡ false = cc in
    is_over (starts_with (sign m.Comma)) next_param_at c.params.params (length c.args.c.now.rest.now) c.params.counter c.params.c.rest.now _ c.params-test.true h c.params.invariant

pub returns-in_err-next : goal.returns-in_err-next
returns-in_err-next c =
    let h : starts_with (sign m.Comma) c.params.c.rest.now ≡ true = cc in
    let p = err_from_is_err_and c.from_residual.result c.from_residual.ensures.1 in
    rw (p.1, p.2) (ends (starts_with (sign m.Comma)) next_param_at c.next_param.new.c.rest.now c.in_err-next.field-0.0 c.params.params
    (length c.args.c.now.rest.now) c.params.counter c.params.c.rest.now _ c.params-test.true h c.in_err-next.ensures c.params.invariant)

pub params-preserved : goal.params-preserved
params-preserved c =
    let h : starts_with (sign m.Comma) c.params.c.rest.now ≡ true = cc in
    rw c.in_ok-push.ensures.ok (goes_on (starts_with (sign m.Comma)) next_param_at c.params.params
    (length c.args.c.now.rest.now) c.params.counter c.params.c.rest.now c.in_ok-next.next c.next_param.new.c.rest.now _ c.params-test.true h c.in_ok-next.ensures c.params.invariant)

pub returns : goal.returns
returns c = is_done (starts_with (sign m.Comma)) next_param_at c.params.params (length c.args.c.now.rest.now) c.params.counter c.params.c.rest.now _ c.params-test.false c.params.invariant
