use Rattle.std.proofs.Common.{◌≡◌, length, true, false, refl}
use Rattle.std.proofs.lemmas.Result.{err_from_is_err_and}
use Rattle.ac_lexer.specs.declared.token.Mark.TheVariants as m
use Rattle.reading_laws.specs.Letters.{sign, has_other}
use Rattle.ac_parser.specs.declared.forms.Opening.TheVariants as f
use Rattle.ac_parser.specs.inner.ReadsStatements.{opening_of, entry_at, stmt_at}
use Rattle.ac_expressions.proofs.RowLoop.{goes_on, ends, is_over, is_done}
use Rattle.ac_parser.proofs.Turns.{as_statement}
use Rattle.ac_parser.proofs.statements.+stmt.Goals as goal

pub entries-returns-then-not-is_other : goal.entries-returns-then-not-is_other
entries-returns-then-not-is_other t c =
    let h : has_other (sign m.CloseBrace) c.body.c.rest.now ≡ false = cc in
    is_over (has_other (sign m.CloseBrace)) (entry_at (stmt_at c.args.room) c.args.room) c.body.body
    (length c.args.c.now.rest.now) c.body.counter c.body.c.rest.now _ c.body-test.true h c.body.invariant

pub entries-returns-in_err-next : goal.entries-returns-in_err-next
entries-returns-in_err-next t c =
    let h : has_other (sign m.CloseBrace) c.body.c.rest.now ≡ true = cc in
    let p = err_from_is_err_and c.from_residual.result c.from_residual.ensures.1 in
    rw (p.1, p.2) (ends (has_other (sign m.CloseBrace)) (entry_at (stmt_at c.args.room) c.args.room) c.entry.new.c.rest.now c.in_err-next.field-0.0 c.body.body
    (length c.args.c.now.rest.now) c.body.counter c.body.c.rest.now _ c.body-test.true h c.in_err-next.ensures c.body.invariant)

pub entries-body-preserved : goal.entries-body-preserved
entries-body-preserved t c =
    let h : has_other (sign m.CloseBrace) c.body.c.rest.now ≡ true = cc in
    rw c.in_ok-push.ensures.ok (goes_on (has_other (sign m.CloseBrace)) (entry_at (stmt_at c.args.room) c.args.room) c.body.body
    (length c.args.c.now.rest.now) c.body.counter c.body.c.rest.now c.in_ok-next.next c.entry.new.c.rest.now _ c.body-test.true h c.in_ok-next.ensures c.body.invariant)

pub entries-returns : goal.entries-returns
entries-returns t c = is_done (has_other (sign m.CloseBrace)) (entry_at (stmt_at c.args.room) c.args.room) c.body.body
    (length c.args.c.now.rest.now) c.body.counter c.body.c.rest.now _ c.body-test.false c.body.invariant

pub form-returns-in-Block : goal.form-returns-in-Block
form-returns-in-Block t c =
    let h : opening_of c.args.c.now.rest.now ≡ f.Block = cc in
    rw (as_statement c.args.room f.Block c.args.c.now.rest.now h) c.block_stmt.ensures

pub form-returns-in-Empty : goal.form-returns-in-Empty
form-returns-in-Empty t c =
    let h : opening_of c.args.c.now.rest.now ≡ f.Empty = cc in
    rw (as_statement c.args.room f.Empty c.args.c.now.rest.now h) c.empty.ensures

pub form-returns-in-Name : goal.form-returns-in-Name
form-returns-in-Name t c =
    let h : opening_of c.args.c.now.rest.now ≡ f.Name = cc in
    rw (as_statement c.args.room f.Name c.args.c.now.rest.now h) c.named_stmt.ensures

pub form-returns-in-Operation : goal.form-returns-in-Operation
form-returns-in-Operation t c =
    let h : opening_of c.args.c.now.rest.now ≡ f.Operation = cc in
    rw (as_statement c.args.room f.Operation c.args.c.now.rest.now h) c.operation_stmt.ensures

pub form-returns-in-Print : goal.form-returns-in-Print
form-returns-in-Print t c =
    let h : opening_of c.args.c.now.rest.now ≡ f.Print = cc in
    rw (as_statement c.args.room f.Print c.args.c.now.rest.now h) c.print.ensures

pub form-returns-in-If : goal.form-returns-in-If
form-returns-in-If t c =
    let h : opening_of c.args.c.now.rest.now ≡ f.If = cc in
    rw (as_statement c.args.room f.If c.args.c.now.rest.now h) c.if_stmt.ensures

pub form-returns-in-While : goal.form-returns-in-While
form-returns-in-While t c =
    let h : opening_of c.args.c.now.rest.now ≡ f.While = cc in
    rw (as_statement c.args.room f.While c.args.c.now.rest.now h) c.while_stmt.ensures

pub form-returns-in-For : goal.form-returns-in-For
form-returns-in-For t c =
    let h : opening_of c.args.c.now.rest.now ≡ f.For = cc in
    rw (as_statement c.args.room f.For c.args.c.now.rest.now h) c.for_stmt.ensures

pub form-returns-in-Break : goal.form-returns-in-Break
form-returns-in-Break t c =
    let h : opening_of c.args.c.now.rest.now ≡ f.Break = cc in
    rw (as_statement c.args.room f.Break c.args.c.now.rest.now h) c.break_stmt.ensures

pub form-returns-in-Continue : goal.form-returns-in-Continue
form-returns-in-Continue t c =
    let h : opening_of c.args.c.now.rest.now ≡ f.Continue = cc in
    rw (as_statement c.args.room f.Continue c.args.c.now.rest.now h) c.continue_stmt.ensures

pub form-returns-in-Return : goal.form-returns-in-Return
form-returns-in-Return t c =
    let h : opening_of c.args.c.now.rest.now ≡ f.Return = cc in
    rw (as_statement c.args.room f.Return c.args.c.now.rest.now h) c.return_stmt.ensures

pub form-returns-in-Do : goal.form-returns-in-Do
form-returns-in-Do t c =
    let h : opening_of c.args.c.now.rest.now ≡ f.Do = cc in
    rw (as_statement c.args.room f.Do c.args.c.now.rest.now h) c.plain_do.ensures

pub form-returns-in-Async : goal.form-returns-in-Async
form-returns-in-Async t c =
    let h : opening_of c.args.c.now.rest.now ≡ f.Async = cc in
    rw (as_statement c.args.room f.Async c.args.c.now.rest.now h) c.async_stmt.ensures

pub form-returns-in-Cancel : goal.form-returns-in-Cancel
form-returns-in-Cancel t c =
    let h : opening_of c.args.c.now.rest.now ≡ f.Cancel = cc in
    rw (as_statement c.args.room f.Cancel c.args.c.now.rest.now h) c.cancel.ensures

pub form-returns-in-Yield : goal.form-returns-in-Yield
form-returns-in-Yield t c =
    let h : opening_of c.args.c.now.rest.now ≡ f.Yield = cc in
    rw (as_statement c.args.room f.Yield c.args.c.now.rest.now h) c.yield_stmt.ensures

pub form-returns-in-Other : goal.form-returns-in-Other
form-returns-in-Other t c =
    let h : opening_of c.args.c.now.rest.now ≡ f.Other = cc in
    rw (as_statement c.args.room f.Other c.args.c.now.rest.now h) refl
