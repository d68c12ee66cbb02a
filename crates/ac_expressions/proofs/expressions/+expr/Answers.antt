use Rattle.std.proofs.Common.{◌≡◌, ◌+◌, length, true, false, refl}
use Rattle.std.proofs.lemmas.Result.{err_from_is_err_and}
use Rattle.ac_lexer.specs.declared.token.Mark.TheVariants as m
use Rattle.reading_laws.specs.Letters.{sign, starts_with}
use Rattle.ac_expressions.specs.Operators.{has_operator}
use Rattle.ac_expressions.specs.declared.forms.Primary.TheVariants as p
use Rattle.ac_expressions.specs.Reads.{primary_of, link_at, level_at, next_arg_at, expr_at, unary_at}
use Rattle.ac_expressions.proofs.RowLoop.{goes_on, ends, is_over, is_done}
use Rattle.ac_expressions.proofs.Turns.{below, last_level, no_operand, no_links, whole_chain, as_primary}
use Rattle.ac_expressions.proofs.expressions.+expr.Goals as goal

pub links-returns-then-not-is_operator : goal.links-returns-then-not-is_operator
links-returns-then-not-is_operator t c =
    let h : has_operator c.args.level c.links.c.rest.now ≡ false = cc in
    is_over (has_operator c.args.level) (link_at c.args.level (level_at (unary_at c.args.room) (c.args.level + 1))) c.links.links
    (length c.args.c.now.rest.now) c.links.counter c.links.c.rest.now _ c.links-test.true h c.links.invariant

pub links-returns-in_err-next : goal.links-returns-in_err-next
links-returns-in_err-next t c =
    let h : has_operator c.args.level c.links.c.rest.now ≡ true = cc in
    let p = err_from_is_err_and c.from_residual.result c.from_residual.ensures.1 in
    rw (p.1, p.2) (ends (has_operator c.args.level) (link_at c.args.level (level_at (unary_at c.args.room) (c.args.level + 1))) c.link.new.c.rest.now c.in_err-next.field-0.0 c.links.links
    (length c.args.c.now.rest.now) c.links.counter c.links.c.rest.now _ c.links-test.true h c.in_err-next.ensures c.links.invariant)

pub links-links-preserved : goal.links-links-preserved
links-links-preserved t c =
    let h : has_operator c.args.level c.links.c.rest.now ≡ true = cc in
    rw c.in_ok-push.ensures.ok (goes_on (has_operator c.args.level) (link_at c.args.level (level_at (unary_at c.args.room) (c.args.level + 1))) c.links.links
    (length c.args.c.now.rest.now) c.links.counter c.links.c.rest.now c.in_ok-next.next c.link.new.c.rest.now _ c.links-test.true h c.in_ok-next.ensures c.links.invariant)

pub links-returns : goal.links-returns
links-returns t c = is_done (has_operator c.args.level) (link_at c.args.level (level_at (unary_at c.args.room) (c.args.level + 1))) c.links.links
    (length c.args.c.now.rest.now) c.links.counter c.links.c.rest.now _ c.links-test.false c.links.invariant

pub more_args-returns-then-not-is_mark : goal.more_args-returns-then-not-is_mark
more_args-returns-then-not-is_mark t c =
    let h : starts_with (sign m.Comma) c.args-2.c.rest.now ≡ false = cc in
    is_over (starts_with (sign m.Comma)) (next_arg_at (expr_at c.args.room)) c.args-2.args (length c.args.c.now.rest.now) c.args-2.counter c.args-2.c.rest.now _ c.args-2-test.true h c.args-2.invariant

pub more_args-returns-in_err-next : goal.more_args-returns-in_err-next
more_args-returns-in_err-next t c =
    let h : starts_with (sign m.Comma) c.args-2.c.rest.now ≡ true = cc in
    let p = err_from_is_err_and c.from_residual.result c.from_residual.ensures.1 in
    rw (p.1, p.2) (ends (starts_with (sign m.Comma)) (next_arg_at (expr_at c.args.room)) c.next_arg.new.c.rest.now c.in_err-next.field-0.0 c.args-2.args
    (length c.args.c.now.rest.now) c.args-2.counter c.args-2.c.rest.now _ c.args-2-test.true h c.in_err-next.ensures c.args-2.invariant)

pub more_args-args-2-preserved : goal.more_args-args-2-preserved
more_args-args-2-preserved t c =
    let h : starts_with (sign m.Comma) c.args-2.c.rest.now ≡ true = cc in
    rw c.in_ok-push.ensures.ok (goes_on (starts_with (sign m.Comma)) (next_arg_at (expr_at c.args.room)) c.args-2.args
    (length c.args.c.now.rest.now) c.args-2.counter c.args-2.c.rest.now c.in_ok-next.next c.next_arg.new.c.rest.now _ c.args-2-test.true h c.in_ok-next.ensures c.args-2.invariant)

pub more_args-returns : goal.more_args-returns
more_args-returns t c = is_done (starts_with (sign m.Comma)) (next_arg_at (expr_at c.args.room)) c.args-2.args
    (length c.args.c.now.rest.now) c.args-2.counter c.args-2.c.rest.now _ c.args-2-test.false c.args-2.invariant

pub chain-returns-then-level-eq-UNARY : goal.chain-returns-then-level-eq-UNARY
chain-returns-then-level-eq-UNARY t c = rw (last_level (unary_at c.args.room) c.args.level c.args.c.now.rest.now c.if-level-eq-UNARY.true) c.unary.ensures

pub chain-returns-in_err-first : goal.chain-returns-in_err-first
chain-returns-in_err-first t c =
    let p = err_from_is_err_and c.from_residual.result c.from_residual.ensures.1 in
    rw (p.1, p.2) (no_operand (unary_at c.args.room) c.args.level c.args.c.now.rest.now c.chain.new.c.rest.now c.in_err-first.field-0.0
    (below c.args.level c.requires c.if-level-eq-UNARY.false) c.in_err-first.ensures)

pub chain-returns-in_err-rest : goal.chain-returns-in_err-rest
chain-returns-in_err-rest t c =
    let p = err_from_is_err_and c.from_residual-in_err-rest.result c.from_residual-in_err-rest.ensures.1 in
    rw (p.1, p.2) (no_links (unary_at c.args.room) c.args.level c.args.c.now.rest.now c.links.new.c.rest.now c.in_err-rest.field-0.0 c.in_ok-first.first c.chain.new.c.rest.now
    (below c.args.level c.requires c.if-level-eq-UNARY.false) c.in_ok-first.ensures c.in_err-rest.ensures)

pub chain-returns : goal.chain-returns
chain-returns t c =
    rw c.in_ok-whole.ensures (whole_chain (unary_at c.args.room) c.args.level c.args.c.now.rest.now c.in_ok-first.first c.chain.new.c.rest.now c.in_ok-rest.rest c.links.new.c.rest.now
    (below c.args.level c.requires c.if-level-eq-UNARY.false) c.in_ok-first.ensures c.in_ok-rest.ensures)

pub primary-returns-in-Name : goal.primary-returns-in-Name
primary-returns-in-Name t c =
    let h : primary_of c.args.c.now.rest.now ≡ p.Name = cc in
    rw (as_primary c.args.room p.Name c.args.c.now.rest.now h) c.named.ensures

pub primary-returns-in-Number : goal.primary-returns-in-Number
primary-returns-in-Number t c =
    let h : primary_of c.args.c.now.rest.now ≡ p.Number = cc in
    rw (as_primary c.args.room p.Number c.args.c.now.rest.now h) c.number_expr.ensures

pub primary-returns-in-Constant : goal.primary-returns-in-Constant
primary-returns-in-Constant t c =
    let h : primary_of c.args.c.now.rest.now ≡ p.Constant = cc in
    rw (as_primary c.args.room p.Constant c.args.c.now.rest.now h) c.constant_expr.ensures

pub primary-returns-in-Operation : goal.primary-returns-in-Operation
primary-returns-in-Operation t c =
    let h : primary_of c.args.c.now.rest.now ≡ p.Operation = cc in
    rw (as_primary c.args.room p.Operation c.args.c.now.rest.now h) c.operation.ensures

pub primary-returns-in-Group : goal.primary-returns-in-Group
primary-returns-in-Group t c =
    let h : primary_of c.args.c.now.rest.now ≡ p.Group = cc in
    rw (as_primary c.args.room p.Group c.args.c.now.rest.now h) c.group.ensures

pub primary-returns-in-Unary : goal.primary-returns-in-Unary
primary-returns-in-Unary t c =
    let h : primary_of c.args.c.now.rest.now ≡ p.Unary = cc in
    rw (as_primary c.args.room p.Unary c.args.c.now.rest.now h) c.signed.ensures

pub primary-returns-in-Other : goal.primary-returns-in-Other
primary-returns-in-Other t c =
    let h : primary_of c.args.c.now.rest.now ≡ p.Other = cc in
    rw (as_primary c.args.room p.Other c.args.c.now.rest.now h) refl
