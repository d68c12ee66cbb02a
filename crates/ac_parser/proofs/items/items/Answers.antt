use Rattle.std.proofs.Common.{◌≡◌, length, true, false}
use Rattle.std.proofs.lemmas.Result.{err_from_is_err_and}
use Rattle.reading_laws.specs.inner.Tokens.{has_token}
use Rattle.ac_parser.specs.inner.ReadsItems.{item_at}
use Rattle.ac_expressions.proofs.RowLoop.{goes_on, ends, is_over, is_done}
use Rattle.ac_parser.proofs.items.items.Goals as goal

pub returns-then-not-is_more : goal.returns-then-not-is_more
returns-then-not-is_more c =
    let h : has_token c.items.c.rest.now ≡ false = cc in
    is_over has_token item_at c.items.items (length c.args.c.now.rest.now) c.items.counter c.items.c.rest.now _ c.items-test.true h c.items.invariant

pub returns-in_err-next : goal.returns-in_err-next
returns-in_err-next c =
    let h : has_token c.items.c.rest.now ≡ true = cc in
    let p = err_from_is_err_and c.from_residual.result c.from_residual.ensures.1 in
    rw (p.1, p.2) (ends has_token item_at c.item.new.c.rest.now c.in_err-next.field-0.0 c.items.items
    (length c.args.c.now.rest.now) c.items.counter c.items.c.rest.now _ c.items-test.true h c.in_err-next.ensures c.items.invariant)

pub items-preserved : goal.items-preserved
items-preserved c =
    let h : has_token c.items.c.rest.now ≡ true = cc in
    rw c.in_ok-push.ensures.ok (goes_on has_token item_at c.items.items (length c.args.c.now.rest.now) c.items.counter c.items.c.rest.now c.in_ok-next.next c.item.new.c.rest.now _ c.items-test.true h
    c.in_ok-next.ensures c.items.invariant)

pub returns : goal.returns
returns c = is_done has_token item_at c.items.items (length c.args.c.now.rest.now) c.items.counter c.items.c.rest.now _ c.items-test.false c.items.invariant
