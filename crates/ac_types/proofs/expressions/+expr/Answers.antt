use Rattle.std.proofs.lemmas.Result.{on_ok_weaker}
use Rattle.ac_types.proofs.Seeing.{chain_after, call_after}
use Rattle.ac_types.proofs.expressions.+expr.Goals as goal

pub see_expr-returns-in_ok-see_expr-in-Chain : goal.see_expr-returns-in_ok-see_expr-in-Chain
see_expr-returns-in_ok-see_expr-in-Chain t c =
    on_ok_weaker c.see_links.result
    (λ e.
    chain_after c.args.tables.now c.args.scopes.now c.args.around c.args.position c.args.expr.now c.in-Chain.at c.in-Chain.level c.in-Chain.first c.get-in-Chain.result.now c.in-Chain.rest
    c.as_slice.result.now c.judge_value-in-Chain.result c.args.seen.now c.note-in-Chain.new.self c.see_expr-in-Chain.new.seen c.see_links.new.seen
    c.in-Chain.is c.judge_value-in-Chain.ensures c.in_ok-note-in-Chain.ensures c.get-in-Chain.ensures c.in_ok-see_expr-in-Chain.ensures c.as_slice.ensures e)
    c.see_links.ensures

pub see_expr-returns-in_ok-note-in-Call : goal.see_expr-returns-in_ok-note-in-Call
see_expr-returns-in_ok-note-in-Call t c =
    on_ok_weaker c.see_args.result
    (λ e.
    call_after c.args.tables.now c.args.scopes.now c.args.around c.args.position c.args.expr.now c.in-Call.at c.in-Call.name c.in-Call.args c.as_slice-in-Call.result.now c.find-meaning.result
    c.callee-callee.result c.len.result c.judge_call-rule.result c.number_of.result c.args.seen.now c.note-in-Call.new.self c.see_args.new.seen
    c.in-Call.is c.find-meaning.ensures c.callee-callee.ensures c.len.ensures c.judge_call-rule.ensures c.number_of.ensures c.in_ok-note-in-Call.ensures c.as_slice-in-Call.ensures e)
    c.see_args.ensures
