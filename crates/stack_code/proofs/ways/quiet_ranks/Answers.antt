use Rattle.std.proofs.Common.{sym, subst}
use Rattle.stack_code.specs.inner.Quiet.{IsGraph}
use Rattle.stack_code.proofs.Steadiness.{graph_inside, ranked_by}
use Rattle.stack_code.proofs.ways.quiet_ranks.Goals as goal

pub ranks-requires-clause-inside : goal.ranks-requires-clause-inside
ranks-requires-clause-inside c =
    graph_inside c.args.code.now c.args.table.now c.as_slice.result.now c.requires.tabled (subst (IsGraph c.args.code.now) (sym c.as_slice.ensures.value) c.in_ok-graph.ensures)

pub returns : goal.returns
returns c =
    ranked_by c.args.code.now c.args.table.now c.as_slice.result.now c.requires.tabled
    (subst (IsGraph c.args.code.now) (sym c.as_slice.ensures.value) c.in_ok-graph.ensures) c.ranks.result c.ranks.ensures.ranking c.ranks.ensures.cycle
