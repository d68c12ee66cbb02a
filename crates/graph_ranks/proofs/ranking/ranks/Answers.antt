use Rattle.std.proofs.Common.{arith}
use Rattle.graph_ranks.proofs.Whole.{first_search, is_ranking, rooted_true, none_root}
use Rattle.graph_ranks.proofs.ranking.ranks.Goals as goal

pub loop-root-init : goal.loop-root-init
loop-root-init c = record {
  search = first_search c.args.ways.now c.loop.marks.items c.new.result.items _ c.loop.invariant (omega arith) c.new.ensures.items;
  empty = c.new.ensures.items;
  none = λ k lt. absurd (omega arith);
}

pub loop-root-preserved : goal.loop-root-preserved
loop-root-preserved c =
    let r = rooted_true c.args.ways.now c.loop-root.search.marks.items c.search_from.new.self.marks.items c.search_from.new.self.path.items c.search_from.new.self.count c.loop-root.root
    c.in_ok-search_from.field-0 c.if-not-branch.false c.in_ok-search_from.ensures in
    record {
      search = r.search;
      empty = r.empty;
      none = none_root c.loop-root.search.marks.items c.search_from.new.self.marks.items c.loop-root.root c.loop-root.invariant.none r.keeps r.here;
    }

pub returns-clause-ranking : goal.returns-clause-ranking
returns-clause-ranking c = is_ranking c.args.ways.now c.loop-root.search.marks.items c.loop-root.search.path.items c.loop-root.search.count c.loop-root.root c.loop-root.invariant.search
    c.loop-root.invariant.empty c.loop-root-test.false c.loop-root.invariant.none _ _ c.as_slice.ensures.value c.in_ok-ranks.ensures
