use Rattle.std.proofs.Common.{◌<◌, ◌≡◌, length, arith, vec_len}
use Rattle.graph_ranks.proofs.Turns.{closed_at, closed_less, closed_keeps, top_open}
use Rattle.graph_ranks.proofs.search.Search.close.Goals as goal

pub index_mut-requires : goal.index_mut-requires
index_mut-requires c =
    let h : c.args.a < length c.args.self.now.marks.items = top_open c.args.ways.now c.args.self.now.marks.items c.args.self.now.path.items c.args.self.now.count c.args.a c.requires.search
    c.requires.top in
    let e : vec_len c.args.self.now.marks ≡ length c.args.self.now.marks.items = c.args.self.now.marks.ok.0 in
    omega arith

pub returns-clause-search : goal.returns-clause-search
returns-clause-search c = closed_at c.args.ways.now c.args.self.now.marks.items c.args.self.now.path.items _ c.args.self.now.count c.args.a _ c.requires.search c.requires.top c.requires.closed
    c.pop_top.ensures

pub returns-clause-less : goal.returns-clause-less
returns-clause-less c = closed_less c.args.ways.now c.args.self.now.marks.items c.args.self.now.path.items _ c.args.self.now.count c.args.a _ c.requires.search c.requires.top c.requires.closed
    c.pop_top.ensures

pub returns-clause-keeps : goal.returns-clause-keeps
returns-clause-keeps c = closed_keeps c.args.ways.now c.args.self.now.marks.items c.args.self.now.path.items _ c.args.self.now.count c.args.a _ c.requires.search c.requires.top c.requires.closed
    c.pop_top.ensures
