use Rattle.std.proofs.Common.{◌∙◌}
use Rattle.graph_ranks.proofs.Turns.{opened_at, less_at, keeps_at, here_at}
use Rattle.graph_ranks.proofs.search.Search.open.Goals as goal

pub returns-clause-search : goal.returns-clause-search
returns-clause-search c = opened_at c.args.ways.now c.args.self.now.marks.items c.args.self.now.path.items _ c.args.self.now.count c.args.a _ c.requires.search c.requires.fresh c.requires.follows
    c.in_ok-push.ensures.items (c.len-depth.ensures ∙ c.args.self.now.path.ok.0)

pub returns-clause-less : goal.returns-clause-less
returns-clause-less c = less_at c.args.ways.now c.args.self.now.marks.items c.args.self.now.path.items c.args.self.now.count c.args.a _ c.requires.search c.requires.fresh c.requires.follows
    (c.len-depth.ensures ∙ c.args.self.now.path.ok.0)

pub returns-clause-keeps : goal.returns-clause-keeps
returns-clause-keeps c = keeps_at c.args.ways.now c.args.self.now.marks.items c.args.self.now.path.items c.args.self.now.count c.args.a _ c.requires.search c.requires.fresh c.requires.follows
    (c.len-depth.ensures ∙ c.args.self.now.path.ok.0)

pub returns-clause-here : goal.returns-clause-here
returns-clause-here c = here_at c.args.ways.now c.args.self.now.marks.items c.args.self.now.path.items c.args.self.now.count c.args.a _ c.requires.search c.requires.fresh c.requires.follows
    (c.len-depth.ensures ∙ c.args.self.now.path.ok.0)
