use Rattle.std.proofs.Common.{◌<◌, length, arith}
use Rattle.graph_ranks.proofs.Turns.{top_inside, inside_one, inside_other, cycle_one, cycle_other, follows_one, follows_other, all_done}
use Rattle.graph_ranks.proofs.search.Search.turn.Goals as goal

pub offset_bounds-ways-a : goal.offset_bounds-ways-a
offset_bounds-ways-a c =
    let h : c.args.a < length c.args.ways.now = top_inside c.args.ways.now c.args.self.now.marks.items c.args.self.now.path.items c.args.self.now.count c.args.a c.requires.search c.requires.top in
    omega (arith, c.requires.few)

pub bounds-ways-a : goal.bounds-ways-a
bounds-ways-a c = top_inside c.args.ways.now c.args.self.now.marks.items c.args.self.now.path.items c.args.self.now.count c.args.a c.requires.search c.requires.top

pub see-requires : goal.see-requires
see-requires c = inside_one c.args.ways.now c.args.self.now.marks.items c.as_slice.result.now c.args.self.now.path.items c.args.self.now.count c.args.a _ c.requires.search c.requires.top
    c.as_slice.ensures.value c.requires.inside

pub returns-in-Cycle : goal.returns-in-Cycle
returns-in-Cycle c = cycle_one c.args.ways.now c.args.self.now.marks.items c.as_slice.result.now c.args.self.now.path.items c.args.self.now.count c.args.a _ c.requires.search c.requires.top
    c.as_slice.ensures.value c.in-Cycle.ensures

pub open-requires-clause-follows : goal.open-requires-clause-follows
open-requires-clause-follows c = follows_one c.args.ways.now c.args.self.now.marks.items c.as_slice.result.now c.args.self.now.path.items c.args.self.now.count c.args.a _ c.requires.search
    c.requires.top c.as_slice.ensures.value c.in-Fresh.b c.in-Fresh.ensures

pub see-requires-2 : goal.see-requires-2
see-requires-2 c = inside_other c.args.ways.now c.args.self.now.marks.items c.as_slice-2.result.now c.args.self.now.path.items c.args.self.now.count c.args.a _ c.requires.search c.requires.top
    c.as_slice-2.ensures.value c.requires.inside

pub returns-in-Cycle-see : goal.returns-in-Cycle-see
returns-in-Cycle-see c = cycle_other c.args.ways.now c.args.self.now.marks.items c.as_slice-2.result.now c.args.self.now.path.items c.args.self.now.count c.args.a _ c.requires.search c.requires.top
    c.as_slice-2.ensures.value c.in-Cycle-see.ensures

pub open-requires-in-Fresh-see-clause-follows : goal.open-requires-in-Fresh-see-clause-follows
open-requires-in-Fresh-see-clause-follows c = follows_other c.args.ways.now c.args.self.now.marks.items c.as_slice-2.result.now c.args.self.now.path.items c.args.self.now.count c.args.a _
    c.requires.search c.requires.top c.as_slice-2.ensures.value c.in-Fresh-see.b c.in-Fresh-see.ensures

pub close-requires-clause-closed : goal.close-requires-clause-closed
close-requires-clause-closed c = all_done c.args.ways.now c.args.self.now.marks.items c.as_slice.result.now c.args.self.now.path.items c.args.self.now.count c.args.a _ c.requires.search c.requires.top
    c.as_slice.ensures.value c.as_slice-2.result.now c.as_slice-2.ensures.value c.in-Closed.ensures c.in-Closed-see.ensures
