use Rattle.settled_rounds.proofs.Ways.{goes_from, goes_to}
use Rattle.std.proofs.Common.{length, arith}
use Rattle.settled_rounds.proofs.choosing.who_is_busy.Goals as goal

pub bounds-parties-from : goal.bounds-parties-from
bounds-parties-from g c = goes_from (length c.args.parties.now) c.args.ways.now c.loop-link.link _ c.requires.ways c.loop-link-test.true

pub bounds-parties-to : goal.bounds-parties-to
bounds-parties-to g c = goes_to (length c.args.parties.now) c.args.ways.now c.loop-link.link _ c.requires.ways c.loop-link-test.true

pub offset_bounds-parties-from : goal.offset_bounds-parties-from
offset_bounds-parties-from g c =
    let h = goes_from (length c.args.parties.now) c.args.ways.now c.loop-link.link (record { from = 0; to = 0 }) c.requires.ways c.loop-link-test.true in omega (arith, h)

pub offset_bounds-parties-to : goal.offset_bounds-parties-to
offset_bounds-parties-to g c =
    let h = goes_to (length c.args.parties.now) c.args.ways.now c.loop-link.link (record { from = 0; to = 0 }) c.requires.ways c.loop-link-test.true in omega (arith, h)

pub loop-place-preserved : goal.loop-place-preserved
loop-place-preserved g c = c.with-found.ensures (length c.args.parties.now) c.loop-place-test.true c.loop-place.invariant

pub loop-link-preserved : goal.loop-link-preserved
loop-link-preserved g c =
    let n = length c.args.parties.now in
    c.with-found-in-loop-link.ensures n (goes_to n c.args.ways.now c.loop-link.link _ c.requires.ways c.loop-link-test.true)
    (c.with.ensures n (goes_from n c.args.ways.now c.loop-link.link _ c.requires.ways c.loop-link-test.true) c.loop-link.invariant)
