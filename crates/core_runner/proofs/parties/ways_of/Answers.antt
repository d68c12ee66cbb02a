-- Each way stands at the place of its link.
use Rattle.std.proofs.Common.{ap, sym, subst, List, [], ◌∷◌, length, arith, slice_index_or}
use Rattle.std.proofs.lemmas.List.{length-append}
use Rattle.std.proofs.lemmas.Option.{slice_get-get_or}
use Rattle.stack_code.specs.declared.parts.ChannelEnds.{ChannelEnds}
use Rattle.settled_rounds.specs.declared.party.Way.{Way}
use Rattle.core_runner.specs.inner.Parties.{IsWayAt}
use Rattle.core_runner.proofs.Ways.{AreWaysSoFar, one_way_more, channel_way, request_way}
use Rattle.core_runner.proofs.parties.ways_of.Goals as goal

abbrev no_ends : ChannelEnds
no_ends = record { from = 0; to = 0 }

pub loop-channel-preserved : goal.loop-channel-preserved
loop-channel-preserved c =
    let at = c.loop-channel in
    let e = slice_index_or c.args.ends.now at.channel-index no_ends in
    let way : Way = record { from = e.from; to = e.to } in
    let here = slice_get-get_or c.args.ends.now at.channel-index no_ends c.loop-channel-test.true in
    let items = c.in_ok-push.ensures.items in
    record {
      count = let n = length-append at.ways.items (way ∷ []) in let m = ap (λ (vs : List Way). length vs) items in let count = at.invariant.count in omega (arith, n, m, count);
      each = subst (AreWaysSoFar c.args.ends.now c.args.cores) (sym items)
          (one_way_more c.args.ends.now c.args.cores at.ways.items way at.invariant.each
          (subst (λ n. IsWayAt c.args.ends.now c.args.cores n way) (sym at.invariant.count) (channel_way c.args.ends.now c.args.cores at.channel-index e here)));
    }

pub loop-core-preserved : goal.loop-core-preserved
loop-core-preserved c =
    let at = c.loop-core in
    let way : Way = record { from = at.core; to = c.args.cores } in
    let items = c.in_ok-push-2.ensures.items in
    record {
      count = let n = length-append at.ways.items (way ∷ []) in let m = ap (λ (vs : List Way). length vs) items in let count = at.invariant.count in omega (arith, n, m, count);
      each = subst (AreWaysSoFar c.args.ends.now c.args.cores) (sym items)
          (one_way_more c.args.ends.now c.args.cores at.ways.items way at.invariant.each
          (request_way c.args.ends.now c.args.cores (length at.ways.items) at.core at.invariant.count));
    }
