use Rattle.std.proofs.Common.{rules, arith}
use Rattle.std.proofs.lemmas.Option.{slice_get-get_or}
use Rattle.settled_rounds.proofs.Pointwise.{each_length}
use Rattle.settled_rounds.proofs.EachLink.{none_settled, one_more_kept, one_more_settled, all_below, pairs_stay}
use Rattle.settled_rounds.proofs.settling.settle_all.Goals as goal

pub loop-link-init : goal.loop-link-init
loop-link-init g c =
    let t = g.P.Party in
    none_settled t.clock t.later t.known t.still t.apart t.settled t.pair t.stopped g.met.P.Party.later_self c.args.ways.now c.args.parties.now

pub settle_at-requires-clause-places : goal.settle_at-requires-clause-places
settle_at-requires-clause-places g c =
    let at = slice_get-get_or c.args.ways.now c.loop-link.link (record { from = 0; to = 0 }) (search rules) in
    let linked = c.requires.ways c.loop-link.link _ at in
    let same = each_length g.P.Party.later c.args.parties.now c.loop-link.parties c.loop-link.invariant.all_later in
    (omega arith, omega arith, linked.2)

pub settle_at-requires-clause-pair : goal.settle_at-requires-clause-pair
settle_at-requires-clause-pair g c =
    let t = g.P.Party in
    let at = slice_get-get_or c.args.ways.now c.loop-link.link (record { from = 0; to = 0 }) (search rules) in
    λ a b from to. pairs_stay t.clock t.later t.known t.still t.apart t.settled t.pair t.stopped g.met.P.Party.pair_stays c.args.ways.now c.args.parties.now c.loop-link.parties c.requires.paired
    c.loop-link.invariant.all_later c.loop-link.link _ a b at from to

pub returns-in_err-settle_at-clause-all : goal.returns-in_err-settle_at-clause-all
returns-in_err-settle_at-clause-all g c =
    let t = g.P.Party in
    let m = g.met.P.Party in
    let at = slice_get-get_or c.args.ways.now c.loop-link.link (record { from = 0; to = 0 }) (search rules) in
    one_more_kept t.clock t.later t.known t.still t.apart t.settled t.pair t.stopped m.later_then m.settled_apart m.known_still m.stopped_still c.args.ways.now c.loop-link.link _
    c.args.parties.now c.loop-link.parties c.settle_at.new.parties at c.loop-link.invariant c.settle_at.ensures.one

pub loop-link-preserved : goal.loop-link-preserved
loop-link-preserved g c =
    let t = g.P.Party in
    let m = g.met.P.Party in
    let at = slice_get-get_or c.args.ways.now c.loop-link.link (record { from = 0; to = 0 }) (search rules) in
    one_more_settled t.clock t.later t.known t.still t.apart t.settled t.pair t.stopped m.later_then m.settled_apart m.known_still m.stopped_still c.args.ways.now c.loop-link.link _
    c.args.parties.now c.loop-link.parties c.settle_at.new.parties at c.loop-link.invariant c.in_ok-settle_at.ensures.one c.in_ok-settle_at.ensures.settled

pub returns-clause-settled : goal.returns-clause-settled
returns-clause-settled g c =
    let t = g.P.Party in
    all_below t.clock t.later t.known t.still t.apart t.settled t.pair t.stopped c.args.ways.now c.loop-link.link c.args.parties.now c.loop-link.parties (search rules) c.loop-link.invariant
