use Rattle.std.proofs.Common.{rules}
use Rattle.settled_rounds.proofs.Pointwise.{each_then, all_stay}
use Rattle.settled_rounds.proofs.EachLink.{pairs_stay}
use Rattle.settled_rounds.proofs.EachTurn.{settles_moved, settles_still}
use Rattle.settled_rounds.proofs.running.settle.Goals as goal

pub returns-in_err-moved-clause-later : goal.returns-in_err-moved-clause-later
returns-in_err-moved-clause-later g c =
    each_then g.P.Party.later g.met.P.Party.later_then c.args.parties.now c.settle_all.new.parties c.pass.new.parties c.settle_all.ensures.all.all_later c.pass.ensures.later

pub settle_all-requires-then-not-moved-clause-paired : goal.settle_all-requires-then-not-moved-clause-paired
settle_all-requires-then-not-moved-clause-paired g c =
    let t = g.P.Party in
    pairs_stay t.clock t.later t.known t.still t.apart t.settled t.pair t.stopped g.met.P.Party.pair_stays c.args.ways.now c.args.parties.now c.pass.new.parties c.requires.paired
    (each_then t.later g.met.P.Party.later_then c.args.parties.now c.settle_all.new.parties c.pass.new.parties c.settle_all.ensures.all.all_later c.pass.ensures.later)

pub returns-in_err-settle_all-2-clause-later : goal.returns-in_err-settle_all-2-clause-later
returns-in_err-settle_all-2-clause-later g c =
    let t = g.P.Party in
    each_then t.later g.met.P.Party.later_then c.args.parties.now c.pass.new.parties c.settle_all-then-not-moved.new.parties
    (each_then t.later g.met.P.Party.later_then c.args.parties.now c.settle_all.new.parties c.pass.new.parties c.settle_all.ensures.all.all_later c.pass.ensures.later)
    c.settle_all-then-not-moved.ensures.all.all_later

pub returns-in_ok-settle_all-2-clause-later : goal.returns-in_ok-settle_all-2-clause-later
returns-in_ok-settle_all-2-clause-later g c =
    let t = g.P.Party in
    each_then t.later g.met.P.Party.later_then c.args.parties.now c.pass.new.parties c.settle_all-then-not-moved.new.parties
    (each_then t.later g.met.P.Party.later_then c.args.parties.now c.settle_all.new.parties c.pass.new.parties c.settle_all.ensures.all.all_later c.pass.ensures.later)
    c.settle_all-then-not-moved.ensures.all.all_later

pub returns-in_ok-settle_all-2-clause-moved : goal.returns-in_ok-settle_all-2-clause-moved
returns-in_ok-settle_all-2-clause-moved g c =
    let t = g.P.Party in
    settles_still t.clock t.later t.known t.still t.apart t.settled t.stopped c.args.ways.now g.met.P.Party.settled_knows g.met.P.Party.known_still c.args.parties.now
    c.settle_all.new.parties c.pass.new.parties c.settle_all-then-not-moved.new.parties c.in_ok-moved.moved c.in_ok-settle_all.ensures.settled c.in_ok-moved.ensures.moved (search rules)
    c.in_ok-settle_all-2.ensures.all c.in_ok-settle_all-2.ensures.settled

pub returns-else-not-moved-clause-later : goal.returns-else-not-moved-clause-later
returns-else-not-moved-clause-later g c =
    each_then g.P.Party.later g.met.P.Party.later_then c.args.parties.now c.settle_all.new.parties c.pass.new.parties c.settle_all.ensures.all.all_later c.pass.ensures.later

pub returns-else-not-moved-clause-moved : goal.returns-else-not-moved-clause-moved
returns-else-not-moved-clause-moved g c =
    let t = g.P.Party in
    settles_moved t.clock t.later t.known t.still t.apart t.settled t.stopped c.args.ways.now c.args.parties.now c.settle_all.new.parties c.pass.new.parties c.in_ok-moved.moved
    c.in_ok-settle_all.ensures.all c.in_ok-moved.ensures.moved (search rules)

pub pass-requires : goal.pass-requires
pass-requires g c = all_stay g.P.Party.later g.P.Party.ready g.met.P.Party.ready_stays c.args.parties.now c.settle_all.new.parties c.requires.ready c.settle_all.ensures.all.all_later
