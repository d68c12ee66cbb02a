use Rattle.std.proofs.Common.{rules}
use Rattle.settled_rounds.proofs.Pointwise.{each_then, all_stay}
use Rattle.settled_rounds.proofs.EachLink.{if_ok, pairs_stay}
use Rattle.settled_rounds.proofs.EachTurn.{moves_settle, none_settle}
use Rattle.settled_rounds.proofs.running.step.Goals as goal

pub go_on-requires-clause-ready : goal.go_on-requires-clause-ready
go_on-requires-clause-ready g c κs within =
    let w = g.world in
    let m = g.met.P.Party w.𝓛 w.𝓜 w.𝓡 (λ s h. h, λ p. p, λ n s. n s, λ x. x) in
    let t = g.P.Party in
    all_stay t.later t.ready m.ready_stays c.args.parties.now c.settle_all.new.parties c.requires.ready c.settle_all.ensures.all.all_later

pub returns-in_err-go_on-clause-later : goal.returns-in_err-go_on-clause-later
returns-in_err-go_on-clause-later g c =
    let w = g.world in
    let m = g.met.P.Party w.𝓛 w.𝓜 w.𝓡 (λ s h. h, λ p. p, λ n s. n s, λ x. x) in
    let t = g.P.Party in
    each_then t.later m.later_then c.args.parties.now c.settle_all.new.parties c.go_on.new.parties c.settle_all.ensures.all.all_later c.go_on.ensures.later

pub returns-then-branch-clause-later : goal.returns-then-branch-clause-later
returns-then-branch-clause-later g c =
    let w = g.world in
    let m = g.met.P.Party w.𝓛 w.𝓜 w.𝓡 (λ s h. h, λ p. p, λ n s. n s, λ x. x) in
    let t = g.P.Party in
    each_then t.later m.later_then c.args.parties.now c.settle_all.new.parties c.go_on.new.parties c.settle_all.ensures.all.all_later c.go_on.ensures.later

pub returns-then-branch-clause-moved : goal.returns-then-branch-clause-moved
returns-then-branch-clause-moved g c =
    let t = g.P.Party in
    moves_settle t.clock t.later t.known t.still t.apart t.settled t.stopped c.args.ways.now c.args.parties.now c.settle_all.new.parties c.go_on.new.parties _
    c.in_ok-settle_all.ensures.all c.in_ok-go_on.ensures.moved (search rules)

pub settle-requires-clause-paired : goal.settle-requires-clause-paired
settle-requires-clause-paired g c =
    let w = g.world in
    let m = g.met.P.Party w.𝓛 w.𝓜 w.𝓡 (λ s h. h, λ p. p, λ n s. n s, λ x. x) in
    let t = g.P.Party in
    pairs_stay t.clock t.later t.known t.still t.apart t.settled t.pair t.stopped m.pair_stays c.args.ways.now c.args.parties.now c.go_on.new.parties c.requires.paired
    (each_then t.later m.later_then c.args.parties.now c.settle_all.new.parties c.go_on.new.parties c.settle_all.ensures.all.all_later c.go_on.ensures.later)

pub settle-requires-clause-ready : goal.settle-requires-clause-ready
settle-requires-clause-ready g c =
    let w = g.world in
    let m = g.met.P.Party w.𝓛 w.𝓜 w.𝓡 (λ s h. h, λ p. p, λ n s. n s, λ x. x) in
    let t = g.P.Party in
    all_stay t.later t.ready m.ready_stays c.args.parties.now c.go_on.new.parties c.requires.ready
    (each_then t.later m.later_then c.args.parties.now c.settle_all.new.parties c.go_on.new.parties c.settle_all.ensures.all.all_later c.go_on.ensures.later)

pub returns-clause-later : goal.returns-clause-later
returns-clause-later g c =
    let w = g.world in
    let m = g.met.P.Party w.𝓛 w.𝓜 w.𝓡 (λ s h. h, λ p. p, λ n s. n s, λ x. x) in
    let t = g.P.Party in
    each_then t.later m.later_then c.args.parties.now c.go_on.new.parties c.settle.new.parties
    (each_then t.later m.later_then c.args.parties.now c.settle_all.new.parties c.go_on.new.parties c.settle_all.ensures.all.all_later c.go_on.ensures.later)
    c.settle.ensures.later

pub returns-clause-moved : goal.returns-clause-moved
returns-clause-moved g c =
    let t = g.P.Party in
    if_ok c.settle.result _ _
    (λ n. none_settle t.clock t.later t.known t.still t.apart t.settled t.stopped c.args.ways.now c.args.parties.now c.settle_all.new.parties c.go_on.new.parties c.settle.new.parties
    c.in_ok-go_on.field-0 n c.in_ok-settle_all.ensures.all c.in_ok-go_on.ensures.moved (search rules)) c.settle.ensures.moved
