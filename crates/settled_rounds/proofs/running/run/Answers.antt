use Rattle.settled_rounds.proofs.Pointwise.{each_self, each_then, all_stay}
use Rattle.settled_rounds.proofs.EachLink.{pairs_stay}
use Rattle.settled_rounds.proofs.running.run.Goals as goal

pub loop-moved-init : goal.loop-moved-init
loop-moved-init g c =
    let w = g.world in
    let m = g.met.P.Party w.𝓛 w.𝓜 w.𝓡 (λ s h. h, λ p. p, λ n s. n s, λ x. x) in
    let t = g.P.Party in
    each_self t.later m.later_self c.args.parties.now

pub step-requires-clause-paired : goal.step-requires-clause-paired
step-requires-clause-paired g c κs within =
    let w = g.world in
    let m = g.met.P.Party w.𝓛 w.𝓜 w.𝓡 (λ s h. h, λ p. p, λ n s. n s, λ x. x) in
    let t = g.P.Party in
    pairs_stay t.clock t.later t.known t.still t.apart t.settled t.pair t.stopped m.pair_stays c.args.ways.now c.args.parties.now c.loop-moved.parties c.requires.paired
    c.loop-moved.invariant

pub step-requires-clause-ready : goal.step-requires-clause-ready
step-requires-clause-ready g c κs within =
    let w = g.world in
    let m = g.met.P.Party w.𝓛 w.𝓜 w.𝓡 (λ s h. h, λ p. p, λ n s. n s, λ x. x) in
    let t = g.P.Party in
    all_stay t.later t.ready m.ready_stays c.args.parties.now c.loop-moved.parties c.requires.ready c.loop-moved.invariant

pub returns-in_err-moved-clause-later : goal.returns-in_err-moved-clause-later
returns-in_err-moved-clause-later g c =
    let w = g.world in
    let m = g.met.P.Party w.𝓛 w.𝓜 w.𝓡 (λ s h. h, λ p. p, λ n s. n s, λ x. x) in
    let t = g.P.Party in
    each_then t.later m.later_then c.args.parties.now c.loop-moved.parties c.step.new.parties c.loop-moved.invariant c.step.ensures.later

pub returns-then-not-moved-clause-later : goal.returns-then-not-moved-clause-later
returns-then-not-moved-clause-later g c =
    let w = g.world in
    let m = g.met.P.Party w.𝓛 w.𝓜 w.𝓡 (λ s h. h, λ p. p, λ n s. n s, λ x. x) in
    let t = g.P.Party in
    each_then t.later m.later_then c.args.parties.now c.loop-moved.parties c.step.new.parties c.loop-moved.invariant c.step.ensures.later

pub loop-moved-preserved : goal.loop-moved-preserved
loop-moved-preserved g c =
    let w = g.world in
    let m = g.met.P.Party w.𝓛 w.𝓜 w.𝓡 (λ s h. h, λ p. p, λ n s. n s, λ x. x) in
    let t = g.P.Party in
    each_then t.later m.later_then c.args.parties.now c.loop-moved.parties c.step.new.parties c.loop-moved.invariant c.step.ensures.later
