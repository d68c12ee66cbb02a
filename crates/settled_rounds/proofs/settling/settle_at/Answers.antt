use Rattle.std.proofs.Common.{arith}
use Rattle.settled_rounds.proofs.EachLink.{on_ok, settles_up, settles_down, settled_up}
use Rattle.settled_rounds.proofs.settling.settle_at.Goals as goal

pub returns-then-from-to-clause-one : goal.returns-then-from-to-clause-one
returns-then-from-to-clause-one g c =
    let t = g.P.Party in
    let m = g.met.P.Party in
    let o = c.settle_with.ensures.owner in
    let p = c.settle_with.ensures.peer in
    settles_up t.clock t.later t.known t.still t.apart m.later_self m.still_self m.apart_self c.args.parties.now _ _ c.args.from c.args.to c.args.link _ _ c.settle_with.new.self
    c.settle_with.new.other c.split_at_mut-front.ensures.value c.split_at_mut-front.ensures.front_len (omega arith) (omega arith)
    (record { is_later = o.0; same_clock = o.1; is_apart = o.2 }) (record { is_later = p.0; same_clock = p.1; is_apart = p.2 }) c.settle_with.ensures.again

pub returns-then-from-to-clause-settled : goal.returns-then-from-to-clause-settled
returns-then-from-to-clause-settled g c =
    on_ok c.settle_with.result _ _
    (settled_up (g.P.Party.settled c.args.link) c.args.parties.now _ _ c.args.from c.args.to c.settle_with.new.self c.settle_with.new.other c.split_at_mut-front.ensures.value
    c.split_at_mut-front.ensures.front_len (omega arith) (omega arith)) c.settle_with.ensures.settled

pub returns-else-from-to-clause-one : goal.returns-else-from-to-clause-one
returns-else-from-to-clause-one g c =
    let t = g.P.Party in
    let m = g.met.P.Party in
    let w = c.settle_with-else-from-to in
    let o = w.ensures.owner in
    let p = w.ensures.peer in
    let s = c.split_at_mut-front-else-from-to in
    settles_down t.clock t.later t.known t.still t.apart m.later_self m.still_self m.apart_self c.args.parties.now _ _ c.args.to c.args.from c.args.link _ _ w.new.other w.new.self
    s.ensures.value s.ensures.front_len (let q = c.requires.places in omega arith) (omega arith)
    (record { is_later = p.0; same_clock = p.1; is_apart = p.2 }) (record { is_later = o.0; same_clock = o.1; is_apart = o.2 }) w.ensures.again

pub returns-else-from-to-clause-settled : goal.returns-else-from-to-clause-settled
returns-else-from-to-clause-settled g c =
    let w = c.settle_with-else-from-to in
    let s = c.split_at_mut-front-else-from-to in
    on_ok w.result _ _
    (λ h a b from to. settled_up (λ x y. g.P.Party.settled c.args.link y x) c.args.parties.now _ _ c.args.to c.args.from w.new.other w.new.self s.ensures.value s.ensures.front_len
    (let q = c.requires.places in omega arith) (omega arith) h b a to from) w.ensures.settled
