use Rattle.std.proofs.Common.{◌∙◌, sym, subst}
use Rattle.end_ports.specs.Held.{Held}
use Rattle.end_ports.specs.SettledLinks.{HavePair, Settles}
use Rattle.end_ports.specs.PortFields.{held_of}
use Rattle.end_ports.proofs.Pairing.{has_send, has_recv, are_ends, mine, its, settled_link, pair_stays}
use Rattle.end_ports.proofs.ports.CorePorts.settle_with.Goals as goal

pub unreachable-requires : goal.unreachable-requires
unreachable-requires c =
    let a = held_of c.self.inside in
    let p = subst (λ (v : Held). HavePair v c.args.other.now c.args.link) (sym c.self.view_is) c.requires in
    has_send a c.args.other.now c.args.link p (sym c.place.ensures ∙ c.in_default.is)

pub unreachable-requires-in_default-place : goal.unreachable-requires-in_default-place
unreachable-requires-in_default-place c =
    let b = held_of c.other.inside in
    let p = subst (λ (v : Held). HavePair c.args.self.now v c.args.link) (sym c.other.view_is) c.requires in
    has_recv c.args.self.now b c.args.link p (sym c.place-2.ensures ∙ c.in_default-place.is)

pub settle-requires-clause-pair : goal.settle-requires-clause-pair
settle-requires-clause-pair c =
    let a = held_of c.self.inside in
    let b = held_of c.other.inside in
    let p = subst (λ (v : Held). HavePair v b c.args.link) (sym c.self.view_is) (subst (λ (v : Held). HavePair c.args.self.now v c.args.link) (sym c.other.view_is) c.requires) in
    are_ends a b c.args.link p c.in-Some.at c.in-Some-place.to (sym c.place.ensures ∙ c.in-Some.is) (sym c.place-2.ensures ∙ c.in-Some-place.is)

pub returns-clause-pair : goal.returns-clause-pair
returns-clause-pair c =
    let a = held_of c.self.inside in
    let b = held_of c.other.inside in
    let p = subst (λ (v : Held). HavePair v b c.args.link) (sym c.self.view_is) (subst (λ (v : Held). HavePair c.args.self.now v c.args.link) (sym c.other.view_is) c.requires) in
    pair_stays a b c.args.link p c.in-Some.at c.in-Some-place.to (sym c.place.ensures ∙ c.in-Some.is) (sym c.place-2.ensures ∙ c.in-Some-place.is)
    c.settle.new.self c.settle.new.recvs c.settle.ensures

pub returns-clause-mine : goal.returns-clause-mine
returns-clause-mine c =
    let a = held_of c.self.inside in
    let b = held_of c.other.inside in
    let p = subst (λ (v : Held). HavePair v b c.args.link) (sym c.self.view_is) (subst (λ (v : Held). HavePair c.args.self.now v c.args.link) (sym c.other.view_is) c.requires) in
    subst (λ (v : Held). Settles v c.args.link (record a { sends = c.settle.new.self })) c.self.view_is
    (mine a b c.args.link p c.in-Some.at c.in-Some-place.to (sym c.place.ensures ∙ c.in-Some.is) (sym c.place-2.ensures ∙ c.in-Some-place.is)
    c.settle.new.self c.settle.new.recvs c.settle.ensures)

pub returns-clause-its : goal.returns-clause-its
returns-clause-its c =
    let a = held_of c.self.inside in
    let b = held_of c.other.inside in
    let p = subst (λ (v : Held). HavePair v b c.args.link) (sym c.self.view_is) (subst (λ (v : Held). HavePair c.args.self.now v c.args.link) (sym c.other.view_is) c.requires) in
    subst (λ (v : Held). Settles v c.args.link (record b { recvs = c.settle.new.recvs })) c.other.view_is
    (its a b c.args.link p c.in-Some.at c.in-Some-place.to (sym c.place.ensures ∙ c.in-Some.is) (sym c.place-2.ensures ∙ c.in-Some-place.is)
    c.settle.new.self c.settle.new.recvs c.settle.ensures)

pub returns-clause-link : goal.returns-clause-link
returns-clause-link c =
    let a = held_of c.self.inside in
    let b = held_of c.other.inside in
    let p = subst (λ (v : Held). HavePair v b c.args.link) (sym c.self.view_is) (subst (λ (v : Held). HavePair c.args.self.now v c.args.link) (sym c.other.view_is) c.requires) in
    settled_link a b c.args.link p c.in-Some.at c.in-Some-place.to (sym c.place.ensures ∙ c.in-Some.is) (sym c.place-2.ensures ∙ c.in-Some-place.is)
    c.settle.new.self c.settle.new.recvs c.settle.ensures
