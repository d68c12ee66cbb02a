-- A path that no bound file has may be bound on each side in use.
use Rattle.std.proofs.Common.{map, sym, ◌∙◌, arith}
use Rattle.std.specs.Prelude.{string_bytes}
use Rattle.std.proofs.lemmas.List.{length-map}
use Rattle.ac_mirror_disk.proofs.NewPath.{may_bind}
use Rattle.ac_mirror_disk.proofs.binding.bind_new.Goals as goal

pub bind_both-bound-requires-clause-first : goal.bind_both-bound-requires-clause-first
bind_both-bound-requires-clause-first g c =
    let long = length-map c.args.paths.now.bound.items string_bytes in
    let few = c.requires.few in
    may_bind g.A.Disk.told g.met.A.Disk.tells_bound c.args.a.now (map string_bytes c.args.paths.now.bound.items) c.args.path.now c.requires.first (omega (arith, long, few))
    (c.may_bind.ensures.new c.if-may_bind.true)

pub bind_both-bound-requires-clause-second : goal.bind_both-bound-requires-clause-second
bind_both-bound-requires-clause-second g c =
    let long = length-map c.args.paths.now.bound.items string_bytes in
    let few = c.requires.few in
    may_bind g.B.Disk.told g.met.B.Disk.tells_bound c.args.b.now (map string_bytes c.args.paths.now.bound.items) c.args.path.now c.requires.second (omega (arith, long, few))
    (c.may_bind.ensures.new c.if-may_bind.true)

pub bind_both-bound-requires-clause-as_many : goal.bind_both-bound-requires-clause-as_many
bind_both-bound-requires-clause-as_many g c = λ first second. c.requires.first.whole first ∙ sym (c.requires.second.whole second)
