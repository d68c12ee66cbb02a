use Rattle.std.proofs.Common.{◌++◌, refl, sym, subst}
use Rattle.std.specs.Prelude.{IfSome, string_bytes}
use Rattle.ac_outside.specs.Disks.{IsFresh}
use Rattle.ac_mirror_disk.specs.Prefixes.{JoinsBind}
use Rattle.ac_mirror_disk.proofs.Under.{fresh_for, bind_under}
use Rattle.ac_mirror_disk.proofs.prefixed.PrefixedDisk.bind.Goals as goal

pub bind_joined-bound-requires-clause-fresh : goal.bind_joined-bound-requires-clause-fresh
bind_joined-bound-requires-clause-fresh g c =
    subst (λ f. IfSome (g.D.Disk.told c.self.inside.disk).held (λ held. IsFresh held (f ++ c.args.path.now))) (sym c.as_str.ensures.value)
    (fresh_for g.D.Disk.told g.met.D.Disk.tells_bound (record { disk = c.self.inside.disk; prefix = string_bytes c.self.inside.prefix; is_ready = c.self.inside.is_ready }) c.args.self.now
    c.args.path.now
    c.self.view_is c.self.invariant c.requires.ready c.requires.fresh)

pub returns-clause-told : goal.returns-clause-told
returns-clause-told g c =
    let joins = subst (λ f. JoinsBind (g.D.Disk.told c.self.inside.disk) (g.D.Disk.told c.bind_joined-bound.new.disk)
    (f ++ c.args.path.now) c.bind_joined-bound.result) c.as_str.ensures.value c.bind_joined-bound.ensures in
    (bind_under g.D.Disk.told g.met.D.Disk.tells_bound (record { disk = c.self.inside.disk; prefix = string_bytes c.self.inside.prefix; is_ready = c.self.inside.is_ready }) c.args.self.now
    (record { disk = c.bind_joined-bound.new.disk; prefix = string_bytes c.self.inside.prefix; is_ready = c.may_go_on-self-inside.result }) c.args.path.now c.bind_joined-bound.result
    c.self.view_is c.requires.ready refl c.may_go_on-self-inside.ensures joins).told_so
