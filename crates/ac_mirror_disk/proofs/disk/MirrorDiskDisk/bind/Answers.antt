use Rattle.std.proofs.Common.{◌<◌, refl, ap, ◌∙◌, subst, arith}
use Rattle.std.specs.Prelude.{if◌then◌else◌, string_bytes}
use Rattle.std.proofs.lemmas.List.{length-map}
use Rattle.ac_outside.specs.Told.{one_more}
use Rattle.ac_mirror_disk.specs.Fields.{mirrored}
use Rattle.ac_mirror_disk.proofs.BindTold.{new_sound}
use Rattle.ac_mirror_disk.proofs.Clauses.{is_ready, bound_as, bind_says}
use Rattle.ac_mirror_disk.proofs.disk.MirrorDiskDisk.bind.Goals as goal

pub bind_new-bound-requires-clause-some : goal.bind_new-bound-requires-clause-some
bind_new-bound-requires-clause-some g c =
    let m = mirrored c.self.inside in
    (c.self.invariant.ready (is_ready g.A.Disk.told g.B.Disk.told g.met.A.Disk.tells_bound g.met.B.Disk.tells_bound m c.args.self.now c.self.view_is c.requires.ready)).some

pub bind_new-bound-requires-clause-few : goal.bind_new-bound-requires-clause-few
bind_new-bound-requires-clause-few g c =
    let m = mirrored c.self.inside in
    let all = bound_as g.A.Disk.told g.B.Disk.told g.met.A.Disk.tells_bound g.met.B.Disk.tells_bound m c.args.self.now c.self.view_is c.self.invariant c.requires.ready in
    let few = c.requires.few in
    let long = length-map c.self.inside.paths.bound.items string_bytes in
    omega (arith, all, few, long)

pub bind_new-bound-requires-clause-first : goal.bind_new-bound-requires-clause-first
bind_new-bound-requires-clause-first g c =
    let m = mirrored c.self.inside in
    (c.self.invariant.ready (is_ready g.A.Disk.told g.B.Disk.told g.met.A.Disk.tells_bound g.met.B.Disk.tells_bound m c.args.self.now c.self.view_is c.requires.ready)).on_a

pub bind_new-bound-requires-clause-second : goal.bind_new-bound-requires-clause-second
bind_new-bound-requires-clause-second g c =
    let m = mirrored c.self.inside in
    (c.self.invariant.ready (is_ready g.A.Disk.told g.B.Disk.told g.met.A.Disk.tells_bound g.met.B.Disk.tells_bound m c.args.self.now c.self.view_is c.requires.ready)).on_b

pub invariant_of-self : goal.invariant_of-self
invariant_of-self g c =
    let m = mirrored c.self.inside in
    let ready = is_ready g.A.Disk.told g.B.Disk.told g.met.A.Disk.tells_bound g.met.B.Disk.tells_bound m c.args.self.now c.self.view_is c.requires.ready in
    let all = bound_as g.A.Disk.told g.B.Disk.told g.met.A.Disk.tells_bound g.met.B.Disk.tells_bound m c.args.self.now c.self.view_is c.self.invariant c.requires.ready in
    new_sound g.A.Disk.told g.B.Disk.told g.met.A.Disk.tells_bound g.met.B.Disk.tells_bound m _ c.args.path.now c.bind_new-bound.result c.self.invariant ready
    (subst (λ n. n < 16) all c.requires.few) c.bind_new-bound.ensures (record {
      is_ready = c.may_go_on-self-inside.ensures;
      is_alike = refl;
      calls = c.count.ensures.calls;
      faults = c.count.ensures.faults ∙ ap (λ b. if b then one_more c.self.inside.counts.faults else c.self.inside.counts.faults) c.has_failed.ensures;
      earlier = c.count.ensures.earlier;
    })

pub returns : goal.returns
returns g c =
    let m = mirrored c.self.inside in
    let all = bound_as g.A.Disk.told g.B.Disk.told g.met.A.Disk.tells_bound g.met.B.Disk.tells_bound m c.args.self.now c.self.view_is c.self.invariant c.requires.ready in
    let says = bind_says g.A.Disk.told g.B.Disk.told g.met.A.Disk.tells_bound g.met.B.Disk.tells_bound m c.args.self.now _ c.args.path.now c.bind_new-bound.result c.self.view_is
    c.self.invariant c.requires.ready c.count.ensures.few (subst (λ n. n < 16) all c.requires.few) c.bind_new-bound.ensures (record {
      is_ready = c.may_go_on-self-inside.ensures;
      is_alike = refl;
      calls = c.count.ensures.calls;
      faults = c.count.ensures.faults ∙ ap (λ b. if b then one_more c.self.inside.counts.faults else c.self.inside.counts.faults) c.has_failed.ensures;
      earlier = c.count.ensures.earlier;
    }) in
    record {
      told = says.told;
      asked = says.asked;
      earlier = says.earlier;
      sides = says.sides;
      blame = says.blame;
      equal = says.equal;
      alike = says.alike;
    }
