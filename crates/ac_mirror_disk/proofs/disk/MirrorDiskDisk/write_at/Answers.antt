use Rattle.std.proofs.Common.{◌<◌, refl, ap, ◌∙◌, subst}
use Rattle.std.specs.Prelude.{if◌then◌else◌}
use Rattle.ac_outside.specs.Told.{one_more}
use Rattle.ac_mirror_disk.specs.Fields.{mirrored}
use Rattle.ac_mirror_disk.proofs.WriteSteps.{write_sound}
use Rattle.ac_mirror_disk.proofs.Clauses.{may_call, is_ready, bound_as, write_says}
use Rattle.ac_mirror_disk.proofs.disk.MirrorDiskDisk.write_at.Goals as goal

pub write_both-written-requires-clause-some : goal.write_both-written-requires-clause-some
write_both-written-requires-clause-some g c =
    let m = mirrored c.self.inside in
    (c.self.invariant.ready (is_ready g.A.Disk.told g.B.Disk.told g.met.A.Disk.tells_bound g.met.B.Disk.tells_bound m c.args.self.now c.self.view_is c.requires.ready)).some

pub write_both-written-requires-clause-first : goal.write_both-written-requires-clause-first
write_both-written-requires-clause-first g c =
    let m = mirrored c.self.inside in
    let ready = is_ready g.A.Disk.told g.B.Disk.told g.met.A.Disk.tells_bound g.met.B.Disk.tells_bound m c.args.self.now c.self.view_is c.requires.ready in
    let all = bound_as g.A.Disk.told g.B.Disk.told g.met.A.Disk.tells_bound g.met.B.Disk.tells_bound m c.args.self.now c.self.view_is c.self.invariant c.requires.ready in
    may_call g.A.Disk.told c.self.inside.a m.paths c.args.file (c.self.invariant.ready ready).on_a c.self.invariant.few (subst (λ n. c.args.file < n) all c.requires.named)

pub write_both-written-requires-clause-second : goal.write_both-written-requires-clause-second
write_both-written-requires-clause-second g c =
    let m = mirrored c.self.inside in
    let ready = is_ready g.A.Disk.told g.B.Disk.told g.met.A.Disk.tells_bound g.met.B.Disk.tells_bound m c.args.self.now c.self.view_is c.requires.ready in
    let all = bound_as g.A.Disk.told g.B.Disk.told g.met.A.Disk.tells_bound g.met.B.Disk.tells_bound m c.args.self.now c.self.view_is c.self.invariant c.requires.ready in
    may_call g.B.Disk.told c.self.inside.b m.paths c.args.file (c.self.invariant.ready ready).on_b c.self.invariant.few (subst (λ n. c.args.file < n) all c.requires.named)

pub invariant_of-self : goal.invariant_of-self
invariant_of-self g c =
    let m = mirrored c.self.inside in
    let all = bound_as g.A.Disk.told g.B.Disk.told g.met.A.Disk.tells_bound g.met.B.Disk.tells_bound m c.args.self.now c.self.view_is c.self.invariant c.requires.ready in
    let ready = is_ready g.A.Disk.told g.B.Disk.told g.met.A.Disk.tells_bound g.met.B.Disk.tells_bound m c.args.self.now c.self.view_is c.requires.ready in
    write_sound g.A.Disk.told g.B.Disk.told g.met.A.Disk.tells_bound g.met.B.Disk.tells_bound m _ c.args.file c.args.from c.args.bytes.now c.write_both-written.result
    (subst (λ n. c.args.file < n) all c.requires.named) c.requires.within c.self.invariant ready c.write_both-written.ensures.both (record {
      paths = refl;
      binds = refl;
      is_ready = refl;
      is_alike = refl;
      is_even = refl;
      calls = c.count.ensures.calls;
      faults = c.count.ensures.faults ∙ ap (λ b. if b then one_more c.self.inside.counts.faults else c.self.inside.counts.faults) c.is_err.ensures.value;
      earlier = c.count.ensures.earlier;
    })

pub returns : goal.returns
returns g c =
    let m = mirrored c.self.inside in
    let says = write_says g.A.Disk.told g.B.Disk.told g.met.A.Disk.tells_bound g.met.B.Disk.tells_bound m c.args.self.now _ c.args.file c.args.from c.args.bytes.now
    c.write_both-written.result c.self.view_is c.self.invariant c.requires.ready c.count.ensures.few c.write_both-written.ensures.both (record {
      paths = refl;
      binds = refl;
      is_ready = refl;
      is_alike = refl;
      is_even = refl;
      calls = c.count.ensures.calls;
      faults = c.count.ensures.faults ∙ ap (λ b. if b then one_more c.self.inside.counts.faults else c.self.inside.counts.faults) c.is_err.ensures.value;
      earlier = c.count.ensures.earlier;
    }) in
    record {
      told = says.told;
      earlier = says.earlier;
      sides = says.sides;
      blame = says.blame;
      equal = says.equal;
      same = says.same;
    }
