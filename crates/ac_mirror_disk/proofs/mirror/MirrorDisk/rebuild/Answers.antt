use Rattle.std.proofs.Common.{◌≢◌, ◌≤◌, List, ℕ, length, map, refl, sym, ap, ◌∙◌, subst}
use Rattle.std.specs.Prelude.{AllPairs, string_bytes}
use Rattle.std.proofs.lemmas.List.{length-map}
use Rattle.ac_mirror_disk.specs.Mirrors.{Mirrored}
use Rattle.ac_mirror_disk.specs.Rebuilding.{AreShort, alike_after}
use Rattle.ac_mirror_disk.specs.Fields.{mirrored}
use Rattle.ac_mirror_disk.specs.inner.Restoring.{RebuildsSides}
use Rattle.ac_mirror_disk.specs.Sound.{IsKept}
use Rattle.ac_mirror_disk.proofs.Clauses.{is_ready}
use Rattle.ac_mirror_disk.proofs.MirrorRestored.{may_as, rebuilt_sound, rebuild_says}
use Rattle.ac_mirror_disk.proofs.mirror.MirrorDisk.rebuild.Goals as goal

pub rebuild_sides-rebuilt-requires-clause-first : goal.rebuild_sides-rebuilt-requires-clause-first
rebuild_sides-rebuilt-requires-clause-first g c =
    let m = mirrored c.self.inside in
    let ready = is_ready g.A.Disk.told g.B.Disk.told g.met.A.Disk.tells_bound g.met.B.Disk.tells_bound m c.args.self.now c.self.view_is c.requires.may.ready in
    subst (λ paths. IsKept g.A.Disk.told c.self.inside.a (map string_bytes paths)) (sym c.bound.ensures) (c.self.invariant.ready ready).on_a

pub rebuild_sides-rebuilt-requires-clause-second : goal.rebuild_sides-rebuilt-requires-clause-second
rebuild_sides-rebuilt-requires-clause-second g c =
    let m = mirrored c.self.inside in
    let ready = is_ready g.A.Disk.told g.B.Disk.told g.met.A.Disk.tells_bound g.met.B.Disk.tells_bound m c.args.self.now c.self.view_is c.requires.may.ready in
    subst (λ paths. IsKept g.B.Disk.told c.self.inside.b (map string_bytes paths)) (sym c.bound.ensures) (c.self.invariant.ready ready).on_b

pub rebuild_sides-rebuilt-requires-clause-some : goal.rebuild_sides-rebuilt-requires-clause-some
rebuild_sides-rebuilt-requires-clause-some g c =
    let m = mirrored c.self.inside in
    (c.self.invariant.ready (is_ready g.A.Disk.told g.B.Disk.told g.met.A.Disk.tells_bound g.met.B.Disk.tells_bound m c.args.self.now c.self.view_is c.requires.may.ready)).some

pub rebuild_sides-rebuilt-requires-clause-few : goal.rebuild_sides-rebuilt-requires-clause-few
rebuild_sides-rebuilt-requires-clause-few g c =
    let few = c.self.invariant.few in
    let long = length-map c.self.inside.paths.bound.items string_bytes in
    subst (λ paths. length paths ≤ 16) (sym c.bound.ensures) (subst (λ n. n ≤ 16) long few)

pub rebuild_sides-rebuilt-requires-clause-differ : goal.rebuild_sides-rebuilt-requires-clause-differ
rebuild_sides-rebuilt-requires-clause-differ g c =
    let m = mirrored c.self.inside in
    let ready = is_ready g.A.Disk.told g.B.Disk.told g.met.A.Disk.tells_bound g.met.B.Disk.tells_bound m c.args.self.now c.self.view_is c.requires.may.ready in
    subst (λ paths. AllPairs (λ (p q : List ℕ). p ≢ q) (map string_bytes paths)) (sym c.bound.ensures) (c.self.invariant.ready ready).differ

pub rebuild_sides-rebuilt-requires-clause-short_a : goal.rebuild_sides-rebuilt-requires-clause-short_a
rebuild_sides-rebuilt-requires-clause-short_a g c = λ out.
    let m = mirrored c.self.inside in
    let long = length-map c.self.inside.paths.bound.items string_bytes in
    let short = (may_as m c.args.self.now c.self.view_is c.requires.may).short_a out in
    subst (λ paths. AreShort c.self.inside.a.lens (length paths)) (sym c.bound.ensures) (subst (AreShort c.self.inside.a.lens) long short)

pub rebuild_sides-rebuilt-requires-clause-short_b : goal.rebuild_sides-rebuilt-requires-clause-short_b
rebuild_sides-rebuilt-requires-clause-short_b g c = λ out.
    let m = mirrored c.self.inside in
    let long = length-map c.self.inside.paths.bound.items string_bytes in
    let short = (may_as m c.args.self.now c.self.view_is c.requires.may).short_b out in
    subst (λ paths. AreShort c.self.inside.b.lens (length paths)) (sym c.bound.ensures) (subst (AreShort c.self.inside.b.lens) long short)

pub invariant_of-self : goal.invariant_of-self
invariant_of-self g c =
    let m = mirrored c.self.inside in
    let ready = is_ready g.A.Disk.told g.B.Disk.told g.met.A.Disk.tells_bound g.met.B.Disk.tells_bound m c.args.self.now c.self.view_is c.requires.may.ready in
    let r = subst (λ paths. RebuildsSides g.A.Disk.told g.B.Disk.told c.self.inside.a c.rebuild_sides-rebuilt.new.a c.self.inside.b c.rebuild_sides-rebuilt.new.b
    (map string_bytes paths) c.self.inside.is_even
    c.rebuild_sides-rebuilt.new.even c.rebuild_sides-rebuilt.result) c.bound.ensures c.rebuild_sides-rebuilt.ensures in
    rebuilt_sound g.A.Disk.told g.B.Disk.told m _ c.rebuild_sides-rebuilt.result c.self.invariant ready r refl c.stays_alike-self-inside.ensures c.stays_ready-self-inside.ensures refl

pub returns : goal.returns
returns g c =
    let m = mirrored c.self.inside in
    let r = subst (λ paths. RebuildsSides g.A.Disk.told g.B.Disk.told c.self.inside.a c.rebuild_sides-rebuilt.new.a c.self.inside.b c.rebuild_sides-rebuilt.new.b
    (map string_bytes paths) c.self.inside.is_even
    c.rebuild_sides-rebuilt.new.even c.rebuild_sides-rebuilt.result) c.bound.ensures c.rebuild_sides-rebuilt.ensures in
    let says = rebuild_says g.A.Disk.told g.B.Disk.told m c.args.self.now c.rebuild_sides-rebuilt.new.a c.rebuild_sides-rebuilt.new.b c.rebuild_sides-rebuilt.new.even c.rebuild_sides-rebuilt.result
    c.self.view_is r in
    record {
      nothing = says.nothing_done;
      second = says.second_done;
      first = says.first_done;
      tells = says.tells;
      ready = c.stays_ready-self-inside.ensures;
      alike = c.stays_alike-self-inside.ensures ∙ ap (λ alike. alike_after c.rebuild_sides-rebuilt.result alike c.rebuild_sides-rebuilt.new.even) (ap (λ
          (x : Mirrored _ _). x.is_alike) c.self.view_is);
      paths = ap (λ (x : Mirrored _ _). x.paths) c.self.view_is;
      counts = (ap (λ (x : Mirrored _ _). x.calls) c.self.view_is, ap (λ (x : Mirrored _ _). x.faults) c.self.view_is, ap (λ (x : Mirrored _ _). x.earlier) c.self.view_is);
    }
