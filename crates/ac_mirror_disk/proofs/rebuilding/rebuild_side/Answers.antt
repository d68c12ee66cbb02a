use Rattle.std.proofs.Common.{length, map, true, refl, sym, ◌∙◌, subst, inl, inr}
use Rattle.std.specs.Prelude.{string_bytes}
use Rattle.std.proofs.lemmas.List.{length-map}
use Rattle.ac_mirror_disk.specs.Rebuilding.{longer, torn, copied, IsNoneLonger, AreShort}
use Rattle.ac_mirror_disk.specs.inner.Copying.{CopiesFiles}
use Rattle.ac_mirror_disk.proofs.ReadOnly.{rose_on}
use Rattle.ac_mirror_disk.proofs.Restored.{equal_after}
use Rattle.ac_mirror_disk.proofs.rebuilding.rebuild_side.Goals as goal

pub returns-in-Some-clause-rebuilds : goal.returns-in-Some-clause-rebuilds
returns-in-Some-clause-rebuilds g c = longer c.in-Some.file refl c.in-Some.ensures.some refl (c.bind_rest.ensures.in_use ∙ c.requires.out) c.bind_rest.ensures.only
    (c.bind_rest.ensures.whole c.in-Ok.is ∙ length-map c.args.paths.now string_bytes) c.bind_rest.ensures.later

pub returns-then-copy_all-clause-rebuilds : goal.returns-then-copy_all-clause-rebuilds
returns-then-copy_all-clause-rebuilds g c =
    let none = c.first_longer.ensures.none c.in_default.is in
    let long = sym (length-map c.args.paths.now string_bytes) in
    let done = subst (CopiesFiles g.S.Disk.told g.T.Disk.told c.args.s.now c.copy_all.new.s c.bind_rest.new.t c.copy_all.new.t
    (length c.args.paths.now)) c.if-copy_all.true c.copy_all.ensures in
    copied c.bind_rest.new.t refl c.bind_rest.ensures.only (c.bind_rest.ensures.whole c.in-Ok.is ∙ length-map c.args.paths.now string_bytes) none refl (c.copy_all.ensures.reads.in_use
    ∙ c.requires.in_use)
    (equal_after g.S.Disk.told g.T.Disk.told g.met.S.Disk.tells_bound g.met.T.Disk.tells_bound c.args.s.now c.copy_all.new.s c.args.t.now c.bind_rest.new.t c.copy_all.new.t
    (map string_bytes c.args.paths.now)
    c.bind_rest.result c.requires.first c.requires.in_use c.bind_rest.ensures c.in-Ok.is (subst (IsNoneLonger c.args.s.now.lens c.bind_rest.new.t.lens) long none) (subst
    (AreShort c.args.s.now.lens) long c.requires.short)
    (subst (λ n. CopiesFiles g.S.Disk.told g.T.Disk.told c.args.s.now c.copy_all.new.s c.bind_rest.new.t c.copy_all.new.t n true) long done))

pub returns-else-copy_all-clause-rebuilds : goal.returns-else-copy_all-clause-rebuilds
returns-else-copy_all-clause-rebuilds g c =
    torn c.bind_rest.new.t refl c.bind_rest.ensures.only (c.bind_rest.ensures.whole c.in-Ok.is ∙ length-map c.args.paths.now string_bytes)
    (c.first_longer.ensures.none c.in_default.is) (c.copy_all.ensures.rewrites.in_use ∙ (c.bind_rest.ensures.in_use ∙ c.requires.out))
    (c.copy_all.ensures.reads.in_use ∙ c.requires.in_use)
    (elim (c.copy_all.ensures.blame c.if-copy_all.false) [
      | inl r ↦ inl r
      | inr r ↦ inr (rose_on (g.T.Disk.told c.args.t.now.disk).faults (g.T.Disk.told c.bind_rest.new.t.disk).faults (g.T.Disk.told c.copy_all.new.t.disk).faults c.bind_rest.ensures.later r)
    ])
