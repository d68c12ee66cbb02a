use Rattle.std.proofs.Common.{◌≡◌, true, sym, ap, ◌∙◌, subst}
use Rattle.std.specs.Prelude.{◌||◌, string_bytes}
use Rattle.std.proofs.lemmas.List.{length-map}
use Rattle.ac_mirror_disk.specs.Rebuilding.{Rebuilds}
use Rattle.ac_mirror_disk.specs.inner.Restoring.{first, second}
use Rattle.ac_mirror_disk.proofs.rebuilding.rebuild_sides.Goals as goal

pub returns-else-b : goal.returns-else-b
returns-else-b g c =
    let r = c.rebuild_side.ensures in
    second c.if-a.true c.if-b.false
    (subst (λ n. Rebuilds g.A.Disk.told g.B.Disk.told c.args.a.now c.rebuild_side.new.s c.args.b.now c.rebuild_side.new.t n c.rebuild_side.result) (sym
    (length-map c.args.paths.now string_bytes)) r.rebuilds) r.restores

pub returns-else-a : goal.returns-else-a
returns-else-a g c =
    let r = c.rebuild_side-else-a.ensures in
    let other : c.args.b.now.in_use ≡ true = sym (ap (λ b. b || c.args.b.now.in_use) c.if-a.false) ∙ c.requires.some in
    first c.if-a.false other
    (subst (λ n. Rebuilds g.B.Disk.told g.A.Disk.told c.args.b.now c.rebuild_side-else-a.new.s c.args.a.now c.rebuild_side-else-a.new.t n c.rebuild_side-else-a.result) (sym
    (length-map c.args.paths.now string_bytes)) r.rebuilds)
    r.restores
