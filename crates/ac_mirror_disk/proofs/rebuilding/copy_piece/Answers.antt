use Rattle.std.proofs.Common.{take, Some, refl, sym, ◌∙◌, inr, arith}
use Rattle.std.proofs.lemmas.List.{length-take}
use Rattle.ac_mirror_disk.proofs.ReadOnly.{read_by}
use Rattle.ac_mirror_disk.proofs.CopySteps.{rose_by, ok_is}
use Rattle.ac_mirror_disk.proofs.rebuilding.copy_piece.Goals as goal

pub returns : goal.returns
returns g c =
    let e = c.in-Ok.ensures in
    let long = length-take c.in-Ok.count c.read_at.new.into in
    let same = c.read_at.auto.into in
    record {
      reads = record { reads = read_by (g.S.Disk.told c.args.s.now.disk) (g.S.Disk.told c.read_at.new.self) e.none e.same e.silent e.cause.later; lens = refl; in_use = refl };
      written = Some c.write_now.result;
      bytes = take c.in-Ok.count c.read_at.new.into;
      few = omega (arith, long, same);
      writes = (c.write_now.ensures.written, c.write_now.ensures.lens);
      in_use = c.write_now.ensures.in_use;
      blame = λ f. inr (rose_by (g.T.Disk.told c.args.t.now.disk).faults (g.T.Disk.told c.write_now.new.self.disk).faults c.write_now.result (sym c.is_ok.ensures.value
          ∙ f) c.write_now.ensures.written.cause);
      well = λ f. ok_is c.write_now.result (sym c.is_ok.ensures.value ∙ f);
      given = λ _. e.bytes;
    }
