use Rattle.std.proofs.Common.{◌≡◌, ◌*◌, ◌+◌, ◌-◌, ◌<◌, min, length, take, refl, sym, ap, ◌∙◌, subst, arith}
use Rattle.std.proofs.lemmas.Grind.{common_steps}
use Rattle.ac_outside.specs.Files.{file_of}
use Rattle.ac_mirror_disk.specs.inner.Comparing.{HaveSameFront, HaveSamePart}
use Rattle.ac_mirror_disk.proofs.ReadOnly.{not_read, read_on, both_hold, both_give, both_before, front_on, pieces_of, within}
use Rattle.ac_mirror_disk.proofs.comparing.compare_files.Goals as goal

pub loop-number-init : goal.loop-number-init
loop-number-init g c =
    let none : min 0 c.args.len ≡ 0 = omega arith in
    record {
      one = c.requires.room.0;
      other = c.requires.room.1;
      reads_a = not_read (g.A.Disk.told c.args.a.now);
      reads_b = not_read (g.B.Disk.told c.args.b.now);
      front = both_hold (HaveSameFront c.args.file (min 0 c.args.len)) (g.A.Disk.told c.args.a.now).held (g.B.Disk.told c.args.b.now).held
          (λ x y. ap (λ n. take n (file_of x.files c.args.file).bytes) none ∙ sym (ap (λ n. take n (file_of y.files c.args.file).bytes) none));
    }

pub loop-number-preserved : goal.loop-number-preserved
loop-number-preserved g c =
    let less : c.loop-number.number < pieces_of c.args.len = subst (λ n. c.loop-number.number < n) c.div_ceil-number-end.ensures c.loop-number-test.true in
    let inside = within c.args.len c.loop-number.number less in
    let i = c.loop-number.invariant in
    let want : length (take c.min-want.result c.loop-number.first) ≡ min 65536 (c.args.len - c.loop-number.number * 65536) = grind (arith, common_steps, c.min-want.ensures, i.one, inside) in
    let piece = both_before (HaveSamePart c.args.file (c.loop-number.number * 65536) (length (take c.min-want.result c.loop-number.first))) (λ x y n m h. h)
    (g.A.Disk.told c.args.a.now) (g.A.Disk.told c.loop-number.a) (g.B.Disk.told c.args.b.now) (g.B.Disk.told c.loop-number.b) i.reads_a i.reads_b c.in-Same.ensures.finds in
    record {
      one = grind (arith, common_steps, c.compare_piece.auto.first, i.one);
      other = grind (arith, common_steps, c.compare_piece.auto.second, i.other);
      reads_a = read_on (g.A.Disk.told c.args.a.now) (g.A.Disk.told c.loop-number.a) (g.A.Disk.told c.compare_piece.new.a) i.reads_a c.compare_piece.ensures.reads_a;
      reads_b = read_on (g.B.Disk.told c.args.b.now) (g.B.Disk.told c.loop-number.b) (g.B.Disk.told c.compare_piece.new.b) i.reads_b c.compare_piece.ensures.reads_b;
      front = both_give (HaveSameFront c.args.file (min (c.loop-number.number * 65536) c.args.len)) _ (HaveSameFront c.args.file (min ((c.loop-number.number + 1) * 65536) c.args.len))
          (g.A.Disk.told c.args.a.now).held (g.B.Disk.told c.args.b.now).held
          (λ x y front part. front_on c.args.file c.args.len (c.loop-number.number * 65536) _ c.loop-number.number x y refl want inside front part) i.front piece;
    }
