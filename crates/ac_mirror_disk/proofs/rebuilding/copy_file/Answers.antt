use Rattle.std.proofs.Common.{◌≡◌, ◌*◌, ◌+◌, ◌-◌, ◌<◌, min, length, take, true, sym, subst, arith}
use Rattle.std.specs.Prelude.{slice_index}
use Rattle.std.proofs.lemmas.Grind.{common_steps}
use Rattle.ac_mirror_disk.specs.inner.Copying.{HasJoined, Copies}
use Rattle.ac_mirror_disk.proofs.ReadOnly.{pieces_of, within}
use Rattle.ac_mirror_disk.proofs.Copied.{Now, now_at_first, none_joined}
use Rattle.ac_mirror_disk.proofs.CopySteps.{reads_none, reads_then, rewrites_none, rewrites_then, may_still, copy_rewrites, piece_on, rises_on}
use Rattle.ac_mirror_disk.proofs.rebuilding.copy_file.Goals as goal

pub loop-number-init : goal.loop-number-init
loop-number-init g c =
    let len = slice_index c.args.s.now.lens c.args.file in
    let none : min 0 len ≡ 0 = omega arith in
    record {
      room = c.requires.room;
      reads = reads_none g.S.Disk.told c.args.s.now;
      rewrites = rewrites_none g.T.Disk.told c.args.t.now;
      copied = subst (λ k. Now (HasJoined c.args.file len k) (g.S.Disk.told c.args.s.now.disk).held (g.T.Disk.told c.args.t.now.disk).held (g.T.Disk.told c.args.t.now.disk).held) (sym none)
          (now_at_first (HasJoined c.args.file len 0) (none_joined c.args.file len) (g.S.Disk.told c.args.s.now.disk).held (g.T.Disk.told c.args.t.now.disk).held);
    }

pub copy_piece-requires-clause-may : goal.copy_piece-requires-clause-may
copy_piece-requires-clause-may g c =
    may_still g.S.Disk.told g.T.Disk.told g.met.T.Disk.tells_bound c.args.s.now c.loop-number.s c.args.t.now c.loop-number.t c.args.file c.requires.may c.loop-number.invariant.reads
    c.loop-number.invariant.rewrites

pub loop-number-preserved : goal.loop-number-preserved
loop-number-preserved g c =
    let len = slice_index c.args.s.now.lens c.args.file in
    let i = c.loop-number.invariant in
    let less : c.loop-number.number < pieces_of len = subst (λ n. c.loop-number.number < n) c.div_ceil-number-end.ensures c.loop-number-test.true in
    let inside = within len c.loop-number.number less in
    let want : length (take c.min-want.result c.loop-number.piece) ≡ min 65536 (len - c.loop-number.number * 65536) = grind (arith, common_steps, c.min-want.ensures, i.room, inside) in
    let short = c.requires.short in
    let may = may_still g.S.Disk.told g.T.Disk.told g.met.T.Disk.tells_bound c.args.s.now c.loop-number.s c.args.t.now c.loop-number.t c.args.file c.requires.may i.reads i.rewrites in
    let done = subst (Copies g.S.Disk.told g.T.Disk.told c.loop-number.s c.copy_piece.new.s c.loop-number.t c.copy_piece.new.t c.args.file (c.loop-number.number * 65536) (length
    (take c.min-want.result c.loop-number.piece)))
    c.if-not-copy_piece.false c.copy_piece.ensures in
    let before : min (c.loop-number.number * 65536) len ≡ c.loop-number.number * 65536 = omega (arith, inside) in
    let count : c.loop-number.number * 65536 + length (take c.min-want.result c.loop-number.piece) ≡ min ((c.loop-number.number + 1) * 65536) len = omega (arith, want, inside) in
    record {
      room = grind (arith, common_steps, c.copy_piece.auto.piece, i.room);
      reads = reads_then g.S.Disk.told c.args.s.now c.loop-number.s c.copy_piece.new.s i.reads done.reads;
      rewrites = rewrites_then g.T.Disk.told c.args.t.now c.loop-number.t c.copy_piece.new.t i.rewrites
          (copy_rewrites g.S.Disk.told g.T.Disk.told g.met.T.Disk.tells_bound c.loop-number.s c.copy_piece.new.s c.loop-number.t c.copy_piece.new.t c.args.file (c.loop-number.number * 65536)
          (length (take c.min-want.result c.loop-number.piece)) true may (omega (arith, want, inside, short)) done);
      copied = piece_on g.S.Disk.told g.T.Disk.told g.met.T.Disk.tells_bound c.args.s.now c.loop-number.s c.copy_piece.new.s c.args.t.now c.loop-number.t c.copy_piece.new.t c.args.file len
          (c.loop-number.number * 65536) (length (take c.min-want.result c.loop-number.piece)) (min ((c.loop-number.number + 1) * 65536) len) i.reads c.requires.may.named_t done count (omega arith)
          (omega (arith, want, inside))
          (subst (λ k. Now (HasJoined c.args.file len k) (g.S.Disk.told c.args.s.now.disk).held (g.T.Disk.told c.args.t.now.disk).held (g.T.Disk.told c.loop-number.t.disk).held) before i.copied);
    }

pub returns-then-not-copy_piece : goal.returns-then-not-copy_piece
returns-then-not-copy_piece g c =
    let len = slice_index c.args.s.now.lens c.args.file in
    let i = c.loop-number.invariant in
    let less : c.loop-number.number < pieces_of len = subst (λ n. c.loop-number.number < n) c.div_ceil-number-end.ensures c.loop-number-test.true in
    let inside = within len c.loop-number.number less in
    let want : length (take c.min-want.result c.loop-number.piece) ≡ min 65536 (len - c.loop-number.number * 65536) = grind (arith, common_steps, c.min-want.ensures, i.room, inside) in
    let short = c.requires.short in
    let may = may_still g.S.Disk.told g.T.Disk.told g.met.T.Disk.tells_bound c.args.s.now c.loop-number.s c.args.t.now c.loop-number.t c.args.file c.requires.may i.reads i.rewrites in
    record {
      reads = reads_then g.S.Disk.told c.args.s.now c.loop-number.s c.copy_piece.new.s i.reads c.copy_piece.ensures.reads;
      rewrites = rewrites_then g.T.Disk.told c.args.t.now c.loop-number.t c.copy_piece.new.t i.rewrites
          (copy_rewrites g.S.Disk.told g.T.Disk.told g.met.T.Disk.tells_bound c.loop-number.s c.copy_piece.new.s c.loop-number.t c.copy_piece.new.t c.args.file (c.loop-number.number * 65536)
          (length (take c.min-want.result c.loop-number.piece)) c.copy_piece.result may (omega (arith, want, inside, short)) c.copy_piece.ensures);
      blame = λ _. rises_on g.S.Disk.told g.T.Disk.told g.met.T.Disk.tells_bound c.args.s.now c.loop-number.s c.copy_piece.new.s c.args.t.now c.loop-number.t c.copy_piece.new.t i.reads.reads.later
          i.rewrites.later
          (c.copy_piece.ensures.blame c.if-not-copy_piece.true);
      copied = λ e. absurd (cc e);
    }
