use Rattle.std.proofs.Common.{◌<◌, subst, arith}
use Rattle.std.proofs.lemmas.Grind.{common_steps}
use Rattle.ac_mirror_disk.specs.inner.Copying.{HasCopied, CopiesFile}
use Rattle.ac_mirror_disk.proofs.Copied.{now_at_first, none_copied}
use Rattle.ac_mirror_disk.proofs.CopySteps.{reads_none, reads_then, rewrites_none, rewrites_then, file_on}
use Rattle.ac_mirror_disk.proofs.rebuilding.copy_files.Goals as goal

pub loop-file-init : goal.loop-file-init
loop-file-init g c = record {
  room = c.requires.room;
  reads = reads_none g.S.Disk.told c.args.s.now;
  rewrites = rewrites_none g.T.Disk.told c.args.t.now;
  copied = now_at_first (HasCopied c.args.s.now.lens c.args.count 0) (none_copied c.args.s.now.lens c.args.count) (g.S.Disk.told c.args.s.now.disk).held (g.T.Disk.told c.args.t.now.disk).held;
}

pub loop-file-preserved : goal.loop-file-preserved
loop-file-preserved g c =
    let i = c.loop-file.invariant in
    let less : c.loop-file.file < c.args.count = c.loop-file-test.true in
    let done = subst (CopiesFile g.S.Disk.told g.T.Disk.told c.loop-file.s c.copy_file.new.s c.loop-file.t c.copy_file.new.t c.loop-file.file) c.if-not-copy_file.false c.copy_file.ensures in
    record {
      room = grind (arith, common_steps, c.copy_file.auto.piece, i.room);
      reads = reads_then g.S.Disk.told c.args.s.now c.loop-file.s c.copy_file.new.s i.reads done.reads;
      rewrites = rewrites_then g.T.Disk.told c.args.t.now c.loop-file.t c.copy_file.new.t i.rewrites done.rewrites;
      copied = file_on g.S.Disk.told g.T.Disk.told g.met.T.Disk.tells_bound c.args.s.now c.loop-file.s c.copy_file.new.s c.args.t.now c.loop-file.t c.copy_file.new.t c.args.count c.loop-file.file
          i.reads less
          (c.requires.may c.loop-file.file less).named_t done i.copied;
    }
