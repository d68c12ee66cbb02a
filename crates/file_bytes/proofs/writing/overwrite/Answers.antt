use Rattle.std.proofs.Common.{◌≢◌, [], arith}
use Rattle.file_bytes.proofs.Lengthened.{put_back}
use Rattle.file_bytes.proofs.writing.overwrite.Goals as goal

pub returns-clause-items : goal.returns-clause-items
returns-clause-items c =
    let some : c.args.bytes.now ≢ [] = λ e. grind (arith, c.is_empty.ensures, c.if-is_empty.false, e) in
    put_back _ _ c.lengthen.new.file.items c.as_mut_slice.result.now _ _ _ some c.lengthen.ensures.items c.as_mut_slice.ensures.value
    c.as_mut_slice.ensures.len c.replace_at.auto.file c.replace_at.ensures
