use Rattle.std.proofs.Common.{◌<◌, refl, subst, arith}
use Rattle.std.proofs.lemmas.Grind.{common_steps}
use Rattle.starting_files.proofs.Reading.{next, halted, within}
use Rattle.std.proofs.lemmas.Result.{err_from_is_err_and}
use Rattle.starting_files.specs.Starting.{reads_of}
use Rattle.starting_files.proofs.pieces.read_whole.Goals as goal

pub returns-in_err-read_piece-clause-told : goal.returns-in_err-read_piece-clause-told
returns-in_err-read_piece-clause-told g c =
    let r = c.in_err-read_piece in
    let less : c.loop-number.number < reads_of c.args.len = subst (λ n. c.loop-number.number < n) c.div_ceil-number-end.ensures c.loop-number-test.true in
    let p = err_from_is_err_and c.from_residual-in_err-read_piece.result c.from_residual-in_err-read_piece.ensures.1 in
    rw (p.1, p.2) (halted _ _ _ c.args.file c.args.len c.loop-number.number _ r.field-0.0 c.loop-number.invariant.made r.ensures.told less r.ensures.below)

pub loop-number-preserved : goal.loop-number-preserved
loop-number-preserved g c =
    let less : c.loop-number.number < reads_of c.args.len = subst (λ n. c.loop-number.number < n) c.div_ceil-number-end.ensures c.loop-number-test.true in
    let inside = within c.args.len c.loop-number.number less in
    record {
      piece = grind (arith, common_steps, c.deref_mut.ensures.len, c.read_piece.auto.piece, c.loop-number.invariant.piece);
      none = grind (arith, common_steps, c.in_ok-read_piece.ensures.none);
      well = grind (arith, common_steps, c.in_ok-read_piece.ensures.cause);
      few = grind (arith, common_steps, inside, c.in_ok-read_piece.ensures.few, c.loop-number.invariant.few, c.min-want.ensures, c.deref_mut.ensures.len);
      silent = λ e. c.in_ok-read_piece.ensures.silent (c.loop-number.invariant.silent e);
      made = next _ _ _ _ c.args.file c.args.len _ _ c.loop-number.number _ _ c.in_ok-read_piece.field-0 c.loop-number.invariant.made c.in_ok-read_piece.ensures.told refl (grind
          (arith, common_steps, c.min-want.ensures, c.deref_mut.ensures.len, c.loop-number.invariant.piece, inside)) less;
    }
