use Rattle.std.proofs.Common.{◌≡◌, ◌<◌, drop, List, ℕ, Ok, sym, ap, ◌∙◌, subst, arith}
use Rattle.std.proofs.lemmas.List.{drop_all}
use Rattle.std.proofs.lemmas.Result.{err_from_is_err_and}
use Rattle.ac_lexer.specs.inner.Reading.{Gives, piece_at}
use Rattle.ac_lexer.proofs.Runs.{rest_is, rest_long, rest_within}
use Rattle.ac_lexer.proofs.Numbers.{lost}
use Rattle.ac_lexer.proofs.WholeText.{so_more, so_end, only_end, err_lexes, err_only, err_not_long, moves}
use Rattle.ac_lexer.proofs.lexer.tokens_of.Goals as goal

pub returns-in_err-piece-clause-lexes : goal.returns-in_err-piece-clause-lexes
returns-in_err-piece-clause-lexes c =
    let p = err_from_is_err_and c.from_residual.result c.from_residual.ensures.1 in
    let e : Gives (lost c.in_err-piece.field-0.0) (piece_at c.pieces.at (drop c.pieces.at c.args.text.now)) =
    subst (λ (bs : List ℕ). Gives (lost c.in_err-piece.field-0.0) (piece_at c.pieces.at bs)) (rest_is c.pieces.at c.args.text.now) c.in_err-piece.ensures.gives in
    rw (p.1, p.2) (err_lexes c.args.text.now c.pieces.tokens c.pieces.at c.in_err-piece.field-0.0 c.pieces-test.true e c.pieces.invariant.so)

pub returns-in_err-piece-clause-only : goal.returns-in_err-piece-clause-only
returns-in_err-piece-clause-only c =
    let p = err_from_is_err_and c.from_residual.result c.from_residual.ensures.1 in
    let e : Gives (lost c.in_err-piece.field-0.0) (piece_at c.pieces.at (drop c.pieces.at c.args.text.now)) =
    subst (λ (bs : List ℕ). Gives (lost c.in_err-piece.field-0.0) (piece_at c.pieces.at bs)) (rest_is c.pieces.at c.args.text.now) c.in_err-piece.ensures.gives in
    rw (p.1, p.2) (err_only c.args.text.now c.pieces.tokens c.pieces.at c.in_err-piece.field-0.0 c.pieces-test.true e c.pieces.invariant.so)

pub returns-in_err-piece-clause-not_long : goal.returns-in_err-piece-clause-not_long
returns-in_err-piece-clause-not_long c =
    let p = err_from_is_err_and c.from_residual.result c.from_residual.ensures.1 in
    let e : Gives (lost c.in_err-piece.field-0.0) (piece_at c.pieces.at (drop c.pieces.at c.args.text.now)) =
    subst (λ (bs : List ℕ). Gives (lost c.in_err-piece.field-0.0) (piece_at c.pieces.at bs)) (rest_is c.pieces.at c.args.text.now) c.in_err-piece.ensures.gives in
    rw (p.1, p.2) (err_not_long c.args.text.now c.pieces.tokens c.pieces.at c.in_err-piece.field-0.0 c.pieces-test.true e c.pieces.invariant.so)

pub pieces-smaller : goal.pieces-smaller
pieces-smaller c =
    let e : piece_at c.pieces.at (drop c.pieces.at c.args.text.now) ≡ Ok c.in_ok-piece.piece = ap (piece_at c.pieces.at) (sym (rest_is c.pieces.at c.args.text.now)) ∙ c.in_ok-piece.ensures.gives in
    let n : 0 < c.in_ok-piece.piece.len = moves c.pieces.at (drop c.pieces.at c.args.text.now) c.in_ok-piece.piece (rest_long c.pieces.at c.args.text.now c.pieces-test.true) e in
    omega (arith, n, c.pieces-test.true)

pub pieces-preserved : goal.pieces-preserved
pieces-preserved c =
    let e : piece_at c.pieces.at (drop c.pieces.at c.args.text.now) ≡ Ok c.in_ok-piece.piece = ap (piece_at c.pieces.at) (sym (rest_is c.pieces.at c.args.text.now)) ∙ c.in_ok-piece.ensures.gives in
    record {
      so = so_more c.args.text.now c.pieces.tokens c.add.new.tokens c.pieces.at c.in_ok-piece.piece c.pieces-test.true e c.in_ok-add.ensures c.pieces.invariant.so;
      within = rest_within c.pieces.at c.in_ok-piece.piece.len c.args.text.now c.pieces.invariant.within c.in_ok-piece.ensures.within;
    }

pub returns-clause-lexes : goal.returns-clause-lexes
returns-clause-lexes c = so_end c.args.text.now c.pieces.tokens c.pieces.at (drop c.pieces.at c.args.text.now) (drop_all c.pieces.at c.args.text.now c.pieces-test.false) c.pieces.invariant.so

pub returns-clause-only : goal.returns-clause-only
returns-clause-only c = only_end c.args.text.now c.pieces.tokens c.pieces.at (drop c.pieces.at c.args.text.now) (drop_all c.pieces.at c.args.text.now c.pieces-test.false) c.pieces.invariant.so
