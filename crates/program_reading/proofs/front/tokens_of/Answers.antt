use Rattle.std.proofs.lemmas.Result.{err_from_is_err_and}
use Rattle.program_reading.proofs.Stopping.{lex_stops}
use Rattle.program_reading.proofs.front.tokens_of.Goals as goal

pub returns-in_err-tokens : goal.returns-in_err-tokens
returns-in_err-tokens c =
    let p = err_from_is_err_and c.from_residual.result c.from_residual.ensures.1 in let e = c.in_err-tokens.ensures in
    λ task. rw (p.1, p.2) (lex_stops c.args.source.now task _ e.too_long.0 e.lexes e.only)
