use Rattle.std.proofs.Common.{arith}
use Rattle.std.proofs.lemmas.Result.{err_from_is_err_and}
use Rattle.ac_parser.proofs.Shaped.{spelled_shape}
use Rattle.ac_parser.proofs.Weights.{is_small}
use Rattle.program_reading.proofs.Stopping.{syntax_stops}
use Rattle.program_reading.proofs.front.program_of.Goals as goal

pub returns-in_err-tokens : goal.returns-in_err-tokens
returns-in_err-tokens c =
    let p = err_from_is_err_and c.from_residual.result c.from_residual.ensures.1 in
    λ task. rw (p.1, p.2) (c.in_err-tokens.ensures task)

pub returns-in_err-program : goal.returns-in_err-program
returns-in_err-program c =
    let p = err_from_is_err_and c.from_residual-in_err-program.result c.from_residual-in_err-program.ensures.1 in
    λ task. rw (p.1, p.2) (syntax_stops c.args.source.now task c.in_ok-tokens.tokens (c.in_ok-tokens.ensures task).0 _ c.in_err-program.ensures)

pub returns : goal.returns
returns c = λ task.
    let t = c.in_ok-tokens.ensures task in (
      record { tokens = c.in_ok-tokens.tokens; lexed = t.0; tree = c.in_ok-program.ensures },
      is_small c.in_ok-tokens.tokens c.in_ok-program.program c.in_ok-program.ensures (omega (arith, t.1, c.requires)),
      spelled_shape c.in_ok-program.program c.in_ok-program.ensures.marks c.in_ok-program.ensures.spells,
    )
