use Rattle.std.proofs.Common.{arith}
use Rattle.ac_lexer.proofs.WholeText.{lexes_few}
use Rattle.ac_lexer.proofs.lexer.lex.Goals as goal

pub returns-clause-too_long : goal.returns-clause-too_long
returns-clause-too_long c = (λ e. absurd (c.tokens_of.ensures.not_long e), λ h. absurd (omega arith))

pub returns-clause-few : goal.returns-clause-few
returns-clause-few c = lexes_few c.args.text.now c.tokens_of.result c.tokens_of.ensures.lexes
