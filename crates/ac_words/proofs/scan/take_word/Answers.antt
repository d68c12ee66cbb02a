use Rattle.std.proofs.Common.{◌∷◌}
use Rattle.ac_words.specs.declared.scan.Next.TheVariants.{Operand}
use Rattle.ac_words.specs.inner.Scanning.{texts_of}
use Rattle.ac_words.proofs.Scans.{next_is}
use Rattle.ac_words.proofs.scan.take_word.Goals as goal

pub returns-in-Operand-clause-refused : goal.returns-in-Operand-clause-refused
returns-in-Operand-clause-refused c = λ none words operands given g. c.take_operand.ensures.refused none words operands given
    (next_is c.args.scan.next Operand (texts_of c.args.scan.operands) c.args.scan.steps (c.args.word.now ∷ words) operands given c.in-Operand.is g)
