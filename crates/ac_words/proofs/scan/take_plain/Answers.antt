use Rattle.ac_words.specs.inner.Scanning.{texts_of}
use Rattle.ac_words.proofs.Scans.{plain_more}
use Rattle.ac_words.proofs.scan.take_plain.Goals as goal

pub returns-clause-taken : goal.returns-clause-taken
returns-clause-taken c = plain_more (texts_of c.args.scan.operands) c.args.scan.steps c.args.word.now (texts_of c.in_ok-operands.operands) c.in_ok-operands.ensures.some c.requires
