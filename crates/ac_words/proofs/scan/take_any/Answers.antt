use Rattle.std.proofs.Common.{rules}
use Rattle.ac_words.specs.inner.Scanning.{texts_of}
use Rattle.ac_words.proofs.Scans.{at_operands, at_steps, at_joined}
use Rattle.ac_words.proofs.scan.take_any.Goals as goal

pub returns-in-OnlyOperands-clause-taken : goal.returns-in-OnlyOperands-clause-taken
returns-in-OnlyOperands-clause-taken c = at_operands (texts_of c.args.scan.operands) c.args.scan.steps c.args.word.now c.in-OnlyOperands.ensures

pub returns-in-Steps-clause-taken : goal.returns-in-Steps-clause-taken
returns-in-Steps-clause-taken c = at_steps (texts_of c.args.scan.operands) c.args.scan.steps c.args.word.now c.in-Steps.ensures (search rules)

pub returns-in_ok-number-in-StepsAre-clause-taken : goal.returns-in_ok-number-in-StepsAre-clause-taken
returns-in_ok-number-in-StepsAre-clause-taken c = at_joined (texts_of c.args.scan.operands) c.args.scan.steps c.args.word.now c.in-StepsAre.value.now c.in_ok-number-in-StepsAre.number
    c.in-StepsAre.ensures c.in_ok-number-in-StepsAre.ensures.some (search rules)
