use Rattle.stack_code.proofs.Rising.{starts_by, no_starts}
use Rattle.stack_code.proofs.lists.has_starts.Goals as goal

pub returns-then-not-rise : goal.returns-then-not-rise
returns-then-not-rise c = no_starts c.args.code.now c.starts-starts.result.now c.rise.result c.starts-starts.ensures c.rise.ensures c.if-not-rise.true

pub returns : goal.returns
returns c = starts_by c.args.code.now c.starts-starts.result.now c.rise.result c.are_starts.result c.starts-starts.ensures c.rise.ensures c.if-not-rise.false c.are_starts.ensures
