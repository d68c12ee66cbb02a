use Rattle.ac_replay.proofs.Comparing.{all_same, first_other, same_further}
use Rattle.ac_replay.proofs.doing.first_other.Goals as goal

pub loop-file-preserved : goal.loop-file-preserved
loop-file-preserved c =
    same_further c.args.start.now c.args.told.now c.loop-file.file c.index-start-file.result c.index-told-file.result c.loop-file-test.true c.requires.many c.index-start-file.is
    c.index-told-file.is c.loop-file.invariant (c.are_same.ensures.same c.if-not-are_same.false)

pub returns-then-not-are_same-clause-some : goal.returns-then-not-are_same-clause-some
returns-then-not-are_same-clause-some c =
    first_other c.args.start.now c.args.told.now c.loop-file.file c.index-start-file.result c.index-told-file.result c.loop-file-test.true c.requires.many c.index-start-file.is
    c.index-told-file.is c.loop-file.invariant (c.are_same.ensures.differ c.if-not-are_same.true)

pub returns-clause-none : goal.returns-clause-none
returns-clause-none c = λ _. all_same c.args.start.now c.args.told.now c.loop-file.file c.requires.many c.loop-file-test.false c.loop-file.invariant
