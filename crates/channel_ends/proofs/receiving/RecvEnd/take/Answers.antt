use Rattle.std.proofs.Common.{rules}
use Rattle.channel_ends.specs.inner.Recvs.{receiving_of}
use Rattle.channel_ends.proofs.Passing.{passes_so}
use Rattle.channel_ends.proofs.receiving.RecvEnd.take.Goals as goal

pub returns-in-Withdrawn-take-clause-answer : goal.returns-in-Withdrawn-take-clause-answer
returns-in-Withdrawn-take-clause-answer g c =
    let mid = receiving_of (record { words = c.self.inside.words; peer = c.take.new.peer; ring = c.is_empty.new.self }) in
    passes_so c.args.self.now mid c.pass.new.self c.args.clock.now c.in-Withdrawn-take.withdrawn (search rules) (search rules) (search rules) (search rules) (search rules) (search rules)
    (search rules) (search rules) c.pass.result c.pass.ensures.answer
