use Rattle.ac_parser.proofs.Turns.{head_within}
use Rattle.ac_parser.proofs.statements.head.Goals as goal

pub returns : goal.returns
returns c = rw (head_within c.args.room c.args.c.now.rest.now c.if-room-eq0.false) c.whole_head.ensures
