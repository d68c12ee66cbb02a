use Rattle.ac_program.proofs.ToldTraces.{told_whole}
use Rattle.ac_program.proofs.telling.traced.Goals as goal

pub returns-in-Ok : goal.returns-in-Ok
returns-in-Ok c =
    told_whole c.args.ended.now c.requires.tellable c.in_ok-trace.trace c.in-Ok.ensures.fits c.in_ok-trace.ensures c.args.status.number c.in-Ok.text c.requires.status c.in-Ok.ensures.writes
