use Rattle.trace_writes.proofs.Done.{fails_at}
use Rattle.trace_writes.proofs.doing.do_write.Goals as goal

pub returns-in-Err-clause-failed : goal.returns-in-Err-clause-failed
returns-in-Err-clause-failed g c =
    let e = c.in-Err.ensures in
    fails_at c.args.write.now c.as_slice.result.now c.in-Err.field-0.taken (g.D.Disk.told c.args.disk.now) (g.D.Disk.told c.write_at.new.self) c.as_slice.ensures e.none e.most e.cause.later
    e.cause.failed e.earlier e.bytes e.silent
