use Rattle.program_reading.proofs.Given.{fault_given}
use Rattle.program_reading.proofs.both.with_trace.Goals as goal

pub returns-in-Err : goal.returns-in-Err
returns-in-Err g c = λ source k. fault_given source c.args.trace.now _ _ c.args.program k c.in-Err.fault c.in-Err.ensures

pub returns-in-Ok : goal.returns-in-Ok
returns-in-Ok g c = λ source k. (k, c.in-Ok.ensures)
