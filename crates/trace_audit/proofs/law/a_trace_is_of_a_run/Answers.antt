use Rattle.trace_audit.proofs.Recovered.{is_of_a_run}
use Rattle.trace_audit.proofs.law.a_trace_is_of_a_run.Goals as goal

pub returns : goal.returns
returns c = is_of_a_run
