use Rattle.trace_audit.proofs.Traced.{is_traced}
use Rattle.trace_audit.proofs.law.a_run_is_traced.Goals as goal

pub returns : goal.returns
returns c = is_traced
