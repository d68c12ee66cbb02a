use Rattle.std.proofs.Common.{Result, Ok, Err}
use Rattle.std.specs.Prelude.{IfOk}
use Rattle.trace_audit.proofs.Translated.{judges_program}
use Rattle.trace_audit.proofs.auditing.audit.Goals as goal

where_ok : {X E : Type 0} (r : Result X E) (P Q : X → Type 0) → ((x : X) → P x → Q x) → IfOk r P → IfOk r Q
where_ok (Ok x) P Q f h = f x h
where_ok (Err e) P Q f h = tt

pub returns : goal.returns
returns c = where_ok c.audit_code.result _ _ (judges_program c.args.code.now c.args.files c.args.trace.now) c.audit_code.ensures
