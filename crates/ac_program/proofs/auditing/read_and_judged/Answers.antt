use Rattle.std.proofs.Common.{subst, Err}
use Rattle.std.proofs.lemmas.Result.{IfOk-weaker}
use Rattle.ac_program.specs.inner.Parts.{GivesVerdict, GivesAnswer}
use Rattle.trace_text.specs.Outcomes.{Reads}
use Rattle.ac_program.proofs.Said.{wrong_as, spelled_as}
use Rattle.ac_program.proofs.auditing.read_and_judged.Goals as goal

pub returns-in_ok-place_line-in-Err-Line : goal.returns-in_ok-place_line-in-Err-Line
returns-in_ok-place_line-in-Err-Line c =
    wrong_as c.args.checked.now c.args.text.now c.in-Err-Line.line c.said.result c.in_ok-place_line-in-Err-Line.field-0 c.said.ensures c.in_ok-place_line-in-Err-Line.ensures
    (subst (λ fault. Reads c.args.text.now (Err fault)) c.in-Err-Line.field-0-is c.in-Err-Line.ensures)

pub returns-in-Ok : goal.returns-in-Ok
returns-in-Ok c = IfOk-weaker c.judged.result (GivesVerdict c.args.checked.now c.in-Ok.trace) (GivesAnswer c.args.checked.now c.args.text.now)
    (λ done g. spelled_as c.args.checked.now c.args.text.now c.in-Ok.trace c.in-Ok.ensures done g) c.judged.ensures
