use Rattle.std.proofs.Common.{◌≡◌, ◌++◌, drop}
use Rattle.ac_base.specs.Report.{report_of}
use Rattle.ac_base.proofs.texts.report.Given as goal

abbrev pub invariant-loop-place : goal.invariant-loop-place
invariant-loop-place l = l.text.items ++ report_of (drop l.place l.names) (drop l.place l.ends) ≡ report_of l.names l.ends
