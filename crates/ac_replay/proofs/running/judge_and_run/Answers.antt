use Rattle.std.proofs.Common.{refl, ap, ◌∙◌, subst}
use Rattle.ac_names.specs.Numbered.{file_paths}
use Rattle.ac_resolve.specs.Resolution.{resolved}
use Rattle.trace_audit.specs.Judged.{Judges}
use Rattle.ac_replay.specs.Due.IsDueOfRun.{misfit}
use Rattle.ac_replay.specs.Headline.AreUnwritten.{untouched}
use Rattle.ac_replay.specs.declared.lines.Said.{Said}
use Rattle.ac_replay.proofs.Halts.{due_of_run, left_alone}
use Rattle.ac_replay.proofs.running.judge_and_run.Goals as goal

-- ---- memory was refused

pub returns-in_err-code-clause-left : goal.returns-in_err-code-clause-left
returns-in_err-code-clause-left g c = left_alone _ (file_paths c.args.checked.now.items) _ _ refl

pub returns-in-Err-clause-left : goal.returns-in-Err-clause-left
returns-in-Err-clause-left g c = untouched refl

-- ---- a run

pub run_again-requires-clause-run : goal.run_again-requires-clause-run
run_again-requires-clause-run g c =
    let r = c.in-Ok-Yes in subst (λ verdict. Judges (resolved c.args.checked.now) c.args.trace.now verdict) r.field-0-is r.ensures

pub returns-in-Ok-Yes-clause-due : goal.returns-in-Ok-Yes-clause-due
returns-in-Ok-Yes-clause-due g c =
    let r = c.in-Ok-Yes in
    due_of_run c.run_again.result c.args.checked.now c.args.trace.now (g.D.Disk.told c.args.disk.now) (g.D.Disk.told c.run_again.new.disk)
    (subst (λ verdict. Judges (resolved c.args.checked.now) c.args.trace.now verdict) r.field-0-is r.ensures) c.run_again.ensures.due

-- ---- none

pub returns-in-Ok-NoAt-clause-due : goal.returns-in-Ok-NoAt-clause-due
returns-in-Ok-NoAt-clause-due g c =
    let r = c.in-Ok-NoAt in
    let first = subst (λ verdict. Judges (resolved c.args.checked.now) c.args.trace.now verdict) r.field-0-is r.ensures in
    misfit r.entry (ap (λ (s : Said). s.status.number) c.say.ensures) (ap (λ (s : Said). s.text) c.say.ensures ∙ c.in_ok-place_line-in-Ok-NoAt.ensures) first refl
