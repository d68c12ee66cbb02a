use Rattle.std.proofs.Common.{None, map, string_bytes, Global, refl, ap, ◌∙◌, subst, arith}
use Rattle.ac_words.specs.Words.{IsCall, Does, Audits, Loads}
use Rattle.ac_words.specs.Called.{asked_of}
use Rattle.ac_words.proofs.Bounded.{bounded, load_bounded}
use Rattle.ac_file_server.specs.ServerText.{load_text}
use Rattle.ac_program.specs.Lines.{usage_line}
use Rattle.ac_program.specs.Auditing.{IsDueOfAudit}
use Rattle.ac_program.specs.Headline.{IsDue, IsDueOfFile, summed, of_task, of_audit, of_load}
use Rattle.ac_program.specs.Making.{IsDueOf}
use Rattle.ac_program.specs.Headline.IsDue.{usage, call, audit, load as loads}
use Rattle.ac_program.proofs.FewEntries.{few_in_none, few_entries}
use Rattle.ac_program.proofs.Endings.{whole_of, part_of, whole_as, part_as}
use Rattle.ac_program.proofs.Statuses.{one_or_eight}
use Rattle.ac_program.proofs.Reasons.{decided_for, loaded_for}
use Rattle.ac_program.proofs.Loads.{is_short}
use Rattle.ac_program.proofs.Judging.{judged_for}
use Rattle.ac_program.proofs.ReadBack.{reads_back}
use Rattle.ac_program.proofs.Said.{answered_whole, answered_part}
use Rattle.ac_program.proofs.ac_main.Goals as goal

-- ---- no call

pub returns-in-None-clause-whole : goal.returns-in-None-clause-whole
returns-in-None-clause-whole g c =
    λ well _. whole_of (IsDue _ _ _ _ _) 1 c.refuse.result.status.number usage_line None c.refuse.result.run _ _ (usage refl refl refl (c.in-None.ensures.usage refl) refl refl)
    c.refuse.ensures.run c.refuse.ensures.status c.refuse.ensures.whole well

pub returns-in-None-clause-part : goal.returns-in-None-clause-part
returns-in-None-clause-part g c =
    part_of (IsDue _ _ _ _ _) 1 c.refuse.result.status.number usage_line None c.refuse.result.run _ _ (usage refl refl refl (c.in-None.ensures.usage refl) refl refl)
    c.refuse.ensures.run c.refuse.ensures.part

pub returns-in-None-clause-usage : goal.returns-in-None-clause-usage
returns-in-None-clause-usage g c = record { told = λ _. c.in-None.ensures.usage refl; only = λ _. one_or_eight c.refuse.result.status.number c.refuse.ensures.status }

pub returns-in-None-clause-few : goal.returns-in-None-clause-few
returns-in-None-clause-few g c = few_in_none c.refuse.result.run c.refuse.ensures.run

-- ---- a task

pub do_file-requires-clause-bounded : goal.do_file-requires-clause-bounded
do_file-requires-clause-bounded g c κs within = let r = c.in-Some-Does in
    bounded (map (string_bytes {Z = Global}) c.args.words.now) r.task r.file.now (subst (λ it. IsCall (map (string_bytes {Z = Global}) c.args.words.now) (asked_of it)) r.field-0-is r.ensures.call)

pub returns-in-Some-Does-clause-whole : goal.returns-in-Some-Does-clause-whole
returns-in-Some-Does-clause-whole g c = let r = c.in-Some-Does in
    let is_call = subst (λ it. IsCall (map (string_bytes {Z = Global}) c.args.words.now) (asked_of it)) r.field-0-is r.ensures.call in
    λ well kept. whole_as (IsDueOfFile r.file.now r.task _ _ _ _) (IsDue _ _ _ _ _) (λ n t run due. call r.task r.file.now is_call due)
    c.do_file.result.run _ _ c.do_file.result.status.number (c.do_file.ensures.whole well kept)

pub returns-in-Some-Does-clause-part : goal.returns-in-Some-Does-clause-part
returns-in-Some-Does-clause-part g c = let r = c.in-Some-Does in
    let is_call = subst (λ it. IsCall (map (string_bytes {Z = Global}) c.args.words.now) (asked_of it)) r.field-0-is r.ensures.call in
    λ failed. part_as (IsDueOfFile r.file.now r.task _ _ _ _) (IsDue _ _ _ _ _) (λ n t run due. call r.task r.file.now is_call due) c.do_file.result.run _ _ (c.do_file.ensures.part failed)

pub returns-in-Some-Does-clause-memory : goal.returns-in-Some-Does-clause-memory
returns-in-Some-Does-clause-memory g c = let r = c.in-Some-Does in λ refused. record {
  cut = of_task r.task r.file.now (subst (λ it. IsCall (map (string_bytes {Z = Global}) c.args.words.now) (asked_of it)) r.field-0-is r.ensures.call)
      (record { just = c.do_file.ensures.just; well = c.do_file.ensures.library.only (λ e. omega (arith, refused, e)) (λ e. omega (arith, refused, e)); reads = c.do_file.ensures.took refused })
      (c.do_file.ensures.left refused);
  no_run = c.do_file.ensures.no_run refused;
  nothing = c.do_file.ensures.memory refused;
}

pub returns-in-Some-Does-clause-decided : goal.returns-in-Some-Does-clause-decided
returns-in-Some-Does-clause-decided g c = let r = c.in-Some-Does in
    λ t task file asked. decided_for r.task r.file.now _ _ (g.D.Disk.told c.args.disk.now) (g.D.Disk.told c.do_file.new.disk) c.do_file.result.status.number c.do_file.result.run
    (g.K.Sink.told c.args.sink.now) (g.K.Sink.told c.do_file.new.sink) c.do_file.ensures.whole t task file (r.ensures.only (Does task file) asked ∙ ap asked_of r.field-0-is)

pub returns-in-Some-Does-clause-read_back : goal.returns-in-Some-Does-clause-read_back
returns-in-Some-Does-clause-read_back g c = let r = c.in-Some-Does in
    λ is told steps file asked. reads_back r.task r.file.now (g.L.Library.told c.args.library.now) (g.L.Library.told c.do_file.new.library) (g.D.Disk.told c.args.disk.now)
    (g.D.Disk.told c.do_file.new.disk)
    c.do_file.result.status.number c.do_file.result.run (g.K.Sink.told c.args.sink.now) (g.K.Sink.told c.do_file.new.sink) c.do_file.ensures.whole is told steps file
    (r.ensures.only _ asked ∙ ap asked_of r.field-0-is)

pub returns-in-Some-Does-clause-few : goal.returns-in-Some-Does-clause-few
returns-in-Some-Does-clause-few g c =
    few_entries (map (string_bytes {Z = Global}) c.args.words.now) (g.L.Library.told c.args.library.now) (g.L.Library.told c.do_file.new.library) (g.D.Disk.told c.args.disk.now)
    (g.D.Disk.told c.do_file.new.disk) c.do_file.result.status.number c.do_file.result.run (g.K.Sink.told c.args.sink.now) (g.K.Sink.told c.do_file.new.sink)
    (returns-in-Some-Does-clause-whole g c) (returns-in-Some-Does-clause-part g c) (returns-in-Some-Does-clause-memory g c)

-- ---- an audit

pub returns-in-Some-Audits-clause-whole : goal.returns-in-Some-Audits-clause-whole
returns-in-Some-Audits-clause-whole g c = let r = c.in-Some-Audits in
    let is_call = subst (λ it. IsCall (map (string_bytes {Z = Global}) c.args.words.now) (asked_of it)) r.field-0-is r.ensures.call in
    answered_whole (IsDueOfAudit r.file.now r.trace.now _ _) (IsDue _ _ _ _ _) (λ n t run none due. audit r.file.now r.trace.now is_call none refl due)
    _ _ c.audit_files.result c.audit_files.ensures.answered

pub returns-in-Some-Audits-clause-part : goal.returns-in-Some-Audits-clause-part
returns-in-Some-Audits-clause-part g c = let r = c.in-Some-Audits in
    let is_call = subst (λ it. IsCall (map (string_bytes {Z = Global}) c.args.words.now) (asked_of it)) r.field-0-is r.ensures.call in
    answered_part (IsDueOfAudit r.file.now r.trace.now _ _) (IsDue _ _ _ _ _) (λ n t run none due. audit r.file.now r.trace.now is_call none refl due)
    _ _ c.audit_files.result c.audit_files.ensures.answered

pub returns-in-Some-Audits-clause-memory : goal.returns-in-Some-Audits-clause-memory
returns-in-Some-Audits-clause-memory g c = let r = c.in-Some-Audits in λ refused. record {
  cut = of_audit r.file.now r.trace.now (subst (λ it. IsCall (map (string_bytes {Z = Global}) c.args.words.now) (asked_of it)) r.field-0-is r.ensures.call) (c.audit_files.ensures.read refused) refl;
  no_run = c.audit_files.ensures.answered.no_run;
  nothing = c.audit_files.ensures.answered.nothing refused;
}

pub returns-in-Some-Audits-clause-judged : goal.returns-in-Some-Audits-clause-judged
returns-in-Some-Audits-clause-judged g c = let r = c.in-Some-Audits in
    λ t file trace asked. judged_for r.file.now r.trace.now _ _ _ _ c.audit_files.result c.audit_files.ensures.answered t file trace (r.ensures.only (Audits file trace) asked
    ∙ ap asked_of r.field-0-is)

pub returns-in-Some-Audits-clause-few : goal.returns-in-Some-Audits-clause-few
returns-in-Some-Audits-clause-few g c = few_in_none c.audit_files.result.run c.audit_files.ensures.answered.no_run

-- ---- a load

pub load-requires-clause-some : goal.load-requires-clause-some
load-requires-clause-some g c κs within = let r = c.in-Some-Loads in
    (load_bounded (map (string_bytes {Z = Global}) c.args.words.now) r.turns r.steps (subst (λ it. IsCall (map (string_bytes {Z = Global}) c.args.words.now)
    (asked_of it)) r.field-0-is r.ensures.call)).least_turns

pub load-requires-clause-few : goal.load-requires-clause-few
load-requires-clause-few g c κs within = let r = c.in-Some-Loads in
    (load_bounded (map (string_bytes {Z = Global}) c.args.words.now) r.turns r.steps (subst (λ it. IsCall (map (string_bytes {Z = Global}) c.args.words.now)
    (asked_of it)) r.field-0-is r.ensures.call)).most_turns

pub load-requires-clause-bounded : goal.load-requires-clause-bounded
load-requires-clause-bounded g c κs within = let r = c.in-Some-Loads in
    (load_bounded (map (string_bytes {Z = Global}) c.args.words.now) r.turns r.steps (subst (λ it. IsCall (map (string_bytes {Z = Global}) c.args.words.now)
    (asked_of it)) r.field-0-is r.ensures.call)).some_steps

pub returns-in-Some-Loads-clause-whole : goal.returns-in-Some-Loads-clause-whole
returns-in-Some-Loads-clause-whole g c = let r = c.in-Some-Loads in
    let is_call = subst (λ it. IsCall (map (string_bytes {Z = Global}) c.args.words.now) (asked_of it)) r.field-0-is r.ensures.call in
    λ well kept. whole_as (IsDueOf (load_text r.turns) (summed r.turns r.steps) _ _) (IsDue _ _ _ _ _) (λ n t run due. loads r.turns r.steps is_call refl due)
    c.load.result.run _ _ c.load.result.status.number (c.load.ensures.whole well kept)

pub returns-in-Some-Loads-clause-part : goal.returns-in-Some-Loads-clause-part
returns-in-Some-Loads-clause-part g c = let r = c.in-Some-Loads in
    let is_call = subst (λ it. IsCall (map (string_bytes {Z = Global}) c.args.words.now) (asked_of it)) r.field-0-is r.ensures.call in
    λ failed. part_as (IsDueOf (load_text r.turns) (summed r.turns r.steps) _ _) (IsDue _ _ _ _ _) (λ n t run due. loads r.turns r.steps is_call refl due)
    c.load.result.run _ _ (c.load.ensures.part failed)

pub returns-in-Some-Loads-clause-memory : goal.returns-in-Some-Loads-clause-memory
returns-in-Some-Loads-clause-memory g c = let r = c.in-Some-Loads in λ refused. record {
  cut = of_load r.turns r.steps (subst (λ it. IsCall (map (string_bytes {Z = Global}) c.args.words.now) (asked_of it)) r.field-0-is r.ensures.call) refl (c.load.ensures.left refused);
  no_run = c.load.ensures.no_run refused;
  nothing = c.load.ensures.memory refused;
}

pub returns-in-Some-Loads-clause-loaded : goal.returns-in-Some-Loads-clause-loaded
returns-in-Some-Loads-clause-loaded g c = let r = c.in-Some-Loads in
    let few = (load_bounded (map (string_bytes {Z = Global}) c.args.words.now) r.turns r.steps (subst (λ it. IsCall (map (string_bytes {Z = Global}) c.args.words.now)
    (asked_of it)) r.field-0-is r.ensures.call)).most_turns in
    λ t turns steps asked. loaded_for r.turns r.steps (is_short r.turns few) (g.L.Library.told c.args.library.now) (g.D.Disk.told c.args.disk.now) (g.D.Disk.told c.load.new.disk)
    c.load.result.status.number c.load.result.run (g.K.Sink.told c.args.sink.now) (g.K.Sink.told c.load.new.sink) c.load.ensures.whole t turns steps
    (r.ensures.only (Loads turns steps) asked ∙ ap asked_of r.field-0-is)

pub returns-in-Some-Loads-clause-few : goal.returns-in-Some-Loads-clause-few
returns-in-Some-Loads-clause-few g c =
    few_entries (map (string_bytes {Z = Global}) c.args.words.now) (g.L.Library.told c.args.library.now) (g.L.Library.told c.args.library.now) (g.D.Disk.told c.args.disk.now)
    (g.D.Disk.told c.load.new.disk) c.load.result.status.number c.load.result.run (g.K.Sink.told c.args.sink.now) (g.K.Sink.told c.load.new.sink)
    (returns-in-Some-Loads-clause-whole g c) (returns-in-Some-Loads-clause-part g c) (returns-in-Some-Loads-clause-memory g c)
