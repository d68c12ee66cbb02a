use Rattle.std.proofs.Common.{List, ℕ, refl, ap, subst, sym, arith}
use Rattle.ac_base.specs.declared.ends.Status.{Status}
use Rattle.ac_outside.specs.Told.{GrewBy}
use Rattle.program_reading.specs.Writing.{TookFront}
use Rattle.ac_replay.specs.Due.{IsDue, IsDueOfCall, usage, call}
use Rattle.ac_replay.specs.Headline.{IsRunAgain, IsToRunAgain}
use Rattle.ac_replay.specs.Lines.{usage_line}
use Rattle.ac_replay.proofs.Again.{holds_none}
use Rattle.ac_replay.proofs.Answered.{answered, answered_as}
use Rattle.ac_replay.proofs.Faults.{is_again, is_each, is_no_usage, tells_disk}
use Rattle.ac_replay.proofs.Statuses.{one_or_eight}
use Rattle.ac_replay.proofs.replay_main.Goals as goal

-- ---- no call

pub returns-in-None-clause-whole : goal.returns-in-None-clause-whole
returns-in-None-clause-whole g c =
    let a = c.answer in
    let held = (g.K.Sink.told c.args.sink.now).held in
    let later = (g.K.Sink.told a.new.sink).held in
    (answered (IsDue _ _ _ _ _) (g.K.Sink.told c.args.sink.now) (g.K.Sink.told a.new.sink) 1 usage_line a.result.number
    (usage refl refl (c.in-None.ensures.none refl) refl refl) (λ e. omega (arith, e)) (λ well. ap (λ (s : Status). s.number) (a.ensures.status well))
    (λ well. subst (λ (text : List ℕ). GrewBy held later text) c.as_bytes.ensures.value (a.ensures.whole well))
    (λ failed. subst (λ (text : List ℕ). TookFront held later text) c.as_bytes.ensures.value (a.ensures.part failed)) a.ensures.sink).whole

pub returns-in-None-clause-part : goal.returns-in-None-clause-part
returns-in-None-clause-part g c =
    let a = c.answer in
    let held = (g.K.Sink.told c.args.sink.now).held in
    let later = (g.K.Sink.told a.new.sink).held in
    (answered (IsDue _ _ _ _ _) (g.K.Sink.told c.args.sink.now) (g.K.Sink.told a.new.sink) 1 usage_line a.result.number
    (usage refl refl (c.in-None.ensures.none refl) refl refl) (λ e. omega (arith, e)) (λ well. ap (λ (s : Status). s.number) (a.ensures.status well))
    (λ well. subst (λ (text : List ℕ). GrewBy held later text) c.as_bytes.ensures.value (a.ensures.whole well))
    (λ failed. subst (λ (text : List ℕ). TookFront held later text) c.as_bytes.ensures.value (a.ensures.part failed)) a.ensures.sink).part

pub returns-in-None-clause-memory : goal.returns-in-None-clause-memory
returns-in-None-clause-memory g c = λ none.
    let one = ap (λ (s : Status). s.number) (c.answer.ensures.status (λ e. omega (arith, e, none))) in absurd (omega (arith, one, none))

pub returns-in-None-clause-usage : goal.returns-in-None-clause-usage
returns-in-None-clause-usage g c = record {
  told = λ _. c.in-None.ensures.none refl;
  only = λ _. one_or_eight c.answer.result.number (λ well. ap (λ (s : Status). s.number) (c.answer.ensures.status well));
}

pub returns-in-None-clause-library : goal.returns-in-None-clause-library
returns-in-None-clause-library g c = record {
  told = λ is. let one = ap (λ (s : Status). s.number) (c.answer.ensures.status (λ e. omega (arith, e, is))) in absurd (omega (arith, one, is));
  only = λ _ _. refl;
}

pub returns-in-None-clause-disk : goal.returns-in-None-clause-disk
returns-in-None-clause-disk g c = record {
  told = λ is. let one = ap (λ (s : Status). s.number) (c.answer.ensures.status (λ e. omega (arith, e, is))) in absurd (omega (arith, one, is));
  only = λ _ _. refl;
}

pub returns-in-None-clause-again : goal.returns-in-None-clause-again
returns-in-None-clause-again g c = λ cores file trace asked. absurd (c.in-None.ensures.none refl file trace asked)

pub returns-in-None-clause-each : goal.returns-in-None-clause-each
returns-in-None-clause-each g c = λ file trace asked is read well done kept. absurd (c.in-None.ensures.none refl file trace asked)

-- ---- a call

pub returns-in-Some-clause-whole : goal.returns-in-Some-clause-whole
returns-in-Some-clause-whole g c =
    let p = c.in-Some.pair in
    (answered_as (IsDueOfCall p.file.now p.trace.now _ _ _ _) (IsDue _ _ _ _ _) _ _ c.replay_files.result.number (λ n text d. call p.file.now p.trace.now c.in-Some.ensures.some d)
    c.replay_files.ensures.answered).whole

pub returns-in-Some-clause-part : goal.returns-in-Some-clause-part
returns-in-Some-clause-part g c =
    let p = c.in-Some.pair in
    (answered_as (IsDueOfCall p.file.now p.trace.now _ _ _ _) (IsDue _ _ _ _ _) _ _ c.replay_files.result.number (λ n text d. call p.file.now p.trace.now c.in-Some.ensures.some d)
    c.replay_files.ensures.answered).part

pub returns-in-Some-clause-memory : goal.returns-in-Some-clause-memory
returns-in-Some-clause-memory g c = λ none. record {
  file = c.in-Some.pair.file.now;
  trace = c.in-Some.pair.trace.now;
  is_call = c.in-Some.ensures.some;
  are_read = c.replay_files.ensures.read none;
  left = c.replay_files.ensures.left none;
  nothing = c.replay_files.ensures.answered.nothing none;
}

pub returns-in-Some-clause-usage : goal.returns-in-Some-clause-usage
returns-in-Some-clause-usage g c = record {
  told = λ is. absurd (is_no_usage c.in-Some.pair.file.now c.in-Some.pair.trace.now (g.L.Library.told c.args.library.now) (g.L.Library.told c.replay_files.new.library)
      (g.D.Disk.told c.args.disk.now) (g.D.Disk.told c.replay_files.new.disk) (g.K.Sink.told c.args.sink.now) (g.K.Sink.told c.replay_files.new.sink) c.replay_files.result.number
      c.replay_files.ensures.answered is);
  only = λ none. absurd (none c.in-Some.pair.file.now c.in-Some.pair.trace.now c.in-Some.ensures.some);
}

pub returns-in-Some-clause-disk : goal.returns-in-Some-clause-disk
returns-in-Some-clause-disk g c =
    tells_disk c.in-Some.pair.file.now c.in-Some.pair.trace.now (g.L.Library.told c.args.library.now) (g.L.Library.told c.replay_files.new.library) (g.D.Disk.told c.args.disk.now)
    (g.D.Disk.told c.replay_files.new.disk) (g.K.Sink.told c.args.sink.now) (g.K.Sink.told c.replay_files.new.sink) c.replay_files.result.number c.replay_files.ensures.answered
    c.replay_files.ensures.left

pub returns-in-Some-clause-again : goal.returns-in-Some-clause-again
returns-in-Some-clause-again g c = λ cores file trace asked.
    let p = c.in-Some.pair in
    let same = c.in-Some.ensures.only file trace asked in
    let held = (g.D.Disk.told c.args.disk.now).held in
    let none = holds_none held (g.D.Disk.told c.args.disk.now).bound c.requires.none (g.met.D.Disk.tells_bound c.args.disk.now) in
    subst (λ f. IsRunAgain f trace (g.L.Library.told c.args.library.now) (g.D.Disk.told c.args.disk.now) (g.D.Disk.told c.replay_files.new.disk) c.replay_files.result.number
    (g.K.Sink.told c.args.sink.now) (g.K.Sink.told c.replay_files.new.sink)) (sym same.0)
    (subst (λ f. IsRunAgain p.file.now f (g.L.Library.told c.args.library.now) (g.D.Disk.told c.args.disk.now) (g.D.Disk.told c.replay_files.new.disk) c.replay_files.result.number
    (g.K.Sink.told c.args.sink.now) (g.K.Sink.told c.replay_files.new.sink)) (sym same.1)
    (is_again p.file.now p.trace.now (g.L.Library.told c.args.library.now) (g.L.Library.told c.replay_files.new.library) (g.D.Disk.told c.args.disk.now)
    (g.D.Disk.told c.replay_files.new.disk) (g.K.Sink.told c.args.sink.now) (g.K.Sink.told c.replay_files.new.sink) c.replay_files.result.number c.replay_files.ensures.answered cores none))

pub returns-in-Some-clause-each : goal.returns-in-Some-clause-each
returns-in-Some-clause-each g c = λ file trace asked is.
    let p = c.in-Some.pair in
    let same = c.in-Some.ensures.only file trace asked in
    is_each p.file.now p.trace.now (g.L.Library.told c.args.library.now) (g.L.Library.told c.replay_files.new.library) (g.D.Disk.told c.args.disk.now)
    (g.D.Disk.told c.replay_files.new.disk) (g.K.Sink.told c.args.sink.now) (g.K.Sink.told c.replay_files.new.sink) c.replay_files.result.number c.replay_files.ensures.answered
    (subst (λ f. IsToRunAgain p.file.now f (g.L.Library.told c.args.library.now) (g.D.Disk.told c.args.disk.now)) same.1
    (subst (λ f. IsToRunAgain f trace (g.L.Library.told c.args.library.now) (g.D.Disk.told c.args.disk.now)) same.0 is))
