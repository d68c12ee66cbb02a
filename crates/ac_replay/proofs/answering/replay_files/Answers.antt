use Rattle.std.proofs.Common.{Err, refl, subst, arith}
use Rattle.program_reading.specs.TwoFiles.{GivesBoth, halt_line, halt_status}
use Rattle.program_reading.proofs.TwoFiles.{both_read, read_well, refused_read}
use Rattle.program_reading.proofs.Paths.{few_paths, paths_are_texts, paths_differ}
use Rattle.ac_replay.specs.Due.{IsDueOfCall, IsDueOfRun, refused, both}
use Rattle.ac_replay.specs.Headline.{alone, of_program}
use Rattle.ac_replay.proofs.Answered.{answered_as, answered_none, answered_or_not}
use Rattle.ac_replay.proofs.Faults.{tells_library}
use Rattle.ac_replay.proofs.answering.replay_files.Goals as goal

-- ---- memory was refused

pub returns-in-Err-NoMemory-clause-answered : goal.returns-in-Err-NoMemory-clause-answered
returns-in-Err-NoMemory-clause-answered g c =
    answered_none (IsDueOfCall c.args.file.now c.args.trace.now (g.L.Library.told c.args.library.now) (g.L.Library.told c.read_both.new.library) (g.D.Disk.told c.args.disk.now)
    (g.D.Disk.told c.args.disk.now)) (g.K.Sink.told c.args.sink.now)

pub returns-in-Err-NoMemory-clause-read : goal.returns-in-Err-NoMemory-clause-read
returns-in-Err-NoMemory-clause-read g c =
    let r = c.in-Err-NoMemory in
    λ _. subst (λ fault. GivesBoth c.args.file.now c.args.trace.now (g.L.Library.told c.args.library.now) (g.L.Library.told c.read_both.new.library) (Err fault)) r.field-0-is r.ensures

pub returns-in-Err-NoMemory-clause-library : goal.returns-in-Err-NoMemory-clause-library
returns-in-Err-NoMemory-clause-library g c = record {
  told = λ e. absurd (omega (arith, e));
  only = λ _ _. read_well c.args.file.now c.args.trace.now (g.L.Library.told c.args.library.now) (g.L.Library.told c.read_both.new.library) (returns-in-Err-NoMemory-clause-read g c refl);
}

pub returns-in-Err-NoMemory-clause-left : goal.returns-in-Err-NoMemory-clause-left
returns-in-Err-NoMemory-clause-left g c = λ _. alone refl

-- ---- refused

pub returns-in-Err-Halted-clause-answered : goal.returns-in-Err-Halted-clause-answered
returns-in-Err-Halted-clause-answered g c =
    let r = c.in-Err-Halted in
    let a = c.answer_halt in
    let h = subst (λ fault. GivesBoth c.args.file.now c.args.trace.now (g.L.Library.told c.args.library.now) (g.L.Library.told c.read_both.new.library) (Err fault)) r.field-0-is r.ensures in
    answered_or_not (IsDueOfCall c.args.file.now c.args.trace.now (g.L.Library.told c.args.library.now) (g.L.Library.told c.read_both.new.library) (g.D.Disk.told c.args.disk.now)
    (g.D.Disk.told c.args.disk.now)) (g.K.Sink.told c.args.sink.now) (g.K.Sink.told a.new.sink) (halt_status r.halt) (halt_line r.halt) a.result.number (refused r.halt refl refl h refl)
    a.ensures.status a.ensures.whole a.ensures.part a.ensures.memory a.ensures.sink

pub returns-in-Err-Halted-clause-read : goal.returns-in-Err-Halted-clause-read
returns-in-Err-Halted-clause-read g c =
    let r = c.in-Err-Halted in
    let h = subst (λ fault. GivesBoth c.args.file.now c.args.trace.now (g.L.Library.told c.args.library.now) (g.L.Library.told c.read_both.new.library) (Err fault)) r.field-0-is r.ensures in
    λ is. refused_read c.args.file.now c.args.trace.now (g.L.Library.told c.args.library.now) (g.L.Library.told c.read_both.new.library) r.halt h (c.answer_halt.ensures.failed is)

pub returns-in-Err-Halted-clause-library : goal.returns-in-Err-Halted-clause-library
returns-in-Err-Halted-clause-library g c =
    tells_library c.args.file.now c.args.trace.now (g.L.Library.told c.args.library.now) (g.L.Library.told c.read_both.new.library) (g.D.Disk.told c.args.disk.now) (g.D.Disk.told c.args.disk.now)
    (g.K.Sink.told c.args.sink.now) (g.K.Sink.told c.answer_halt.new.sink) c.answer_halt.result.number (returns-in-Err-Halted-clause-answered g c) (returns-in-Err-Halted-clause-read g c)

pub returns-in-Err-Halted-clause-left : goal.returns-in-Err-Halted-clause-left
returns-in-Err-Halted-clause-left g c = λ _. alone refl

-- ---- both

pub replay_both-requires-clause-paths : goal.replay_both-requires-clause-paths
replay_both-requires-clause-paths g c =
    let b = c.in-Ok.ensures in
    let a = b.is_ready.is_accepted in
    record { few = few_paths b.bytes c.in-Ok.both.program a; texts = paths_are_texts b.bytes c.in-Ok.both.program a; differ = paths_differ b.bytes c.in-Ok.both.program a }

pub returns-in-Ok-clause-answered : goal.returns-in-Ok-clause-answered
returns-in-Ok-clause-answered g c =
    let it = c.in-Ok.both in
    answered_as (IsDueOfRun it.program it.trace (g.D.Disk.told c.args.disk.now) (g.D.Disk.told c.replay_both.new.disk))
    (IsDueOfCall c.args.file.now c.args.trace.now (g.L.Library.told c.args.library.now) (g.L.Library.told c.read_both.new.library) (g.D.Disk.told c.args.disk.now)
    (g.D.Disk.told c.replay_both.new.disk)) (g.K.Sink.told c.args.sink.now) (g.K.Sink.told c.replay_both.new.sink) c.replay_both.result.number (λ n text d. both it.program it.trace c.in-Ok.ensures d)
    c.replay_both.ensures.answered

pub returns-in-Ok-clause-read : goal.returns-in-Ok-clause-read
returns-in-Ok-clause-read g c =
    λ _. both_read c.args.file.now c.args.trace.now (g.L.Library.told c.args.library.now) (g.L.Library.told c.read_both.new.library) c.in-Ok.both.program c.in-Ok.both.trace c.in-Ok.ensures

pub returns-in-Ok-clause-library : goal.returns-in-Ok-clause-library
returns-in-Ok-clause-library g c =
    tells_library c.args.file.now c.args.trace.now (g.L.Library.told c.args.library.now) (g.L.Library.told c.read_both.new.library) (g.D.Disk.told c.args.disk.now)
    (g.D.Disk.told c.replay_both.new.disk)
    (g.K.Sink.told c.args.sink.now) (g.K.Sink.told c.replay_both.new.sink) c.replay_both.result.number (returns-in-Ok-clause-answered g c) (returns-in-Ok-clause-read g c)

pub returns-in-Ok-clause-left : goal.returns-in-Ok-clause-left
returns-in-Ok-clause-left g c = let b = c.in-Ok.ensures in λ is. of_program b.bytes c.in-Ok.both.program b.gave b.is_ready (c.replay_both.ensures.left is)
