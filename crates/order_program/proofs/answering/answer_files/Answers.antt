use Rattle.std.proofs.Common.{Err, refl, subst, arith}
use Rattle.program_reading.specs.TwoFiles.{GivesBoth}
use Rattle.program_reading.proofs.TwoFiles.{read_well, refused_read, both_read}
use Rattle.program_reading.proofs.Halting.{halted_library}
use Rattle.order_program.specs.inner.Calling.{IsDueFor}
use Rattle.order_program.proofs.AnsweredFiles.{answered_none, answered_halt, answered_both}
use Rattle.order_program.proofs.Few.{few_entries}
use Rattle.order_program.proofs.answering.answer_files.Goals as goal

pub answer_both-requires-clause-few : goal.answer_both-requires-clause-few
answer_both-requires-clause-few g c = let t = c.in-Ok.ensures.has_trace in few_entries t.traced c.in-Ok.both.trace t.is_trace.spelled t.short

-- ---- memory was refused

pub returns-in-Err-NoMemory-clause-answered : goal.returns-in-Err-NoMemory-clause-answered
returns-in-Err-NoMemory-clause-answered g c = answered_none (IsDueFor c.args.call (g.L.Library.told c.args.library.now) (g.L.Library.told c.read_both.new.library)) (g.K.Sink.told c.args.sink.now)

pub returns-in-Err-NoMemory-clause-read : goal.returns-in-Err-NoMemory-clause-read
returns-in-Err-NoMemory-clause-read g c = let r = c.in-Err-NoMemory in
    λ _. subst (λ fault. GivesBoth c.args.call.file.now c.args.call.trace.now (g.L.Library.told c.args.library.now) (g.L.Library.told c.read_both.new.library) (Err fault)) r.field-0-is r.ensures

pub returns-in-Err-NoMemory-clause-library : goal.returns-in-Err-NoMemory-clause-library
returns-in-Err-NoMemory-clause-library g c = record {
  told = λ e. absurd (omega (arith, e));
  only = λ _ _. read_well c.args.call.file.now c.args.call.trace.now (g.L.Library.told c.args.library.now) (g.L.Library.told c.read_both.new.library) (returns-in-Err-NoMemory-clause-read g c refl);
}

-- ---- the files are refused

pub returns-in-Err-Halted-clause-answered : goal.returns-in-Err-Halted-clause-answered
returns-in-Err-Halted-clause-answered g c = let r = c.in-Err-Halted in let a = c.answer_halt in
    let w = subst (λ fault. GivesBoth c.args.call.file.now c.args.call.trace.now (g.L.Library.told c.args.library.now) (g.L.Library.told c.read_both.new.library) (Err fault)) r.field-0-is r.ensures in
    answered_halt c.args.call (g.L.Library.told c.args.library.now) (g.L.Library.told c.read_both.new.library) r.halt (g.K.Sink.told c.args.sink.now)
    (g.K.Sink.told a.new.sink) a.result.number c.requires w a.ensures.status a.ensures.whole a.ensures.part a.ensures.memory a.ensures.sink a.ensures.other.0

pub returns-in-Err-Halted-clause-read : goal.returns-in-Err-Halted-clause-read
returns-in-Err-Halted-clause-read g c = let r = c.in-Err-Halted in
    let w = subst (λ fault. GivesBoth c.args.call.file.now c.args.call.trace.now (g.L.Library.told c.args.library.now) (g.L.Library.told c.read_both.new.library) (Err fault)) r.field-0-is r.ensures in
    λ is. refused_read c.args.call.file.now c.args.call.trace.now (g.L.Library.told c.args.library.now) (g.L.Library.told c.read_both.new.library) r.halt w (c.answer_halt.ensures.failed is)

pub returns-in-Err-Halted-clause-library : goal.returns-in-Err-Halted-clause-library
returns-in-Err-Halted-clause-library g c = let r = c.in-Err-Halted in let a = c.answer_halt in
    let w = subst (λ fault. GivesBoth c.args.call.file.now c.args.call.trace.now (g.L.Library.told c.args.library.now) (g.L.Library.told c.read_both.new.library) (Err fault)) r.field-0-is r.ensures in
    halted_library c.args.call.file.now c.args.call.trace.now (g.L.Library.told c.args.library.now)
    (g.L.Library.told c.read_both.new.library) r.halt a.result.number w a.ensures.status a.ensures.failed

-- ---- they are a program and a trace

pub returns-in-Ok-clause-answered : goal.returns-in-Ok-clause-answered
returns-in-Ok-clause-answered g c =
    answered_both c.args.call (g.L.Library.told c.args.library.now) (g.L.Library.told c.read_both.new.library) c.in-Ok.both.program c.in-Ok.both.trace (g.K.Sink.told c.args.sink.now)
    (g.K.Sink.told c.answer_both.new.sink) c.answer_both.result.number c.in-Ok.ensures c.answer_both.ensures.answered

pub returns-in-Ok-clause-read : goal.returns-in-Ok-clause-read
returns-in-Ok-clause-read g c = λ _. both_read c.args.call.file.now c.args.call.trace.now (g.L.Library.told c.args.library.now)
    (g.L.Library.told c.read_both.new.library) c.in-Ok.both.program c.in-Ok.both.trace c.in-Ok.ensures

pub returns-in-Ok-clause-library : goal.returns-in-Ok-clause-library
returns-in-Ok-clause-library g c =
    let well = read_well c.args.call.file.now c.args.call.trace.now (g.L.Library.told c.args.library.now) (g.L.Library.told c.read_both.new.library)
    (both_read c.args.call.file.now c.args.call.trace.now (g.L.Library.told c.args.library.now)
    (g.L.Library.told c.read_both.new.library) c.in-Ok.both.program c.in-Ok.both.trace c.in-Ok.ensures) in
    record { told = λ e. absurd (c.answer_both.ensures.seven e); only = λ _ _. well }
