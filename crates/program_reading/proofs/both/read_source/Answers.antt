use Rattle.std.proofs.Common.{refl, subst, inl}
use Rattle.ac_words.specs.declared.task.Task.TheVariants.{Check}
use Rattle.program_reading.specs.Source.{Stops}
use Rattle.program_reading.specs.TwoFiles.RefusesSource.{refused}
use Rattle.program_reading.proofs.both.read_source.Goals as goal

pub returns-in-Err-NoMemory : goal.returns-in-Err-NoMemory
returns-in-Err-NoMemory g c = inl refl

pub returns-in-Err-Refused : goal.returns-in-Err-Refused
returns-in-Err-Refused g c = let r = c.in-Err-Refused in
    refused r.refusal (rw r.field-0-is refl) (subst (Stops c.args.source.now Check) r.field-0-is r.ensures) refl

pub returns-in-Ok : goal.returns-in-Ok
returns-in-Ok g c = c.with_trace.ensures c.args.source.now c.in-Ok.ensures
