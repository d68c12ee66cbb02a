-- What a call asks for.
use Rattle.ac_words.specs.declared.call.Call.{Call}
use Rattle.ac_words.specs.declared.call.Call.TheVariants as c
use Rattle.ac_words.specs.Words.{Asked, Does, Audits, Loads}

abbrev pub asked_of : Call → Asked
asked_of (c.Does task file) = Does task file.now
asked_of (c.Audits file trace) = Audits file.now trace.now
asked_of (c.Loads turns steps) = Loads turns steps
