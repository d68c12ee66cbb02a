-- What a request asks for, or why it asks for nothing.
use Rattle.std.specs.Prelude.{ℕ, None, Result, Ok, Err}
use Rattle.ac_base.specs.declared.ends.Trap.{Trap}
use Rattle.work_item.specs.declared.cell.Place.{Place}
use Rattle.cancel_scope.specs.declared.operation.Asked as a
use Rattle.interpreter_state.specs.declared.operation.Asked.{Asked}
use Rattle.interpreter_state.specs.Operations.{asked_of}

abbrev pub asked_or_trap : Result Asked Trap → Result a.Asked Trap
asked_or_trap (Ok asked) = Ok (asked_of asked)
asked_or_trap (Err trap) = Err trap

-- so many elements, from the first global on
abbrev pub somewhere : ℕ → Place
somewhere len = record { home = None; start = 0; len = len }
