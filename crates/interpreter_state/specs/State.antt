-- What a core holds beside its threads, by the interpreter's fields.
use Rattle.std.specs.Prelude.{[]}
use Rattle.core_state.specs.Shared.{Shared}
use Rattle.ac_semantics.specs.Held as s
use Rattle.interpreter_state.specs.declared.held.Held.{Held}

abbrev pub shared_of : Held → Shared
shared_of h = record { steps = h.steps; turn = h.turn; output = h.output.items; past = []; todo = []; requests = h.requests }

abbrev pub held_of : Held → s.Held
held_of h = record { shared = shared_of h; store = h.memory; marks = h.marks.items; operations = h.operations.items }
