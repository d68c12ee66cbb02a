-- What the proofs say of a move under a journal: that something is seen of an end, that the first entry comes in at most, and that those
-- behind it are of no matter.
-- Three properties of a move, which Journals shows of each move of a core and Prefixes carries along a run.
use Rattle.std.proofs.Common.{◌≡◌, List, [], ◌∷◌, ◌++◌, ◌⊎◌}
use Rattle.std.specs.Prelude.{Option, Some, None}
use Rattle.ac_base.specs.declared.ends.CoreEnd.{CoreEnd}
use Rattle.ac_base.specs.declared.entry.Entry.{Entry}
use Rattle.core_state.specs.Moves.{Move, On, Over}
use Rattle.ac_semantics.specs.Threads.{CoreState}
use Rattle.ac_interpreter.specs.inner.Under.{core_under}

abbrev pub Moved : Type 0
Moved = Move CoreState (Option CoreEnd)

-- other entries still to come
abbrev pub core_with_todo : List Entry → CoreState → CoreState
core_with_todo todo c = core_under c.held.shared.past todo c

-- none is left, and something is seen of an end
abbrev pub IsOut : Moved → Type 0
IsOut (On c) = c.held.shared.todo ≡ []
IsOut (Over end) = (x : CoreEnd) × (end ≡ Some x)

-- with these behind
abbrev pub grown : List Entry → Moved → Moved
grown later (On c) = On (core_with_todo (c.held.shared.todo ++ later) c)
grown later (Over end) = Over end

-- the first has come in, or is still to come
abbrev pub Follows : Entry → List Entry → Moved → Type 0
Follows e es (On c) = (c.held.shared.todo ≡ e ∷ es) ⊎ (c.held.shared.todo ≡ es)
Follows e es (Over end) = end ≡ None
