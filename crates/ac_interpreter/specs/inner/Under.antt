-- A core under a journal: what the interpreter holds is that of a core without one.
use Rattle.std.specs.Prelude.{◌≡◌, ℕ, List, [], ◌∷◌, ◌++◌, Option, None, false, nat_eq}
use Rattle.ac_base.specs.declared.ends.CoreEnd.{CoreEnd}
use Rattle.ac_base.specs.declared.entry.Entry.{Entry}
use Rattle.core_state.specs.Moves.{Move, On, Over}
use Rattle.ac_semantics.specs.Held.{Held}
use Rattle.ac_semantics.specs.Threads.{CoreState}
use Rattle.ac_interpreter.specs.declared.turns.Came.{Came}
use Rattle.ac_interpreter.specs.declared.turns.Came.TheVariants as came
use Rattle.ac_interpreter.specs.declared.running.InterpretedCore.{InterpretedCore}
use Rattle.ac_interpreter.specs.inner.Cores.{core_of, state_of}

-- with these entries that have come in, and those still to come
abbrev pub held_under : List Entry → List Entry → Held → Held
held_under past todo h = record h { shared = record h.shared { past = past; todo = todo } }

abbrev pub core_under : List Entry → List Entry → CoreState → CoreState
core_under past todo c = record c { held = held_under past todo c.held }

-- nothing is seen of an end where an entry is left
abbrev pub unless_left : List Entry → Option CoreEnd → Option CoreEnd
unless_left [] end = end
unless_left (_ ∷ _) end = None

abbrev pub move_under : List Entry → List Entry → Move CoreState (Option CoreEnd) → Move CoreState (Option CoreEnd)
move_under past todo (On c) = On (core_under past todo c)
move_under past todo (Over end) = Over (unless_left todo end)

-- none of these comes in with this turn
abbrev pub IsLater : List Entry → ℕ → Type 0
IsLater [] turn = Unit {0}
IsLater (e ∷ es) turn = nat_eq e.turn turn ≡ false

-- the move took the next of these entries, and the core goes on
pub record Took (past todo : List Entry) (move : Move CoreState (Option CoreEnd)) (after : InterpretedCore) : Type 0 where
  pub entry : Entry
  pub others : List Entry
  pub front : todo ≡ entry ∷ others
  pub on : move ≡ On (core_under (past ++ entry ∷ []) others (core_of after))
  pub ended : after.ended ≡ None

-- the core has made this move under this journal
abbrev pub IsMoved : Came → List Entry → List Entry → Move CoreState (Option CoreEnd) → InterpretedCore → Type 0
IsMoved came.Nothing past todo move after = move ≡ move_under past todo (state_of after)
IsMoved came.Entry past todo move after = Took past todo move after
IsMoved came.Misfit past todo move after = move ≡ Over None
