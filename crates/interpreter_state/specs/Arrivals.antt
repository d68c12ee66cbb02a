-- What has come in, by what a core then holds.
use Rattle.std.specs.Prelude.{ℤ, List, Option, Some, None}
use Rattle.work_item.specs.declared.ids.Item.{Item}
use Rattle.work_item.specs.Store.{Store}
use Rattle.cancel_scope.specs.declared.operation.Operation.{Operation}
use Rattle.core_state.specs.Arrivals.{Arrival, ok}
use Rattle.interpreter_state.specs.declared.arrivals.Woken.{Woken}
use Rattle.interpreter_state.specs.declared.held.Held.{Held}

-- the thread that goes on, and with which value; where none does the value tells nothing
abbrev pub item_of : Option Woken → Option Item
item_of None = None
item_of (Some w) = Some w.item

abbrev pub value_of : Option Woken → ℤ
value_of None = ok
value_of (Some w) = w.value

abbrev pub left_after : Store → List Operation → Option Woken → Arrival
left_after store operations woken = record { operations = operations; store = store; woken = item_of woken; value = value_of woken }

abbrev pub arrival_of : Held → Option Woken → Arrival
arrival_of h woken = left_after h.memory h.operations.items woken
