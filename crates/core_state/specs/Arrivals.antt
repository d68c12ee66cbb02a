-- What comes in at a dispatch point: an entry of the journal, and what it makes of the operations of a core (Harris, Abadi, Isaacs,
-- McIlroy, OOPSLA 2011, of operations that end by themselves).
use Rattle.std.specs.Prelude.{ℕ, ◌+◌, ℤ, pos, negsuc, List, [], ◌∷◌, find, Option, Some, None}
use Rattle.std.specs.Prelude.{Bool, false, not, ◌&&◌, nat_eq, if◌then◌else◌}
use Rattle.std.specs.List.{list_any}
use Rattle.ac_base.specs.declared.entry.Event.{Event}
use Rattle.ac_base.specs.declared.entry.Event.TheVariants as event
use Rattle.ac_base.specs.declared.entry.Payload.{Payload}
use Rattle.ac_base.specs.declared.entry.Answer.{Answer}
use Rattle.ac_base.specs.declared.entry.Entry.{Entry}
use Rattle.ac_base.specs.declared.ends.CoreEnd.{CoreEnd}
use Rattle.work_item.specs.declared.ids.Item.{Item}
use Rattle.work_item.specs.declared.cell.Place.{Place}
use Rattle.work_item.specs.Store.{Store, no_place}
use Rattle.cancel_scope.specs.declared.operation.Asked.{Asked}
use Rattle.cancel_scope.specs.declared.operation.Asked.TheVariants as asked
use Rattle.cancel_scope.specs.declared.operation.Operation.{Operation}
use Rattle.cancel_scope.specs.Outstanding.{is_to_offer, is_offered, is_begun, is_to_receive, is_request, carries, offered_as, as_begun}
use Rattle.cancel_scope.specs.Outstanding.{change_first, without_first}
use Rattle.core_state.specs.Moves.{Move, Over}
use Rattle.core_state.specs.Shared.{Shared, with_entry}
use Rattle.core_state.specs.Messages.{with_ints_at}
use Rattle.core_state.specs.Requests.{value_of, with_answer}

-- ---- the value of an operation that has ended

-- the named results of the language
abbrev pub ok : ℤ
ok = pos 0

abbrev pub cancelled : ℤ
cancelled = negsuc 0

-- ---- numbers of offers

-- whether an entry is an offer on that link
abbrev pub is_offer : ℕ → Event → Bool
is_offer link (event.Offer l number payload) = nat_eq l link
is_offer link _ = false

-- how many offers on that link these entries make
abbrev pub offers_on : ℕ → List Entry → ℕ
offers_on link [] = 0
offers_on link (e ∷ es) = if is_offer link e.event then 1 + offers_on link es else offers_on link es

-- ---- withdrawals

-- whether an entry withdraws that offer, and whether it gives its room back
abbrev pub is_withdrawal : ℕ → ℕ → Event → Bool
is_withdrawal link number (event.Withdraw l n) = nat_eq l link && nat_eq n number
is_withdrawal link number _ = false

abbrev pub is_room : ℕ → ℕ → Event → Bool
is_room link number (event.Room l n) = nat_eq l link && nat_eq n number
is_room link number _ = false

-- by these entries the offer was withdrawn, and keeps its room
abbrev pub keeps_room : ℕ → ℕ → List Entry → Bool
keeps_room link number past =
    list_any (λ (e : Entry). is_withdrawal link number e.event) past && not (list_any (λ (e : Entry). is_room link number e.event) past)

-- ---- an event

-- the operations that are left, what the globals and the frames hold, and the thread that goes on, where its operation has ended, with
-- that value
pub record Arrival : Type 0 where
  pub operations : List Operation
  pub store : Store
  pub woken : Option Item
  pub value : ℤ

-- an operation goes on, and its thread waits
abbrev pub goes_on_waiting : Store → List Operation → Arrival
goes_on_waiting store operations = record { operations = operations; store = store; woken = None; value = ok }

-- an operation has ended, with that value
abbrev pub has_ended_as : ℤ → Store → List Operation → Operation → Arrival
has_ended_as value store operations o = record { operations = operations; store = store; woken = Some o.item; value = value }

abbrev pub has_ended : Store → List Operation → Operation → Arrival
has_ended store operations o = has_ended_as ok store operations o

-- where an operation puts what it receives
abbrev pub place_for : Asked → Place
place_for (asked.Recv place) = place
place_for _ = no_place

abbrev pub with_message : Store → Operation → List ℤ → Store
with_message store o message = with_ints_at store (place_for o.asked) message

-- the oldest operation that is to be offered on a link is offered, by an offer that carries what it sends
abbrev pub offers : Store → List Operation → ℕ → ℕ → Payload → Option Operation → Option Arrival
offers store os link number payload None = None
offers store os link number payload (Some o) =
    if carries o.asked payload
    then Some (goes_on_waiting store (change_first (is_to_offer link) (offered_as number) os))
    else None

-- its peer has taken what the first offered for which the test holds: a send has ended, and a request has begun, whose thread waits on
abbrev pub is_taken : Store → (Operation → Bool) → List Operation → Operation → Arrival
is_taken store test os o =
    if is_request o.asked then goes_on_waiting store (change_first test as_begun os) else has_ended store (without_first test os) o

abbrev pub is_known : Store → List Operation → ℕ → ℕ → Option Operation → Option Arrival
is_known store os link number None = None
is_known store os link number (Some o) = Some (is_taken store (is_offered link number) os o)

-- a request that has begun has its answer, and has ended
abbrev pub is_answered : Store → List Operation → ℕ → ℕ → Answer → Option Operation → Option Arrival
is_answered store os link number answer None = None
is_answered store os link number answer (Some o) =
    Some (has_ended_as (value_of o.asked answer) (with_answer store o.asked answer) (without_first (is_begun link number) os) o)

-- the oldest that waits for a message from a link puts it into its place, and has ended
abbrev pub ends_received : Store → List Operation → ℕ → List ℤ → Option Operation → Option Arrival
ends_received store os link message None = None
ends_received store os link message (Some o) = Some (has_ended (with_message store o message) (without_first (is_to_receive link) os) o)

-- a withdrawn offer is passed over while one waits for a message from the link, and it goes on waiting
abbrev pub passes_over : Store → List Operation → Option Operation → Option Arrival
passes_over store os None = None
passes_over store os (Some o) = Some (goes_on_waiting store os)

-- its peer has passed over a withdrawn offer, whose room is free again
abbrev pub gives_room : Store → List Operation → Bool → Option Arrival
gives_room store os keeps = if keeps then Some (goes_on_waiting store os) else None

-- what an event makes of a core whose journal had these entries before; none where it does not fit: a withdrawal is made by a cancel, and
-- a request is done by the worker
abbrev pub arrives : List Entry → Store → List Operation → Event → Option Arrival
arrives past store os (event.Offer link number payload) =
    if nat_eq number (offers_on link past) then offers store os link number payload (find (is_to_offer link) os) else None
arrives past store os (event.Know link number) = is_known store os link number (find (is_offered link number) os)
arrives past store os (event.Got link number message) = ends_received store os link message (find (is_to_receive link) os)
arrives past store os (event.Pass link number) = passes_over store os (find (is_to_receive link) os)
arrives past store os (event.Room link number) = gives_room store os (keeps_room link number past)
arrives past store os (event.Reply link number answer) = is_answered store os link number answer (find (is_begun link number) os)
arrives past store os _ = None

-- ---- a dispatch point

-- an entry that does not fit leaves the core without an end
abbrev pub comes_in : {S E : Type 0} → (Option CoreEnd → E) → (Arrival → Move S E) → Option Arrival → Move S E
comes_in tell go None = Over (tell None)
comes_in tell go (Some x) = go x

-- the next entry comes in where it is of this turn, and else the core goes on without it
abbrev pub at_point : {S E : Type 0} → (Option CoreEnd → E) → Shared → Store → List Operation → (Shared → Arrival → Move S E) → Move S E →
    List Entry
    → Move S E
at_point tell s store os go others [] = others
at_point tell s store os go others (e ∷ es) =
    if nat_eq e.turn s.turn
    then comes_in tell (go (with_entry s e es)) (arrives s.past store os e.event)
    else others

abbrev pub point : {S E : Type 0} → (Option CoreEnd → E) → Shared → Store → List Operation → (Shared → Arrival → Move S E) → Move S E →
    Move S E
point tell s store os go others = at_point tell s store os go others s.todo
