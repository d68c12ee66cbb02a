-- The operations of a core that have not ended, the oldest first, and which of them an event is about.
use Rattle.std.specs.Prelude.{ℕ, List, [], ◌∷◌, Bool, true, false, not, ◌&&◌, nat_eq, bytes_eq, if◌then◌else◌}
use Rattle.ac_base.specs.Messages.{ints_eq}
use Rattle.ac_base.specs.declared.entry.Payload.{Payload}
use Rattle.ac_base.specs.declared.entry.Payload.TheVariants as payload
use Rattle.ac_base.specs.declared.ends.Phase.{Phase}
use Rattle.ac_base.specs.declared.ends.Phase.TheVariants as phase
use Rattle.ac_base.specs.declared.ends.Waiting.{Waiting}
use Rattle.work_item.specs.declared.ids.Item.{Item}
use Rattle.cancel_scope.specs.declared.operation.Asked.{Asked}
use Rattle.cancel_scope.specs.declared.operation.Asked.TheVariants as asked
use Rattle.cancel_scope.specs.declared.operation.Progress.{Progress}
use Rattle.cancel_scope.specs.declared.operation.Progress.TheVariants as progress
use Rattle.cancel_scope.specs.declared.operation.Operation.{Operation}

-- ---- one operation

-- one that has just started
abbrev pub started : ℕ → Asked → Item → Operation
started link asked item = record { link = link; asked = asked; item = item; progress = progress.Waiting }

abbrev pub offered_as : ℕ → Operation → Operation
offered_as number o = record o { progress = progress.Offered number }

-- how far a request has come once its peer has begun it, and its core knows that
abbrev pub past_offer : Progress → Progress
past_offer progress.Waiting = progress.Waiting
past_offer (progress.Offered number) = progress.Started number
past_offer (progress.Started number) = progress.Started number

abbrev pub as_begun : Operation → Operation
as_begun o = record o { progress = past_offer o.progress }

-- it goes to its peer as an offer; a message comes to what waits for one
abbrev pub is_outgoing : Asked → Bool
is_outgoing (asked.Recv place) = false
is_outgoing _ = true

-- of a file: it ends by an answer, and not as soon as its peer has taken it
abbrev pub is_request : Asked → Bool
is_request (asked.Read file from into) = true
is_request (asked.Write file from bytes) = true
is_request _ = false

abbrev pub is_waiting : Progress → Bool
is_waiting progress.Waiting = true
is_waiting _ = false

abbrev pub has_begun : Progress → Bool
has_begun (progress.Started number) = true
has_begun _ = false

abbrev pub is_under : ℕ → Progress → Bool
is_under number (progress.Offered n) = nat_eq n number
is_under number _ = false

abbrev pub has_begun_under : ℕ → Progress → Bool
has_begun_under number (progress.Started n) = nat_eq n number
has_begun_under number _ = false

-- it is to be offered on that link
abbrev pub is_to_offer : ℕ → Operation → Bool
is_to_offer link o = nat_eq o.link link && (is_outgoing o.asked && is_waiting o.progress)

-- it stands on that link under that number
abbrev pub is_offered : ℕ → ℕ → Operation → Bool
is_offered link number o = nat_eq o.link link && is_under number o.progress

-- it has begun there under that number
abbrev pub is_begun : ℕ → ℕ → Operation → Bool
is_begun link number o = nat_eq o.link link && has_begun_under number o.progress

-- it waits for a message from that link
abbrev pub is_to_receive : ℕ → Operation → Bool
is_to_receive link o = nat_eq o.link link && not (is_outgoing o.asked)

-- an offer of it carries this
abbrev pub carries : Asked → Payload → Bool
carries (asked.Send sent) (payload.Int message) = ints_eq sent message
carries (asked.Read file from into) (payload.Read f a n) = nat_eq file f && (nat_eq from a && nat_eq into.len n)
carries (asked.Write file from bytes) (payload.Write f a bs) = nat_eq file f && (nat_eq from a && bytes_eq bytes bs)
carries _ _ = false

-- ---- all of them

-- the first for which the test holds is changed, or is taken away
abbrev pub change_first : (Operation → Bool) → (Operation → Operation) → List Operation → List Operation
change_first test change [] = []
change_first test change (o ∷ os) = if test o then change o ∷ os else o ∷ change_first test change os

abbrev pub without_first : (Operation → Bool) → List Operation → List Operation
without_first test [] = []
without_first test (o ∷ os) = if test o then os else o ∷ without_first test os

-- ---- what is seen of them

abbrev pub phase_of : Progress → Phase
phase_of progress.Waiting = phase.Waiting
phase_of (progress.Offered number) = phase.Offered
phase_of (progress.Started number) = phase.Started

abbrev pub waiting_as : Operation → Waiting
waiting_as o = record { link = o.link; phase = phase_of o.progress }

-- whether what is seen is an operation on that link of which only its core knows
abbrev pub is_unoffered : Phase → Bool
is_unoffered phase.Waiting = true
is_unoffered _ = false

abbrev pub waits_on : ℕ → Waiting → Bool
waits_on link w = nat_eq w.link link && is_unoffered w.phase
