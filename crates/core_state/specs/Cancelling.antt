-- What a cancel makes of the operations of a core: each within the block that has not ended and that its peer has not begun is tried, in
-- the order in which they started, and either its peer has taken it or it never happens (Harris, Abadi, Isaacs, McIlroy, OOPSLA 2011).
use Rattle.std.specs.Prelude.{ℕ, ℤ, List, [], ◌∷◌, find, Option, Some, None, Bool, false, not, ◌&&◌, nat_eq, if◌then◌else◌}
use Rattle.ac_base.specs.declared.entry.Event.{Event}
use Rattle.ac_base.specs.declared.entry.Event.TheVariants as event
use Rattle.ac_base.specs.declared.entry.Entry.{Entry}
use Rattle.ac_base.specs.declared.ends.EndWord.TheVariants as word
use Rattle.ac_base.specs.declared.ends.CoreEnd.{CoreEnd}
use Rattle.work_item.specs.Store.{Store}
use Rattle.cancel_scope.specs.declared.operation.Progress.{Progress}
use Rattle.cancel_scope.specs.declared.operation.Progress.TheVariants as progress
use Rattle.cancel_scope.specs.declared.operation.Operation.{Operation}
use Rattle.cancel_scope.specs.Outstanding.{has_begun, without_first}
use Rattle.core_state.specs.Moves.{Move, Over}
use Rattle.core_state.specs.Shared.{Shared, with_entry, seen}
use Rattle.core_state.specs.Arrivals.{Arrival, has_ended_as, is_taken, cancelled}

-- ---- the outcome of an operation that is tried

pub data Fate : Type 0 where
  NeverHappens : Fate
  -- its peer was first
  IsTaken : Fate

-- what it makes of the first operation for which the test holds
abbrev pub by_outcome : Fate → Store → (Operation → Bool) → List Operation → Operation → Arrival
by_outcome NeverHappens store test os o = has_ended_as cancelled store (without_first test os) o
by_outcome IsTaken store test os o = is_taken store test os o

-- of what stands under that number on that link: it is withdrawn, or its peer has taken it; none where the event decides nothing of it
abbrev pub outcome : ℕ → ℕ → Event → Option Fate
outcome link number (event.Withdraw l n) = if nat_eq l link && nat_eq n number then Some NeverHappens else None
outcome link number (event.Know l n) = if nat_eq l link && nat_eq n number then Some IsTaken else None
outcome link number _ = None

-- an entry that decides nothing of the offer leaves the core without an end
abbrev pub goes_by : {S E : Type 0} → (Option CoreEnd → E) → (Fate → Move S E) → Option Fate → Move S E
goes_by tell go None = Over (tell None)
goes_by tell go (Some it) = go it

-- The next entry is the outcome, and it is of this turn. Where there is none the run stops, in the middle of the cancel, and the core is
-- not idle.
abbrev pub decided : {S E : Type 0} → (Option CoreEnd → E) → Shared → List ℤ → List Operation → ℕ → ℕ → (Shared → Fate → Move S E)
    → List Entry → Move S E
decided tell s globals os link number go [] = Over (tell (seen word.Stalled false globals os s))
decided tell s globals os link number go (e ∷ es) =
    if nat_eq e.turn s.turn then goes_by tell (go (with_entry s e es)) (outcome link number e.event) else Over (tell None)

-- ---- an operation is tried

-- one of which only its own core knows never happens; an offer is decided by an entry; what its peer has begun is not tried
abbrev pub tried : {S E : Type 0} → (Option CoreEnd → E) → Shared → List ℤ → List Operation → ℕ → Progress → (Shared → Fate → Move S E)
    → Move S E
tried tell s globals os link progress.Waiting go = go s NeverHappens
tried tell s globals os link (progress.Offered number) go = decided tell s globals os link number go s.todo
tried tell s globals os link (progress.Started number) go = Over (tell None)

-- the first for which the test holds
abbrev pub tries : {S E : Type 0} → (Option CoreEnd → E) → Shared → Store → List Operation → (Operation → Bool)
    → (Shared → Arrival → Move S E) → Move S E → Option Operation → Move S E
tries tell s store os test go others None = others
tries tell s store os test go others (Some o) =
    tried tell s store.globals os o.link o.progress (λ shared it. go shared (by_outcome it store test os o))

-- it is inside, and its peer has not begun it: that stays until its answer has come
abbrev pub is_to_try : (Operation → Bool) → Operation → Bool
is_to_try inside o = inside o && not (has_begun o.progress)

-- the oldest of those inside that is to be tried; where none is left, the others
abbrev pub cancels : {S E : Type 0} → (Option CoreEnd → E) → Shared → Store → List Operation → (Operation → Bool)
    → (Shared → Arrival → Move S E) → Move S E → Move S E
cancels tell s store os inside go others = tries tell s store os (is_to_try inside) go others (find (is_to_try inside) os)
