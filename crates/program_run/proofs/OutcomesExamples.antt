-- What the outcome of a tried operation says, of a core that has offered a 5 on channel 0 under the number 0: a withdrawal says that it
-- never happens, a know that it was taken once. Each definition has a side that fails: the other outcome, no entry, or no offer.
use Rattle.std.proofs.Common.{◌≡◌, List, [], ◌∷◌, ◌++◌, refl, pos}
use Rattle.ac_base.specs.declared.entry.Event.{Event}
use Rattle.ac_base.specs.declared.entry.Event.TheVariants.{Withdraw, Know, Got}
use Rattle.ac_base.specs.declared.entry.Stamped.{Stamped}
use Rattle.ac_commands.specs.declared.program.Resolved.{Resolved}
use Rattle.cancel_scope.specs.declared.operation.Asked.TheVariants.{Send}
use Rattle.cancel_scope.specs.declared.operation.Operation.{Operation}
use Rattle.cancel_scope.specs.Outstanding.{as_begun, offered_as, started}
use Rattle.core_state.specs.Cancelling.{Fate, NeverHappens, IsTaken}
use Rattle.core_state.specs.Moves.{On}
use Rattle.core_state.specs.Shared.{Shared, first_shared}
use Rattle.program_run.specs.Run.{IsRunOf, history_of}
use Rattle.program_run.specs.Outcomes.{HasHappened, HasNotHappened, HasTried, IsDoneOrNeverHappens, TriedIsDoneOrNeverHappens, after_try}
use Rattle.program_run.proofs.RunExamples.{their_run, log, sent}

abbrev five : Operation
five = started 0 (Send (pos 5 ∷ [])) (record { number = 1 })

abbrev offered : Operation
offered = offered_as 0 five

-- the next entry is of this turn
abbrev before : Event → Shared
before event = first_shared 1 (record { stamp = 3; turn = 0; event = event } ∷ [])

abbrev got : List Stamped
got = record { party = 1; entry = record { stamp = 2; turn = 0; event = Got 0 0 (pos 5 ∷ []) } } ∷ []

pub what_is_kept_of_a_try : (s : Shared) (it : Fate) → after_try s it ≡ On (record { shared = s; outcome = it })
what_is_kept_of_a_try s it = refl

pub it_is_withdrawn : HasTried (before (Withdraw 0 0)) offered NeverHappens
it_is_withdrawn = record { globals = []; operations = []; after = _; ends = refl }

pub it_was_taken : HasTried (before (Know 0 0)) offered IsTaken
it_was_taken = record { globals = []; operations = []; after = _; ends = refl }

-- one of which only its core knows needs no entry
pub it_was_not_offered : HasTried (first_shared 1 []) five NeverHappens
it_was_not_offered = record { globals = []; operations = []; after = _; ends = refl }

-- what its peer has begun is not tried
pub what_has_begun_has_no_outcome : HasTried (before (Know 0 0)) (as_begun offered) IsTaken → ⊥
what_has_begun_has_no_outcome t = let e = t.ends in cc

pub without_an_entry_there_is_none : HasTried (first_shared 1 []) offered NeverHappens → ⊥
without_an_entry_there_is_none t = let e = t.ends in cc

pub nothing_has_happened : HasNotHappened offered []
nothing_has_happened number under = refl

pub something_has : HasNotHappened offered got → ⊥
something_has h = let e = h 0 refl in cc

pub it_is_done : HasHappened offered got
it_is_done = record { number = 0; offered = refl; taken = refl }

pub what_was_not_offered_is_not : HasHappened five got → ⊥
what_was_not_offered_is_not d = let e = d.offered in cc

pub it_was_taken_once : IsDoneOrNeverHappens got offered IsTaken
it_was_taken_once = record { never = λ e. (let no : IsTaken ≡ NeverHappens = e in absurd (cc)); done = λ e. it_is_done }

pub not_never_where_it_happened : IsDoneOrNeverHappens got offered NeverHappens → ⊥
not_never_where_it_happened h = something_has (h.never refl)

-- by the law, at some place in the journal of the first core of the other examples
pub its_message_moved : TriedIsDoneOrNeverHappens → (program : Resolved) → IsRunOf program 9 [] their_run → (s : Shared) → sent ≡ s.past ++ s.todo
    → HasTried s offered IsTaken → HasHappened offered (history_of their_run.journals)
its_message_moved law program run s reads t = (law program 9 [] their_run run 0 (log sent) refl s reads offered IsTaken t).done refl
