-- What the outcome of an operation that a cancel has tried says of what it offered: its peer has taken it, or it never happens (Harris,
-- Abadi, Isaacs, McIlroy, OOPSLA 2011).
use Rattle.std.specs.Prelude.{◌≡◌, ℕ, ℤ, List, ◌++◌, Option, Some, slice_get}
use Rattle.ac_base.specs.Log.{Log}
use Rattle.ac_base.specs.declared.entry.Stamped.{Stamped}
use Rattle.ac_base.specs.declared.ends.CoreEnd.{CoreEnd}
use Rattle.ac_commands.specs.declared.program.Resolved.{Resolved}
use Rattle.cancel_scope.specs.declared.operation.Operation.{Operation}
use Rattle.cancel_scope.specs.declared.operation.Progress.TheVariants.{Offered}
use Rattle.core_state.specs.Moves.{Move, On}
use Rattle.core_state.specs.Shared.{Shared}
use Rattle.core_state.specs.Cancelling.{Fate, NeverHappens, IsTaken, tried}
use Rattle.ac_history.specs.Outcomes.{is_taking, times}
use Rattle.program_run.specs.declared.ended.Ended.{Ended}
use Rattle.program_run.specs.Run.{IsRunOf, history_of}

-- what a core shares after a try, and the outcome
pub record AfterTry : Type 0 where
  pub shared : Shared
  pub outcome : Fate

abbrev pub after_try : Shared → Fate → Move AfterTry (Option CoreEnd)
after_try shared it = On (record { shared = shared; outcome = it })

-- a cancel tries the operation of a core whose journal is read so far, with this outcome
pub record HasTried (s : Shared) (o : Operation) (it : Fate) : Type 0 where
  pub globals : List ℤ
  pub operations : List Operation
  pub after : Shared
  pub ends : tried (λ end. end) s globals operations o.link o.progress after_try ≡ after_try after it

-- under whatever number it was offered, nothing of it was taken
abbrev pub HasNotHappened : Operation → List Stamped → Type 0
HasNotHappened o history = (number : ℕ) → o.progress ≡ Offered number → times (is_taking o.link number) history ≡ 0

-- it was offered, and what it offered was taken, once
pub record HasHappened (o : Operation) (history : List Stamped) : Type 0 where
  pub number : ℕ
  pub offered : o.progress ≡ Offered number
  pub taken : times (is_taking o.link number) history ≡ 1

-- where it never happens nothing of it was taken, and where its peer has taken it that was once
pub record IsDoneOrNeverHappens (history : List Stamped) (o : Operation) (it : Fate) : Type 0 where
  pub never : it ≡ NeverHappens → HasNotHappened o history
  pub done : it ≡ IsTaken → HasHappened o history

-- in the whole history of a run of a program, where one of its cores has come to some place of its journal
abbrev pub TriedIsDoneOrNeverHappens : Type 0
TriedIsDoneOrNeverHappens = (program : Resolved) (bound : ℕ) (files : List (List ℕ)) (ended : Ended) → IsRunOf program bound files ended
    → (core : ℕ) (journal : Log) → slice_get ended.journals core ≡ Some journal
    → (s : Shared) → journal.entries ≡ s.past ++ s.todo → (o : Operation) (it : Fate) → HasTried s o it
    → IsDoneOrNeverHappens (history_of ended.journals) o it
