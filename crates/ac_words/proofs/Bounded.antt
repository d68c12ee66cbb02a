-- A call that runs has a bound on steps within its limits, and a load its turns: for who has read the words and knows only that they are such
-- a call (`ac_main`). A bound that is given is within them, by induction on the arguments (`given_within`), and so is the usual one.
use Rattle.std.proofs.Common.{◌≡◌, ℕ, ◌≤◌, List, Option, None, Some, sym, subst, arith}
use Rattle.std.specs.Prelude.{unwrap_or}
use Rattle.ac_words.specs.declared.task.Task.{Task}
use Rattle.ac_words.specs.declared.task.Task.TheVariants as t
use Rattle.ac_words.specs.declared.task.Telling.TheVariants as w
use Rattle.ac_words.specs.Words.{IsArguments, no_more, operand, bound_apart, bound_joined, only_operands, IsCall, Does, Loads, IsBounded}

abbrev IsGiven : Option ℕ → Type 0
IsGiven None = Unit {0}
IsGiven (Some steps) = (1 ≤ steps) × (steps ≤ 2000000)

given_within : {words operands : List (List ℕ)} {given : Option ℕ} → IsArguments words operands given → IsGiven given
given_within no_more = tt
given_within (operand p a) = given_within a
given_within (bound_apart e h a) = (h.least, h.most)
given_within (bound_joined e h a) = (h.least, h.most)
given_within (only_operands e h) = tt

chosen : (given : Option ℕ) → IsGiven given → (1 ≤ unwrap_or given 100000) × (unwrap_or given 100000 ≤ 2000000)
chosen None h = (omega arith, omega arith)
chosen (Some steps) h = h

chosen_is : (given : Option ℕ) (steps : ℕ) → IsGiven given → steps ≡ unwrap_or given 100000 → (1 ≤ steps) × (steps ≤ 2000000)
chosen_is given steps h e = subst (λ (n : ℕ). (1 ≤ n) × (n ≤ 2000000)) (sym e) (chosen given h)

pub bounded : (words : List (List ℕ)) (task : Task) (file : List ℕ) → IsCall words (Does task file) → IsBounded task
bounded words (t.Run steps w.Report) file r = chosen_is r.given steps (given_within r.command.arguments) r.stands.1.1
bounded words (t.Run steps w.Trace) file r = chosen_is r.given steps (given_within r.command.arguments) r.stands.1.1
bounded words (t.Run steps (w.Summary turns)) file r = absurd (r.stands.1)
bounded words t.Check file r = tt
bounded words t.Code file r = tt

-- within the limits of words
pub record IsWithin (turns steps : ℕ) : Type 0 where
  pub least_turns : 1 ≤ turns
  pub most_turns : turns ≤ 500
  pub some_steps : (1 ≤ steps) × (steps ≤ 2000000)

pub load_bounded : (words : List (List ℕ)) (turns steps : ℕ) → IsCall words (Loads turns steps) → IsWithin turns steps
load_bounded words turns steps r = record {
  least_turns = r.stands.1.is_turns.least;
  most_turns = r.stands.1.is_turns.most;
  some_steps = chosen_is r.given steps (given_within r.command.arguments) r.stands.1.steps_are;
}
