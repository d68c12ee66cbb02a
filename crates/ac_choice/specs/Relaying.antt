-- What contracts see of a relay, and what it has taken and offered.
use Rattle.std.specs.Prelude.{◌≡◌, ℕ, ℤ, List, [], ◌∷◌, ◌++◌, ◌==◌, Option, Some, None, map, slice_get}
use Rattle.std.specs.List.{filter}
use Rattle.completion_word.specs.declared.views.Decision.{Decision}
use Rattle.completion_word.specs.declared.views.DecisionKind.{DecisionKind}
use Rattle.completion_word.specs.declared.views.DecisionKind.TheVariants as outcome
use Rattle.channel_ends.specs.Sending.{Sending}
use Rattle.channel_ends.specs.Receiving.{Receiving}
use Rattle.ac_choice.specs.declared.answers.Tagged.{Tagged}

-- the ends on which it takes and the one on which it offers, the message that it holds, the end that it asks first, and the stamp of its
-- last entry
pub record Relaying : Type 0 where
  pub ins : List (Receiving ℤ)
  pub out : Sending Tagged
  pub held : Option Tagged
  pub first : ℕ
  pub clock : ℕ

-- the values of the messages that were taken at end i, in order
abbrev pub of_end : ℕ → List Tagged → List ℤ
of_end i ms = map (λ (m : Tagged). m.value) (filter (λ (m : Tagged). m.end == i) ms)

-- ---- what an end has taken: its items but those of the offers that were passed

abbrev pub if_taken : {M : Type 0} → M → DecisionKind → List M
if_taken x (outcome.Taken t) = x ∷ []
if_taken x (outcome.Passed t) = []

abbrev pub taken_by : {M : Type 0} → List M → List Decision → List M
taken_by [] ds = []
taken_by (x ∷ xs) [] = []
taken_by (x ∷ xs) (d ∷ ds) = if_taken x d.outcome ++ taken_by xs ds

abbrev pub taken_of : {M : Type 0} → Option (Receiving M) → List M
taken_of None = []
taken_of (Some r) = taken_by r.popped r.peer.decisions

-- by end i, if there is one
abbrev pub taken_at : {M : Type 0} → List (Receiving M) → ℕ → List M
taken_at ins i = taken_of (slice_get ins i)

-- ---- what the relay has offered, and then what it holds

abbrev pub held_list : Option Tagged → List Tagged
held_list None = []
held_list (Some m) = m ∷ []

abbrev pub carried : Relaying → List Tagged
carried v = v.out.payloads ++ held_list v.held

-- of each end that is what was taken there, whole and in order
abbrev pub Carries : Relaying → Type 0
Carries v = (i : ℕ) → of_end i (carried v) ≡ taken_at v.ins i
