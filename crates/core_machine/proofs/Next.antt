-- A stretch of a turn. For `stretch`.
-- What is left to do is less after a stretch: its last instruction lowers it, or, where it ends at a cancel that asks, the moves before that have.
use Rattle.std.proofs.Common.{◌≡◌, ◌≢◌, ℕ, ◌<◌, ◌≤◌, List, IsSome, refl, sym, ◌∙◌, arith}
use Rattle.core_machine.specs.declared.running.Running.{Running}
use Rattle.core_machine.specs.declared.went.Follows.{Follows}
use Rattle.core_machine.specs.declared.went.Follows.TheVariants.{Same, Away, Asks, Refused}
use Rattle.core_machine.specs.State.{state_of}
use Rattle.core_machine.specs.Tried.{tried_of}
use Rattle.core_machine.specs.inner.Changes.{KeepsCode, Stays}
use Rattle.core_machine.specs.inner.Left.{left_of}
use Rattle.core_machine.proofs.Sound.{stays_left, code_of}

-- its last instruction was done, or the core asks for an outcome there, or memory was refused
module _ (a b c : Running) (how : Follows) (keeps : KeepsCode b c) (stays : how ≡ Asks → Stays b c) where
  pub went_less : (ranks : List ℕ) → how ≢ Refused → (how ≢ Asks → how ≢ Refused → left_of ranks c < left_of ranks b) → (how ≡ Asks → IsSome (tried_of b.code.now (state_of b)))
      → left_of ranks b ≤ left_of ranks a → (IsSome (tried_of b.code.now (state_of b)) → left_of ranks b < left_of ranks a) → left_of ranks c < left_of ranks a
  went_less ranks given falls asks least less = by how refl
    where
      by : (w : Follows) → how ≡ w → left_of ranks c < left_of ranks a
      by Same e = let f = falls (λ asks. let no : Same ≡ Asks = sym e ∙ asks in cc) given in omega (arith, f, least)
      by Away e = let f = falls (λ asks. let no : Away ≡ Asks = sym e ∙ asks in cc) given in omega (arith, f, least)
      by Asks e = let there = stays_left b c (stays e) (code_of b c keeps) ranks in let f = less (asks e) in omega (arith, f, there)
      by Refused e = absurd (given e)
