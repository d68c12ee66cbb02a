-- What is known of an instruction, by how the stretch goes on after it: done, asking for an outcome, or refused memory.
-- By the cases of its result; each lemma takes one fact out of a clause that holds under that result.
use Rattle.std.proofs.Common.{◌≡◌, ◌≢◌, refl}
use Rattle.std.specs.Prelude.{Result, Ok, Err, IfOk, OnErr}
use Rattle.ac_base.specs.declared.memory.NoMemory.{NoMemory}
use Rattle.core_machine.specs.declared.went.Went.{Went}
use Rattle.core_machine.specs.declared.went.Went.TheVariants as went
use Rattle.core_machine.specs.declared.went.Follows.TheVariants.{Same, Away, Asks, Refused}
use Rattle.core_machine.specs.inner.Follows.{follows_of}

-- it was done
pub of_done : (P : Type 0) (r : Result Went NoMemory) → IfOk r (λ w. w ≢ went.Asks → P) → follows_of r ≢ Asks → follows_of r ≢ Refused → P
of_done P (Ok went.On) h asks refused = h (λ e. let no : went.On ≡ went.Asks = e in cc)
of_done P (Ok went.Away) h asks refused = h (λ e. let no : went.Away ≡ went.Asks = e in cc)
of_done P (Ok went.Asks) h asks refused = absurd (asks refl)
of_done P (Err error) h asks refused = absurd (refused refl)

-- memory was not refused
pub of_ok : (P : Type 0) (r : Result Went NoMemory) → IfOk r (λ w. P) → follows_of r ≢ Refused → P
of_ok P (Ok w) h refused = h
of_ok P (Err error) h refused = absurd (refused refl)

-- it asks for an outcome
pub of_asks : (P : Type 0) (r : Result Went NoMemory) → IfOk r (λ w. w ≡ went.Asks → P) → follows_of r ≡ Asks → P
of_asks P (Ok went.On) h e = let no : Same ≡ Asks = e in absurd (cc)
of_asks P (Ok went.Away) h e = let no : Away ≡ Asks = e in absurd (cc)
of_asks P (Ok went.Asks) h e = h refl
of_asks P (Err error) h e = let no : Refused ≡ Asks = e in absurd (cc)

-- it was refused memory
pub of_refused : (P : Type 0) (r : Result Went NoMemory) → OnErr r P → follows_of r ≡ Refused → P
of_refused P (Ok went.On) h e = let no : Same ≡ Refused = e in absurd (cc)
of_refused P (Ok went.Away) h e = let no : Away ≡ Refused = e in absurd (cc)
of_refused P (Ok went.Asks) h e = let no : Asks ≡ Refused = e in absurd (cc)
of_refused P (Err error) h e = h

-- the same thread goes on
pub of_same : (P : Type 0) (r : Result Went NoMemory) → IfOk r (λ w. w ≡ went.On → P) → follows_of r ≡ Same → P
of_same P (Ok went.On) h e = h refl
of_same P (Ok went.Away) h e = let no : Away ≡ Same = e in absurd (cc)
of_same P (Ok went.Asks) h e = let no : Asks ≡ Same = e in absurd (cc)
of_same P (Err error) h e = let no : Refused ≡ Same = e in absurd (cc)
