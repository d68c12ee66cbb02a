-- One instruction after another of a running core, before none of which an entry could come in (`IsLed`).
-- An instruction that was done is one move, one that asks or was refused is none; and what leads from a to b and from b to c leads from a to c.
use Rattle.std.proofs.Common.{◌≡◌, ℕ, zero, suc, None, IsSome, refl, sym, subst}
use Rattle.core_state.specs.Moves.{Move, On, Over, GoesOn, and_then, moves}
use Rattle.core_state.proofs.Runs.{GoesOn-none, GoesOn-more}
use Rattle.stack_code.specs.Parts.{Parts}
use Rattle.code_meaning.specs.Machine.{exec}
use Rattle.replay_laws.specs.Given.{Passes}
use Rattle.core_machine.specs.declared.running.Running.{Running}
use Rattle.core_machine.specs.declared.went.Went.{Went}
use Rattle.core_machine.specs.declared.went.Went.TheVariants as went
use Rattle.core_machine.specs.State.{flat_of, state_of}
use Rattle.core_machine.specs.inner.Changes.{IsSameCode, Stays}
use Rattle.core_machine.specs.inner.Led.{IsLed}
use Rattle.core_machine.proofs.Passing.{one_passes, passes_on}
use Rattle.core_machine.proofs.Sound.{goes_on, stays_state, stays_there}

-- an instruction was done
pub led_once : (a c : Running) → a.ended ≡ None → IsSome a.schedule.running → state_of c ≡ exec a.code.now a.bound (flat_of a) → IsLed a c
led_once a c still runs done =
    let same : IsSameCode a a = record { code = refl; core = refl; bound = refl; seats = λ h. h } in
    record {
      goes = goes_on a a c same still (GoesOn-none (exec a.code.now a.bound) (state_of a)) done;
      passes = λ turn. one_passes a a c same still runs done turn (zero, refl);
    }

-- nothing was
pub led_none : (a b : Running) → Stays a b → IsLed a b
led_none a b stays = record {
  goes = stays_there a b (stays_state a b stays);
  passes = λ turn. (zero, stays_state a b stays);
}

-- ---- and then others

module _ {S E : Type 0} (f : S → Move S E) where
  then_goes : (k : ℕ) (a b c : Move S E) → GoesOn f a b → c ≡ and_then b (moves f k) → GoesOn f a c
  then_goes zero a (On m) c g e = subst (GoesOn f a) (sym e) g
  then_goes (suc k) a (On m) c g e = then_goes k a (f m) c (GoesOn-more f a m g) e
  then_goes k a (Over x) c g e = subst (GoesOn f a) (sym e) g

pub led_on : (a b c : Running) → IsSameCode a b → IsLed a b → IsLed b c → IsLed a c
led_on a b c same first second =
    let h : GoesOn (exec a.code.now a.bound) (state_of b) (state_of c) =
    subst (λ (n : ℕ). GoesOn (exec a.code.now n) (state_of b) (state_of c)) same.bound
    (subst (λ (code : Parts). GoesOn (exec code b.bound) (state_of b) (state_of c)) same.code second.goes) in
    record {
      goes = then_goes (exec a.code.now a.bound) h.0 (state_of a) (state_of b) (state_of c) first.goes h.1;
      passes = λ turn.
          let x = first.passes turn in
          let y = second.passes turn in
          let z : Passes a.code.now a.bound turn y.0 (state_of b) (state_of c) =
          subst (λ (n : ℕ). Passes a.code.now n turn y.0 (state_of b) (state_of c)) same.bound
          (subst (λ (code : Parts). Passes code b.bound turn y.0 (state_of b) (state_of c)) same.code y.1) in
          passes_on a.code.now a.bound turn x.0 y.0 (state_of a) (state_of b) (state_of c) x.1 z;
    }
