-- Each end of a list comes once in turn.
use Rattle.std.proofs.Common.{◌≡◌, ℕ, ◌+◌, ◌-◌, ◌<◌, ◌≤◌, true, false, inl, inr, arith, ap, cond, ⊎_elim}
use Rattle.std.specs.Prelude.{nat_le, ◌⊎◌}
use Rattle.std.proofs.lemmas.Bool.{cases_lt, cases_eq}
use Rattle.std.proofs.lemmas.Bool.Decides.{nat_tests}
use Rattle.ac_choice.specs.Turns.{turn}

le_true : (x y : ℕ) → x ≤ y → nat_le x y ≡ true
le_true x y h = grind (arith, nat_tests)

le_false : (x y : ℕ) → y < x → nat_le x y ≡ false
le_false x y h = grind (arith, nat_tests)

pub turn_from : (count first e : ℕ) → first ≤ e → turn count first e ≡ e - first
turn_from count first e h = ap (λ b. cond b (e - first) ((e + count) - first)) (le_true first e h)

pub turn_round : (count first e : ℕ) → e < first → turn count first e ≡ (e + count) - first
turn_round count first e h = ap (λ b. cond b (e - first) ((e + count) - first)) (le_false first e h)

pub turn_below : (count first e : ℕ) → first < count → e < count → turn count first e < count
turn_below count first e f h =
    ⊎_elim (λ (l : e < first). let t = turn_round count first e l in omega (arith, t, l, f, h))
    (λ (g : first ≤ e). let t = turn_from count first e g in omega (arith, t, g, f, h)) (cases_lt e first)

pub one_turn : (count first d e : ℕ) → first < count → d < count → e < count → turn count first d ≡ turn count first e → d ≡ e
one_turn count first d e f a b same =
    elim (cases_lt d first) [
      | inl l ↦ elim (cases_lt e first) [
        | inl m ↦ let t = turn_round count first d l in let u = turn_round count first e m in omega (arith, t, u, same, f, a, b, l, m)
        | inr g ↦ let t = turn_round count first d l in let u = turn_from count first e g in absurd (omega (arith, t, u, same, f, a, b, l, g))
      ]
      | inr g ↦ elim (cases_lt e first) [
        | inl m ↦ let t = turn_from count first d g in let u = turn_round count first e m in absurd (omega (arith, t, u, same, f, a, b, g, m))
        | inr k ↦ let t = turn_from count first d g in let u = turn_from count first e k in omega (arith, t, u, same, f, a, b, g, k)
      ]
    ]

-- of two ends one comes first
pub turns_apart : (count first d e : ℕ) → first < count → d < count → e < count → (d ≡ e → ⊥)
    → (turn count first d < turn count first e) ⊎ (turn count first e < turn count first d)
turns_apart count first d e f a b n =
    elim (cases_lt (turn count first d) (turn count first e)) [
      | inl l ↦ inl l
      | inr g ↦ elim (cases_eq (turn count first d) (turn count first e)) [
        | inl same ↦ absurd (n (one_turn count first d e f a b same))
        | inr apart ↦ inr (omega (arith, g, apart))
      ]
    ]
