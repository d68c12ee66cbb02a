-- What a trace tells of each core is compared with its end, one after the other: the loop keeps that all below its place are told rightly, and at
-- its end all are.
use Rattle.std.proofs.Common.{◌≡◌, ℕ, ◌+◌, ◌<◌, ◌≤◌, List, Some, true, refl, ap, ◌∙◌, subst, inl, inr, arith, length}
use Rattle.std.specs.Prelude.{◌↔◌, IsTrue, slice_get}
use Rattle.std.proofs.lemmas.Bool.Decides.{leb_tells}
use Rattle.std.proofs.lemmas.Option.{slice_get_within, get_or_from_slice_get}
use Rattle.std.proofs.Common.{get_or}
use Rattle.ac_base.specs.declared.ends.CoreEnd.{CoreEnd}
use Rattle.trace_text.specs.declared.trace.TraceEnd.{TraceEnd}
use Rattle.trace_audit.specs.inner.Comparing.{is_told, AreTold}

abbrev ToldBelow : List TraceEnd → List CoreEnd → ℕ → Type 0
ToldBelow tolds ends n = (k : ℕ) (one : TraceEnd) (end : CoreEnd) → k < n → slice_get tolds k ≡ Some one → slice_get ends k ≡ Some end → is_told one end ≡ true

pub told_more : (tolds : List TraceEnd) (ends : List CoreEnd) (n : ℕ) (a : TraceEnd) (b : CoreEnd) → a ≡ get_or tolds n a → b ≡ get_or ends n b → ToldBelow tolds ends n
    → is_told a b ≡ true → ToldBelow tolds ends (n + 1)
told_more tolds ends n a b is_a is_b below now k one end lt g h = elim (leb_tells n k) [
  | inl w ↦
      let here : n ≡ k = (let le = w.1 in omega arith) in
      let x : a ≡ one = is_a ∙ ap (λ i. get_or tolds i a) here ∙ get_or_from_slice_get tolds k one a g in
      let y : b ≡ end = is_b ∙ ap (λ i. get_or ends i b) here ∙ get_or_from_slice_get ends k end b h in
      subst (λ z. is_told z end ≡ true) x (subst (λ z. is_told a z ≡ true) y now)
  | inr w ↦ below k one end w.1 g h
]

pub all_compared : (tolds : List TraceEnd) (ends : List CoreEnd) (n : ℕ) → length tolds ≡ length ends → length tolds ≤ n → ToldBelow tolds ends n
    → IsTrue true ↔ AreTold tolds ends
all_compared tolds ends n many le below = (
  λ holds. record { count = many; each = λ k one end g h. below k one end (let lt = slice_get_within tolds k one g in omega arith) g h },
  λ told. refl,
)
