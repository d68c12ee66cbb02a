-- Globals whose slots rise.
-- `rising_from` goes over the list once with the least slot that may come next; by induction it is true just where the slots are strictly
-- increasing.
use Rattle.std.proofs.Common.{◌≡◌, ℕ, zero, suc, ◌+◌, ◌<◌, ◌≤◌, List, [], ◌∷◌, length, Bool, true, false, nat_lt, refl, sym, ◌∙◌, subst, arith}
use Rattle.std.specs.Prelude.{map, slice_index, All, ◌↔◌, IsTrue, if◌then◌else◌}
use Rattle.std.specs.List.Sorted.{IsStrictlyIncreasing}
use Rattle.std.proofs.lemmas.Bool.{false≢true}
use Rattle.std.proofs.lemmas.Bool.Decides.{nat_tests}
use Rattle.stack_code.specs.declared.parts.Start.{Start}
use Rattle.stack_code.specs.Parts.{Parts}
use Rattle.stack_code.specs.Valid.{IsStart, HasStarts}
use Rattle.stack_code.specs.inner.Rises.{rising_from}

abbrev slots : List Start → List ℕ
slots starts = map (λ (start : Start). start.slot) starts

-- from that slot on
abbrev FromOn : ℕ → List Start → Type 0
FromOn next starts = 0 < length (slots starts) → next ≤ slice_index (slots starts) 0

up_more : (x : Start) (starts : List Start) → FromOn (x.slot + 1) starts → IsStrictlyIncreasing (slots starts) → IsStrictlyIncreasing (slots (x ∷ starts))
up_more x starts f up zero lt = let h : x.slot + 1 ≤ slice_index (slots starts) 0 = f (omega arith) in omega arith
up_more x starts f up (suc k) lt =
    let e : suc k + 1 ≡ suc (k + 1) = omega arith in
    subst (λ j. slice_index (slots (x ∷ starts)) (suc k) < slice_index (slots (x ∷ starts)) j) (sym e) (up k (omega arith))

up_less : (x : Start) (starts : List Start) → IsStrictlyIncreasing (slots (x ∷ starts)) → IsStrictlyIncreasing (slots starts)
up_less x starts up k lt =
    let e : suc k + 1 ≡ suc (k + 1) = omega arith in
    subst (λ j. slice_index (slots (x ∷ starts)) (suc k) < slice_index (slots (x ∷ starts)) j) e (up (suc k) (omega arith))

from_next : (x : Start) (starts : List Start) → IsStrictlyIncreasing (slots (x ∷ starts)) → FromOn (x.slot + 1) starts
from_next x starts up lt =
    let e : 0 + 1 ≡ suc 0 = omega arith in
    let h : x.slot < slice_index (slots (x ∷ starts)) (suc 0) = subst (λ j. x.slot < slice_index (slots (x ∷ starts)) j) e (up 0 (omega arith)) in
    omega arith

abbrev Rises : ℕ → List Start → Type 0
Rises next starts = FromOn next starts × IsStrictlyIncreasing (slots starts)

rises_by : (next : ℕ) (x : Start) (starts : List Start) (b : Bool) → nat_lt x.slot next ≡ b → (rising_from (x.slot + 1) starts ≡ true → Rises (x.slot + 1) starts)
    → (if b then false else rising_from (x.slot + 1) starts) ≡ true → Rises next (x ∷ starts)
rises_by next x starts true t rest e = absurd (false≢true e)
rises_by next x starts false t rest e =
    let w = rest e in
    let le : next ≤ x.slot = grind (arith, nat_tests) in
    (λ lt. le, up_more x starts w.0 w.1)

rises : (next : ℕ) (starts : List Start) → rising_from next starts ≡ true → Rises next starts
rises next [] e = (λ lt. absurd (omega arith), λ k lt. absurd (omega arith))
rises next (x ∷ starts) e = rises_by next x starts (nat_lt x.slot next) refl (rises (x.slot + 1) starts) e

rising_by : (next : ℕ) (x : Start) (starts : List Start) (b : Bool) → nat_lt x.slot next ≡ b → next ≤ x.slot → rising_from (x.slot + 1) starts ≡ true
    → (if b then false else rising_from (x.slot + 1) starts) ≡ true
rising_by next x starts true t le e = absurd (let lt : x.slot < next = grind (arith, nat_tests) in omega arith)
rising_by next x starts false t le e = e

rising : (next : ℕ) (starts : List Start) → FromOn next starts → IsStrictlyIncreasing (slots starts) → rising_from next starts ≡ true
rising next [] f up = refl
rising next (x ∷ starts) f up = rising_by next x starts (nat_lt x.slot next) refl (f (omega arith)) (rising (x.slot + 1) starts (from_next x starts up) (up_less x starts up))

pub rising_is : (starts : List Start) → IsTrue (rising_from 0 starts) ↔ IsStrictlyIncreasing (slots starts)
rising_is starts = (λ t. (rises 0 starts t).1, λ up. rising 0 starts (λ lt. omega arith) up)

-- ---- as the code tells it

pub starts_by : (code : Parts) (starts : List Start) (r s : Bool) → starts ≡ code.starts → r ≡ rising_from 0 starts → r ≡ true → (IsTrue s ↔ All (IsStart code) starts) → IsTrue s ↔ HasStarts code
starts_by code starts r s e h t d = (
  (λ q. record {
    rising = subst (λ z. IsStrictlyIncreasing (slots z)) e ((rising_is starts).0 (sym h ∙ t));
    starts = subst (All (IsStart code)) e (d.0 q);
  }),
  (λ v. d.1 (subst (All (IsStart code)) (sym e) v.starts)),
)

pub no_starts : (code : Parts) (starts : List Start) (r : Bool) → starts ≡ code.starts → r ≡ rising_from 0 starts → r ≡ false → IsTrue false ↔ HasStarts code
no_starts code starts r e h f = (
  (λ q. absurd (false≢true q)),
  (λ v. sym f ∙ (h ∙ (rising_is starts).1 (subst (λ z. IsStrictlyIncreasing (slots z)) (sym e) v.rising))),
)
