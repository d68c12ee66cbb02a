-- Marks by the number of their offer, and tests on numbers.
use Rattle.std.proofs.Common.{◌≡◌, ◌≢◌, ℕ, ◌+◌, ◌%◌, ◌<◌, ◌≤◌, List, true, false, length, set, sym, arith, ⊎_elim, inl, inr, ◌⊎◌, nat_lt}
use Rattle.std.proofs.Common.{get_or-set_other, get_or-set_same}
use Rattle.std.proofs.lemmas.Bool.{cases_lt}
use Rattle.std.proofs.lemmas.Bool.Decides.{nat_tests}
use Rattle.atomic_table.proofs.Lists.{one_turn}
use Rattle.channel_ends.specs.declared.marks.Mark.{Mark}
use Rattle.channel_ends.specs.declared.marks.Mark.TheVariants.{Open}
use Rattle.channel_ends.specs.inner.Noted.{mark_at}

pub is_less : (a b : ℕ) → a < b → nat_lt a b ≡ true
is_less a b h = grind (arith, nat_tests)

pub is_not_less : (a b : ℕ) → b ≤ a → nat_lt a b ≡ false
is_not_less a b h = grind (arith, nat_tests)

pub differs : (a b : ℕ) → (a ≡ b → ⊥) → (a < b) ⊎ (b < a)
differs a b ne = ⊎_elim inl (λ (l : b ≤ a). ⊎_elim inr (λ (m : a ≤ b). absurd (ne (omega arith))) (cases_lt b a)) (cases_lt a b)

-- two numbers less than 64 apart have different marks
pub apart : (j k low : ℕ) → (j ≡ k → ⊥) → low ≤ j → low ≤ k → j < low + 64 → k < low + 64 → j % 64 ≢ k % 64
apart j k low ne a b c d e =
    ⊎_elim (λ (l : j < k). ne (one_turn j k 64 (omega arith) (omega arith) e)) (λ (l : k ≤ j). ne (sym (one_turn k j 64 l (omega arith) (sym e)))) (cases_lt j k)

pub mark_set : (marks : List Mark) (n : ℕ) (m : Mark) → length marks ≡ 64 → n % 64 < 64 → mark_at (set marks (n % 64) m) n ≡ m
mark_set marks n m len lt = get_or-set_same marks (n % 64) m Open (omega arith)

pub mark_kept : (marks : List Mark) (n k low : ℕ) (m : Mark) → (k ≡ n → ⊥) → low ≤ n → low ≤ k → n < low + 64 → k < low + 64
    → mark_at (set marks (n % 64) m) k ≡ mark_at marks k
mark_kept marks n k low m ne a b c d = get_or-set_other marks (n % 64) (k % 64) m Open (apart k n low ne b a d c)
