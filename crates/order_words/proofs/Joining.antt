-- How a text is numbers that are joined by commas: it has no comma and is a number, or the first comma stands behind a number and the rest
-- is numbers. Digits are no commas, so where `split_once` cuts, and where it does not, tells which.
use Rattle.std.proofs.Common.{Bor, ◌≡◌, ℕ, List, [], ◌∷◌, ◌++◌, length, None, Some, get_or, refl, sym, ap, ◌∙◌, subst, length-append, arith}
use Rattle.std.proofs.lemmas.Str.Pattern.{IsSplitOnceResult, split_after, split_parts}
use Rattle.order_words.specs.Words.{IsNumber, IsNumbers, one_number, and_others}
use Rattle.order_words.specs.declared.numbers.First.TheVariants.{Last, More}
use Rattle.order_words.specs.inner.Counting.{IsJoined, GoesOn}
use Rattle.order_words.proofs.Digits.{no_comma, same_number}

there : (front rest : List ℕ) → get_or (front ++ (44 ∷ rest)) (length front) 0 ≡ 44
there [] rest = refl
there (b ∷ front) rest = there front rest

-- no number has a comma in it
not_joined : (text front rest : List ℕ) (number : ℕ) → text ≡ front ++ (44 ∷ rest) → IsNumber text number → ⊥
not_joined text front rest number e h =
    no_comma text number h (length front) (omega (arith, ap length e, length-append front (44 ∷ rest))) (ap (λ (bs : List ℕ). get_or bs (length front) 0) e ∙ there front rest)

-- ---- one number

pub just_one : (text : List ℕ) (number : ℕ) → IsNumber text number → GoesOn text (Last number)
just_one text number h = λ numbers. (to numbers, λ e. one_number text numbers number e h) where
  to : (numbers : List ℕ) → IsNumbers text numbers → numbers ≡ number ∷ []
  to numbers (one_number _ _ n e k) = e ∙ ap (λ (m : ℕ). m ∷ []) (same_number text n number k h)
  to numbers (and_others _ _ front rest n others e f k w) = absurd (not_joined text front rest number e h)

-- ---- what a comma tells

module _ (text : List ℕ) where
  -- there is none
  pub none_joined : (r : IsSplitOnceResult 44 text None) → ((number : ℕ) → IsNumber text number → ⊥) → (numbers : List ℕ) → IsNumbers text numbers → ⊥
  none_joined r never numbers (one_number _ _ n e k) = never n k
  none_joined r never numbers (and_others _ _ front rest n others e f k w) = split_after 44 text front rest None r (omega arith) e (no_comma front n k)

  module _ (word others : Bor (List ℕ)) (r : IsSplitOnceResult 44 text (Some (word, others))) where
    cut : text ≡ word.now ++ (44 ∷ others.now)
    cut = (split_parts 44 text (Some (word, others)) r (omega arith)).0

    pub none_first : ((number : ℕ) → IsNumber word.now number → ⊥) → (numbers : List ℕ) → IsNumbers text numbers → ⊥
    none_first never numbers (one_number _ _ n e k) = not_joined text word.now others.now n cut k
    none_first never numbers (and_others _ _ front rest n os e f k w) =
        let same = split_after 44 text front rest (Some (word, others)) r (omega arith) e (no_comma front n k) in
        never n (subst (λ (bs : List ℕ). IsNumber bs n) (sym same.0) k)

    pub first_and_others : (number : ℕ) → IsNumber word.now number → GoesOn text (More number others)
    first_and_others number h = (omega (arith, ap length cut, length-append word.now (44 ∷ others.now)), λ numbers. (to numbers, from numbers)) where
      to : (numbers : List ℕ) → IsNumbers text numbers → IsJoined number others.now numbers
      to numbers (one_number _ _ n e k) = absurd (not_joined text word.now others.now n cut k)
      to numbers (and_others _ _ front rest n os e f k w) =
          let same = split_after 44 text front rest (Some (word, others)) r (omega arith) e (no_comma front n k) in
          let number_is = same_number word.now n number (subst (λ (bs : List ℕ). IsNumber bs n) (sym same.0) k) h in
          record { rest = os; form = f ∙ ap (λ (m : ℕ). m ∷ os) number_is; are = subst (λ (bs : List ℕ). IsNumbers bs os) (sym same.1) w }

      from : (numbers : List ℕ) → IsJoined number others.now numbers → IsNumbers text numbers
      from numbers j = and_others text numbers word.now others.now number j.rest cut j.form h j.are
