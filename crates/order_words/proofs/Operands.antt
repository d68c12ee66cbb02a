-- What `order` asks with two numbers, and `cut` with counts: just what they are, as each word is one number and one list of counts is meant.
use Rattle.std.proofs.Common.{Bor, ◌≡◌, ℕ, List, [], ◌∷◌, codes, refl, sym, subst}
use Rattle.order_words.specs.declared.words.Question.TheVariants as q
use Rattle.order_words.specs.Words.{IsNumber, IsNumbers, IsOfNumbers, Question, Orders, Cuts, Asks}
use Rattle.order_words.specs.Called.{Means}
use Rattle.order_words.specs.inner.Operands.{IsQuestion}
use Rattle.order_words.proofs.Digits.{same_number}

module _ (command first second : List ℕ) (i j : ℕ) (named : command ≡ codes "order") (is_first : IsNumber first i) (is_second : IsNumber second j) where
  asks_order : (question : Question) → Means (q.Order i j) question → Asks command (first ∷ second ∷ []) question
  asks_order (Orders a b) m = (
    named,
    record {
      first = first;
      second = second;
      two = refl;
      is_one = subst (λ (n : ℕ). IsNumber first n) (sym m.0) is_first;
      is_other = subst (λ (n : ℕ). IsNumber second n) (sym m.1) is_second;
    },
  )
  asks_order (Cuts numbers) m = absurd m

  order_only : (question : Question) → Asks command (first ∷ second ∷ []) question → Means (q.Order i j) question
  order_only (Orders a b) h =
      let e = h.1.two in
      let one : h.1.first ≡ first = cc (e) in
      let two : h.1.second ≡ second = cc (e) in
      (same_number first a i (subst (λ (w : List ℕ). IsNumber w a) one h.1.is_one) is_first, same_number second b j (subst (λ (w : List ℕ). IsNumber w b) two h.1.is_other) is_second)
  order_only (Cuts numbers) h = absurd (let e = h.1.one in cc (e))

  pub asks_of_entries : IsQuestion command (first ∷ second ∷ []) (q.Order i j)
  asks_of_entries = record { meant = record { question = Orders i j; means = (refl, refl) }; asks = asks_order; only = order_only }

module _ (command : List ℕ) (counts : Bor (List ℕ)) (named : command ≡ codes "cut") (are : IsOfNumbers counts.now) where
  asks_cut : (question : Question) → Means (q.Cut counts) question → Asks command (counts.now ∷ []) question
  asks_cut (Orders a b) m = absurd m
  asks_cut (Cuts numbers) m = (named, record { word = counts.now; one = refl; are = m })

  cut_only : (question : Question) → Asks command (counts.now ∷ []) question → Means (q.Cut counts) question
  cut_only (Orders a b) h = absurd (let e = h.1.two in cc (e))
  cut_only (Cuts numbers) h =
      let e = h.1.one in
      let one : h.1.word ≡ counts.now = cc (e) in
      subst (λ (w : List ℕ). IsNumbers w numbers) one h.1.are

  pub asks_of_counts : IsQuestion command (counts.now ∷ []) (q.Cut counts)
  asks_of_counts = record { meant = record { question = Cuts are.numbers; means = are.are }; asks = asks_cut; only = cut_only }
