-- Parts that are read one after the other, as long as one comes: their law (`law_many`), by induction on how many `many_at` may read.
-- It may read as many as there are tokens, and more would change nothing, since each part takes a token (`fuel`). The hard law is that the next
-- token alone decides: two lists that begin the same may differ in length, so both are read with the lengths of both together (`local_many`).
use Rattle.std.proofs.Common.{◌≡◌, ℕ, zero, suc, ◌+◌, ◌<◌, ◌≤◌, List, [], ◌∷◌, ◌++◌, length, Option, Some, None, Ok, Err, refl, sym, ap, ◌∙◌, subst, length-append, arith}
use Rattle.std.specs.Prelude.{Bool, true, false, if◌then◌else◌}
use Rattle.ac_lexer.specs.declared.token.Token.{Token}
use Rattle.reading_laws.specs.Marks.{Marked, tokens, cut}
use Rattle.reading_laws.specs.Readers.{Reads, ◌>>=◌, many_at}
use Rattle.reading_laws.proofs.Marking.{tokens_split, same_length}
use Rattle.reading_laws.proofs.Heads.{Local, ByHead, local_return, local_bind, local_if}
use Rattle.reading_laws.proofs.Parts.{Part, GoodAt, Law, Seq, seq, Made, made, Is, itself, ret, verdict, Either_of, first, second, bind_good, made_good, either_good, bind_reads, law_ret}

pub data Many (X : Type 0) (P : X → List Marked → Type 0) : List X → List Marked → Type 0 where
  none : Many X P [] []
  some : (x : X) (xs : List X) (a c : List Marked) → P x a → Many X P xs c → Many X P (x ∷ xs) (a ++ c)

unfoldable pub many : {X : Type 0} → (List Token → Bool) → Part X → Part (List X)
many {X} more p = record { read = λ a. many_at more p.read (length a) a; spells = Many X p.spells; filled = record { value = []; marks = []; spells = none } }

module _ (X : Type 0) (more : List Token → Bool) (f : List Token → Reads X) where
  none_reads : (n : ℕ) (a : List Token) → more a ≡ false → many_at more f n a ≡ Ok ([], a)
  unfolding many_at
  none_reads zero a h = refl
  none_reads (suc n) a h = rw h refl

  some_reads : (n : ℕ) (a : List Token) → more a ≡ true → many_at more f (suc n) a ≡ (f a >>= λ x. many_at more f n x.1 >>= λ xs. Ok (x.0 ∷ xs.0, xs.1))
  unfolding many_at
  some_reads n a h = rw h refl

  -- ---- as much fuel as tokens is enough

  abbrev with_first : X → Reads (List X) → Reads (List X)
  with_first x y = y >>= λ xs. Ok (x ∷ xs.0, xs.1)

  abbrev after : Reads X → ℕ → Reads (List X)
  after y n = y >>= λ x. many_at more f n x.1 >>= λ xs. Ok (x.0 ∷ xs.0, xs.1)

  module _ (empty : more [] ≡ false) (short : (a : List Token) (x : X) (r : List Token) → f a ≡ Ok (x, r) → length r < length a) where
    fuel_case : (n m : ℕ) (t : Token) (a : List Token) → length a ≤ n → length a ≤ m → ((r : List Token) → length r ≤ n → length r ≤ m → many_at more f n r ≡ many_at more f m r) → (y : Reads X)
        → f (t ∷ a) ≡ y
        → after y n ≡ after y m
    fuel_case n m t a p q g (Ok x) e =
        let s : length x.1 < suc (length a) = short (t ∷ a) x.0 x.1 e in
        ap (with_first x.0) (g x.1 (omega (arith, s)) (omega (arith, s)))
    fuel_case n m t a p q g (Err c) e = refl

    step_case : (n m : ℕ) (t : Token) (a : List Token) (b : Bool) → more (t ∷ a) ≡ b → length a ≤ n → length a ≤ m
        → ((r : List Token) → length r ≤ n → length r ≤ m → many_at more f n r ≡ many_at more f m r)
        → many_at more f (suc n) (t ∷ a) ≡ many_at more f (suc m) (t ∷ a)
    step_case n m t a true e p q g = some_reads n (t ∷ a) e ∙ fuel_case n m t a p q g (f (t ∷ a)) refl ∙ sym (some_reads m (t ∷ a) e)
    step_case n m t a false e p q g = none_reads (suc n) (t ∷ a) e ∙ sym (none_reads (suc m) (t ∷ a) e)

    fuel : (n m : ℕ) (a : List Token) → length a ≤ n → length a ≤ m → many_at more f n a ≡ many_at more f m a
    fuel n m [] p q = none_reads n [] empty ∙ sym (none_reads m [] empty)
    fuel zero m (t ∷ a) p q = absurd (omega arith)
    fuel (suc n) zero (t ∷ a) p q = absurd (omega arith)
    fuel (suc n) (suc m) (t ∷ a) p q = step_case n m t a (more (t ∷ a)) refl (omega arith) (omega arith) (λ r u v. fuel n m r u v)

    -- ---- the next token alone decides

    module _ (by : ByHead more) (lf : Local X f) where
      local_fueled : (n : ℕ) → Local (List X) (many_at more f n)
      unfolding many_at
      local_fueled zero = local_return (List X) []
      local_fueled (suc n) =
          local_if (List X) more by (λ a. f a >>= λ x. many_at more f n x.1 >>= λ xs. Ok (x.0 ∷ xs.0, xs.1)) (λ a. Ok ([], a))
          (local_bind X (List X) f (λ x a. many_at more f n a >>= λ xs. Ok (x ∷ xs.0, xs.1)) lf
          (λ a z e. local_bind (List X) (List X) (many_at more f n) (λ xs a. Ok (z.0 ∷ xs, a)) (local_fueled n) (λ c y g. local_return (List X) (z.0 ∷ y.0))))
          (local_return (List X) [])

      pub local_many : Local (List X) (λ a. many_at more f (length a) a)
      local_many o a r b h e =
          let n : ℕ = length a + length b in
          let m = local_fueled (length a + length b) o a r b h (fuel (length a + length b) (length a) a (omega arith) (omega arith) ∙ e) in
          let few : length (m.used ++ b) ≤ length a + length b = omega (arith, length-append m.used b, length-append m.used r, ap (λ (c : List Token). length c) m.split) in
          record { used = m.used; split = m.split; same = fuel (length (m.used ++ b)) (length a + length b) (m.used ++ b) (omega arith) few ∙ m.same }

-- ---- what is read, and where reading stops

is_some : (X : Type 0) (P : X → List Marked → Type 0) (xs : List X) (ms : List Marked) → Seq X (List X) P (λ x. Made (List X) (List X) (Many X P) (λ xs. x ∷ xs)) xs ms → Many X P xs ms
is_some X P _ _ (seq x _ a _ p (made xs c q)) = some x xs a c p q

joined : (X : Type 0) (P : X → List Marked → Type 0) (xs : List X) (ms : List Marked)
    → Either_of (List X) (Seq X (List X) P (λ x. Made (List X) (List X) (Many X P) (λ xs. x ∷ xs))) (Is (List X) []) xs ms → Many X P xs ms
joined X P _ _ (first xs ms s) = is_some X P xs ms s
joined X P _ _ (second _ _ itself) = none

pub good_by : (L : ℕ) (X : Type 0) (f g : List Token → Reads X) (P Q : X → List Marked → Type 0) (a : List Token) → g a ≡ f a → ((x : X) (ms : List Marked) → P x ms → Q x ms) → GoodAt L X f P a
    → GoodAt L X g Q a
good_by L X f g P Q a e m u = record {
  ok = λ x r h. let z = u.ok x r (sym e ∙ h) in record { used = z.used; split = z.split; low = z.low; spells = m x z.used z.spells };
  err = λ c r h. let z = u.err c r (sym e ∙ h) in record {
    used = z.used;
    split = z.split;
    low = z.low;
    closing = z.closing;
    why = z.why;
    value = z.value;
    spells = m z.value (z.used ++ z.closing) z.spells;
  };
}

module _ (L : ℕ) (X : Type 0) (more : List Token → Bool) (f : List Token → Reads X) (P : X → List Marked → Type 0) (g : (a : List Token) → GoodAt L X f P a) where
  empty_good : (a : List Token) → GoodAt L (List X) (λ a. Ok ([], a)) (Is (List X) []) a
  unfolding ret
  empty_good a = (law_ret {L = L} [] (λ x rest. Unit {0})).good a

  many_good : (n : ℕ) (a : List Token) → GoodAt L (List X) (many_at more f n) (Many X P) a
  unfolding many_at
  many_good zero a = good_by L (List X) (λ a. Ok ([], a)) (λ a. Ok ([], a)) (Is (List X) []) (Many X P) a refl (λ xs ms s. joined X P xs ms (second xs ms s)) (empty_good a)
  many_good (suc n) a =
      good_by L (List X) (λ a. if more a then (f a >>= λ x. many_at more f n x.1 >>= λ xs. Ok (x.0 ∷ xs.0, xs.1)) else Ok ([], a))
      (λ a. if more a then (f a >>= λ x. many_at more f n x.1 >>= λ xs. Ok (x.0 ∷ xs.0, xs.1)) else Ok ([], a))
      (Either_of (List X) (Seq X (List X) P (λ x. Made (List X) (List X) (Many X P) (λ xs. x ∷ xs))) (Is (List X) [])) (Many X P) a refl (joined X P)
      (let z = either_good L (List X) (more a) (λ a. f a >>= λ x. many_at more f n x.1 >>= λ xs. Ok (x.0 ∷ xs.0, xs.1)) (λ a. Ok ([], a))
      (Seq X (List X) P (λ x. Made (List X) (List X) (Many X P) (λ xs. x ∷ xs))) (Is (List X) []) a
      (bind_good L X (List X) f (λ x a. many_at more f n a >>= λ xs. Ok (x ∷ xs.0, xs.1)) P (λ x. Made (List X) (List X) (Many X P) (λ xs. x ∷ xs)) a (g a)
      (λ x m e. made_good L (List X) (List X) (many_at more f n) (Many X P) (λ xs. x ∷ xs) m (many_good n m))
      (λ x. record { value = x ∷ []; marks = []; spells = made [] [] none }))
      (empty_good a) in record { ok = z.ok; err = z.err })

-- ---- what is spelled is read

module _ (L : ℕ) (X : Type 0) (more : List Token → Bool) (f : List Token → Reads X) (P : X → List Marked → Type 0) (F : X → List Token → Type 0) (H : List Token → Type 0)
    (reads : (x : X) (ms : List Marked) → P x ms → (rest : List Token) → F x rest → f (tokens ms ++ rest) ≡ verdict x rest (cut L ms rest))
    (one : (x : X) (ms : List Marked) → P x ms → 1 ≤ length ms)
    (begun : (x : X) (ms : List Marked) (rest : List Token) → P x ms → more (tokens ms ++ rest) ≡ true)
    (over : (rest : List Token) → H rest → more rest ≡ false)
    (last : (x : X) (rest : List Token) → H rest → F x rest)
    (next : (x y : X) (ms : List Marked) (rest : List Token) → P y ms → F x (tokens ms ++ rest)) where
  follows : (x : X) (xs : List X) (c : List Marked) → Many X P xs c → (rest : List Token) → H rest → F x (tokens c ++ rest)
  follows x _ _ none rest h = last x rest h
  follows x _ _ (some y ys a c p q) rest h = subst (λ (r : List Token). F x r) (sym (tokens_split a c rest)) (next x y a (tokens c ++ rest) p)

  cons_verdict : (x : X) (xs : List X) (rest : List Token) (o : Option (List Token)) (y : Reads (List X)) → y ≡ verdict xs rest o → (y >>= λ xs. Ok (x ∷ xs.0, xs.1)) ≡ verdict (x ∷ xs) rest o
  cons_verdict x xs rest None y e = ap (λ (y : Reads (List X)). y >>= λ xs. Ok (x ∷ xs.0, xs.1)) e
  cons_verdict x xs rest (Some r) y e = ap (λ (y : Reads (List X)). y >>= λ xs. Ok (x ∷ xs.0, xs.1)) e

  many_reads : (n : ℕ) (xs : List X) (ms : List Marked) → Many X P xs ms → length ms ≤ n → (rest : List Token) → H rest → many_at more f n (tokens ms ++ rest) ≡ verdict xs rest (cut L ms rest)
  many_reads n _ _ none le rest h = none_reads X more f n rest (over rest h)
  many_reads zero _ _ (some x xs a c p q) le rest h = absurd (omega (arith, one x a p, length-append a c))
  many_reads (suc n) _ _ (some x xs a c p q) le rest h =
      let few : length c ≤ n = omega (arith, one x a p, length-append a c) in
      some_reads X more f n (tokens (a ++ c) ++ rest) (ap more (tokens_split a c rest) ∙ begun x a (tokens c ++ rest) p)
      ∙ bind_reads L X (List X) f (λ x r. many_at more f n r >>= λ xs. Ok (x ∷ xs.0, xs.1)) x (x ∷ xs) a c rest
      (reads x a p (tokens c ++ rest) (follows x xs c q rest h))
      (λ e. cons_verdict x xs rest (cut L c rest) (many_at more f n (tokens c ++ rest)) (many_reads n xs c q few rest h))

pub law_many : {L : ℕ} {X : Type 0} {F : X → List Token → Type 0} {p : Part X} (more : List Token → Bool) (H : List Token → Type 0) → ByHead more → more [] ≡ false → Law L X p F
    → ((x : X) (ms : List Marked) → p.spells x ms → 1 ≤ length ms)
    → ((x : X) (ms : List Marked) (rest : List Token) → p.spells x ms → more (tokens ms ++ rest) ≡ true)
    → ((rest : List Token) → H rest → more rest ≡ false)
    → ((x : X) (rest : List Token) → H rest → F x rest)
    → ((x y : X) (ms : List Marked) (rest : List Token) → p.spells y ms → F x (tokens ms ++ rest))
    → Law L (List X) (many more p) (λ xs rest. H rest)
unfolding many
law_many {L} {X} {F} {p} more H by empty l one begun over last next =
    let short : (a : List Token) (x : X) (r : List Token) → p.read a ≡ Ok (x, r) → length r < length a =
    λ a x r e. let z = (l.good a).ok x r e in omega (arith, one x z.used z.spells, same_length z.used, length-append (tokens z.used) r, ap (λ (c : List Token). length c) z.split) in
    record {
      good = λ a. let z = many_good L X more p.read p.spells l.good (length a) a in record { ok = z.ok; err = z.err };
      reads = λ xs ms s rest h. many_reads L X more p.read p.spells F H l.reads one begun over last next (length (tokens ms ++ rest)) xs ms s
          (omega (arith, same_length ms, length-append (tokens ms) rest)) rest h;
      local = local_many X more p.read empty short by l.local;
    }
