-- A list of tokens has one kind of answer: a tree, an unexpected token or one that is too deep. Two of them would cut the list at two
-- places; where the first place comes before the second, the tree or the place of the second says that tokens go on where the first says
-- that they cannot.
use Rattle.std.proofs.Common.{◌≡◌, ℕ, ◌+◌, ◌≤◌, List, [], ◌∷◌, ◌++◌, length, Option, Some, None, refl, sym, ap, ◌∙◌, subst, append_assoc, length-append, arith}
use Rattle.std.specs.Prelude.{Bool, true, false, ltb, if◌then◌else◌}
use Rattle.std.proofs.lemmas.List.{append-nil}
use Rattle.ac_tree.specs.declared.item.Program.{Program}
use Rattle.ac_lexer.specs.declared.token.Token.{Token}
use Rattle.reading_laws.specs.Marks.{Marked, tokens, Low, cut}
use Rattle.ac_parser.specs.Places.{limit, Stuck, UnexpectedAt, TooDeepAt, IsTree}
use Rattle.reading_laws.proofs.Marking.{tokens_append, same_length, not_over, or_else, cut_append}

-- ---- where two ways to cut a list meet

data Meets {A : Type 0} (a b c : List A) (x : A) (d : List A) : Type 0 where
  earlier : (m : List A) → a ≡ c ++ x ∷ m → d ≡ m ++ b → Meets a b c x d
  later : (m : List A) → c ≡ a ++ m → b ≡ m ++ x ∷ d → Meets a b c x d

more : {A : Type 0} (y : A) (a b c d : List A) (x : A) → Meets a b c x d → Meets (y ∷ a) b (y ∷ c) x d
more y a b c d x (earlier m p q) = earlier m (ap (λ l. y ∷ l) p) q
more y a b c d x (later m p q) = later m (ap (λ l. y ∷ l) p) q

meets : {A : Type 0} (a b c : List A) (x : A) (d : List A) → a ++ b ≡ c ++ x ∷ d → Meets a b c x d
meets [] b c x d e = later c refl e
meets (y ∷ a) b [] x d e = earlier a (cc (e)) (cc (e))
meets {A} (y ∷ a) b (z ∷ c) x d e =
    let same : y ≡ z = cc (e) in
    let rest : a ++ b ≡ c ++ x ∷ d = cc (e) in
    subst (λ (w : A). Meets (y ∷ a) b (w ∷ c) x d) same (more y a b c d x (meets a b c x d rest))

-- ---- tokens that are too deep

uncut_if : (t : Bool) (xs : List Token) (rest : Option (List Token)) → t ≡ false → rest ≡ None → (if t then Some xs else rest) ≡ None
uncut_if true xs rest e h = absurd (cc (e))
uncut_if false xs rest e h = h

uncut : (most : ℕ) (ms : List Marked) (rest : List Token) → Low most ms → cut most ms rest ≡ None
uncut most [] rest low = refl
uncut most (m ∷ ms) rest low = uncut_if (ltb most m.depth) (m.token ∷ (tokens ms ++ rest)) (cut most ms rest) (not_over most m.depth low.0) (uncut most ms rest low.1)

short_if : (t : Bool) (n : ℕ) (xs ys : List Token) (rest : Option (List Token)) → length xs ≤ n → (rest ≡ Some ys → length ys ≤ n) → (if t then Some xs else rest) ≡ Some ys → length ys ≤ n
short_if true n xs ys rest l h e = let same : xs ≡ ys = cc (e) in subst (λ (zs : List Token). length zs ≤ n) same l
short_if false n xs ys rest l h e = h e

-- what is cut off is no more than there is
short : (most : ℕ) (ms : List Marked) (rest ys : List Token) → cut most ms rest ≡ Some ys → length ys ≤ length ms + length rest
short most [] rest ys e = absurd (cc (e))
short most (m ∷ ms) rest ys e =
    let here : length (m.token ∷ (tokens ms ++ rest)) ≤ length (m ∷ ms) + length rest = omega (arith, length-append (tokens ms) rest, same_length ms) in
    short_if (ltb most m.depth) (length (m ∷ ms) + length rest) (m.token ∷ (tokens ms ++ rest)) ys (cut most ms rest) here (λ h. omega (arith, short most ms rest ys h)) e

-- ---- the answers

pub not_deep : (ts : List Token) (p : Program) (at : ℕ) → IsTree ts p → TooDeepAt ts at → ⊥
not_deep ts p at t d =
    let found = d.always p t.marks d.rest t.spells (sym t.split ∙ d.split) in
    absurd (let none : cut limit t.marks [] ≡ None = uncut limit t.marks [] t.low in cc (none, found))

stuck_not : (used rest : List Token) (p : Program) (ts : List Token) → Stuck used rest → IsTree ts p → ts ≡ used ++ rest → ⊥
stuck_not used [] p ts stuck t e = stuck p t.marks t.spells (sym t.split ∙ e ∙ append-nil used)
stuck_not used (x ∷ rest) p ts stuck t e = stuck p t.marks rest t.spells (sym t.split ∙ e)

pub not_unexpected : (ts : List Token) (p : Program) (len at : ℕ) → IsTree ts p → UnexpectedAt len ts at → ⊥
not_unexpected ts p len at t u = stuck_not (tokens u.used) u.rest p ts u.stuck t u.split

module _ (ts : List Token) (len at place : ℕ) (u : UnexpectedAt len ts at) (d : TooDeepAt ts place) where
  -- the program that goes on from before the unexpected token holds the one that is too deep
  deep_before : (m : List Token) → tokens u.used ≡ tokens d.used ++ d.deep.token ∷ m → ⊥
  deep_before m e =
      let all : tokens (u.used ++ u.closing) ≡ tokens d.used ++ d.deep.token ∷ (m ++ tokens u.closing) =
      tokens_append u.used u.closing ∙ ap (λ (ys : List Token). ys ++ tokens u.closing) e ∙ append_assoc (tokens d.used) (d.deep.token ∷ m) (tokens u.closing) in
      let found = d.always u.tree (u.used ++ u.closing) (m ++ tokens u.closing) u.spells all in
      let there : cut limit u.closing [] ≡ Some (d.deep.token ∷ (m ++ tokens u.closing)) =
      ap (λ (o : Option (List Token)). or_else o (cut limit u.closing [])) (sym (uncut limit u.used (tokens u.closing ++ []) u.low)) ∙ sym (cut_append limit u.used u.closing []) ∙ found in
      absurd (omega (arith, short limit u.closing [] (d.deep.token ∷ (m ++ tokens u.closing)) there, length-append m (tokens u.closing), same_length u.closing))

  abbrev whole : List Marked
  whole = d.used ++ d.deep ∷ d.closing

  -- the program that goes on from the token that is too deep goes on from the unexpected one
  goes_on : (used rest m : List Token) → Stuck used rest → tokens d.used ≡ used ++ m → rest ≡ m ++ d.deep.token ∷ d.rest → ⊥
  goes_on used rest [] stuck e r =
      subst (Stuck used) r stuck d.tree whole (tokens d.closing) d.spells (tokens_append d.used (d.deep ∷ d.closing)
      ∙ ap (λ (ys : List Token). ys ++ d.deep.token ∷ tokens d.closing) (e ∙ append-nil used))
  goes_on used rest (x ∷ m) stuck e r =
      subst (Stuck used) r stuck d.tree whole (m ++ d.deep.token ∷ tokens d.closing) d.spells
      (tokens_append d.used (d.deep ∷ d.closing) ∙ ap (λ (ys : List Token). ys ++ d.deep.token ∷ tokens d.closing) e ∙ append_assoc used (x ∷ m) (d.deep.token ∷ tokens d.closing))

  meet : Meets (tokens u.used) u.rest (tokens d.used) d.deep.token d.rest → ⊥
  meet (earlier m p q) = deep_before m p
  meet (later m p q) = goes_on (tokens u.used) u.rest m u.stuck p q

  pub not_both : ⊥
  not_both = meet (meets (tokens u.used) u.rest (tokens d.used) d.deep.token d.rest (sym u.split ∙ d.split))
