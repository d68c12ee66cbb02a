-- The table of marks: what the tables of one byte and of two find is the mark so spelled (`mark_one_is`, `mark_two_is`), and each mark stands
-- in its table (`shape`). The first goes along a table all of whose marks have one form (`Formed`), the second has a case for each mark.
use Rattle.std.proofs.Common.{◌≡◌, ℕ, ◌<◌, Bool, true, false, List, [], ◌∷◌, length, Option, Some, None, refl, sym, ap, ◌∙◌, arith}
use Rattle.std.specs.Prelude.{if◌then◌else◌, ◌==◌}
use Rattle.ac_lexer.specs.declared.token.Mark.{Mark}
use Rattle.ac_lexer.specs.declared.token.Mark.TheVariants as m
use Rattle.ac_lexer.specs.Spelling.{starts, sign, is_blank, is_letter, is_digit}
use Rattle.ac_lexer.specs.inner.Reading.{mark_among, single_marks, mark_of_one, equal_marks, double_marks, mark_of_two}
use Rattle.ac_lexer.proofs.Runs.{eq_of}

abbrev pub a_mark : Mark → Option Mark
a_mark m = Some m

pub same_mark : {u v : Mark} → a_mark u ≡ a_mark v → u ≡ v
same_mark h = cc

pub no_mark : (v : Mark) → None ≡ a_mark v → ⊥
no_mark v h = cc

-- ---- what the tables give

-- the bytes of each mark are of that form, by their first byte
abbrev Formed : (ℕ → List ℕ) → List Mark → Type 0
Formed form [] = Unit {0}
Formed form (m ∷ ms) = ((c : ℕ) × (sign m ≡ form c) × (starts (λ b. c == b) (sign m) ≡ true)) × Formed form ms

first_of : (a : List ℕ) (b c : ℕ) → starts (λ x. b == x) a ≡ true → starts (λ x. c == x) a ≡ true → c ≡ b
first_of [] b c h g = cc
first_of (x ∷ a) b c h g = eq_of c x g ∙ sym (eq_of b x h)

among_case : (form : ℕ → List ℕ) (m : Mark) (ms : List Mark) (b : ℕ) (v : Mark) (t : Bool) → starts (λ c. b == c) (sign m) ≡ t → (c : ℕ) → sign m ≡ form c → starts (λ b. c == b) (sign m) ≡ true
    → (mark_among ms b ≡ Some v → sign v ≡ form b)
    → (if t then a_mark m else mark_among ms b) ≡ Some v → sign v ≡ form b
among_case form m ms b v true h c f s g e = ap sign (sym (same_mark e)) ∙ f ∙ ap form (first_of (sign m) b c h s)
among_case form m ms b v false h c f s g e = g e

among_is : (form : ℕ → List ℕ) (ms : List Mark) (b : ℕ) (v : Mark) → Formed form ms → mark_among ms b ≡ Some v → sign v ≡ form b
among_is form [] b v f h = absurd (no_mark v h)
among_is form (m ∷ ms) b v f h = among_case form m ms b v (starts (λ c. b == c) (sign m)) refl f.0.0 f.0.1 f.0.2 (among_is form ms b v f.1) h

-- of each mark of one byte, in the order of the table: its byte, that it is spelled so, and that it begins so
singles : Formed (λ b. b ∷ []) single_marks
singles = (
  (43, refl, refl),
  (
    (45, refl, refl),
    (
      (42, refl, refl),
      (
        (47, refl, refl),
        (
          (37, refl, refl),
          (
            (60, refl, refl),
            (
              (62, refl, refl),
              (
                (38, refl, refl),
                (
                  (124, refl, refl),
                  (
                    (94, refl, refl),
                    (
                      (33, refl, refl),
                      (
                        (126, refl, refl),
                        (
                          (61, refl, refl),
                          (
                            (40, refl, refl),
                            (
                              (41, refl, refl),
                              (
                                (91, refl, refl),
                                ((93, refl, refl), ((123, refl, refl), ((125, refl, refl), ((44, refl, refl), ((59, refl, refl), ((58, refl, refl), tt)))))),
                              ),
                            ),
                          ),
                        ),
                      ),
                    ),
                  ),
                ),
              ),
            ),
          ),
        ),
      ),
    ),
  ),
)

equals : Formed (λ b. b ∷ 61 ∷ []) equal_marks
equals = ((61, refl, refl), ((33, refl, refl), ((60, refl, refl), ((62, refl, refl), tt))))

doubles : Formed (λ b. b ∷ b ∷ []) double_marks
doubles = ((124, refl, refl), ((38, refl, refl), ((60, refl, refl), ((62, refl, refl), tt))))

pub mark_one_is : (b : ℕ) (v : Mark) → mark_of_one b ≡ Some v → sign v ≡ b ∷ []
unfolding mark_of_one
mark_one_is b v h = among_is (λ b. b ∷ []) single_marks b v singles h

two_case : (b c : ℕ) (v : Mark) (t u : Bool) → (c == 61) ≡ t → (c == b) ≡ u → (if t then mark_among equal_marks b else (if u then mark_among double_marks b else None)) ≡ Some v → sign v ≡ b ∷ c ∷ []
two_case b c v true u h g e = among_is (λ b. b ∷ 61 ∷ []) equal_marks b v equals e ∙ ap (λ (x : ℕ). b ∷ x ∷ []) (sym (eq_of c 61 h))
two_case b c v false true h g e = among_is (λ b. b ∷ b ∷ []) double_marks b v doubles e ∙ ap (λ (x : ℕ). b ∷ x ∷ []) (sym (eq_of c b g))
two_case b c v false false h g e = absurd (no_mark v e)

pub mark_two_is : (b c : ℕ) (v : Mark) → mark_of_two b c ≡ Some v → sign v ≡ b ∷ c ∷ []
unfolding mark_of_two
mark_two_is b c v h = two_case b c v (c == 61) (c == b) refl refl h

-- ---- each mark stands in its table

-- the byte begins neither a blank, a name, a number nor a text
pub record Symbol (b : ℕ) : Type 0 where
  pub no_blank : is_blank b ≡ false
  pub no_letter : is_letter b ≡ false
  pub no_digit : is_digit b ≡ false
  pub no_quote : (b == 34) ≡ false

pub data Shape (m : Mark) : Type 0 where
  single : (b : ℕ) → sign m ≡ b ∷ [] → mark_of_one b ≡ Some m → Symbol b → Shape m
  -- the first byte of a mark of two bytes is a mark, too
  double : (b c : ℕ) (u : Mark) → sign m ≡ b ∷ c ∷ [] → mark_of_two b c ≡ Some m → mark_of_one b ≡ Some u → Symbol b → (b == 47) ≡ false → Shape m

is_symbol : ℕ → Bool
is_symbol b = if is_blank b then false else (if is_letter b then false else (if is_digit b then false else (if b == 34 then false else true)))

symbol_case : (b : ℕ) (t1 t2 t3 t4 : Bool) → is_blank b ≡ t1 → is_letter b ≡ t2 → is_digit b ≡ t3 → (b == 34) ≡ t4
    → (if t1 then false else (if t2 then false else (if t3 then false else (if t4 then false else true)))) ≡ true → Symbol b
symbol_case b true t2 t3 t4 h1 h2 h3 h4 e = cc
symbol_case b false true t3 t4 h1 h2 h3 h4 e = cc
symbol_case b false false true t4 h1 h2 h3 h4 e = cc
symbol_case b false false false true h1 h2 h3 h4 e = cc
symbol_case b false false false false h1 h2 h3 h4 e = record { no_blank = h1; no_letter = h2; no_digit = h3; no_quote = h4 }

symbol : (b : ℕ) → is_symbol b ≡ true → Symbol b
unfolding is_symbol
symbol b h = symbol_case b (is_blank b) (is_letter b) (is_digit b) (b == 34) refl refl refl refl h

-- by computing, mark for mark: its bytes, that its table finds it by them, and that the first of them begins nothing else
pub shape : (m : Mark) → Shape m
unfolding mark_of_one mark_of_two is_symbol
shape m.OrOr = double 124 124 m.Bar refl refl refl (symbol 124 refl) refl
shape m.AndAnd = double 38 38 m.And refl refl refl (symbol 38 refl) refl
shape m.EqEq = double 61 61 m.Assign refl refl refl (symbol 61 refl) refl
shape m.NotEq = double 33 61 m.Not refl refl refl (symbol 33 refl) refl
shape m.LessEq = double 60 61 m.Less refl refl refl (symbol 60 refl) refl
shape m.MoreEq = double 62 61 m.More refl refl refl (symbol 62 refl) refl
shape m.Shl = double 60 60 m.Less refl refl refl (symbol 60 refl) refl
shape m.Shr = double 62 62 m.More refl refl refl (symbol 62 refl) refl
shape m.Plus = single 43 refl refl (symbol 43 refl)
shape m.Minus = single 45 refl refl (symbol 45 refl)
shape m.Star = single 42 refl refl (symbol 42 refl)
shape m.Slash = single 47 refl refl (symbol 47 refl)
shape m.Percent = single 37 refl refl (symbol 37 refl)
shape m.Less = single 60 refl refl (symbol 60 refl)
shape m.More = single 62 refl refl (symbol 62 refl)
shape m.And = single 38 refl refl (symbol 38 refl)
shape m.Bar = single 124 refl refl (symbol 124 refl)
shape m.Caret = single 94 refl refl (symbol 94 refl)
shape m.Not = single 33 refl refl (symbol 33 refl)
shape m.Tilde = single 126 refl refl (symbol 126 refl)
shape m.Assign = single 61 refl refl (symbol 61 refl)
shape m.OpenParen = single 40 refl refl (symbol 40 refl)
shape m.CloseParen = single 41 refl refl (symbol 41 refl)
shape m.OpenBracket = single 91 refl refl (symbol 91 refl)
shape m.CloseBracket = single 93 refl refl (symbol 93 refl)
shape m.OpenBrace = single 123 refl refl (symbol 123 refl)
shape m.CloseBrace = single 125 refl refl (symbol 125 refl)
shape m.Comma = single 44 refl refl (symbol 44 refl)
shape m.Semicolon = single 59 refl refl (symbol 59 refl)
shape m.Colon = single 58 refl refl (symbol 58 refl)

shape_long : (m : Mark) → Shape m → 0 < length (sign m)
shape_long m (single b e h s) = omega (arith, ap (λ (a : List ℕ). length a) e)
shape_long m (double b c u e h g s n) = omega (arith, ap (λ (a : List ℕ). length a) e)

pub sign_long : (m : Mark) → 0 < length (sign m)
sign_long m = shape_long m (shape m)
