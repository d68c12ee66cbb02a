-- The lines of a text, and the text of lines. Each text is some whole lines and a tail without a line feed, in one way only, so that joining
-- lines and cutting them again changes nothing.
use Rattle.std.proofs.Common.{◌≡◌, ◌≢◌, ℕ, zero, suc, ◌+◌, Bool, true, false, List, [], ◌∷◌, ◌++◌, take, drop, length, refl, sym, ap, ◌∙◌, append_assoc, arith}
use Rattle.std.specs.Prelude.{if◌then◌else◌}
use Rattle.std.proofs.lemmas.Bool.Decides.{nat_tests}
use Rattle.trace_text.specs.Text.{joined}
use Rattle.trace_text.specs.inner.Reading.{Lines, is_feed, line_run, lines_of, with_byte}

pub joined_append : (a b : List (List ℕ)) → joined (a ++ b) ≡ joined a ++ joined b
joined_append [] b = refl
joined_append (l ∷ ls) b =
    ap (λ (rest : List ℕ). l ++ (10 ∷ rest)) (joined_append ls b) ∙ sym (append_assoc l (10 ∷ joined ls) (joined b))

-- no line feed stands in the line
abbrev pub IsLine : List ℕ → Type 0
IsLine [] = Unit {0}
IsLine (b ∷ bs) = (is_feed b ≡ false) × IsLine bs

abbrev pub AreLines : List (List ℕ) → Type 0
AreLines [] = Unit {0}
AreLines (l ∷ ls) = IsLine l × AreLines ls

pub are_same : (a b : List (List ℕ)) → a ≡ b → AreLines a → AreLines b
are_same a b e h = rw e at h

-- the text is these lines, and what stands behind them
pub record Parted (text : List ℕ) (parts : Lines) : Type 0 where
  pub lines : AreLines parts.0
  pub tail : IsLine parts.1
  pub is : text ≡ joined parts.0 ++ parts.1

parted_byte : (b : ℕ) (bs : List ℕ) (ls : List (List ℕ)) (tail : List ℕ) → is_feed b ≡ false → Parted bs (ls, tail) → Parted (b ∷ bs) (with_byte b ls tail)
parted_byte b bs [] tail h p = record { lines = tt; tail = (h, p.tail); is = ap (λ (cs : List ℕ). b ∷ cs) p.is }
parted_byte b bs (l ∷ ls) tail h p = record { lines = ((h, p.lines.0), p.lines.1); tail = p.tail; is = ap (λ (cs : List ℕ). b ∷ cs) p.is }

feed_is : (b : ℕ) → is_feed b ≡ true → b ≡ 10
feed_is b h = grind (arith, nat_tests)

parted_case : (b : ℕ) (bs : List ℕ) (t : Bool) → is_feed b ≡ t → Parted bs (lines_of bs)
    → Parted (b ∷ bs) (if t then ([] ∷ (lines_of bs).0, (lines_of bs).1) else with_byte b (lines_of bs).0 (lines_of bs).1)
parted_case b bs true h p = record { lines = (tt, p.lines); tail = p.tail; is = rw (feed_is b h) (ap (λ (cs : List ℕ). 10 ∷ cs) p.is) }
parted_case b bs false h p = parted_byte b bs (lines_of bs).0 (lines_of bs).1 h p

-- each text is its lines and what stands behind the last line feed
pub parted : (text : List ℕ) → Parted text (lines_of text)
parted [] = record { lines = tt; tail = tt; is = refl }
parted (b ∷ bs) = parted_case b bs (is_feed b) refl (parted bs)

-- the lines of lines that were joined are these
pub line_then : (l rest : List ℕ) → IsLine l → lines_of (l ++ (10 ∷ rest)) ≡ (l ∷ (lines_of rest).0, (lines_of rest).1)
line_then [] rest h = refl
line_then (b ∷ bs) rest h = rw (h.0, line_then bs rest h.1) refl

tail_then : (tail : List ℕ) → IsLine tail → lines_of tail ≡ ([], tail)
tail_then [] h = refl
tail_then (b ∷ bs) h = rw (h.0, tail_then bs h.1) refl

pub lines_are : (ls : List (List ℕ)) (tail : List ℕ) → AreLines ls → IsLine tail → lines_of (joined ls ++ tail) ≡ (ls, tail)
lines_are [] tail h t = tail_then tail t
lines_are (l ∷ ls) tail h t =
    ap lines_of (append_assoc l (10 ∷ joined ls) tail) ∙ (line_then l (joined ls ++ tail) h.0 ∙ ap (λ (p : Lines). (l ∷ p.0, p.1)) (lines_are ls tail h.1 t))

-- ---- one line more, as the code finds it

front_case : (b : ℕ) (bs : List ℕ) (n : ℕ) (t : Bool) → is_feed b ≡ t → (if t then 0 else 1 + line_run bs) ≡ n → n ≢ length (b ∷ bs)
    → ((m : ℕ) → line_run bs ≡ m → m ≢ length bs → lines_of bs ≡ (take m bs ∷ (lines_of (drop (suc m) bs)).0, (lines_of (drop (suc m) bs)).1))
    → (if t then ([] ∷ (lines_of bs).0, (lines_of bs).1) else with_byte b (lines_of bs).0 (lines_of bs).1)
    ≡ (take n (b ∷ bs) ∷ (lines_of (drop (suc n) (b ∷ bs))).0, (lines_of (drop (suc n) (b ∷ bs))).1)
front_case b bs zero true f h g more = refl
front_case b bs (suc n) true f h g more = absurd (omega (arith, h))
front_case b bs zero false f h g more = absurd (omega (arith, h))
front_case b bs (suc n) false f h g more = ap (λ (p : Lines). with_byte b p.0 p.1) (more n (omega (arith, h)) (λ e. g (omega (arith, e))))

-- where a line feed stands, the first line ends before it
pub line_front : (bs : List ℕ) (n : ℕ) → line_run bs ≡ n → n ≢ length bs → lines_of bs ≡ (take n bs ∷ (lines_of (drop (suc n) bs)).0, (lines_of (drop (suc n) bs)).1)
line_front [] n h g = absurd (g (sym h))
line_front (b ∷ bs) n h g = front_case b bs n (is_feed b) refl h g (line_front bs)

none_case : (b : ℕ) (bs : List ℕ) (t : Bool) → is_feed b ≡ t → (if t then 0 else 1 + line_run bs) ≡ length (b ∷ bs) → (line_run bs ≡ length bs → lines_of bs ≡ ([], bs))
    → (if t then ([] ∷ (lines_of bs).0, (lines_of bs).1) else with_byte b (lines_of bs).0 (lines_of bs).1) ≡ ([], b ∷ bs)
none_case b bs true f h more = absurd (omega (arith, h))
none_case b bs false f h more = ap (λ (p : Lines). with_byte b p.0 p.1) (more (omega (arith, h)))

-- where none stands, there is no line
pub no_line : (bs : List ℕ) → line_run bs ≡ length bs → lines_of bs ≡ ([], bs)
no_line [] h = refl
no_line (b ∷ bs) h = none_case b bs (is_feed b) refl h (no_line bs)
