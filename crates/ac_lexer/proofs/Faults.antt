-- A fault of the definition is read as that fault (`fault_read`): a case for each fault, by what `piece_at` comes to at the first byte.
-- The hard case is a stray byte, of which the definition says only that no token begins with it: wherever a test of the reader held, some
-- token would, so each test fails.
use Rattle.std.proofs.Common.{◌≡◌, ℕ, ◌+◌, ◌^◌, ◌<◌, Bool, true, false, List, [], ◌∷◌, ◌++◌, length, Option, Some, None, Ok, Err, refl, sym, ap, ◌∙◌, subst, arith}
use Rattle.std.specs.Prelude.{◌==◌, pos}
use Rattle.std.proofs.lemmas.Bool.Decides.{nat_tests}
use Rattle.ac_lexer.specs.declared.fault.LexFault.{LexFault}
use Rattle.ac_lexer.specs.declared.fault.LexFault.TheVariants as l
use Rattle.ac_lexer.specs.declared.token.Kind.{Kind}
use Rattle.ac_lexer.specs.declared.token.Kind.TheVariants as k
use Rattle.ac_lexer.specs.declared.token.Mark.{Mark}
use Rattle.ac_lexer.specs.declared.token.Mark.TheVariants as m
use Rattle.ac_lexer.specs.Spelling.{is_blank, is_letter, is_digit, is_zero, value_of}
use Rattle.ac_lexer.specs.inner.Reading.{name_at, name_or_word, word_of, gap_piece, number_at, text_from, slash_at, block_at, mark_of_one, mark_of_two, single_at, double_at, mark_at, piece_at}
use Rattle.ac_lexer.specs.Tokens.{Spelled, name, word, nought, number, text, mark, body_end, FaultHere, stray, after_zero, after_number, large, open_comment, open_text, in_text}
use Rattle.ac_lexer.proofs.Runs.{letter_no_digit, digit_no_letter, letter_no_blank, digit_no_blank, false_if, eq_of, zero_is}
use Rattle.ac_lexer.proofs.Vocabulary.{Named, named, name_or_word_is}
use Rattle.ac_lexer.proofs.Signs.{mark_one_is, mark_two_is}
use Rattle.ac_lexer.proofs.Quotes.{over_body, over_line, open_line, bad_here}
use Rattle.ac_lexer.proofs.Comments.{never}
use Rattle.ac_lexer.proofs.Numbers.{number_large, number_zero, number_letter, zero_alone, zero_many}

-- ---- what is read, by the first byte

pub blank_part : (at b : ℕ) (bs : List ℕ) → is_blank b ≡ true → piece_at at (b ∷ bs) ≡ Ok (gap_piece 1)
unfolding piece_at
blank_part at b bs h = rw h refl

pub letter_part : (at b : ℕ) (bs : List ℕ) → is_letter b ≡ true → piece_at at (b ∷ bs) ≡ Ok (name_at (b ∷ bs))
unfolding piece_at
letter_part at b bs h = rw (letter_no_blank b h, h) refl

pub digit_part : (at b : ℕ) (bs : List ℕ) → is_digit b ≡ true → piece_at at (b ∷ bs) ≡ number_at at (b ∷ bs)
unfolding piece_at
digit_part at b bs h = rw (digit_no_blank b h, digit_no_letter b h, h) refl

pub quote_part : (at : ℕ) (bs : List ℕ) → piece_at at (34 ∷ bs) ≡ text_from at 0 false None [] bs
unfolding piece_at
quote_part at bs = refl

pub slash_part : (at : ℕ) (bs : List ℕ) → piece_at at (47 ∷ bs) ≡ slash_at at bs
unfolding piece_at
slash_part at bs = refl

pub mark_part : (at b : ℕ) (bs : List ℕ) → is_blank b ≡ false → is_letter b ≡ false → is_digit b ≡ false → (b == 34) ≡ false → (b == 47) ≡ false → piece_at at (b ∷ bs) ≡ mark_at at b bs
unfolding piece_at
mark_part at b bs h0 h1 h2 h3 h4 = rw (h0, h1, h2, h3, h4) refl

-- ---- stray bytes

-- no token begins with the byte
abbrev pub Nothing : ℕ → Type 0
Nothing b = (j : Kind) (cs : List ℕ) → Spelled j (b ∷ cs) → ⊥

named_spelled : (a : List ℕ) → Named a → Spelled (name_or_word a (word_of a)) a
named_spelled _ (named b bs l e) = name_or_word_is Spelled (b ∷ bs) word (λ n. name b bs l e n)

stray_letter : (b : ℕ) → Nothing b → is_letter b ≡ true → ⊥
stray_letter b h l = h (name_or_word (b ∷ []) (word_of (b ∷ []))) [] (named_spelled (b ∷ []) (named b [] l tt))

alone_low : (b : ℕ) → is_digit b ≡ true → is_zero b ≡ false → value_of 0 (b ∷ []) < 2 ^ 63
alone_low b h z = rw h (grind (arith, nat_tests))

stray_digit : (b : ℕ) (t : Bool) → is_zero b ≡ t → Nothing b → is_digit b ≡ true → ⊥
stray_digit b true z h d = h (k.Number (pos 0)) [] (subst (λ (c : ℕ). Spelled (k.Number (pos 0)) (c ∷ [])) (sym (zero_is b z)) nought)
stray_digit b false z h d = h (k.Number (pos (value_of 0 (b ∷ [])))) [] (number b [] d z tt (alone_low b d z))

stray_byte : (b c : ℕ) (cs : List ℕ) (j : Kind) → Nothing b → Spelled j (c ∷ cs) → (b == c) ≡ false
stray_byte b c cs j h s = false_if (b == c) (λ e. h j cs (subst (λ (d : ℕ). Spelled j (d ∷ cs)) (sym (eq_of b c e)) s))

stray_one : (b : ℕ) (o : Option Mark) → mark_of_one b ≡ o → Nothing b → o ≡ None
stray_one b (Some v) e h = absurd (h (k.Mark v) [] (subst (Spelled (k.Mark v)) (mark_one_is b v e) (mark v)))
stray_one b None e h = refl

stray_two : (b c : ℕ) (o : Option Mark) → mark_of_two b c ≡ o → Nothing b → o ≡ None
stray_two b c (Some v) e h = absurd (h (k.Mark v) (c ∷ []) (subst (Spelled (k.Mark v)) (mark_two_is b c v e) (mark v)))
stray_two b c None e h = refl

stray_mark : (at b : ℕ) (bs : List ℕ) → Nothing b → mark_at at b bs ≡ Err (l.BadByte at)
stray_mark at b [] h = ap (single_at at) (stray_one b (mark_of_one b) refl h)
stray_mark at b (c ∷ cs) h = ap (λ (o : Option Mark). double_at at o (mark_of_one b)) (stray_two b c (mark_of_two b c) refl h) ∙ ap (single_at at) (stray_one b (mark_of_one b) refl h)

stray_read : (at b : ℕ) (bs : List ℕ) → is_blank b ≡ false → Nothing b → piece_at at (b ∷ bs) ≡ Err (l.BadByte at)
stray_read at b bs nb h =
    mark_part at b bs nb (false_if (is_letter b) (stray_letter b h)) (false_if (is_digit b) (stray_digit b (is_zero b) refl h)) (stray_byte b 34 (34 ∷ []) (k.Text []) h (text [] [] body_end))
    (stray_byte b 47 [] (k.Mark m.Slash) h (mark m.Slash))
    ∙ stray_mark at b bs h

-- ---- every fault

pub fault_read : (at : ℕ) (bs : List ℕ) (f : LexFault) → FaultHere at bs f → piece_at at bs ≡ Err f
fault_read at _ _ (stray b bs nb h) = stray_read at b bs nb h
fault_read at _ _ (after_zero d a rest e s lt) = digit_part at 48 (d ∷ (a ++ rest)) refl ∙ number_zero at 48 (d ∷ a) rest (record { each = (refl, e); stops = s }) lt (zero_many 48 d a refl)
fault_read at _ _ (after_number b c a rest e z h lt) =
    digit_part at b (a ++ c ∷ rest) e.0 ∙ number_letter at b a (c ∷ rest) (record { each = e; stops = letter_no_digit c h }) lt (zero_alone b a (is_zero b) refl z) h
fault_read at _ _ (large b a rest e s le) = digit_part at b (a ++ rest) e.0 ∙ number_large at b a rest (record { each = e; stops = s }) le
fault_read at _ _ (open_comment bs n) = slash_part at (42 ∷ bs) ∙ ap (λ (o : Option ℕ). block_at at o) (never bs n)
fault_read at _ _ (open_text a rest d e) = quote_part at (a ++ rest) ∙ open_line at 0 None [] a rest d e
fault_read at _ _ (in_text a vs u c rest p d b w) =
    let o = over_line at (0 + length a + length u) (at + 1 + (0 + length a) + p) ([] ++ vs) c (34 ∷ rest) w in
    let q : at + 1 + (0 + length a) + p ≡ at + 1 + length a + p = omega arith in
    quote_part at (a ++ (u ++ (c ++ 34 ∷ rest))) ∙ over_body at 0 [] a vs (u ++ (c ++ 34 ∷ rest)) d ∙ bad_here at (0 + length a) p ([] ++ vs) u (c ++ 34 ∷ rest) b ∙ o.is
    ∙ ap (λ (p : ℕ). Err (l.BadByte p)) q
