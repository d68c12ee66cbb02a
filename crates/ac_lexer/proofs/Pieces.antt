-- What is read at a place is what the definition has there (`reads`): a gap, a token that stands there or a fault, for each class of first byte.
-- That a token is the longest comes from one lemma (`least`): whatever is spelled at the front, reading takes at least as many bytes.
-- The hard case is a text: its line is closed or ends open (`Quoted`), and is a body or has a first bad byte (`Sorted`).
use Rattle.std.proofs.Common.{◌≡◌, ℕ, ◌+◌, ◌^◌, ◌<◌, ◌≤◌, Bool, true, false, List, [], ◌∷◌, ◌++◌, length, Option, Some}
use Rattle.std.proofs.Common.{None, Result, Ok, Err, refl, sym, ap, ◌∙◌, subst, append_assoc, length-append, arith}
use Rattle.std.specs.Prelude.{if◌then◌else◌, ◌==◌, ◌&&◌, nat_lt, pos}
use Rattle.std.proofs.lemmas.Bool.Decides.{nat_tests}
use Rattle.ac_lexer.specs.declared.fault.LexFault.{LexFault}
use Rattle.ac_lexer.specs.declared.fault.LexFault.TheVariants as l
use Rattle.ac_lexer.specs.declared.token.Kind.{Kind}
use Rattle.ac_lexer.specs.declared.token.Kind.TheVariants as k
use Rattle.ac_lexer.specs.declared.token.Mark.{Mark}
use Rattle.ac_lexer.specs.declared.token.Mark.TheVariants as m
use Rattle.ac_lexer.specs.declared.piece.Piece.{Piece}
use Rattle.ac_lexer.specs.Spelling.{Each, is_blank, is_letter, is_name, is_digit, is_zero, starts, value_of, letters, sign}
use Rattle.ac_lexer.specs.inner.Reading.{run, name_at, name_or_word, word_of, token_piece, gap_piece, slash_at, block_at}
use Rattle.ac_lexer.specs.inner.Reading.{block_end, mark_of_one, mark_of_two, mark_piece, single_at, double_at, mark_at, piece_at}
use Rattle.ac_lexer.specs.Tokens.{
  is_plain,
  escape_of,
  Body,
  body_end,
  body_plain,
  body_escape,
  Spelled,
  name,
  word,
  nought,
  number,
  text,
  mark,
  not_feed,
  NoEnd,
  Gap,
  blank,
  line,
  block,
  Line,
  line_over,
  line_byte,
  line_escape,
  Ends,
  ends_text,
  ends_feed,
  ends_text_after,
  ends_feed_after,
  Bad,
  bad_byte,
  bad_escape,
  FaultHere,
  stray,
  after_zero,
  after_number,
  large,
  open_comment,
  open_text,
  in_text,
  Stands,
}
use Rattle.ac_lexer.proofs.Runs.{same_head, same_tail, no_byte, differ, eq_of, not_eq, run_of, run_least, splits, Splits, zero_is}
use Rattle.ac_lexer.proofs.Vocabulary.{Named, named, word_named, name_or_word_is, name_read, named_least}
use Rattle.ac_lexer.proofs.Signs.{mark_one_is, mark_two_is, no_mark, Symbol, Shape, single, double, shape}
use Rattle.ac_lexer.proofs.Quotes.{over_body}
use Rattle.ac_lexer.proofs.Comments.{blocks, Blocks, open_block, closed_block}
use Rattle.ac_lexer.proofs.Numbers.{got, same_piece, not_both, Digits, number_good, number_len, alone_if, zero_alone, zero_many, below_is, not_below_is}
use Rattle.ac_lexer.proofs.Faults.{blank_part, letter_part, digit_part, quote_part, slash_part, mark_part, fault_read}

-- ---- spelled bytes are read as what they spell

pub named_part : (at : ℕ) (a rest : List ℕ) → Named a → starts is_name rest ≡ false → piece_at at (a ++ rest) ≡ Ok (token_piece (name_or_word a (word_of a)) (length a))
named_part at _ rest (named b bs h e) s = letter_part at b (bs ++ rest) h ∙ ap got (name_read (b ∷ bs) rest (named b bs h e) s)

text_len : (a : List ℕ) → 0 + length a + 2 ≡ length (34 ∷ (a ++ 34 ∷ []))
text_len a = omega (arith, length-append a (34 ∷ []))

pub text_part : (at : ℕ) (a vs rest : List ℕ) → Body a vs → piece_at at (34 ∷ (a ++ 34 ∷ rest)) ≡ Ok (token_piece (k.Text vs) (length (34 ∷ (a ++ 34 ∷ []))))
text_part at a vs rest d = quote_part at (a ++ 34 ∷ rest) ∙ over_body at 0 [] a vs (34 ∷ rest) d ∙ ap (λ (n : ℕ). got (token_piece (k.Text vs) n)) (text_len a)

text_joined : (a rest : List ℕ) → (34 ∷ (a ++ 34 ∷ [])) ++ rest ≡ 34 ∷ (a ++ 34 ∷ rest)
text_joined a rest = ap (λ (bs : List ℕ). 34 ∷ bs) (append_assoc a (34 ∷ []) rest)

pub symbol_part : (at b : ℕ) (bs : List ℕ) → Symbol b → (b == 47) ≡ false → piece_at at (b ∷ bs) ≡ mark_at at b bs
symbol_part at b bs s h = mark_part at b bs s.no_blank s.no_letter s.no_digit s.no_quote h

-- ---- what is read is at least as long as what is spelled at the front

len_of : {p q : Piece} → got p ≡ got q → p.len ≡ q.len
len_of h = ap (λ (p : Piece). p.len) (same_piece h)

names_least : (at : ℕ) (a d : List ℕ) (p : Piece) → Named a → piece_at at (a ++ d) ≡ Ok p → length a ≤ p.len
names_least at _ d p (named b bs h e) g =
    let i : (name_at (b ∷ (bs ++ d))).len ≡ p.len = len_of (sym (letter_part at b (bs ++ d) h) ∙ g) in
    let r : length (b ∷ bs) ≤ (name_at (b ∷ (bs ++ d))).len = named_least (b ∷ bs) d (named b bs h e) in
    omega arith

digits_least : (at b : ℕ) (a d : List ℕ) (p : Piece) → Each is_digit (b ∷ a) → piece_at at (b ∷ (a ++ d)) ≡ Ok p → length (b ∷ a) ≤ p.len
digits_least at b a d p e h =
    let i : p.len ≡ run is_digit (b ∷ (a ++ d)) = number_len at (b ∷ (a ++ d)) p (sym (digit_part at b (a ++ d) e.0) ∙ h) in
    let r : length (b ∷ a) ≤ run is_digit (b ∷ (a ++ d)) = run_least is_digit (b ∷ a) d e in
    omega arith

exact : (n m : ℕ) → n ≡ m → n ≤ m
exact n m h = omega arith

text_least : (at : ℕ) (a vs d : List ℕ) (p : Piece) → Body a vs → piece_at at ((34 ∷ (a ++ 34 ∷ [])) ++ d) ≡ Ok p → length (34 ∷ (a ++ 34 ∷ [])) ≤ p.len
text_least at a vs d p b h = exact (length (34 ∷ (a ++ 34 ∷ []))) p.len (len_of (sym (text_part at a vs d b) ∙ ap (piece_at at) (sym (text_joined a d)) ∙ h))

single_least : (at : ℕ) (o : Option Mark) (p : Piece) → single_at at o ≡ Ok p → 1 ≤ p.len
single_least at (Some v) p h = exact 1 p.len (len_of h)
single_least at None p h = absurd (not_both p (l.BadByte at) (sym h))

double_least : (at : ℕ) (o q : Option Mark) (p : Piece) → double_at at o q ≡ Ok p → 1 ≤ p.len
double_least at (Some v) q p h = let g : 2 ≡ p.len = len_of h in omega arith
double_least at None q p h = single_least at q p h

mark_least : (at b : ℕ) (d : List ℕ) (p : Piece) → mark_at at b d ≡ Ok p → 1 ≤ p.len
mark_least at b [] p h = single_least at (mark_of_one b) p h
mark_least at b (c ∷ cs) p h = double_least at (mark_of_two b c) (mark_of_one b) p h

block_least : (at : ℕ) (o : Option ℕ) (p : Piece) → block_at at o ≡ Ok p → 1 ≤ p.len
block_least at (Some n) p h = let g : n + 2 ≡ p.len = len_of h in omega arith
block_least at None p h = absurd (not_both p (l.OpenComment at) (sym h))

slash_case : (at c : ℕ) (cs : List ℕ) (p : Piece) (t u : Bool) → (if t then got (gap_piece (run not_feed cs + 2)) else (if u then block_at at (block_end false cs) else mark_piece m.Slash 1)) ≡ Ok p
    → 1 ≤ p.len
slash_case at c cs p true u h = let g : run not_feed cs + 2 ≡ p.len = len_of h in omega arith
slash_case at c cs p false true h = block_least at (block_end false cs) p h
slash_case at c cs p false false h = exact 1 p.len (len_of h)

slash_least : (at : ℕ) (d : List ℕ) (p : Piece) → slash_at at d ≡ Ok p → 1 ≤ p.len
slash_least at [] p h = exact 1 p.len (len_of h)
slash_least at (c ∷ cs) p h = slash_case at c cs p (c == 47) (c == 42) h

one_least : (at b : ℕ) (d : List ℕ) (p : Piece) (t : Bool) → (b == 47) ≡ t → Symbol b → piece_at at (b ∷ d) ≡ Ok p → 1 ≤ p.len
one_least at b d p true e s h = slash_least at d p (sym (slash_part at d) ∙ ap (λ (x : ℕ). piece_at at (x ∷ d)) (sym (eq_of b 47 e)) ∙ h)
one_least at b d p false e s h = mark_least at b d p (sym (symbol_part at b d s e) ∙ h)

pub double_part : (at b c : ℕ) (d : List ℕ) (v : Mark) → Symbol b → (b == 47) ≡ false → mark_of_two b c ≡ Some v → piece_at at (b ∷ c ∷ d) ≡ Ok (token_piece (k.Mark v) 2)
double_part at b c d v s n h = symbol_part at b (c ∷ d) s n ∙ ap (λ (o : Option Mark). double_at at o (mark_of_one b)) h

shape_least : (at : ℕ) (v : Mark) (d : List ℕ) (p : Piece) → Shape v → piece_at at (sign v ++ d) ≡ Ok p → length (sign v) ≤ p.len
shape_least at v d p (single b e h s) g =
    let i : 1 ≤ p.len = one_least at b d p (b == 47) refl s (ap (λ (a : List ℕ). piece_at at (a ++ d)) (sym e) ∙ g) in
    omega (arith, i, ap (λ (a : List ℕ). length a) e)
shape_least at v d p (double b c u e h o s n) g =
    let i : 2 ≡ p.len = len_of (sym (double_part at b c d v s n h) ∙ ap (λ (a : List ℕ). piece_at at (a ++ d)) (sym e) ∙ g) in
    omega (arith, i, ap (λ (a : List ℕ). length a) e)

least : (at : ℕ) (j : Kind) (a d : List ℕ) (p : Piece) → Spelled j a → piece_at at (a ++ d) ≡ Ok p → length a ≤ p.len
least at _ _ d p (name b bs h e n) g = names_least at (b ∷ bs) d p (named b bs h e) g
least at _ _ d p (word v) g = names_least at (letters v) d p (word_named v) g
least at _ _ d p nought g = digits_least at 48 [] d p (refl, tt) g
least at _ _ d p (number b bs h z e lt) g = digits_least at b bs d p (h, e) g
least at _ _ d p (text bs vs b) g = text_least at bs vs d p b g
least at _ _ d p (mark v) g = shape_least at v d p (shape v) g

longest : (at : ℕ) (a rest : List ℕ) (kind : Kind) → piece_at at (a ++ rest) ≡ Ok (token_piece kind (length a)) → (c : ℕ) (cs d : List ℕ) (j : Kind) → rest ≡ c ∷ (cs ++ d) → Spelled j (a ++ c ∷ cs)
    → ⊥
longest at a rest kind h c cs d j e s =
    let g : a ++ rest ≡ (a ++ c ∷ cs) ++ d = ap (λ (r : List ℕ). a ++ r) e ∙ sym (append_assoc a (c ∷ cs) d) in
    let i : length (a ++ c ∷ cs) ≤ length a = least at j (a ++ c ∷ cs) d (token_piece kind (length a)) s (sym (ap (piece_at at) g) ∙ h) in
    omega (arith, i, length-append a (c ∷ cs))

-- ---- what the definition has at a place

pub data Reads (at : ℕ) : List ℕ → Result Piece LexFault → Type 0 where
  gap_read : (a rest : List ℕ) → Gap a rest → Reads at (a ++ rest) (Ok (gap_piece (length a)))
  token_read : (kind : Kind) (a rest : List ℕ) → Stands at kind a rest → Reads at (a ++ rest) (Ok (token_piece kind (length a)))
  fault_reads : (bs : List ℕ) (f : LexFault) → FaultHere at bs f → Reads at bs (Err f)

-- no comment begins there
abbrev NoComment : List ℕ → Type 0
NoComment bs = ((x : List ℕ) → bs ≡ 47 ∷ 47 ∷ x → ⊥) × ((x : List ℕ) → bs ≡ 47 ∷ 42 ∷ x → ⊥)

no_slash : (b : ℕ) (bs : List ℕ) → (b ≡ 47 → ⊥) → NoComment (b ∷ bs)
no_slash b bs h = (λ x e. h (same_head e), λ x e. h (same_head e))

reads_token : (at : ℕ) (kind : Kind) (a rest bs : List ℕ) → bs ≡ a ++ rest → Spelled kind a → NoComment (a ++ rest) → piece_at at (a ++ rest) ≡ Ok (token_piece kind (length a))
    → Reads at bs (piece_at at bs)
reads_token at kind a rest bs e s n h =
    let stands : Stands at kind a rest = record {
      spelled = s;
      longest = longest at a rest kind h;
      no_line = n.0;
      no_block = n.1;
      sound = λ f d. not_both (token_piece kind (length a)) f (sym h ∙ fault_read at (a ++ rest) f d);
    } in
    subst (λ (cs : List ℕ). Reads at cs (piece_at at cs)) (sym e) (subst (Reads at (a ++ rest)) (sym h) (token_read kind a rest stands))

reads_fault : (at : ℕ) (bs cs : List ℕ) (f : LexFault) → bs ≡ cs → FaultHere at cs f → Reads at bs (piece_at at bs)
reads_fault at bs cs f e d = subst (λ (xs : List ℕ). Reads at xs (piece_at at xs)) (sym e) (subst (Reads at cs) (sym (fault_read at cs f d)) (fault_reads cs f d))

reads_gap : (at : ℕ) (a rest bs : List ℕ) → bs ≡ a ++ rest → Gap a rest → piece_at at bs ≡ Ok (gap_piece (length a)) → Reads at bs (piece_at at bs)
reads_gap at a rest bs e g h = subst (Reads at bs) (sym h) (subst (λ (cs : List ℕ). Reads at cs (Ok (gap_piece (length a)))) (sym e) (gap_read a rest g))

-- ---- names and words

letter_47 : (b : ℕ) → is_letter b ≡ true → b ≡ 47 → ⊥
letter_47 b h e = grind (arith, nat_tests)

named_spelled : (a : List ℕ) → Named a → Spelled (name_or_word a (word_of a)) a
named_spelled _ (named b bs h e) = name_or_word_is Spelled (b ∷ bs) word (λ n. name b bs h e n)

read_name : (at b : ℕ) (bs : List ℕ) → is_letter b ≡ true → Splits is_name bs → Reads at (b ∷ bs) (piece_at at (b ∷ bs))
read_name at b bs h s =
    let n : Named (b ∷ s.front) = named b s.front h s.each in
    reads_token at (name_or_word (b ∷ s.front) (word_of (b ∷ s.front))) (b ∷ s.front) s.rest (b ∷ bs) (ap (λ (cs : List ℕ). b ∷ cs) s.is) (named_spelled (b ∷ s.front) n)
    (no_slash b (s.front ++ s.rest) (letter_47 b h))
    (named_part at (b ∷ s.front) s.rest n s.stops)

-- ---- numbers

digit_47 : (b : ℕ) → is_digit b ≡ true → b ≡ 47 → ⊥
digit_47 b h e = grind (arith, nat_tests)

spelled_number : (b : ℕ) (a : List ℕ) (t : Bool) → is_zero b ≡ t → Each is_digit (b ∷ a) → (is_zero b && nat_lt 1 (length (b ∷ a))) ≡ false → value_of 0 (b ∷ a) < 2 ^ 63
    → Spelled (k.Number (pos (value_of 0 (b ∷ a)))) (b ∷ a)
spelled_number b a false z e n lt = number b a e.0 z e.1 lt
spelled_number b [] true z e n lt = subst (λ (c : ℕ). Spelled (k.Number (pos (value_of 0 (c ∷ [])))) (c ∷ [])) (sym (zero_is b z)) nought
spelled_number b (c ∷ a) true z e n lt = absurd (differ (is_zero b && nat_lt 1 (length (b ∷ c ∷ a))) (zero_many b c a z) n)

after_case : (at b : ℕ) (a rest : List ℕ) (t : Bool) → starts is_letter rest ≡ t → Digits b a rest → (is_zero b && nat_lt 1 (length (b ∷ a))) ≡ false → value_of 0 (b ∷ a) < 2 ^ 63
    → Reads at (b ∷ (a ++ rest)) (piece_at at (b ∷ (a ++ rest)))
after_case at b a rest false h d n lt =
    reads_token at (k.Number (pos (value_of 0 (b ∷ a)))) (b ∷ a) rest (b ∷ (a ++ rest)) refl (spelled_number b a (is_zero b) refl d.each n lt) (no_slash b (a ++ rest) (digit_47 b d.each.0))
    (digit_part at b (a ++ rest) d.each.0 ∙ number_good at b a rest d lt n h)
after_case at b a [] true h d n lt = absurd (differ false h refl)
after_case at b a (c ∷ rest) true h d n lt = reads_fault at (b ∷ (a ++ c ∷ rest)) (b ∷ (a ++ c ∷ rest)) (l.BadByte (at + length (b ∷ a))) refl (after_number b c a rest d.each (alone_if b a n) h lt)

and_true : (t u : Bool) → (t && u) ≡ true → t ≡ true
and_true true u h = refl
and_true false u h = h

zero_case : (at b : ℕ) (a rest : List ℕ) (t : Bool) → (is_zero b && nat_lt 1 (length (b ∷ a))) ≡ t → Digits b a rest → value_of 0 (b ∷ a) < 2 ^ 63
    → Reads at (b ∷ (a ++ rest)) (piece_at at (b ∷ (a ++ rest)))
zero_case at b a rest false n d lt = after_case at b a rest (starts is_letter rest) refl d n lt
zero_case at b [] rest true n d lt = absurd (differ (is_zero b && nat_lt 1 (length (b ∷ []))) n (zero_alone b [] (is_zero b) refl (λ z. refl)))
zero_case at b (c ∷ a) rest true n d lt =
    let z : b ≡ 48 = zero_is b (and_true (is_zero b) (nat_lt 1 (length (b ∷ c ∷ a))) n) in
    reads_fault at (b ∷ c ∷ (a ++ rest)) (48 ∷ c ∷ (a ++ rest)) (l.BadByte (at + 1)) (ap (λ (x : ℕ). x ∷ c ∷ (a ++ rest)) z)
    (after_zero c a rest d.each.1 d.stops (subst (λ (x : ℕ). value_of 0 (x ∷ c ∷ a) < 2 ^ 63) z lt))

large_case : (at b : ℕ) (a rest : List ℕ) (t : Bool) → nat_lt (value_of 0 (b ∷ a)) (2 ^ 63) ≡ t → Digits b a rest → Reads at (b ∷ (a ++ rest)) (piece_at at (b ∷ (a ++ rest)))
large_case at b a rest true n d = zero_case at b a rest (is_zero b && nat_lt 1 (length (b ∷ a))) refl d (below_is (value_of 0 (b ∷ a)) n)
large_case at b a rest false n d = reads_fault at (b ∷ (a ++ rest)) (b ∷ (a ++ rest)) (l.NumberTooLarge at) refl (large b a rest d.each d.stops (not_below_is (value_of 0 (b ∷ a)) n))

read_number : (at b : ℕ) (bs : List ℕ) → is_digit b ≡ true → Splits is_digit bs → Reads at (b ∷ bs) (piece_at at (b ∷ bs))
read_number at b bs d s =
    subst (λ (cs : List ℕ). Reads at (b ∷ cs) (piece_at at (b ∷ cs))) (sym s.is)
    (large_case at b s.front s.rest (nat_lt (value_of 0 (b ∷ s.front)) (2 ^ 63)) refl (record { each = (d, s.each); stops = s.stops }))

-- ---- texts

-- the bytes after a quote
data Quoted : List ℕ → Type 0 where
  closed : (a rest : List ℕ) → Line a → Quoted (a ++ 34 ∷ rest)
  opened : (a rest : List ℕ) → Line a → Ends rest → Quoted (a ++ rest)

more_quoted : (b : ℕ) (bs : List ℕ) → (b == 10) ≡ false → (b == 34) ≡ false → (b == 92) ≡ false → Quoted bs → Quoted (b ∷ bs)
more_quoted b _ g h e (closed a rest d) = closed (b ∷ a) rest (line_byte b a g h e d)
more_quoted b _ g h e (opened a rest d i) = opened (b ∷ a) rest (line_byte b a g h e d) i

more_escaped : (b : ℕ) (bs : List ℕ) → (b == 10) ≡ false → Quoted bs → Quoted (92 ∷ b ∷ bs)
more_escaped b _ g (closed a rest d) = closed (92 ∷ b ∷ a) rest (line_escape b a g d)
more_escaped b _ g (opened a rest d i) = opened (92 ∷ b ∷ a) rest (line_escape b a g d) i

escape_case : (b : ℕ) (bs : List ℕ) (t : Bool) → (b == 10) ≡ t → Quoted bs → Quoted (92 ∷ b ∷ bs)
escape_case b bs true h q = subst (λ (c : ℕ). Quoted (92 ∷ c ∷ bs)) (sym (eq_of b 10 h)) (opened [] (92 ∷ 10 ∷ bs) line_over (ends_feed_after bs))
escape_case b bs false h q = more_escaped b bs h q

backslash_case : (bs : List ℕ) → ((c : ℕ) (cs : List ℕ) → bs ≡ c ∷ cs → Quoted cs) → Quoted (92 ∷ bs)
backslash_case [] q = opened [] (92 ∷ []) line_over ends_text_after
backslash_case (c ∷ cs) q = escape_case c cs (c == 10) refl (q c cs refl)

byte_case : (b : ℕ) (bs : List ℕ) (t u v : Bool) → (b == 10) ≡ t → (b == 34) ≡ u → (b == 92) ≡ v → Quoted bs → ((c : ℕ) (cs : List ℕ) → bs ≡ c ∷ cs → Quoted cs) → Quoted (b ∷ bs)
byte_case b bs true u v g h e q r = subst (λ (c : ℕ). Quoted (c ∷ bs)) (sym (eq_of b 10 g)) (opened [] (10 ∷ bs) line_over (ends_feed bs))
byte_case b bs false true v g h e q r = subst (λ (c : ℕ). Quoted (c ∷ bs)) (sym (eq_of b 34 h)) (closed [] bs line_over)
byte_case b bs false false true g h e q r = subst (λ (c : ℕ). Quoted (c ∷ bs)) (sym (eq_of b 92 e)) (backslash_case bs r)
byte_case b bs false false false g h e q r = more_quoted b bs g h e q

-- the answer for a list, and for what follows its first byte
both : (bs : List ℕ) → Quoted bs × ((c : ℕ) (cs : List ℕ) → bs ≡ c ∷ cs → Quoted cs)
both [] = (opened [] [] line_over ends_text, λ c cs e. absurd (no_byte c cs e))
both (b ∷ bs) =
    let r = both bs in
    (byte_case b bs (b == 10) (b == 34) (b == 92) refl refl refl r.0 r.1, λ c cs e. subst Quoted (same_tail e) r.0)

-- a line is a body, or has a first bad byte
data Sorted : List ℕ → Type 0 where
  good : (a vs : List ℕ) → Body a vs → Sorted a
  wrong : (a vs u c : List ℕ) (p : ℕ) → Body a vs → Bad u p → Line c → Sorted (a ++ (u ++ c))

sorted_byte : (b : ℕ) (bs : List ℕ) (t : Bool) → is_plain b ≡ t → (b == 10) ≡ false → (b == 34) ≡ false → (b == 92) ≡ false → Line bs → Sorted bs → Sorted (b ∷ bs)
sorted_byte b _ true h x y z d (good a vs e) = good (b ∷ a) (b ∷ vs) (body_plain b a vs h e)
sorted_byte b _ true h x y z d (wrong a vs u c p e g i) = wrong (b ∷ a) (b ∷ vs) u c p (body_plain b a vs h e) g i
sorted_byte b bs false h x y z d s = wrong [] [] (b ∷ []) bs 0 body_end (bad_byte b x y z h) d

sorted_escape : (b : ℕ) (bs : List ℕ) (o : Option ℕ) → escape_of b ≡ o → (b == 10) ≡ false → Line bs → Sorted bs → Sorted (92 ∷ b ∷ bs)
sorted_escape b _ (Some v) h x d (good a vs e) = good (92 ∷ b ∷ a) (v ∷ vs) (body_escape b v a vs h e)
sorted_escape b _ (Some v) h x d (wrong a vs u c p e g i) = wrong (92 ∷ b ∷ a) (v ∷ vs) u c p (body_escape b v a vs h e) g i
sorted_escape b bs None h x d s = wrong [] [] (92 ∷ b ∷ []) bs 1 body_end (bad_escape b x h) d

sorted : (a : List ℕ) → Line a → Sorted a
sorted _ line_over = good [] [] body_end
sorted _ (line_byte b bs x y z d) = sorted_byte b bs (is_plain b) refl x y z d (sorted bs d)
sorted _ (line_escape b bs x d) = sorted_escape b bs (escape_of b) refl x d (sorted bs d)

read_line : (at : ℕ) (a rest : List ℕ) → Sorted a → Reads at (34 ∷ (a ++ 34 ∷ rest)) (piece_at at (34 ∷ (a ++ 34 ∷ rest)))
read_line at _ rest (good a vs d) =
    reads_token at (k.Text vs) (34 ∷ (a ++ 34 ∷ [])) rest (34 ∷ (a ++ 34 ∷ rest)) (sym (text_joined a rest)) (text a vs d) (no_slash 34 ((a ++ 34 ∷ []) ++ rest) (not_eq 34 47 refl))
    (ap (piece_at at) (text_joined a rest) ∙ text_part at a vs rest d)
read_line at _ rest (wrong a vs u c p d g i) =
    let e : (a ++ (u ++ c)) ++ 34 ∷ rest ≡ a ++ (u ++ (c ++ 34 ∷ rest)) = append_assoc a (u ++ c) (34 ∷ rest) ∙ ap (λ (bs : List ℕ). a ++ bs) (append_assoc u c (34 ∷ rest)) in
    reads_fault at (34 ∷ ((a ++ (u ++ c)) ++ 34 ∷ rest)) (34 ∷ (a ++ (u ++ (c ++ 34 ∷ rest)))) (l.BadByte (at + 1 + length a + p)) (ap (λ (bs : List ℕ). 34 ∷ bs) e) (in_text a vs u c rest p d g i)

read_text : (at : ℕ) (bs : List ℕ) → Quoted bs → Reads at (34 ∷ bs) (piece_at at (34 ∷ bs))
read_text at _ (closed a rest d) = read_line at a rest (sorted a d)
read_text at _ (opened a rest d e) = reads_fault at (34 ∷ (a ++ rest)) (34 ∷ (a ++ rest)) (l.OpenText at) refl (open_text a rest d e)

-- ---- comments and the slash

pub line_part : (at : ℕ) (a rest : List ℕ) → Each not_feed a → starts not_feed rest ≡ false → piece_at at (47 ∷ 47 ∷ (a ++ rest)) ≡ Ok (gap_piece (length (47 ∷ 47 ∷ a)))
line_part at a rest e s =
    let n : run not_feed (a ++ rest) + 2 ≡ length (47 ∷ 47 ∷ a) = omega (arith, run_of not_feed a rest e s) in
    slash_part at (47 ∷ (a ++ rest)) ∙ ap (λ (n : ℕ). got (gap_piece n)) n

read_feed : (at : ℕ) (bs : List ℕ) → Splits not_feed bs → Reads at (47 ∷ 47 ∷ bs) (piece_at at (47 ∷ 47 ∷ bs))
read_feed at bs s =
    reads_gap at (47 ∷ 47 ∷ s.front) s.rest (47 ∷ 47 ∷ bs) (ap (λ (cs : List ℕ). 47 ∷ 47 ∷ cs) s.is) (line s.front s.rest s.each s.stops)
    (ap (λ (cs : List ℕ). piece_at at (47 ∷ 47 ∷ cs)) s.is ∙ line_part at s.front s.rest s.each s.stops)

tail_end : (c : ℕ) (a : List ℕ) → NoEnd ((c ∷ a) ++ 42 ∷ []) → NoEnd (a ++ 42 ∷ [])
tail_end c a n x y e = n (c ∷ x) y (ap (λ (bs : List ℕ). c ∷ bs) e)

whole_end : (c : ℕ) (bs : List ℕ) → NoEnd (c ∷ bs) → NoEnd bs
whole_end c bs n x y e = n (c ∷ x) y (ap (λ (cs : List ℕ). c ∷ cs) e)

block_len : (c : ℕ) (a : List ℕ) → length (c ∷ a) + 1 + 2 ≡ length (47 ∷ 42 ∷ (a ++ 42 ∷ 47 ∷ []))
block_len c a = omega (arith, length-append a (42 ∷ 47 ∷ []))

read_block : (at : ℕ) (bs : List ℕ) (o : Option ℕ) → block_end false bs ≡ o → Blocks 0 bs o → Reads at (47 ∷ 42 ∷ bs) (piece_at at (47 ∷ 42 ∷ bs))
read_block at bs _ h (open_block n) = reads_fault at (47 ∷ 42 ∷ bs) (47 ∷ 42 ∷ bs) (l.OpenComment at) refl (open_comment bs (whole_end 0 bs n))
read_block at bs _ h (closed_block [] rest n e g d) = absurd (not_eq 0 42 refl (same_head e))
read_block at bs _ h (closed_block (c ∷ a) rest n e g d) =
    let i : bs ≡ (a ++ 42 ∷ 47 ∷ []) ++ rest = same_tail e ∙ sym (append_assoc a (42 ∷ 47 ∷ []) rest) in
    let j : n + 2 ≡ length (47 ∷ 42 ∷ (a ++ 42 ∷ 47 ∷ [])) = ap (λ (n : ℕ). n + 2) g ∙ block_len c a in
    reads_gap at (47 ∷ 42 ∷ (a ++ 42 ∷ 47 ∷ [])) rest (47 ∷ 42 ∷ bs) (ap (λ (cs : List ℕ). 47 ∷ 42 ∷ cs) i) (block a rest (tail_end c a d))
    (slash_part at (42 ∷ bs) ∙ ap (λ (o : Option ℕ). block_at at o) h ∙ ap (λ (n : ℕ). got (gap_piece n)) j)

second : {a b c d : ℕ} {x y : List ℕ} → a ∷ b ∷ x ≡ c ∷ d ∷ y → b ≡ d
second h = cc

slash_alone : (x : List ℕ) (c : ℕ) → 47 ∷ [] ≡ 47 ∷ c ∷ x → ⊥
slash_alone x c h = cc

slash_next : (at c : ℕ) (cs : List ℕ) (t u : Bool) → (c == 47) ≡ t → (c == 42) ≡ u → Reads at (47 ∷ c ∷ cs) (piece_at at (47 ∷ c ∷ cs))
slash_next at c cs true u h g = subst (λ (b : ℕ). Reads at (47 ∷ b ∷ cs) (piece_at at (47 ∷ b ∷ cs))) (sym (eq_of c 47 h)) (read_feed at cs (splits not_feed cs))
slash_next at c cs false true h g = subst (λ (b : ℕ). Reads at (47 ∷ b ∷ cs) (piece_at at (47 ∷ b ∷ cs))) (sym (eq_of c 42 g)) (read_block at cs (block_end false cs) refl (blocks 0 cs))
slash_next at c cs false false h g =
    let p : slash_at at (c ∷ cs) ≡ mark_piece m.Slash 1 = rw (h, g) refl in
    reads_token at (k.Mark m.Slash) (47 ∷ []) (c ∷ cs) (47 ∷ c ∷ cs) refl (mark m.Slash) (λ x e. not_eq c 47 h (second e), λ x e. not_eq c 42 g (second e)) (slash_part at (c ∷ cs) ∙ p)

read_slash : (at : ℕ) (bs : List ℕ) → Reads at (47 ∷ bs) (piece_at at (47 ∷ bs))
read_slash at [] = reads_token at (k.Mark m.Slash) (47 ∷ []) [] (47 ∷ []) refl (mark m.Slash) (λ x e. slash_alone x 47 e, λ x e. slash_alone x 42 e) (slash_part at [])
read_slash at (c ∷ cs) = slash_next at c cs (c == 47) (c == 42) refl refl

-- ---- the other marks

test_at : (p : ℕ → Bool) (b c : ℕ) → p b ≡ true → b ≡ c → p c ≡ false → ⊥
test_at p b c h e g = differ (p c) (ap p (sym e) ∙ h) g

no_named : (a : List ℕ) (b : ℕ) (cs : List ℕ) → Named a → a ≡ b ∷ cs → is_letter b ≡ false → ⊥
no_named _ b cs (named c bs h e) g n = test_at is_letter c b h (same_head g) n

no_shape : (v : Mark) (b : ℕ) (cs : List ℕ) → Shape v → sign v ≡ b ∷ cs → mark_of_one b ≡ None → ⊥
no_shape v b cs (single c e h s) g n = no_mark v (sym n ∙ ap mark_of_one (sym (same_head (sym e ∙ g))) ∙ h)
no_shape v b cs (double c d u e h o s q) g n = no_mark u (sym n ∙ ap mark_of_one (sym (same_head (sym e ∙ g))) ∙ o)

no_quote : (b : ℕ) → 34 ≡ b → (b == 34) ≡ false → ⊥
no_quote b e h = not_eq b 34 h (sym e)

-- no token begins with a byte that begins neither a name, a number, a text nor a mark
nothing_case : (j : Kind) (ys : List ℕ) (b : ℕ) (cs : List ℕ) → Spelled j ys → ys ≡ b ∷ cs → is_letter b ≡ false → is_digit b ≡ false → (b == 34) ≡ false → mark_of_one b ≡ None → ⊥
nothing_case _ _ b cs (name c bs h e n) g nl nd nq nm = test_at is_letter c b h (same_head g) nl
nothing_case _ _ b cs (word v) g nl nd nq nm = no_named (letters v) b cs (word_named v) g nl
nothing_case _ _ b cs nought g nl nd nq nm = test_at is_digit 48 b refl (same_head g) nd
nothing_case _ _ b cs (number c bs h z e lt) g nl nd nq nm = test_at is_digit c b h (same_head g) nd
nothing_case _ _ b cs (text bs vs d) g nl nd nq nm = no_quote b (same_head g) nq
nothing_case _ _ b cs (mark v) g nl nd nq nm = no_shape v b cs (shape v) g nm

read_mark : (at b : ℕ) (v : Mark) (a cs : List ℕ) → sign v ≡ b ∷ a → (b == 47) ≡ false → piece_at at (b ∷ (a ++ cs)) ≡ Ok (token_piece (k.Mark v) (length (b ∷ a)))
    → Reads at (b ∷ (a ++ cs)) (piece_at at (b ∷ (a ++ cs)))
read_mark at b v a cs e n p = reads_token at (k.Mark v) (b ∷ a) cs (b ∷ (a ++ cs)) refl (subst (Spelled (k.Mark v)) e (mark v)) (no_slash b (a ++ cs) (not_eq b 47 n)) p

read_single : (at b : ℕ) (bs : List ℕ) (o : Option Mark) → mark_of_one b ≡ o → Symbol b → (b == 47) ≡ false → piece_at at (b ∷ bs) ≡ single_at at (mark_of_one b)
    → Reads at (b ∷ bs) (piece_at at (b ∷ bs))
read_single at b bs (Some v) h s n p = read_mark at b v [] bs (mark_one_is b v h) n (p ∙ ap (single_at at) h)
read_single at b bs None h s n p =
    reads_fault at (b ∷ bs) (b ∷ bs) (l.BadByte at) refl (stray b bs s.no_blank (λ j cs t. nothing_case j (b ∷ cs) b cs t refl s.no_letter s.no_digit s.no_quote h))

read_double : (at b c : ℕ) (cs : List ℕ) (o : Option Mark) → mark_of_two b c ≡ o → Symbol b → (b == 47) ≡ false → Reads at (b ∷ c ∷ cs) (piece_at at (b ∷ c ∷ cs))
read_double at b c cs (Some v) h s n = read_mark at b v (c ∷ []) cs (mark_two_is b c v h) n (double_part at b c cs v s n h)
read_double at b c cs None h s n = read_single at b (c ∷ cs) (mark_of_one b) refl s n (symbol_part at b (c ∷ cs) s n ∙ ap (λ (o : Option Mark). double_at at o (mark_of_one b)) h)

read_symbol : (at b : ℕ) (bs : List ℕ) → Symbol b → (b == 47) ≡ false → Reads at (b ∷ bs) (piece_at at (b ∷ bs))
read_symbol at b [] s n = read_single at b [] (mark_of_one b) refl s n (symbol_part at b [] s n)
read_symbol at b (c ∷ cs) s n = read_double at b c cs (mark_of_two b c) refl s n

-- ---- every place

place_case : (at b : ℕ) (bs : List ℕ) (t1 t2 t3 t4 t5 : Bool) → is_blank b ≡ t1 → is_letter b ≡ t2 → is_digit b ≡ t3 → (b == 34) ≡ t4 → (b == 47) ≡ t5 → Reads at (b ∷ bs) (piece_at at (b ∷ bs))
place_case at b bs true t2 t3 t4 t5 h1 h2 h3 h4 h5 = reads_gap at (b ∷ []) bs (b ∷ bs) refl (blank b bs h1) (blank_part at b bs h1)
place_case at b bs false true t3 t4 t5 h1 h2 h3 h4 h5 = read_name at b bs h2 (splits is_name bs)
place_case at b bs false false true t4 t5 h1 h2 h3 h4 h5 = read_number at b bs h3 (splits is_digit bs)
place_case at b bs false false false true t5 h1 h2 h3 h4 h5 = subst (λ (c : ℕ). Reads at (c ∷ bs) (piece_at at (c ∷ bs))) (sym (eq_of b 34 h4)) (read_text at bs (both bs).0)
place_case at b bs false false false false true h1 h2 h3 h4 h5 = subst (λ (c : ℕ). Reads at (c ∷ bs) (piece_at at (c ∷ bs))) (sym (eq_of b 47 h5)) (read_slash at bs)
place_case at b bs false false false false false h1 h2 h3 h4 h5 = read_symbol at b bs (record { no_blank = h1; no_letter = h2; no_digit = h3; no_quote = h4 }) h5

-- What is read at a place stands there.
pub reads : (at b : ℕ) (bs : List ℕ) → Reads at (b ∷ bs) (piece_at at (b ∷ bs))
reads at b bs = place_case at b bs (is_blank b) (is_letter b) (is_digit b) (b == 34) (b == 47) refl refl refl refl refl
