-- What the definition has at a place is read there (`stands_read`, `gap_reads`), so that it has nothing else.
-- Since what is read is of the definition too (Pieces), two fronts of the same bytes are compared (`Compared`): of the same length, they are of
-- one kind (`spelled_one`); a longer one contradicts that a token is the longest. The first end of a block comment is found by comparing, too.
use Rattle.std.proofs.Common.{◌≡◌, ℕ, ◌+◌, ◌<◌, Bool, true, false, List, [], ◌∷◌, ◌++◌, length, Option, Some, None, Result, Ok, refl, sym, ap, ◌∙◌, subst, append_assoc, length-append, arith}
use Rattle.std.specs.Prelude.{◌==◌, ◌&&◌, nat_lt, pos}
use Rattle.std.proofs.lemmas.List.{append-nil}
use Rattle.ac_lexer.specs.declared.fault.LexFault.{LexFault}
use Rattle.ac_lexer.specs.declared.token.Kind.{Kind}
use Rattle.ac_lexer.specs.declared.token.Kind.TheVariants as k
use Rattle.ac_lexer.specs.declared.token.Mark.{Mark}
use Rattle.ac_lexer.specs.declared.token.Mark.TheVariants as m
use Rattle.ac_lexer.specs.declared.piece.Piece.{Piece}
use Rattle.ac_lexer.specs.Spelling.{is_blank, value_of, letters, sign}
use Rattle.ac_lexer.specs.inner.Reading.{name_or_word, word_of, token_piece, gap_piece, block_at, block_end, mark_of_one, single_at, piece_at}
use Rattle.ac_lexer.specs.Tokens.{Spelled, name, word, nought, number, text, mark, NoEnd, Gap, blank, line, block, FaultHere, Stands}
use Rattle.ac_lexer.proofs.Runs.{same_head, same_tail, not_eq, eq_of}
use Rattle.ac_lexer.proofs.Vocabulary.{Named, named, word_named, word_reads, no_word_of, word_long}
use Rattle.ac_lexer.proofs.Signs.{same_mark, Symbol, Shape, single, double, shape, sign_long}
use Rattle.ac_lexer.proofs.Comments.{blocks, Blocks, open_block, closed_block}
use Rattle.ac_lexer.proofs.Numbers.{got, same_piece, number_good}
use Rattle.ac_lexer.proofs.Faults.{blank_part, digit_part, slash_part}
use Rattle.ac_lexer.proofs.Pieces.{named_part, text_part, symbol_part, double_part, line_part, Reads, gap_read, token_read, fault_reads}

abbrev pub a_kind : Kind → Option Kind
a_kind kind = Some kind

pub no_kind : (j : Kind) → None ≡ a_kind j → ⊥
no_kind j h = cc

same_kind : {i j : Kind} → a_kind i ≡ a_kind j → i ≡ j
same_kind h = cc

kind_of : {p q : Piece} → got p ≡ got q → p.kind ≡ q.kind
kind_of h = ap (λ (p : Piece). p.kind) (same_piece h)

-- ---- each token and each gap has a byte

pub spelled_long : (kind : Kind) (a : List ℕ) → Spelled kind a → 0 < length a
spelled_long _ _ (name b bs h e n) = omega arith
spelled_long _ _ (word v) = word_long v
spelled_long _ _ nought = omega arith
spelled_long _ _ (number b bs d z e lt) = omega arith
spelled_long _ _ (text bs vs d) = omega arith
spelled_long _ _ (mark v) = sign_long v

pub gap_long : (a rest : List ℕ) → Gap a rest → 0 < length a
gap_long _ _ (blank b rest h) = omega arith
gap_long _ _ (line a rest e s) = omega arith
gap_long _ _ (block a rest n) = omega arith

-- ---- a spelling has one kind

slash_one : mark_of_one 47 ≡ Some m.Slash
unfolding mark_of_one
slash_one = refl

mark_alone : (v : Mark) (b : ℕ) (t : Bool) → (b == 47) ≡ t → mark_of_one b ≡ Some v → Symbol b → piece_at 0 (b ∷ []) ≡ Ok (token_piece (k.Mark v) 1)
mark_alone v b true h e s =
    let i : b ≡ 47 = eq_of b 47 h in
    ap (λ (x : ℕ). piece_at 0 (x ∷ [])) i ∙ slash_part 0 [] ∙ ap (λ (u : Mark). got (token_piece (k.Mark u) 1)) (same_mark (sym slash_one ∙ ap mark_of_one (sym i) ∙ e))
mark_alone v b false h e s = symbol_part 0 b [] s h ∙ ap (single_at 0) e

shape_reads : (v : Mark) → Shape v → piece_at 0 (sign v) ≡ Ok (token_piece (k.Mark v) (length (sign v)))
shape_reads v (single b e h s) = ap (piece_at 0) e ∙ mark_alone v b (b == 47) refl h s ∙ ap (λ (a : List ℕ). got (token_piece (k.Mark v) (length a))) (sym e)
shape_reads v (double b c u e h o s n) = ap (piece_at 0) e ∙ double_part 0 b c [] v s n h ∙ ap (λ (a : List ℕ). got (token_piece (k.Mark v) (length a))) (sym e)

named_reads : (kind : Kind) (a : List ℕ) → Named a → name_or_word a (word_of a) ≡ kind → piece_at 0 a ≡ Ok (token_piece kind (length a))
named_reads kind a n e = ap (piece_at 0) (sym (append-nil a)) ∙ named_part 0 a [] n refl ∙ ap (λ (j : Kind). got (token_piece j (length a))) e

number_reads : (b : ℕ) (a : List ℕ) → piece_at 0 (b ∷ (a ++ [])) ≡ Ok (token_piece (k.Number (pos (value_of 0 (b ∷ a)))) (length (b ∷ a)))
    → piece_at 0 (b ∷ a) ≡ Ok (token_piece (k.Number (pos (value_of 0 (b ∷ a)))) (length (b ∷ a)))
number_reads b a h = ap (λ (x : List ℕ). piece_at 0 (b ∷ x)) (sym (append-nil a)) ∙ h

spelled_reads : (kind : Kind) (a : List ℕ) → Spelled kind a → piece_at 0 a ≡ Ok (token_piece kind (length a))
spelled_reads _ _ (name b bs h e n) = named_reads (k.Name (b ∷ bs)) (b ∷ bs) (named b bs h e) (ap (name_or_word (b ∷ bs)) (no_word_of (b ∷ bs) (word_of (b ∷ bs)) refl n))
spelled_reads _ _ (word v) = named_reads (k.Word v) (letters v) (word_named v) (ap (name_or_word (letters v)) (word_reads v))
spelled_reads _ _ nought = number_reads 48 [] (digit_part 0 48 [] refl ∙ number_good 0 48 [] [] (record { each = (refl, tt); stops = refl }) (omega arith) refl refl)
spelled_reads _ _ (number b bs d z e lt) = number_reads b bs (digit_part 0 b (bs ++ []) d
    ∙ number_good 0 b bs [] (record { each = (d, e); stops = refl }) lt (ap (λ (t : Bool). t && nat_lt 1 (length (b ∷ bs))) z) refl)
spelled_reads _ _ (text bs vs d) = text_part 0 bs vs [] d
spelled_reads _ _ (mark v) = shape_reads v (shape v)

spelled_one : (i j : Kind) (a : List ℕ) → Spelled i a → Spelled j a → i ≡ j
spelled_one i j a s t = same_kind (kind_of (sym (spelled_reads i a s) ∙ spelled_reads j a t))

-- ---- which of two fronts of one list is longer

data Compared (a rest a' rest' : List ℕ) : Type 0 where
  same : a ≡ a' → rest ≡ rest' → Compared a rest a' rest'
  longer : (c : ℕ) (cs : List ℕ) → a' ≡ a ++ c ∷ cs → rest ≡ c ∷ (cs ++ rest') → Compared a rest a' rest'
  shorter : (c : ℕ) (cs : List ℕ) → a ≡ a' ++ c ∷ cs → rest' ≡ c ∷ (cs ++ rest) → Compared a rest a' rest'

one_more : (b c : ℕ) (a rest a' rest' : List ℕ) → b ≡ c → Compared a rest a' rest' → Compared (b ∷ a) rest (c ∷ a') rest'
one_more b c a rest a' rest' h (same e g) = same (ap (λ (x : ℕ). x ∷ a) h ∙ ap (λ (x : List ℕ). c ∷ x) e) g
one_more b c a rest a' rest' h (longer d ds e g) = longer d ds (ap (λ (x : ℕ). x ∷ a') (sym h) ∙ ap (λ (x : List ℕ). b ∷ x) e) g
one_more b c a rest a' rest' h (shorter d ds e g) = shorter d ds (ap (λ (x : ℕ). x ∷ a) h ∙ ap (λ (x : List ℕ). c ∷ x) e) g

compared : (a rest a' rest' : List ℕ) → a ++ rest ≡ a' ++ rest' → Compared a rest a' rest'
compared [] rest [] rest' h = same refl h
compared [] rest (c ∷ a') rest' h = longer c a' refl h
compared (b ∷ a) rest [] rest' h = shorter b a refl (sym h)
compared (b ∷ a) rest (c ∷ a') rest' h = one_more b c a rest a' rest' (same_head h) (compared a rest a' rest' (same_tail h))

-- ---- a token that stands at a place is read there

not_blank : (b : ℕ) (bs : List ℕ) (kind : Kind) (n : ℕ) → is_blank b ≡ true → piece_at 0 (b ∷ bs) ≡ Ok (token_piece kind n) → ⊥
not_blank b bs kind n h e = no_kind kind (kind_of (sym (blank_part 0 b bs h) ∙ e))

no_bytes : (a : List ℕ) → 0 < length a → a ≡ [] → ⊥
no_bytes a lt e = omega (arith, ap (λ (x : List ℕ). length x) e)

starts_blank : (kind : Kind) (a rest : List ℕ) (b : ℕ) (x : List ℕ) → Spelled kind a → is_blank b ≡ true → b ∷ x ≡ a ++ rest → ⊥
starts_blank kind [] rest b x s h e = absurd (no_bytes [] (spelled_long kind [] s) refl)
starts_blank kind (c ∷ a) rest b x s h e = not_blank c a kind (length (c ∷ a)) (ap is_blank (sym (same_head e)) ∙ h) (spelled_reads kind (c ∷ a) s)

no_gap : (at : ℕ) (kind : Kind) (a rest a' rest' : List ℕ) → Stands at kind a rest → Gap a' rest' → a' ++ rest' ≡ a ++ rest → ⊥
no_gap at kind a rest _ _ s (blank b rest' h) e = starts_blank kind a rest b rest' s.spelled h e
no_gap at kind a rest _ _ s (line x rest' g h) e = s.no_line (x ++ rest') (sym e)
no_gap at kind a rest _ _ s (block x rest' n) e = s.no_block ((x ++ 42 ∷ 47 ∷ []) ++ rest') (sym e)

tokens_same : (at : ℕ) (kind j : Kind) (a rest a' rest' : List ℕ) → Stands at kind a rest → Stands at j a' rest' → Compared a' rest' a rest
    → got (token_piece j (length a')) ≡ got (token_piece kind (length a))
tokens_same at kind j a rest a' rest' s t (same e g) =
    let i : j ≡ kind = spelled_one j kind a (subst (Spelled j) e t.spelled) s.spelled in
    ap (λ (i : Kind). got (token_piece i (length a'))) i ∙ ap (λ (x : List ℕ). got (token_piece kind (length x))) e
tokens_same at kind j a rest a' rest' s t (longer c cs e g) = absurd (t.longest c cs rest kind g (subst (Spelled kind) e s.spelled))
tokens_same at kind j a rest a' rest' s t (shorter c cs e g) = absurd (s.longest c cs rest' j g (subst (Spelled j) e t.spelled))

pub stands_read : (at : ℕ) (kind : Kind) (a rest bs : List ℕ) (r : Result Piece LexFault) → Stands at kind a rest → Reads at bs r → bs ≡ a ++ rest → r ≡ Ok (token_piece kind (length a))
stands_read at kind a rest _ _ s (token_read j a' rest' t) e = tokens_same at kind j a rest a' rest' s t (compared a' rest' a rest e)
stands_read at kind a rest _ _ s (gap_read a' rest' g) e = absurd (no_gap at kind a rest a' rest' s g e)
stands_read at kind a rest _ _ s (fault_reads bs f d) e = absurd (s.sound f (subst (λ (cs : List ℕ). FaultHere at cs f) e d))

-- ---- a gap at a place is read there

long_block : (a a' : List ℕ) (len : ℕ) → len ≡ length a' + 1 → (0 ∷ a) ++ 42 ∷ [] ≡ a' ++ 42 ∷ [] → Some len ≡ Some (length a + 2)
long_block a a' len g e = ap (λ (n : ℕ). Some n) (omega (arith, g, length-append (0 ∷ a) (42 ∷ []), length-append a' (42 ∷ []), ap (λ (x : List ℕ). length x) e))

-- a star at the end of a front, and a slash behind it
again : (a a' : List ℕ) (c : ℕ) (cs : List ℕ) → NoEnd (a' ++ 42 ∷ []) → a' ++ 42 ∷ [] ≡ (a ++ 42 ∷ []) ++ c ∷ cs → 47 ≡ c → ⊥
again a a' c cs n e g = n a cs (e ∙ ap (λ (x : ℕ). (a ++ 42 ∷ []) ++ x ∷ cs) (sym g) ∙ append_assoc a (42 ∷ []) (47 ∷ cs))

with_nought : (a : List ℕ) → NoEnd (a ++ 42 ∷ []) → NoEnd ((0 ∷ a) ++ 42 ∷ [])
with_nought a n [] y e = not_eq 0 42 refl (same_head e)
with_nought a n (x ∷ xs) y e = n xs y (same_tail e)

ends_same : (a rest a' rest' : List ℕ) (len : ℕ) → NoEnd (a ++ 42 ∷ []) → NoEnd (a' ++ 42 ∷ []) → len ≡ length a' + 1 → Compared ((0 ∷ a) ++ 42 ∷ []) (47 ∷ rest) (a' ++ 42 ∷ []) (47 ∷ rest')
    → Some len ≡ Some (length a + 2)
ends_same a rest a' rest' len n d g (same e h) = long_block a a' len g e
ends_same a rest a' rest' len n d g (longer c cs e h) = absurd (again (0 ∷ a) a' c cs d e (same_head h))
ends_same a rest a' rest' len n d g (shorter c cs e h) = absurd (again a' (0 ∷ a) c cs (with_nought a n) e (same_head h))

-- the first end of a comment
block_is : (a rest : List ℕ) (o : Option ℕ) → NoEnd (a ++ 42 ∷ []) → Blocks 0 (a ++ 42 ∷ 47 ∷ rest) o → o ≡ Some (length a + 2)
block_is a rest _ n (open_block d) = absurd (d (0 ∷ a) rest refl)
block_is a rest _ n (closed_block a' rest' len e g d) =
    let i : ((0 ∷ a) ++ 42 ∷ []) ++ 47 ∷ rest ≡ (a' ++ 42 ∷ []) ++ 47 ∷ rest' = append_assoc (0 ∷ a) (42 ∷ []) (47 ∷ rest) ∙ e ∙ sym (append_assoc a' (42 ∷ []) (47 ∷ rest')) in
    ends_same a rest a' rest' len n d g (compared ((0 ∷ a) ++ 42 ∷ []) (47 ∷ rest) (a' ++ 42 ∷ []) (47 ∷ rest') i)

block_reads : (at : ℕ) (a rest : List ℕ) → NoEnd (a ++ 42 ∷ []) → piece_at at (47 ∷ 42 ∷ ((a ++ 42 ∷ 47 ∷ []) ++ rest)) ≡ Ok (gap_piece (length (47 ∷ 42 ∷ (a ++ 42 ∷ 47 ∷ []))))
block_reads at a rest n =
    let e : (a ++ 42 ∷ 47 ∷ []) ++ rest ≡ a ++ 42 ∷ 47 ∷ rest = append_assoc a (42 ∷ 47 ∷ []) rest in
    let b : block_end false (a ++ 42 ∷ 47 ∷ rest) ≡ Some (length a + 2) = block_is a rest (block_end false (a ++ 42 ∷ 47 ∷ rest)) n (blocks 0 (a ++ 42 ∷ 47 ∷ rest)) in
    let w : length a + 2 + 2 ≡ length (47 ∷ 42 ∷ (a ++ 42 ∷ 47 ∷ [])) = omega (arith, length-append a (42 ∷ 47 ∷ [])) in
    slash_part at (42 ∷ ((a ++ 42 ∷ 47 ∷ []) ++ rest)) ∙ ap (λ (c : List ℕ). block_at at (block_end false c)) e ∙ ap (λ (o : Option ℕ). block_at at o) b ∙ ap (λ (n : ℕ). got (gap_piece n)) w

pub gap_reads : (at : ℕ) (a rest : List ℕ) → Gap a rest → piece_at at (a ++ rest) ≡ Ok (gap_piece (length a))
gap_reads at _ _ (blank b rest h) = blank_part at b rest h
gap_reads at _ _ (line a rest e s) = line_part at a rest e s
gap_reads at _ _ (block a rest n) = block_reads at a rest n
