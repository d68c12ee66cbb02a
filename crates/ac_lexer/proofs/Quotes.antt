-- Reading the bytes of a text after its opening quote: how `text_from` goes over a body, over a bad byte and over the line behind it, and
-- where it stops at an open end. Each is an induction on what the definition says of those bytes (`Body`, `Line`), by one byte (`step`) or by
-- a backslash and its byte (`escaped`). What goes along: the place, the first bad byte and the value.
use Rattle.std.proofs.Common.{◌≡◌, ℕ, ◌+◌, Bool, true, false, List, [], ◌∷◌, ◌++◌, length, Option, Some, None, Err, refl, sym, ap, ◌∙◌, append_assoc, arith}
use Rattle.std.specs.Prelude.{◌==◌, ◌&&◌, not}
use Rattle.std.proofs.lemmas.Bool.Decides.{nat_tests}
use Rattle.std.proofs.lemmas.List.{append-nil}
use Rattle.ac_lexer.specs.declared.fault.LexFault.TheVariants as l
use Rattle.ac_lexer.specs.inner.Reading.{text_from, means, with_meaning, is_bad, first_of_two}
use Rattle.ac_lexer.specs.Tokens.{is_plain, escape_of, Body, body_end, body_plain, body_escape, Line, line_over, line_byte}
use Rattle.ac_lexer.specs.Tokens.{line_escape, Ends, ends_text, ends_feed, ends_text_after, ends_feed_after, Bad, bad_byte, bad_escape}

and_false : (t : Bool) → (t && false) ≡ false
and_false true = refl
and_false false = refl

plain_feed : (b : ℕ) → is_plain b ≡ true → (b == 10) ≡ false
plain_feed b h = grind (arith, nat_tests)

plain_quote : (b : ℕ) → is_plain b ≡ true → (b == 34) ≡ false
plain_quote b h = grind (arith, nat_tests)

plain_slash : (b : ℕ) → is_plain b ≡ true → (b == 92) ≡ false
plain_slash b h = grind (arith, nat_tests)

escape_feed : (b v : ℕ) → escape_of b ≡ Some v → (b == 10) ≡ false
escape_feed b v h = grind (arith, nat_tests)

same_from : (q i j : ℕ) (bad : Option ℕ) (value vs rest : List ℕ) → i ≡ j → value ≡ vs → text_from q i false bad value rest ≡ text_from q j false bad vs rest
same_from q i j bad value vs rest g h = rw (g, h) refl

state : (q i : ℕ) (e e' : Bool) (bad bad' : Option ℕ) (value value' bs : List ℕ) → e ≡ e' → bad ≡ bad' → value ≡ value' → text_from q i e bad value bs ≡ text_from q i e' bad' value' bs
state q i e e' bad bad' value value' bs x y z = rw (x, y, z) refl

-- one byte goes by that neither ends the line nor the text
step : (q i : ℕ) (e e' : Bool) (bad bad' : Option ℕ) (value value' : List ℕ) (b : ℕ) (bs : List ℕ) → (b == 10) ≡ false → (b == 34 && not e) ≡ false
    → (b == 92 && not e) ≡ e' → first_of_two bad (is_bad e b (means e b)) (q + 1 + i) ≡ bad' → with_meaning value (means e b) ≡ value'
    → text_from q i e bad value (b ∷ bs) ≡ text_from q (i + 1) e' bad' value' bs
step q i e e' bad bad' value value' b bs g h x y z =
    let one : text_from q i e bad value (b ∷ bs) ≡ text_from q (i + 1) (b == 92 && not e) (first_of_two bad (is_bad e b (means e b)) (q + 1 + i)) (with_meaning value (means e b)) bs =
    rw (g, h) refl in
    one ∙ state q (i + 1) (b == 92 && not e) e' (first_of_two bad (is_bad e b (means e b)) (q + 1 + i)) bad' (with_meaning value (means e b)) value' bs x y z

and_left : (t : Bool) → t ≡ false → (t && true) ≡ false
and_left t h = rw h refl

plain_means : (b : ℕ) → is_plain b ≡ true → means false b ≡ Some b
plain_means b h = rw h refl

none_means : (b : ℕ) → is_plain b ≡ false → means false b ≡ None
none_means b h = rw h refl

-- a backslash, and the byte after it
escaped : (q i : ℕ) (bad bad' : Option ℕ) (value value' : List ℕ) (b : ℕ) (bs : List ℕ) → (b == 10) ≡ false
    → first_of_two (first_of_two bad false (q + 1 + i)) (is_bad true b (escape_of b)) (q + 1 + (i + 1)) ≡ bad' → with_meaning value (escape_of b) ≡ value'
    → text_from q i false bad value (92 ∷ b ∷ bs) ≡ text_from q (i + 1 + 1) false bad' value' bs
escaped q i bad bad' value value' b bs g y z =
    let one : text_from q i false bad value (92 ∷ b ∷ bs) ≡ text_from q (i + 1) true (first_of_two bad false (q + 1 + i)) value (b ∷ bs) = refl in
    one ∙ step q (i + 1) true false (first_of_two bad false (q + 1 + i)) bad' value value' b bs g (and_false (b == 34)) (and_false (b == 92)) y z

pub over_body : (q i : ℕ) (value a vs rest : List ℕ) → Body a vs → text_from q i false None value (a ++ rest) ≡ text_from q (i + length a) false None (value ++ vs) rest
over_body q i value _ _ rest body_end = same_from q i (i + 0) None value (value ++ []) rest (omega arith) (sym (append-nil value))
over_body q i value _ _ rest (body_plain b bs vs h d) =
    step q i false false None None value (value ++ b ∷ []) b (bs ++ rest) (plain_feed b h) (and_left (b == 34) (plain_quote b h)) (and_left (b == 92) (plain_slash b h))
    (ap (λ (o : Option ℕ). first_of_two None (is_bad false b o) (q + 1 + i)) (plain_means b h)) (ap (λ (o : Option ℕ). with_meaning value o) (plain_means b h))
    ∙ over_body q (i + 1) (value ++ b ∷ []) bs vs rest d ∙ same_from q (i + 1 + length bs) (i + length (b ∷ bs)) None ((value ++ b ∷ []) ++ vs) (value ++ b ∷ vs) rest (omega arith)
    (append_assoc value (b ∷ []) vs)
over_body q i value _ _ rest (body_escape b v bs vs h d) =
    escaped q i None None value (value ++ v ∷ []) b (bs ++ rest) (escape_feed b v h)
    (ap (λ (o : Option ℕ). first_of_two None (is_bad true b o) (q + 1 + (i + 1))) h) (ap (λ (o : Option ℕ). with_meaning value o) h)
    ∙ over_body q (i + 1 + 1) (value ++ v ∷ []) bs vs rest d ∙ same_from q (i + 1 + 1 + length bs) (i + length (92 ∷ b ∷ bs)) None ((value ++ v ∷ []) ++ vs) (value ++ v ∷ vs) rest (omega arith)
    (append_assoc value (v ∷ []) vs)

pub record Over (q i p : ℕ) (value a rest : List ℕ) : Type 0 where
  pub after : List ℕ
  pub is : text_from q i false (Some p) value (a ++ rest) ≡ text_from q (i + length a) false (Some p) after rest

pub over_line : (q i p : ℕ) (value a rest : List ℕ) → Line a → Over q i p value a rest
over_line q i p value _ rest line_over = record { after = value; is = same_from q i (i + 0) (Some p) value value rest (omega arith) refl }
over_line q i p value _ rest (line_byte b bs g h e d) =
    let o = over_line q (i + 1) p (with_meaning value (means false b)) bs rest d in
    record {
      after = o.after;
      is = step q i false false (Some p) (Some p) value (with_meaning value (means false b)) b (bs ++ rest) g (and_left (b == 34) h) (and_left (b == 92) e) refl refl
          ∙ o.is ∙ same_from q (i + 1 + length bs) (i + length (b ∷ bs)) (Some p) o.after o.after rest (omega arith) refl;
    }
over_line q i p value _ rest (line_escape b bs g d) =
    let o = over_line q (i + 1 + 1) p (with_meaning value (escape_of b)) bs rest d in
    record {
      after = o.after;
      is = escaped q i (Some p) (Some p) value (with_meaning value (escape_of b)) b (bs ++ rest) g refl refl
          ∙ o.is ∙ same_from q (i + 1 + 1 + length bs) (i + length (92 ∷ b ∷ bs)) (Some p) o.after o.after rest (omega arith) refl;
    }

pub open_here : (q i : ℕ) (bad : Option ℕ) (value rest : List ℕ) → Ends rest → text_from q i false bad value rest ≡ Err (l.OpenText q)
open_here q i bad value _ ends_text = refl
open_here q i bad value _ (ends_feed bs) = refl
open_here q i bad value _ ends_text_after = refl
open_here q i bad value _ (ends_feed_after bs) = refl

pub open_line : (q i : ℕ) (bad : Option ℕ) (value a rest : List ℕ) → Line a → Ends rest → text_from q i false bad value (a ++ rest) ≡ Err (l.OpenText q)
open_line q i bad value _ rest line_over e = open_here q i bad value rest e
open_line q i bad value _ rest (line_byte b bs g h s d) e =
    step q i false false bad (first_of_two bad (is_bad false b (means false b)) (q + 1 + i)) value (with_meaning value (means false b)) b (bs ++ rest) g (and_left (b == 34) h)
    (and_left (b == 92) s) refl refl
    ∙ open_line q (i + 1) (first_of_two bad (is_bad false b (means false b)) (q + 1 + i)) (with_meaning value (means false b)) bs rest d e
open_line q i bad value _ rest (line_escape b bs g d) e =
    let after = first_of_two (first_of_two bad false (q + 1 + i)) (is_bad true b (escape_of b)) (q + 1 + (i + 1)) in
    escaped q i bad after value (with_meaning value (escape_of b)) b (bs ++ rest) g refl refl
    ∙ open_line q (i + 1 + 1) after (with_meaning value (escape_of b)) bs rest d e

same_bad : (q i j p r : ℕ) (value rest : List ℕ) → i ≡ j → p ≡ r → text_from q i false (Some p) value rest ≡ text_from q j false (Some r) value rest
same_bad q i j p r value rest g h = rw (g, h) refl

no_slash : (b : ℕ) → (b == 92) ≡ false → is_bad false b None ≡ true
no_slash b h = rw h refl

bad_plain : (b : ℕ) → (b == 92) ≡ false → is_plain b ≡ false → is_bad false b (means false b) ≡ true
bad_plain b h n = ap (λ (o : Option ℕ). is_bad false b o) (none_means b n) ∙ no_slash b h

pub bad_here : (q i p : ℕ) (value u rest : List ℕ) → Bad u p → text_from q i false None value (u ++ rest) ≡ text_from q (i + length u) false (Some (q + 1 + i + p)) value rest
bad_here q i _ value _ rest (bad_byte b g h s n) =
    step q i false false None (Some (q + 1 + i)) value value b rest g (and_left (b == 34) h) (and_left (b == 92) s)
    (ap (λ (t : Bool). first_of_two None t (q + 1 + i)) (bad_plain b s n)) (ap (λ (o : Option ℕ). with_meaning value o) (none_means b n))
    ∙ same_bad q (i + 1) (i + length (b ∷ [])) (q + 1 + i) (q + 1 + i + 0) value rest (omega arith) (omega arith)
bad_here q i _ value _ rest (bad_escape b g n) =
    escaped q i None (Some (q + 1 + (i + 1))) value value b rest g (ap (λ (o : Option ℕ). first_of_two None (is_bad true b o) (q + 1 + (i + 1))) n) (ap (λ (o : Option ℕ). with_meaning value o) n)
    ∙ same_bad q (i + 1 + 1) (i + length (92 ∷ b ∷ [])) (q + 1 + (i + 1)) (q + 1 + i + 1) value rest (omega arith) (omega arith)
