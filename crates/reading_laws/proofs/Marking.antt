-- Lists of tokens with their depths: what the tokens of two lists together are, that they keep a limit of depth, and which token is the first
-- over it (`cut`). By induction on the first list.
use Rattle.std.proofs.Common.{◌≡◌, ℕ, suc, ◌<◌, ◌≤◌, List, [], ◌∷◌, ◌++◌, length, Option, Some, None, refl, ap, ◌∙◌, append_assoc, arith}
use Rattle.std.specs.Prelude.{Bool, true, false, ltb, if◌then◌else◌}
use Rattle.std.proofs.lemmas.Bool.Decides.{nat_tests}
use Rattle.ac_lexer.specs.declared.token.Token.{Token}
use Rattle.reading_laws.specs.Marks.{Marked, tokens, Low, cut}

pub tokens_append : (a b : List Marked) → tokens (a ++ b) ≡ tokens a ++ tokens b
tokens_append [] b = refl
tokens_append (m ∷ a) b = ap (λ (c : List Token). m.token ∷ c) (tokens_append a b)

pub tokens_split : (a b : List Marked) (r : List Token) → tokens (a ++ b) ++ r ≡ tokens a ++ (tokens b ++ r)
tokens_split a b r = ap (λ (c : List Token). c ++ r) (tokens_append a b) ∙ append_assoc (tokens a) (tokens b) r

-- as many marks as tokens
pub same_length : (ms : List Marked) → length (tokens ms) ≡ length ms
same_length [] = refl
same_length (m ∷ ms) = ap (λ (k : ℕ). suc k) (same_length ms)

pub low_append : (L : ℕ) (a b : List Marked) → Low L a → Low L b → Low L (a ++ b)
low_append L [] b p q = q
low_append L (m ∷ a) b p q = (p.0, low_append L a b p.1 q)

pub not_over : (L d : ℕ) → d ≤ L → ltb L d ≡ false
not_over L d h = grind (arith, nat_tests)

pub is_over : (L d : ℕ) → L < d → ltb L d ≡ true
is_over L d h = grind (arith, nat_tests)

-- the first of two
abbrev pub or_else : {A : Type 0} → Option A → Option A → Option A
or_else (Some x) o = Some x
or_else None o = o

append_case : (L : ℕ) (m : Marked) (a b : List Marked) (r : List Token) (t : Bool) → cut L (a ++ b) r ≡ or_else (cut L a (tokens b ++ r)) (cut L b r)
    → (if t then Some (m.token ∷ (tokens (a ++ b) ++ r)) else cut L (a ++ b) r) ≡ or_else (if t then Some (m.token ∷ (tokens a ++ (tokens b ++ r))) else cut L a (tokens b ++ r)) (cut L b r)
append_case L m a b r true h = ap (λ (c : List Token). Some (m.token ∷ c)) (tokens_split a b r)
append_case L m a b r false h = h

pub cut_append : (L : ℕ) (a b : List Marked) (r : List Token) → cut L (a ++ b) r ≡ or_else (cut L a (tokens b ++ r)) (cut L b r)
cut_append L [] b r = refl
cut_append L (m ∷ a) b r = append_case L m a b r (ltb L m.depth) (cut_append L a b r)
