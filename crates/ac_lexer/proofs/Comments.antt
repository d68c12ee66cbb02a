-- The end of a comment: `block_end` finds the first star with a slash behind it, and nothing where there is none (`blocks`, `never`).
-- By induction on the bytes. The byte before them, `p`, is part of the statement, since it may be the star whose slash comes first here.
use Rattle.std.proofs.Common.{◌≡◌, ℕ, ◌+◌, Bool, true, false, List, [], ◌∷◌, ◌++◌, length, Option, Some, None, refl, ap, ◌∙◌, arith}
use Rattle.std.specs.Prelude.{if◌then◌else◌, ◌==◌, ◌&&◌, option_map}
use Rattle.std.proofs.lemmas.Bool.Decides.{nat_tests}
use Rattle.ac_lexer.specs.inner.Reading.{block_end}
use Rattle.ac_lexer.specs.Tokens.{NoEnd}

-- the answer on bs, after the byte p
pub data Blocks (p : ℕ) (bs : List ℕ) : Option ℕ → Type 0 where
  open_block : NoEnd (p ∷ bs) → Blocks p bs None
  closed_block : (a rest : List ℕ) (n : ℕ) → p ∷ bs ≡ a ++ 42 ∷ 47 ∷ rest → n ≡ length a + 1 → NoEnd (a ++ 42 ∷ []) → Blocks p bs (Some n)

no_one : (p : ℕ) → NoEnd (p ∷ [])
no_one p [] y h = cc
no_one p (x ∷ []) y h = cc
no_one p (x ∷ z ∷ xs) y h = cc

test : (p b : ℕ) → (p == 42 && b == 47) ≡ false → p ≡ 42 → b ≡ 47 → ⊥
test p b h x y = grind (arith, nat_tests)

no_cons : (p : ℕ) (zs : List ℕ) → ((y : List ℕ) → p ≡ 42 → zs ≡ 47 ∷ y → ⊥) → NoEnd zs → NoEnd (p ∷ zs)
no_cons p zs h n [] y e = let i : p ≡ 42 = cc in let j : zs ≡ 47 ∷ y = cc in h y i j
no_cons p zs h n (x ∷ xs) y e = let i : zs ≡ xs ++ 42 ∷ 47 ∷ y = cc in n xs y i

no_more : (p b : ℕ) (bs : List ℕ) → (p == 42 && b == 47) ≡ false → NoEnd (b ∷ bs) → NoEnd (p ∷ b ∷ bs)
no_more p b bs h n = no_cons p (b ∷ bs) (λ y i e. let j : b ≡ 47 = cc in test p b h i j) n

first_is : {a b : ℕ} {x y : List ℕ} → a ∷ x ≡ b ∷ y → a ≡ b
first_is h = cc

differ : (b c : ℕ) → b ≡ 42 → c ≡ 47 → b ≡ c → ⊥
differ b c e g h = omega arith

slash_first : (b : ℕ) (bs a rest y : List ℕ) → b ∷ bs ≡ a ++ 42 ∷ 47 ∷ rest → a ++ 42 ∷ [] ≡ 47 ∷ y → b ≡ 47
slash_first b bs [] rest y e g = absurd (differ 42 47 refl refl (first_is g))
slash_first b bs (c ∷ a) rest y e g = let i : b ≡ c = cc in let j : c ≡ 47 = cc in i ∙ j

no_more_front : (p b : ℕ) (bs a rest : List ℕ) → (p == 42 && b == 47) ≡ false → b ∷ bs ≡ a ++ 42 ∷ 47 ∷ rest → NoEnd (a ++ 42 ∷ []) → NoEnd (p ∷ (a ++ 42 ∷ []))
no_more_front p b bs a rest h e n = no_cons p (a ++ 42 ∷ []) (λ y i g. test p b h i (slash_first b bs a rest y e g)) n

further : (p b : ℕ) (bs : List ℕ) (o : Option ℕ) → (p == 42 && b == 47) ≡ false → Blocks b bs o → Blocks p (b ∷ bs) (option_map (λ n. n + 1) o)
further p b bs _ h (open_block n) = open_block (no_more p b bs h n)
further p b bs _ h (closed_block a rest n e g d) = closed_block (p ∷ a) rest (n + 1) (ap (λ (cs : List ℕ). p ∷ cs) e) (omega arith) (no_more_front p b bs a rest h e d)

at_once : (p b : ℕ) (bs : List ℕ) → (p == 42 && b == 47) ≡ true → p ∷ b ∷ bs ≡ 42 ∷ 47 ∷ bs
at_once p b bs h =
    let e : p ≡ 42 = grind (arith, nat_tests) in
    let g : b ≡ 47 = grind (arith, nat_tests) in
    rw (e, g) refl

case : (p b : ℕ) (bs : List ℕ) (o : Option ℕ) (t : Bool) → (p == 42 && b == 47) ≡ t → Blocks b bs o → Blocks p (b ∷ bs) (if t then Some 1 else option_map (λ n. n + 1) o)
case p b bs o true h d = closed_block [] bs 1 (at_once p b bs h) refl (no_one 42)
case p b bs o false h d = further p b bs o h d

pub blocks : (p : ℕ) (bs : List ℕ) → Blocks p bs (block_end (p == 42) bs)
blocks p [] = open_block (no_one p)
blocks p (b ∷ bs) = case p b bs (block_end (b == 42) bs) (p == 42 && b == 47) refl (blocks b bs)

never_case : (cs : List ℕ) (o : Option ℕ) → Blocks 0 cs o → NoEnd cs → o ≡ None
never_case cs _ (open_block n) d = refl
never_case cs _ (closed_block [] rest n e g h) d = cc
never_case cs _ (closed_block (c ∷ a) rest n e g h) d = absurd (d a rest cc)

pub never : (cs : List ℕ) → NoEnd cs → block_end false cs ≡ None
never cs d = never_case cs (block_end false cs) (blocks 0 cs) d
