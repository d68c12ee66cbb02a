-- What an expression is read as, at each turn of the functions that read it: `chain` by its level, `primary` by the form of the first token.
-- The recursive reader of the definition is unfolded once; where a part fails, the whole fails alike (`fails_first`).
use Rattle.std.proofs.Common.{◌≡◌, ◌≢◌, ℕ, zero, suc, ◌-◌, ◌+◌, ◌≤◌, ◌<◌, List, Result, Ok, refl, sym, ap, ◌∙◌, arith}
use Rattle.ac_tree.specs.declared.expr.Expr.{Expr}
use Rattle.ac_tree.specs.declared.expr.Link.{Link}
use Rattle.ac_lexer.specs.declared.token.Token.{Token}
use Rattle.ac_expressions.specs.declared.cursor.Halt.{Halt}
use Rattle.ac_expressions.specs.declared.cursor.Halt.TheVariants as h
use Rattle.ac_expressions.specs.declared.forms.Primary.{Primary}
use Rattle.reading_laws.specs.Readers.{Reads, Fault, ◌>>=◌}
use Rattle.ac_expressions.specs.Returned.{Fails}
use Rattle.ac_expressions.specs.Reads.{primary_of, made, links_at, chain_of, chain_at, level_at, primary_by, unary_at}

fails_first : {A B : Type 0} (left : List Token) (e : Halt) (r : Result A Fault) (f : A → Result B Fault) → Fails left e r → Fails left e (r >>= f)
fails_first left h.Memory r f g = tt
fails_first left h.Unexpected r f g = rw g refl
fails_first left h.TooDeep r f g = rw g refl

fails_by : {A : Type 0} (left : List Token) (e : Halt) (r t : Result A Fault) → t ≡ r → Fails left e r → Fails left e t
fails_by left h.Memory r t q g = tt
fails_by left h.Unexpected r t q g = q ∙ g
fails_by left h.TooDeep r t q g = q ∙ g

-- ---- chains

pub below : (level : ℕ) → level ≤ 11 → level ≢ 11 → level < 11
below level le ne = omega arith

module _ (unary : List Token → Reads Expr) (level : ℕ) (ts : List Token) where
  pub last_level : level ≡ 11 → level_at unary level ts ≡ unary ts
  unfolding chain_at
  last_level q = rw q refl

  next_level : level < 11 → level_at unary level ts ≡ chain_of level (level_at unary (level + 1)) ts
  unfolding chain_at
  next_level lt =
      let k : 11 - level ≡ suc (11 - (level + 1)) = omega (arith, lt) in
      ap (λ (up : ℕ). chain_at unary up level ts) k

  pub no_operand : (left : List Token) (e : Halt) → level < 11 → Fails left e (level_at unary (level + 1) ts) → Fails left e (level_at unary level ts)
  no_operand left e lt g = fails_by left e (chain_of level (level_at unary (level + 1)) ts) (level_at unary level ts) (next_level lt) (fails_first left e (level_at unary (level + 1) ts) _ g)

  with_operand : (x : Expr) (rest : List Token) → level < 11 → level_at unary (level + 1) ts ≡ Ok (x, rest)
      → level_at unary level ts ≡ (links_at level (level_at unary (level + 1)) rest >>= λ ls. Ok (made level x ls.0, ls.1))
  with_operand x rest lt q = next_level lt ∙ ap (λ (r : Reads Expr). r >>= λ first. links_at level (level_at unary (level + 1)) first.1 >>= λ ls. Ok (made level first.0 ls.0, ls.1)) q

  pub no_links : (left : List Token) (e : Halt) (x : Expr) (rest : List Token) → level < 11 → level_at unary (level + 1) ts ≡ Ok (x, rest)
      → Fails left e (links_at level (level_at unary (level + 1)) rest) → Fails left e (level_at unary level ts)
  no_links left e x rest lt q g = fails_by left e (links_at level (level_at unary (level + 1)) rest >>= λ ls. Ok (made level x ls.0, ls.1)) (level_at unary level ts) (with_operand x rest lt q)
      (fails_first left e (links_at level (level_at unary (level + 1)) rest) _ g)

  pub whole_chain : (x : Expr) (rest : List Token) (ls : List Link) (after : List Token) → level < 11 → level_at unary (level + 1) ts ≡ Ok (x, rest)
      → links_at level (level_at unary (level + 1)) rest ≡ Ok (ls, after)
      → level_at unary level ts ≡ Ok (made level x ls, after)
  whole_chain x rest ls after lt q g = with_operand x rest lt q ∙ ap (λ (r : Reads (List Link)). r >>= λ ls. Ok (made level x ls.0, ls.1)) g

-- ---- primaries

deeper : (room : ℕ) (ts : List Token) → unary_at (suc room) ts ≡ primary_by (unary_at room) (unary_at (room - 1)) room (primary_of ts) ts
unfolding unary_at
deeper zero ts = refl
deeper (suc room) ts =
    let k : suc room - 1 ≡ room = omega arith in
    ap (λ (n : ℕ). primary_by (unary_at (suc room)) (unary_at n) (suc room) (primary_of ts) ts) (sym k)

pub as_primary : (room : ℕ) (form : Primary) (ts : List Token) → primary_of ts ≡ form → unary_at (room + 1) ts ≡ primary_by (unary_at room) (unary_at (room - 1)) room form ts
as_primary room form ts q =
    let one : room + 1 ≡ suc room = omega arith in
    ap (λ (n : ℕ). unary_at n ts) one ∙ deeper room ts ∙ ap (λ (form : Primary). primary_by (unary_at room) (unary_at (room - 1)) room form ts) q
