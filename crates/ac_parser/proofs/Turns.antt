-- What a statement is read as, at each turn of the functions that read it: by the form of its first token, and what a `for` has in parentheses.
-- The recursive reader of the definition is unfolded once, where there is room.
use Rattle.std.proofs.Common.{◌≡◌, ◌≢◌, ℕ, suc, ◌-◌, ◌+◌, List, ap, ◌∙◌, arith}
use Rattle.ac_lexer.specs.declared.token.Token.{Token}
use Rattle.ac_parser.specs.declared.forms.Opening.{Opening}
use Rattle.ac_parser.specs.inner.ReadsStatements.{opening_of, stmt_by, stmt_at, whole_head_at, head_at}

pub as_statement : (room : ℕ) (opening : Opening) (ts : List Token) → opening_of ts ≡ opening → stmt_at (room + 1) ts ≡ stmt_by (stmt_at room) room opening ts
unfolding stmt_at
as_statement room opening ts q =
    let one : room + 1 ≡ suc room = omega arith in
    ap (λ (n : ℕ). stmt_at n ts) one ∙ ap (λ (opening : Opening). stmt_by (stmt_at room) room opening ts) q

pub head_within : (room : ℕ) (ts : List Token) → room ≢ 0 → head_at room ts ≡ whole_head_at (room - 1) ts
head_within room ts ne =
    let one : room ≡ suc (room - 1) = omega (arith, ne) in
    ap (λ (n : ℕ). head_at n ts) one
