-- Reading a constant or an operator.
use Rattle.std.specs.Prelude.{ℕ, Bool, false, List, [], ◌∷◌, Option, Some, None, ◌==◌, if◌then◌else◌}
use Rattle.ac_tree.specs.declared.expr.Constant.{Constant}
use Rattle.ac_tree.specs.declared.expr.UnaryOp.{UnaryOp}
use Rattle.ac_tree.specs.declared.expr.BinaryOp.{BinaryOp}
use Rattle.ac_lexer.specs.declared.token.Kind.{Kind}
use Rattle.ac_lexer.specs.declared.token.Kind.TheVariants as k
use Rattle.ac_lexer.specs.declared.token.Token.{Token}
use Rattle.ac_expressions.specs.Spelling.{operator_of, unary_of, constant_of}
use Rattle.reading_laws.specs.Readers.{Reads, token_at, is_there}

-- a named result, with its place
abbrev pub placed_constant : ℕ → Option Constant → Option (ℕ × Constant)
placed_constant at None = None
placed_constant at (Some which) = Some (at, which)

abbrev pub constant_kind : ℕ → Kind → Option (ℕ × Constant)
constant_kind at (k.Word a) = placed_constant at (constant_of a)
constant_kind at _ = None

abbrev pub constant_at : List Token → Reads (ℕ × Constant)
constant_at = token_at (λ t. constant_kind t.span.at t.kind)

-- a unary operator, with its place
abbrev pub placed_unary : ℕ → Option UnaryOp → Option (ℕ × UnaryOp)
placed_unary at None = None
placed_unary at (Some op) = Some (at, op)

abbrev pub unary_kind : ℕ → Kind → Option (ℕ × UnaryOp)
unary_kind at (k.Mark a) = placed_unary at (unary_of a)
unary_kind at _ = None

abbrev pub unary_sign_at : List Token → Reads (ℕ × UnaryOp)
unary_sign_at = token_at (λ t. unary_kind t.span.at t.kind)

-- a binary operator of a level
abbrev pub at_level : ℕ → Option (ℕ × BinaryOp) → Option BinaryOp
at_level level None = None
at_level level (Some found) = if found.0 == level then Some found.1 else None

abbrev pub operator_kind : ℕ → Kind → Option BinaryOp
operator_kind level (k.Mark a) = at_level level (operator_of a)
operator_kind level _ = None

abbrev pub operator_at : ℕ → List Token → Reads BinaryOp
operator_at level = token_at (λ t. operator_kind level t.kind)

abbrev pub has_operator : ℕ → List Token → Bool
has_operator level [] = false
has_operator level (t ∷ ts) = is_there (operator_kind level t.kind)
