-- Parts that are a constant or an operator: for each its spelling and its law, as those of names in `Letters`, by the tables of the grammar.
-- A binary operator is read at a level: its table gives level and operator, and it is picked where the levels are equal. Each level from 1 to 10
-- has an operator, so that a chain of it can be filled in (`fill_operator`).
use Rattle.std.proofs.Common.{◌≡◌, ℕ, zero, suc, ◌≤◌, Bool, true, false, List, [], ◌∷◌, Option, Some, None, refl, ap, ◌∙◌, subst, arith}
use Rattle.std.specs.Prelude.{◌==◌, if◌then◌else◌}
use Rattle.std.proofs.lemmas.Bool.Decides.{nat_tests}
use Rattle.ac_tree.specs.declared.expr.Constant.{Constant}
use Rattle.ac_tree.specs.declared.expr.Constant.TheVariants as c
use Rattle.ac_tree.specs.declared.expr.UnaryOp.{UnaryOp}
use Rattle.ac_tree.specs.declared.expr.UnaryOp.TheVariants as u
use Rattle.ac_tree.specs.declared.expr.BinaryOp.{BinaryOp}
use Rattle.ac_tree.specs.declared.expr.BinaryOp.TheVariants as b
use Rattle.ac_lexer.specs.declared.token.Word.{Word}
use Rattle.ac_lexer.specs.declared.token.Word.TheVariants as w
use Rattle.ac_lexer.specs.declared.token.Mark.{Mark}
use Rattle.ac_lexer.specs.declared.token.Mark.TheVariants as m
use Rattle.ac_lexer.specs.declared.token.Kind.{Kind}
use Rattle.ac_lexer.specs.declared.token.Kind.TheVariants as k
use Rattle.ac_lexer.specs.declared.token.Token.{Token}
use Rattle.reading_laws.specs.Marks.{Marked, mark, IsWord, IsMark}
use Rattle.ac_expressions.specs.Spelling.{operator_of, unary_of, constant_of}
use Rattle.ac_expressions.specs.Operators.{placed_constant, constant_kind, constant_at, placed_unary, unary_kind, unary_sign_at, at_level, operator_kind, operator_at, has_operator}
use Rattle.reading_laws.specs.Readers.{is_there}
use Rattle.reading_laws.proofs.Heads.{ByHead, by_head}
use Rattle.reading_laws.proofs.Parts.{Filled, Part, Law, Any, Picked, law_token}
use Rattle.reading_laws.proofs.Letters.{filler, same_some, no_some}

-- ---- named results

pub data ConstantSpells (b : ℕ) : ℕ × Constant → List Marked → Type 0 where
  constantly : (t : Token) (a : Word) (which : Constant) → IsWord a t → constant_of a ≡ Some which → ConstantSpells b (t.span.at, which) (mark b t ∷ [])

pub fill_constant : (b : ℕ) → Filled (ℕ × Constant) (ConstantSpells b)
fill_constant b = record { value = (0, c.Ok); marks = mark b (filler (k.Word w.Ok)) ∷ []; spells = constantly (filler (k.Word w.Ok)) w.Ok c.Ok refl refl }

unfoldable pub constant_part : ℕ → Part (ℕ × Constant)
constant_part b = record { read = constant_at; spells = ConstantSpells b; filled = fill_constant b }

constant_case : (b : ℕ) (t : Token) (a : Word) → IsWord a t → (o : Option Constant) → constant_of a ≡ o → (x : ℕ × Constant) → placed_constant t.span.at o ≡ Some x → ConstantSpells b x (mark b t ∷ [])
constant_case b t a q (Some which) o x h = subst (λ (x : ℕ × Constant). ConstantSpells b x (mark b t ∷ [])) (same_some h) (constantly t a which q o)
constant_case b t a q None o x h = absurd (no_some h)

constant_sound : (b : ℕ) (t : Token) (kind : Kind) → t.kind ≡ kind → (x : ℕ × Constant) → constant_kind t.span.at kind ≡ Some x → ConstantSpells b x (mark b t ∷ [])
constant_sound b t (k.Word a) q x h = constant_case b t a q (constant_of a) refl x h
constant_sound b t (k.Name n) q x h = absurd (no_some h)
constant_sound b t (k.Number n) q x h = absurd (no_some h)
constant_sound b t (k.Text n) q x h = absurd (no_some h)
constant_sound b t (k.Mark n) q x h = absurd (no_some h)

constant_complete : (b : ℕ) (x : ℕ × Constant) (ms : List Marked) → ConstantSpells b x ms → Picked b (ℕ × Constant) (λ t. constant_kind t.span.at t.kind) x ms
constant_complete b _ _ (constantly t a which q o) = record { token = t; is = refl; picks = rw (q, o) refl }

pub law_constant : (L b : ℕ) → b ≤ L → Law L (ℕ × Constant) (constant_part b) Any
unfolding constant_part
law_constant L b le = law_token L b le (λ t. constant_kind t.span.at t.kind) (ConstantSpells b) (fill_constant b) (λ t x h. constant_sound b t t.kind refl x h) (constant_complete b)

-- ---- unary operators

pub data UnarySpells (b : ℕ) : ℕ × UnaryOp → List Marked → Type 0 where
  unary_sign : (t : Token) (a : Mark) (op : UnaryOp) → IsMark a t → unary_of a ≡ Some op → UnarySpells b (t.span.at, op) (mark b t ∷ [])

pub fill_unary : (b : ℕ) → Filled (ℕ × UnaryOp) (UnarySpells b)
fill_unary b = record { value = (0, u.Neg); marks = mark b (filler (k.Mark m.Minus)) ∷ []; spells = unary_sign (filler (k.Mark m.Minus)) m.Minus u.Neg refl refl }

unfoldable pub unary_part : ℕ → Part (ℕ × UnaryOp)
unary_part b = record { read = unary_sign_at; spells = UnarySpells b; filled = fill_unary b }

unary_case : (b : ℕ) (t : Token) (a : Mark) → IsMark a t → (o : Option UnaryOp) → unary_of a ≡ o → (x : ℕ × UnaryOp) → placed_unary t.span.at o ≡ Some x → UnarySpells b x (mark b t ∷ [])
unary_case b t a q (Some op) o x h = subst (λ (x : ℕ × UnaryOp). UnarySpells b x (mark b t ∷ [])) (same_some h) (unary_sign t a op q o)
unary_case b t a q None o x h = absurd (no_some h)

unary_sound : (b : ℕ) (t : Token) (kind : Kind) → t.kind ≡ kind → (x : ℕ × UnaryOp) → unary_kind t.span.at kind ≡ Some x → UnarySpells b x (mark b t ∷ [])
unary_sound b t (k.Mark a) q x h = unary_case b t a q (unary_of a) refl x h
unary_sound b t (k.Name n) q x h = absurd (no_some h)
unary_sound b t (k.Number n) q x h = absurd (no_some h)
unary_sound b t (k.Text n) q x h = absurd (no_some h)
unary_sound b t (k.Word n) q x h = absurd (no_some h)

unary_complete : (b : ℕ) (x : ℕ × UnaryOp) (ms : List Marked) → UnarySpells b x ms → Picked b (ℕ × UnaryOp) (λ t. unary_kind t.span.at t.kind) x ms
unary_complete b _ _ (unary_sign t a op q o) = record { token = t; is = refl; picks = rw (q, o) refl }

pub law_unary_sign : (L b : ℕ) → b ≤ L → Law L (ℕ × UnaryOp) (unary_part b) Any
unfolding unary_part
law_unary_sign L b le = law_token L b le (λ t. unary_kind t.span.at t.kind) (UnarySpells b) (fill_unary b) (λ t x h. unary_sound b t t.kind refl x h) (unary_complete b)

-- ---- binary operators of a level that has one

pub data OperatorSpells (b level : ℕ) : BinaryOp → List Marked → Type 0 where
  operating : (t : Token) (a : Mark) (op : BinaryOp) → IsMark a t → operator_of a ≡ Some (level, op) → OperatorSpells b level op (mark b t ∷ [])

equal_self : (a : ℕ) → (a == a) ≡ true
equal_self a = grind (arith, nat_tests)

equal_is : (a b : ℕ) → (a == b) ≡ true → a ≡ b
equal_is a b h = grind (arith, nat_tests)

level_case : (level found : ℕ) (op x : BinaryOp) (i : Bool) → (found == level) ≡ i → (if i then Some op else None) ≡ Some x → (found ≡ level) × (op ≡ x)
level_case level found op x true q h = (equal_is found level q, same_some h)
level_case level found op x false q h = absurd (no_some h)

operator_case : (b level : ℕ) (t : Token) (a : Mark) → IsMark a t → (o : Option (ℕ × BinaryOp)) → operator_of a ≡ o → (x : BinaryOp) → at_level level o ≡ Some x
    → OperatorSpells b level x (mark b t ∷ [])
operator_case b level t a q (Some found) o x h =
    let p = level_case level found.0 found.1 x (found.0 == level) refl h in
    operating t a x q (o ∙ ap (λ (n : ℕ). Some (n, found.1)) p.0 ∙ ap (λ (op : BinaryOp). Some (level, op)) p.1)
operator_case b level t a q None o x h = absurd (no_some h)

operator_sound : (b level : ℕ) (t : Token) (kind : Kind) → t.kind ≡ kind → (x : BinaryOp) → operator_kind level kind ≡ Some x → OperatorSpells b level x (mark b t ∷ [])
operator_sound b level t (k.Mark a) q x h = operator_case b level t a q (operator_of a) refl x h
operator_sound b level t (k.Name n) q x h = absurd (no_some h)
operator_sound b level t (k.Number n) q x h = absurd (no_some h)
operator_sound b level t (k.Text n) q x h = absurd (no_some h)
operator_sound b level t (k.Word n) q x h = absurd (no_some h)

pub operator_kind_of : (level : ℕ) (t : Token) (a : Mark) (op : BinaryOp) → IsMark a t → operator_of a ≡ Some (level, op) → operator_kind level t.kind ≡ Some op
operator_kind_of level t a op q o = rw (q, o, equal_self level) refl

operator_complete : (b level : ℕ) (x : BinaryOp) (ms : List Marked) → OperatorSpells b level x ms → Picked b BinaryOp (λ t. operator_kind level t.kind) x ms
operator_complete b level _ _ (operating t a op q o) = record { token = t; is = refl; picks = operator_kind_of level t a op q o }

pub law_operator : (L b level : ℕ) → b ≤ L → (d : Filled BinaryOp (OperatorSpells b level)) → Law L BinaryOp (record { read = operator_at level; spells = OperatorSpells b level; filled = d }) Any
law_operator L b level le d = law_token L b le (λ t. operator_kind level t.kind) (OperatorSpells b level) d (λ t x h. operator_sound b level t t.kind refl x h) (operator_complete b level)

pub operator_by : (level : ℕ) → ByHead (has_operator level)
operator_by level = by_head (has_operator level) false (λ t. is_there (operator_kind level t.kind)) refl (λ t ts. refl)

by_mark : (depth level : ℕ) (a : Mark) (op : BinaryOp) → operator_of a ≡ Some (level, op) → Filled BinaryOp (OperatorSpells depth level)
by_mark depth level a op o = record { value = op; marks = mark depth (filler (k.Mark a)) ∷ []; spells = operating (filler (k.Mark a)) a op refl o }

-- each level has an operator
pub fill_operator : (depth level : ℕ) → 1 ≤ level → level ≤ 10 → Filled BinaryOp (OperatorSpells depth level)
fill_operator depth zero low high = absurd (omega arith)
fill_operator depth (suc zero) low high = by_mark depth 1 m.OrOr b.Or refl
fill_operator depth (suc (suc zero)) low high = by_mark depth 2 m.AndAnd b.And refl
fill_operator depth (suc (suc (suc zero))) low high = by_mark depth 3 m.Bar b.BitOr refl
fill_operator depth (suc (suc (suc (suc zero)))) low high = by_mark depth 4 m.Caret b.BitXor refl
fill_operator depth (suc (suc (suc (suc (suc zero))))) low high = by_mark depth 5 m.And b.BitAnd refl
fill_operator depth (suc (suc (suc (suc (suc (suc zero)))))) low high = by_mark depth 6 m.EqEq b.Eq refl
fill_operator depth (suc (suc (suc (suc (suc (suc (suc zero))))))) low high = by_mark depth 7 m.Less b.Less refl
fill_operator depth (suc (suc (suc (suc (suc (suc (suc (suc zero)))))))) low high = by_mark depth 8 m.Shl b.Shl refl
fill_operator depth (suc (suc (suc (suc (suc (suc (suc (suc (suc zero))))))))) low high = by_mark depth 9 m.Plus b.Add refl
fill_operator depth (suc (suc (suc (suc (suc (suc (suc (suc (suc (suc zero)))))))))) low high = by_mark depth 10 m.Star b.Mul refl
fill_operator depth (suc (suc (suc (suc (suc (suc (suc (suc (suc (suc (suc n))))))))))) low high = absurd (omega arith)
