-- The laws of operations by their first word, of primaries and of unary expressions, and so of all expressions (`whole_law`).
-- By induction on the room: at 0 the next token is too deep; else the first token selects the primary (`law_select`), and what stands inside has
-- the law of one room less, or of two less for an index in `Recv`.
use Rattle.std.proofs.Common.{◌≡◌, ℕ, zero, suc, ◌-◌, ◌+◌, Bool, true, List, [], ◌∷◌, ◌++◌, Result, Ok, Err, refl, sym, ap, ◌∙◌, subst, arith}
use Rattle.std.specs.Prelude.{if◌then◌else◌}
use Rattle.ac_tree.specs.declared.expr.Expr.{Expr}
use Rattle.ac_tree.specs.declared.expr.Expr.TheVariants as e
use Rattle.ac_lexer.specs.declared.token.Word.TheVariants as w
use Rattle.ac_lexer.specs.declared.token.Mark.TheVariants as m
use Rattle.ac_lexer.specs.declared.token.Kind.TheVariants as k
use Rattle.ac_lexer.specs.declared.token.Token.{Token}
use Rattle.ac_expressions.specs.declared.forms.Primary.{Primary}
use Rattle.ac_expressions.specs.declared.forms.Primary.TheVariants as p
use Rattle.ac_expressions.specs.declared.forms.Operation.{Operation}
use Rattle.ac_expressions.specs.declared.forms.Operation.TheVariants as o
use Rattle.ac_expressions.specs.declared.expressions.Transfer.{Transfer}
use Rattle.reading_laws.specs.Marks.{Marked, mark, tokens}
use Rattle.ac_expressions.specs.Spelling.{ExprSpells, number, constant, place, call, group, unary, alone, chain, CallSpells, function_call, send, recv, read, write}
use Rattle.reading_laws.specs.Readers.{Reads, Fault, halt, unexpected, ◌>>=◌, look}
use Rattle.reading_laws.specs.Letters.{sign, word_at, mark_at, name_at, deep_name_at}
use Rattle.ac_expressions.specs.Reads.{primary_of, is_primary, begins_expr, operation_kind, operation_of, range_at, transfer_of, transfer_at, read_at, write_at, operation_by, operation_at, primary_by}
use Rattle.ac_expressions.specs.Reads.{unary_at, expr_at}
use Rattle.reading_laws.proofs.Heads.{ByHead, by_head}
use Rattle.reading_laws.proofs.Halts.{bind_ext}
use Rattle.reading_laws.proofs.Parts.{Part, Law, Any, seq, made, Either_of, first, second, chosen, law_same, law_before, law_then, law_made, law_select, law_look, bind, made_of, either, ret, select}
use Rattle.reading_laws.proofs.Letters.{signed, sign_part, law_sign, named, name_part, numbered, number_part, law_number}
use Rattle.ac_expressions.proofs.Operators.{constantly, constant_part, law_constant, unary_sign, unary_part, law_unary_sign}
use Rattle.ac_expressions.proofs.ExpressionHeads.{Ends, constant_form, unary_form, begins_by, primary_by_head, at_most}
use Rattle.ac_expressions.proofs.ChainLaws.{fill_up, unary_named, expr_named, expr_law}
use Rattle.reading_laws.proofs.Openings.{by_last, last_is}
use Rattle.ac_expressions.proofs.Openings.{law_expr_made, unary_opens, expr_first}
use Rattle.ac_expressions.proofs.CallLaws.{call_part, place_part, named_place, named_part, named_law, is_named_place, place_is, is_call, call_is}
use Rattle.ac_expressions.proofs.PrimaryLaws.{send_part, recv_part, file_part, read_part, write_part, is_send, is_recv, is_read, is_write, send_is, recv_is, file_is, send_law, recv_law, read_law}
use Rattle.ac_expressions.proofs.PrimaryLaws.{write_law}

-- ---- operations

abbrev pub form_part : ℕ → ℕ → Operation → Part Expr
form_part depth room o.Send = send_part depth room
form_part depth room o.Recv = recv_part depth room
form_part depth room o.Read = read_part depth room
form_part depth room o.Write = write_part depth room

abbrev always : Operation → Bool
always form = true

abbrev pub operation_part : ℕ → ℕ → Part Expr
operation_part depth room = select operation_of always (form_part depth room) o.Send refl

operation_by_head : ByHead operation_of
operation_by_head = by_head operation_of o.Write (λ t. operation_kind t.kind) refl (λ t ts. refl)

-- what comes after a reading goes into it
bind_in : {A B C : Type 0} (r : Result A Fault) (f : A → Result B Fault) (g : B → Result C Fault) (h : A → Result C Fault) → ((x : A) → (f x >>= g) ≡ h x) → ((r >>= f) >>= g) ≡ (r >>= h)
bind_in (Ok x) f g h q = q x
bind_in (Err e) f g h q = refl

abbrev with_transfer : (List ℕ → Expr → Expr → List ℕ → Expr) → Transfer × List Token → Reads Expr
with_transfer whole x = Ok (whole x.0.file x.0.from x.0.len x.0.array, x.1)

-- behind the two expressions
abbrev transfer_end : List ℕ → (Expr × Expr) × List Token → Reads Transfer
transfer_end file r = name_at r.1 >>= λ array. mark_at m.CloseParen array.1 >>= λ z. Ok (transfer_of file r.0.0 r.0.1 array.0.1, z.1)

abbrev whole_end : (List ℕ → Expr → Expr → List ℕ → Expr) → List ℕ → (Expr × Expr) × List Token → Reads Expr
whole_end whole file r = name_at r.1 >>= λ array. mark_at m.CloseParen array.1 >>= λ z. Ok (whole file r.0.0 r.0.1 array.0.1, z.1)

end_same : (whole : List ℕ → Expr → Expr → List ℕ → Expr) (file : List ℕ) (r : (Expr × Expr) × List Token) → (transfer_end file r >>= with_transfer whole) ≡ whole_end whole file r
end_same whole file r = bind_in (name_at r.1) _ (with_transfer whole) _ (λ array. bind_in (mark_at m.CloseParen array.1) _ (with_transfer whole) _ (λ z. refl))

range_same : (expr : List Token → Reads Expr) (k : (Expr × Expr) × List Token → Reads Expr) (a : List Token)
    → (range_at expr a >>= k) ≡ (expr a >>= λ from. mark_at m.Comma from.1 >>= λ second. expr second.1 >>= λ len. mark_at m.Comma len.1 >>= λ third. k ((from.0, len.0), third.1))
range_same expr k a = bind_in (expr a) _ k _ (λ from. bind_in (mark_at m.Comma from.1) _ k _ (λ second. bind_in (expr second.1) _ k _ (λ len. bind_in (mark_at m.Comma len.1) _ k _ (λ third. refl))))

file_same : (depth room : ℕ) (whole : List ℕ → Expr → Expr → List ℕ → Expr) (a : List Token) → (transfer_at (expr_at room) room a >>= with_transfer whole) ≡ (file_part depth room whole).read a
unfolding bind made_of sign_part name_part
file_same depth room whole a =
    bind_in (mark_at m.OpenParen a) _ (with_transfer whole) _ (λ left. bind_in (deep_name_at room left.1) _ (with_transfer whole) _ (λ file. bind_in (mark_at m.Comma file.1) _ (with_transfer whole) _
    (λ comma. bind_in (range_at (expr_at room) comma.1) (transfer_end file.0.1) (with_transfer whole) (whole_end whole file.0.1) (end_same whole file.0.1)
    ∙ range_same (expr_at room) (whole_end whole file.0.1) comma.1)))

read_same : (depth room : ℕ) (a : List Token) → read_at (expr_at room) room a ≡ (read_part depth room).read a
unfolding bind sign_part
read_same depth room a = bind_ext (word_at w.Read a) _ _ (λ head. file_same depth room (e.Read head.0) head.1)

write_same : (depth room : ℕ) (a : List Token) → write_at (expr_at room) room a ≡ (write_part depth room).read a
unfolding bind sign_part
write_same depth room a = bind_ext (word_at w.Write a) _ _ (λ head. file_same depth room (e.Write head.0) head.1)

form_reads : (depth room : ℕ) (form : Operation) (a : List Token) → operation_by (expr_at room) (expr_at (room - 1)) room form a ≡ (form_part depth room form).read a
unfolding bind made_of sign_part name_part
form_reads depth room o.Send a = refl
form_reads depth room o.Recv a = refl
form_reads depth room o.Read a = read_same depth room a
form_reads depth room o.Write a = write_same depth room a

pub operation_reads : (depth room : ℕ) (a : List Token) → operation_at (expr_at room) (expr_at (room - 1)) room a ≡ (operation_part depth room).read a
unfolding select
operation_reads depth room a = form_reads depth room (operation_of a) a

form_is : (depth room : ℕ) (form : Operation) (x : Expr) (ms : List Marked) → (form_part depth room form).spells x ms → CallSpells depth x ms
form_is depth room o.Send x ms s = is_send depth room x ms s
form_is depth room o.Recv x ms s = is_recv depth room x ms s
form_is depth room o.Read x ms s = is_read depth room x ms s
form_is depth room o.Write x ms s = is_write depth room x ms s

pub is_operation : (depth room : ℕ) (x : Expr) (ms : List Marked) → (operation_part depth room).spells x ms → CallSpells depth x ms
unfolding select
is_operation depth room _ _ (chosen form x ms q s) = form_is depth room form x ms s

-- a call is one of a function, or an operation
pub data CallOf (depth room : ℕ) : Expr → List Marked → Type 0 where
  of_function : (t l r : Token) (name : List ℕ) (xs : List Expr) (a : List Marked) → t.kind ≡ k.Name name
      → (call_part depth room t.span.at name).spells (e.Call t.span.at name xs) (mark depth l ∷ (a ++ mark (suc depth) r ∷ []))
      → CallOf depth room (e.Call t.span.at name xs) (mark depth t ∷ mark depth l ∷ (a ++ mark (suc depth) r ∷ []))
  of_operation : (x : Expr) (ms : List Marked) → (operation_part depth room).spells x ms → CallOf depth room x ms

pub call_of : (depth room : ℕ) (x : Expr) (ms : List Marked) → CallSpells depth x ms → CallOf depth room x ms
unfolding bind sign_part select
call_of depth room _ _ (function_call _ t l r name xs a q i g j) = of_function t l r name xs a q (call_is depth room t l r name xs a i g j)
call_of depth room _ _ (send _ t l n c r name x a q i v f g j) = of_operation _ _ (chosen o.Send _ _ refl (send_is depth room t l n c r name x a q i v f g j))
call_of depth room _ _ (recv _ t l n c u r name x a q i v f z g j) = of_operation _ _ (chosen o.Recv _ _ refl (recv_is depth room t l n c u r name x a q i v f z g j))
call_of depth room _ _ (read _ t l n c s u h r name array from len a b q i v f g z y d x j) =
    of_operation _ _ (chosen o.Read _ _ refl (seq t.span.at _ _ _ (signed t q) (file_is depth room (e.Read t.span.at) l n c s u h r name array from len a b i v f g z y d x j)))
call_of depth room _ _ (write _ t l n c s u h r name array from len a b q i v f g z y d x j) =
    of_operation _ _ (chosen o.Write _ _ refl (seq t.span.at _ _ _ (signed t q) (file_is depth room (e.Write t.span.at) l n c s u h r name array from len a b i v f g z y d x j)))

form_begins : (depth room : ℕ) (form : Operation) (x : Expr) (ms : List Marked) (rest : List Token) → (form_part depth room form).spells x ms → operation_of (tokens ms ++ rest) ≡ form
unfolding bind sign_part
form_begins depth room o.Send _ _ rest (seq _ _ _ c (signed t q) s) = rw q refl
form_begins depth room o.Recv _ _ rest (seq _ _ _ c (signed t q) s) = rw q refl
form_begins depth room o.Read _ _ rest (seq _ _ _ c (signed t q) s) = rw q refl
form_begins depth room o.Write _ _ rest (seq _ _ _ c (signed t q) s) = rw q refl

form_primary : (depth room : ℕ) (form : Operation) (x : Expr) (ms : List Marked) (rest : List Token) → (form_part depth room form).spells x ms → primary_of (tokens ms ++ rest) ≡ p.Operation
unfolding bind sign_part
form_primary depth room o.Send _ _ rest (seq _ _ _ c (signed t q) s) = rw q refl
form_primary depth room o.Recv _ _ rest (seq _ _ _ c (signed t q) s) = rw q refl
form_primary depth room o.Read _ _ rest (seq _ _ _ c (signed t q) s) = rw q refl
form_primary depth room o.Write _ _ rest (seq _ _ _ c (signed t q) s) = rw q refl

operation_primary : (depth room : ℕ) (x : Expr) (ms : List Marked) (rest : List Token) → (operation_part depth room).spells x ms → primary_of (tokens ms ++ rest) ≡ p.Operation
unfolding select
operation_primary depth room _ _ rest (chosen form x ms q s) = form_primary depth room form x ms rest s

module _ (L depth room : ℕ) (now : depth + suc room ≡ suc L) (el : Law L Expr (expr_named (suc depth) room) (Ends 1))
    (dl : (inner : ℕ) → room ≡ suc inner → Law L Expr (expr_named (suc (suc depth)) inner) (Ends 1)) where
  form_law : (form : Operation) → Law L Expr (form_part depth room form) Any
  form_law o.Send = send_law L depth room now el dl
  form_law o.Recv = recv_law L depth room now el dl
  form_law o.Read = read_law L depth room now el dl
  form_law o.Write = write_law L depth room now el dl

  pub operation_law : Law L Expr (operation_part depth room) Any
  operation_law = law_select operation_of always (form_part depth room) o.Send refl operation_by_head (λ form q. form_law form) (λ form x ms rest q s h. form_begins depth room form x ms rest s)

-- ---- primaries, and unary operators

abbrev pub group_part : ℕ → ℕ → Part Expr
group_part depth room = bind (sign_part depth (sign m.OpenParen)) (λ at. bind (expr_named (suc depth) room) (λ x. made_of (sign_part (suc depth) (sign m.CloseParen)) (λ _. e.Group at x)))

abbrev pub signed_part : ℕ → ℕ → Part Expr
signed_part depth room = bind (unary_part depth) (λ op. made_of (unary_named (suc depth) room) (λ x. e.Unary op.0 op.1 x))

abbrev pub kind_part : ℕ → ℕ → Primary → Part Expr
kind_part depth room p.Name = named_part depth room
kind_part depth room p.Number = made_of (number_part depth) (λ n. e.Number n.0 n.1)
kind_part depth room p.Constant = made_of (constant_part depth) (λ n. e.Const n.0 n.1)
kind_part depth room p.Operation = operation_part depth room
kind_part depth room p.Group = group_part depth room
kind_part depth room p.Unary = signed_part depth room
kind_part depth room p.Other = group_part depth room

abbrev pub primary_part : ℕ → ℕ → Part Expr
primary_part depth room = select primary_of is_primary (kind_part depth room) p.Number refl

kind_reads : (depth room deeper : ℕ) → room - 1 ≡ deeper → (form : Primary) (a : List Token)
    → primary_by (unary_at room) (unary_at deeper) room form a ≡ (if is_primary form then (kind_part depth room form).read a else Err (halt unexpected a))
unfolding bind made_of either ret select sign_part name_part number_part constant_part unary_part
kind_reads depth room deeper q p.Name a = refl
kind_reads depth room deeper q p.Number a = refl
kind_reads depth room deeper q p.Constant a = refl
kind_reads depth room deeper q p.Operation a = ap (λ (n : ℕ). operation_at (expr_at room) (expr_at n) room a) (sym q) ∙ operation_reads depth room a
kind_reads depth room deeper q p.Group a = refl
kind_reads depth room deeper q p.Unary a = refl
kind_reads depth room deeper q p.Other a = refl

primary_reads : (depth room deeper : ℕ) → room - 1 ≡ deeper → (a : List Token) → primary_by (unary_at room) (unary_at deeper) room (primary_of a) a ≡ (primary_part depth room).read a
unfolding select
primary_reads depth room deeper q a = kind_reads depth room deeper q (primary_of a) a

unary_reads : (depth room : ℕ) (a : List Token) → unary_at (suc room) a ≡ (primary_part depth room).read a
unfolding unary_at
unary_reads depth zero a = primary_reads depth zero zero refl a
unary_reads depth (suc room) a = primary_reads depth (suc room) room (omega arith) a

is_named : (depth room : ℕ) (x : Expr) (ms : List Marked) → (named_part depth room).spells x ms → ExprSpells depth 11 x ms
unfolding bind either name_part
is_named depth room _ _ (seq _ x _ a (named t name q) s) = named_case depth room t name q x a s
  where
    named_case : (depth room : ℕ) (t : Token) (name : List ℕ) → t.kind ≡ k.Name name → (x : Expr) (a : List Marked)
        → Either_of Expr (call_part depth room t.span.at name).spells (named_place depth room t.span.at name).spells x a → ExprSpells depth 11 x (mark depth t ∷ a)
    named_case depth room t name q _ _ (first x a s) = call depth x (mark depth t ∷ a) (is_call depth room t name q x a s)
    named_case depth room t name q _ _ (second x a s) = place depth x (mark depth t ∷ a) (is_named_place depth room t name q x a s)

is_group : (depth room : ℕ) (x : Expr) (ms : List Marked) → (group_part depth room).spells x ms → ExprSpells depth 11 x ms
unfolding bind sign_part
is_group depth room _ _ (seq _ _ _ _ (signed l i) (seq x y a c g s)) =
    by_last (λ y c. ExprSpells depth 11 y (mark depth l ∷ (a ++ c))) (suc depth) (sign m.CloseParen) (e.Group l.span.at x) y c s (λ r j. group depth l r x a i g j)

kind_is : (depth room : ℕ) (form : Primary) (x : Expr) (ms : List Marked) → (kind_part depth room form).spells x ms → ExprSpells depth 11 x ms
unfolding bind made_of number_part constant_part unary_part
kind_is depth room p.Name x ms s = is_named depth room x ms s
kind_is depth room p.Number _ _ (made _ _ (numbered t n q)) = number depth n t q
kind_is depth room p.Constant _ _ (made _ _ (constantly t a which q o)) = constant depth a which t q o
kind_is depth room p.Operation x ms s = call depth x ms (is_operation depth room x ms s)
kind_is depth room p.Group x ms s = is_group depth room x ms s
kind_is depth room p.Unary _ _ (seq _ _ _ _ (unary_sign t a op q o) (made x ms g)) = unary depth t a op x ms q o g
kind_is depth room p.Other x ms s = is_group depth room x ms s

is_primary_expr : (depth room : ℕ) (x : Expr) (ms : List Marked) → (primary_part depth room).spells x ms → ExprSpells depth 11 x ms
unfolding select
is_primary_expr depth room _ _ (chosen form x ms q s) = kind_is depth room form x ms s

by_call_of : (depth room : ℕ) (x : Expr) (ms : List Marked) → CallOf depth room x ms → (primary_part depth room).spells x ms
unfolding select bind either name_part
by_call_of depth room _ _ (of_function t l r name xs a q s) =
    chosen p.Name _ _ refl (seq (t.span.at, name) _ (mark depth t ∷ []) (mark depth l ∷ (a ++ mark (suc depth) r ∷ [])) (named t name q) (first _ _ s))
by_call_of depth room _ _ (of_operation x ms s) = chosen p.Operation x ms refl s

by_place : (depth room : ℕ) (x : Expr) (ms : List Marked) → (place_part depth room).spells x ms → (primary_part depth room).spells x ms
unfolding select bind either name_part
by_place depth room _ _ (seq n x a c g s) = chosen p.Name x (a ++ c) refl (seq n x a c g (second x c s))

expr_is_primary : (depth room level : ℕ) (x : Expr) (ms : List Marked) → ExprSpells depth level x ms → level ≡ 11 → (primary_part depth room).spells x ms
unfolding select bind made_of sign_part number_part constant_part unary_part
expr_is_primary depth room _ _ _ (number _ n t q) l = chosen p.Number _ _ refl (made (t.span.at, n) (mark depth t ∷ []) (numbered t n q))
expr_is_primary depth room _ _ _ (constant _ a which t q o) l = chosen p.Constant _ _ refl (made (t.span.at, which) (mark depth t ∷ []) (constantly t a which q o))
expr_is_primary depth room _ _ _ (place _ x ms g) l = by_place depth room x ms (place_is depth room x ms g)
expr_is_primary depth room _ _ _ (call _ x ms g) l = by_call_of depth room x ms (call_of depth room x ms g)
expr_is_primary depth room _ _ _ (group _ left r x ms q g j) l = chosen p.Group _ _ refl
    (seq left.span.at _ _ _ (signed left q) (seq x _ ms _ g (last_is (suc depth) (sign m.CloseParen) (e.Group left.span.at x) r j)))
expr_is_primary depth room _ _ _ (unary _ t a op x ms q o g) l = chosen p.Unary _ _ refl (seq (t.span.at, op) _ (mark depth t ∷ []) ms (unary_sign t a op q o) (made x ms g))
expr_is_primary depth room _ _ _ (alone _ level x ms g) l = absurd (omega (arith, at_most depth (level + 1) x ms g, l))
expr_is_primary depth room _ _ _ (chain _ level x b ls head ms ns g d) l = absurd (omega (arith, at_most depth (level + 1) x (mark depth head ∷ ms) g, l))

kind_begins : (depth room : ℕ) (form : Primary) (x : Expr) (ms : List Marked) (rest : List Token) → is_primary form ≡ true → (kind_part depth room form).spells x ms
    → primary_of (tokens ms ++ rest) ≡ form
unfolding bind made_of sign_part name_part number_part constant_part unary_part
kind_begins depth room p.Name _ _ rest z (seq _ _ _ c (named t name q) s) = rw q refl
kind_begins depth room p.Number _ _ rest z (made _ _ (numbered t n q)) = rw q refl
kind_begins depth room p.Constant _ _ rest z (made _ _ (constantly t a which q o)) = rw q (constant_form a which o)
kind_begins depth room p.Operation x ms rest z s = operation_primary depth room x ms rest s
kind_begins depth room p.Group _ _ rest z (seq _ _ _ c (signed t q) s) = rw q refl
kind_begins depth room p.Unary _ _ rest z (seq _ _ _ c (unary_sign t a op q o) s) = rw q (unary_form a op o)
kind_begins depth room p.Other x ms rest z s = cc

module _ (L depth room : ℕ) (now : depth + suc room ≡ suc L) (ul : Law L Expr (unary_named (suc depth) room) (Ends 11))
    (dl : (inner : ℕ) → room ≡ suc inner → Law L Expr (expr_named (suc (suc depth)) inner) (Ends 1)) where
  inner_law : Law L Expr (expr_named (suc depth) room) (Ends 1)
  inner_law = expr_law L (suc depth) room (omega (arith, now)) ul

  group_law : Law L Expr (group_part depth room) Any
  group_law = law_then (law_sign L depth (omega (arith, now)) (sign m.OpenParen))
      (λ at. law_expr_made L (suc depth) room (omega (arith, now)) inner_law (suc depth) (sign m.CloseParen) refl (λ x _. e.Group at x)
      (λ x le. law_made (λ _. e.Group at x) Any (law_sign L (suc depth) le (sign m.CloseParen)) (λ x rest h. tt)))

  kind_law : (form : Primary) → Law L Expr (kind_part depth room form) (Ends 11)
  kind_law p.Name = law_before (named_law L depth room now inner_law) (λ x rest h. omega (arith, h))
  kind_law p.Number = law_made (λ n. e.Number n.0 n.1) (Ends 11) (law_number L depth (omega (arith, now))) (λ x rest h. tt)
  kind_law p.Constant = law_made (λ n. e.Const n.0 n.1) (Ends 11) (law_constant L depth (omega (arith, now))) (λ x rest h. tt)
  kind_law p.Operation = law_before (operation_law L depth room now inner_law dl) (λ x rest h. tt)
  kind_law p.Group = law_before group_law (λ x rest h. tt)
  kind_law p.Unary = law_then (law_unary_sign L depth (omega (arith, now))) (λ op. law_made (λ x. e.Unary op.0 op.1 x) (Ends 11) ul (λ x rest h. h))
  kind_law p.Other = law_before group_law (λ x rest h. tt)

  primary_law : Law L Expr (unary_named depth (suc room)) (Ends 11)
  primary_law = law_same (primary_part depth room) (unary_named depth (suc room)) (unary_reads depth room) (is_primary_expr depth room) (λ x ms g. expr_is_primary depth room 11 x ms g refl)
      (law_select primary_of is_primary (kind_part depth room) p.Number refl primary_by_head (λ form q. kind_law form) (λ form x ms rest q s h. kind_begins depth room form x ms rest q s))

zero_reads : (a : List Token) → unary_at zero a ≡ look (begins_expr a) a
unfolding unary_at
zero_reads a = refl

pub unary_law : (L room depth : ℕ) → depth + room ≡ suc L → Law L Expr (unary_named depth room) (Ends 11)
unary_law L zero depth now =
    law_same (record { read = λ a. look (begins_expr a) a; spells = ExprSpells depth 11; filled = fill_up depth 0 11 refl }) (unary_named depth zero) zero_reads (λ x ms g. g) (λ x ms g. g)
    (law_look L depth begins_expr (ExprSpells depth 11) (fill_up depth 0 11 refl) (omega (arith, now)) refl begins_by (unary_opens depth) (expr_first depth 11))
unary_law L (suc zero) depth now = primary_law L depth zero now (unary_law L zero (suc depth) (omega (arith, now))) (λ inner q. absurd (omega (arith, q)))
unary_law L (suc (suc room)) depth now =
    primary_law L depth (suc room) now (unary_law L (suc room) (suc depth) (omega (arith, now)))
    (λ inner q. let z : room ≡ inner = omega (arith, q) in
    subst (λ (n : ℕ). Law L Expr (expr_named (suc (suc depth)) n) (Ends 1)) z (expr_law L (suc (suc depth)) room (omega (arith, now)) (unary_law L room (suc (suc depth)) (omega (arith, now)))))

-- the law of expressions
pub whole_law : (L depth room : ℕ) → depth + room ≡ suc L → Law L Expr (expr_named depth room) (Ends 1)
whole_law L depth room now = expr_law L depth room now (unary_law L room depth now)
