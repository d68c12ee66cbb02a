-- Reading expressions from left to right.
use Rattle.std.specs.Prelude.{ℕ, ◌-◌, ◌+◌, zero, suc, Bool, true, false, ◌||◌, List, [], ◌∷◌, length, Option, Some, None, Ok, Err}
use Rattle.std.specs.Prelude.{if◌then◌else◌}
use Rattle.ac_tree.specs.declared.expr.Expr.{Expr, fold-Expr}
use Rattle.ac_tree.specs.declared.expr.Expr.TheOpen.{Expr-F}
use Rattle.ac_tree.specs.declared.expr.Expr.TheVariants as e
use Rattle.ac_tree.specs.declared.expr.Link.{Link}
use Rattle.ac_lexer.specs.declared.token.Word.{Word}
use Rattle.ac_lexer.specs.declared.token.Word.TheVariants as w
use Rattle.ac_lexer.specs.declared.token.Mark.{Mark}
use Rattle.ac_lexer.specs.declared.token.Mark.TheVariants as m
use Rattle.ac_lexer.specs.declared.token.Kind.{Kind}
use Rattle.ac_lexer.specs.declared.token.Kind.TheVariants as k
use Rattle.ac_lexer.specs.declared.token.Token.{Token}
use Rattle.ac_expressions.specs.declared.forms.Primary.{Primary}
use Rattle.ac_expressions.specs.declared.forms.Primary.TheVariants as p
use Rattle.ac_expressions.specs.declared.forms.Operation.{Operation}
use Rattle.ac_expressions.specs.declared.forms.Operation.TheVariants as o
use Rattle.ac_expressions.specs.declared.expressions.Transfer.{Transfer}
use Rattle.ac_expressions.specs.Spelling.{link, unary_of, constant_of}
use Rattle.reading_laws.specs.Readers.{Reads, halt, unexpected, ◌>>=◌, look, within, many_at}
use Rattle.reading_laws.specs.Letters.{sign, by_next, by_kind, starts_with, word_at, mark_at, name_at, number_at, has_name, deep_name_at}
use Rattle.ac_expressions.specs.Operators.{constant_at, unary_sign_at, operator_at, has_operator}

-- ---- what the next token begins

abbrev pub is_primary : Primary → Bool
is_primary p.Other = false
is_primary _ = true

abbrev pub if_there : {A : Type 0} → Option A → Primary → Primary
if_there (Some a) x = x
if_there None x = p.Other

abbrev pub primary_word : Word → Primary
primary_word w.Send = p.Operation
primary_word w.Recv = p.Operation
primary_word w.Read = p.Operation
primary_word w.Write = p.Operation
primary_word a = if_there (constant_of a) p.Constant

abbrev pub primary_mark : Mark → Primary
primary_mark m.OpenParen = p.Group
primary_mark a = if_there (unary_of a) p.Unary

abbrev pub primary_kind : Kind → Primary
primary_kind = by_kind p.Name p.Number p.Other primary_word primary_mark

abbrev pub primary_of : List Token → Primary
primary_of = by_next p.Other primary_kind

-- an expression can begin with the next token
abbrev pub begins_expr : List Token → Bool
begins_expr ts = is_primary (primary_of ts)

abbrev pub operation_word : Word → Operation
operation_word w.Send = o.Send
operation_word w.Recv = o.Recv
operation_word w.Read = o.Read
operation_word _ = o.Write

abbrev pub operation_kind : Kind → Operation
operation_kind (k.Word a) = operation_word a
operation_kind _ = o.Write

abbrev pub operation_of : List Token → Operation
operation_of = by_next o.Write operation_kind

-- ---- chains

-- the place of a layer, and of an expression
abbrev pub place_step : Expr-F ℕ (Unit {0}) → ℕ
place_step (Expr-F.Number at value) = at
place_step (Expr-F.Const at which) = at
place_step (Expr-F.Name at name) = at
place_step (Expr-F.Index at name index) = at
place_step (Expr-F.Group at inner) = at
place_step (Expr-F.Unary at op inner) = at
place_step (Expr-F.Chain at level first rest) = at
place_step (Expr-F.Call at name args) = at
place_step (Expr-F.Send at channel value) = at
place_step (Expr-F.Recv at channel place) = at
place_step (Expr-F.Read at file from len array) = at
place_step (Expr-F.Write at file from len array) = at

abbrev pub place_of : Expr → ℕ
place_of = fold-Expr ℕ (Unit {0}) place_step (λ l. tt)

-- a chain, or its first part alone
abbrev pub made : ℕ → Expr → List Link → Expr
made level first [] = first
made level first (l ∷ ls) = e.Chain (place_of first) level first (l ∷ ls)

abbrev pub link_at : ℕ → (List Token → Reads Expr) → List Token → Reads Link
link_at level operand ts = do
  op ← operator_at level ts
  x ← operand op.1
  Ok (link op.0 x.0, x.1)

abbrev pub links_at : ℕ → (List Token → Reads Expr) → List Token → Reads (List Link)
links_at level operand ts = many_at (has_operator level) (link_at level operand) (length ts) ts

abbrev pub chain_of : ℕ → (List Token → Reads Expr) → List Token → Reads Expr
chain_of level operand ts = do
  first ← operand ts
  rest ← links_at level operand first.1
  Ok (made level first.0 rest.0, rest.1)

-- so many levels below a unary expression
unfoldable pub chain_at : (List Token → Reads Expr) → ℕ → ℕ → List Token → Reads Expr
chain_at unary zero level ts = unary ts
chain_at unary (suc up) level ts = chain_of level (chain_at unary up (level + 1)) ts

-- an expression of a level, from a reader of unary ones
abbrev pub level_at : (List Token → Reads Expr) → ℕ → List Token → Reads Expr
level_at unary level = chain_at unary (11 - level) level

abbrev pub whole_at : (List Token → Reads Expr) → List Token → Reads Expr
whole_at unary = level_at unary 1

-- ---- primaries; the expression in them is one deeper, and the room is that one's

abbrev pub next_arg_at : (List Token → Reads Expr) → List Token → Reads Expr
next_arg_at expr ts = do
  comma ← mark_at m.Comma ts
  expr comma.1

abbrev pub more_args_at : (List Token → Reads Expr) → List Token → Reads (List Expr)
more_args_at expr ts = many_at (starts_with (sign m.Comma)) (next_arg_at expr) (length ts) ts

abbrev pub some_args_at : (List Token → Reads Expr) → List Token → Reads (List Expr)
some_args_at expr ts = do
  x ← expr ts
  xs ← more_args_at expr x.1
  Ok (x.0 ∷ xs.0, xs.1)

abbrev pub begins_args : List Token → Bool
begins_args ts = starts_with (sign m.CloseParen) ts || begins_expr ts

abbrev pub args_at : (List Token → Reads Expr) → List Token → Reads (List Expr)
args_at expr ts = if starts_with (sign m.CloseParen) ts then Ok ([], ts) else some_args_at expr ts

-- `args )`
abbrev pub closed_at : (List Token → Reads Expr) → List Token → Reads (List Expr)
closed_at expr ts = do
  args ← args_at expr ts
  right ← mark_at m.CloseParen args.1
  Ok (args.0, right.1)

abbrev pub deep_closed_at : (List Token → Reads Expr) → ℕ → List Token → Reads (List Expr)
deep_closed_at expr = within begins_args (λ room ts. closed_at expr ts)

-- what stands behind a name
abbrev pub call_at : (List Token → Reads Expr) → ℕ → ℕ → List ℕ → List Token → Reads Expr
call_at expr room at name ts = do
  left ← mark_at m.OpenParen ts
  args ← deep_closed_at expr room left.1
  Ok (e.Call at name args.0, args.1)

abbrev pub index_at : (List Token → Reads Expr) → ℕ → List ℕ → List Token → Reads Expr
index_at expr at name ts = do
  left ← mark_at m.OpenBracket ts
  x ← expr left.1
  right ← mark_at m.CloseBracket x.1
  Ok (e.Index at name x.0, right.1)

abbrev pub named_place_at : (List Token → Reads Expr) → ℕ → List ℕ → List Token → Reads Expr
named_place_at expr at name ts = if starts_with (sign m.OpenBracket) ts then index_at expr at name ts else Ok (e.Name at name, ts)

abbrev pub place_at : (List Token → Reads Expr) → List Token → Reads Expr
place_at expr ts = do
  name ← name_at ts
  named_place_at expr name.0.0 name.0.1 name.1

abbrev pub named_at : (List Token → Reads Expr) → ℕ → List Token → Reads Expr
named_at expr room ts = do
  name ← name_at ts
  if starts_with (sign m.OpenParen) name.1 then call_at expr room name.0.0 name.0.1 name.1 else named_place_at expr name.0.0 name.0.1 name.1

abbrev pub group_at : (List Token → Reads Expr) → List Token → Reads Expr
group_at expr ts = do
  left ← mark_at m.OpenParen ts
  x ← expr left.1
  right ← mark_at m.CloseParen x.1
  Ok (e.Group left.0 x.0, right.1)

-- the operand of a unary operator is one deeper too
abbrev pub signed_at : (List Token → Reads Expr) → List Token → Reads Expr
signed_at unary ts = do
  op ← unary_sign_at ts
  x ← unary op.1
  Ok (e.Unary op.0.0 op.0.1 x.0, x.1)

abbrev pub number_expr_at : List Token → Reads Expr
number_expr_at ts = do
  n ← number_at ts
  Ok (e.Number n.0.0 n.0.1, n.1)

abbrev pub constant_expr_at : List Token → Reads Expr
constant_expr_at ts = do
  which ← constant_at ts
  Ok (e.Const which.0.0 which.0.1, which.1)

-- ---- operations

abbrev pub send_at : (List Token → Reads Expr) → ℕ → List Token → Reads Expr
send_at expr room ts = do
  head ← word_at w.Send ts
  left ← mark_at m.OpenParen head.1
  channel ← deep_name_at room left.1
  comma ← mark_at m.Comma channel.1
  x ← expr comma.1
  right ← mark_at m.CloseParen x.1
  Ok (e.Send head.0 channel.0.1 x.0, right.1)

-- `NAME , & place )`, whose first token may be too deep; an index of the place is one deeper than it
abbrev pub recv_rest_at : (List Token → Reads Expr) → ℕ → List Token → Reads Expr
recv_rest_at deeper at ts = do
  channel ← name_at ts
  comma ← mark_at m.Comma channel.1
  reference ← mark_at m.And comma.1
  x ← place_at deeper reference.1
  right ← mark_at m.CloseParen x.1
  Ok (e.Recv at channel.0.1 x.0, right.1)

abbrev pub deep_recv_at : (List Token → Reads Expr) → ℕ → ℕ → List Token → Reads Expr
deep_recv_at deeper at = within has_name (λ room ts. recv_rest_at deeper at ts)

abbrev pub recv_at : (List Token → Reads Expr) → ℕ → List Token → Reads Expr
recv_at deeper room ts = do
  head ← word_at w.Recv ts
  left ← mark_at m.OpenParen head.1
  deep_recv_at deeper head.0 room left.1

-- `expr , expr ,`
abbrev pub range_at : (List Token → Reads Expr) → List Token → Reads (Expr × Expr)
range_at expr ts = do
  from ← expr ts
  second ← mark_at m.Comma from.1
  len ← expr second.1
  third ← mark_at m.Comma len.1
  Ok ((from.0, len.0), third.1)

abbrev pub transfer_of : List ℕ → Expr → Expr → List ℕ → Transfer
transfer_of file from len array = record { file = file; from = from; len = len; array = array }

-- `( NAME , expr , expr , NAME )`
abbrev pub transfer_at : (List Token → Reads Expr) → ℕ → List Token → Reads Transfer
transfer_at expr room ts = do
  left ← mark_at m.OpenParen ts
  file ← deep_name_at room left.1
  comma ← mark_at m.Comma file.1
  range ← range_at expr comma.1
  array ← name_at range.1
  right ← mark_at m.CloseParen array.1
  Ok (transfer_of file.0.1 range.0.0 range.0.1 array.0.1, right.1)

abbrev pub read_at : (List Token → Reads Expr) → ℕ → List Token → Reads Expr
read_at expr room ts = do
  head ← word_at w.Read ts
  x ← transfer_at expr room head.1
  Ok (e.Read head.0 x.0.file x.0.from x.0.len x.0.array, x.1)

abbrev pub write_at : (List Token → Reads Expr) → ℕ → List Token → Reads Expr
write_at expr room ts = do
  head ← word_at w.Write ts
  x ← transfer_at expr room head.1
  Ok (e.Write head.0 x.0.file x.0.from x.0.len x.0.array, x.1)

-- deeper reads an expression that is one deeper than those of expr
abbrev pub operation_by : (List Token → Reads Expr) → (List Token → Reads Expr) → ℕ → Operation → List Token → Reads Expr
operation_by expr deeper room o.Send ts = send_at expr room ts
operation_by expr deeper room o.Recv ts = recv_at deeper room ts
operation_by expr deeper room o.Read ts = read_at expr room ts
operation_by expr deeper room o.Write ts = write_at expr room ts

abbrev pub operation_at : (List Token → Reads Expr) → (List Token → Reads Expr) → ℕ → List Token → Reads Expr
operation_at expr deeper room ts = operation_by expr deeper room (operation_of ts) ts

-- ---- unary expressions

abbrev pub primary_by : (List Token → Reads Expr) → (List Token → Reads Expr) → ℕ → Primary → List Token → Reads Expr
primary_by unary deeper room p.Name ts = named_at (whole_at unary) room ts
primary_by unary deeper room p.Number ts = number_expr_at ts
primary_by unary deeper room p.Constant ts = constant_expr_at ts
primary_by unary deeper room p.Operation ts = operation_at (whole_at unary) (whole_at deeper) room ts
primary_by unary deeper room p.Group ts = group_at (whole_at unary) ts
primary_by unary deeper room p.Unary ts = signed_at unary ts
primary_by unary deeper room p.Other ts = Err (halt unexpected ts)

-- a unary expression or a primary; the room is how many more depths its tokens may have, the own one included
unfoldable pub unary_at : ℕ → List Token → Reads Expr
unary_at zero ts = look (begins_expr ts) ts
unary_at (suc zero) ts = primary_by (unary_at zero) (unary_at zero) zero (primary_of ts) ts
unary_at (suc (suc room)) ts = primary_by (unary_at (suc room)) (unary_at room) (suc room) (primary_of ts) ts

abbrev pub expr_at : ℕ → List Token → Reads Expr
expr_at room = whole_at (unary_at room)
