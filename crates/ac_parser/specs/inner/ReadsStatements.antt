-- Reading statements from left to right.
use Rattle.std.specs.Prelude.{ℕ, ◌-◌, zero, suc, Bool, true, false, ◌||◌, List, length, Option, Some, None, Ok, Err, if◌then◌else◌}
use Rattle.ac_tree.specs.declared.expr.Expr.{Expr}
use Rattle.ac_tree.specs.declared.stmt.Stmt.{Stmt}
use Rattle.ac_tree.specs.declared.stmt.Stmt.TheVariants as s
use Rattle.ac_lexer.specs.declared.token.Word.{Word}
use Rattle.ac_lexer.specs.declared.token.Word.TheVariants as w
use Rattle.ac_lexer.specs.declared.token.Mark.{Mark}
use Rattle.ac_lexer.specs.declared.token.Mark.TheVariants as m
use Rattle.ac_lexer.specs.declared.token.Kind.{Kind}
use Rattle.ac_lexer.specs.declared.token.Token.{Token}
use Rattle.ac_parser.specs.declared.forms.Opening.{Opening}
use Rattle.ac_parser.specs.declared.forms.Opening.TheVariants as f
use Rattle.ac_parser.specs.declared.forms.ForBegins.{ForBegins}
use Rattle.ac_parser.specs.declared.forms.ForBegins.TheVariants as b
use Rattle.ac_parser.specs.declared.statements.ForHead.{ForHead}
use Rattle.reading_laws.specs.Readers.{Reads, halt, unexpected, ◌>>=◌, look, within, many_at}
use Rattle.reading_laws.specs.Letters.{word, sign, by_next, by_kind, starts_with, word_at, mark_at, name_at, has_name, has_other}
use Rattle.reading_laws.specs.inner.Tokens.{deep_number_at, deep_text_at}
use Rattle.ac_expressions.specs.Reads.{place_of, begins_expr, more_args_at, call_at, named_place_at, operation_at, expr_at}

-- ---- what the next token begins

abbrev pub opening_word : Word → Opening
opening_word w.Send = f.Operation
opening_word w.Recv = f.Operation
opening_word w.Read = f.Operation
opening_word w.Write = f.Operation
opening_word w.Printf = f.Print
opening_word w.If = f.If
opening_word w.While = f.While
opening_word w.For = f.For
opening_word w.Break = f.Break
opening_word w.Continue = f.Continue
opening_word w.Return = f.Return
opening_word w.Do = f.Do
opening_word w.Async = f.Async
opening_word w.Cancel = f.Cancel
opening_word w.Yield = f.Yield
opening_word _ = f.Other

abbrev pub opening_mark : Mark → Opening
opening_mark m.OpenBrace = f.Block
opening_mark m.Semicolon = f.Empty
opening_mark _ = f.Other

abbrev pub opening_kind : Kind → Opening
opening_kind = by_kind f.Name f.Other f.Other opening_word opening_mark

abbrev pub opening_of : List Token → Opening
opening_of = by_next f.Other opening_kind

abbrev pub is_opening : Opening → Bool
is_opening f.Other = false
is_opening _ = true

-- a statement can begin with the next token
abbrev pub begins_stmt : List Token → Bool
begins_stmt ts = is_opening (opening_of ts)

abbrev pub for_word : Word → ForBegins
for_word w.Int = b.Int
for_word _ = b.Other

abbrev pub for_kind : Kind → ForBegins
for_kind = by_kind b.Name b.Other b.Other for_word (λ a. b.Other)

-- what the first part of a `for` begins with
abbrev pub for_begins : List Token → ForBegins
for_begins = by_next b.Other for_kind

-- ---- parts; the room is that of the first token of the part, and one more than that of what stands between parentheses in it

-- `place = expr` behind the name
abbrev pub named_simple_at : ℕ → ℕ → List ℕ → List Token → Reads Stmt
named_simple_at room at name ts = do
  place ← named_place_at (expr_at room) at name ts
  equals ← mark_at m.Assign place.1
  x ← expr_at (suc room) equals.1
  Ok (s.Assign at place.0 x.0, x.1)

abbrev pub simple_at : ℕ → List Token → Reads Stmt
simple_at = within has_name (λ room ts. name_at ts >>= λ name. named_simple_at room name.0.0 name.0.1 name.1)

abbrev pub decl_value_at : ℕ → ℕ → List ℕ → List Token → Reads Stmt
decl_value_at room at name ts = do
  equals ← mark_at m.Assign ts
  x ← expr_at (suc room) equals.1
  semicolon ← mark_at m.Semicolon x.1
  Ok (s.Int at name (Some x.0), semicolon.1)

abbrev pub decl_size_at : ℕ → ℕ → List ℕ → List Token → Reads Stmt
decl_size_at room at name ts = do
  left ← mark_at m.OpenBracket ts
  size ← deep_number_at room left.1
  right ← mark_at m.CloseBracket size.1
  semicolon ← mark_at m.Semicolon right.1
  Ok (s.Array at name size.0.1, semicolon.1)

abbrev pub decl_plain_at : ℕ → List ℕ → List Token → Reads Stmt
decl_plain_at at name ts = do
  semicolon ← mark_at m.Semicolon ts
  Ok (s.Int at name None, semicolon.1)

abbrev pub whole_decl_at : ℕ → List Token → Reads Stmt
whole_decl_at room ts = do
  head ← word_at w.Int ts
  name ← name_at head.1
  if starts_with (sign m.Assign) name.1 then decl_value_at room head.0 name.0.1 name.1
      else (if starts_with (sign m.OpenBracket) name.1 then decl_size_at room head.0 name.0.1 name.1
      else decl_plain_at head.0 name.0.1 name.1)

abbrev pub decl_at : ℕ → List Token → Reads Stmt
decl_at = within (starts_with (word w.Int)) whole_decl_at

-- `[ expr ]`
abbrev pub test_at : (List Token → Reads Expr) → List Token → Reads (Option Expr)
test_at expr ts = if begins_expr ts then (expr ts >>= λ x. Ok (Some x.0, x.1)) else Ok (None, ts)

-- ---- the parts of a `for`

abbrev pub whole_int_init_at : ℕ → List Token → Reads Stmt
whole_int_init_at room ts = do
  head ← word_at w.Int ts
  name ← name_at head.1
  equals ← mark_at m.Assign name.1
  x ← expr_at (suc room) equals.1
  Ok (s.Int head.0 name.0.1 (Some x.0), x.1)

abbrev pub int_init_at : ℕ → List Token → Reads Stmt
int_init_at = within (starts_with (word w.Int)) whole_int_init_at

abbrev pub init_by : ℕ → ForBegins → List Token → Reads (Option Stmt)
init_by room b.Int ts = int_init_at room ts >>= λ x. Ok (Some x.0, x.1)
init_by room b.Name ts = simple_at room ts >>= λ x. Ok (Some x.0, x.1)
init_by room b.Other ts = Ok (None, ts)

abbrev pub init_at : ℕ → List Token → Reads (Option Stmt)
init_at room ts = init_by room (for_begins ts) ts

abbrev pub next_at : ℕ → List Token → Reads (Option Stmt)
next_at room ts = if has_name ts then (simple_at room ts >>= λ x. Ok (Some x.0, x.1)) else Ok (None, ts)

abbrev pub head_of : Option Stmt → Option Expr → Option Stmt → ForHead
head_of init test next = record { init = init; test = test; next = next }

-- what stands between the parentheses; its first and third part are one deeper still
abbrev pub whole_head_at : ℕ → List Token → Reads ForHead
whole_head_at room ts = do
  init ← init_at room ts
  first ← mark_at m.Semicolon init.1
  test ← test_at (expr_at (suc room)) first.1
  second ← mark_at m.Semicolon test.1
  next ← next_at room second.1
  Ok (head_of init.0 test.0 next.0, next.1)

abbrev pub is_for_part : ForBegins → Bool
is_for_part b.Int = true
is_for_part b.Name = true
is_for_part b.Other = false

abbrev pub begins_head : List Token → Bool
begins_head ts = starts_with (sign m.Semicolon) ts || is_for_part (for_begins ts)

abbrev pub head_at : ℕ → List Token → Reads ForHead
head_at = within begins_head whole_head_at

-- ---- statements; stmt reads one that is one deeper, and the room is that one's

abbrev pub entry_at : (List Token → Reads Stmt) → ℕ → List Token → Reads Stmt
entry_at stmt room ts = if starts_with (word w.Int) ts then decl_at room ts else stmt ts

abbrev pub entries_at : (List Token → Reads Stmt) → ℕ → List Token → Reads (List Stmt)
entries_at stmt room ts = many_at (has_other (sign m.CloseBrace)) (entry_at stmt room) (length ts) ts

-- a block, with its place
abbrev pub block_at : (List Token → Reads Stmt) → ℕ → List Token → Reads (ℕ × List Stmt)
block_at stmt room ts = do
  left ← mark_at m.OpenBrace ts
  body ← entries_at stmt room left.1
  right ← mark_at m.CloseBrace body.1
  Ok ((left.0, body.0), right.1)

abbrev pub block_stmt_at : (List Token → Reads Stmt) → ℕ → List Token → Reads Stmt
block_stmt_at stmt room ts = block_at stmt room ts >>= λ x. Ok (s.Block x.0.0 x.0.1, x.1)

abbrev pub empty_at : List Token → Reads Stmt
empty_at ts = mark_at m.Semicolon ts >>= λ t. Ok (s.Empty t.0, t.1)

-- `do block finish ;`
abbrev pub do_at : (List Token → Reads Stmt) → ℕ → (ℕ → ℕ) → Option (List ℕ) → List Token → Reads Stmt
do_at stmt room at label ts = do
  head ← word_at w.Do ts
  body ← block_at stmt room head.1
  finish ← word_at w.Finish body.1
  semicolon ← mark_at m.Semicolon finish.1
  Ok (s.Do (at head.0) label body.0.1, semicolon.1)

abbrev pub plain_do_at : (List Token → Reads Stmt) → ℕ → List Token → Reads Stmt
plain_do_at stmt room = do_at stmt room (λ at. at) None

abbrev pub labelled_at : (List Token → Reads Stmt) → ℕ → ℕ → List ℕ → List Token → Reads Stmt
labelled_at stmt room at name ts = do
  colon ← mark_at m.Colon ts
  do_at stmt room (λ _. at) (Some name) colon.1

abbrev pub call_stmt_at : ℕ → ℕ → List ℕ → List Token → Reads Stmt
call_stmt_at room at name ts = do
  call ← call_at (expr_at room) room at name ts
  semicolon ← mark_at m.Semicolon call.1
  Ok (s.Call at call.0, semicolon.1)

abbrev pub assign_at : ℕ → ℕ → List ℕ → List Token → Reads Stmt
assign_at room at name ts = do
  x ← named_simple_at room at name ts
  semicolon ← mark_at m.Semicolon x.1
  Ok (x.0, semicolon.1)

abbrev pub named_stmt_at : (List Token → Reads Stmt) → ℕ → List Token → Reads Stmt
named_stmt_at stmt room ts = do
  name ← name_at ts
  if starts_with (sign m.OpenParen) name.1 then call_stmt_at room name.0.0 name.0.1 name.1
      else (if starts_with (sign m.Colon) name.1 then labelled_at stmt room name.0.0 name.0.1 name.1
      else assign_at room name.0.0 name.0.1 name.1)

abbrev pub operation_stmt_at : ℕ → List Token → Reads Stmt
operation_stmt_at room ts = do
  call ← operation_at (expr_at room) (expr_at (room - 1)) room ts
  semicolon ← mark_at m.Semicolon call.1
  Ok (s.Call (place_of call.0) call.0, semicolon.1)

abbrev pub print_at : ℕ → List Token → Reads Stmt
print_at room ts = do
  head ← word_at w.Printf ts
  left ← mark_at m.OpenParen head.1
  format ← deep_text_at room left.1
  args ← more_args_at (expr_at room) format.1
  right ← mark_at m.CloseParen args.1
  semicolon ← mark_at m.Semicolon right.1
  Ok (s.Print head.0 format.0 args.0, semicolon.1)

-- `[ else stmt ]`
abbrev pub other_at : (List Token → Reads Stmt) → List Token → Reads (Option Stmt)
other_at stmt ts = if starts_with (word w.Else) ts then (word_at w.Else ts >>= λ t. stmt t.1 >>= λ x. Ok (Some x.0, x.1)) else Ok (None, ts)

-- `stmt [ else stmt ]`
abbrev pub branches_at : (List Token → Reads Stmt) → List Token → Reads (Stmt × Option Stmt)
branches_at stmt ts = do
  body ← stmt ts
  other ← other_at stmt body.1
  Ok ((body.0, other.0), other.1)

abbrev pub if_at : (List Token → Reads Stmt) → ℕ → List Token → Reads Stmt
if_at stmt room ts = do
  head ← word_at w.If ts
  left ← mark_at m.OpenParen head.1
  test ← expr_at room left.1
  right ← mark_at m.CloseParen test.1
  branches ← branches_at stmt right.1
  Ok (s.If head.0 test.0 branches.0.0 branches.0.1, branches.1)

abbrev pub while_at : (List Token → Reads Stmt) → ℕ → List Token → Reads Stmt
while_at stmt room ts = do
  head ← word_at w.While ts
  left ← mark_at m.OpenParen head.1
  test ← expr_at room left.1
  right ← mark_at m.CloseParen test.1
  body ← stmt right.1
  Ok (s.While head.0 test.0 body.0, body.1)

abbrev pub for_at : (List Token → Reads Stmt) → ℕ → List Token → Reads Stmt
for_at stmt room ts = do
  head ← word_at w.For ts
  left ← mark_at m.OpenParen head.1
  parts ← head_at room left.1
  right ← mark_at m.CloseParen parts.1
  body ← stmt right.1
  Ok (s.For head.0 parts.0.init parts.0.test parts.0.next body.0, body.1)

abbrev pub break_at : List Token → Reads Stmt
break_at ts = do
  head ← word_at w.Break ts
  semicolon ← mark_at m.Semicolon head.1
  Ok (s.Break head.0, semicolon.1)

abbrev pub continue_at : List Token → Reads Stmt
continue_at ts = do
  head ← word_at w.Continue ts
  semicolon ← mark_at m.Semicolon head.1
  Ok (s.Continue head.0, semicolon.1)

abbrev pub yield_at : List Token → Reads Stmt
yield_at ts = do
  head ← word_at w.Yield ts
  semicolon ← mark_at m.Semicolon head.1
  Ok (s.Yield head.0, semicolon.1)

abbrev pub return_at : ℕ → List Token → Reads Stmt
return_at room ts = do
  head ← word_at w.Return ts
  value ← test_at (expr_at (suc room)) head.1
  semicolon ← mark_at m.Semicolon value.1
  Ok (s.Return head.0 value.0, semicolon.1)

abbrev pub async_at : (List Token → Reads Stmt) → List Token → Reads Stmt
async_at stmt ts = do
  head ← word_at w.Async ts
  body ← stmt head.1
  Ok (s.Async head.0 body.0, body.1)

abbrev pub cancel_at : List Token → Reads Stmt
cancel_at ts = do
  head ← word_at w.Cancel ts
  label ← name_at head.1
  semicolon ← mark_at m.Semicolon label.1
  Ok (s.Cancel head.0 label.0.1, semicolon.1)

abbrev pub stmt_by : (List Token → Reads Stmt) → ℕ → Opening → List Token → Reads Stmt
stmt_by stmt room f.Block ts = block_stmt_at stmt room ts
stmt_by stmt room f.Empty ts = empty_at ts
stmt_by stmt room f.Name ts = named_stmt_at stmt room ts
stmt_by stmt room f.Operation ts = operation_stmt_at room ts
stmt_by stmt room f.Print ts = print_at room ts
stmt_by stmt room f.If ts = if_at stmt room ts
stmt_by stmt room f.While ts = while_at stmt room ts
stmt_by stmt room f.For ts = for_at stmt room ts
stmt_by stmt room f.Break ts = break_at ts
stmt_by stmt room f.Continue ts = continue_at ts
stmt_by stmt room f.Return ts = return_at room ts
stmt_by stmt room f.Do ts = plain_do_at stmt room ts
stmt_by stmt room f.Async ts = async_at stmt ts
stmt_by stmt room f.Cancel ts = cancel_at ts
stmt_by stmt room f.Yield ts = yield_at ts
stmt_by stmt room f.Other ts = Err (halt unexpected ts)

-- a statement; the room is how many more depths its tokens may have, the own one included
unfoldable pub stmt_at : ℕ → List Token → Reads Stmt
stmt_at zero ts = look (begins_stmt ts) ts
stmt_at (suc room) ts = stmt_by (stmt_at room) room (opening_of ts) ts
