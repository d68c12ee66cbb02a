-- Reading the top level from left to right.
use Rattle.std.specs.Prelude.{ℕ, ℤ, pos, Bool, true, false, List, [], ◌∷◌, length, Some, None, Ok, Err, if◌then◌else◌}
use Rattle.ac_tree.specs.declared.item.Item.{Item}
use Rattle.ac_tree.specs.declared.item.Item.TheVariants as i
use Rattle.ac_tree.specs.declared.item.Param.{Param}
use Rattle.ac_tree.specs.declared.item.Program.{Program}
use Rattle.ac_lexer.specs.declared.token.Word.{Word}
use Rattle.ac_lexer.specs.declared.token.Word.TheVariants as w
use Rattle.ac_lexer.specs.declared.token.Mark.TheVariants as m
use Rattle.ac_lexer.specs.declared.token.Kind.{Kind}
use Rattle.ac_lexer.specs.declared.token.Kind.TheVariants as k
use Rattle.ac_lexer.specs.declared.token.Token.{Token}
use Rattle.ac_parser.specs.declared.forms.ItemBegins.{ItemBegins}
use Rattle.ac_parser.specs.declared.forms.ItemBegins.TheVariants as b
use Rattle.ac_parser.specs.declared.forms.ParamsBegin.{ParamsBegin}
use Rattle.ac_parser.specs.declared.forms.ParamsBegin.TheVariants as p
use Rattle.reading_laws.specs.Readers.{Reads, halt, unexpected, ◌>>=◌, many_at}
use Rattle.reading_laws.specs.inner.Tokens.{has_token}
use Rattle.reading_laws.specs.Letters.{word, sign, by_next, starts_with, word_at, mark_at, name_at, number_at, negated_at, text_at}
use Rattle.ac_parser.specs.inner.ReadsStatements.{block_at, stmt_at}

-- ---- what the next token begins

abbrev pub item_word : Word → ItemBegins
item_word w.Int = b.Int
item_word w.Void = b.Void
item_word w.Async = b.Async
item_word w.Channel = b.Channel
item_word w.File = b.File
item_word w.Core = b.Core
item_word _ = b.Other

abbrev pub item_kind : Kind → ItemBegins
item_kind (k.Word a) = item_word a
item_kind _ = b.Other

abbrev pub item_begins : List Token → ItemBegins
item_begins = by_next b.Other item_kind

abbrev pub params_word : Word → ParamsBegin
params_word w.Void = p.Void
params_word w.Int = p.Int
params_word _ = p.Other

abbrev pub params_kind : Kind → ParamsBegin
params_kind (k.Word a) = params_word a
params_kind _ = p.Other

abbrev pub params_begin : List Token → ParamsBegin
params_begin = by_next p.Other params_kind

-- ---- globals

-- `[ - ] NUMBER`
abbrev pub signed_number_at : List Token → Reads ℤ
signed_number_at ts = if starts_with (sign m.Minus) ts then (mark_at m.Minus ts >>= λ t. negated_at t.1)
    else (number_at ts >>= λ n. Ok (n.0.1, n.1))

abbrev pub global_value_at : ℕ → List ℕ → List Token → Reads Item
global_value_at at name ts = do
  equals ← mark_at m.Assign ts
  value ← signed_number_at equals.1
  semicolon ← mark_at m.Semicolon value.1
  Ok (i.Global at name None value.0, semicolon.1)

abbrev pub global_size_at : ℕ → List ℕ → List Token → Reads Item
global_size_at at name ts = do
  left ← mark_at m.OpenBracket ts
  size ← number_at left.1
  right ← mark_at m.CloseBracket size.1
  semicolon ← mark_at m.Semicolon right.1
  Ok (i.Global at name (Some size.0.1) (pos 0), semicolon.1)

abbrev pub global_plain_at : ℕ → List ℕ → List Token → Reads Item
global_plain_at at name ts = do
  semicolon ← mark_at m.Semicolon ts
  Ok (i.Global at name None (pos 0), semicolon.1)

-- ---- functions

-- `[ [ ] ]`
abbrev pub brackets_at : List Token → Reads Bool
brackets_at ts = if starts_with (sign m.OpenBracket) ts
    then (mark_at m.OpenBracket ts >>= λ t. mark_at m.CloseBracket t.1 >>= λ t. Ok (true, t.1)) else Ok (false, ts)

abbrev pub param_at : List Token → Reads Param
param_at ts = do
  head ← word_at w.Int ts
  name ← name_at head.1
  is_array ← brackets_at name.1
  Ok (record { at = head.0; name = name.0.1; is_array = is_array.0 }, is_array.1)

abbrev pub next_param_at : List Token → Reads Param
next_param_at ts = do
  comma ← mark_at m.Comma ts
  param_at comma.1

abbrev pub more_params_at : List Token → Reads (List Param)
more_params_at ts = many_at (starts_with (sign m.Comma)) next_param_at (length ts) ts

abbrev pub some_params_at : List Token → Reads (List Param)
some_params_at ts = do
  x ← param_at ts
  xs ← more_params_at x.1
  Ok (x.0 ∷ xs.0, xs.1)

abbrev pub params_by : ParamsBegin → List Token → Reads (List Param)
params_by p.Void ts = word_at w.Void ts >>= λ t. Ok ([], t.1)
params_by p.Int ts = some_params_at ts
params_by p.Other ts = Ok ([], ts)

abbrev pub params_at : List Token → Reads (List Param)
params_at ts = params_by (params_begin ts) ts

-- the room of what stands in the body block of a function
abbrev pub body_room : ℕ
body_room = 255

-- `( params ) block` behind the name
abbrev pub function_at : ℕ → Bool → Bool → List ℕ → List Token → Reads Item
function_at at is_async gives_int name ts = do
  left ← mark_at m.OpenParen ts
  params ← params_at left.1
  right ← mark_at m.CloseParen params.1
  body ← block_at (stmt_at body_room) body_room right.1
  Ok (i.Function (record { at = at; is_async = is_async; gives_int = gives_int; name = name; params = params.0; body = body.0.1 }), body.1)

abbrev pub int_item_at : List Token → Reads Item
int_item_at ts = do
  head ← word_at w.Int ts
  name ← name_at head.1
  if starts_with (sign m.Assign) name.1 then global_value_at head.0 name.0.1 name.1
      else (if starts_with (sign m.OpenBracket) name.1 then global_size_at head.0 name.0.1 name.1
      else (if starts_with (sign m.OpenParen) name.1 then function_at head.0 false true name.0.1 name.1
      else global_plain_at head.0 name.0.1 name.1))

abbrev pub void_item_at : List Token → Reads Item
void_item_at ts = do
  head ← word_at w.Void ts
  name ← name_at head.1
  function_at head.0 false false name.0.1 name.1

-- whether a function gives an int
abbrev pub gives_at : List Token → Reads Bool
gives_at ts = if starts_with (word w.Int) ts then (word_at w.Int ts >>= λ t. Ok (true, t.1))
    else (word_at w.Void ts >>= λ t. Ok (false, t.1))

abbrev pub async_item_at : List Token → Reads Item
async_item_at ts = do
  head ← word_at w.Async ts
  gives ← gives_at head.1
  name ← name_at gives.1
  function_at head.0 true gives.0 name.0.1 name.1

-- ---- channels, files and cores

abbrev pub channel_at : List Token → Reads Item
channel_at ts = do
  head ← word_at w.Channel ts
  name ← name_at head.1
  left ← mark_at m.OpenParen name.1
  sender ← name_at left.1
  comma ← mark_at m.Comma sender.1
  receiver ← name_at comma.1
  second ← mark_at m.Comma receiver.1
  cap ← number_at second.1
  right ← mark_at m.CloseParen cap.1
  semicolon ← mark_at m.Semicolon right.1
  Ok (i.Channel head.0 name.0.1 sender.0.1 receiver.0.1 cap.0.1, semicolon.1)

abbrev pub file_at : List Token → Reads Item
file_at ts = do
  head ← word_at w.File ts
  name ← name_at head.1
  left ← mark_at m.OpenParen name.1
  path ← text_at left.1
  right ← mark_at m.CloseParen path.1
  semicolon ← mark_at m.Semicolon right.1
  Ok (i.File head.0 name.0.1 path.0, semicolon.1)

abbrev pub core_at : List Token → Reads Item
core_at ts = do
  head ← word_at w.Core ts
  name ← name_at head.1
  left ← mark_at m.OpenParen name.1
  entry ← name_at left.1
  right ← mark_at m.CloseParen entry.1
  semicolon ← mark_at m.Semicolon right.1
  Ok (i.Core head.0 name.0.1 entry.0.1, semicolon.1)

-- ---- the program

abbrev pub item_by : ItemBegins → List Token → Reads Item
item_by b.Int ts = int_item_at ts
item_by b.Void ts = void_item_at ts
item_by b.Async ts = async_item_at ts
item_by b.Channel ts = channel_at ts
item_by b.File ts = file_at ts
item_by b.Core ts = core_at ts
item_by b.Other ts = Err (halt unexpected ts)

unfoldable pub item_at : List Token → Reads Item
item_at ts = item_by (item_begins ts) ts

abbrev pub items_at : List Token → Reads (List Item)
items_at ts = many_at has_token item_at (length ts) ts

abbrev pub end_at : {X : Type 0} → X → List Token → Reads X
end_at x [] = Ok (x, [])
end_at x (t ∷ ts) = Err (halt unexpected (t ∷ ts))

unfoldable pub program_at : List Token → Reads Program
program_at ts = do
  items ← items_at ts
  end_at (record { items = items.0 }) items.1
