-- The grammar of the top level. Nothing contains what stands there, and the body block of a function is contained in itself alone: its
-- braces have depth 1. In `core a(f);` the name f and the `)` have depth 1, and the other tokens depth 0.
use Rattle.std.specs.Prelude.{ℕ, ℤ, pos, neg_ℤ, Bool, true, false, List, [], ◌∷◌, ◌++◌, Some, None}
use Rattle.ac_tree.specs.declared.stmt.Stmt.{Stmt}
use Rattle.ac_tree.specs.declared.item.Item.{Item}
use Rattle.ac_tree.specs.declared.item.Item.TheVariants as i
use Rattle.ac_tree.specs.declared.item.Param.{Param}
use Rattle.ac_tree.specs.declared.item.Program.{Program}
use Rattle.ac_lexer.specs.declared.token.Word.TheVariants as w
use Rattle.ac_lexer.specs.declared.token.Mark.TheVariants as m
use Rattle.ac_lexer.specs.declared.token.Token.{Token}
use Rattle.reading_laws.specs.Marks.{Marked, mark, IsWord, IsMark, IsName, IsNumber, IsText}
use Rattle.ac_parser.specs.SpellingOfStatements.{BlockSpells}

-- `[ = [ - ] NUMBER ]`: without it the value is 0
pub data GlobalValueSpells : ℤ → List Marked → Type 0 where
  zero_value : GlobalValueSpells (pos 0) []
  plain_value : (equals number : Token) (n : ℤ) → IsMark m.Assign equals → IsNumber n number
      → GlobalValueSpells n (mark 0 equals ∷ mark 0 number ∷ [])
  negative_value : (equals minus number : Token) (n : ℕ) → IsMark m.Assign equals → IsMark m.Minus minus → IsNumber (pos n) number
      → GlobalValueSpells (neg_ℤ (pos n)) (mark 0 equals ∷ mark 0 minus ∷ mark 0 number ∷ [])

-- `[ [ ] ]` behind the name of a parameter
pub data BracketsSpell : Bool → List Marked → Type 0 where
  no_brackets : BracketsSpell false []
  brackets : (left right : Token) → IsMark m.OpenBracket left → IsMark m.CloseBracket right
      → BracketsSpell true (mark 1 left ∷ mark 2 right ∷ [])

-- `int NAME [ [ ] ]`
pub data ParamSpells : Param → List Marked → Type 0 where
  param : (head named : Token) (name : List ℕ) (is_array : Bool) (ms : List Marked) → IsWord w.Int head → IsName name named
      → BracketsSpell is_array ms
      → ParamSpells (record { at = head.span.at; name = name; is_array = is_array }) (mark 1 head ∷ mark 1 named ∷ ms)

-- `{ , param }`
pub data MoreParamsSpell : List Param → List Marked → Type 0 where
  no_param : MoreParamsSpell [] []
  one_param : (comma : Token) (x : Param) (xs : List Param) (ms ns : List Marked) → IsMark m.Comma comma → ParamSpells x ms
      → MoreParamsSpell xs ns → MoreParamsSpell (x ∷ xs) (mark 1 comma ∷ (ms ++ ns))

-- `[ void | param { , param } ]`
pub data ParamsSpell : List Param → List Marked → Type 0 where
  no_params : ParamsSpell [] []
  void_params : (t : Token) → IsWord w.Void t → ParamsSpell [] (mark 1 t ∷ [])
  some_params : (x : Param) (xs : List Param) (ms ns : List Marked) → ParamSpells x ms → MoreParamsSpell xs ns
      → ParamsSpell (x ∷ xs) (ms ++ ns)

-- the word before a function's name tells whether it gives an int
abbrev pub IsGiven : Bool → Token → Type 0
IsGiven true t = IsWord w.Int t
IsGiven false t = IsWord w.Void t

pub data ItemSpells : Item → List Marked → Type 0 where
  -- `int NAME [ = [ - ] NUMBER ] ;`
  global : (head named semicolon : Token) (name : List ℕ) (value : ℤ) (ms : List Marked) → IsWord w.Int head → IsName name named
      → GlobalValueSpells value ms → IsMark m.Semicolon semicolon
      → ItemSpells (i.Global head.span.at name None value) (mark 0 head ∷ mark 0 named ∷ (ms ++ mark 0 semicolon ∷ []))
  -- `int NAME [ NUMBER ] ;`
  global_array : (head named left sized right semicolon : Token) (name : List ℕ) (size : ℤ)
      → IsWord w.Int head → IsName name named → IsMark m.OpenBracket left → IsNumber size sized → IsMark m.CloseBracket right
      → IsMark m.Semicolon semicolon
      → ItemSpells (i.Global head.span.at name (Some size) (pos 0))
      (mark 0 head ∷ mark 0 named ∷ mark 0 left ∷ mark 1 sized ∷ mark 1 right ∷ mark 0 semicolon ∷ [])
  -- `( int | void ) NAME ( params ) block`
  function : (head named left right : Token) (gives_int : Bool) (name : List ℕ) (params : List Param) (at : ℕ) (body : List Stmt)
      (ps bs : List Marked)
      → IsGiven gives_int head → IsName name named → IsMark m.OpenParen left → ParamsSpell params ps → IsMark m.CloseParen right
      → BlockSpells 1 at body bs
      → ItemSpells (i.Function (record {
        at = head.span.at;
        is_async = false;
        gives_int = gives_int;
        name = name;
        params = params;
        body = body;
      }))
      (mark 0 head ∷ mark 0 named ∷ mark 0 left ∷ (ps ++ mark 1 right ∷ bs))
  -- `async ( int | void ) NAME ( params ) block`
  async_function : (head given named left right : Token) (gives_int : Bool) (name : List ℕ) (params : List Param) (at : ℕ)
      (body : List Stmt) (ps bs : List Marked)
      → IsWord w.Async head → IsGiven gives_int given → IsName name named → IsMark m.OpenParen left → ParamsSpell params ps
      → IsMark m.CloseParen right → BlockSpells 1 at body bs
      → ItemSpells (i.Function (record {
        at = head.span.at;
        is_async = true;
        gives_int = gives_int;
        name = name;
        params = params;
        body = body;
      }))
      (mark 0 head ∷ mark 0 given ∷ mark 0 named ∷ mark 0 left ∷ (ps ++ mark 1 right ∷ bs))
  -- `channel NAME ( NAME , NAME , NUMBER ) ;`
  channel : (head named left sender comma receiver second number right semicolon : Token) (name from to : List ℕ) (cap : ℤ)
      → IsWord w.Channel head → IsName name named → IsMark m.OpenParen left → IsName from sender → IsMark m.Comma comma → IsName to receiver
      → IsMark m.Comma second → IsNumber cap number → IsMark m.CloseParen right → IsMark m.Semicolon semicolon
      → ItemSpells (i.Channel head.span.at name from to cap)
      (mark 0 head ∷ mark 0 named ∷ mark 0 left ∷ mark 1 sender ∷ mark 1 comma ∷ mark 1 receiver ∷ mark 1 second ∷ mark 1 number
      ∷ mark 1 right ∷ mark 0 semicolon ∷ [])
  -- `file NAME ( TEXT ) ;`
  file : (head named left text right semicolon : Token) (name path : List ℕ)
      → IsWord w.File head → IsName name named → IsMark m.OpenParen left → IsText path text → IsMark m.CloseParen right
      → IsMark m.Semicolon semicolon
      → ItemSpells (i.File head.span.at name path) (mark 0 head ∷ mark 0 named ∷ mark 0 left ∷ mark 1 text ∷ mark 1 right ∷ mark 0 semicolon
      ∷ [])
  -- `core NAME ( NAME ) ;`
  core : (head named left entered right semicolon : Token) (name entry : List ℕ)
      → IsWord w.Core head → IsName name named → IsMark m.OpenParen left → IsName entry entered → IsMark m.CloseParen right
      → IsMark m.Semicolon semicolon
      → ItemSpells (i.Core head.span.at name entry) (mark 0 head ∷ mark 0 named ∷ mark 0 left ∷ mark 1 entered ∷ mark 1 right
      ∷ mark 0 semicolon ∷ [])

pub data ItemsSpell : List Item → List Marked → Type 0 where
  no_item : ItemsSpell [] []
  one_item : (x : Item) (xs : List Item) (ms ns : List Marked) → ItemSpells x ms → ItemsSpell xs ns → ItemsSpell (x ∷ xs) (ms ++ ns)

-- the items of a program, one after the other
abbrev pub ProgramSpells : Program → List Marked → Type 0
ProgramSpells p ms = ItemsSpell p.items ms
