-- The laws of the parts of items: the value of a global, parameters, and functions behind their names. The tokens of the top level are never too
-- deep, and the body of a function is read with the room that is left. Put together from the laws of one token, of one of two by the next token,
-- and of rows: parameters end before `)`, which is neither a comma nor a bracket.
use Rattle.std.proofs.Common.{◌≡◌, ℕ, ℤ, ◌≤◌, Bool, true, false, List, [], ◌∷◌, ◌++◌, length, Some, None, refl, ap, ◌∙◌, arith}
use Rattle.std.specs.Prelude.{pos}
use Rattle.ac_tree.specs.declared.stmt.Stmt.{Stmt}
use Rattle.ac_tree.specs.declared.item.Item.{Item}
use Rattle.ac_tree.specs.declared.item.Item.TheVariants as i
use Rattle.ac_tree.specs.declared.item.Param.{Param}
use Rattle.ac_lexer.specs.declared.token.Word.TheVariants as w
use Rattle.ac_lexer.specs.declared.token.Mark.TheVariants as m
use Rattle.ac_lexer.specs.declared.token.Token.{Token}
use Rattle.ac_parser.specs.declared.forms.ParamsBegin.{ParamsBegin}
use Rattle.ac_parser.specs.declared.forms.ParamsBegin.TheVariants as p
use Rattle.reading_laws.specs.Marks.{Marked, mark, tokens, IsWord, IsMark, IsName}
use Rattle.ac_parser.specs.SpellingOfItems.{GlobalValueSpells, zero_value, plain_value, negative_value, BracketsSpell, no_brackets, brackets, ParamSpells, param, MoreParamsSpell, no_param, one_param}
use Rattle.ac_parser.specs.SpellingOfItems.{ParamsSpell, no_params, void_params, some_params, ItemSpells, global, global_array}
use Rattle.reading_laws.specs.Letters.{word, sign, same_mark, starts_with}
use Rattle.ac_parser.specs.inner.ReadsItems.{params_kind, params_begin, params_by, params_at}
use Rattle.reading_laws.proofs.Marking.{tokens_split}
use Rattle.reading_laws.proofs.Heads.{ByHead, by_head}
use Rattle.reading_laws.proofs.Parts.{Part, Law, Any, itself, ret, law_ret, seq, made, first, second, chosen, law_same, law_bind, law_then, law_made, law_either, law_select, bind, made_of, either}
use Rattle.reading_laws.proofs.Parts.{select}
use Rattle.reading_laws.proofs.Rows.{Many, none, some, many, law_many}
use Rattle.reading_laws.proofs.Letters.{signed, sign_part, law_sign, starts_by, named, name_part, law_name, numbered, number_part, law_number, negated, negated_part, law_negated}
use Rattle.reading_laws.proofs.Openings.{by_last, begins_bound, no_bound, started, starts_not}
use Rattle.ac_parser.proofs.CompoundLaws.{block_named, block_law}
use Rattle.ac_parser.proofs.StatementLaw.{stmt_law}

-- ---- values of globals

abbrev pub minus_part : Part ℤ
minus_part = bind (sign_part 0 (sign m.Minus)) (λ _. negated_part 0)

abbrev pub plus_part : Part ℤ
plus_part = made_of (number_part 0) (λ n. n.1)

abbrev pub signed_number : Part ℤ
signed_number = either (starts_with (sign m.Minus)) minus_part plus_part

plus_not : (x : ℤ) (ms : List Marked) (rest : List Token) → plus_part.spells x ms → starts_with (sign m.Minus) (tokens ms ++ rest) ≡ false
unfolding made_of number_part
plus_not _ _ rest (made _ _ (numbered t n q)) = rw q refl

signed_number_law : Law 256 ℤ signed_number Any
signed_number_law = law_either (starts_with (sign m.Minus)) (starts_by (sign m.Minus)) (law_then (law_sign 256 0 (omega arith) (sign m.Minus)) (λ _. law_negated 256 0 (omega arith)))
    (law_made (λ n. n.1) Any (law_number 256 0 (omega arith)) (λ n rest h. tt))
    (λ x ms rest g h. begins_bound 0 (sign m.Minus) (λ _. negated_part 0) x ms rest g) (λ x ms rest g h. plus_not x ms rest g)

abbrev pub global_value : ℕ → List ℕ → Part Item
global_value at name = bind (sign_part 0 (sign m.Assign)) (λ _. bind signed_number (λ v. made_of (sign_part 0 (sign m.Semicolon)) (λ _. i.Global at name None v)))

abbrev pub global_size : ℕ → List ℕ → Part Item
global_size at name = bind (sign_part 0 (sign m.OpenBracket)) (λ _. bind (number_part 1)
    (λ n. bind (sign_part 1 (sign m.CloseBracket)) (λ _. made_of (sign_part 0 (sign m.Semicolon)) (λ _. i.Global at name (Some n.1) (pos 0)))))

abbrev pub global_plain : ℕ → List ℕ → Part Item
global_plain at name = made_of (sign_part 0 (sign m.Semicolon)) (λ _. i.Global at name None (pos 0))

pub semi_law : (x : Item) → Law 256 Item (made_of (sign_part 0 (sign m.Semicolon)) (λ _. x)) Any
semi_law x = law_made (λ _. x) Any (law_sign 256 0 (omega arith) (sign m.Semicolon)) (λ x rest h. tt)

pub global_value_law : (at : ℕ) (name : List ℕ) → Law 256 Item (global_value at name) Any
global_value_law at name = law_then (law_sign 256 0 (omega arith) (sign m.Assign)) (λ _. law_then signed_number_law (λ v. semi_law (i.Global at name None v)))

pub global_size_law : (at : ℕ) (name : List ℕ) → Law 256 Item (global_size at name) Any
global_size_law at name = law_then (law_sign 256 0 (omega arith) (sign m.OpenBracket))
    (λ _. law_then (law_number 256 1 (omega arith)) (λ n. law_then (law_sign 256 1 (omega arith) (sign m.CloseBracket)) (λ _. semi_law (i.Global at name (Some n.1) (pos 0)))))

pub global_plain_law : (at : ℕ) (name : List ℕ) → Law 256 Item (global_plain at name) Any
global_plain_law at name = semi_law (i.Global at name None (pos 0))

value_case : (v : ℤ) (a : List Marked) → signed_number.spells v a → (e : Token) → IsMark m.Assign e → GlobalValueSpells v (mark 0 e ∷ a)
unfolding either bind made_of sign_part number_part negated_part
value_case _ _ (first _ _ (seq _ _ _ _ (signed t q) (negated u n r))) e i = negative_value e t u n i q r
value_case _ _ (second _ _ (made _ _ (numbered t n q))) e i = plain_value e t n i q

pub is_global_value : (t n : Token) (name : List ℕ) → IsWord w.Int t → IsName name n → (x : Item) (ms : List Marked) → (global_value t.span.at name).spells x ms
    → ItemSpells x (mark 0 t ∷ mark 0 n ∷ ms)
unfolding bind sign_part
is_global_value t n name q r _ _ (seq _ _ _ _ (signed e j) (seq v y a c g last)) =
    by_last (λ y c. ItemSpells y (mark 0 t ∷ mark 0 n ∷ mark 0 e ∷ (a ++ c))) 0 (sign m.Semicolon) (i.Global t.span.at name None v) y c last
    (λ u z. global t n u name v (mark 0 e ∷ a) q r (value_case v a g e j) z)

pub is_global_size : (t n : Token) (name : List ℕ) → IsWord w.Int t → IsName name n → (x : Item) (ms : List Marked) → (global_size t.span.at name).spells x ms → ItemSpells x (mark 0 t ∷ mark 0 n ∷ ms)
unfolding bind sign_part number_part
is_global_size t n name q r _ _ (seq _ _ _ _ (signed l j) (seq _ _ _ _ (numbered u size v) (seq _ y _ c (signed d z) last))) =
    by_last (λ y c. ItemSpells y (mark 0 t ∷ mark 0 n ∷ mark 0 l ∷ mark 1 u ∷ mark 1 d ∷ c)) 0 (sign m.Semicolon) (i.Global t.span.at name (Some size) (pos 0)) y c last
    (λ f g. global_array t n l u d f name size q r j v z g)

pub is_global_plain : (t n : Token) (name : List ℕ) → IsWord w.Int t → IsName name n → (x : Item) (ms : List Marked) → (global_plain t.span.at name).spells x ms
    → ItemSpells x (mark 0 t ∷ mark 0 n ∷ ms)
is_global_plain t n name q r x ms last = by_last (λ y c. ItemSpells y (mark 0 t ∷ mark 0 n ∷ c)) 0 (sign m.Semicolon) (i.Global t.span.at name None (pos 0)) x ms last
    (λ u z. global t n u name (pos 0) [] q r zero_value z)

-- ---- parameters

abbrev pub brackets_part : Part Bool
brackets_part = either (starts_with (sign m.OpenBracket)) (bind (sign_part 1 (sign m.OpenBracket)) (λ _. made_of (sign_part 2 (sign m.CloseBracket)) (λ _. true))) (ret false)

abbrev pub NoBracket : {X : Type 0} → X → List Token → Type 0
NoBracket x rest = starts_with (sign m.OpenBracket) rest ≡ false

ret_bracket : (x : Bool) (ms : List Marked) (rest : List Token) → (ret false).spells x ms → starts_with (sign m.OpenBracket) rest ≡ false → starts_with (sign m.OpenBracket) (tokens ms ++ rest) ≡ false
unfolding ret
ret_bracket _ _ rest itself h = h

brackets_law : Law 256 Bool brackets_part NoBracket
brackets_law = law_either (starts_with (sign m.OpenBracket)) (starts_by (sign m.OpenBracket))
    (law_then (law_sign 256 1 (omega arith) (sign m.OpenBracket)) (λ _. law_made (λ _. true) NoBracket (law_sign 256 2 (omega arith) (sign m.CloseBracket)) (λ x rest h. tt))) (law_ret false NoBracket)
    (λ x ms rest g h. begins_bound 1 (sign m.OpenBracket) (λ _. made_of (sign_part 2 (sign m.CloseBracket)) (λ _. true)) x ms rest g) ret_bracket

abbrev param_of : ℕ → List ℕ → Bool → Param
param_of at name is_array = record { at = at; name = name; is_array = is_array }

abbrev pub param_part : Part Param
param_part = bind (sign_part 1 (word w.Int)) (λ at. bind (name_part 1) (λ n. made_of brackets_part (λ b. record { at = at; name = n.1; is_array = b })))

param_law : Law 256 Param param_part NoBracket
param_law = law_then (law_sign 256 1 (omega arith) (word w.Int)) (λ at. law_then (law_name 256 1 (omega arith)) (λ n. law_made (λ b. param_of at n.1 b) NoBracket brackets_law (λ b rest h. h)))

is_brackets : (x : Bool) (ms : List Marked) → brackets_part.spells x ms → BracketsSpell x ms
unfolding either bind made_of ret sign_part
is_brackets _ _ (first _ _ (seq _ _ _ _ (signed l q) (made _ _ (signed r j)))) = brackets l r q j
is_brackets _ _ (second _ _ itself) = no_brackets

brackets_are : (x : Bool) (ms : List Marked) → BracketsSpell x ms → brackets_part.spells x ms
unfolding either bind made_of ret sign_part
brackets_are _ _ no_brackets = second false [] itself
brackets_are _ _ (brackets l r q j) = first true _ (seq l.span.at _ _ _ (signed l q) (made r.span.at (mark 2 r ∷ []) (signed r j)))

is_param : (x : Param) (ms : List Marked) → param_part.spells x ms → ParamSpells x ms
unfolding bind made_of sign_part name_part
is_param _ _ (seq _ _ _ _ (signed t q) (seq _ _ _ _ (named n name r) (made b a g))) = param t n name b a q r (is_brackets b a g)

param_is : (x : Param) (ms : List Marked) → ParamSpells x ms → param_part.spells x ms
unfolding bind made_of sign_part name_part
param_is _ _ (param t n name b a q r g) = seq t.span.at _ _ _ (signed t q) (seq (n.span.at, name) _ _ _ (named n name r) (made b a (brackets_are b a g)))

abbrev pub next_param : Part Param
next_param = bind (sign_part 1 (sign m.Comma)) (λ _. param_part)

next_law : Law 256 Param next_param NoBracket
next_law = law_then (law_sign 256 1 (omega arith) (sign m.Comma)) (λ _. param_law)

next_one : (x : Param) (ms : List Marked) → next_param.spells x ms → 1 ≤ length ms
unfolding bind sign_part
next_one _ _ (seq _ _ _ c (signed t q) g) = omega arith

abbrev pub more_params : Part (List Param)
more_params = many (starts_with (sign m.Comma)) next_param

abbrev Ended : {X : Type 0} → X → List Token → Type 0
Ended x rest = starts_with (sign m.CloseParen) rest ≡ true

more_params_law : Law 256 (List Param) more_params Ended
unfolding same_mark
more_params_law = law_many (starts_with (sign m.Comma)) (λ rest. starts_with (sign m.CloseParen) rest ≡ true) (starts_by (sign m.Comma)) refl next_law next_one
    (λ x ms rest g. begins_bound 1 (sign m.Comma) (λ _. param_part) x ms rest g)
    (λ rest h. starts_not (sign m.Comma) (sign m.CloseParen) refl rest h) (λ x rest h. starts_not (sign m.OpenBracket) (sign m.CloseParen) refl rest h)
    (λ x y ms rest g. no_bound (sign m.OpenBracket) 1 (sign m.Comma) refl (λ _. param_part) y ms rest g)

more_are : (xs : List Param) (ms : List Marked) → Many Param next_param.spells xs ms → MoreParamsSpell xs ms
unfolding bind sign_part
more_are _ _ none = no_param
more_are _ _ (some _ xs _ c (seq _ x _ a (signed t q) g) r) = one_param t x xs a c q (is_param x a g) (more_are xs c r)

are_more : (xs : List Param) (ms : List Marked) → MoreParamsSpell xs ms → Many Param next_param.spells xs ms
unfolding bind sign_part
are_more _ _ no_param = none
are_more _ _ (one_param t x xs a c q g r) = some x xs (mark 1 t ∷ a) c (seq t.span.at x (mark 1 t ∷ []) a (signed t q) (param_is x a g)) (are_more xs c r)

abbrev pub list_part : Part (List Param)
list_part = bind param_part (λ x. made_of more_params (λ xs. x ∷ xs))

more_bracket : (xs : List Param) (ms : List Marked) (rest : List Token) → Many Param next_param.spells xs ms → starts_with (sign m.CloseParen) rest ≡ true
    → starts_with (sign m.OpenBracket) (tokens ms ++ rest) ≡ false
unfolding same_mark
more_bracket _ _ rest none h = starts_not (sign m.OpenBracket) (sign m.CloseParen) refl rest h
more_bracket _ _ rest (some x xs a c g r) h = ap (starts_with (sign m.OpenBracket)) (tokens_split a c rest)
    ∙ no_bound (sign m.OpenBracket) 1 (sign m.Comma) refl (λ _. param_part) x a (tokens c ++ rest) g

list_follows : (x : Param) (y : List Param) (c : List Marked) (rest : List Token) → (made_of more_params (λ xs. x ∷ xs)).spells y c → starts_with (sign m.CloseParen) rest ≡ true
    → starts_with (sign m.OpenBracket) (tokens c ++ rest) ≡ false
unfolding made_of many
list_follows x _ _ rest (made xs c g) h = more_bracket xs c rest g h

list_law : Law 256 (List Param) list_part Ended
list_law = law_bind param_law (λ x a r h. law_made (λ xs. x ∷ xs) Ended more_params_law (λ xs rest h. h)) (λ x y c rest g h. list_follows x y c rest g h)

abbrev pub params_form : ParamsBegin → Part (List Param)
params_form p.Void = made_of (sign_part 1 (word w.Void)) (λ _. [])
params_form p.Int = list_part
params_form p.Other = ret []

abbrev each : ParamsBegin → Bool
each form = true

abbrev pub params_part : Part (List Param)
params_part = select params_begin each params_form p.Other refl

abbrev pub params_named : Part (List Param)
params_named = record { read = params_at; spells = ParamsSpell; filled = record { value = []; marks = []; spells = no_params } }

form_same : (form : ParamsBegin) (a : List Token) → params_by form a ≡ (params_form form).read a
unfolding bind made_of either ret many sign_part name_part
form_same p.Void a = refl
form_same p.Int a = refl
form_same p.Other a = refl

params_same : (a : List Token) → params_at a ≡ params_part.read a
unfolding select
params_same a = form_same (params_begin a) a

form_is : (form : ParamsBegin) (x : List Param) (ms : List Marked) → (params_form form).spells x ms → ParamsSpell x ms
unfolding bind made_of ret many sign_part
form_is p.Void _ _ (made _ _ (signed t q)) = void_params t q
form_is p.Int _ _ (seq x _ a _ g (made xs c r)) = some_params x xs a c (is_param x a g) (more_are xs c r)
form_is p.Other _ _ itself = no_params

is_params : (x : List Param) (ms : List Marked) → params_part.spells x ms → ParamsSpell x ms
unfolding select
is_params _ _ (chosen form x ms q g) = form_is form x ms g

params_are : (x : List Param) (ms : List Marked) → ParamsSpell x ms → params_part.spells x ms
unfolding select bind made_of ret many sign_part
params_are _ _ no_params = chosen p.Other [] [] refl itself
params_are _ _ (void_params t q) = chosen p.Void [] _ refl (made t.span.at (mark 1 t ∷ []) (signed t q))
params_are _ _ (some_params x xs a c g r) = chosen p.Int _ _ refl (seq x (x ∷ xs) a c (param_is x a g) (made xs c (are_more xs c r)))

ended_form : (rest : List Token) → starts_with (sign m.CloseParen) rest ≡ true → params_begin rest ≡ p.Other
ended_form rest h = let z = started (sign m.CloseParen) rest h in ap params_begin z.is ∙ ap params_kind z.kind

form_begins : (form : ParamsBegin) (x : List Param) (ms : List Marked) (rest : List Token) → (params_form form).spells x ms → starts_with (sign m.CloseParen) rest ≡ true
    → params_begin (tokens ms ++ rest) ≡ form
unfolding bind made_of ret many sign_part
form_begins p.Void _ _ rest (made _ _ (signed t q)) h = rw q refl
form_begins p.Int _ _ rest (seq _ _ _ c (seq _ _ _ d (signed t q) g) r) h = rw q refl
form_begins p.Other _ _ rest itself h = ended_form rest h

params_head : ByHead params_begin
params_head = by_head params_begin p.Other (λ t. params_kind t.kind) refl (λ t ts. refl)

form_law : (form : ParamsBegin) → Law 256 (List Param) (params_form form) Ended
form_law p.Void = law_made (λ _. []) Ended (law_sign 256 1 (omega arith) (word w.Void)) (λ x rest h. tt)
form_law p.Int = list_law
form_law p.Other = law_ret [] Ended

params_law : Law 256 (List Param) params_named Ended
params_law = law_same params_part params_named params_same is_params params_are
    (law_select params_begin each params_form p.Other refl params_head (λ form q. form_law form) (λ form x ms rest q g h. form_begins form x ms rest g h))

-- ---- functions, behind their names

abbrev pub function_of : ℕ → Bool → Bool → List ℕ → List Param → List Stmt → Item
function_of at is_async gives_int name params body = i.Function (record { at = at; is_async = is_async; gives_int = gives_int; name = name; params = params; body = body })

abbrev pub function_part : ℕ → Bool → Bool → List ℕ → Part Item
function_part at is_async gives_int name = bind (sign_part 0 (sign m.OpenParen))
    (λ _. bind params_named (λ ps. bind (sign_part 1 (sign m.CloseParen)) (λ _. made_of (block_named 1 255)
    (λ b. i.Function (record { at = at; is_async = is_async; gives_int = gives_int; name = name; params = ps; body = b.1 })))))

pub function_law : (at : ℕ) (is_async gives_int : Bool) (name : List ℕ) → Law 256 Item (function_part at is_async gives_int name) Any
function_law at is_async gives_int name = law_then (law_sign 256 0 (omega arith) (sign m.OpenParen))
    (λ _. law_bind params_law (λ ps a r h. law_then (law_sign 256 1 (omega arith) (sign m.CloseParen))
    (λ _. law_made (λ b. function_of at is_async gives_int name ps b.1) Any (block_law 256 1 255 (omega arith) (stmt_law 256 255 2 (omega arith))) (λ b rest h. tt)))
    (λ ps y c rest g h. begins_bound 1 (sign m.CloseParen) (λ _. made_of (block_named 1 255) (λ b. function_of at is_async gives_int name ps b.1)) y c rest g))
