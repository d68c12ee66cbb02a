-- The law of an item: each form by its first token, all as one part (`item_part`), which reads as `item_at` does (`item_reads`).
-- Behind `int` and a name, one token after the other is tried: `=`, `[`, `(`. So each test must fail where a later form is spelled, which is shown
-- by what that form begins with there (`after_size`, `after_function`).
use Rattle.std.proofs.Common.{◌≡◌, ℕ, Bool, true, false, List, ◌∷◌, ◌++◌, Some, None, Err, refl, arith}
use Rattle.std.specs.Prelude.{pos, if◌then◌else◌}
use Rattle.ac_tree.specs.declared.stmt.Stmt.{Stmt}
use Rattle.ac_tree.specs.declared.item.Item.{Item}
use Rattle.ac_tree.specs.declared.item.Item.TheVariants as i
use Rattle.ac_tree.specs.declared.item.Param.{Param}
use Rattle.ac_lexer.specs.declared.token.Word.TheVariants as w
use Rattle.ac_lexer.specs.declared.token.Mark.TheVariants as m
use Rattle.ac_lexer.specs.declared.token.Token.{Token}
use Rattle.ac_parser.specs.declared.forms.ItemBegins.{ItemBegins}
use Rattle.ac_parser.specs.declared.forms.ItemBegins.TheVariants as b
use Rattle.reading_laws.specs.Marks.{Marked, mark, tokens, IsMark}
use Rattle.ac_parser.specs.SpellingOfStatements.{BlockSpells}
use Rattle.ac_parser.specs.SpellingOfItems.{ParamsSpell}
use Rattle.reading_laws.specs.Readers.{halt, unexpected}
use Rattle.reading_laws.specs.Letters.{word, sign, same_mark, same_word, starts_with}
use Rattle.ac_parser.specs.inner.ReadsItems.{item_kind, item_begins, item_by, item_at}
use Rattle.reading_laws.proofs.Heads.{ByHead, by_head}
use Rattle.reading_laws.proofs.Parts.{Part, Law, Any, seq, made, first, second, law_then, law_made, law_either, law_select, bind, made_of, either, ret, select}
use Rattle.reading_laws.proofs.Rows.{many}
use Rattle.reading_laws.proofs.Letters.{signed, sign_part, law_sign, starts_by, name_part, law_name, number_part, law_number, negated_part, text_part, law_text}
use Rattle.reading_laws.proofs.Openings.{begins_bound, begins_made, no_bound, no_made}
use Rattle.ac_parser.proofs.CompoundLaws.{block_named}
use Rattle.ac_parser.proofs.ItemLaws.{signed_number, global_value, global_size, global_plain, global_value_law, global_size_law, global_plain_law, params_named, function_of, function_part}
use Rattle.ac_parser.proofs.ItemLaws.{function_law, semi_law}

-- ---- the forms

abbrev pub function_or_plain : ℕ → List ℕ → Part Item
function_or_plain at name = either (starts_with (sign m.OpenParen)) (function_part at false true name) (global_plain at name)

abbrev pub size_or_other : ℕ → List ℕ → Part Item
size_or_other at name = either (starts_with (sign m.OpenBracket)) (global_size at name) (function_or_plain at name)

abbrev pub int_part : Part Item
int_part = bind (sign_part 0 (word w.Int)) (λ at. bind (name_part 0) (λ n. either (starts_with (sign m.Assign)) (global_value at n.1) (size_or_other at n.1)))

abbrev pub void_part : Part Item
void_part = bind (sign_part 0 (word w.Void)) (λ at. bind (name_part 0) (λ n. function_part at false false n.1))

abbrev pub gives_part : Part Bool
gives_part = either (starts_with (word w.Int)) (made_of (sign_part 0 (word w.Int)) (λ _. true)) (made_of (sign_part 0 (word w.Void)) (λ _. false))

abbrev pub async_part : Part Item
async_part = bind (sign_part 0 (word w.Async)) (λ at. bind gives_part (λ g. bind (name_part 0) (λ n. function_part at true g n.1)))

abbrev pub channel_part : Part Item
channel_part = bind (sign_part 0 (word w.Channel)) (λ at. bind (name_part 0)
    (λ n. bind (sign_part 0 (sign m.OpenParen)) (λ _. bind (name_part 1) (λ from. bind (sign_part 1 (sign m.Comma)) (λ _. bind (name_part 1)
    (λ to. bind (sign_part 1 (sign m.Comma)) (λ _. bind (number_part 1) (λ cap. bind (sign_part 1 (sign m.CloseParen))
    (λ _. made_of (sign_part 0 (sign m.Semicolon)) (λ _. i.Channel at n.1 from.1 to.1 cap.1))))))))))

abbrev pub file_part : Part Item
file_part = bind (sign_part 0 (word w.File)) (λ at. bind (name_part 0)
    (λ n. bind (sign_part 0 (sign m.OpenParen)) (λ _. bind (text_part 1) (λ path. bind (sign_part 1 (sign m.CloseParen)) (λ _. made_of (sign_part 0 (sign m.Semicolon)) (λ _. i.File at n.1 path))))))

abbrev pub core_part : Part Item
core_part = bind (sign_part 0 (word w.Core)) (λ at. bind (name_part 0) (λ n. bind (sign_part 0 (sign m.OpenParen))
    (λ _. bind (name_part 1) (λ entry. bind (sign_part 1 (sign m.CloseParen)) (λ _. made_of (sign_part 0 (sign m.Semicolon)) (λ _. i.Core at n.1 entry.1))))))

abbrev pub form_part : ItemBegins → Part Item
form_part b.Int = int_part
form_part b.Void = void_part
form_part b.Async = async_part
form_part b.Channel = channel_part
form_part b.File = file_part
form_part b.Core = core_part
form_part b.Other = core_part

abbrev is_item : ItemBegins → Bool
is_item b.Other = false
is_item _ = true

abbrev pub item_part : Part Item
item_part = select item_begins is_item form_part b.Core refl

-- ---- the laws

after_size : (at : ℕ) (name : List ℕ) (x : Item) (ms : List Marked) (rest : List Token) → (size_or_other at name).spells x ms → starts_with (sign m.Assign) (tokens ms ++ rest) ≡ false
unfolding either same_mark
after_size at name _ _ rest (first x ms g) = no_bound (sign m.Assign) 0 (sign m.OpenBracket) refl
    (λ _. bind (number_part 1) (λ n. bind (sign_part 1 (sign m.CloseBracket)) (λ _. made_of (sign_part 0 (sign m.Semicolon)) (λ _. i.Global at name (Some n.1) (pos 0))))) x ms rest g
after_size at name _ _ rest (second _ _ (first x ms g)) = no_bound (sign m.Assign) 0 (sign m.OpenParen) refl
    (λ _. bind params_named (λ ps. bind (sign_part 1 (sign m.CloseParen)) (λ _. made_of (block_named 1 255) (λ b. function_of at false true name ps b.1)))) x ms rest g
after_size at name _ _ rest (second _ _ (second x ms g)) = no_made (sign m.Assign) 0 (sign m.Semicolon) refl (λ _. i.Global at name None (pos 0)) x ms rest g

after_function : (at : ℕ) (name : List ℕ) (x : Item) (ms : List Marked) (rest : List Token) → (function_or_plain at name).spells x ms → starts_with (sign m.OpenBracket) (tokens ms ++ rest) ≡ false
unfolding either same_mark
after_function at name _ _ rest (first x ms g) = no_bound (sign m.OpenBracket) 0 (sign m.OpenParen) refl
    (λ _. bind params_named (λ ps. bind (sign_part 1 (sign m.CloseParen)) (λ _. made_of (block_named 1 255) (λ b. function_of at false true name ps b.1)))) x ms rest g
after_function at name _ _ rest (second x ms g) = no_made (sign m.OpenBracket) 0 (sign m.Semicolon) refl (λ _. i.Global at name None (pos 0)) x ms rest g

function_or_plain_law : (at : ℕ) (name : List ℕ) → Law 256 Item (function_or_plain at name) Any
unfolding same_mark
function_or_plain_law at name = law_either (starts_with (sign m.OpenParen)) (starts_by (sign m.OpenParen)) (function_law at false true name) (global_plain_law at name)
    (λ x ms rest g h. begins_bound 0 (sign m.OpenParen) (λ _. bind params_named
    (λ ps. bind (sign_part 1 (sign m.CloseParen)) (λ _. made_of (block_named 1 255) (λ b. function_of at false true name ps b.1)))) x ms rest g)
    (λ x ms rest g h. no_made (sign m.OpenParen) 0 (sign m.Semicolon) refl (λ _. i.Global at name None (pos 0)) x ms rest g)

size_or_other_law : (at : ℕ) (name : List ℕ) → Law 256 Item (size_or_other at name) Any
size_or_other_law at name = law_either (starts_with (sign m.OpenBracket)) (starts_by (sign m.OpenBracket)) (global_size_law at name) (function_or_plain_law at name)
    (λ x ms rest g h. begins_bound 0 (sign m.OpenBracket) (λ _. bind (number_part 1)
    (λ n. bind (sign_part 1 (sign m.CloseBracket)) (λ _. made_of (sign_part 0 (sign m.Semicolon)) (λ _. i.Global at name (Some n.1) (pos 0))))) x ms rest g)
    (λ x ms rest g h. after_function at name x ms rest g)

int_law : Law 256 Item int_part Any
int_law = law_then (law_sign 256 0 (omega arith) (word w.Int)) (λ at. law_then (law_name 256 0 (omega arith))
    (λ n. law_either (starts_with (sign m.Assign)) (starts_by (sign m.Assign)) (global_value_law at n.1) (size_or_other_law at n.1)
    (λ x ms rest g h. begins_bound 0 (sign m.Assign) (λ _. bind signed_number (λ v. made_of (sign_part 0 (sign m.Semicolon)) (λ _. i.Global at n.1 None v))) x ms rest g)
    (λ x ms rest g h. after_size at n.1 x ms rest g)))

void_law : Law 256 Item void_part Any
void_law = law_then (law_sign 256 0 (omega arith) (word w.Void)) (λ at. law_then (law_name 256 0 (omega arith)) (λ n. function_law at false false n.1))

gives_law : Law 256 Bool gives_part Any
unfolding same_word
gives_law = law_either (starts_with (word w.Int)) (starts_by (word w.Int)) (law_made (λ _. true) Any (law_sign 256 0 (omega arith) (word w.Int)) (λ x rest h. tt))
    (law_made (λ _. false) Any (law_sign 256 0 (omega arith) (word w.Void)) (λ x rest h. tt))
    (λ x ms rest g h. begins_made 0 (word w.Int) (λ _. true) x ms rest g) (λ x ms rest g h. no_made (word w.Int) 0 (word w.Void) refl (λ _. false) x ms rest g)

async_law : Law 256 Item async_part Any
async_law = law_then (law_sign 256 0 (omega arith) (word w.Async)) (λ at. law_then gives_law (λ g. law_then (law_name 256 0 (omega arith)) (λ n. function_law at true g n.1)))

channel_law : Law 256 Item channel_part Any
channel_law = law_then (law_sign 256 0 (omega arith) (word w.Channel))
    (λ at. law_then (law_name 256 0 (omega arith)) (λ n. law_then (law_sign 256 0 (omega arith) (sign m.OpenParen))
    (λ _. law_then (law_name 256 1 (omega arith)) (λ from. law_then (law_sign 256 1 (omega arith) (sign m.Comma))
    (λ _. law_then (law_name 256 1 (omega arith)) (λ to. law_then (law_sign 256 1 (omega arith) (sign m.Comma))
    (λ _. law_then (law_number 256 1 (omega arith)) (λ cap. law_then (law_sign 256 1 (omega arith) (sign m.CloseParen)) (λ _. semi_law (i.Channel at n.1 from.1 to.1 cap.1))))))))))

file_law : Law 256 Item file_part Any
file_law = law_then (law_sign 256 0 (omega arith) (word w.File)) (λ at. law_then (law_name 256 0 (omega arith))
    (λ n. law_then (law_sign 256 0 (omega arith) (sign m.OpenParen)) (λ _. law_then (law_text 256 1 (omega arith))
    (λ path. law_then (law_sign 256 1 (omega arith) (sign m.CloseParen)) (λ _. semi_law (i.File at n.1 path))))))

core_law : Law 256 Item core_part Any
core_law = law_then (law_sign 256 0 (omega arith) (word w.Core)) (λ at. law_then (law_name 256 0 (omega arith))
    (λ n. law_then (law_sign 256 0 (omega arith) (sign m.OpenParen)) (λ _. law_then (law_name 256 1 (omega arith))
    (λ entry. law_then (law_sign 256 1 (omega arith) (sign m.CloseParen)) (λ _. semi_law (i.Core at n.1 entry.1))))))

form_law : (form : ItemBegins) → Law 256 Item (form_part form) Any
form_law b.Int = int_law
form_law b.Void = void_law
form_law b.Async = async_law
form_law b.Channel = channel_law
form_law b.File = file_law
form_law b.Core = core_law
form_law b.Other = core_law

form_begins : (form : ItemBegins) (x : Item) (ms : List Marked) (rest : List Token) → is_item form ≡ true → (form_part form).spells x ms → item_begins (tokens ms ++ rest) ≡ form
unfolding bind sign_part
form_begins b.Int _ _ rest z (seq _ _ _ c (signed t q) g) = rw q refl
form_begins b.Void _ _ rest z (seq _ _ _ c (signed t q) g) = rw q refl
form_begins b.Async _ _ rest z (seq _ _ _ c (signed t q) g) = rw q refl
form_begins b.Channel _ _ rest z (seq _ _ _ c (signed t q) g) = rw q refl
form_begins b.File _ _ rest z (seq _ _ _ c (signed t q) g) = rw q refl
form_begins b.Core _ _ rest z (seq _ _ _ c (signed t q) g) = rw q refl
form_begins b.Other x ms rest z g = cc

item_head : ByHead item_begins
item_head = by_head item_begins b.Other (λ t. item_kind t.kind) refl (λ t ts. refl)

pub item_part_law : Law 256 Item item_part Any
item_part_law = law_select item_begins is_item form_part b.Core refl item_head (λ form q. form_law form) (λ form x ms rest q g h. form_begins form x ms rest q g)

form_reads : (form : ItemBegins) (a : List Token) → item_by form a ≡ (if is_item form then (form_part form).read a else Err (halt unexpected a))
unfolding bind made_of either ret select many sign_part name_part number_part negated_part text_part
form_reads b.Int a = refl
form_reads b.Void a = refl
form_reads b.Async a = refl
form_reads b.Channel a = refl
form_reads b.File a = refl
form_reads b.Core a = refl
form_reads b.Other a = refl

pub item_reads : (a : List Token) → item_at a ≡ item_part.read a
unfolding select item_at
item_reads a = form_reads (item_begins a) a

-- ---- what they spell

pub is_function : (at : ℕ) (is_async gives_int : Bool) (name : List ℕ) (Q : Item → List Marked → Type 0)
    → ((l r : Token) (ps : List Param) (a : List Marked) (place : ℕ) (body : List Stmt) (c : List Marked) → IsMark m.OpenParen l → ParamsSpell ps a → IsMark m.CloseParen r → BlockSpells 1 place body c
    → Q (function_of at is_async gives_int name ps body) (mark 0 l ∷ (a ++ mark 1 r ∷ c))) → (x : Item) (ms : List Marked) → (function_part at is_async gives_int name).spells x ms → Q x ms
unfolding bind made_of sign_part
is_function at is_async gives_int name Q f _ _ (seq _ _ _ _ (signed l q) (seq ps _ a _ g (seq _ _ _ _ (signed r j) (made body c h)))) = f l r ps a body.0 body.1 c q g j h

pub function_is : (at : ℕ) (is_async gives_int : Bool) (name : List ℕ) (l r : Token) (ps : List Param) (a : List Marked) (place : ℕ) (body : List Stmt) (c : List Marked) → IsMark m.OpenParen l
    → ParamsSpell ps a → IsMark m.CloseParen r → BlockSpells 1 place body c
    → (function_part at is_async gives_int name).spells (function_of at is_async gives_int name ps body) (mark 0 l ∷ (a ++ mark 1 r ∷ c))
unfolding bind made_of sign_part
function_is at is_async gives_int name l r ps a place body c q g j h = seq l.span.at _ _ _ (signed l q) (seq ps _ a _ g (seq r.span.at _ _ _ (signed r j) (made (place, body) c h)))
