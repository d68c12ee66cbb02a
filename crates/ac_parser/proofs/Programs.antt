-- The law of a program's items: an item's part spells what the grammar does (`is_item` by form, `item_is` by its cases), so each item has that
-- law, and so have all of them up to the end of the tokens (`items_law`, by the law of rows).
use Rattle.std.proofs.Common.{◌≡◌, ℕ, ℤ, ◌≤◌, Bool, true, false, List, [], ◌∷◌, ◌++◌, length, Some, None, refl, ap, arith}
use Rattle.std.specs.Prelude.{pos}
use Rattle.ac_tree.specs.declared.item.Item.{Item}
use Rattle.ac_tree.specs.declared.item.Item.TheVariants as i
use Rattle.ac_lexer.specs.declared.token.Word.TheVariants as w
use Rattle.ac_lexer.specs.declared.token.Mark.TheVariants as m
use Rattle.ac_lexer.specs.declared.token.Token.{Token}
use Rattle.ac_parser.specs.declared.forms.ItemBegins.{ItemBegins}
use Rattle.ac_parser.specs.declared.forms.ItemBegins.TheVariants as b
use Rattle.reading_laws.specs.Marks.{Marked, mark, tokens, IsWord, IsMark, IsName}
use Rattle.ac_parser.specs.SpellingOfItems.{GlobalValueSpells, zero_value, plain_value, negative_value, ItemSpells, global, global_array, function, async_function, channel, file, core}
use Rattle.reading_laws.specs.Letters.{sign}
use Rattle.reading_laws.specs.inner.Tokens.{has_token}
use Rattle.ac_parser.specs.inner.ReadsItems.{item_at}
use Rattle.reading_laws.proofs.Heads.{ByHead, by_head}
use Rattle.reading_laws.proofs.Parts.{Part, Law, Any, seq, made, Either_of, first, second, chosen, law_same, bind, made_of, either, select}
use Rattle.reading_laws.proofs.Rows.{many, law_many}
use Rattle.reading_laws.proofs.Letters.{signed, sign_part, named, name_part, numbered, number_part, negated, negated_part, texted, text_part}
use Rattle.reading_laws.proofs.Openings.{by_last, last_is}
use Rattle.ac_parser.proofs.ItemLaws.{global_value, is_global_value, is_global_size, is_global_plain, function_part}
use Rattle.ac_parser.proofs.ProgramLaws.{size_or_other, int_part, void_part, gives_part, async_part, channel_part, file_part, core_part, form_part, item_part, item_part_law, item_reads, is_function}
use Rattle.ac_parser.proofs.ProgramLaws.{function_is}

-- ---- items

int_case : (t n : Token) (name : List ℕ) → IsWord w.Int t → IsName name n → (x : Item) (a : List Marked) → Either_of Item (global_value t.span.at name).spells (size_or_other t.span.at name).spells x a
    → ItemSpells x (mark 0 t ∷ mark 0 n ∷ a)
unfolding either
int_case t n name q r _ _ (first x a g) = is_global_value t n name q r x a g
int_case t n name q r _ _ (second _ _ (first x a g)) = is_global_size t n name q r x a g
int_case t n name q r _ _ (second _ _ (second _ _ (first x a g))) =
    is_function t.span.at false true name (λ x a. ItemSpells x (mark 0 t ∷ mark 0 n ∷ a)) (λ l u ps a place body c i h j d. function t n l u true name ps place body a c q r i h j d) x a g
int_case t n name q r _ _ (second _ _ (second _ _ (second x a g))) = is_global_plain t n name q r x a g

is_int : (x : Item) (ms : List Marked) → int_part.spells x ms → ItemSpells x ms
unfolding bind sign_part name_part either
is_int _ _ (seq _ _ _ _ (signed t q) (seq _ x _ a (named n name r) g)) = int_case t n name q r x a g

is_void : (x : Item) (ms : List Marked) → void_part.spells x ms → ItemSpells x ms
unfolding bind sign_part name_part
is_void _ _ (seq _ _ _ _ (signed t q) (seq _ x _ a (named n name r) g)) =
    is_function t.span.at false false name (λ x a. ItemSpells x (mark 0 t ∷ mark 0 n ∷ a)) (λ l u ps a place body c i h j d. function t n l u false name ps place body a c q r i h j d) x a g

async_case : (t n : Token) (name : List ℕ) → IsWord w.Async t → IsName name n → (g : Bool) (a : List Marked) → gives_part.spells g a → (x : Item) (c : List Marked)
    → (function_part t.span.at true g name).spells x c → ItemSpells x (mark 0 t ∷ (a ++ mark 0 n ∷ c))
unfolding either made_of sign_part
async_case t n name q r _ _ (first _ _ (made _ _ (signed u v))) x c h =
    is_function t.span.at true true name (λ x c. ItemSpells x (mark 0 t ∷ mark 0 u ∷ mark 0 n ∷ c))
    (λ l e ps a place body c i h j d. async_function t u n l e true name ps place body a c q v r i h j d) x c h
async_case t n name q r _ _ (second _ _ (made _ _ (signed u v))) x c h =
    is_function t.span.at true false name (λ x c. ItemSpells x (mark 0 t ∷ mark 0 u ∷ mark 0 n ∷ c))
    (λ l e ps a place body c i h j d. async_function t u n l e false name ps place body a c q v r i h j d) x c h

is_async : (x : Item) (ms : List Marked) → async_part.spells x ms → ItemSpells x ms
unfolding bind sign_part name_part
is_async _ _ (seq _ _ _ _ (signed t q) (seq g _ a _ h (seq _ x _ c (named n name r) d))) = async_case t n name q r g a h x c d

is_channel : (x : Item) (ms : List Marked) → channel_part.spells x ms → ItemSpells x ms
unfolding bind sign_part name_part number_part
is_channel _ _ (seq _ _ _ _ (signed t q) (seq _ _ _ _ (named n name r)
    (seq _ _ _ _ (signed l j) (seq _ _ _ _ (named u from v) (seq _ _ _ _ (signed c g)
    (seq _ _ _ _ (named d to h) (seq _ _ _ _ (signed e z) (seq _ _ _ _ (numbered o cap y) (seq _ x _ f (signed p s) last))))))))) =
    by_last (λ x f. ItemSpells x (mark 0 t ∷ mark 0 n ∷ mark 0 l ∷ mark 1 u ∷ mark 1 c ∷ mark 1 d ∷ mark 1 e ∷ mark 1 o ∷ mark 1 p ∷ f)) 0 (sign m.Semicolon)
    (i.Channel t.span.at name from to cap) x f last
    (λ k b. channel t n l u c d e o p k name from to cap q r j v g h z y s b)

is_file : (x : Item) (ms : List Marked) → file_part.spells x ms → ItemSpells x ms
unfolding bind sign_part name_part text_part
is_file _ _ (seq _ _ _ _ (signed t q) (seq _ _ _ _ (named n name r) (seq _ _ _ _ (signed l j) (seq _ _ _ _ (texted u path v) (seq _ x _ f (signed c g) last))))) =
    by_last (λ x f. ItemSpells x (mark 0 t ∷ mark 0 n ∷ mark 0 l ∷ mark 1 u ∷ mark 1 c ∷ f)) 0 (sign m.Semicolon) (i.File t.span.at name path) x f last (λ k b. file t n l u c k name path q r j v g b)

is_core : (x : Item) (ms : List Marked) → core_part.spells x ms → ItemSpells x ms
unfolding bind sign_part name_part
is_core _ _ (seq _ _ _ _ (signed t q) (seq _ _ _ _ (named n name r) (seq _ _ _ _ (signed l j) (seq _ _ _ _ (named u entry v) (seq _ x _ f (signed c g) last))))) =
    by_last (λ x f. ItemSpells x (mark 0 t ∷ mark 0 n ∷ mark 0 l ∷ mark 1 u ∷ mark 1 c ∷ f)) 0 (sign m.Semicolon) (i.Core t.span.at name entry) x f last
    (λ k b. core t n l u c k name entry q r j v g b)

is_form : (form : ItemBegins) (x : Item) (ms : List Marked) → (form_part form).spells x ms → ItemSpells x ms
is_form b.Int x ms g = is_int x ms g
is_form b.Void x ms g = is_void x ms g
is_form b.Async x ms g = is_async x ms g
is_form b.Channel x ms g = is_channel x ms g
is_form b.File x ms g = is_file x ms g
is_form b.Core x ms g = is_core x ms g
is_form b.Other x ms g = is_core x ms g

pub is_item : (x : Item) (ms : List Marked) → item_part.spells x ms → ItemSpells x ms
unfolding select
is_item _ _ (chosen form x ms q g) = is_form form x ms g

value_is : (t n u : Token) (name : List ℕ) (v : ℤ) (a : List Marked) → GlobalValueSpells v a → IsWord w.Int t → IsName name n → IsMark m.Semicolon u
    → item_part.spells (i.Global t.span.at name None v) (mark 0 t ∷ mark 0 n ∷ (a ++ mark 0 u ∷ []))
unfolding select bind made_of either sign_part name_part number_part negated_part
value_is t n u name _ _ zero_value q r z = chosen b.Int _ _ refl (seq t.span.at _ _ _ (signed t q)
    (seq (n.span.at, name) _ _ _ (named n name r) (second _ _ (second _ _ (second _ _ (last_is 0 (sign m.Semicolon) (i.Global t.span.at name None (pos 0)) u z))))))
value_is t n u name _ _ (plain_value e o v j y) q r z = chosen b.Int _ _ refl
    (seq t.span.at _ _ _ (signed t q) (seq (n.span.at, name) _ _ _ (named n name r) (first _ _ (seq e.span.at _ _ _ (signed e j)
    (seq v _ (mark 0 o ∷ []) _ (second _ _ (made (o.span.at, v) (mark 0 o ∷ []) (numbered o v y))) (last_is 0 (sign m.Semicolon) (i.Global t.span.at name None v) u z))))))
value_is t n u name v _ (negative_value e c o k j d y) q r z = chosen b.Int _ _ refl
    (seq t.span.at _ _ _ (signed t q) (seq (n.span.at, name) _ _ _ (named n name r) (first _ _ (seq e.span.at _ _ _ (signed e j)
    (seq _ _ (mark 0 c ∷ mark 0 o ∷ []) _ (first _ _ (seq c.span.at _ (mark 0 c ∷ []) (mark 0 o ∷ []) (signed c d) (negated o k y))) (last_is 0 (sign m.Semicolon) _ u z))))))

-- a case for each form of the grammar: its tokens, in the order in which the parts read them
item_is : (x : Item) (ms : List Marked) → ItemSpells x ms → item_part.spells x ms
unfolding select bind made_of either sign_part name_part number_part text_part
item_is _ _ (global t n u name v a q r g z) = value_is t n u name v a g q r z
item_is _ _ (global_array t n l u d f name size q r j v z g) = chosen b.Int _ _ refl (seq t.span.at _ _ _ (signed t q) (seq (n.span.at, name) _ _ _ (named n name r) (second _ _ (first _ _
    (seq l.span.at _ _ _ (signed l j) (seq (u.span.at, size) _ _ _ (numbered u size v)
    (seq d.span.at _ _ _ (signed d z) (last_is 0 (sign m.Semicolon) (i.Global t.span.at name (Some size) (pos 0)) f g))))))))
item_is _ _ (function t n l u true name ps place body a c q r j g h d) =
    chosen b.Int _ _ refl (seq t.span.at _ _ _ (signed t q) (seq (n.span.at, name) _ _ _ (named n name r)
    (second _ _ (second _ _ (first _ _ (function_is t.span.at false true name l u ps a place body c j g h d))))))
item_is _ _ (function t n l u false name ps place body a c q r j g h d) =
    chosen b.Void _ _ refl (seq t.span.at _ _ _ (signed t q) (seq (n.span.at, name) _ _ _ (named n name r) (function_is t.span.at false false name l u ps a place body c j g h d)))
item_is _ _ (async_function t o n l u true name ps place body a c q v r j g h d) =
    chosen b.Async _ _ refl (seq t.span.at _ _ _ (signed t q) (seq true _ (mark 0 o ∷ []) _ (first _ _ (made o.span.at (mark 0 o ∷ []) (signed o v)))
    (seq (n.span.at, name) _ _ _ (named n name r) (function_is t.span.at true true name l u ps a place body c j g h d))))
item_is _ _ (async_function t o n l u false name ps place body a c q v r j g h d) =
    chosen b.Async _ _ refl (seq t.span.at _ _ _ (signed t q) (seq false _ (mark 0 o ∷ []) _ (second _ _ (made o.span.at (mark 0 o ∷ []) (signed o v)))
    (seq (n.span.at, name) _ _ _ (named n name r) (function_is t.span.at true false name l u ps a place body c j g h d))))
item_is _ _ (channel t n l u c d e o p k name from to cap q r j v g h z y s x) =
    chosen b.Channel _ _ refl (seq t.span.at _ _ _ (signed t q) (seq (n.span.at, name) _ _ _ (named n name r) (seq l.span.at _ _ _ (signed l j) (seq (u.span.at, from) _ _ _ (named u from v)
    (seq c.span.at _ _ _ (signed c g) (seq (d.span.at, to) _ _ _ (named d to h)
    (seq e.span.at _ _ _ (signed e z) (seq (o.span.at, cap) _ _ _ (numbered o cap y)
    (seq p.span.at _ _ _ (signed p s) (last_is 0 (sign m.Semicolon) (i.Channel t.span.at name from to cap) k x))))))))))
item_is _ _ (file t n l u c k name path q r j v g z) = chosen b.File _ _ refl
    (seq t.span.at _ _ _ (signed t q) (seq (n.span.at, name) _ _ _ (named n name r) (seq l.span.at _ _ _ (signed l j) (seq path _ _ _ (texted u path v)
    (seq c.span.at _ _ _ (signed c g) (last_is 0 (sign m.Semicolon) (i.File t.span.at name path) k z))))))
item_is _ _ (core t n l u c k name entry q r j v g z) = chosen b.Core _ _ refl
    (seq t.span.at _ _ _ (signed t q) (seq (n.span.at, name) _ _ _ (named n name r) (seq l.span.at _ _ _ (signed l j) (seq (u.span.at, entry) _ _ _ (named u entry v)
    (seq c.span.at _ _ _ (signed c g) (last_is 0 (sign m.Semicolon) (i.Core t.span.at name entry) k z))))))

abbrev pub item_named : Part Item
item_named = record {
  read = item_at;
  spells = ItemSpells;
  filled = record {
    value = item_part.filled.value;
    marks = item_part.filled.marks;
    spells = is_item item_part.filled.value item_part.filled.marks item_part.filled.spells;
  };
}

item_law : Law 256 Item item_named Any
item_law = law_same item_part item_named item_reads is_item item_is item_part_law

-- ---- several items

item_one : (x : Item) (ms : List Marked) → ItemSpells x ms → 1 ≤ length ms
item_one _ _ (global t n u name v a q r g z) = omega arith
item_one _ _ (global_array t n l u d f name size q r j v z g) = omega arith
item_one _ _ (function t n l u y name ps place body a c q r j g h d) = omega arith
item_one _ _ (async_function t o n l u y name ps place body a c q v r j g h d) = omega arith
item_one _ _ (channel t n l u c d e o p k name from to cap q r j v g h z y s x) = omega arith
item_one _ _ (file t n l u c k name path q r j v g z) = omega arith
item_one _ _ (core t n l u c k name entry q r j v g z) = omega arith

has_some : (ms : List Marked) (rest : List Token) → 1 ≤ length ms → has_token (tokens ms ++ rest) ≡ true
has_some [] rest le = absurd (omega arith)
has_some (x ∷ ms) rest le = refl

none_left : (rest : List Token) → rest ≡ [] → has_token rest ≡ false
none_left rest h = ap has_token h

token_by : ByHead has_token
token_by = by_head has_token false (λ t. true) refl (λ t ts. refl)

abbrev pub items_part : Part (List Item)
items_part = many has_token item_named

pub items_law : Law 256 (List Item) items_part (λ xs rest. rest ≡ [])
items_law = law_many has_token (λ rest. rest ≡ []) token_by refl item_law item_one (λ x ms rest g. has_some ms rest (item_one x ms g)) none_left (λ x rest h. tt) (λ x y ms rest g. tt)
