-- The paths of the files of an accepted program: at most 16 texts, which differ. A path is a text of the source, whose bytes are below
-- 128; a program that breaks no rule declares each path once and at most 16 files.
use Rattle.std.proofs.Common.{◌≡◌, ◌≢◌, ℕ, zero, suc, ◌+◌, ◌<◌, ◌≤◌, Bool, true, false, List, [], ◌∷◌, ◌++◌}
use Rattle.std.proofs.Common.{length, Option, None, Some, Ok, Err, refl, sym, ◌∙◌, subst, inl, inr, arith, if◌then◌else◌}
use Rattle.std.specs.Prelude.{All, AllPairs, slice_index_or, nat_le, Result}
use Rattle.std.specs.Str.{IsUtf8, IsAscii, bytes_eq}
use Rattle.std.proofs.lemmas.Str.{IsUtf8-from_ascii}
use Rattle.std.proofs.lemmas.Slice.Eq.{bytes_eq-Decides}
use Rattle.std.proofs.lemmas.Bool.{cases_lt}
use Rattle.std.proofs.lemmas.Bool.Decides.{nat_tests}
use Rattle.std.proofs.lemmas.List.Kept.{AllPairs-cons}
use Rattle.ac_lexer.specs.declared.token.Kind.{Kind}
use Rattle.ac_lexer.specs.declared.token.Kind.TheVariants as k
use Rattle.ac_lexer.specs.declared.token.Token.{Token}
use Rattle.ac_lexer.specs.declared.fault.LexFault.{LexFault}
use Rattle.ac_lexer.specs.Spelling.{placed}
use Rattle.ac_lexer.specs.Tokens.{is_plain, Body, body_end, body_plain, body_escape, Spelled, before, LexesFrom}
use Rattle.ac_lexer.specs.Tokens.{Spelled as spelled_by}
use Rattle.ac_lexer.specs.Tokens.LexesFrom.{end, gap, token, fault}
use Rattle.reading_laws.specs.Marks.{Marked, tokens}
use Rattle.reading_laws.proofs.Marking.{tokens_append}
use Rattle.ac_parser.specs.SpellingOfItems.{ItemSpells, ItemsSpell, no_item, one_item}
use Rattle.ac_parser.specs.SpellingOfItems.{ItemSpells as spells}
use Rattle.ac_parser.proofs.Shaped.{spelled_shape}
use Rattle.ac_tree.specs.declared.item.Item.{Item}
use Rattle.ac_tree.specs.declared.item.Item.TheVariants as i
use Rattle.ac_tree.specs.declared.item.Program.{Program}
use Rattle.ac_names.specs.declared.meaning.Meaning.{Meaning}
use Rattle.ac_names.specs.declared.meaning.Meaning.TheVariants as m
use Rattle.ac_names.specs.declared.past.Past.{Past}
use Rattle.ac_names.specs.Scopes.{Declaration, in_scope, added, or_else}
use Rattle.ac_names.specs.Items.{past_after, no_past, outermost}
use Rattle.ac_names.specs.Numbered.{file_paths}
use Rattle.ac_types.specs.declared.numbered.Tables.{Tables}
use Rattle.ac_types.specs.Nodes.{Node}
use Rattle.ac_types.specs.Expressions.{one_node, join_nodes}
use Rattle.ac_names.specs.Kinds.{is_declared, either}
use Rattle.ac_types.specs.Items.{items_give, item_gives, tables_of}
use Rattle.ac_types.proofs.Cleans.{AllClean, clean_program, clean_sooner, clean_later}
use Rattle.ac_resolve.proofs.ProgramInPlace.{all_in_place}
use Rattle.program_reading.specs.Source.{IsAccepted}

-- ---- the bytes of a text are low

abbrev IsLow : List ℕ → Type 0
IsLow [] = Unit {0}
IsLow (v ∷ vs) = (v < 128) × IsLow vs

plain_low : (b : ℕ) → is_plain b ≡ true → b < 128
plain_low b h =
    elim (cases_lt b 128) [
      | inl less ↦ less
      | inr more ↦
          let least : nat_le 32 b ≡ true = grind (arith, nat_tests) in
          let most : nat_le b 126 ≡ false = grind (arith, nat_tests) in
          absurd (cc (rw (least, most) at h))
    ]

chosen_low : (a b c d : Bool) (v : ℕ) → (if a then Some 10 else (if b then Some 9 else (if c then Some 92 else (if d then Some 34 else None)))) ≡ Some v → v < 128
chosen_low true b c d v e = let s : 10 ≡ v = cc (e) in omega (arith, s)
chosen_low false true c d v e = let s : 9 ≡ v = cc (e) in omega (arith, s)
chosen_low false false true d v e = let s : 92 ≡ v = cc (e) in omega (arith, s)
chosen_low false false false true v e = let s : 34 ≡ v = cc (e) in omega (arith, s)
chosen_low false false false false v e = absurd (cc (e))

body_low : (bs vs : List ℕ) → Body bs vs → IsLow vs
body_low _ _ body_end = tt
body_low _ _ (body_plain b bs vs p rest) = (plain_low b p, body_low bs vs rest)
body_low _ _ (body_escape b v bs vs e rest) = (chosen_low _ _ _ _ v e, body_low bs vs rest)

ascii : (vs : List ℕ) → IsLow vs → IsAscii vs
ascii [] h at = omega arith
ascii (v ∷ vs) h zero = h.0
ascii (v ∷ vs) h (suc at) = ascii vs h.1 at

-- ---- and so are those of the texts of a source

abbrev LowKind : Kind → Type 0
LowKind (k.Name x) = Unit {0}
LowKind (k.Number x) = Unit {0}
LowKind (k.Text vs) = IsLow vs
LowKind (k.Word x) = Unit {0}
LowKind (k.Mark x) = Unit {0}

abbrev LowTokens : List Token → Type 0
LowTokens [] = Unit {0}
LowTokens (t ∷ ts) = LowKind t.kind × LowTokens ts

abbrev MayBeLow : Result (List Token) LexFault → Type 0
MayBeLow (Ok ts) = LowTokens ts
MayBeLow (Err f) = Unit {0}

spelled_low : (kind : Kind) (a : List ℕ) → Spelled kind a → LowKind kind
spelled_low _ _ (spelled_by.name b bs l e n) = tt
spelled_low _ _ (spelled_by.word w) = tt
spelled_low _ _ spelled_by.nought = tt
spelled_low _ _ (spelled_by.number b bs d z e v) = tt
spelled_low _ _ (spelled_by.text bs vs body) = body_low bs vs body
spelled_low _ _ (spelled_by.mark s) = tt

before_low : (t : Token) (given : Result (List Token) LexFault) → LowKind t.kind → MayBeLow given → MayBeLow (before t given)
before_low t (Ok ts) l h = (l, h)
before_low t (Err f) l h = tt

lexes_low : (at : ℕ) (bs : List ℕ) (given : Result (List Token) LexFault) → LexesFrom at bs given → MayBeLow given
lexes_low _ _ _ (end at) = tt
lexes_low _ _ _ (gap at a rest given g h) = lexes_low (at + length a) rest given h
lexes_low _ _ _ (token at kind a rest given s h) = before_low (placed kind at (at + length a)) given (spelled_low kind a s.spelled) (lexes_low (at + length a) rest given h)
lexes_low _ _ _ (fault at bs f h) = tt

low_sooner : (ts us : List Token) → LowTokens (ts ++ us) → LowTokens ts
low_sooner [] us h = tt
low_sooner (t ∷ ts) us h = (h.0, low_sooner ts us h.1)

low_later : (ts us : List Token) → LowTokens (ts ++ us) → LowTokens us
low_later [] us h = h
low_later (t ∷ ts) us h = low_later ts us h.1

-- ---- a path is such a text

abbrev PathIsLow : Item → Type 0
PathIsLow (i.Global at name size value) = Unit {0}
PathIsLow (i.Function f) = Unit {0}
PathIsLow (i.Channel at name from to cap) = Unit {0}
PathIsLow (i.File at name path) = IsLow path
PathIsLow (i.Core at name entry) = Unit {0}

path_low : (x : Item) (ms : List Marked) → ItemSpells x ms → LowTokens (tokens ms) → PathIsLow x
path_low _ _ (spells.global head named semicolon name value ms a b c d) h = tt
path_low _ _ (spells.global_array head named left sized right semicolon name size a b c d e f) h = tt
path_low _ _ (spells.function head named left right gives_int name params at body ps bs a b c d e f) h = tt
path_low _ _ (spells.async_function head given named left right gives_int name params at body ps bs a b c d e f g) h = tt
path_low _ _ (spells.channel head named left sender comma receiver second number right semicolon name from to cap a b c d e f g j l o) h = tt
path_low _ _ (spells.file head named left text right semicolon name path a b c is_text e f) h = subst LowKind is_text h.1.1.1.0
path_low _ _ (spells.core head named left entered right semicolon name entry a b c d e f) h = tt

abbrev PathsAreLow : List Item → Type 0
PathsAreLow [] = Unit {0}
PathsAreLow (x ∷ xs) = PathIsLow x × PathsAreLow xs

items_low : (xs : List Item) (ms : List Marked) → ItemsSpell xs ms → LowTokens (tokens ms) → PathsAreLow xs
items_low _ _ no_item h = tt
items_low _ _ (one_item x xs ms ns here rest) h =
    let split = subst LowTokens (tokens_append ms ns) h in
    (path_low x ms here (low_sooner (tokens ms) (tokens ns) split), items_low xs ns rest (low_later (tokens ms) (tokens ns) split))

are_texts : (xs : List Item) → PathsAreLow xs → All IsUtf8 (file_paths xs)
are_texts [] h at d less = absurd (omega (arith, less))
are_texts (i.Global x name size value ∷ xs) h at d less = are_texts xs h.1 at d less
are_texts (i.Function f ∷ xs) h at d less = are_texts xs h.1 at d less
are_texts (i.Channel x name from to cap ∷ xs) h at d less = are_texts xs h.1 at d less
are_texts (i.File x name path ∷ xs) h zero d less = IsUtf8-from_ascii path (ascii path h.0)
are_texts (i.File x name path ∷ xs) h (suc at) d less = are_texts xs h.1 at d (omega (arith, less))
are_texts (i.Core x name entry ∷ xs) h at d less = are_texts xs h.1 at d less

-- ---- a path is declared once

in_either : (name : List ℕ) (a b : List Declaration) → in_scope name (a ++ b) ≡ or_else (in_scope name a) (in_scope name b)
in_either name [] b = refl
in_either name (d ∷ a) b = by (in_either name a b) (bytes_eq d.name name) refl where
  by : in_scope name (a ++ b) ≡ or_else (in_scope name a) (in_scope name b) → (same : Bool) → bytes_eq d.name name ≡ same
      → in_scope name ((d ∷ a) ++ b) ≡ or_else (in_scope name (d ∷ a)) (in_scope name b)
  by h true e = rw e refl
  by h false e = rw e h

first_none : {A : Type 0} (a b : Option A) → or_else a b ≡ None → a ≡ None
first_none None b e = refl
first_none (Some x) b e = absurd (cc (e))

second_none : {A : Type 0} (a b : Option A) → or_else a b ≡ None → b ≡ None
second_none None b e = e
second_none (Some x) b e = absurd (cc (e))

same_name : (path : List ℕ) → bytes_eq path path ≡ true
same_name path = (bytes_eq-Decides path path).1 refl

-- what is not there once a path was added was not there before, and is another path
pub record IsOther (path other : List ℕ) (scope : List Declaration) : Type 0 where
  pub absent : in_scope other scope ≡ None
  pub differs : path ≢ other

some_is_other : (path other : List ℕ) (scope : List Declaration) (meaning found : Meaning) → in_scope path scope ≡ Some found → in_scope other scope ≡ None → IsOther path other scope
some_is_other path other scope meaning found f e = record { absent = e; differs = λ same. let there = subst (λ (p : List ℕ). in_scope p scope ≡ Some found) same f in cc (there, e) }

none_is_other : (path other : List ℕ) (scope : List Declaration) (meaning : Meaning) → in_scope other (scope ++ record { name = path; meaning = meaning } ∷ []) ≡ None → IsOther path other scope
none_is_other path other scope meaning e =
    let parts = sym (in_either other scope (record { name = path; meaning = meaning } ∷ [])) ∙ e in
    record {
      absent = first_none (in_scope other scope) (in_scope other (record { name = path; meaning = meaning } ∷ [])) parts;
      differs = λ same.
          let here : in_scope other (record { name = path; meaning = meaning } ∷ []) ≡ Some meaning =
          subst (λ (p : List ℕ). in_scope p (record { name = path; meaning = meaning } ∷ []) ≡ Some meaning) same (rw (same_name path) refl) in
          let none = second_none (in_scope other scope) (in_scope other (record { name = path; meaning = meaning } ∷ [])) parts in cc (here, none);
    }

is_other : (path other : List ℕ) (scope : List Declaration) (meaning : Meaning) → in_scope other (added path meaning scope) ≡ None → IsOther path other scope
is_other path other scope meaning e = by (in_scope path scope) refl where
  by : (found : Option Meaning) → in_scope path scope ≡ found → IsOther path other scope
  by None f = none_is_other path other scope meaning (rw f at e)
  by (Some x) f = some_is_other path other scope meaning x f (rw f at e)

not_either : (x y : Bool) → (either x y ≡ true → ⊥) → y ≡ false
not_either true y n = absurd (n refl)
not_either false true n = absurd (n refl)
not_either false false n = refl

not_declared : (found : Option Meaning) → is_declared found ≡ false → found ≡ None
not_declared None e = refl
not_declared (Some x) e = absurd (cc (e))

module _ (t : Tables) (s : List (List Declaration)) where
  abbrev nodes_of : Past → List Item → List Node
  nodes_of q xs = items_give (List Node) one_node [] join_nodes q xs t s

  rest_clean : (q : Past) (x : Item) (xs : List Item) → AllClean (nodes_of q (x ∷ xs)) → AllClean (nodes_of (past_after q x) xs)
  rest_clean q x xs c = clean_later (item_gives (List Node) one_node [] join_nodes q x t s) (nodes_of (past_after q x) xs) c

  -- the path of a file is not among those before it
  here_clean : (q : Past) (at : ℕ) (name path : List ℕ) (xs : List Item) → AllClean (nodes_of q (i.File at name path ∷ xs)) → in_scope path q.paths ≡ None
  here_clean q at name path xs c =
      let first = (clean_sooner (item_gives (List Node) one_node [] join_nodes q (i.File at name path) t s) (nodes_of (past_after q (i.File at name path)) xs) c).0 in
      not_declared (in_scope path q.paths) (not_either (nat_le 16 q.counts.files) (is_declared (in_scope path q.paths)) (λ e. first 17 (inr (inl (refl, e)))))

  are_new : (q : Past) (xs : List Item) → AllClean (nodes_of q xs) → All (λ path. in_scope path q.paths ≡ None) (file_paths xs)
  are_new q [] c at d less = absurd (omega (arith, less))
  are_new q (i.Global x name size value ∷ xs) c at d less = are_new (past_after q (i.Global x name size value)) xs (rest_clean q (i.Global x name size value) xs c) at d less
  are_new q (i.Function f ∷ xs) c at d less = are_new (past_after q (i.Function f)) xs (rest_clean q (i.Function f) xs c) at d less
  are_new q (i.Channel x name from to cap ∷ xs) c at d less = are_new (past_after q (i.Channel x name from to cap)) xs (rest_clean q (i.Channel x name from to cap) xs c) at d less
  are_new q (i.File x name path ∷ xs) c zero d less = here_clean q x name path xs c
  are_new q (i.File x name path ∷ xs) c (suc at) d less =
      (is_other path (slice_index_or (file_paths xs) at d) q.paths (m.File q.counts.files)
      (are_new (past_after q (i.File x name path)) xs (rest_clean q (i.File x name path) xs c) at d (omega (arith, less)))).absent
  are_new q (i.Core x name entry ∷ xs) c at d less = are_new (past_after q (i.Core x name entry)) xs (rest_clean q (i.Core x name entry) xs c) at d less

  they_differ : (q : Past) (xs : List Item) → AllClean (nodes_of q xs) → AllPairs (λ path other. path ≢ other) (file_paths xs)
  they_differ q [] c a b d less few = absurd (omega (arith, few))
  they_differ q (i.Global x name size value ∷ xs) c a b d less few = they_differ (past_after q (i.Global x name size value)) xs (rest_clean q (i.Global x name size value) xs c) a b d less few
  they_differ q (i.Function f ∷ xs) c a b d less few = they_differ (past_after q (i.Function f)) xs (rest_clean q (i.Function f) xs c) a b d less few
  they_differ q (i.Channel x name from to cap ∷ xs) c a b d less few = they_differ (past_after q (i.Channel x name from to cap)) xs (rest_clean q (i.Channel x name from to cap) xs c) a b d less few
  they_differ q (i.File x name path ∷ xs) c a b d less few =
      let more = rest_clean q (i.File x name path) xs c in
      AllPairs-cons (λ path other. path ≢ other) path (file_paths xs)
      (λ at e inside. (is_other path (slice_index_or (file_paths xs) at e) q.paths (m.File q.counts.files) (are_new (past_after q (i.File x name path)) xs more at e inside)).differs)
      (they_differ (past_after q (i.File x name path)) xs more) a b d less few
  they_differ q (i.Core x name entry ∷ xs) c a b d less few = they_differ (past_after q (i.Core x name entry)) xs (rest_clean q (i.Core x name entry) xs c) a b d less few

-- ---- the paths of an accepted program

module _ (source : List ℕ) (p : Program) (accepted : IsAccepted source p) where
  pub few_paths : length (file_paths p.items) ≤ 16
  few_paths = let tree = accepted.spelled.tree in (all_in_place p accepted.clean (spelled_shape p tree.marks tree.spells)).few_files

  pub paths_differ : AllPairs (λ path other. path ≢ other) (file_paths p.items)
  paths_differ = let r = clean_program p.items accepted.clean in they_differ (tables_of p.items r.0) (outermost p.items) no_past p.items r.1.1

  pub paths_are_texts : All IsUtf8 (file_paths p.items)
  paths_are_texts =
      let tree = accepted.spelled.tree in
      let low : LowTokens accepted.spelled.tokens = lexes_low 0 source (Ok accepted.spelled.tokens) accepted.spelled.lexed.lexed in
      are_texts p.items (items_low p.items tree.marks tree.spells (subst LowTokens tree.split low))
