-- What a part begins with, and parts that may be too deep: a part that begins with a word or a mark has it as its next token, and no other.
-- A part without room is not read; the next token tells whether it would have begun. `law_within` has both cases: without room that of
-- `law_look`, with room the law that the part is shown to have then. So names, numbers and texts have their law at each depth.
use Rattle.std.proofs.Common.{◌≡◌, ℕ, ℤ, zero, suc, ◌+◌, ◌<◌, ◌≤◌, Bool, true, false, List, [], ◌∷◌, ◌++◌, Ok, refl, ap, ◌∙◌, ◌⊎◌, inl, inr, arith}
use Rattle.std.specs.Prelude.{◌||◌}
use Rattle.ac_lexer.specs.declared.token.Kind.{Kind}
use Rattle.ac_lexer.specs.declared.token.Kind.TheVariants as k
use Rattle.ac_lexer.specs.declared.token.Token.{Token}
use Rattle.reading_laws.specs.Marks.{Marked, mark, tokens}
use Rattle.reading_laws.specs.Readers.{Reads, is_there, within}
use Rattle.reading_laws.specs.Letters.{Sign, is_kind, starts_with, name_kind, has_name, has_number, has_text, name_at, number_at, text_at, deep_name_at}
use Rattle.reading_laws.specs.inner.Tokens.{kind_of, deep_number_at, deep_text_at}
use Rattle.reading_laws.proofs.Heads.{ByHead}
use Rattle.reading_laws.proofs.Parts.{Filled, Part, Law, Any, Opens, First, law_look, look_never, seq, made, bind, made_of}
use Rattle.reading_laws.proofs.Letters.{is_case, is_kind_of, signed, sign_part, NameSpells, named, fill_name, law_name, name_part, name_by, NumberSpells, numbered, fill_number, law_number}
use Rattle.reading_laws.proofs.Letters.{number_part, number_by, TextSpells, texted, fill_text, law_text, text_part, text_by}

-- ---- the first token of a part

pub begins_bound : {Y : Type 0} (d : ℕ) (w : Sign) (l : ℕ → Part Y) (y : Y) (ms : List Marked) (rest : List Token) → (bind (sign_part d w) l).spells y ms → starts_with w (tokens ms ++ rest) ≡ true
unfolding bind sign_part
begins_bound d w l _ _ rest (seq _ _ _ c (signed t q) r) = is_kind_of w t q

pub begins_made : {Y : Type 0} (d : ℕ) (w : Sign) (l : ℕ → Y) (y : Y) (ms : List Marked) (rest : List Token) → (made_of (sign_part d w) l).spells y ms → starts_with w (tokens ms ++ rest) ≡ true
unfolding made_of sign_part
begins_made d w l _ _ rest (made _ _ (signed t q)) = is_kind_of w t q

other_sign : (v w : Sign) → is_kind v (kind_of w) ≡ false → (t : Token) → t.kind ≡ kind_of w → is_kind v t.kind ≡ false
other_sign v w h t q = ap (is_kind v) q ∙ h

pub no_bound : {Y : Type 0} (v : Sign) (d : ℕ) (w : Sign) → is_kind v (kind_of w) ≡ false → (l : ℕ → Part Y) (y : Y) (ms : List Marked) (rest : List Token) → (bind (sign_part d w) l).spells y ms
    → starts_with v (tokens ms ++ rest) ≡ false
unfolding bind sign_part
no_bound v d w h l _ _ rest (seq _ _ _ c (signed t q) r) = other_sign v w h t q

pub no_made : {Y : Type 0} (v : Sign) (d : ℕ) (w : Sign) → is_kind v (kind_of w) ≡ false → (l : ℕ → Y) (y : Y) (ms : List Marked) (rest : List Token) → (made_of (sign_part d w) l).spells y ms
    → starts_with v (tokens ms ++ rest) ≡ false
unfolding made_of sign_part
no_made v d w h l _ _ rest (made _ _ (signed t q)) = other_sign v w h t q

-- what is spelled by a last word or mark
pub by_last : {Y : Type 0} (Q : Y → List Marked → Type 0) (d : ℕ) (w : Sign) (v y : Y) (ms : List Marked) → (made_of (sign_part d w) (λ _. v)).spells y ms
    → ((t : Token) → t.kind ≡ kind_of w → Q v (mark d t ∷ [])) → Q y ms
unfolding made_of sign_part
by_last Q d w v _ _ (made _ _ (signed t q)) f = f t q

-- and so it is spelled
pub last_is : {Y : Type 0} (d : ℕ) (w : Sign) (v : Y) (t : Token) → t.kind ≡ kind_of w → (made_of (sign_part d w) (λ _. v)).spells v (mark d t ∷ [])
unfolding made_of sign_part
last_is d w v t q = made t.span.at (mark d t ∷ []) (signed t q)

-- tokens that begin with that sign
pub record Started (w : Sign) (rest : List Token) : Type 0 where
  pub token : Token
  pub others : List Token
  pub is : rest ≡ token ∷ others
  pub kind : token.kind ≡ kind_of w

pub started : (w : Sign) (rest : List Token) → starts_with w rest ≡ true → Started w rest
started w [] h = cc
started w (t ∷ ts) h = record { token = t; others = ts; is = refl; kind = is_case w t.kind h }

pub starts_not : (v w : Sign) → is_kind v (kind_of w) ≡ false → (rest : List Token) → starts_with w rest ≡ true → starts_with v rest ≡ false
starts_not v w h rest s = let z = started w rest s in ap (starts_with v) z.is ∙ other_sign v w h z.token z.kind

-- ---- parts that may be too deep

pub within_had : {X : Type 0} (begins : List Token → Bool) (f : ℕ → List Token → Reads X) (room : ℕ) (a : List Token) (y : X × List Token) → within begins f room a ≡ Ok y → 0 < room
within_had {X} begins f zero a y h = absurd (look_never X (begins a) a y h)
within_had begins f (suc room) a y h = omega arith

pub law_within : {X : Type 0} {F : X → List Token → Type 0} (L depth room : ℕ) → depth + room ≡ suc L → (begins : List Token → Bool) → begins [] ≡ false → ByHead begins
    → (f : ℕ → List Token → Reads X) (P : X → List Marked → Type 0) (d : Filled X P)
    → ((t : Token) (ts : List Token) → begins (t ∷ ts) ≡ true → Opens X P depth t) → ((x : X) (ms : List Marked) → P x ms → First depth begins ms)
    → ((inner : ℕ) → room ≡ suc inner → depth ≤ L → Law L X (record { read = f inner; spells = P; filled = d }) F) → Law L X (record { read = within begins f room; spells = P; filled = d }) F
law_within L depth zero now begins none by f P d o s l = law_look L depth begins P d (omega (arith, now)) none by o s
law_within L depth (suc room) now begins none by f P d o s l = l room refl (omega (arith, now))

-- a name
name_opens : (depth : ℕ) (t : Token) (kind : Kind) → t.kind ≡ kind → is_there (name_kind t.span.at kind) ≡ true → Opens (ℕ × List ℕ) (NameSpells depth) depth t
name_opens depth t (k.Name name) q h = record { own = depth; deep = omega arith; value = (t.span.at, name); others = []; spells = named t name q }
name_opens depth t (k.Number n) q h = cc
name_opens depth t (k.Text n) q h = cc
name_opens depth t (k.Word n) q h = cc
name_opens depth t (k.Mark n) q h = cc

name_first : (depth : ℕ) (x : ℕ × List ℕ) (ms : List Marked) → NameSpells depth x ms → First depth has_name ms
name_first depth _ _ (named t name q) = record { own = depth; deep = omega arith; token = t; others = []; is = refl; begun = λ rest. rw q refl }

abbrev pub deep_name : ℕ → ℕ → Part (ℕ × List ℕ)
deep_name depth room = record { read = deep_name_at room; spells = NameSpells depth; filled = fill_name depth }

pub deep_name_law : (L depth room : ℕ) → depth + room ≡ suc L → Law L (ℕ × List ℕ) (deep_name depth room) Any
unfolding name_part
deep_name_law L depth room now = law_within L depth room now has_name refl name_by (λ room ts. name_at ts) (NameSpells depth) (fill_name depth) (λ t ts h. name_opens depth t t.kind refl h)
    (name_first depth) (λ inner q le. law_name L depth le)

-- a number
number_opens : (depth : ℕ) (t : Token) (ts : List Token) (kind : Kind) → t.kind ≡ kind → has_number (t ∷ ts) ≡ true → Opens (ℕ × ℤ) (NumberSpells depth) depth t
number_opens depth t ts (k.Number n) q h = record { own = depth; deep = omega arith; value = (t.span.at, n); others = []; spells = numbered t n q }
number_opens depth t ts (k.Name n) q h = let no : false ≡ true = rw q at h in cc
number_opens depth t ts (k.Text n) q h = let no : false ≡ true = rw q at h in cc
number_opens depth t ts (k.Word n) q h = let no : false ≡ true = rw q at h in cc
number_opens depth t ts (k.Mark n) q h = let no : false ≡ true = rw q at h in cc

number_first : (depth : ℕ) (x : ℕ × ℤ) (ms : List Marked) → NumberSpells depth x ms → First depth has_number ms
number_first depth _ _ (numbered t n q) = record { own = depth; deep = omega arith; token = t; others = []; is = refl; begun = λ rest. rw q refl }

abbrev pub deep_number : ℕ → ℕ → Part (ℕ × ℤ)
deep_number depth room = record { read = deep_number_at room; spells = NumberSpells depth; filled = fill_number depth }

pub deep_number_law : (L depth room : ℕ) → depth + room ≡ suc L → Law L (ℕ × ℤ) (deep_number depth room) Any
unfolding number_part
deep_number_law L depth room now = law_within L depth room now has_number refl number_by (λ room ts. number_at ts) (NumberSpells depth) (fill_number depth)
    (λ t ts h. number_opens depth t ts t.kind refl h) (number_first depth) (λ inner q le. law_number L depth le)

-- a text
text_opens : (depth : ℕ) (t : Token) (ts : List Token) (kind : Kind) → t.kind ≡ kind → has_text (t ∷ ts) ≡ true → Opens (List ℕ) (TextSpells depth) depth t
text_opens depth t ts (k.Text n) q h = record { own = depth; deep = omega arith; value = n; others = []; spells = texted t n q }
text_opens depth t ts (k.Name n) q h = let no : false ≡ true = rw q at h in cc
text_opens depth t ts (k.Number n) q h = let no : false ≡ true = rw q at h in cc
text_opens depth t ts (k.Word n) q h = let no : false ≡ true = rw q at h in cc
text_opens depth t ts (k.Mark n) q h = let no : false ≡ true = rw q at h in cc

text_first : (depth : ℕ) (x : List ℕ) (ms : List Marked) → TextSpells depth x ms → First depth has_text ms
text_first depth _ _ (texted t n q) = record { own = depth; deep = omega arith; token = t; others = []; is = refl; begun = λ rest. rw q refl }

abbrev pub deep_text : ℕ → ℕ → Part (List ℕ)
deep_text depth room = record { read = deep_text_at room; spells = TextSpells depth; filled = fill_text depth }

pub deep_text_law : (L depth room : ℕ) → depth + room ≡ suc L → Law L (List ℕ) (deep_text depth room) Any
unfolding text_part
deep_text_law L depth room now = law_within L depth room now has_text refl text_by (λ room ts. text_at ts) (TextSpells depth) (fill_text depth) (λ t ts h. text_opens depth t ts t.kind refl h)
    (text_first depth) (λ inner q le. law_text L depth le)

-- ---- two tests

pub or_case : (p q : Bool) → (p || q) ≡ true → (p ≡ true) ⊎ (q ≡ true)
or_case true q h = inl refl
or_case false q h = inr h
