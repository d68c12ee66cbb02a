-- Parts that are one token: a word or a mark, a name, a number, a number negated, a text. Each has its spelling and its law (`law_token`), given
-- that the tokens which are picked are those that are so spelled: `.._sound` one way, by the kinds of tokens, and `.._complete` the other.
use Rattle.std.proofs.Common.{◌≡◌, ℕ, ℤ, ◌≤◌, Bool, true, false, List, [], ◌∷◌, Option, Some, None, refl, sym, ap, subst}
use Rattle.std.specs.Prelude.{pos, negsuc, neg_ℤ, if◌then◌else◌, not}
use denote.Enum.Bare.{same_true, true_same}
use Rattle.ac_lexer.specs.declared.token.Word.{Word}
use Rattle.ac_lexer.specs.contracts.token.Word as word_contracts
use Rattle.ac_lexer.specs.declared.token.Mark.{Mark}
use Rattle.ac_lexer.specs.contracts.token.Mark as mark_contracts
use Rattle.ac_lexer.specs.declared.token.Kind.{Kind}
use Rattle.ac_lexer.specs.declared.token.Kind.TheVariants as k
use Rattle.ac_lexer.specs.declared.token.Token.{Token}
use Rattle.reading_laws.specs.Marks.{Marked, mark, IsName, IsNumber, IsText}
use Rattle.reading_laws.specs.Letters.{Sign, word, sign, same_word, same_mark, is_kind, starts_with, sign_in, sign_at, name_kind, name_at, number_kind, number_at, negated_number, negated_kind}
use Rattle.reading_laws.specs.Letters.{negated_at, text_kind, text_at, has_name, has_number, has_text, has_other}
use Rattle.reading_laws.specs.inner.Tokens.{kind_of}
use Rattle.reading_laws.specs.Readers.{is_there}
use Rattle.reading_laws.proofs.Heads.{ByHead, by_head}
use Rattle.reading_laws.proofs.Parts.{Filled, Part, Law, Any, Picked, law_token}

-- a token of that kind at the beginning of a text
abbrev pub filler : Kind → Token
filler kind = record { kind = kind; span = record { at = 0; end = 0 } }

abbrev pub option : {A : Type 0} → A → Option A
option x = Some x

abbrev pub nothing : {A : Type 0} → Option A
nothing = None

pub same_some : {A : Type 0} {x y : A} → option x ≡ option y → x ≡ y
same_some h = cc

pub no_some : {A : Type 0} {x : A} → nothing ≡ option x → ⊥
no_some h = cc

-- ---- words and marks

-- what passes the test is that word or mark
pub is_case : (w : Sign) (kind : Kind) → is_kind w kind ≡ true → kind ≡ kind_of w
unfolding same_word same_mark
is_case (word a) (k.Word found) h = ap (λ (b : Word). k.Word b) (sym (same_true word_contracts.the_type tt a found h))
is_case (sign a) (k.Mark found) h = ap (λ (b : Mark). k.Mark b) (sym (same_true mark_contracts.the_type tt a found h))
is_case (word a) (k.Mark found) h = cc
is_case (word a) (k.Name n) h = cc
is_case (word a) (k.Number n) h = cc
is_case (word a) (k.Text n) h = cc
is_case (sign a) (k.Word found) h = cc
is_case (sign a) (k.Name n) h = cc
is_case (sign a) (k.Number n) h = cc
is_case (sign a) (k.Text n) h = cc

pub is_self : (w : Sign) → is_kind w (kind_of w) ≡ true
unfolding same_word same_mark
is_self (word a) = true_same word_contracts.the_type a a refl
is_self (sign a) = true_same mark_contracts.the_type a a refl

pub is_kind_of : (w : Sign) (t : Token) → t.kind ≡ kind_of w → is_kind w t.kind ≡ true
is_kind_of w t q = rw q (is_self w)

pub data SignSpells (b : ℕ) (w : Sign) : ℕ → List Marked → Type 0 where
  signed : (t : Token) → t.kind ≡ kind_of w → SignSpells b w t.span.at (mark b t ∷ [])

pub fill_sign : (b : ℕ) (w : Sign) → Filled ℕ (SignSpells b w)
fill_sign b w = record { value = 0; marks = mark b (filler (kind_of w)) ∷ []; spells = signed (filler (kind_of w)) refl }

unfoldable pub sign_part : ℕ → Sign → Part ℕ
sign_part b w = record { read = sign_at w; spells = SignSpells b w; filled = fill_sign b w }

sign_picks : (w : Sign) (t : Token) (i : Bool) → is_kind w t.kind ≡ i → (at : ℕ) → (if i then Some t.span.at else None) ≡ Some at → (t.kind ≡ kind_of w) × (t.span.at ≡ at)
sign_picks w t true q at h = (is_case w t.kind q, same_some h)
sign_picks w t false q at h = absurd (no_some h)

sign_sound : (b : ℕ) (w : Sign) (t : Token) (at : ℕ) → sign_in w t ≡ Some at → SignSpells b w at (mark b t ∷ [])
sign_sound b w t at h = let q = sign_picks w t (is_kind w t.kind) refl at h in subst (λ (at : ℕ). SignSpells b w at (mark b t ∷ [])) q.1 (signed t q.0)

sign_complete : (b : ℕ) (w : Sign) (at : ℕ) (ms : List Marked) → SignSpells b w at ms → Picked b ℕ (sign_in w) at ms
sign_complete b w _ _ (signed t q) = record { token = t; is = refl; picks = rw (is_kind_of w t q) refl }

pub law_sign : (L b : ℕ) → b ≤ L → (w : Sign) → Law L ℕ (sign_part b w) Any
unfolding sign_part
law_sign L b le w = law_token L b le (sign_in w) (SignSpells b w) (fill_sign b w) (sign_sound b w) (sign_complete b w)

pub starts_by : (w : Sign) → ByHead (starts_with w)
starts_by w = by_head (starts_with w) false (λ t. is_kind w t.kind) refl (λ t ts. refl)

pub other_by : (w : Sign) → ByHead (has_other w)
other_by w = by_head (has_other w) false (λ t. not (is_kind w t.kind)) refl (λ t ts. refl)

-- ---- names

pub data NameSpells (b : ℕ) : ℕ × List ℕ → List Marked → Type 0 where
  named : (t : Token) (name : List ℕ) → IsName name t → NameSpells b (t.span.at, name) (mark b t ∷ [])

pub fill_name : (b : ℕ) → Filled (ℕ × List ℕ) (NameSpells b)
fill_name b = record { value = (0, 120 ∷ []); marks = mark b (filler (k.Name (120 ∷ []))) ∷ []; spells = named (filler (k.Name (120 ∷ []))) (120 ∷ []) refl }

unfoldable pub name_part : ℕ → Part (ℕ × List ℕ)
name_part b = record { read = name_at; spells = NameSpells b; filled = fill_name b }

name_sound : (b : ℕ) (t : Token) (kind : Kind) → t.kind ≡ kind → (x : ℕ × List ℕ) → name_kind t.span.at kind ≡ Some x → NameSpells b x (mark b t ∷ [])
name_sound b t (k.Name name) q x h = subst (λ (x : ℕ × List ℕ). NameSpells b x (mark b t ∷ [])) (same_some h) (named t name q)
name_sound b t (k.Number n) q x h = absurd (no_some h)
name_sound b t (k.Text n) q x h = absurd (no_some h)
name_sound b t (k.Word n) q x h = absurd (no_some h)
name_sound b t (k.Mark n) q x h = absurd (no_some h)

name_complete : (b : ℕ) (x : ℕ × List ℕ) (ms : List Marked) → NameSpells b x ms → Picked b (ℕ × List ℕ) (λ t. name_kind t.span.at t.kind) x ms
name_complete b _ _ (named t name q) = record { token = t; is = refl; picks = rw q refl }

pub law_name : (L b : ℕ) → b ≤ L → Law L (ℕ × List ℕ) (name_part b) Any
unfolding name_part
law_name L b le = law_token L b le (λ t. name_kind t.span.at t.kind) (NameSpells b) (fill_name b) (λ t x h. name_sound b t t.kind refl x h) (name_complete b)

pub name_by : ByHead has_name
name_by = by_head has_name false (λ t. is_there (name_kind t.span.at t.kind)) refl (λ t ts. refl)

-- ---- numbers

pub data NumberSpells (b : ℕ) : ℕ × ℤ → List Marked → Type 0 where
  numbered : (t : Token) (n : ℤ) → IsNumber n t → NumberSpells b (t.span.at, n) (mark b t ∷ [])

pub fill_number : (b : ℕ) → Filled (ℕ × ℤ) (NumberSpells b)
fill_number b = record { value = (0, pos 0); marks = mark b (filler (k.Number (pos 0))) ∷ []; spells = numbered (filler (k.Number (pos 0))) (pos 0) refl }

unfoldable pub number_part : ℕ → Part (ℕ × ℤ)
number_part b = record { read = number_at; spells = NumberSpells b; filled = fill_number b }

number_sound : (b : ℕ) (t : Token) (kind : Kind) → t.kind ≡ kind → (x : ℕ × ℤ) → number_kind t.span.at kind ≡ Some x → NumberSpells b x (mark b t ∷ [])
number_sound b t (k.Number n) q x h = subst (λ (x : ℕ × ℤ). NumberSpells b x (mark b t ∷ [])) (same_some h) (numbered t n q)
number_sound b t (k.Name n) q x h = absurd (no_some h)
number_sound b t (k.Text n) q x h = absurd (no_some h)
number_sound b t (k.Word n) q x h = absurd (no_some h)
number_sound b t (k.Mark n) q x h = absurd (no_some h)

number_complete : (b : ℕ) (x : ℕ × ℤ) (ms : List Marked) → NumberSpells b x ms → Picked b (ℕ × ℤ) (λ t. number_kind t.span.at t.kind) x ms
number_complete b _ _ (numbered t n q) = record { token = t; is = refl; picks = rw q refl }

pub law_number : (L b : ℕ) → b ≤ L → Law L (ℕ × ℤ) (number_part b) Any
unfolding number_part
law_number L b le = law_token L b le (λ t. number_kind t.span.at t.kind) (NumberSpells b) (fill_number b) (λ t x h. number_sound b t t.kind refl x h) (number_complete b)

pub number_by : ByHead has_number
number_by = by_head has_number false (λ t. is_there (number_kind t.span.at t.kind)) refl (λ t ts. refl)

pub data NegatedSpells (b : ℕ) : ℤ → List Marked → Type 0 where
  negated : (t : Token) (n : ℕ) → IsNumber (pos n) t → NegatedSpells b (neg_ℤ (pos n)) (mark b t ∷ [])

pub fill_negated : (b : ℕ) → Filled ℤ (NegatedSpells b)
fill_negated b = record { value = neg_ℤ (pos 0); marks = mark b (filler (k.Number (pos 0))) ∷ []; spells = negated (filler (k.Number (pos 0))) 0 refl }

unfoldable pub negated_part : ℕ → Part ℤ
negated_part b = record { read = negated_at; spells = NegatedSpells b; filled = fill_negated b }

negated_case : (b : ℕ) (t : Token) (n : ℤ) → IsNumber n t → (x : ℤ) → negated_number n ≡ Some x → NegatedSpells b x (mark b t ∷ [])
negated_case b t (pos n) q x h = subst (λ (x : ℤ). NegatedSpells b x (mark b t ∷ [])) (same_some h) (negated t n q)
negated_case b t (negsuc n) q x h = absurd (no_some h)

negated_sound : (b : ℕ) (t : Token) (kind : Kind) → t.kind ≡ kind → (x : ℤ) → negated_kind kind ≡ Some x → NegatedSpells b x (mark b t ∷ [])
negated_sound b t (k.Number n) q x h = negated_case b t n q x h
negated_sound b t (k.Name n) q x h = absurd (no_some h)
negated_sound b t (k.Text n) q x h = absurd (no_some h)
negated_sound b t (k.Word n) q x h = absurd (no_some h)
negated_sound b t (k.Mark n) q x h = absurd (no_some h)

negated_complete : (b : ℕ) (x : ℤ) (ms : List Marked) → NegatedSpells b x ms → Picked b ℤ (λ t. negated_kind t.kind) x ms
negated_complete b _ _ (negated t n q) = record { token = t; is = refl; picks = rw q refl }

pub law_negated : (L b : ℕ) → b ≤ L → Law L ℤ (negated_part b) Any
unfolding negated_part
law_negated L b le = law_token L b le (λ t. negated_kind t.kind) (NegatedSpells b) (fill_negated b) (λ t x h. negated_sound b t t.kind refl x h) (negated_complete b)

-- ---- texts

pub data TextSpells (b : ℕ) : List ℕ → List Marked → Type 0 where
  texted : (t : Token) (text : List ℕ) → IsText text t → TextSpells b text (mark b t ∷ [])

pub fill_text : (b : ℕ) → Filled (List ℕ) (TextSpells b)
fill_text b = record { value = []; marks = mark b (filler (k.Text [])) ∷ []; spells = texted (filler (k.Text [])) [] refl }

unfoldable pub text_part : ℕ → Part (List ℕ)
text_part b = record { read = text_at; spells = TextSpells b; filled = fill_text b }

text_sound : (b : ℕ) (t : Token) (kind : Kind) → t.kind ≡ kind → (x : List ℕ) → text_kind kind ≡ Some x → TextSpells b x (mark b t ∷ [])
text_sound b t (k.Text n) q x h = subst (λ (x : List ℕ). TextSpells b x (mark b t ∷ [])) (same_some h) (texted t n q)
text_sound b t (k.Name n) q x h = absurd (no_some h)
text_sound b t (k.Number n) q x h = absurd (no_some h)
text_sound b t (k.Word n) q x h = absurd (no_some h)
text_sound b t (k.Mark n) q x h = absurd (no_some h)

text_complete : (b : ℕ) (x : List ℕ) (ms : List Marked) → TextSpells b x ms → Picked b (List ℕ) (λ t. text_kind t.kind) x ms
text_complete b _ _ (texted t n q) = record { token = t; is = refl; picks = rw q refl }

pub law_text : (L b : ℕ) → b ≤ L → Law L (List ℕ) (text_part b) Any
unfolding text_part
law_text L b le = law_token L b le (λ t. text_kind t.kind) (TextSpells b) (fill_text b) (λ t x h. text_sound b t t.kind refl x h) (text_complete b)

pub text_by : ByHead has_text
text_by = by_head has_text false (λ t. is_there (text_kind t.kind)) refl (λ t ts. refl)
