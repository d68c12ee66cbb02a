-- A word is read where it stands, and only there; and what a chain of reading functions has found on its way, one step at a time, for the
-- proofs that follow a reader backwards.
use Rattle.std.proofs.Common.{◌≡◌, ℕ, Bool, true, false, List, [], ◌∷◌, ◌++◌, length, take, drop, Option, Some, None, refl, sym, ap, ◌∙◌, append-nil}
use Rattle.std.specs.Prelude.{if◌then◌else◌}
use Rattle.std.specs.Str.{bytes_eq}
use Rattle.std.proofs.lemmas.Slice.Eq.{bytes_eq-Decides}
use Rattle.std.proofs.lemmas.List.{take-append-drop}
use Rattle.trace_text.specs.inner.Reading.{word_at, ended, choice, ◌>>=◌}

pub drop_front : (a rest : List ℕ) → drop (length a) (a ++ rest) ≡ rest
drop_front [] rest = refl
drop_front (b ∷ a) rest = drop_front a rest

pub take_front : (a rest : List ℕ) → take (length a) (a ++ rest) ≡ a
take_front [] rest = refl
take_front (b ∷ a) rest = ap (λ (bs : List ℕ). b ∷ bs) (take_front a rest)

pub some_same : {A : Type 0} (x y : A) → Some x ≡ Some y → x ≡ y
some_same x y h = cc

pub not_none : {A B : Type 0} (x : A) → None ≡ Some x → B
not_none x h = cc

-- a word that stands at the front is taken
pub word_is : (word rest : List ℕ) → word_at word (word ++ rest) ≡ Some rest
word_is word rest =
    let t : bytes_eq (take (length word) (word ++ rest)) word ≡ true = (bytes_eq-Decides (take (length word) (word ++ rest)) word).1 (take_front word rest) in
    rw (t, drop_front word rest) refl

word_case : (word bs rest : List ℕ) (t : Bool) → bytes_eq (take (length word) bs) word ≡ t
    → (if t then Some (drop (length word) bs) else None) ≡ Some rest → bs ≡ word ++ rest
word_case word bs rest true h e =
    let front : take (length word) bs ≡ word = (bytes_eq-Decides (take (length word) bs) word).0 h in
    sym (take-append-drop (length word) bs) ∙ (ap (λ (cs : List ℕ). cs ++ drop (length word) bs) front ∙ ap (λ (cs : List ℕ). word ++ cs) (some_same (drop (length word) bs) rest e))
word_case word bs rest false h e = not_none rest e

-- what is taken stood there
pub word_was : (word bs rest : List ℕ) → word_at word bs ≡ Some rest → bs ≡ word ++ rest
word_was word bs rest e = word_case word bs rest (bytes_eq (take (length word) bs) word) refl e

-- ---- what a reading function found on its way

-- two pairs that are the same are so in each part, and the other way round
abbrev pub pair : {A B : Type 0} → A → B → A × B
pair a b = (a, b)

pub parts_same : {A B : Type 0} (a c : A) (b d : B) → Some (pair a b) ≡ Some (pair c d) → (a ≡ c) × (b ≡ d)
parts_same {A} {B} a c b d h =
    let q : pair a b ≡ pair c d = some_same (pair a b) (pair c d) h in
    (ap (λ (z : A × B). z.0) q, ap (λ (z : A × B). z.1) q)

pub parts_are : {A B : Type 0} (a c : A) (b d : B) → a ≡ c → b ≡ d → Some (pair a b) ≡ Some (pair c d)
parts_are a c b d p q = λ i. Some (pair (p i) (q i))

pub bind_case : {A B P : Type 0} (r : Option A) (f : A → Option B) (y : B) → (r >>= f) ≡ Some y → ((x : A) → r ≡ Some x → f x ≡ Some y → P) → P
bind_case (Some x) f y h found = found x refl h
bind_case None f y h found = not_none y h

pub bind_some : {A B : Type 0} (r : Option A) (f : A → Option B) (x : A) → r ≡ Some x → (r >>= f) ≡ f x
bind_some r f x h = rw h refl

pub bind_none : {A B : Type 0} (r : Option A) (f : A → Option B) → r ≡ None → (r >>= f) ≡ None
bind_none r f h = rw h refl

pub choice_case : {A P : Type 0} (word bs : List ℕ) (here : List ℕ → Option A) (other : Option A) (y : A) → choice (word_at word bs) here other ≡ Some y
    → ((rest : List ℕ) → bs ≡ word ++ rest → here rest ≡ Some y → P) → (other ≡ Some y → P) → P
choice_case {P = P} word bs here other y h taken past = cases (word_at word bs) refl h
  where
    cases : (r : Option (List ℕ)) → word_at word bs ≡ r → choice r here other ≡ Some y → P
    cases (Some rest) e g = taken rest (word_was word bs rest e) g
    cases None e g = past g

pub ended_case : {A : Type 0} (bs : List ℕ) (x y : A) → ended bs x ≡ Some y → (bs ≡ []) × (x ≡ y)
ended_case [] x y h = (refl, some_same x y h)
ended_case (b ∷ bs) x y h = not_none y h

-- ---- joining what was found

pub behind : (bs a b c : List ℕ) → bs ≡ a ++ b → b ≡ c → bs ≡ a ++ c
behind bs a b c h g = h ∙ ap (λ (cs : List ℕ). a ++ cs) g

pub at_end : (bs a rest : List ℕ) → bs ≡ a ++ rest → rest ≡ [] → bs ≡ a
at_end bs a rest h g = behind bs a rest [] h g ∙ append-nil a
