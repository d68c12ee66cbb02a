-- Where the first text with a name stands: the code looks for its place, the definitions for the text. The first element that passes a test
-- stands at the first place that does, and where no place does there is none.
use Rattle.std.proofs.Common.{◌≡◌, ◌<◌, ℕ, Bool, true, false, List, length, slice_get, position, find, None, Some, refl, ◌∙◌, inl, inr, arith}
use Rattle.std.specs.Prelude.{option_and_then, ltb}
use Rattle.std.specs.List.{position_or_len}
use Rattle.std.proofs.lemmas.Bool.{cases_lt, lt-ltb}
use Rattle.std.proofs.lemmas.Bool.Decides.{nat_tests}
use Rattle.std.proofs.lemmas.List.Folds.{find_at}
use Rattle.std.proofs.lemmas.Option.{slice_get_past, slice_get_cases}
use Rattle.std.specs.Str.{bytes_eq}
use Rattle.ac_outside.specs.declared.shelf.NamedBytes.{NamedBytes}
use Rattle.ac_outside.specs.Texts.{text_of, rest_at}

pub find-position : {X : Type 0} (p : X → Bool) (xs : List X) → find p xs ≡ option_and_then (λ place. slice_get xs place) (position p xs)
find-position p xs =
    elim (cases_lt (position_or_len p xs) (length xs)) [
      | inl within ↦ let test : ltb (position_or_len p xs) (length xs) ≡ true = lt-ltb _ _ within in rw test (find_at p xs)
      | inr past ↦ let test : ltb (position_or_len p xs) (length xs) ≡ false = grind (arith, nat_tests) in rw test (find_at p xs ∙ slice_get_past xs _ past)
    ]

-- the first place that passes is one of the list
position-within : {X : Type 0} (p : X → Bool) (xs : List X) (place : ℕ) → position p xs ≡ Some place → place < length xs
position-within p xs place found =
    elim (cases_lt (position_or_len p xs) (length xs)) [
      | inl within ↦ let test : ltb (position_or_len p xs) (length xs) ≡ true = lt-ltb _ _ within in let same : place ≡ position_or_len p xs = cc (rw test at found) in rw same within
      | inr past ↦ let test : ltb (position_or_len p xs) (length xs) ≡ false = grind (arith, nat_tests) in absurd (cc (rw test at found))
    ]

-- there is no text with the name
pub text_of-none : (texts : List NamedBytes) (name : List ℕ) → position (λ text. bytes_eq text.name name) texts ≡ None → text_of texts name ≡ None
text_of-none texts name none = rw (find-position (λ text. bytes_eq text.name name) texts, none) refl

-- the text with the name stands at this place
pub text_of-some : (texts : List NamedBytes) (name : List ℕ) (place : ℕ) → position (λ text. bytes_eq text.name name) texts ≡ Some place → text_of texts name ≡ Some (rest_at texts place 0)
text_of-some texts name place found =
    elim (slice_get_cases texts place).1 [
      | inl here ↦ rw (find-position (λ text. bytes_eq text.name name) texts, found, here.2) refl
      | inr past ↦ let within : place < length texts = position-within (λ text. bytes_eq text.name name) texts place found in absurd (omega (arith, past.0))
    ]
