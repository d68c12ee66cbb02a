-- Which sides a call leaves in use. One always stays; a side that is dropped has failed while the other is in use; and where the side that
-- answers has failed, each that was in use has.
use Rattle.std.proofs.Common.{◌≡◌, Bool, true, false, Some, refl, sym, ap, ◌∙◌}
use Rattle.std.specs.Prelude.{◌||◌, if◌then◌else◌, Err}
use Rattle.std.specs.declared.option.Option.{Option}
use Rattle.std.specs.declared.result.Result.{Result}
use Rattle.ac_mirror_disk.specs.Sides.{has_failed, first_stays, second_stays}

pub one_stays : (x xf y yf : Bool) → (x || y) ≡ true → (first_stays x xf y yf || second_stays x y yf) ≡ true
one_stays true false y yf e = refl
one_stays true true false yf e = refl
one_stays true true true true e = refl
one_stays true true true false e = refl
one_stays false xf true yf e = refl
one_stays false xf false yf e = e

pub first_was : (x xf y yf : Bool) → first_stays x xf y yf ≡ true → x ≡ true
first_was true xf y yf e = refl
first_was false xf y yf e = e

pub second_was : (x y yf : Bool) → second_stays x y yf ≡ true → y ≡ true
second_was x true yf e = refl
second_was x false yf e = e

-- a first side that is dropped has failed, and the second stays
pub first_dropped : (x xf y yf : Bool) → x ≡ true → first_stays x xf y yf ≡ false → (xf ≡ true) × (y ≡ true) × (second_stays x y yf ≡ true)
first_dropped true true true false e d = (refl, refl, refl)
first_dropped true true true true e d = absurd (cc d)
first_dropped true true false yf e d = absurd (cc d)
first_dropped true false y yf e d = absurd (cc d)
first_dropped false xf y yf e d = absurd (cc e)

pub second_dropped : (x y yf : Bool) → y ≡ true → second_stays x y yf ≡ false → yf ≡ true
second_dropped true true true e d = refl
second_dropped true true false e d = absurd (cc d)
second_dropped false true yf e d = absurd (cc d)
second_dropped x false yf e d = absurd (cc e)

-- where both stay, none has failed
pub both_stay : (x xf y yf : Bool) → first_stays x xf y yf ≡ true → second_stays x y yf ≡ true → (xf ≡ false) × (yf ≡ false)
both_stay true false true false f s = (refl, refl)
both_stay true true true false f s = absurd (cc f)
both_stay true xf true true f s = absurd (cc s)
both_stay false xf y yf f s = absurd (cc f)
both_stay true xf false yf f s = absurd (cc s)

failed_and_kept : (x y yf : Bool) → first_stays x true y yf ≡ true → y ≡ true → yf ≡ true
failed_and_kept true true true f e = refl
failed_and_kept true true false f e = absurd (cc f)
failed_and_kept false y yf f e = absurd (cc f)
failed_and_kept true false yf f e = absurd (cc e)

not_dropped : (x xf y yf : Bool) → first_stays x xf y yf ≡ false → yf ≡ true → x ≡ false
not_dropped false xf y yf d e = refl
not_dropped true false y yf d e = absurd (cc d)
not_dropped true true false yf d e = absurd (cc d)
not_dropped true true true true d e = absurd (cc d)
not_dropped true true true false d e = absurd (cc e)

module _ {T E : Type 0} where
  failed_is : (of : Option (Result T E)) (fault : E) → of ≡ Some (Err fault) → has_failed of ≡ true
  failed_is of fault e = ap has_failed e

  all_failed_by : (s x xf y yf : Bool) (of_a of_b : Option (Result T E)) (fault : E) → xf ≡ has_failed of_a → yf ≡ has_failed of_b
      → s ≡ first_stays x xf y yf → (if s then of_a else of_b) ≡ Some (Err fault) → (x ≡ true → xf ≡ true) × (y ≡ true → yf ≡ true)
  all_failed_by true x xf y yf of_a of_b fault ea eb e answer =
      let failed : xf ≡ true = ea ∙ failed_is of_a fault answer in
      (λ _. failed, λ in_use. failed_and_kept x y yf (ap (λ f. first_stays x f y yf) (sym failed) ∙ sym e) in_use)
  all_failed_by false x xf y yf of_a of_b fault ea eb e answer =
      let failed : yf ≡ true = eb ∙ failed_is of_b fault answer in
      let out : x ≡ false = not_dropped x xf y yf (sym e) failed in
      (λ in_use. absurd (cc (sym in_use ∙ out)), λ _. failed)

  -- where the side that answers has failed, each that was in use has
  pub all_failed : (a' x y : Bool) (of_a of_b : Option (Result T E)) (fault : E) → a' ≡ first_stays x (has_failed of_a) y (has_failed of_b)
      → (if a' then of_a else of_b) ≡ Some (Err fault) → (x ≡ true → has_failed of_a ≡ true) × (y ≡ true → has_failed of_b ≡ true)
  all_failed a' x y of_a of_b fault e answer = all_failed_by a' x (has_failed of_a) y (has_failed of_b) of_a of_b fault refl refl e answer

  -- and where a side was called that stays in use and the other was not, or was dropped, it answers
  pub first_answers : (a' : Bool) (of_a of_b : Option (Result T E)) (result : Result T E) → (if a' then of_a else of_b) ≡ Some result → a' ≡ true → of_a ≡ Some result
  first_answers true of_a of_b result answer e = answer
  first_answers false of_a of_b result answer e = absurd (cc e)

  pub second_answers : (a' : Bool) (of_a of_b : Option (Result T E)) (result : Result T E) → (if a' then of_a else of_b) ≡ Some result → a' ≡ false → of_b ≡ Some result
  second_answers false of_a of_b result answer e = answer
  second_answers true of_a of_b result answer e = absurd (cc e)
