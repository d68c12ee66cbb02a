-- Values and stops: equal results have equal values or stop alike, and a reader with another behind it stops where one of the two does.
-- By the two cases of a result.
use Rattle.std.proofs.Common.{◌≡◌, List, Result, Ok, Err, refl, ap, ◌⊎◌, inl, inr}
use Rattle.reading_laws.specs.Readers.{◌>>=◌, Fault, Cause, halt}
use Rattle.ac_lexer.specs.declared.token.Token.{Token}

pub bind_ok : {A B : Type 0} (r : Result A Fault) (f : A → Result B Fault) (y : B) → (r >>= f) ≡ Ok y → (x : A) × (r ≡ Ok x) × (f x ≡ Ok y)
bind_ok (Ok x) f y h = (x, refl, h)
bind_ok (Err e) f y h = cc

abbrev pub fine : {A : Type 0} → A → Result A Fault
fine x = Ok x

abbrev pub result : (X : Type 0) → X × List Token → Result (X × List Token) Fault
result X y = Ok y

abbrev pub failed : (X : Type 0) → Fault → Result X Fault
failed X e = Err e

pub same_result : (X : Type 0) (x y : X) (a r : List Token) → result X (x, a) ≡ result X (y, r) → (x ≡ y) × (a ≡ r)
same_result X x y a r h = let q : (x, a) ≡ (y, r) = cc in (ap (λ (z : X × List Token). z.0) q, ap (λ (z : X × List Token). z.1) q)

pub same_fault : (X : Type 0) (c d : Fault) → failed X c ≡ failed X d → c ≡ d
same_fault X c d h = cc

pub same_halt : (c d : Cause) (a r : List Token) → halt c a ≡ halt d r → (c ≡ d) × (a ≡ r)
same_halt c d a r h = (cc, cc)

-- both at once
pub same_stop : (X : Type 0) (c d : Cause) (a r : List Token) → failed X (halt c a) ≡ failed X (halt d r) → (c ≡ d) × (a ≡ r)
same_stop X c d a r h = same_halt c d a r (same_fault X (halt c a) (halt d r) h)

pub not_both : (X : Type 0) (y : X) (c : Fault) → fine y ≡ failed X c → ⊥
not_both X y c h = cc

-- the first reader stopped, or the second
pub bind_err : {A B : Type 0} (r : Result A Fault) (f : A → Result B Fault) (c : Fault) → (r >>= f) ≡ Err c → (r ≡ Err c) ⊎ ((x : A) × (r ≡ Ok x) × (f x ≡ Err c))
bind_err (Ok x) f c h = inr (x, refl, h)
bind_err {A} {B} (Err d) f c h = inl (ap (λ (c : Fault). Err c) (same_fault B d c h))

-- what comes after is the same, if it is the same after each value
pub bind_ext : {A B : Type 0} (r : Result A Fault) (f g : A → Result B Fault) → ((x : A) → f x ≡ g x) → (r >>= f) ≡ (r >>= g)
bind_ext (Ok x) f g h = h x
bind_ext (Err e) f g h = refl
