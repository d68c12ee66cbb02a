-- What holds party by party.
use Rattle.std.proofs.Common.{◌≡◌, ℕ, zero, suc, List, [], ◌∷◌, ◌++◌, length, Some, ◌<◌, Result, Ok, get_or, slice_set, refl, subst, arith}
use Rattle.std.specs.Prelude.{slice_get, IfOk}
use Rattle.std.specs.List.{AllByRecursion}
use Rattle.settled_rounds.specs.Linked.{Pointwise}

module _ {P : Type 0} (R : P → P → Type 0) where
  pub each_length : (ps qs : List P) → Pointwise R ps qs → length qs ≡ length ps
  each_length [] [] h = refl
  each_length [] (q ∷ qs) h = absurd h
  each_length (p ∷ ps) [] h = absurd h
  each_length (p ∷ ps) (q ∷ qs) h = let e = each_length ps qs h.1 in omega arith

  -- the party that stood at this place before
  pub each_at : (ps qs : List P) (k : ℕ) (q : P) → Pointwise R ps qs → slice_get qs k ≡ Some q → (p : P) × (slice_get ps k ≡ Some p) × R p q
  each_at [] [] k q h at = cc
  each_at [] (y ∷ qs) k q h at = absurd h
  each_at (x ∷ ps) [] k q h at = absurd h
  each_at (x ∷ ps) (y ∷ qs) zero q h at = let same : y ≡ q = cc in (x, refl, subst (λ z. R x z) same h.0)
  each_at (x ∷ ps) (y ∷ qs) (suc k) q h at = each_at ps qs k q h.1 at

  pub each_append : (ps qs xs ys : List P) → Pointwise R ps qs → Pointwise R xs ys → Pointwise R (ps ++ xs) (qs ++ ys)
  each_append [] [] xs ys h k = k
  each_append [] (q ∷ qs) xs ys h k = absurd h
  each_append (p ∷ ps) [] xs ys h k = absurd h
  each_append (p ∷ ps) (q ∷ qs) xs ys h k = (h.0, each_append ps qs xs ys h.1 k)

  -- of a list that was cut in two
  pub each_joined : (all front back xs ys : List P) → front ++ back ≡ all → Pointwise R front xs → Pointwise R back ys → Pointwise R all (xs ++ ys)
  each_joined all front back xs ys cut a b = subst (λ ps. Pointwise R ps (xs ++ ys)) cut (each_append front xs back ys a b)

  module _ (self : (p : P) → R p p) where
    pub each_self : (ps : List P) → Pointwise R ps ps
    each_self [] = tt
    each_self (p ∷ ps) = (self p, each_self ps)

    -- where one is put in the place of another
    pub each_but : (ps : List P) (k : ℕ) (x q : P) → k < length ps → R (get_or ps k x) q → Pointwise R ps (slice_set ps k q)
    each_but [] k x q within h = absurd (omega arith)
    each_but (p ∷ ps) zero x q within h = (h, each_self ps)
    each_but (p ∷ ps) (suc k) x q within h = (self p, each_but ps k x q (omega arith) h)

  module _ (then : (p q r : P) → R p q → R q r → R p r) where
    pub each_then : (ps qs rs : List P) → Pointwise R ps qs → Pointwise R qs rs → Pointwise R ps rs
    each_then [] [] [] h k = tt
    each_then [] [] (r ∷ rs) h k = absurd k
    each_then [] (q ∷ qs) rs h k = absurd h
    each_then (p ∷ ps) [] rs h k = absurd h
    each_then (p ∷ ps) (q ∷ qs) [] h k = absurd k
    each_then (p ∷ ps) (q ∷ qs) (r ∷ rs) h k = (then p q r h.0 k.0, each_then ps qs rs h.1 k.1)

    pub each_then_twice : (ps qs rs ss : List P) → Pointwise R ps qs → Pointwise R qs rs → Pointwise R rs ss → Pointwise R ps ss
    each_then_twice ps qs rs ss h k l = each_then ps rs ss (each_then ps qs rs h k) l

  module _ (S : P → P → Type 0) (weaker : (p q : P) → R p q → S p q) where
    pub each_weaker : (ps qs : List P) → Pointwise R ps qs → Pointwise S ps qs
    each_weaker [] [] h = tt
    each_weaker [] (q ∷ qs) h = absurd h
    each_weaker (p ∷ ps) [] h = absurd h
    each_weaker (p ∷ ps) (q ∷ qs) h = (weaker p q h.0, each_weaker ps qs h.1)

-- what holds of each goes on holding, where two relations together keep it
pub all_keep : {P : Type 0} (R S : P → P → Type 0) (H : P → Type 0) → ((p q : P) → R p q → S p q → H p → H q) → (ps qs : List P)
    → Pointwise R ps qs → Pointwise S ps qs → AllByRecursion H ps → AllByRecursion H qs
all_keep R S H keep [] [] r s h = tt
all_keep R S H keep [] (q ∷ qs) r s h = absurd r
all_keep R S H keep (p ∷ ps) [] r s h = absurd r
all_keep R S H keep (p ∷ ps) (q ∷ qs) r s h = (keep p q r.0 s.0 h.0, all_keep R S H keep ps qs r.1 s.1 h.1)

-- what holds of each goes on holding, where a relation keeps it
pub all_stay : {P : Type 0} (R : P → P → Type 0) (H : P → Type 0) → ((p q : P) → H p → R p q → H q) → (ps qs : List P)
    → AllByRecursion H ps → Pointwise R ps qs → AllByRecursion H qs
all_stay R H keep [] [] h r = tt
all_stay R H keep [] (q ∷ qs) h r = absurd r
all_stay R H keep (p ∷ ps) [] h r = absurd r
all_stay R H keep (p ∷ ps) (q ∷ qs) h r = (keep p q h.0 r.0, all_stay R H keep ps qs h.1 r.1)

-- what follows at an Ok
pub at_ok : {T E : Type 0} (r : Result T E) (x : T) (X : T → Type 0) → r ≡ Ok x → IfOk r X → X x
at_ok {T} {E} r x X is h = subst (λ (z : Result T E). IfOk z X) is h
