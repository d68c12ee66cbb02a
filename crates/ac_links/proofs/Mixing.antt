-- Two lists that rise, sorted into one, are mixed: each entry of the sorted list is the next of the one or the other, and is not after what is left of either.
-- By induction on the first list, whose head is put in its place among the rest. Pair goes through this mix entry by entry.
use Rattle.std.proofs.Common.{◌≡◌, ℕ, ◌<◌, ◌≤◌, List, [], ◌∷◌, ◌++◌, Bool, true, false, cond, refl, sym, subst, inl, inr, ◌⊎◌, arith}
use Rattle.std.specs.Prelude.{nat_le}
use Rattle.std.proofs.lemmas.Bool.Decides.{nat_tests}
use Rattle.ac_base.specs.declared.entry.Stamped.{Stamped}
use Rattle.ac_links.specs.Order.{placed, in_order, stamp_of, AllFrom, Rises}
use Rattle.ac_links.proofs.Sorting.{from_less, in_order_already}

-- each entry of h is the next of the one or the other list, and none that is left comes before it
abbrev pub Mix : List Stamped → List Stamped → List Stamped → Type 0
Mix us bs [] = (us ≡ []) × (bs ≡ [])
Mix us bs (h ∷ hs) = ((rest : List Stamped) × (us ≡ h ∷ rest) × AllFrom stamp_of h.entry.stamp bs × Mix rest bs hs)
    ⊎ ((rest : List Stamped) × (bs ≡ h ∷ rest) × AllFrom stamp_of h.entry.stamp us × Mix us rest hs)

le_true : (m n : ℕ) → nat_le m n ≡ true → m ≤ n
le_true m n e = grind (arith, nat_tests)

lt_false : (m n : ℕ) → nat_le m n ≡ false → n < m
lt_false m n e = grind (arith, nat_tests)

le_false : (m n : ℕ) → nat_le m n ≡ false → n ≤ m
le_false m n e = grind (arith, nat_tests)

mix_right : (bs : List Stamped) → Rises stamp_of bs → Mix [] bs bs
mix_right [] r = (refl, refl)
mix_right (b ∷ bs) r = inr (bs, refl, tt, mix_right bs r.1)

mix_at : (a h : Stamped) (us bs hs : List Stamped) → AllFrom stamp_of a.entry.stamp us → Rises stamp_of bs
    → ((rest : List Stamped) → Rises stamp_of rest → Mix us rest hs → Mix (a ∷ us) rest (placed stamp_of a hs))
    → Mix us bs (h ∷ hs) → (t : Bool) → nat_le a.entry.stamp h.entry.stamp ≡ t → Mix (a ∷ us) bs (cond t (a ∷ h ∷ hs) (h ∷ placed stamp_of a hs))
mix_at a h us bs hs f r go (inl w) true e = inl (us, refl, from_less stamp_of a.entry.stamp h.entry.stamp (le_true _ _ e) bs w.2, inl w)
mix_at a h us bs hs f r go (inr w) true e = inl (
  us,
  refl,
  subst (AllFrom stamp_of a.entry.stamp) (sym w.1) (le_true _ _ e, from_less stamp_of a.entry.stamp h.entry.stamp (le_true _ _ e) w.0 (subst (Rises stamp_of) w.1 r).0),
  inr w,
)
mix_at a h us bs hs f r go (inl w) false e = let n = (subst (AllFrom stamp_of a.entry.stamp) w.1 f).0 in let l = lt_false a.entry.stamp h.entry.stamp e in absurd (omega arith)
mix_at a h us bs hs f r go (inr w) false e = inr (w.0, w.1, (le_false _ _ e, w.2), go w.0 (subst (Rises stamp_of) w.1 r).1 w.3)

-- a, before all of us, goes in
mix_placed : (a : Stamped) (us bs hs : List Stamped) → AllFrom stamp_of a.entry.stamp us → Rises stamp_of bs → Mix us bs hs → Mix (a ∷ us) bs (placed stamp_of a hs)
mix_placed a us bs [] f r m = inl (us, refl, subst (AllFrom stamp_of a.entry.stamp) (sym m.1) tt, m)
mix_placed a us bs (h ∷ hs) f r m = mix_at a h us bs hs f r (λ rest q n. mix_placed a us rest hs f q n) m (nat_le a.entry.stamp h.entry.stamp) refl

pub mix_in_order : (us bs : List Stamped) → Rises stamp_of us → Rises stamp_of bs → Mix us bs (in_order stamp_of (us ++ bs))
mix_in_order [] bs r s = subst (Mix [] bs) (sym (in_order_already stamp_of bs s)) (mix_right bs s)
mix_in_order (a ∷ us) bs r s = mix_placed a us bs (in_order stamp_of (us ++ bs)) r.0 s (mix_in_order us bs r.1 s)
