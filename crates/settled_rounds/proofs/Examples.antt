-- Two ways between three small parties, which are numbers: which are ways, what holds of the two ends of each, and what holds party by party.
use Rattle.std.proofs.Common.{◌≡◌, ◌≢◌, ◌≤◌, ◌<◌, ◌+◌, ◌*◌, ℕ, zero, suc, List, [], ◌∷◌, Some, refl, arith, subst}
use Rattle.std.specs.Prelude.{slice_get}
use Rattle.settled_rounds.specs.declared.party.Way.{Way}
use Rattle.settled_rounds.specs.Linked.{AreWays, OnLinks, Pointwise}
use Rattle.settled_rounds.proofs.Pairs.{same_Some}

abbrev way : ℕ → ℕ → Way
way from to = record { from = from; to = to }

-- the first party sends to the third, and the third to the second
abbrev two_ways : List Way
two_ways = way 0 2 ∷ way 2 1 ∷ []

abbrev IsWay : Way → Type 0
IsWay w = (w.from < 3) × (w.to < 3) × (w.from ≢ w.to)

pub they_are_ways : AreWays 3 two_ways
they_are_ways zero w e = subst IsWay (same_Some (way 0 2) w e) (omega arith, omega arith, λ f. omega (arith, f))
they_are_ways (suc zero) w e = subst IsWay (same_Some (way 2 1) w e) (omega arith, omega arith, λ f. omega (arith, f))
they_are_ways (suc (suc l)) w e = absurd cc

pub two_parties_are_too_few : AreWays 2 two_ways → ⊥
two_parties_are_too_few h = let l = (h 0 (way 0 2) refl).1 in omega (arith, l)

pub no_fourth_party_sends : AreWays 3 (way 3 0 ∷ []) → ⊥
no_fourth_party_sends h = let l = (h 0 (way 3 0) refl).0 in omega (arith, l)

pub none_to_itself : AreWays 3 (way 1 1 ∷ []) → ⊥
none_to_itself h = (h 0 (way 1 1) refl).2 refl

-- ---- the two ends of each link

-- the peer is one more than the owner on link 0, and four more on link 1
abbrev Exceeds : ℕ → ℕ → ℕ → Type 0
Exceeds l a b = b ≡ a + 1 + 3 * l

abbrev parties : List ℕ
parties = 4 ∷ 9 ∷ 5 ∷ []

pub on_both_links : OnLinks Exceeds two_ways parties
on_both_links zero w a b e x y = on_first w (same_Some (way 0 2) w e) a b x y
  where
    on_first : (w : Way) → way 0 2 ≡ w → (a b : ℕ) → slice_get parties w.from ≡ Some a → slice_get parties w.to ≡ Some b → Exceeds 0 a b
    on_first w e = subst (λ (w : Way). (a b : ℕ) → slice_get parties w.from ≡ Some a → slice_get parties w.to ≡ Some b → Exceeds 0 a b) e
        (λ a b x y. let p = same_Some 4 a x in let q = same_Some 5 b y in omega (arith, p, q))
on_both_links (suc zero) w a b e x y = on_second w (same_Some (way 2 1) w e) a b x y
  where
    on_second : (w : Way) → way 2 1 ≡ w → (a b : ℕ) → slice_get parties w.from ≡ Some a → slice_get parties w.to ≡ Some b → Exceeds 1 a b
    on_second w e = subst (λ (w : Way). (a b : ℕ) → slice_get parties w.from ≡ Some a → slice_get parties w.to ≡ Some b → Exceeds 1 a b) e
        (λ a b x y. let p = same_Some 5 a x in let q = same_Some 9 b y in omega (arith, p, q))
on_both_links (suc (suc l)) w a b e x y = absurd cc

pub not_from_the_peer_to_the_owner : OnLinks Exceeds (way 2 0 ∷ []) parties → ⊥
not_from_the_peer_to_the_owner h = let e = h 0 (way 2 0) 5 4 refl refl refl in omega (arith, e)

pub not_under_another_number : OnLinks Exceeds (way 0 2 ∷ way 0 2 ∷ []) parties → ⊥
not_under_another_number h = let e = h 1 (way 0 2) 4 5 refl refl refl in omega (arith, e)

-- ---- party by party

abbrev IsAtMost : ℕ → ℕ → Type 0
IsAtMost m n = m ≤ n

pub none_falls : Pointwise IsAtMost parties (4 ∷ 10 ∷ 5 ∷ [])
none_falls = (omega arith, (omega arith, (omega arith, tt)))

pub last_falls : Pointwise IsAtMost parties (4 ∷ 9 ∷ 3 ∷ []) → ⊥
last_falls h = let l = h.1.1.0 in omega (arith, l)

pub none_is_left_out : Pointwise IsAtMost parties (4 ∷ 9 ∷ []) → ⊥
none_is_left_out h = h.1.1

pub none_is_added : Pointwise IsAtMost (4 ∷ []) parties → ⊥
none_is_added h = h.1
