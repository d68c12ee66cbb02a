-- The requests before the first that is not known: no more than there are, and no fewer once one more is made or one is changed.
use Rattle.std.proofs.Common.{◌≡◌, ℕ, zero, suc, ◌+◌, ◌<◌, ◌≤◌, List, [], ◌∷◌, ◌++◌, Bool, true, false, cond, refl, subst, sym, arith, length, is_some, nat_lt}
use Rattle.std.specs.Prelude.{◌-◌}
use Rattle.std.proofs.lemmas.Bool.Decides.{nat_tests}
use Rattle.ac_links.specs.Views.{altered}
use Rattle.channel_ends.specs.Sending.{MadeOffer, known_lead}

by_known : (b : Bool) (n m : ℕ) → n ≤ m → cond b (suc n) 0 ≤ suc m
by_known true n m l = omega arith
by_known false n m l = omega arith

pub lead_within : (os : List MadeOffer) → known_lead os ≤ length os
lead_within [] = omega arith
lead_within (o ∷ os) = by_known (is_some o.known) (known_lead os) (length os) (lead_within os)

grown : (b : Bool) (n m : ℕ) → n ≤ m → cond b (suc n) 0 ≤ cond b (suc m) 0
grown true n m l = omega arith
grown false n m l = omega arith

pub lead_more : (os : List MadeOffer) (o : MadeOffer) → known_lead os ≤ known_lead (os ++ o ∷ [])
lead_more [] o = omega arith
lead_more (x ∷ os) o = grown (is_some x.known) (known_lead os) (known_lead (os ++ o ∷ [])) (lead_more os o)

changed_front : (b c : Bool) (n : ℕ) → (b ≡ true → c ≡ true) → cond b (suc n) 0 ≤ cond c (suc n) 0
changed_front true c n keeps = subst (λ d. suc n ≤ cond d (suc n) 0) (sym (keeps refl)) (omega arith)
changed_front false c n keeps = omega arith

-- where what is known of one stays known
pub lead_altered : (os : List MadeOffer) (n : ℕ) (f : MadeOffer → MadeOffer) → ((o : MadeOffer) → is_some o.known ≡ true → is_some (f o).known ≡ true)
    → known_lead os ≤ known_lead (altered os n f)
lead_altered [] n f keeps = omega arith
lead_altered (o ∷ os) zero f keeps = changed_front (is_some o.known) (is_some (f o).known) (known_lead os) (keeps o)
lead_altered (o ∷ os) (suc n) f keeps = grown (is_some o.known) (known_lead os) (known_lead (altered os n f)) (lead_altered os n f keeps)

-- there is room for one more
pub room_left : (n lead capacity : ℕ) → nat_lt (n - lead) capacity ≡ true → capacity ≡ 16 → lead ≤ n → n < lead + 16
room_left n lead capacity h e l = grind (arith, nat_tests)
