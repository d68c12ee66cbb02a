-- Two ends at which nothing was decided are a list of such ends.
use Rattle.std.proofs.Common.{◌≡◌, ℕ, zero, suc, ℤ, List, [], ◌∷◌, subst, sym}
use Rattle.channel_ends.specs.Receiving.{Receiving}
use Rattle.ac_choice.specs.Settling.{HaveDecidedNone}

two_of : (a b : Receiving ℤ) → (a.peer.decisions ≡ []) × (a.popped ≡ []) → (b.peer.decisions ≡ []) × (b.popped ≡ []) → HaveDecidedNone (a ∷ b ∷ [])
two_of a b p q zero r at = subst (λ (v : Receiving ℤ). (v.peer.decisions ≡ []) × (v.popped ≡ [])) (let e : a ≡ r = cc in e) p
two_of a b p q (suc zero) r at = subst (λ (v : Receiving ℤ). (v.peer.decisions ≡ []) × (v.popped ≡ [])) (let e : b ≡ r = cc in e) q
two_of a b p q (suc (suc k)) r at = cc

pub two_undecided : (xs : List (Receiving ℤ)) (a b : Receiving ℤ) → xs ≡ a ∷ b ∷ [] → a.peer.decisions ≡ [] → a.popped ≡ []
    → b.peer.decisions ≡ [] → b.popped ≡ [] → HaveDecidedNone xs
two_undecided xs a b e p q r s = subst (λ (v : List (Receiving ℤ)). HaveDecidedNone v) (sym e) (two_of a b (p, q) (r, s))
