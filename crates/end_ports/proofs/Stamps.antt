-- Of stamps that were heard of: where none is left after one of them, none is left after the greatest.
use Rattle.std.proofs.Common.{◌≡◌, ℕ, zero, suc, ◌<◌, ◌≤◌, ◌^◌, List, [], ◌∷◌, Option, Some, None, true, cond, sym, ap, ◌∙◌, subst, arith, length, max, nat_lt, inl, inr}
use Rattle.std.specs.Prelude.{slice_get}
use Rattle.std.proofs.lemmas.Bool.{cases_Bool}
use Rattle.std.proofs.lemmas.Bool.Decides.{nat_tests}
use Rattle.ac_base.specs.Stamps.{stamp_after}
use Rattle.ac_links.specs.Views.{altered}
use Rattle.ac_links.specs.Noted.{or_zero}
use Rattle.core_ports.specs.Ends.{greatest}

pub none_above : (last low high : ℕ) → low ≤ high → stamp_after last low ≡ None → stamp_after last high ≡ None
none_above last low high h e = elim (cases_Bool (nat_lt (suc (max last high)) (2 ^ 60))) [
  | inl t ↦ let s : nat_lt (suc (max last low)) (2 ^ 60) ≡ true = grind (arith, nat_tests) in
      let some : stamp_after last low ≡ Some (suc (max last low)) = ap (λ b. cond b (Some (suc (max last low))) None) s in
      absurd (let no : Some (suc (max last low)) ≡ None = sym some ∙ e in cc)
  | inr f ↦ ap (λ b. cond b (Some (suc (max last high))) None) f
]

-- one of the list is at most the greatest of it
pub among : {X : Type 0} (stamp : X → ℕ) (xs : List X) (n : ℕ) (x : X) → slice_get xs n ≡ Some x → stamp x ≤ greatest stamp xs
among stamp [] n x h = cc
among stamp (y ∷ ys) zero x h = let e : y ≡ x = cc in subst (λ z. stamp z ≤ max (stamp y) (greatest stamp ys)) e (omega arith)
among stamp (y ∷ ys) (suc n) x h = let up = among stamp ys n x h in omega arith

-- a stamp that was put into the list is
pub heard_here : (heard : List (Option ℕ)) (n of : ℕ) → n < length heard → of ≤ greatest or_zero (altered heard n (λ x. Some of))
heard_here [] n of l = absurd (omega arith)
heard_here (h ∷ heard) zero of l = omega arith
heard_here (h ∷ heard) (suc n) of l = let up = heard_here heard n of (omega arith) in omega arith
