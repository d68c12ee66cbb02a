-- Stacks, seen from their top.
-- A shape has its top first and the code keeps it last; lists are equal just where they are when both are turned round.
use Rattle.std.proofs.Common.{◌≡◌, List, Bool, reverse, sym, ap, ◌∙◌}
use Rattle.std.specs.Prelude.{◌↔◌, IsTrue}
use Rattle.std.proofs.lemmas.List.{reverse-reverse}

-- what decides whether two lists are equal decides it of the lists turned round
pub reversed : {A : Type 0} (r : Bool) (xs ys us vs : List A) → (IsTrue r ↔ (xs ≡ ys)) → us ≡ reverse xs → vs ≡ reverse ys → IsTrue r ↔ (us ≡ vs)
reversed r xs ys us vs h p q = (
  λ t. p ∙ ap reverse (h.0 t) ∙ sym q,
  λ e. h.1 (sym (reverse-reverse xs) ∙ ap reverse (sym p ∙ e ∙ q) ∙ reverse-reverse ys),
)
