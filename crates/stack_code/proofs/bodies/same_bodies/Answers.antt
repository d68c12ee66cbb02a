use Rattle.std.proofs.Common.{◌≡◌, rules}
use Rattle.std.specs.Prelude.{◌↔◌, IsTrue}
use Rattle.std.proofs.lemmas.Slice.Eq.{slice_eq-Decides}
use Rattle.stack_code.proofs.Reversed.{reversed}
use Rattle.stack_code.proofs.bodies.same_bodies.Goals as goal

pub returns : goal.returns
returns c =
    let h : IsTrue c.eq.result ↔ (c.as_slice.result.now ≡ c.as_slice-2.result.now) = slice_eq-Decides (λ a b. search rules) _ _ _ c.eq.ensures in
    reversed c.eq.result c.as_slice.result.now c.as_slice-2.result.now _ _ h c.as_slice.ensures c.as_slice-2.ensures
