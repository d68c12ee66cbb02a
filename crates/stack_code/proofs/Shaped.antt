-- An instruction leads on from a shape in one way alone.
-- `effect` is a function, so two ways to fit the same shape at one address lead to the same.
use Rattle.std.proofs.Common.{◌≡◌, ℕ, subst}
use Rattle.stack_code.specs.declared.shape.Shape.{Shape}
use Rattle.stack_code.specs.Parts.{Parts}
use Rattle.stack_code.specs.Shapes.{LeadsTo}
use Rattle.stack_code.specs.Valid.{Fits}

-- an instruction leads on in one way alone
one_leads : (code : Parts) (at : ℕ) (s t : Shape) → s ≡ t → (f : Fits code at s) (g : Fits code at t) → f.leads ≡ g.leads
one_leads code at s t e f g = cc (f.here, g.here, f.finds, g.finds)

pub leads_as : (code : Parts) (at : ℕ) (s t : Shape) → s ≡ t → (f : Fits code at s) (g : Fits code at t) (to : ℕ) (u : Shape) → LeadsTo f.leads to u → LeadsTo g.leads to u
leads_as code at s t e f g to u = subst (λ leads. LeadsTo leads to u) (one_leads code at s t e f g)
