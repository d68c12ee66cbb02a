-- A program has as many cores without its names as with them.
-- By induction over the items: what is a core there has a name here, so a core's number is one in both.
use Rattle.std.proofs.Common.{◌≡◌, ℕ, ◌<◌, List, [], ◌∷◌, length, refl, ap, subst}
use Rattle.std.specs.Prelude.{suc}
use Rattle.ac_tree.specs.declared.item.Item.{Item}
use Rattle.ac_tree.specs.declared.item.Item.TheVariants as i
use Rattle.ac_tree.specs.declared.item.Program.{Program}
use Rattle.ac_names.specs.Scopes.{Declaration}
use Rattle.ac_names.specs.Items.{outermost}
use Rattle.ac_names.specs.Numbered.{core_names}
use Rattle.ac_resolve.specs.Resolution.{cores_in, resolved}

as_many_cores : (items : List Item) (scopes : List (List Declaration)) → length (core_names items) ≡ length (cores_in items scopes)
as_many_cores [] scopes = refl
as_many_cores (i.Core at name entry ∷ items) scopes = ap suc (as_many_cores items scopes)
as_many_cores (i.Function f ∷ items) scopes = as_many_cores items scopes
as_many_cores (i.Global at name size value ∷ items) scopes = as_many_cores items scopes
as_many_cores (i.Channel at name from to cap ∷ items) scopes = as_many_cores items scopes
as_many_cores (i.File at name path ∷ items) scopes = as_many_cores items scopes

pub is_core : (p : Program) (core : ℕ) → core < length (core_names p.items) → core < length (resolved p).cores
is_core p core lt = subst (λ (n : ℕ). core < n) (as_many_cores p.items (outermost p.items)) lt
