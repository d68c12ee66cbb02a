-- What a walk says of the functions that a function calls and of the channels that it names: what it has seen grows by the nodes of that
-- function, in order; of calls it began with none.
use Rattle.std.proofs.Common.{◌≡◌, ℕ, List, [], ◌++◌, ap, ◌∙◌}
use Rattle.ac_tree.specs.declared.item.Function.{Function}
use Rattle.ac_reach.specs.declared.reached.Reached.{Reached}
use Rattle.ac_types.specs.declared.carried.Carried.{Carried}
use Rattle.ac_types.specs.declared.numbered.Tables.{Tables}
use Rattle.ac_types.specs.declared.seen.Seen.{Seen}
use Rattle.ac_types.specs.declared.statements.Walk.{Walk}
use Rattle.ac_types.specs.Nodes.{calls_of, carried_of}
use Rattle.ac_types.specs.Items.{function_nodes}
use Rattle.ac_types.specs.inner.Items.{after_function}
use Rattle.ac_types.proofs.Agrees.{calls_seen, carried_seen}
use Rattle.ac_types.proofs.Wholes.{function_agrees}

pub calls_told : (t : Tables) (f : Function) (reached : Reached) (new : Seen) (w v : Walk) (list : List ℕ) → new.calls ≡ [] → v ≡ after_function t f reached (record { names = w.names; seen = new })
    → list ≡ v.seen.calls → list ≡ calls_of (function_nodes f t w.names.scopes reached)
calls_told t f reached new w v list e is same =
    same ∙ ap (λ (z : Walk). z.seen.calls) is ∙ ap (λ (z : Seen). z.calls) (function_agrees f t w.names.scopes reached new)
    ∙ calls_seen (function_nodes f t w.names.scopes reached) new ∙ ap (λ (xs : List ℕ). xs ++ calls_of (function_nodes f t w.names.scopes reached)) e

pub carried_told : (t : Tables) (f : Function) (reached : Reached) (new : Seen) (w v : Walk) → new.carried ≡ w.seen.carried
    → v ≡ after_function t f reached (record { names = w.names; seen = new }) → v.seen.carried ≡ w.seen.carried ++ carried_of (function_nodes f t w.names.scopes reached)
carried_told t f reached new w v e is =
    ap (λ (z : Walk). z.seen.carried) is ∙ ap (λ (z : Seen). z.carried) (function_agrees f t w.names.scopes reached new)
    ∙ carried_seen (function_nodes f t w.names.scopes reached) new ∙ ap (λ (xs : List Carried). xs ++ carried_of (function_nodes f t w.names.scopes reached)) e
