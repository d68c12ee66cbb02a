-- A walk after a function. The function opens a scope, declares its parameters, sees its body and closes the scope with an empty
-- frame; so the names are as before and what is seen has grown by the nodes of the function.
use Rattle.std.proofs.Common.{◌≡◌, List, [], ◌∷◌, sym, ap, ◌∙◌}
use Rattle.ac_tree.specs.declared.stmt.Stmt.{Stmt}
use Rattle.ac_tree.specs.declared.item.Function.{Function}
use Rattle.ac_tree.specs.declared.item.Param.{Param}
use Rattle.ac_types.specs.declared.around.Around.{Around}
use Rattle.ac_reach.specs.declared.reached.Reached.{Reached}
use Rattle.ac_types.specs.declared.numbered.Tables.{Tables}
use Rattle.ac_types.specs.declared.statements.Walk.{Walk}
use Rattle.ac_names.specs.Scopes.{Declaration, closed}
use Rattle.ac_types.specs.inner.Statements.{body_seen, after_body}
use Rattle.ac_names.specs.Statements.{names_after}
use Rattle.ac_names.specs.Items.{params_named, function_names}
use Rattle.ac_types.specs.Items.{around_of}
use Rattle.ac_types.specs.inner.Items.{function_seen, after_params, after_function}
use Rattle.ac_names.proofs.Parameters.{params_closed, params_labels}
use Rattle.ac_names.proofs.Statements.{names_of, same_names, after_closed, after_labels}
use Rattle.ac_types.proofs.Bodies.{walk_of}

-- a function in a walk whose frame is empty
abbrev inside : Tables → Function → Reached → Walk → Walk
inside t f reached w = after_body t (around_of f reached) (body_seen f.body) (after_params f.params (walk_of (function_names w.names.scopes) w.seen))

abbrev left_at : Walk → Walk
left_at u = walk_of (names_of (closed u.names.scopes) u.names.labels 0) u.seen

left_function : (t : Tables) (f : Function) (reached : Reached) (w : Walk) → w.names.labels ≡ [] → w.names.slot ≡ 0 → left_at (inside t f reached w) ≡ after_function t f reached w
left_function t f reached w l n =
    let names = params_named f.params (function_names w.names.scopes) in
    let around = around_of f reached in
    ap (λ k. walk_of k (function_seen f t w.names.scopes reached w.seen))
    (same_names (closed (names_after (body_seen f.body) around.depth names).scopes) w.names.scopes (names_after (body_seen f.body) around.depth names).labels w.names.labels 0 w.names.slot
    (after_closed (body_seen f.body) around.depth names ∙ params_closed f.params (function_names w.names.scopes))
    (after_labels (body_seen f.body) around.depth names ∙ params_labels f.params (function_names w.names.scopes) ∙ sym l)
    (sym n))

pub function_after : (t : Tables) (f : Function) (reached : Reached) (w v u : Walk) (o c : List (List Declaration)) (ps : List Param) (body : List Stmt) (a : Around) →
    w.names.labels ≡ [] → w.names.slot ≡ 0 → ps ≡ f.params → body ≡ f.body → a ≡ around_of f reached → o ≡ [] ∷ w.names.scopes →
    v ≡ after_params ps (walk_of (names_of o w.names.labels w.names.slot) w.seen) → u ≡ after_body t a (body_seen body) v → c ≡ closed u.names.scopes →
    walk_of (names_of c u.names.labels 0) u.seen ≡ after_function t f reached w
function_after t f reached w v u o c ps body a l n ep eb ea eo ev eu ec =
    ap (λ k. walk_of (names_of k u.names.labels 0) u.seen) ec
    ∙ ap (λ (k : Walk). left_at k)
    (eu ∙ ap (λ b. after_body t a (body_seen b) v) eb ∙ ap (λ b. after_body t b (body_seen f.body) v) ea
    ∙ ap (after_body t (around_of f reached) (body_seen f.body))
    (ev ∙ ap (λ b. after_params b (walk_of (names_of o w.names.labels w.names.slot) w.seen)) ep
    ∙ ap (λ k. after_params f.params (walk_of k w.seen)) (same_names o ([] ∷ w.names.scopes) w.names.labels [] w.names.slot 0 eo l n)))
    ∙ left_function t f reached w l n
