-- A walk after a function, and a whole program. The states between the steps of the function are put for one another until the
-- definition stands there; the names are as before, since its scope is closed and its frame is left.
use Rattle.std.proofs.Common.{◌≡◌, ℕ, ◌+◌, ◌≤◌, Bool, List, [], ◌∷◌, ◌++◌, length, sym, ap, ◌∙◌, arith}
use Rattle.ac_tree.specs.declared.stmt.Stmt.{Stmt}
use Rattle.ac_tree.specs.declared.item.Function as tree
use Rattle.ac_tree.specs.declared.item.Item.{Item}
use Rattle.ac_tree.specs.declared.item.Param.{Param}
use Rattle.ac_tree.specs.declared.item.Program.{Program}
use Rattle.ac_tree.specs.Weight.{params_weight, body_weight}
use Rattle.ac_names.specs.declared.names.Names.{Names}
use Rattle.ac_names.specs.declared.past.Past.{Past}
use Rattle.ac_names.specs.Items.{params_named, kinds_in, function_names, outermost, no_past, whole}
use Rattle.ac_names.specs.Numbered.{file_paths}
use Rattle.ac_names.specs.Room.{HasSlots}
use Rattle.ac_names.specs.Scopes.{Declaration, closed}
use Rattle.ac_names.specs.Statements.{sum_words}
use Rattle.ac_names.proofs.Parameters.{few_params, params_slot, params_closed, params_labels}
use Rattle.ac_names.proofs.Statements.{names_of, same_names, after_closed, after_labels, after_slot}
use Rattle.ac_commands.specs.declared.command.Command.{Command}
use Rattle.ac_commands.specs.declared.program.Channel.{Channel}
use Rattle.ac_commands.specs.declared.program.Core.{Core}
use Rattle.ac_commands.specs.declared.program.Function.{Function}
use Rattle.ac_commands.specs.declared.program.Resolved.{Resolved}
use Rattle.ac_commands.specs.declared.program.Start.{Start}
use Rattle.ac_resolve.specs.declared.walk.Walk.{Walk}
use Rattle.ac_resolve.specs.Commands.{Texts, shapes, body_told}
use Rattle.ac_resolve.specs.inner.Walks.{after_body, body_does, after_function, after_functions}
use Rattle.ac_resolve.specs.Resolution.{body_names, function_in, function_texts, functions_in, items_texts, cores_in, channels_in, starts_in, resolved}
use Rattle.ac_resolve.proofs.Scoped.{walk_of}

-- the slots and the body of a function are told after its name, its kind and its parameters
abbrev made : tree.Function → List ℕ → List Bool → ℕ → List Command → Function
made f name params slots body = record { name = name; is_async = f.is_async; gives_int = f.gives_int; params = params; slots = slots; body = body }

module _ (f : tree.Function) (w : Walk) (declared : Names) (o : List (List Declaration)) (ps : List Param) (l : w.names.labels ≡ []) (n : w.names.slot ≡ 0) (ep : ps ≡ f.params)
    (eo : o ≡ [] ∷ w.names.scopes)
    (ed : declared ≡ params_named ps (names_of o w.names.labels w.names.slot)) where
  abbrev v : Walk
  v = walk_of declared w.texts

  abbrev inside : Walk
  inside = walk_of (body_names f w.names.scopes) w.texts

  inside_is : v ≡ inside
  inside_is =
      ap (λ k. walk_of k w.texts)
      (ed ∙ ap (λ b. params_named b (names_of o w.names.labels w.names.slot)) ep ∙ ap (params_named f.params) (same_names o ([] ∷ w.names.scopes) w.names.labels [] w.names.slot 0 eo l n))

  pub body_slots : (body : List Stmt) → body ≡ f.body → params_weight f.params + body_weight f.body ≤ 1048576 → HasSlots v.names.slot (body_weight body)
  body_slots body eb small =
      let few = few_params f.params in
      let s : v.names.slot ≡ 0 + length f.params = ap (λ (k : Walk). k.names.slot) inside_is ∙ params_slot f.params (function_names w.names.scopes) in
      let z : body_weight body ≡ body_weight f.body = ap body_weight eb in
      omega (arith, few, s, z, small)

  module _ (u : Walk) (body : List Stmt) (eb : body ≡ f.body) (eu : u ≡ after_body (body_told body) 0 v) where
    abbrev left : Walk
    left = after_body (body_told f.body) 0 inside

    left_is : u ≡ left
    left_is = eu ∙ ap (λ b. after_body (body_told b) 0 v) eb ∙ ap (λ k. after_body (body_told f.body) 0 k) inside_is

    abbrev shut_at : Walk → Walk
    shut_at k = walk_of (names_of (closed k.names.scopes) k.names.labels 0) k.texts

    pub function_after : (k : List (List Declaration)) → k ≡ closed u.names.scopes → walk_of (names_of k u.names.labels 0) u.texts ≡ after_function f w
    function_after k ek =
        ap (λ x. walk_of (names_of x u.names.labels 0) u.texts) ek
        ∙ ap (λ (x : Walk). shut_at x) left_is
        ∙ ap (λ x. walk_of x (function_texts f w.texts))
        (same_names (closed left.names.scopes) w.names.scopes left.names.labels w.names.labels 0 w.names.slot
        (after_closed (shapes (body_told f.body)) 0 (body_names f w.names.scopes) ∙ params_closed f.params (function_names w.names.scopes))
        (after_labels (shapes (body_told f.body)) 0 (body_names f w.names.scopes) ∙ params_labels f.params (function_names w.names.scopes) ∙ sym l)
        (sym n))

    pub function_is : (name : List ℕ) (first : List Param) (params : List Bool) (empty list : List Command) → name ≡ f.name → first ≡ f.params → params ≡ kinds_in first → empty ≡ []
        → list ≡ empty ++ body_does (body_told body) 0 v →
        made f name params u.names.slot list ≡ function_in f w.names.scopes w.texts
    function_is name first params empty list en ef ek ee el =
        let kinds : params ≡ kinds_in f.params = ek ∙ ap kinds_in ef in
        let body_is : list ≡ body_does (body_told f.body) 0 inside = el ∙ ap (λ k. k ++ body_does (body_told body) 0 v) ee ∙ ap (λ b. body_does (body_told b) 0 v) eb
        ∙ ap (λ k. body_does (body_told f.body) 0 k) inside_is in
        let a : u.names.slot ≡ (body_names f w.names.scopes).slot + sum_words (shapes (body_told f.body)) = ap (λ (k : Walk). k.names.slot) left_is
        ∙ after_slot (shapes (body_told f.body)) 0 (body_names f w.names.scopes) in
        let b : (body_names f w.names.scopes).slot ≡ 0 + length f.params = params_slot f.params (function_names w.names.scopes) in
        let slots : u.names.slot ≡ length f.params + sum_words (shapes (body_told f.body)) = omega (arith, a, b) in
        ap (λ x. made f x params u.names.slot list) en
        ∙ ap (λ x. made f f.name x u.names.slot list) kinds
        ∙ ap (λ x. made f f.name (kinds_in f.params) x list) slots
        ∙ ap (λ x. made f f.name (kinds_in f.params) (length f.params + sum_words (shapes (body_told f.body))) x) body_is

-- ---- the whole program

abbrev resolved_of : List Core → List Function → List Channel → List (List ℕ) → ℕ → List Start → Texts → Resolved
resolved_of cores functions channels files slots starts texts =
    record { cores = cores; functions = functions; channels = channels; files = files; slots = slots; starts = starts; texts = texts }

abbrev built : List Item → List (List Declaration) → Texts → Resolved
built items scopes texts =
    resolved_of (cores_in items scopes) (functions_in items scopes texts) (channels_in items 0 items scopes) (file_paths items) (whole items).counts.slots (starts_in no_past.counts items)
    (items_texts items texts)

pub resolved_is : (p q : Program) (items : List Item) (past : Past) (scopes : List (List Declaration)) (texts : Texts) (cores : List Core) (functions : List Function) (channels : List Channel)
    (files : List (List ℕ))
    (starts : List Start) (labels : List (List Declaration)) (slot : ℕ) (u : Walk) →
    q ≡ p → items ≡ q.items → past ≡ whole items → scopes ≡ past.names ∷ [] → texts ≡ [] → cores ≡ cores_in items scopes → functions ≡ functions_in items scopes texts
    → channels ≡ channels_in p.items 0 p.items scopes → files ≡ file_paths items →
    starts ≡ starts_in no_past.counts items → u ≡ after_functions items (walk_of (names_of scopes labels slot) texts) →
    resolved_of cores functions channels files past.counts.slots starts u.texts ≡ resolved p
resolved_is p q items past scopes texts cores functions channels files starts labels slot u eq ei ep es et e1 e2 e3 e4 e6 eu =
    let s5 : past.counts.slots ≡ (whole items).counts.slots = ap (λ (k : Past). k.counts.slots) ep in
    let s7 : u.texts ≡ items_texts items texts = ap (λ (k : Walk). k.texts) eu in
    let i : items ≡ p.items = ei ∙ ap (λ (k : Program). k.items) eq in
    let o : scopes ≡ outermost items = es ∙ ap (λ (k : Past). k.names ∷ []) ep in
    let links : channels ≡ channels_in items 0 items scopes = e3 ∙ ap (λ xs. channels_in xs 0 xs scopes) (sym i) in
    ap (λ x. resolved_of x functions channels files past.counts.slots starts u.texts) e1
    ∙ ap (λ x. resolved_of (cores_in items scopes) x channels files past.counts.slots starts u.texts) e2
    ∙ ap (λ x. resolved_of (cores_in items scopes) (functions_in items scopes texts) x files past.counts.slots starts u.texts) links
    ∙ ap (λ x. resolved_of (cores_in items scopes) (functions_in items scopes texts) (channels_in items 0 items scopes) x past.counts.slots starts u.texts) e4
    ∙ ap (λ x. resolved_of (cores_in items scopes) (functions_in items scopes texts) (channels_in items 0 items scopes) (file_paths items) x starts u.texts) s5
    ∙ ap (λ x. resolved_of (cores_in items scopes) (functions_in items scopes texts) (channels_in items 0 items scopes) (file_paths items) (whole items).counts.slots x u.texts) e6
    ∙ ap (λ x. resolved_of (cores_in items scopes) (functions_in items scopes texts) (channels_in items 0 items scopes) (file_paths items) (whole items).counts.slots
    (starts_in no_past.counts items) x) s7
    ∙ ap (λ x. built items x texts) o
    ∙ ap (λ x. built items (outermost items) x) et
    ∙ ap (λ x. built x (outermost x) []) i
