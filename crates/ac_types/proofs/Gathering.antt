-- The tables of a program, and the first rule of its items. The tables are made one after the other, the row of what is reached last;
-- the calls do not depend on that row, so they can be told before it is known.
use Rattle.std.proofs.Common.{◌≡◌, ℕ, suc, ◌≤◌, Bool, true, false, List, [], ◌∷◌, ◌++◌, length, Option, None, refl, ap, ◌∙◌, subst, arith}
use Rattle.std.specs.Prelude.{nat_eq, nat_lt}
use Rattle.std.proofs.lemmas.Bool.Decides.{nat_tests}
use Rattle.ac_tree.specs.declared.item.Item.{Item}
use Rattle.ac_tree.specs.declared.item.Item.TheVariants as i
use Rattle.ac_types.specs.declared.numbered.Ends.{Ends}
use Rattle.ac_reach.specs.declared.reached.Reached.{Reached}
use Rattle.ac_types.specs.declared.numbered.Signature.{Signature}
use Rattle.ac_types.specs.declared.numbered.Tables.{Tables}
use Rattle.ac_types.specs.declared.rule.Rule.TheVariants as rule
use Rattle.ac_types.specs.declared.seen.Seen.{Seen}
use Rattle.ac_types.specs.declared.statements.Walk.{Walk}
use Rattle.ac_names.specs.Scopes.{Declaration, or_else}
use Rattle.ac_names.specs.Kinds.{either}
use Rattle.ac_types.specs.Nodes.{Node}
use Rattle.ac_types.specs.inner.Seen.{least_with, least_broken, first_of}
use Rattle.ac_types.specs.Expressions.{one_node, join_nodes}
use Rattle.ac_names.specs.Items.{no_past, whole, outermost}
use Rattle.ac_types.specs.declared.carried.Carried.{Carried}
use Rattle.ac_types.specs.Widths.{widths_in}
use Rattle.ac_types.specs.Items.{signatures, all_ends, carried_in, first_tables, all_carried, all_widths, tables_of, program_tests, items_give, items_nodes}
use Rattle.ac_types.specs.Reached.{entries, entries_of, calls_in, all_calls}
use Rattle.ac_reach.specs.Reached.{AreAll, AreRows}
use Rattle.ac_names.specs.Numbered.{core_names}
use Rattle.ac_names.proofs.Numbers.{cores_counted}
use Rattle.ac_types.specs.inner.Items.{after_items}
use Rattle.ac_types.specs.inner.Verdicts.{AreTables}
use Rattle.ac_types.proofs.Agrees.{first_seen}
use Rattle.ac_types.proofs.Widths.{as_many_ends}
use Rattle.ac_types.proofs.Wholes.{items_agree}

abbrev nodes_in : List Item → Tables → List (List Declaration) → List Node
nodes_in items t scopes = items_give (List Node) one_node [] join_nodes no_past items t scopes

pub items_first : (items : List Item) (t : Tables) (new : Seen) (w v : Walk) → new.first ≡ None → w.names.scopes ≡ outermost items → t ≡ tables_of items t.reached →
    v ≡ after_items t no_past items (record { names = w.names; seen = new }) → v.seen.first ≡ first_of (items_nodes items t.reached)
items_first items t new w v n s e f =
    ap (λ (k : Walk). k.seen.first) f ∙ ap (λ (k : Seen). k.first) (items_agree no_past items t w.names.scopes new)
    ∙ first_seen (nodes_in items t w.names.scopes) new ∙ ap (λ o. or_else o (first_of (nodes_in items t w.names.scopes))) n
    ∙ ap (λ k. first_of (nodes_in items t k)) s ∙ ap (λ k. first_of (nodes_in items k (outermost items))) e

-- ---- the number of cores

few_of : (n : ℕ) → least_broken (program_tests n) ≡ None → n ≤ 16
few_of n e = by (nat_eq n 0) (nat_lt 16 n) refl e where
  by : (a b : Bool) → nat_lt 16 n ≡ b → least_with rule.NumberOfCoresIsAllowed (either a b) None ≡ None → n ≤ 16
  by true b f g = cc
  by false true f g = cc
  by false false f g = grind (arith, nat_tests, f)

-- as many cores enter as there are
pub as_many_entries : (scopes : List (List Declaration)) (items : List Item) → length (entries scopes items) ≡ length (core_names items)
as_many_entries scopes [] = refl
as_many_entries scopes (i.Core at name entry ∷ items) = ap (λ (n : ℕ). suc n) (as_many_entries scopes items)
as_many_entries scopes (_ ∷ items) = as_many_entries scopes items

pub few_cores : (items : List Item) → least_broken (program_tests (whole items).counts.cores) ≡ None → length (entries_of items) ≤ 16
few_cores items e =
    let a = few_of (whole items).counts.cores e in
    let b = cores_counted no_past items in
    let c = as_many_entries (outermost items) items in
    omega (arith, a, b, c)

pub few_entered : (items : List Item) (scopes : List (List Declaration)) (es list : List (Option ℕ)) → scopes ≡ outermost items → es ≡ entries scopes items → list ≡ es → length (entries_of items) ≤ 16
    → length list ≤ 16
few_entered items scopes es list s e f few =
    let k : length list ≡ length (entries_of items) = ap length (f ∙ e ∙ ap (λ x. entries x items) s) in
    omega (arith, k, few)

-- ---- tables

abbrev tables_with : List Signature → List Ends → List ℕ → List Reached → Tables
tables_with f ch ws r = record { functions = f; channels = ch; widths = ws; reached = r }

module _ (items : List Item) (scopes : List (List Declaration)) (s : scopes ≡ outermost items) where
  same_tables : (f : List Signature) (ch : List Ends) (ws ws2 : List ℕ) (r : List Reached) → f ≡ signatures items → ch ≡ all_ends scopes items → ws ≡ ws2
      → tables_with f ch ws r ≡ tables_with (signatures items) (all_ends (outermost items) items) ws2 r
  same_tables f ch ws ws2 r e g h =
      ap (λ x. tables_with x ch ws r) e ∙ ap (λ x. tables_with (signatures items) x ws r) (g ∙ ap (λ x. all_ends x items) s)
      ∙ ap (λ x. tables_with (signatures items) (all_ends (outermost items) items) x r) h

  module _ (f : List Signature) (ch : List Ends) (no_widths : List ℕ) (none : List Reached) (ef : f ≡ signatures items) (ec : ch ≡ all_ends scopes items) (ew : no_widths ≡ []) (en : none ≡ []) where
    first : tables_with f ch no_widths none ≡ first_tables items
    first = ap (tables_with f ch no_widths) en ∙ same_tables f ch no_widths [] [] ef ec ew

    whole_calls : (calls list : List (List ℕ)) → calls ≡ calls_in (tables_with f ch no_widths none) scopes items → list ≡ calls → list ≡ all_calls items
    whole_calls calls list e e2 = e2 ∙ e ∙ ap (λ t. calls_in t scopes items) first ∙ ap (λ x. calls_in (first_tables items) x items) s

    -- nothing is said before
    whole_carried : (before carried list : List Carried) → before ≡ [] → carried ≡ before ++ carried_in (tables_with f ch no_widths none) scopes items → list ≡ carried → list ≡ all_carried items
    whole_carried before carried list eb e e2 =
        e2 ∙ e ∙ ap (λ xs. xs ++ carried_in (tables_with f ch no_widths none) scopes items) eb
        ∙ ap (λ t. carried_in t scopes items) first ∙ ap (λ x. carried_in (first_tables items) x items) s

    whole_widths : (before carried list : List Carried) (count : ℕ) (widths : List ℕ) → before ≡ [] → carried ≡ before ++ carried_in (tables_with f ch no_widths none) scopes items → list ≡ carried
        → count ≡ length ch → widths ≡ widths_in list 0 count → widths ≡ all_widths items
    whole_widths before carried list count widths eb e e2 ek h =
        h ∙ ap (λ cs. widths_in cs 0 count) (whole_carried before carried list eb e e2)
        ∙ ap (widths_in (all_carried items) 0) (ek ∙ ap length ec ∙ as_many_ends scopes items)

    pub gathered_told : (calls list : List (List ℕ)) (es entered : List (Option ℕ)) (flags : List (List Bool)) (rows : List Reached) (before carried said : List Carried) (count : ℕ)
        (widths : List ℕ) →
        calls ≡ calls_in (tables_with f ch no_widths none) scopes items → es ≡ entries scopes items → list ≡ calls → entered ≡ es → AreAll list entered flags → AreRows list entered rows →
        before ≡ [] → carried ≡ before ++ carried_in (tables_with f ch no_widths none) scopes items → said ≡ carried → count ≡ length ch → widths ≡ widths_in said 0 count →
        AreTables items (record { tables = tables_with f ch widths rows; reach = flags })
    gathered_told calls list es entered flags rows before carried said count widths ecalls ee c2 e2 a r eb eca es2 ek ew2 =
        let calls_are = whole_calls calls list ecalls c2 in
        let whole_entries : entered ≡ entries_of items = e2 ∙ ee ∙ ap (λ x. entries x items) s in
        record {
          tables = same_tables f ch widths (all_widths items) rows ef ec (whole_widths before carried said count widths eb eca es2 ek ew2);
          reached = subst (λ x. AreRows (all_calls items) x rows) whole_entries (subst (λ x. AreRows x entered rows) calls_are r);
          flags = subst (λ x. AreAll (all_calls items) x flags) whole_entries (subst (λ x. AreAll x entered flags) calls_are a);
        }
