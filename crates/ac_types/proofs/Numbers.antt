-- What stands in a checked tree by its number. The counts are the lengths of the lists of items of each kind; what a core reaches is
-- read off its row of flags; and a capacity is 1 to 64, since the channel of that number breaks no rule.
use Rattle.std.proofs.Common.{◌≡◌, ℕ, zero, suc, ◌+◌, ◌<◌, ◌≤◌, inl, inr, Bool, true, false, List, [], ◌∷◌, length, slice_get, Some, refl, sym, ap, ◌∙◌, subst, arith}
use Rattle.std.specs.Prelude.{ℤ, pos, negsuc, not, nat_le, if◌then◌else◌}
use Rattle.std.proofs.lemmas.Bool.Decides.{nat_tests}
use Rattle.ac_tree.specs.declared.item.Item.{Item}
use Rattle.ac_tree.specs.declared.item.Item.TheVariants as i
use Rattle.ac_tree.specs.declared.item.Program.{Program}
use Rattle.ac_types.specs.declared.numbered.Tables.{Tables}
use Rattle.ac_names.specs.declared.past.Past.{Past}
use Rattle.ac_names.specs.Scopes.{Declaration, visible}
use Rattle.ac_names.specs.Kinds.{either, both}
use Rattle.ac_types.specs.Nodes.{Node}
use Rattle.ac_types.specs.Expressions.{one_node, join_nodes}
use Rattle.ac_names.specs.declared.past.Counts.{Counts}
use Rattle.ac_names.specs.Items.{no_past, past_after, past_all, whole, outermost}
use Rattle.ac_types.specs.Items.{first_tables, tables_of, is_capacity, is_same_core, item_gives, items_give}
use Rattle.ac_types.specs.Reached.{BreaksNone, calls_in, entries_of, all_calls, Reaches}
use Rattle.ac_reach.specs.Reached.{entry_in, AreFlags, AreAll}
use Rattle.ac_names.specs.Numbered.{core_names, capacities, capacity_size, file_paths}
use Rattle.ac_names.proofs.Numbers.{cores_counted, channels_counted, files_counted}
use Rattle.ac_reach.proofs.Rows.{all_length, flags_at}
use Rattle.ac_types.proofs.Gathering.{as_many_entries}
use Rattle.ac_types.proofs.Cleans.{AllClean, clean_later, clean_program, not_false}

-- ---- each item is counted as what it is

functions_counted : (scopes : List (List Declaration)) (t : Tables) (p : Past) (xs : List Item) → (past_all p xs).counts.functions ≡ p.counts.functions + length (calls_in t scopes xs)
functions_counted scopes t p [] = omega arith
functions_counted scopes t p (i.Function f ∷ xs) = let h = functions_counted scopes t (past_after p (i.Function f)) xs in omega (arith, h)
functions_counted scopes t p (x ∷ xs) = functions_counted scopes t (past_after p x) xs

module _ (p q : Program) (counts : Counts) (e : p ≡ q) (c : counts ≡ (whole p.items).counts) where
  of_whole : counts ≡ (whole q.items).counts
  of_whole = c ∙ ap (λ (x : Program). (whole x.items).counts) e

  pub cores_are : counts.cores ≡ length (core_names q.items)
  cores_are = let h = cores_counted no_past q.items in let k = ap (λ (x : Counts). x.cores) of_whole in omega (arith, h, k)

  pub functions_are : counts.functions ≡ length (all_calls q.items)
  functions_are = let h = functions_counted (outermost q.items) (first_tables q.items) no_past q.items in let k = ap (λ (x : Counts). x.functions) of_whole in omega (arith, h, k)

  pub channels_are : counts.channels ≡ length (capacities q.items)
  channels_are = let h = channels_counted no_past q.items in let k = ap (λ (x : Counts). x.channels) of_whole in omega (arith, h, k)

  pub files_are : counts.files ≡ length (file_paths q.items)
  files_are = let h = files_counted no_past q.items in let k = ap (λ (x : Counts). x.files) of_whole in omega (arith, h, k)

-- ---- what a core reaches

module _ (p q : Program) (reach : List (List Bool)) (same : p ≡ q) (all : AreAll (all_calls p.items) (entries_of p.items) reach) where
  are : AreAll (all_calls q.items) (entries_of q.items) reach
  are = subst (λ (x : Program). AreAll (all_calls x.items) (entries_of x.items) reach) same all

  pub core_there : (core n : ℕ) → core < length (core_names q.items) → n ≡ core → n < length reach
  core_there core n lt e = let h = all_length (all_calls q.items) (entries_of q.items) reach are in omega (arith, h, lt, e, as_many_entries (outermost q.items) q.items)

  module _ (core n : ℕ) (flags : List Bool) (e : n ≡ core) (g : slice_get reach n ≡ Some flags) where
    told : AreFlags (all_calls q.items) (entry_in (slice_get (entries_of q.items) core)) flags
    told = subst (λ k. AreFlags (all_calls q.items) (entry_in (slice_get (entries_of q.items) k)) flags) e (flags_at (all_calls q.items) (entries_of q.items) reach n flags are g)

    pub function_there : (function m : ℕ) → function < length (all_calls q.items) → m ≡ function → m < length flags
    function_there function m lt f = let h = told.count in omega (arith, h, lt, f)

    pub reach_sound : (function m : ℕ) (b : Bool) → m ≡ function → slice_get flags m ≡ Some b → b ≡ true → Reaches q.items core function
    reach_sound function m b f h t = told.sound function (ap (slice_get flags) (sym f) ∙ h ∙ ap (λ x. Some x) t)

    pub reach_whole : (function m : ℕ) (b : Bool) → function < length (all_calls q.items) → m ≡ function → slice_get flags m ≡ Some b → Reaches q.items core function → b ≡ true
    reach_whole function m b lt f h r = some_same b (sym h ∙ ap (slice_get flags) f ∙ told.whole function lt r) where
      some_same : (x : Bool) → Some x ≡ Some true → x ≡ true
      some_same x k = cc

-- ---- capacities

either_false : (a b : Bool) → (either a b ≡ true → ⊥) → b ≡ true → ⊥
either_false true b h e = h refl
either_false false b h e = h e

first_false : (a b : Bool) → (either a b ≡ true → ⊥) → a ≡ true → ⊥
first_false true b h e = h refl
first_false false b h e = cc

caps_in : (q : Past) (xs : List Item) (t : Tables) (s : List (List Declaration)) → AllClean (items_give (List Node) one_node [] join_nodes q xs t s) → (link : ℕ) (z : ℤ)
    → slice_get (capacities xs) link ≡ Some z → is_capacity z ≡ true
caps_in q [] t s h link z e = cc
caps_in q (i.Channel at name from to cap ∷ xs) t s h zero z e =
    let same : cap ≡ z = cc in
    let wrong = either (is_same_core (visible from s) (visible to s)) (either (not (is_capacity cap)) (nat_le 64 q.counts.channels)) in
    let fine : wrong ≡ true → ⊥ = λ k. h.0 14 (inr (inr (inr (inl (refl, k))))) in
    let ok = not_false (is_capacity cap) (first_false (not (is_capacity cap)) (nat_le 64 q.counts.channels)
    (either_false (is_same_core (visible from s) (visible to s)) (either (not (is_capacity cap)) (nat_le 64 q.counts.channels)) fine)) in
    subst (λ x. is_capacity x ≡ true) same ok
caps_in q (i.Channel at name from to cap ∷ xs) t s h (suc link) z e = caps_in (past_after q (i.Channel at name from to cap)) xs t s h.1 link z e
caps_in q (x ∷ xs) t s h link z e = caps_in (past_after q x) xs t s (clean_later (item_gives (List Node) one_node [] join_nodes q x t s)
    (items_give (List Node) one_node [] join_nodes (past_after q x) xs t s) h) link z e

caps_clean : (items : List Item) → BreaksNone items → (link : ℕ) (z : ℤ) → slice_get (capacities items) link ≡ Some z → is_capacity z ≡ true
caps_clean items c link z e = let r = clean_program items c in caps_in no_past items (tables_of items r.0) (outermost items) r.1.1 link z e

-- the capacity as a number
pub record Capacity (z : ℤ) : Type 0 where
  pub size : ℕ
  pub is : z ≡ pos size
  pub few : size ≤ 64

of_capacity : (z : ℤ) → is_capacity z ≡ true → Capacity z
of_capacity (pos n) h = record { size = n; is = refl; few = by (nat_le 1 n) (nat_le n 64) refl h } where
  by : (a b : Bool) → nat_le n 64 ≡ b → both a b ≡ true → n ≤ 64
  by true true e k = grind (arith, nat_tests, e)
  by true false e k = cc
  by false b e k = cc
of_capacity (negsuc n) h = cc

size_is : (z : ℤ) → Capacity z → z ≡ pos (capacity_size z)
size_is z c = c.is ∙ ap (λ n. pos n) (sym (by (nat_le c.size 64) refl)) ∙ ap (λ x. pos (capacity_size x)) (sym c.is) where
  by : (b : Bool) → nat_le c.size 64 ≡ b → (if b then c.size else 0) ≡ c.size
  by true e = refl
  by false e = let few = c.few in absurd (grind (arith, nat_tests, e, few))

pub capacity_is : (items : List Item) (p q : Program) (link : ℕ) (z : ℤ) (size : ℕ) → items ≡ p.items → p ≡ q → BreaksNone p.items → slice_get (capacities items) link ≡ Some z → size ≡ capacity_size z
    → slice_get (capacities q.items) link ≡ Some (pos size)
capacity_is items p q link z size e same c h f =
    let g : slice_get (capacities p.items) link ≡ Some z = ap (λ xs. slice_get (capacities xs) link) (sym e) ∙ h in
    ap (λ (x : Program). slice_get (capacities x.items) link) (sym same) ∙ g ∙ ap (λ x. Some x) (size_is z (of_capacity z (caps_clean p.items c link z g)) ∙ ap (λ n. pos n) (sym f))
