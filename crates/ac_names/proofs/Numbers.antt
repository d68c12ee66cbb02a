-- What stands in a tree by its number, and how much of it there is. A search by number counts down over the items that are left,
-- so it cannot run out of them; and each count of a past is the length of the list of those items, by recursion on the items.
use Rattle.std.proofs.Common.{◌≡◌, ℕ, zero, suc, ◌+◌, ◌<◌, ◌≤◌, List, [], ◌∷◌, length, slice_get, drop, None, sym, ap, ◌∙◌, arith}
use Rattle.std.proofs.lemmas.List.{drop_all}
use Rattle.ac_tree.specs.declared.item.Item.{Item}
use Rattle.ac_tree.specs.declared.item.Item.TheVariants as i
use Rattle.ac_names.specs.declared.past.Past.{Past}
use Rattle.ac_names.specs.Items.{past_after, past_all}
use Rattle.ac_names.specs.Numbered.{core_names, capacities, file_paths}

get_past : {A : Type 0} (xs : List A) (i : ℕ) → slice_get xs i ≡ None → length xs ≤ i
get_past [] i e = omega arith
get_past (z ∷ xs) zero e = cc
get_past (z ∷ xs) (suc i) e = let h = get_past xs i e in omega (arith, h)

-- a search by number ends at what it looks for
pub none_left : {A : Type 0} (f : List Item → List A) (items : List Item) (index left number : ℕ) → f [] ≡ [] → length items ≤ index
    → slice_get (f (drop index items)) left ≡ slice_get (f items) number → number < length (f items) → ⊥
none_left f items index left number e le h lt =
    let past = get_past (f items) number (sym h ∙ ap (λ xs. slice_get xs left) (ap f (drop_all index items le) ∙ e)) in
    omega (arith, past, lt)

-- ---- each item is counted as what it is

pub cores_counted : (p : Past) (xs : List Item) → (past_all p xs).counts.cores ≡ p.counts.cores + length (core_names xs)
cores_counted p [] = omega arith
cores_counted p (i.Core at name entry ∷ xs) = let h = cores_counted (past_after p (i.Core at name entry)) xs in omega (arith, h)
cores_counted p (x ∷ xs) = cores_counted (past_after p x) xs

pub channels_counted : (p : Past) (xs : List Item) → (past_all p xs).counts.channels ≡ p.counts.channels + length (capacities xs)
channels_counted p [] = omega arith
channels_counted p (i.Channel at name from to cap ∷ xs) = let h = channels_counted (past_after p (i.Channel at name from to cap)) xs in omega (arith, h)
channels_counted p (x ∷ xs) = channels_counted (past_after p x) xs

pub files_counted : (p : Past) (xs : List Item) → (past_all p xs).counts.files ≡ p.counts.files + length (file_paths xs)
files_counted p [] = omega arith
files_counted p (i.File at name path ∷ xs) = let h = files_counted (past_after p (i.File at name path)) xs in omega (arith, h)
files_counted p (x ∷ xs) = files_counted (past_after p x) xs
