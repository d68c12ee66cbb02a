-- What stands in a tree by its number.
use Rattle.std.specs.Prelude.{ℕ, ℤ, pos, negsuc, nat_le, if◌then◌else◌, List, [], ◌∷◌}
use Rattle.ac_tree.specs.declared.item.Item.{Item}
use Rattle.ac_tree.specs.declared.item.Item.TheVariants as i

abbrev pub core_names : List Item → List (List ℕ)
core_names [] = []
core_names (i.Core at name entry ∷ items) = name ∷ core_names items
core_names (_ ∷ items) = core_names items

abbrev pub capacities : List Item → List ℤ
capacities [] = []
capacities (i.Channel at name from to cap ∷ items) = cap ∷ capacities items
capacities (_ ∷ items) = capacities items

-- a capacity, or 0 where it is none
abbrev pub capacity_size : ℤ → ℕ
capacity_size (pos n) = if nat_le n 64 then n else 0
capacity_size (negsuc n) = 0

abbrev pub file_paths : List Item → List (List ℕ)
file_paths [] = []
file_paths (i.File at name path ∷ items) = path ∷ file_paths items
file_paths (_ ∷ items) = file_paths items
