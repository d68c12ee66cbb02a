-- What a core reaches, and the broken rules of a program.
use Rattle.std.specs.Prelude.{◌≡◌, ℕ, ◌⊎◌, List, [], ◌∷◌, slice_get, Option, None, Some, Bool, true}
use Rattle.ac_tree.specs.declared.item.Item.{Item}
use Rattle.ac_tree.specs.declared.item.Item.TheVariants as i
use Rattle.ac_names.specs.declared.meaning.Meaning.{Meaning}
use Rattle.ac_names.specs.declared.meaning.Meaning.TheVariants as m
use Rattle.ac_reach.specs.declared.reached.Reached.{Reached}
use Rattle.ac_reach.specs.declared.reached.Reached.TheVariants as r
use Rattle.ac_reach.specs.Reached as reach
use Rattle.ac_reach.specs.Reached.{AreRows}
use Rattle.ac_types.specs.declared.numbered.Tables.{Tables}
use Rattle.ac_types.specs.declared.rule.Rule.{Rule}
use Rattle.ac_names.specs.Scopes.{Declaration, visible}
use Rattle.ac_types.specs.Nodes.{Node, calls_of}
use Rattle.ac_types.specs.Rules.{rule_number, IsUpTo}
use Rattle.ac_names.specs.Items.{outermost}
use Rattle.ac_types.specs.Items.{first_tables, function_nodes, program_nodes}

abbrev pub function_number : Option Meaning → Option ℕ
function_number (Some (m.Function number)) = Some number
function_number _ = None

-- the function that each core enters, where its entry is one
abbrev pub entries : List (List Declaration) → List Item → List (Option ℕ)
entries scopes [] = []
entries scopes (i.Core at name entry ∷ items) = function_number (visible entry scopes) ∷ entries scopes items
entries scopes (_ ∷ items) = entries scopes items

-- the functions that each function calls, which depend neither on widths nor on what is reached
abbrev pub calls_in : Tables → List (List Declaration) → List Item → List (List ℕ)
calls_in t scopes [] = []
calls_in t scopes (i.Function f ∷ xs) = calls_of (function_nodes f t scopes r.ByNone) ∷ calls_in t scopes xs
calls_in t scopes (_ ∷ xs) = calls_in t scopes xs

abbrev pub entries_of : List Item → List (Option ℕ)
entries_of items = entries (outermost items) items

abbrev pub all_calls : List Item → List (List ℕ)
all_calls items = calls_in (first_tables items) (outermost items) items

-- a core reaches a function
abbrev pub Reaches : List Item → ℕ → ℕ → Type 0
Reaches items core function = reach.Reaches (all_calls items) (entries_of items) core function

-- a core reaches a function and is not that one
pub record IsReachedByAnother (items : List Item) (function : ℕ) (core : Option ℕ) : Type 0 where
  pub other : ℕ
  pub reaches : Reaches items other function
  pub differs : Some other ≡ core → ⊥

-- the row of each function says which cores reach it
abbrev pub AreReached : List Item → List Reached → Type 0
AreReached items rows = AreRows (all_calls items) (entries_of items) rows

-- ---- the broken rules, by their numbers

abbrev pub IsBrokenRule : ℕ → List (Rule × Bool) → Type 0
IsBrokenRule rule [] = ⊥
IsBrokenRule rule (t ∷ ts) = ((rule ≡ rule_number t.0) × (t.1 ≡ true)) ⊎ IsBrokenRule rule ts

-- the node of that number breaks the rule of that number
pub record BreaksIn (nodes : List Node) (number rule : ℕ) : Type 0 where
  pub node : Node
  pub stands : slice_get nodes number ≡ Some node
  pub breaks : IsBrokenRule rule node.tests

pub record Breaks (items : List Item) (number rule : ℕ) : Type 0 where
  pub rows : List Reached
  pub reached : AreReached items rows
  pub is : BreaksIn (program_nodes items rows) number rule

-- the least pair has that rule, and its node that first byte
pub record IsLeastBroken (items : List Item) (rule at : ℕ) : Type 0 where
  pub number : ℕ
  pub is : Breaks items number rule
  pub place : is.is.node.at ≡ at
  pub least : (n r : ℕ) → Breaks items n r → IsUpTo number rule n r

-- no pair is broken
abbrev pub BreaksNone : List Item → Type 0
BreaksNone items = (number rule : ℕ) → Breaks items number rule → ⊥
