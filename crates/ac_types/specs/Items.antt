-- The nodes of a program in preorder, and what stands in its tables.
use Rattle.std.specs.Prelude.{ℕ, ℤ, pos, negsuc, List, [], ◌∷◌, ◌++◌, length, map, slice_get, Option}
use Rattle.std.specs.Prelude.{None, Some, Bool, false, not, nat_eq, nat_lt, nat_le}
use Rattle.ac_tree.specs.declared.item.Item.{Item}
use Rattle.ac_tree.specs.declared.item.Item.TheVariants as i
use Rattle.ac_tree.specs.declared.item.Function.{Function}
use Rattle.ac_tree.specs.declared.item.Param.{Param}
use Rattle.ac_types.specs.declared.around.Around.{Around}
use Rattle.ac_types.specs.declared.rule.Rule.TheVariants as rule
use Rattle.ac_names.specs.declared.kind.NameKind.TheVariants as k
use Rattle.ac_names.specs.declared.meaning.Meaning.{Meaning}
use Rattle.ac_names.specs.declared.meaning.Meaning.TheVariants as m
use Rattle.ac_types.specs.declared.numbered.Callee.{Callee}
use Rattle.ac_types.specs.declared.numbered.Signature.{Signature}
use Rattle.ac_types.specs.declared.numbered.Ends.{Ends}
use Rattle.ac_reach.specs.declared.reached.Reached.{Reached}
use Rattle.ac_reach.specs.declared.reached.Reached.TheVariants as r
use Rattle.ac_types.specs.declared.numbered.Tables.{Tables}
use Rattle.ac_types.specs.declared.carried.Carried.{Carried}
use Rattle.ac_names.specs.declared.past.Past.{Past}
use Rattle.ac_names.specs.declared.names.Names.{Names}
use Rattle.ac_names.specs.Scopes.{Declaration, in_scope, visible, in_inner}
use Rattle.ac_names.specs.Kinds.{is_other, is_undeclared, is_declared, either, both}
use Rattle.ac_types.specs.Tables.{callee}
use Rattle.ac_types.specs.Nodes.{Node, carried_of}
use Rattle.ac_types.specs.Widths.{width_in, widths_in}
use Rattle.ac_types.specs.Judged.{Tests, lacks_one, once_tests, array_tests}
use Rattle.ac_types.specs.Expressions.{plain, one_node, join_nodes}
use Rattle.ac_names.specs.Numbered.{capacities}
use Rattle.ac_names.specs.Items.{no_past, past_after, whole, outermost, kinds_in, param_named, params_named, function_names}
use Rattle.ac_types.specs.Statements.{body_gives, stmt_all}

-- ---- tables

abbrev pub signature_of : Function → Signature
signature_of f = record { is_async = f.is_async; gives_int = f.gives_int; params = kinds_in f.params }

abbrev pub signatures : List Item → List Signature
signatures [] = []
signatures (i.Function f ∷ items) = signature_of f ∷ signatures items
signatures (_ ∷ items) = signatures items

abbrev pub core_number : Option Meaning → Option ℕ
core_number (Some (m.Core number)) = Some number
core_number _ = None

abbrev pub channel_ends : List (List Declaration) → List ℕ → List ℕ → Ends
channel_ends scopes from to = record { from = core_number (visible from scopes); to = core_number (visible to scopes) }

abbrev pub all_ends : List (List Declaration) → List Item → List Ends
all_ends scopes [] = []
all_ends scopes (i.Channel at name from to cap ∷ items) = channel_ends scopes from to ∷ all_ends scopes items
all_ends scopes (_ ∷ items) = all_ends scopes items

-- a function that no row stands for is reached by none
abbrev pub reached_in : Option Reached → Reached
reached_in None = r.ByNone
reached_in (Some reached) = reached

-- ---- the rules of items

abbrev pub global_tests : Option Meaning → Option ℤ → Tests
global_tests before None = once_tests before
global_tests before (Some size) = array_tests before size

abbrev pub is_capacity : ℤ → Bool
is_capacity (pos n) = both (nat_le 1 n) (nat_le n 64)
is_capacity (negsuc n) = false

abbrev pub is_same_core : Option Meaning → Option Meaning → Bool
is_same_core (Some (m.Core a)) (Some (m.Core b)) = nat_eq a b
is_same_core _ _ = false

-- a channel between what two names mean, with so many channels before it
abbrev pub link_tests : Option Meaning → Option Meaning → Option Meaning → ℤ → ℕ → Tests
link_tests before from to cap channels =
    (rule.DeclaredOnce, is_declared before)
    ∷ (rule.NameIsDeclared, lacks_one from to)
    ∷ (rule.NameFitsItsPlace, both (not (lacks_one from to)) (either (is_other k.Core from) (is_other k.Core to)))
    ∷ (rule.ChannelIsAllowed, either (is_same_core from to) (either (not (is_capacity cap)) (nat_le 64 channels))) ∷ []

-- a file with so many before it, by whether one of them has its path
abbrev pub path_tests : Option Meaning → ℕ → Option Meaning → Tests
path_tests before files same =
    (rule.DeclaredOnce, is_declared before) ∷ (rule.FileIsAllowed, either (nat_le 16 files) (is_declared same)) ∷ []

abbrev pub is_no_entry : Option Callee → Bool
is_no_entry None = false
is_no_entry (Some f) = either (not f.is_async) (not (nat_eq f.params 0))

abbrev pub core_tests : Option Meaning → Option Meaning → Option Callee → Tests
core_tests before entry f =
    (rule.DeclaredOnce, is_declared before)
    ∷ (rule.NameIsDeclared, is_undeclared entry)
    ∷ (rule.NameFitsItsPlace, is_other k.Function entry)
    ∷ (rule.EntryIsAsyncWithoutParameters, is_no_entry f) ∷ []

abbrev pub program_tests : ℕ → Tests
program_tests cores = (rule.NumberOfCoresIsAllowed, either (nat_eq cores 0) (nat_lt 16 cores)) ∷ []

-- ---- functions

abbrev pub around_of : Function → Reached → Around
around_of f reached = record {
  is_async = f.is_async;
  gives_int = f.gives_int;
  depth = 0;
  in_do = false;
  in_loop = false;
  reached = reached;
}

module _ (X : Type 0) (one : Node → X) (none : X) (join : X → X → X) where
  abbrev pub params_give : List Param → Names → X
  params_give [] n = none
  params_give (x ∷ xs) n = join (one (plain x.at (once_tests (in_inner x.name n.scopes)))) (params_give xs (param_named x n))

  -- the parameters and the body of a function
  abbrev pub function_gives : Function → Tables → List (List Declaration) → Reached → X
  function_gives f t scopes reached =
      join (params_give f.params (function_names scopes))
      (body_gives X one none join (map (stmt_all X one none join) f.body) t (params_named f.params (function_names scopes))
      (around_of f reached))

-- ---- what each function says of channels, and the tables

abbrev pub function_nodes : Function → Tables → List (List Declaration) → Reached → List Node
function_nodes = function_gives (List Node) one_node [] join_nodes

-- what Sends and Recvs say of channels does not depend on widths, nor on what is reached
abbrev pub carried_in : Tables → List (List Declaration) → List Item → List Carried
carried_in t scopes [] = []
carried_in t scopes (i.Function f ∷ xs) = carried_of (function_nodes f t scopes r.ByNone) ++ carried_in t scopes xs
carried_in t scopes (_ ∷ xs) = carried_in t scopes xs

-- before widths are known and what is reached
abbrev pub first_tables : List Item → Tables
first_tables items = record { functions = signatures items; channels = all_ends (outermost items) items; widths = []; reached = [] }

abbrev pub all_carried : List Item → List Carried
all_carried items = carried_in (first_tables items) (outermost items) items

-- how many ints a message of the channel of that number has
abbrev pub channel_width : List Item → ℕ → ℕ
channel_width items channel = width_in (all_carried items) channel

abbrev pub all_widths : List Item → List ℕ
all_widths items = widths_in (all_carried items) 0 (length (capacities items))

abbrev pub tables_of : List Item → List Reached → Tables
tables_of items reached = record {
  functions = signatures items;
  channels = all_ends (outermost items) items;
  widths = all_widths items;
  reached = reached;
}

-- ---- items

module _ (X : Type 0) (one : Node → X) (none : X) (join : X → X → X) where
  abbrev pub item_gives : Past → Item → Tables → List (List Declaration) → X
  item_gives p (i.Global at name size value) t scopes = one (plain at (global_tests (in_scope name p.names) size))
  item_gives p (i.Function f) t scopes = join (one (plain f.at (once_tests (in_scope f.name p.names))))
      (function_gives X one none join f t scopes (reached_in (slice_get t.reached p.counts.functions)))
  item_gives p (i.Channel at name from to cap) t scopes =
      one (plain at (link_tests (in_scope name p.names) (visible from scopes) (visible to scopes) cap p.counts.channels))
  item_gives p (i.File at name path) t scopes = one (plain at (path_tests (in_scope name p.names) p.counts.files (in_scope path p.paths)))
  item_gives p (i.Core at name entry) t scopes = one
      (plain at (core_tests (in_scope name p.names) (visible entry scopes) (callee t (visible entry scopes))))

  abbrev pub items_give : Past → List Item → Tables → List (List Declaration) → X
  items_give p [] t scopes = none
  items_give p (x ∷ xs) t scopes = join (item_gives p x t scopes) (items_give (past_after p x) xs t scopes)

  abbrev pub program_gives : List Item → List Reached → X
  program_gives items reached = join (one (plain 0 (program_tests (whole items).counts.cores)))
      (items_give no_past items (tables_of items reached) (outermost items))

-- ---- with lists of nodes

-- the nodes of a program in preorder, by its items and by which cores reach each function
abbrev pub program_nodes : List Item → List Reached → List Node
program_nodes = program_gives (List Node) one_node [] join_nodes

-- those after the program's own
abbrev pub items_nodes : List Item → List Reached → List Node
items_nodes items reached = items_give (List Node) one_node [] join_nodes no_past items (tables_of items reached) (outermost items)
