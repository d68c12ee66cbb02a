-- The names of the top level, and the parameters of functions.
use Rattle.std.specs.Prelude.{ℕ, ℤ, ◌+◌, List, [], ◌∷◌, Option, None, Some, Bool, true, false}
use Rattle.ac_tree.specs.declared.item.Item.{Item}
use Rattle.ac_tree.specs.declared.item.Item.TheVariants as i
use Rattle.ac_tree.specs.declared.item.Param.{Param}
use Rattle.ac_names.specs.declared.meaning.Meaning.{Meaning}
use Rattle.ac_names.specs.declared.meaning.Meaning.TheVariants as m
use Rattle.ac_names.specs.declared.names.Names.{Names}
use Rattle.ac_names.specs.declared.past.Counts.{Counts}
use Rattle.ac_names.specs.declared.past.Past.{Past}
use Rattle.ac_names.specs.Scopes.{Declaration, declared, added}
use Rattle.ac_names.specs.Statements.{array_len}

-- ---- the top level, whose names are visible in the whole text

abbrev pub item_name : Item → List ℕ
item_name (i.Global at name size value) = name
item_name (i.Function f) = f.name
item_name (i.Channel at name from to cap) = name
item_name (i.File at name path) = name
item_name (i.Core at name entry) = name

abbrev pub global_at : Option ℤ → ℕ → Meaning
global_at None slot = m.Global slot
global_at (Some size) slot = m.GlobalArray slot (array_len size)

abbrev pub global_slots : Option ℤ → ℕ
global_slots None = 1
global_slots (Some size) = array_len size

-- what an item means, by the numbers that are given before it
abbrev pub item_meaning : Counts → Item → Meaning
item_meaning c (i.Global at name size value) = global_at size c.slots
item_meaning c (i.Function f) = m.Function c.functions
item_meaning c (i.Channel at name from to cap) = m.Channel c.channels
item_meaning c (i.File at name path) = m.File c.files
item_meaning c (i.Core at name entry) = m.Core c.cores

abbrev pub counted : Counts → Item → Counts
counted c (i.Global at name size value) = record {
  cores = c.cores;
  functions = c.functions;
  channels = c.channels;
  files = c.files;
  slots = c.slots + global_slots size;
}
counted c (i.Function f) = record { cores = c.cores; functions = c.functions + 1; channels = c.channels; files = c.files; slots = c.slots }
counted c (i.Channel at name from to cap) = record {
  cores = c.cores;
  functions = c.functions;
  channels = c.channels + 1;
  files = c.files;
  slots = c.slots;
}
counted c (i.File at name path) = record {
  cores = c.cores;
  functions = c.functions;
  channels = c.channels;
  files = c.files + 1;
  slots = c.slots;
}
counted c (i.Core at name entry) = record {
  cores = c.cores + 1;
  functions = c.functions;
  channels = c.channels;
  files = c.files;
  slots = c.slots;
}

abbrev pub paths_with : ℕ → Item → List Declaration → List Declaration
paths_with number (i.File at name path) paths = added path (m.File number) paths
paths_with number _ paths = paths

-- what is known of the items before a place, after one item more
abbrev pub past_after : Past → Item → Past
past_after p x = record {
  counts = counted p.counts x;
  names = added (item_name x) (item_meaning p.counts x) p.names;
  paths = paths_with p.counts.files x p.paths;
}

abbrev pub past_all : Past → List Item → Past
past_all p [] = p
past_all p (x ∷ xs) = past_all (past_after p x) xs

abbrev pub no_past : Past
no_past = record { counts = record { cores = 0; functions = 0; channels = 0; files = 0; slots = 0 }; names = []; paths = [] }

abbrev pub whole : List Item → Past
whole items = past_all no_past items

-- the scopes round an item
abbrev pub outermost : List Item → List (List Declaration)
outermost items = (whole items).names ∷ []

-- ---- parameters

-- whether each parameter is an array
abbrev pub kinds_in : List Param → List Bool
kinds_in [] = []
kinds_in (x ∷ xs) = x.is_array ∷ kinds_in xs

abbrev pub param_at : Bool → ℕ → Meaning
param_at true slot = m.ArrayParam slot
param_at false slot = m.Local 0 slot

abbrev pub param_named : Param → Names → Names
param_named x n = record { scopes = declared x.name (param_at x.is_array n.slot) n.scopes; labels = n.labels; slot = n.slot + 1 }

abbrev pub params_named : List Param → Names → Names
params_named [] n = n
params_named (x ∷ xs) n = params_named xs (param_named x n)

-- the parameters of a function and the declarations directly in its body have one scope
abbrev pub function_names : List (List Declaration) → Names
function_names scopes = record { scopes = [] ∷ scopes; labels = []; slot = 0 }
