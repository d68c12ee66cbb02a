-- The program of a tree without its names.
use Rattle.std.specs.Prelude.{ℕ, ℤ, pos, zero, ◌+◌, List, [], ◌∷◌, ◌++◌, length, None}
use Rattle.ac_tree.specs.declared.item.Item.{Item}
use Rattle.ac_tree.specs.declared.item.Item.TheVariants as i
use Rattle.ac_tree.specs.declared.item.Function as tree
use Rattle.ac_tree.specs.declared.item.Program.{Program}
use Rattle.ac_names.specs.declared.past.Counts.{Counts}
use Rattle.ac_names.specs.declared.names.Names.{Names}
use Rattle.ac_names.specs.Scopes.{Declaration, visible}
use Rattle.ac_names.specs.Items.{outermost, whole, no_past, counted, kinds_in, function_names, params_named}
use Rattle.ac_names.specs.Numbered.{capacity_size, file_paths}
use Rattle.ac_types.specs.Items.{channel_width}
use Rattle.ac_commands.specs.declared.program.Function.{Function}
use Rattle.ac_commands.specs.declared.program.Channel.{Channel}
use Rattle.ac_commands.specs.declared.program.Core.{Core}
use Rattle.ac_commands.specs.declared.program.Start.{Start}
use Rattle.ac_commands.specs.declared.program.Resolved.{Resolved}
use Rattle.ac_resolve.specs.Places.{function_of, core_of}
use Rattle.ac_names.specs.Statements.{sum_words}
use Rattle.ac_resolve.specs.Commands.{Texts, shapes, all_texts, commands, body_told}

-- ---- functions

-- the names round the body of a function
abbrev pub body_names : tree.Function → List (List Declaration) → Names
body_names f scopes = params_named f.params (function_names scopes)

abbrev pub function_in : tree.Function → List (List Declaration) → Texts → Function
function_in f scopes texts = record {
  name = f.name;
  is_async = f.is_async;
  gives_int = f.gives_int;
  params = kinds_in f.params;
  slots = length f.params + sum_words (shapes (body_told f.body));
  body = commands (body_told f.body) (body_names f scopes) 0 texts;
}

abbrev pub function_texts : tree.Function → Texts → Texts
function_texts f texts = all_texts (body_told f.body) texts

abbrev pub functions_in : List Item → List (List Declaration) → Texts → List Function
functions_in [] scopes texts = []
functions_in (i.Function f ∷ items) scopes texts = function_in f scopes texts ∷ functions_in items scopes (function_texts f texts)
functions_in (_ ∷ items) scopes texts = functions_in items scopes texts

-- the texts after items, by those before them
abbrev pub items_texts : List Item → Texts → Texts
items_texts [] texts = texts
items_texts (i.Function f ∷ items) texts = items_texts items (function_texts f texts)
items_texts (_ ∷ items) texts = items_texts items texts

-- ---- the other items

abbrev pub cores_in : List Item → List (List Declaration) → List Core
cores_in [] scopes = []
cores_in (i.Core at name entry ∷ items) scopes = record { name = name; entry = function_of (visible entry scopes) } ∷ cores_in items scopes
cores_in (_ ∷ items) scopes = cores_in items scopes

-- those among the later items of a program, from a number on
abbrev pub channels_in : List Item → ℕ → List Item → List (List Declaration) → List Channel
channels_in all number [] scopes = []
channels_in all number (i.Channel at name from to cap ∷ items) scopes = record {
  from = core_of (visible from scopes);
  to = core_of (visible to scopes);
  capacity = capacity_size cap;
  width = channel_width all number;
} ∷ channels_in all (number + 1) items scopes
channels_in all number (_ ∷ items) scopes = channels_in all number items scopes

-- what an int global of that slot holds at the start
abbrev pub start_at : ℕ → ℤ → List Start
start_at slot (pos zero) = []
start_at slot value = record { slot = slot; value = value } ∷ []

abbrev pub item_starts : Counts → Item → List Start
item_starts c (i.Global at name None value) = start_at c.slots value
item_starts c _ = []

-- after so much is counted
abbrev pub starts_in : Counts → List Item → List Start
starts_in c [] = []
starts_in c (x ∷ items) = item_starts c x ++ starts_in (counted c x) items

abbrev pub resolved : Program → Resolved
resolved p = record {
  cores = cores_in p.items (outermost p.items);
  functions = functions_in p.items (outermost p.items) [];
  channels = channels_in p.items 0 p.items (outermost p.items);
  files = file_paths p.items;
  slots = (whole p.items).counts.slots;
  starts = starts_in no_past.counts p.items;
  texts = items_texts p.items [];
}
