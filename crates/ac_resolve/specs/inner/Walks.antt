-- A walk after the parts of a program, and the room that it needs.
use Rattle.std.specs.Prelude.{ℕ, ◌+◌, ◌<◌, List, ◌++◌, length, Option}
use Rattle.ac_tree.specs.declared.item.Function.{Function}
use Rattle.ac_tree.specs.declared.item.Item.{Item}
use Rattle.ac_names.specs.Statements.{part_words, opened, moved, listed, names_after, sum_words, some_words, some_listed}
use Rattle.ac_names.specs.Items.{past_after}
use Rattle.ac_commands.specs.declared.command.Command.{Command}
use Rattle.ac_resolve.specs.declared.items.Globals.{Globals}
use Rattle.ac_resolve.specs.declared.walk.Walk.{Walk}
use Rattle.ac_resolve.specs.Commands.{Told, Texts, shapes, some_shape, all_texts, commands, some_texts, some_commands, other_commands}
use Rattle.ac_resolve.specs.Resolution.{function_texts, items_texts, item_starts}

-- each text weighs at least 5
abbrev pub HasTexts : Texts → ℕ → Type 0
HasTexts texts weight = length texts + weight < 4294967296

-- after a statement
abbrev pub after : Told → Walk → Walk
after q w = record { names = moved w.names (part_words q.shape); texts = q.texts w.texts }

abbrev pub does : Told → ℕ → Walk → List Command
does q depth w = q.commands w.names depth w.texts

-- after a statement of a list
abbrev pub after_listed : Told → ℕ → Walk → Walk
after_listed q depth w = record { names = listed q.shape depth w.names; texts = q.texts w.texts }

abbrev pub after_some : Option Told → Walk → Walk
after_some q w = record { names = moved w.names (some_words (some_shape q)); texts = some_texts q w.texts }

abbrev pub some_does : Option Told → ℕ → Walk → List Command
some_does q depth w = some_commands q w.names depth w.texts

abbrev pub other_does : Option Told → ℕ → Walk → Option (List Command)
other_does q depth w = other_commands q w.names depth w.texts

abbrev pub after_init : Option Told → ℕ → Walk → Walk
after_init q depth w = record { names = some_listed (some_shape q) depth w.names; texts = some_texts q w.texts }

-- after the statements of a list
abbrev pub after_body : List Told → ℕ → Walk → Walk
after_body qs depth w = record { names = names_after (shapes qs) depth w.names; texts = all_texts qs w.texts }

abbrev pub body_does : List Told → ℕ → Walk → List Command
body_does qs depth w = commands qs w.names depth w.texts

-- after the statements of a list in a scope of their own
abbrev pub after_scope : List Told → Walk → Walk
after_scope qs w = record { names = moved w.names (sum_words (shapes qs)); texts = all_texts qs w.texts }

abbrev pub scope_does : List Told → ℕ → Walk → List Command
scope_does qs depth w = commands qs (opened w.names) depth w.texts

-- ---- functions

abbrev pub after_function : Function → Walk → Walk
after_function f w = record { names = w.names; texts = function_texts f w.texts }

abbrev pub after_functions : List Item → Walk → Walk
after_functions items w = record { names = w.names; texts = items_texts items w.texts }

-- ---- globals

abbrev pub after_global : Item → Globals → Globals
after_global x g = record { past = past_after g.past x; starts = g.starts ++ item_starts g.past.counts x }
