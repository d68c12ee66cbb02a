-- A walk after the parts of a program: what it has seen, by what it had seen before.
use Rattle.std.specs.Prelude.{List}
use Rattle.ac_tree.specs.declared.item.Item.{Item}
use Rattle.ac_tree.specs.declared.item.Function.{Function}
use Rattle.ac_tree.specs.declared.item.Param.{Param}
use Rattle.ac_names.specs.declared.names.Names.{Names}
use Rattle.ac_names.specs.declared.past.Past.{Past}
use Rattle.ac_names.specs.Items.{param_named, params_named}
use Rattle.ac_names.specs.Scopes.{Declaration, in_inner}
use Rattle.ac_reach.specs.declared.reached.Reached.{Reached}
use Rattle.ac_types.specs.declared.numbered.Tables.{Tables}
use Rattle.ac_types.specs.declared.seen.Seen.{Seen}
use Rattle.ac_types.specs.declared.statements.Walk.{Walk}
use Rattle.ac_types.specs.Items.{params_give, function_gives, item_gives, items_give}
use Rattle.ac_types.specs.Judged.{once_tests}
use Rattle.ac_types.specs.Expressions.{plain}
use Rattle.ac_types.specs.inner.Seen.{noted, unseen, join_seen}

abbrev pub params_seen : List Param → Names → Seen → Seen
params_seen = params_give (Seen → Seen) noted unseen join_seen

abbrev pub function_seen : Function → Tables → List (List Declaration) → Reached → Seen → Seen
function_seen = function_gives (Seen → Seen) noted unseen join_seen

abbrev pub item_seen : Past → Item → Tables → List (List Declaration) → Seen → Seen
item_seen = item_gives (Seen → Seen) noted unseen join_seen

abbrev pub items_seen : Past → List Item → Tables → List (List Declaration) → Seen → Seen
items_seen = items_give (Seen → Seen) noted unseen join_seen

-- ---- a walk

abbrev pub after_param : Param → Walk → Walk
after_param x w = record { names = param_named x w.names; seen = noted (plain x.at (once_tests (in_inner x.name w.names.scopes))) w.seen }

abbrev pub after_params : List Param → Walk → Walk
after_params xs w = record { names = params_named xs w.names; seen = params_seen xs w.names w.seen }

abbrev pub after_function : Tables → Function → Reached → Walk → Walk
after_function t f reached w = record { names = w.names; seen = function_seen f t w.names.scopes reached w.seen }

abbrev pub after_item : Tables → Past → Item → Walk → Walk
after_item t p x w = record { names = w.names; seen = item_seen p x t w.names.scopes w.seen }

abbrev pub after_items : Tables → Past → List Item → Walk → Walk
after_items t p xs w = record { names = w.names; seen = items_seen p xs t w.names.scopes w.seen }
