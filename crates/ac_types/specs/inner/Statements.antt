-- A walk after the parts of a statement: what it has seen, by what it had seen before.
use Rattle.std.specs.Prelude.{ℕ, ℤ, List, map, Option, None, Some, option_map}
use Rattle.ac_tree.specs.declared.expr.Expr.{Expr}
use Rattle.ac_tree.specs.declared.stmt.Stmt.{Stmt}
use Rattle.ac_tree.specs.declared.stmt.Stmt.TheOpen.{Stmt-F}
use Rattle.ac_names.specs.declared.names.Names.{Names}
use Rattle.ac_names.specs.Statements.{part_words, part_gives, listed, names_after, sum_words, opened, shut, moved}
use Rattle.ac_types.specs.declared.around.Around.{Around}
use Rattle.ac_types.specs.declared.around.Position.{Position}
use Rattle.ac_types.specs.declared.around.Position.TheVariants as p
use Rattle.ac_types.specs.declared.numbered.Tables.{Tables}
use Rattle.ac_types.specs.declared.rule.Rule.{Rule}
use Rattle.ac_types.specs.declared.seen.Seen.{Seen}
use Rattle.ac_types.specs.declared.statements.Walk.{Walk}
use Rattle.ac_types.specs.Statements.{StmtPart, stmt_step, stmt_all, body_gives}
use Rattle.ac_types.specs.inner.Seen.{noted, noted_by, unseen, join_seen, expr_seen, value_seen}

abbrev pub SeenPart : Type 0
SeenPart = StmtPart (Seen → Seen)

abbrev pub seen_step : Stmt-F SeenPart → SeenPart
seen_step = stmt_step (Seen → Seen) noted unseen join_seen

abbrev pub stmt_seen : Stmt → SeenPart
stmt_seen = stmt_all (Seen → Seen) noted unseen join_seen

abbrev pub some_seen : Option Stmt → Option SeenPart
some_seen x = option_map stmt_seen x

abbrev pub body_seen : List Stmt → List SeenPart
body_seen body = map stmt_seen body

abbrev pub bodies : List SeenPart → Tables → Names → Around → Seen → Seen
bodies = body_gives (Seen → Seen) noted unseen join_seen

-- a walk after a statement
abbrev pub after : Tables → Around → SeenPart → Walk → Walk
after t a p w = record { names = moved w.names (part_words p); seen = part_gives p t w.names a w.seen }

-- after a statement of a list
abbrev pub after_listed : Tables → Around → SeenPart → Walk → Walk
after_listed t a p w = record { names = listed p a.depth w.names; seen = part_gives p t w.names a w.seen }

abbrev pub after_some : Tables → Around → Option SeenPart → Walk → Walk
after_some t a None w = w
after_some t a (Some p) w = after t a p w

abbrev pub after_init : Tables → Around → Option SeenPart → Walk → Walk
after_init t a None w = w
after_init t a (Some p) w = after_listed t a p w

-- after the statements of a list
abbrev pub after_body : Tables → Around → List SeenPart → Walk → Walk
after_body t a ps w = record { names = names_after ps a.depth w.names; seen = bodies ps t w.names a w.seen }

-- after the statements of a list in a scope of their own
abbrev pub after_scope : Tables → Around → List SeenPart → Walk → Walk
after_scope t a ps w = record { names = moved w.names (sum_words ps); seen = bodies ps t (opened w.names) a w.seen }

abbrev pub noted_plain : ℕ → Option Rule → Walk → Walk
noted_plain at rule w = record { names = w.names; seen = noted_by at rule None None w.seen }

abbrev pub after_expr : Tables → Around → Position → Expr → Walk → Walk
after_expr t a position x w = record { names = w.names; seen = expr_seen x t w.names.scopes a position w.seen }

abbrev pub after_value : Tables → Around → Option Expr → Walk → Walk
after_value t a x w = record { names = w.names; seen = value_seen x t w.names.scopes a w.seen }

abbrev pub after_test : Tables → Around → ℕ → Expr → Walk → Walk
after_test t a at test w = after_expr t a p.Value test (noted_plain at None w)

abbrev pub after_open : ℕ → Walk → Walk
after_open at w = record { names = opened w.names; seen = noted_by at None None None w.seen }

abbrev pub after_shut : Walk → Walk
after_shut w = record { names = shut w.names; seen = w.seen }

-- ---- forms by their parts

abbrev pub block_seen : ℕ → List SeenPart → SeenPart
block_seen at body = seen_step (Stmt-F.Block at body)

abbrev pub int_seen : ℕ → List ℕ → Option Expr → SeenPart
int_seen at name value = seen_step (Stmt-F.Int at name value)

abbrev pub array_seen : ℕ → List ℕ → ℤ → SeenPart
array_seen at name size = seen_step (Stmt-F.Array at name size)

abbrev pub assign_seen : ℕ → Expr → Expr → SeenPart
assign_seen at place value = seen_step (Stmt-F.Assign at place value)

abbrev pub call_seen : ℕ → Expr → SeenPart
call_seen at call = seen_step (Stmt-F.Call at call)

abbrev pub print_seen : ℕ → List ℕ → List Expr → SeenPart
print_seen at format args = seen_step (Stmt-F.Print at format args)

abbrev pub if_seen : ℕ → Expr → SeenPart → Option SeenPart → SeenPart
if_seen at test body other = seen_step (Stmt-F.If at test body other)

abbrev pub for_seen : ℕ → Option SeenPart → Option Expr → Option SeenPart → SeenPart → SeenPart
for_seen at init test next body = seen_step (Stmt-F.For at init test next body)

abbrev pub return_seen : ℕ → Option Expr → SeenPart
return_seen at value = seen_step (Stmt-F.Return at value)

abbrev pub do_seen : ℕ → Option (List ℕ) → List SeenPart → SeenPart
do_seen at label body = seen_step (Stmt-F.Do at label body)

abbrev pub async_seen : ℕ → SeenPart → SeenPart
async_seen at body = seen_step (Stmt-F.Async at body)

abbrev pub cancel_seen : ℕ → List ℕ → SeenPart
cancel_seen at label = seen_step (Stmt-F.Cancel at label)
