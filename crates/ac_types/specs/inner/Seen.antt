-- What a walk over nodes and expressions has seen, by what it had seen before.
use Rattle.std.specs.Prelude.{ℕ, List, [], ◌∷◌, Option, None, Some, Bool, true, false, nat_lt, if◌then◌else◌}
use Rattle.ac_tree.specs.declared.expr.Expr.{Expr}
use Rattle.ac_tree.specs.declared.expr.Link.{Link}
use Rattle.ac_names.specs.declared.meaning.Meaning.{Meaning}
use Rattle.ac_names.specs.Scopes.{Declaration, or_else}
use Rattle.ac_types.specs.declared.around.Around.{Around}
use Rattle.ac_types.specs.declared.around.Position.{Position}
use Rattle.ac_types.specs.declared.numbered.Tables.{Tables}
use Rattle.ac_types.specs.declared.carried.Carried.{Carried}
use Rattle.ac_types.specs.declared.rule.BrokenRule.{BrokenRule}
use Rattle.ac_types.specs.declared.rule.Rule.{Rule}
use Rattle.ac_types.specs.declared.seen.Seen.{Seen}
use Rattle.ac_types.specs.Rules.{rule_number}
use Rattle.ac_types.specs.Nodes.{Node, called, carried_too}
use Rattle.ac_types.specs.Expressions.{expr_told, expr_all, links_all, args_all, values_all, value_all}

-- the one of lesser number
abbrev pub lesser : Rule → Option Rule → Rule
lesser r None = r
lesser r (Some q) = if nat_lt (rule_number q) (rule_number r) then q else r

abbrev pub least_with : Rule → Bool → Option Rule → Option Rule
least_with rule true rest = Some (lesser rule rest)
least_with rule false rest = rest

-- the least rule that a node breaks
abbrev pub least_broken : List (Rule × Bool) → Option Rule
least_broken [] = None
least_broken (t ∷ ts) = least_with t.0 t.1 (least_broken ts)

abbrev pub at_node : ℕ → Option Rule → Option BrokenRule
at_node at None = None
at_node at (Some rule) = Some (record { rule = rule; at = at })

abbrev pub noted_by : ℕ → Option Rule → Option ℕ → Option Carried → Seen → Seen
noted_by at rule call carried seen = record {
  first = or_else seen.first (at_node at rule);
  calls = called call seen.calls;
  carried = carried_too carried seen.carried;
}

-- one node more
abbrev pub noted : Node → Seen → Seen
noted n seen = noted_by n.at (least_broken n.tests) n.calls n.carries seen

abbrev pub seen_all : List Node → Seen → Seen
seen_all [] seen = seen
seen_all (n ∷ ns) seen = seen_all ns (noted n seen)

-- the least rule of the first node that breaks one
abbrev pub first_of : List Node → Option BrokenRule
first_of [] = None
first_of (n ∷ ns) = or_else (at_node n.at (least_broken n.tests)) (first_of ns)

-- ---- expressions

abbrev pub unseen : Seen → Seen
unseen seen = seen

abbrev pub join_seen : (Seen → Seen) → (Seen → Seen) → Seen → Seen
join_seen f g seen = g (f seen)

-- the name that an expression is, where it is one
abbrev pub name_seen : Expr → Option (List ℕ)
name_seen x = (expr_told (Seen → Seen) noted unseen join_seen x).0

abbrev pub expr_seen : Expr → Tables → List (List Declaration) → Around → Position → Seen → Seen
expr_seen = expr_all (Seen → Seen) noted unseen join_seen

abbrev pub links_seen : List Link → Tables → List (List Declaration) → Around → Seen → Seen
links_seen = links_all (Seen → Seen) noted unseen join_seen

abbrev pub args_seen : Option Meaning → ℕ → List Expr → Tables → List (List Declaration) → Around → Seen → Seen
args_seen = args_all (Seen → Seen) noted unseen join_seen

abbrev pub values_seen : List Expr → Tables → List (List Declaration) → Around → Seen → Seen
values_seen = values_all (Seen → Seen) noted unseen join_seen

abbrev pub value_seen : Option Expr → Tables → List (List Declaration) → Around → Seen → Seen
value_seen = value_all (Seen → Seen) noted unseen join_seen
