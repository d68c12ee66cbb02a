-- The nodes of an expression in preorder.
use Rattle.std.specs.Prelude.{ℕ, ◌+◌, List, [], ◌∷◌, ◌++◌, length, map, Option, None, Some, Bool}
use Rattle.ac_tree.specs.declared.expr.Expr.{Expr, fold-Expr}
use Rattle.ac_tree.specs.declared.expr.Link.{Link, fold-Link}
use Rattle.ac_tree.specs.declared.expr.Expr.TheOpen.{Expr-F, Link-F}
use Rattle.ac_types.specs.declared.around.Around.{Around}
use Rattle.ac_types.specs.declared.around.Position.{Position}
use Rattle.ac_types.specs.declared.around.Position.TheVariants as p
use Rattle.ac_names.specs.declared.meaning.Meaning.{Meaning}
use Rattle.ac_types.specs.declared.numbered.Callee.{Callee}
use Rattle.ac_types.specs.declared.numbered.Tables.{Tables}
use Rattle.ac_names.specs.Scopes.{Declaration, visible}
use Rattle.ac_types.specs.Around.{position_of}
use Rattle.ac_types.specs.Tables.{callee, takes_array, ends_named, width_named}
use Rattle.ac_types.specs.Widths.{length_named, ints_of, carried_on, is_unlike}
use Rattle.ac_types.specs.Nodes.{Node}
use Rattle.ac_types.specs.Judged.{Tests, value_tests, name_tests, index_tests, call_tests}
use Rattle.ac_types.specs.Judged.{sends_away, takes_away, channel_tests, file_tests}

abbrev pub plain : ℕ → Tests → Node
plain at tests = record { at = at; tests = tests; calls = None; carries = None }

-- the number of the function that is called
abbrev pub number_of : Option Callee → Option ℕ
number_of None = None
number_of (Some f) = Some f.number

abbrev pub call_node : ℕ → Option Meaning → Option Callee → ℕ → Around → Position → Node
call_node at meaning f args a position =
    record { at = at; tests = call_tests meaning f args a position; calls = number_of f; carries = None }

-- a Send or a Recv on what the name means, of so many elements, by whether a core reaches it that is not that end
abbrev pub channel_node : ℕ → Tables → Option Meaning → Option ℕ → Bool → Around → Position → Node
channel_node at t meaning len away a position = record {
  at = at;
  tests = channel_tests meaning (is_unlike (ints_of len) (width_named t meaning)) away a position;
  calls = None;
  carries = carried_on meaning len;
}

-- the name that a form is, where it is one
abbrev pub name_in : {A B : Type 0} → Expr-F A B → Option (List ℕ)
name_in (Expr-F.Name at name) = Some name
name_in _ = None

-- What a tree gives, where a node gives `one` and parts that follow one another are joined by `join`: with lists of nodes
-- these are the nodes in preorder.
module _ (X : Type 0) (one : Node → X) (none : X) (join : X → X → X) where
  -- an expression by the scopes round it, what is around it, and its position
  abbrev pub ExprPart : Type 0
  ExprPart = Tables → List (List Declaration) → Around → Position → X

  -- the name that it is, where it is one, and what it gives
  abbrev pub ExprTold : Type 0
  ExprTold = Option (List ℕ) × ExprPart

  abbrev pub links_step : List ExprPart → Tables → List (List Declaration) → Around → X
  links_step [] t s a = none
  links_step (x ∷ xs) t s a = join (x t s a p.Value) (links_step xs t s a)

  -- the arguments from a number on, by what the called name means
  abbrev pub args_step : Option Meaning → ℕ → List ExprTold → Tables → List (List Declaration) → Around → X
  args_step meaning number [] t s a = none
  args_step meaning number (x ∷ xs) t s a = join (x.1 t s a (position_of (takes_array t meaning number)))
      (args_step meaning (number + 1) xs t s a)

  -- a link is no node: its operand is
  abbrev pub expr_gives : Expr-F ExprTold ExprPart → ExprPart
  expr_gives (Expr-F.Number at value) t s a w = one (plain at (value_tests w))
  expr_gives (Expr-F.Const at which) t s a w = one (plain at (value_tests w))
  expr_gives (Expr-F.Name at name) t s a w = one (plain at (name_tests (visible name s) w))
  expr_gives (Expr-F.Index at name index) t s a w = join (one (plain at (index_tests (visible name s) w))) (index.1 t s a p.Value)
  expr_gives (Expr-F.Group at inner) t s a w = join (one (plain at (value_tests w))) (inner.1 t s a p.Value)
  expr_gives (Expr-F.Unary at op inner) t s a w = join (one (plain at (value_tests w))) (inner.1 t s a p.Value)
  expr_gives (Expr-F.Chain at level first rest) t s a w =
      join (one (plain at (value_tests w))) (join (first.1 t s a p.Value) (links_step rest t s a))
  expr_gives (Expr-F.Call at name args) t s a w =
      join (one (call_node at (visible name s) (callee t (visible name s)) (length args) a w)) (args_step (visible name s) 0 args t s a)
  expr_gives (Expr-F.Send at channel value) t s a w =
      join (one (channel_node at t (visible channel s) (length_named value.0 s)
      (sends_away a.reached (ends_named t (visible channel s))) a w))
      (value.1 t s a p.Message)
  expr_gives (Expr-F.Recv at channel place) t s a w =
      join (one (channel_node at t (visible channel s) (length_named place.0 s)
      (takes_away a.reached (ends_named t (visible channel s))) a w))
      (place.1 t s a p.Message)
  expr_gives (Expr-F.Read at file from len array) t s a w =
      join (one (plain at (file_tests (visible file s) (visible array s) a w))) (join (from.1 t s a p.Value) (len.1 t s a p.Value))
  expr_gives (Expr-F.Write at file from len array) t s a w =
      join (one (plain at (file_tests (visible file s) (visible array s) a w))) (join (from.1 t s a p.Value) (len.1 t s a p.Value))

  abbrev pub expr_step : Expr-F ExprTold ExprPart → ExprTold
  expr_step x = (name_in x, expr_gives x)

  abbrev pub link_step : Link-F ExprTold ExprPart → ExprPart
  link_step link t s a w = link.operand.1 t s a w

  abbrev pub expr_told : Expr → ExprTold
  expr_told = fold-Expr ExprTold ExprPart expr_step link_step

  abbrev pub expr_all : Expr → ExprPart
  expr_all x = (expr_told x).1

  abbrev pub link_all : Link → ExprPart
  link_all = fold-Link ExprTold ExprPart expr_step link_step

  abbrev pub links_all : List Link → Tables → List (List Declaration) → Around → X
  links_all links = links_step (map link_all links)

  abbrev pub args_all : Option Meaning → ℕ → List Expr → Tables → List (List Declaration) → Around → X
  args_all meaning number args = args_step meaning number (map expr_told args)

  -- expressions whose values are used
  abbrev pub values_all : List Expr → Tables → List (List Declaration) → Around → X
  values_all [] t s a = none
  values_all (x ∷ xs) t s a = join (expr_all x t s a p.Value) (values_all xs t s a)

  -- an expression whose value is used, where there is one
  abbrev pub value_all : Option Expr → Tables → List (List Declaration) → Around → X
  value_all None t s a = none
  value_all (Some x) t s a = expr_all x t s a p.Value

-- ---- with lists of nodes

abbrev pub one_node : Node → List Node
one_node n = n ∷ []

abbrev pub join_nodes : List Node → List Node → List Node
join_nodes xs ys = xs ++ ys

abbrev pub told_nodes : Expr → ExprTold (List Node) one_node [] join_nodes
told_nodes = expr_told (List Node) one_node [] join_nodes

abbrev pub expr_nodes : Expr → ExprPart (List Node) one_node [] join_nodes
expr_nodes = expr_all (List Node) one_node [] join_nodes
