-- Expressions without their names, by the scopes round them and the number of async bodies round them.
use Rattle.std.specs.Prelude.{ℕ, pos, List, [], ◌∷◌, map, Option, None, Some}
use Rattle.ac_tree.specs.declared.expr.Expr.{Expr, fold-Expr}
use Rattle.ac_tree.specs.declared.expr.Link.{Link, fold-Link}
use Rattle.ac_tree.specs.declared.expr.Expr.TheOpen.{Expr-F, Link-F}
use Rattle.ac_names.specs.Scopes.{Declaration, visible}
use Rattle.ac_commands.specs.declared.value.Value.{Value}
use Rattle.ac_commands.specs.declared.value.Value.TheVariants as v
use Rattle.ac_commands.specs.declared.value.ValueLink.{ValueLink}
use Rattle.ac_commands.specs.declared.value.Place.TheVariants as p
use Rattle.ac_commands.specs.declared.value.Action.TheVariants as act
use Rattle.ac_commands.specs.declared.command.Target.{Target}
use Rattle.ac_commands.specs.declared.command.Target.TheVariants as t
use Rattle.ac_resolve.specs.Places.{constant_value, place_of, array_of, name_argument, received_in, reference_to}
use Rattle.ac_resolve.specs.Places.{function_of, channel_of, file_of}

abbrev pub InScopes : Type 0 → Type 0
InScopes A = List (List Declaration) → ℕ → A

-- What an expression is by the place where it stands: where its value is used, whole as an argument of a call or as what is sent, as
-- what an int is put into, and as where a message is received.
pub record Reading : Type 0 where
  pub value : InScopes Value
  pub argument : InScopes Value
  pub target : InScopes Target
  pub received : InScopes Value

-- ---- values

abbrev pub links_step : List (InScopes ValueLink) → InScopes (List ValueLink)
links_step [] scopes depth = []
links_step (l ∷ ls) scopes depth = l scopes depth ∷ links_step ls scopes depth

abbrev pub arguments_step : List Reading → InScopes (List Value)
arguments_step [] scopes depth = []
arguments_step (x ∷ xs) scopes depth = x.argument scopes depth ∷ arguments_step xs scopes depth

-- the place in a file, the length and the array of a Read or a Write
abbrev pub file_operands : Reading → Reading → List ℕ → InScopes (List Value)
file_operands from len array scopes depth =
    from.value scopes depth ∷ len.value scopes depth ∷ v.Reference (array_of (visible array scopes) depth) ∷ []

abbrev pub value_step : Expr-F Reading (InScopes ValueLink) → InScopes Value
value_step (Expr-F.Number at value) scopes depth = v.Number value
value_step (Expr-F.Const at which) scopes depth = v.Number (constant_value which)
value_step (Expr-F.Name at name) scopes depth = v.Variable (place_of (visible name scopes) depth)
value_step (Expr-F.Index at name index) scopes depth = v.Element (array_of (visible name scopes) depth) (index.value scopes depth)
value_step (Expr-F.Group at inner) scopes depth = inner.value scopes depth
value_step (Expr-F.Unary at op inner) scopes depth = v.Unary op (inner.value scopes depth)
value_step (Expr-F.Chain at level first rest) scopes depth = v.Chain (first.value scopes depth) (links_step rest scopes depth)
value_step (Expr-F.Call at name args) scopes depth = v.Act (act.Call (function_of (visible name scopes))) (arguments_step args scopes depth)
value_step (Expr-F.Send at channel value) scopes depth =
    v.Act (act.Send (channel_of (visible channel scopes))) (value.argument scopes depth ∷ [])
value_step (Expr-F.Recv at channel place) scopes depth =
    v.Act (act.Recv (channel_of (visible channel scopes))) (place.received scopes depth ∷ [])
value_step (Expr-F.Read at file from len array) scopes depth =
    v.Act (act.Read (file_of (visible file scopes))) (file_operands from len array scopes depth)
value_step (Expr-F.Write at file from len array) scopes depth =
    v.Act (act.Write (file_of (visible file scopes))) (file_operands from len array scopes depth)

-- ---- arguments, targets and where messages are received

abbrev pub argument_step : Expr-F Reading (InScopes ValueLink) → InScopes Value
argument_step (Expr-F.Name at name) scopes depth = name_argument (visible name scopes) depth
argument_step x scopes depth = value_step x scopes depth

-- no other expression is a place
abbrev pub target_step : Expr-F Reading (InScopes ValueLink) → InScopes Target
target_step (Expr-F.Name at name) scopes depth = t.Variable (place_of (visible name scopes) depth)
target_step (Expr-F.Index at name index) scopes depth = t.Element (array_of (visible name scopes) depth) (index.value scopes depth)
target_step _ scopes depth = t.Variable (p.Global 0)

abbrev pub received_step : Expr-F Reading (InScopes ValueLink) → InScopes Value
received_step (Expr-F.Name at name) scopes depth = v.Reference (received_in (visible name scopes) depth)
received_step x scopes depth = reference_to (target_step x scopes depth)

-- ---- all of it

abbrev pub read_step : Expr-F Reading (InScopes ValueLink) → Reading
read_step x = record { value = value_step x; argument = argument_step x; target = target_step x; received = received_step x }

abbrev pub link_step : Link-F Reading (InScopes ValueLink) → InScopes ValueLink
link_step link scopes depth = record { op = link.op; operand = link.operand.value scopes depth }

abbrev pub read : Expr → Reading
read = fold-Expr Reading (InScopes ValueLink) read_step link_step

abbrev pub value_in : Expr → InScopes Value
value_in x scopes depth = (read x).value scopes depth

abbrev pub argument_in : Expr → InScopes Value
argument_in x scopes depth = (read x).argument scopes depth

abbrev pub target_in : Expr → InScopes Target
target_in x scopes depth = (read x).target scopes depth

-- the place of a Recv as a reference to where the message goes
abbrev pub place_in : Expr → InScopes Value
place_in x scopes depth = (read x).received scopes depth

abbrev pub link_in : Link → InScopes ValueLink
link_in = fold-Link Reading (InScopes ValueLink) read_step link_step

abbrev pub links_in : List Link → InScopes (List ValueLink)
links_in links = links_step (map link_in links)

abbrev pub arguments_in : List Expr → InScopes (List Value)
arguments_in args = arguments_step (map read args)

abbrev pub values_in : List Expr → InScopes (List Value)
values_in [] scopes depth = []
values_in (x ∷ xs) scopes depth = value_in x scopes depth ∷ values_in xs scopes depth

-- the test of a `for` or the operand of a `return`, where there is one
abbrev pub some_in : Option Expr → InScopes (Option Value)
some_in None scopes depth = None
some_in (Some x) scopes depth = Some (value_in x scopes depth)

-- a declaration without a value starts its variable with 0
abbrev pub initial_in : Option Expr → InScopes Value
initial_in None scopes depth = v.Number (pos 0)
initial_in (Some x) scopes depth = value_in x scopes depth
