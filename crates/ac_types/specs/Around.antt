-- Where an expression stands, and what is around it.
use Rattle.std.specs.Prelude.{ℕ, ◌+◌, Option, Some, None, Bool, true, false, not, nat_eq, nat_lt}
use Rattle.ac_types.specs.declared.around.Around.{Around}
use Rattle.ac_types.specs.declared.around.Position.{Position}
use Rattle.ac_types.specs.declared.around.Position.TheVariants as p
use Rattle.ac_reach.specs.declared.reached.Reached.{Reached}
use Rattle.ac_reach.specs.declared.reached.Reached.TheVariants as r
use Rattle.ac_names.specs.Kinds.{either}

abbrev pub is_array_position : Position → Bool
is_array_position p.Array = true
is_array_position _ = false

-- whether the value is used
abbrev pub is_used : Position → Bool
is_used p.Statement = false
is_used _ = true

abbrev pub position_of : Bool → Position
position_of true = p.Array
position_of false = p.Value

-- in a `do`
abbrev pub inside_do : Around → Around
inside_do a = record a { in_do = true; in_loop = false }

-- in an async body
abbrev pub inside_async : Around → Around
inside_async a = record a { depth = a.depth + 1; in_loop = false }

abbrev pub inside_loop : Around → Around
inside_loop a = record a { in_loop = true }

-- in a `do` or an async body of its function
abbrev pub is_closed : Around → Bool
is_closed a = either a.in_do (nat_lt 0 a.depth)

-- some core that reaches the function is not that one
abbrev pub is_reached_by_another : Reached → Option ℕ → Bool
is_reached_by_another r.ByNone core = false
is_reached_by_another (r.ByOne k) None = true
is_reached_by_another (r.ByOne k) (Some core) = not (nat_eq k core)
is_reached_by_another r.BySeveral core = true
