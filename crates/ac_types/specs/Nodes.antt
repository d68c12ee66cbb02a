-- Nodes with the rules that each is judged by.
use Rattle.std.specs.Prelude.{ℕ, List, [], ◌∷◌, ◌++◌, Option, None, Some, Bool}
use Rattle.ac_types.specs.declared.carried.Carried.{Carried}
use Rattle.ac_types.specs.declared.rule.Rule.{Rule}

-- a node of the tree: its first byte, the rules that it is judged by, whose numbers rise, with whether it breaks each, the
-- number of the function that it calls, where it calls one, and what it says of a channel, where it is a Send or a Recv
pub record Node : Type 0 where
  pub at : ℕ
  pub tests : List (Rule × Bool)
  pub calls : Option ℕ
  pub carries : Option Carried

abbrev pub called : Option ℕ → List ℕ → List ℕ
called None calls = calls
called (Some function) calls = calls ++ function ∷ []

-- the functions that nodes call, in order
abbrev pub calls_of : List Node → List ℕ
calls_of [] = []
calls_of (n ∷ ns) = called n.calls [] ++ calls_of ns

abbrev pub carried_too : Option Carried → List Carried → List Carried
carried_too None carried = carried
carried_too (Some c) carried = carried ++ c ∷ []

-- what nodes say of channels, in order
abbrev pub carried_of : List Node → List Carried
carried_of [] = []
carried_of (n ∷ ns) = carried_too n.carries [] ++ carried_of ns
