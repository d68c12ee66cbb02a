-- Which operations the interpreter looks for.
use Rattle.std.specs.Prelude.{Bool}
use Rattle.cancel_scope.specs.declared.operation.Operation.{Operation}
use Rattle.cancel_scope.specs.Outstanding.{is_to_offer, is_offered, is_begun, is_to_receive}
use Rattle.interpreter_state.specs.declared.operation.Sought.{Sought}
use Rattle.interpreter_state.specs.declared.operation.Sought.TheVariants as l

abbrev pub is_sought : Sought → Operation → Bool
is_sought (l.ToOffer link) = is_to_offer link
is_sought (l.Offered link number) = is_offered link number
is_sought (l.Begun link number) = is_begun link number
is_sought (l.ToReceive link) = is_to_receive link
