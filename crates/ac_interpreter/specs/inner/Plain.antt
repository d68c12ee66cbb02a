-- What is known of a step that is no cancel.
use Rattle.interpreter_steps.specs.declared.statements.Next.{Next}
use Rattle.interpreter_steps.specs.declared.statements.Next.TheVariants as n

-- it has a meaning, and is no cancel
abbrev pub IsPlain : Next → Type 0
IsPlain (n.Cancels block) = ⊥
IsPlain n.Stays = ⊥
IsPlain _ = Unit {0}
