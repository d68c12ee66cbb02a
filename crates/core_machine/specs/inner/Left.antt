-- A bound on what a running core can still do.
use Rattle.std.specs.Prelude.{ℕ, suc, List, Option, Some, None}
use Rattle.code_safety.specs.Left.{left}
use Rattle.core_machine.specs.declared.ending.Ending.{Ending}
use Rattle.core_machine.specs.declared.running.Running.{Running}
use Rattle.core_machine.specs.State.{flat_of}

-- nothing where it has ended
abbrev pub left_from : Option Ending → ℕ → ℕ
left_from None n = suc n
left_from (Some ending) n = 0

abbrev pub left_of : List ℕ → Running → ℕ
left_of ranks m = left_from m.ended (left ranks m.bound (flat_of m))
