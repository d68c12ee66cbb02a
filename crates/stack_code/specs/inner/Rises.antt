-- Slots that rise, as they are read.
use Rattle.std.specs.Prelude.{ℕ, ◌+◌, List, [], ◌∷◌, Bool, true, false, nat_lt, if◌then◌else◌}
use Rattle.stack_code.specs.declared.parts.Start.{Start}

-- whether they rise from that slot on
abbrev pub rising_from : ℕ → List Start → Bool
rising_from next [] = true
rising_from next (start ∷ starts) = if nat_lt start.slot next then false else rising_from (start.slot + 1) starts
