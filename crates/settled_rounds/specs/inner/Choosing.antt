-- Who has something to do.
use Rattle.std.specs.Prelude.{ℕ, ◌<◌}
use Rattle.settled_rounds.specs.declared.choosing.Busy.{Busy}
use Rattle.settled_rounds.specs.declared.choosing.Busy.TheVariants.{Nobody, One, Several}

-- where it is one, it is one of so many parties
abbrev pub IsPlaceIn : ℕ → Busy → Type 0
IsPlaceIn n Nobody = Unit {0}
IsPlaceIn n (One place) = place < n
IsPlaceIn n Several = Unit {0}
