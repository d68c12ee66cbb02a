-- How many entries of a journal pass over a withdrawn offer.
use Rattle.std.specs.Prelude.{ℕ, ◌+◌, List, [], ◌∷◌}
use Rattle.ac_base.specs.declared.entry.Event.{Event}
use Rattle.ac_base.specs.declared.entry.Event.TheVariants as event
use Rattle.ac_base.specs.declared.entry.Entry.{Entry}

-- an offer that is passed over counts for one, and anything else for none
abbrev pub pass_of : Event → ℕ
pass_of (event.Pass link number) = 1
pass_of other = 0

abbrev pub passes_in : List Entry → ℕ
passes_in [] = 0
passes_in (e ∷ es) = pass_of e.event + passes_in es
