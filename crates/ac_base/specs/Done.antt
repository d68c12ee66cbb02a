-- Which events say that a request was done.
use Rattle.std.specs.Prelude.{ℕ, Bool, false, ◌==◌}
use Rattle.ac_base.specs.declared.entry.Event.{Event}
use Rattle.ac_base.specs.declared.entry.Event.TheVariants.{Offer, Withdraw, Know, Room, Got, Pass, Did, Reply}

-- a request of link l
abbrev pub is_done_on : ℕ → Event → Bool
is_done_on l (Offer k n payload) = false
is_done_on l (Withdraw k n) = false
is_done_on l (Know k n) = false
is_done_on l (Room k n) = false
is_done_on l (Got k n value) = false
is_done_on l (Pass k n) = false
is_done_on l (Did k n answer) = k == l
is_done_on l (Reply k n answer) = false
