-- Which events may move the front of a link, and which what its owner knows.
use Rattle.std.specs.Prelude.{Bool, true, false}
use Rattle.ac_base.specs.declared.entry.Event.{Event}
use Rattle.ac_base.specs.declared.entry.Event.TheVariants.{Offer, Withdraw, Know, Room, Got, Pass, Did, Reply}

-- an offer has another standing afterwards
abbrev pub gives_standing : Event → Bool
gives_standing (Offer l n payload) = true
gives_standing (Withdraw l n) = true
gives_standing (Know l n) = false
gives_standing (Room l n) = false
gives_standing (Got l n value) = true
gives_standing (Pass l n) = true
gives_standing (Did l n answer) = true
gives_standing (Reply l n answer) = false

-- the owner learns what became of an offer
abbrev pub is_learned : Event → Bool
is_learned (Offer l n payload) = false
is_learned (Withdraw l n) = false
is_learned (Know l n) = true
is_learned (Room l n) = true
is_learned (Got l n value) = false
is_learned (Pass l n) = false
is_learned (Did l n answer) = false
is_learned (Reply l n answer) = false
