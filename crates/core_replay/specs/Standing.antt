-- A machine that has taken the entries of a journal, and the table of its offers.
use Rattle.std.specs.Prelude.{◌≡◌, ℕ, ◌≤◌, List, Bool, true}
use Rattle.std.specs.List.{list_any}
use Rattle.ac_base.specs.declared.entry.Entry.{Entry}
use Rattle.core_state.specs.Arrivals.{is_room, is_withdrawal, offers_on}
use Rattle.core_state.specs.Moves.{Move, On, Over}
use Rattle.code_meaning.specs.Machine.{Flat, FlatEnd}
use Rattle.core_machine.specs.Machine.{Machine, IsFirst, IsOnItsWay}
use Rattle.core_machine.specs.Tracks.{offers_of}
use Rattle.core_replay.specs.Offering.{Offers, AreOffersOf}
use Rattle.replay_laws.specs.Given.{last_turn}

-- each offer has the number of those before it on its link, and a room was given back only of an offer that was withdrawn
pub record IsNumbered (journal : List Entry) : Type 0 where
  pub fresh : (link number : ℕ) → offers_on link journal ≤ number → offers_of link number journal ≡ 0
  pub once : (link number : ℕ) → offers_of link number journal ≤ 1
  pub rooms : (link number : ℕ) → list_any (λ (e : Entry). is_room link number e.event) journal ≡ true
      → list_any (λ (e : Entry). is_withdrawal link number e.event) journal ≡ true

-- it has come to its state under its journal, of which the table holds the offers
pub record IsPlayed (m : Machine) (o : Offers) : Type 0 where
  pub run : IsOnItsWay m
  pub offers : AreOffersOf m.journal o
  pub numbered : IsNumbered m.journal

-- it has gone no further than to where its last entry came in, or it is over before its first step
abbrev pub StandsAt : Machine → Move Flat FlatEnd → Type 0
StandsAt m (On flat) = flat.shared.turn ≡ last_turn 0 m.journal
StandsAt m (Over x) = IsFirst m

pub record IsReplayed (m : Machine) (o : Offers) (took_all : Bool) : Type 0 where
  pub played : IsPlayed m o
  pub stands : took_all ≡ true → StandsAt m m.state
