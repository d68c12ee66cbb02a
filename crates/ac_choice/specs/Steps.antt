-- What a step of a relay is: one learning, and one offer of what it holds or of what it takes.
use Rattle.std.specs.Prelude.{◌≡◌, ℕ, ℤ, List, [], ◌∷◌, ◌++◌, length, Option, Some, None, Bool, true, false}
use Rattle.core_channels.specs.declared.answers.Offering.{Offering}
use Rattle.core_channels.specs.declared.answers.Offering.TheVariants as offering
use Rattle.core_channels.specs.declared.answers.Learning.{Learning}
use Rattle.core_channels.specs.declared.answers.Learning.TheVariants as learning
use Rattle.core_channels.specs.Learns.{learning_clock}
use Rattle.channel_ends.specs.Sending.{Sending}
use Rattle.channel_ends.specs.Receiving.{Receiving}
use Rattle.channel_ends.specs.Offers.{Offers, offering_clock}
use Rattle.channel_ends.specs.Learns.{Learns}
use Rattle.channel_ends.specs.Pairs.{IsSameSend}
use Rattle.ac_choice.specs.declared.answers.Any.{Any}
use Rattle.ac_choice.specs.declared.answers.Any.TheVariants as any
use Rattle.ac_choice.specs.declared.answers.Tagged.{Tagged}
use Rattle.ac_choice.specs.declared.answers.Relayed.{Relayed}
use Rattle.ac_choice.specs.declared.answers.Relayed.TheVariants as relayed
use Rattle.ac_choice.specs.Turns.{first_after}
use Rattle.ac_choice.specs.AnyOf.{TakesAny, AreSameEnds, any_clock}
use Rattle.ac_choice.specs.Relaying.{Relaying}

-- ---- an offer

-- how the answer to the offer of a message that was taken at this end is told
abbrev pub told_of_offer : ℕ → Offering Tagged → Relayed
told_of_offer e (offering.Offered number s) = relayed.Moved e
told_of_offer e (offering.NoRoom back) = relayed.NoRoom
told_of_offer e (offering.NotYet back) = relayed.NotYet
told_of_offer e (offering.ClockFull back) = relayed.ClockFull

-- what could not be offered is held
abbrev pub kept_of_offer : Offering Tagged → Option Tagged
kept_of_offer (offering.Offered number s) = None
kept_of_offer (offering.NoRoom back) = Some back
kept_of_offer (offering.NotYet back) = Some back
kept_of_offer (offering.ClockFull back) = Some back

pub record OffersOne (old : Relaying) (m : Tagged) (result : Relayed) (new : Relaying) : Type 0 where
  pub answer : Offering Tagged
  pub offers : Offers old.out m old.clock answer new.out
  pub told : result ≡ told_of_offer m.end answer
  pub after : new ≡ record old { out = new.out; held = kept_of_offer answer; clock = offering_clock old.clock answer }

-- ---- a taking

-- the end after that which took or passed comes first from then on
abbrev pub first_by : ℕ → ℕ → Any ℤ → ℕ
first_by count first (any.Took e number value s) = first_after count e
first_by count first (any.Passed e number s) = first_after count e
first_by count first any.Nothing = first
first_by count first (any.NotYet e) = first
first_by count first any.ClockFull = first

-- the relay whose ends have answered so
abbrev pub once_asked : Relaying → Any ℤ → List (Receiving ℤ) → Relaying
once_asked old a ins =
    record old { ins = ins; first = first_by (length old.ins) old.first a; clock = any_clock old.clock a }

-- what was taken is offered
abbrev pub GoesOnWith : Any ℤ → Relaying → Relayed → Relaying → Type 0
GoesOnWith (any.Took e number value s) mid result new = OffersOne mid (record { end = e; value = value }) result new
GoesOnWith (any.Passed e number s) mid result new = (result ≡ relayed.Passed) × (new ≡ mid)
GoesOnWith any.Nothing mid result new = (result ≡ relayed.Nothing) × (new ≡ mid)
GoesOnWith (any.NotYet e) mid result new = (result ≡ relayed.NotYet) × (new ≡ mid)
GoesOnWith any.ClockFull mid result new = (result ≡ relayed.ClockFull) × (new ≡ mid)

pub record TakesOne (old : Relaying) (result : Relayed) (new : Relaying) : Type 0 where
  pub answer : Any ℤ
  pub ins : List (Receiving ℤ)
  pub takes : TakesAny old.ins old.first old.clock answer ins
  pub then : GoesOnWith answer (once_asked old answer ins) result new

-- ---- a step

abbrev pub is_full : Learning → Bool
is_full (learning.Know number s) = false
is_full (learning.Room number s) = false
is_full learning.Undecided = false
is_full learning.AllKnown = false
is_full learning.ClockFull = true

-- the message that is held is offered, and another is taken only where none is held
abbrev pub Transfers : Option Tagged → Relaying → Relayed → Relaying → Type 0
Transfers (Some m) old result new = OffersOne old m result new
Transfers None old result new = TakesOne old result new

abbrev pub AfterLearning : Bool → Relaying → Relayed → Relaying → Type 0
AfterLearning true old result new = (result ≡ relayed.ClockFull) × (new ≡ old)
AfterLearning false old result new = Transfers old.held old result new

-- the relay that has learned so at the end on which it offers
abbrev pub once_learned : Relaying → Learning → Sending Tagged → Relaying
once_learned old l out = record old { out = out; clock = learning_clock old.clock l }

pub record Steps (old : Relaying) (result : Relayed) (new : Relaying) : Type 0 where
  pub learned : Learning
  pub out : Sending Tagged
  pub learns : Learns old.out.notes old.clock learned out.notes
  pub only : out ≡ record old.out { notes = out.notes }
  pub then : AfterLearning (is_full learned) (once_learned old learned out) result new

-- ---- what it comes to

-- one message more was offered, which was taken at this end, exactly where the answer says so
abbrev pub OffersAsTold : List Tagged → Relayed → List Tagged → Type 0
OffersAsTold old (relayed.Moved e) new = (value : ℤ) × (new ≡ old ++ record { end = e; value = value } ∷ [])
OffersAsTold old relayed.Passed new = new ≡ old
OffersAsTold old relayed.Nothing new = new ≡ old
OffersAsTold old relayed.NotYet new = new ≡ old
OffersAsTold old relayed.NoRoom new = new ≡ old
OffersAsTold old relayed.ClockFull new = new ≡ old

-- it is a relay between the same pairs
pub record IsSameRelay (old new : Relaying) : Type 0 where
  pub ins : AreSameEnds old.ins new.ins
  pub out : IsSameSend old.out new.out
