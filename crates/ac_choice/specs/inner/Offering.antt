-- The parts of a step of a relay: the offer of a message, and the taking of one that is then offered.
use Rattle.std.specs.Prelude.{◌≡◌, ◌≤◌, ℕ, ℤ, List, Option}
use Rattle.core_channels.specs.declared.answers.Offering.{Offering}
use Rattle.channel_ends.specs.Receiving.{Receiving}
use Rattle.channel_ends.specs.Sending.{Sending, AreWithin}
use Rattle.channel_ends.specs.Offers.{Offers, offering_clock}
use Rattle.channel_ends.specs.Pairs.{IsSameSend}
use Rattle.ac_choice.specs.declared.answers.Tagged.{Tagged}
use Rattle.ac_choice.specs.declared.answers.Relayed.{Relayed}
use Rattle.ac_choice.specs.Relaying.{Relaying}
use Rattle.ac_choice.specs.Steps.{told_of_offer, kept_of_offer, TakesOne, OffersAsTold, IsSameRelay}
use Rattle.ac_choice.specs.Inside.{IsRelay}

-- the answer, what is held then, and the end and the clock after the offer
pub record Puts (old : Sending Tagged) (m : Tagged) (last : ℕ) (result : Relayed) (held : Option Tagged) (new : Sending Tagged) (now : ℕ)
    : Type 0 where
  pub answer : Offering Tagged
  pub offers : Offers old m last answer new
  pub told : result ≡ told_of_offer m.end answer
  pub kept : held ≡ kept_of_offer answer
  pub clock : now ≡ offering_clock last answer
  pub within : AreWithin now new.notes.offers
  pub same : IsSameSend old new

abbrev pub relay_of : List (Receiving ℤ) → Sending Tagged → Option Tagged → ℕ → ℕ → Relaying
relay_of ins out held first clock = record { ins = ins; out = out; held = held; first = first; clock = clock }

-- what is so of a step, of its second part
pub record Fetches (old : Relaying) (result : Relayed) (new : Relaying) : Type 0 where
  pub takes : TakesOne old result new
  pub relay : IsRelay new
  pub offers : OffersAsTold old.out.payloads result new.out.payloads
  pub rises : old.clock ≤ new.clock
  pub same : IsSameRelay old new
