-- What the peer of a channel receives, and what that makes of the link and of its clock.
use Rattle.std.specs.Prelude.{ℕ, ℤ, pos, List, [], ◌∷◌, ◌++◌, length, Option, Some, None, slice_get}
use Rattle.ac_base.specs.declared.entry.Payload.{Payload}
use Rattle.ac_base.specs.declared.entry.Payload.TheVariants.{Int, Read, Write}
use Rattle.ac_base.specs.Stamps.{stamp_after}
use Rattle.ac_links.specs.Payloads.Taking.{Message}
use Rattle.ac_links.specs.Views.{OwnerOffer, PeerDecision}
use Rattle.ac_links.specs.Noted.{offer_stamp, withdrawal_stamp}
use Rattle.core_channels.specs.declared.answers.Receiving.{Receiving}
use Rattle.core_channels.specs.declared.answers.Receiving.TheVariants.{Took, Passed, Nothing, NotYet, ClockFull}
use Rattle.core_channels.specs.LinkViews.{LinkViews}

-- the message that an offer carries; one int, 0, for a request, which no channel carries
abbrev pub message_of : Payload → List ℤ
message_of (Int value) = value
message_of (Read file from len) = pos 0 ∷ []
message_of (Write file from bytes) = pos 0 ∷ []

abbrev pub passed_at : ℕ → Option ℕ → Receiving (List ℤ)
passed_at number None = ClockFull
passed_at number (Some s) = Passed number s

abbrev pub took_at : ℕ → Payload → Option ℕ → Receiving (List ℤ)
took_at number payload None = ClockFull
took_at number payload (Some s) = Took number (message_of payload) s

-- one that was withdrawn is passed, after its withdrawal, and any other is taken, after its offer
abbrev pub receiving_one : ℕ → ℕ → OwnerOffer → Option ℕ → Receiving (List ℤ)
receiving_one last number o None = took_at number o.payload (stamp_after last o.stamp)
receiving_one last number o (Some w) = passed_at number (stamp_after last w)

abbrev pub receiving_of : ℕ → ℕ → Option OwnerOffer → Receiving (List ℤ)
receiving_of last number None = Nothing
receiving_of last number (Some o) = receiving_one last number o o.withdrawn

-- the answer to a peer whose last stamp is `last`: it is of the first offer that is not decided
abbrev pub receiving : LinkViews → ℕ → Receiving (List ℤ)
receiving v last = receiving_of last (length v.decisions) (slice_get v.offers (length v.decisions))

-- a taking and a passing by an entry of stamp s, which answers one of stamp `of`
abbrev pub taken_decision : List ℤ → ℕ → ℕ → PeerDecision
taken_decision value s of = record { value = Some (Message value); stamp = s; answers = of }

abbrev pub passed_decision : ℕ → ℕ → PeerDecision
passed_decision s of = record { value = None; stamp = s; answers = of }

abbrev pub with_decision : LinkViews → PeerDecision → LinkViews
with_decision v d = record v { decisions = v.decisions ++ d ∷ [] }

-- the link after the answer
abbrev pub after_receiving : LinkViews → Receiving (List ℤ) → LinkViews
after_receiving v (Took number value s) = with_decision v (taken_decision value s (offer_stamp (slice_get v.offers number)))
after_receiving v (Passed number s) = with_decision v (passed_decision s (withdrawal_stamp (slice_get v.offers number)))
after_receiving v Nothing = v
after_receiving v NotYet = v
after_receiving v ClockFull = v

-- the peer's last stamp after the answer
abbrev pub receiving_clock : ℕ → Receiving (List ℤ) → ℕ
receiving_clock last (Took number value s) = s
receiving_clock last (Passed number s) = s
receiving_clock last Nothing = last
receiving_clock last NotYet = last
receiving_clock last ClockFull = last
