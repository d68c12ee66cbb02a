-- Which answers ports may give. What an answer tells of an entry is said by `Tells`.
use Rattle.std.specs.Prelude.{◌≡◌, ℕ, None, Bool, true, false, IsSome}
use Rattle.ac_base.specs.declared.entry.Payload.{Payload}
use Rattle.ac_base.specs.Stamps.{stamp_after}
use Rattle.ac_links.specs.declared.payloads.Terms.{Terms}
use Rattle.ac_links.specs.Views.{owner_lead}
use Rattle.ac_links.specs.Replies.{least_open}
use Rattle.ac_links.specs.Party.{LinkEnd}
use Rattle.core_channels.specs.declared.answers.Offering.{Offering}
use Rattle.core_channels.specs.declared.answers.Offering.TheVariants.{Offered, NoRoom, NotYet, ClockFull}
use Rattle.core_channels.specs.declared.answers.Withdrawing.{Withdrawing}
use Rattle.core_channels.specs.declared.answers.Withdrawing.TheVariants as withdraw
use Rattle.core_channels.specs.declared.answers.Arrived.{Arrived}
use Rattle.core_channels.specs.declared.answers.Arrived.TheVariants as arrived
use Rattle.core_ports.specs.Ends.{is_peer, offers_of, has_room, awaits_reply}
use Rattle.core_ports.specs.AtHand.{AtHand}

-- the answer to an offer at this end by a core whose last stamp is `last`; what is not offered is handed back
abbrev pub IsOfferAnswer : Terms → LinkEnd → AtHand → ℕ → Payload → Offering Payload → Type 0
IsOfferAnswer terms end hand last payload (Offered number s) = has_room terms end ≡ true
IsOfferAnswer terms end hand last payload (NoRoom back) = (back ≡ payload) × (has_room terms end ≡ false)
IsOfferAnswer terms end hand last payload (NotYet back) =
    (back ≡ payload) × (has_room terms end ≡ true) × IsSome (stamp_after last 0) × (hand.slot ≡ false)
IsOfferAnswer terms end hand last payload (ClockFull back) =
    (back ≡ payload) × (has_room terms end ≡ true) × (stamp_after last 0 ≡ None)

-- the answer to a withdrawal, where the greatest stamp that was seen of the other side is `heard`
abbrev pub IsWithdrawalAnswer : ℕ → ℕ → Withdrawing → Type 0
IsWithdrawalAnswer heard last (withdraw.Withdrawn s) = Unit {0}
IsWithdrawalAnswer heard last (withdraw.Taken s) = Unit {0}
IsWithdrawalAnswer heard last withdraw.ClockFull = stamp_after last heard ≡ None

-- a poll that answers nothing has missed nothing that is at hand; no reply comes before the decision of its request is known
pub record MissesNothing (end : LinkEnd) (hand : AtHand) (wants : Bool) : Type 0 where
  pub decision : hand.decision ≡ false
  pub front : wants ≡ true → hand.front ≡ false
  pub reply : wants ≡ true → awaits_reply end ≡ true → hand.reply ≡ false

-- the answer to a poll; a decision is that of the first offer that is not known, and the rest comes only where it is wanted
abbrev pub IsPollAnswer : Terms → LinkEnd → AtHand → Bool → ℕ → ℕ → Arrived → Type 0
IsPollAnswer terms end hand wants heard last (arrived.Know number s) = number ≡ owner_lead (offers_of end)
IsPollAnswer terms end hand wants heard last (arrived.Room number s) = number ≡ owner_lead (offers_of end)
IsPollAnswer terms end hand wants heard last (arrived.Got number value s) = wants ≡ true
IsPollAnswer terms end hand wants heard last (arrived.Pass number s) = wants ≡ true
IsPollAnswer terms end hand wants heard last (arrived.Reply number answer s) =
    (wants ≡ true) × (terms.requests ≡ true) × (number ≡ least_open (offers_of end)) × (awaits_reply end ≡ true)
IsPollAnswer terms end hand wants heard last arrived.Nothing = MissesNothing end hand wants
IsPollAnswer terms end hand wants heard last arrived.NotYet = MissesNothing end hand wants × (is_peer end ≡ true) × (wants ≡ true)
IsPollAnswer terms end hand wants heard last arrived.ClockFull =
    (stamp_after last heard ≡ None) × (is_peer end ≡ true → wants ≡ true)

-- ---- all stamps are used

abbrev pub is_full_offering : Offering Payload → Bool
is_full_offering (Offered number s) = false
is_full_offering (NoRoom back) = false
is_full_offering (NotYet back) = false
is_full_offering (ClockFull back) = true

abbrev pub is_full_withdrawal : Withdrawing → Bool
is_full_withdrawal (withdraw.Withdrawn s) = false
is_full_withdrawal (withdraw.Taken s) = false
is_full_withdrawal withdraw.ClockFull = true

abbrev pub is_full_arrival : Arrived → Bool
is_full_arrival (arrived.Know number s) = false
is_full_arrival (arrived.Room number s) = false
is_full_arrival (arrived.Got number value s) = false
is_full_arrival (arrived.Pass number s) = false
is_full_arrival (arrived.Reply number answer s) = false
is_full_arrival arrived.Nothing = false
is_full_arrival arrived.NotYet = false
is_full_arrival arrived.ClockFull = true
