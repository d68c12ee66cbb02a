-- What a call on one link makes of what is told of that link.
use Rattle.std.specs.Prelude.{◌≡◌, ℕ, Option, Some, None, true, Bool, ◌&&◌, IfNone}
use Rattle.ac_base.specs.declared.entry.Payload.{Payload}
use Rattle.ac_base.specs.Stamps.{next_stamp}
use Rattle.ac_links.specs.declared.payloads.Terms.{Terms}
use Rattle.ac_links.specs.Link.{link_of}
use Rattle.ac_links.specs.Party.{LinkEnd, end_fits, end_after, end_noted}
use Rattle.core_channels.specs.declared.answers.Arrived.{Arrived}
use Rattle.core_channels.specs.declared.answers.Offering.{Offering}
use Rattle.core_channels.specs.declared.answers.Withdrawing.{Withdrawing}
use Rattle.core_channels.specs.Counts.{counted}
use Rattle.core_channels.specs.Laws.{Told, told_by_offering, told_by_withdrawing}
use Rattle.core_ports.specs.Answers.{IsOfferAnswer, IsWithdrawalAnswer, IsPollAnswer}
use Rattle.core_ports.specs.Tells.{told_by_arrival}
use Rattle.core_ports.specs.Ends.{awaits_reply}
use Rattle.request_ends.specs.Asking.{end_of}
use Rattle.end_ports.specs.Held.{AskingAt, HeldEnd}
use Rattle.end_ports.specs.OnLinks.{OnLink, on_ask, told_by}
use Rattle.end_ports.specs.EndCalls.{OffersAt, WithdrawsAt, PollsAt, HasWanted}

-- the party may make the entry at this end of link l, which leaves the other end
pub record TellsOneAt (terms : Terms) (before : LinkEnd) (l last : ℕ) (t : Told) (after : LinkEnd) (now : ℕ) : Type 0 where
  pub link : link_of t.event ≡ l
  pub answers : ℕ
  pub fits : end_fits terms before t.event ≡ true
  pub next : t.stamp ≡ next_stamp last answers
  pub noted : answers ≡ end_noted after t.event
  pub end : after ≡ end_after before t.stamp answers t.event
  pub clock : now ≡ t.stamp

abbrev pub TellsAt : Terms → LinkEnd → ℕ → ℕ → Option Told → LinkEnd → ℕ → Type 0
TellsAt terms before l last None after now = (after ≡ before) × (now ≡ last)
TellsAt terms before l last (Some t) after now = TellsOneAt terms before l last t after now

-- the end and the clock are as the entry leaves them; and without one what is at hand stays
pub record Serves (old : OnLink) (l last : ℕ) (told : Option Told) (new : OnLink) (now : ℕ) : Type 0 where
  pub terms : new.terms ≡ old.terms
  pub tells : TellsAt old.terms old.end l last told new.end now
  pub hand : IfNone told (new.hand ≡ old.hand)

pub record OffersOn (old : HeldEnd) (l last : ℕ) (payload : Payload) (result : Offering Payload) (new : HeldEnd) (now : ℕ) : Type 0 where
  pub answer : IsOfferAnswer (told_by old).terms (told_by old).end (told_by old).hand last payload result
  pub serves : Serves (told_by old) l last (told_by_offering l payload result) (told_by new) now
  pub polls : (told_by new).polls ≡ (told_by old).polls
  pub tries : (told_by new).tries ≡ counted (told_by old).tries
  pub exact : OffersAt old last payload result new

pub record WithdrawsOn (old : HeldEnd) (l last number : ℕ) (result : Withdrawing) (new : HeldEnd) (now : ℕ) : Type 0 where
  pub answer : IsWithdrawalAnswer (told_by new).heard last result
  pub serves : Serves (told_by old) l last (told_by_withdrawing l number result) (told_by new) now
  pub polls : (told_by new).polls ≡ (told_by old).polls
  pub tries : (told_by new).tries ≡ (told_by old).tries
  pub exact : WithdrawsAt old number last result new

pub record PollsOn (old : HeldEnd) (l last : ℕ) (wants : Bool) (result : Arrived) (new : HeldEnd) (now : ℕ) : Type 0 where
  pub answer : IsPollAnswer (told_by old).terms (told_by old).end (told_by old).hand wants (told_by new).heard last result
  pub serves : Serves (told_by old) l last (told_by_arrival l result) (told_by new) now
  pub polls : (told_by new).polls ≡ counted (told_by old).polls
  pub tries : (told_by new).tries ≡ (told_by old).tries
  pub exact : PollsAt old last wants result new

-- a look for a reply, which is not counted
pub record LooksOn (old : AskingAt) (last : ℕ) (wants : Bool) (result : Arrived) (new : AskingAt) (now : ℕ) : Type 0 where
  pub answer : IsPollAnswer (on_ask old).terms (on_ask old).end (on_ask old).hand wants (on_ask new).heard last result
  pub serves : Serves (on_ask old) old.link last (told_by_arrival old.link result) (on_ask new) now
  pub polls : new.polls ≡ old.polls
  pub tries : new.tries ≡ old.tries
  pub exact : HasWanted (wants && awaits_reply (end_of old.end)) old.end last result new.end
