-- What the answers of the calls on a link are to the journals of its two parties.
use Rattle.std.specs.Prelude.{◌≡◌, ℕ, ℤ, List, length, Option, Some, None, true, false, slice_get}
use Rattle.ac_base.specs.declared.entry.Payload.{Payload}
use Rattle.ac_base.specs.declared.entry.Answer.{Answer}
use Rattle.ac_base.specs.declared.entry.Entry.{Entry}
use Rattle.ac_base.specs.declared.entry.Event.{Event}
use Rattle.ac_base.specs.declared.entry.Event.TheVariants.{Offer, Withdraw, Know, Room, Got, Pass, Did, Reply}
use Rattle.ac_links.specs.declared.payloads.Terms.{Terms}
use Rattle.ac_base.specs.Stamps.{next_stamp}
use Rattle.ac_links.specs.Payloads.{is_payload}
use Rattle.ac_links.specs.Replies.{least_open}
use Rattle.ac_links.specs.Views.{may_withdraw}
use Rattle.ac_links.specs.Noted.{seen_of}
use Rattle.ac_links.specs.Journals.{last_of}
use Rattle.ac_links.specs.Party.{LinkEnd, end_after, MayEnter}
use Rattle.ac_links.specs.Party.LinkEnd.{Owns, Decides}
use Rattle.core_channels.specs.declared.answers.Offering.{Offering}
use Rattle.core_channels.specs.declared.answers.Offering.TheVariants.{Offered, NoRoom, NotYet, ClockFull}
use Rattle.core_channels.specs.declared.answers.Learning.{Learning}
use Rattle.core_channels.specs.declared.answers.Learning.TheVariants as learn
use Rattle.core_channels.specs.declared.answers.Withdrawing.{Withdrawing}
use Rattle.core_channels.specs.declared.answers.Withdrawing.TheVariants as withdraw
use Rattle.core_channels.specs.declared.answers.Receiving.{Receiving}
use Rattle.core_channels.specs.declared.answers.Receiving.TheVariants as take
use Rattle.core_channels.specs.LinkViews.{LinkViews, IsLink}
use Rattle.core_channels.specs.Offers.{offering, after_offering}
use Rattle.core_channels.specs.Learns.{learning, after_learning}
use Rattle.core_channels.specs.Withdraws.{withdrawing, after_withdrawing}
use Rattle.core_channels.specs.Requests.{did_stamp, after_doing, pass_stamp, after_passing, ReplyIsNext, after_reply}
use Rattle.core_channels.specs.Takes.{receiving, after_receiving}

-- the entry that an answer tells of: what it says has happened, and its stamp
pub record Told : Type 0 where
  pub event : Event
  pub stamp : ℕ

abbrev pub told_by_offering : ℕ → Payload → Offering Payload → Option Told
told_by_offering l payload (Offered number s) = Some (record { event = Offer l number payload; stamp = s })
told_by_offering l payload (NoRoom back) = None
told_by_offering l payload (NotYet back) = None
told_by_offering l payload (ClockFull back) = None

abbrev pub told_by_learning : ℕ → Learning → Option Told
told_by_learning l (learn.Know number s) = Some (record { event = Know l number; stamp = s })
told_by_learning l (learn.Room number s) = Some (record { event = Room l number; stamp = s })
told_by_learning l learn.Undecided = None
told_by_learning l learn.AllKnown = None
told_by_learning l learn.ClockFull = None

abbrev pub told_by_withdrawing : ℕ → ℕ → Withdrawing → Option Told
told_by_withdrawing l number (withdraw.Withdrawn s) = Some (record { event = Withdraw l number; stamp = s })
told_by_withdrawing l number (withdraw.Taken s) = Some (record { event = Know l number; stamp = s })
told_by_withdrawing l number withdraw.ClockFull = None

abbrev pub told_by_receiving : ℕ → Receiving (List ℤ) → Option Told
told_by_receiving l (take.Took number value s) = Some (record { event = Got l number value; stamp = s })
told_by_receiving l (take.Passed number s) = Some (record { event = Pass l number; stamp = s })
told_by_receiving l take.Nothing = None
told_by_receiving l take.NotYet = None
told_by_receiving l take.ClockFull = None

-- the party may make the entry that was told, which answers what the link's two views tell, and its end of the link is then this one;
-- where none was told its end is as it was
abbrev pub Enters : (ℕ → Terms) → (ℕ → LinkEnd) → List Entry → ℕ → ℕ → LinkViews → Option Told → LinkEnd → Type 0
Enters terms ends j turn l v None end = end ≡ ends l
Enters terms ends j turn l v (Some t) end =
    MayEnter terms ends j (record { stamp = t.stamp; turn = turn; event = t.event }) (seen_of v.offers v.decisions t.event)
    × (end_after (ends l) t.stamp (seen_of v.offers v.decisions t.event) t.event ≡ end)

-- ---- for a party whose last entry has the clock's stamp, and which holds this end of the link

abbrev pub OfferEnters : Type 0
OfferEnters = (terms : ℕ → Terms) (ends : ℕ → LinkEnd) (j : List Entry) (turn l : ℕ) (v : LinkViews) (payload : Payload)
    → terms l ≡ v.terms → ends l ≡ Owns v.offers → is_payload v.terms.requests payload ≡ true
    → Enters terms ends j turn l v (told_by_offering l payload (offering v payload (last_of 0 j)))
    (Owns (after_offering v payload (offering v payload (last_of 0 j))).offers)

abbrev pub LearningEnters : Type 0
LearningEnters = (terms : ℕ → Terms) (ends : ℕ → LinkEnd) (j : List Entry) (turn l : ℕ) (v : LinkViews)
    → terms l ≡ v.terms → ends l ≡ Owns v.offers
    → Enters terms ends j turn l v (told_by_learning l (learning v (last_of 0 j)))
    (Owns (after_learning v (learning v (last_of 0 j))).offers)

abbrev pub WithdrawalEnters : Type 0
WithdrawalEnters = (terms : ℕ → Terms) (ends : ℕ → LinkEnd) (j : List Entry) (turn l number : ℕ) (v : LinkViews)
    → terms l ≡ v.terms → ends l ≡ Owns v.offers → may_withdraw (slice_get v.offers number) ≡ true
    → Enters terms ends j turn l v (told_by_withdrawing l number (withdrawing v number (last_of 0 j)))
    (Owns (after_withdrawing v number (withdrawing v number (last_of 0 j))).offers)

abbrev pub TakeEnters : Type 0
TakeEnters = (terms : ℕ → Terms) (ends : ℕ → LinkEnd) (j : List Entry) (turn l : ℕ) (v : LinkViews)
    → terms l ≡ v.terms → ends l ≡ Decides v.decisions → v.terms.requests ≡ false
    → Enters terms ends j turn l v (told_by_receiving l (receiving v (last_of 0 j)))
    (Decides (after_receiving v (receiving v (last_of 0 j))).decisions)

-- ---- on a link of requests

abbrev pub told_by_doing : ℕ → LinkViews → Answer → ℕ → Told
told_by_doing l v answer last = record { event = Did l (length v.decisions) answer; stamp = did_stamp v last }

abbrev pub told_by_passing : ℕ → LinkViews → ℕ → Told
told_by_passing l v last = record { event = Pass l (length v.decisions); stamp = pass_stamp v last }

-- the owner's entry has the next stamp after that of the entry by which the request was done
abbrev pub told_by_reply : ℕ → LinkViews → Answer → ℕ → ℕ → Told
told_by_reply l v answer of last = record { event = Reply l (least_open v.offers) answer; stamp = next_stamp last of }

abbrev pub DidEnters : Type 0
DidEnters = (terms : ℕ → Terms) (ends : ℕ → LinkEnd) (j : List Entry) (turn l : ℕ) (v : LinkViews) (answer : Answer)
    → terms l ≡ v.terms → ends l ≡ Decides v.decisions → v.terms.requests ≡ true
    → Enters terms ends j turn l v (Some (told_by_doing l v answer (last_of 0 j))) (Decides (after_doing v answer (last_of 0 j)).decisions)

abbrev pub PassEnters : Type 0
PassEnters = (terms : ℕ → Terms) (ends : ℕ → LinkEnd) (j : List Entry) (turn l : ℕ) (v : LinkViews)
    → terms l ≡ v.terms → ends l ≡ Decides v.decisions
    → Enters terms ends j turn l v (Some (told_by_passing l v (last_of 0 j))) (Decides (after_passing v (last_of 0 j)).decisions)

abbrev pub ReplyEnters : Type 0
ReplyEnters = (terms : ℕ → Terms) (ends : ℕ → LinkEnd) (j : List Entry) (turn l : ℕ) (v : LinkViews) (answer : Answer) (of : ℕ)
    → terms l ≡ v.terms → ends l ≡ Owns v.offers → IsLink v → v.terms.requests ≡ true → ReplyIsNext v answer of
    → Enters terms ends j turn l v (Some (told_by_reply l v answer of (last_of 0 j))) (Owns (after_reply v answer of).offers)
