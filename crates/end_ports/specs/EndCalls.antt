-- What a call of the ports makes of the end of its link: it is the one call of that name of the end.
use Rattle.std.specs.Prelude.{◌≡◌, ℕ, ℤ, List, Bool, true, false, ◌&&◌}
use Rattle.ac_base.specs.declared.entry.Payload.{Payload}
use Rattle.ac_base.specs.declared.entry.Payload.TheVariants.{Int, Read, Write}
use Rattle.core_channels.specs.declared.answers.Arrived.{Arrived}
use Rattle.core_channels.specs.declared.answers.Arrived.TheVariants.{Nothing}
use Rattle.core_channels.specs.declared.answers.Learning.{Learning}
use Rattle.core_channels.specs.declared.answers.Offering.{Offering}
use Rattle.core_channels.specs.declared.answers.Receiving.{Receiving as Received}
use Rattle.core_channels.specs.declared.answers.Withdrawing.{Withdrawing}
use Rattle.core_ports.specs.Ends.{awaits_reply}
use Rattle.channel_ends.specs.Offers.{Offers}
use Rattle.channel_ends.specs.Learns.{Learns}
use Rattle.channel_ends.specs.Withdraws.{Withdraws}
use Rattle.channel_ends.specs.Receiving.{Receiving, Receives}
use Rattle.request_ends.specs.declared.asking.Replied.{Replied}
use Rattle.request_ends.specs.Asking.{Asking, end_of}
use Rattle.request_ends.specs.Requesting.{Requests, NotesOnly}
use Rattle.request_ends.specs.Answered.{Replies}
use Rattle.end_ports.specs.Held.{SendingAt, HeldEnd}
use Rattle.end_ports.specs.Held.HeldEnd.{OfSend, OfRecv, OfAsk, NotHeld}
use Rattle.end_ports.specs.Answers.{as_payload, learned_as, received_as, replied_as, is_quiet}

-- ---- offers: a channel is offered a message

abbrev pub OffersInt : SendingAt → ℕ → Payload → Offering Payload → SendingAt → Type 0
OffersInt s last (Int value) result t = (r : Offering (List ℤ)) × Offers s.end value last r t.end × (result ≡ as_payload r)
OffersInt s last (Read file from len) result t = ⊥
OffersInt s last (Write file from bytes) result t = ⊥

abbrev pub OffersAt : HeldEnd → ℕ → Payload → Offering Payload → HeldEnd → Type 0
OffersAt (OfSend s) last payload result (OfSend t) = OffersInt s last payload result t
OffersAt (OfSend s) last payload result (OfRecv t) = ⊥
OffersAt (OfSend s) last payload result (OfAsk t) = ⊥
OffersAt (OfSend s) last payload result NotHeld = ⊥
OffersAt (OfRecv r) last payload result t = ⊥
OffersAt (OfAsk a) last payload result (OfSend t) = ⊥
OffersAt (OfAsk a) last payload result (OfRecv t) = ⊥
OffersAt (OfAsk a) last payload result (OfAsk b) = Requests a.end payload last result b.end
OffersAt (OfAsk a) last payload result NotHeld = ⊥
OffersAt NotHeld last payload result t = ⊥

-- ---- withdrawals

abbrev pub WithdrawsAt : HeldEnd → ℕ → ℕ → Withdrawing → HeldEnd → Type 0
WithdrawsAt (OfSend s) number last result (OfSend t) = Withdraws s.end.notes number last result t.end.notes
WithdrawsAt (OfSend s) number last result (OfRecv t) = ⊥
WithdrawsAt (OfSend s) number last result (OfAsk t) = ⊥
WithdrawsAt (OfSend s) number last result NotHeld = ⊥
WithdrawsAt (OfRecv r) number last result t = ⊥
WithdrawsAt (OfAsk a) number last result (OfSend t) = ⊥
WithdrawsAt (OfAsk a) number last result (OfRecv t) = ⊥
WithdrawsAt (OfAsk a) number last result (OfAsk b) = Withdraws a.end.send.notes number last result b.end.send.notes
WithdrawsAt (OfAsk a) number last result NotHeld = ⊥
WithdrawsAt NotHeld number last result t = ⊥

-- ---- polls

-- a message is taken only where it is wanted
abbrev pub TakesWanted : Bool → Receiving (List ℤ) → ℕ → Arrived → Receiving (List ℤ) → Type 0
TakesWanted true old last result new = (r : Received (List ℤ)) × Receives old last r new × (result ≡ received_as r)
TakesWanted false old last result new = (result ≡ Nothing) × (new ≡ old)

-- and a reply where it is wanted and awaited
abbrev pub HasWanted : Bool → Asking → ℕ → Arrived → Asking → Type 0
HasWanted true old last result new = (r : Replied) × Replies old last r new × (result ≡ replied_as r)
HasWanted false old last result new = (result ≡ Nothing) × (new ≡ old)

-- it comes after what is to be learned
abbrev pub AfterLearning : Bool → Learning → Asking → ℕ → Bool → Arrived → Asking → Type 0
AfterLearning true r old last wants result new = HasWanted (wants && awaits_reply (end_of old)) old last result new
AfterLearning false r old last wants result new = (result ≡ learned_as r) × (new ≡ old)

pub record PollsRequests (old : Asking) (last : ℕ) (wants : Bool) (result : Arrived) (new : Asking) : Type 0 where
  pub learned : Learning
  pub then : Asking
  pub learns : Learns old.send.notes last learned then.send.notes
  pub only : NotesOnly old then
  pub after : AfterLearning (is_quiet learned) learned then last wants result new

abbrev pub PollsAt : HeldEnd → ℕ → Bool → Arrived → HeldEnd → Type 0
PollsAt (OfSend s) last wants result (OfSend t) = (r : Learning) × Learns s.end.notes last r t.end.notes × (result ≡ learned_as r)
PollsAt (OfSend s) last wants result (OfRecv t) = ⊥
PollsAt (OfSend s) last wants result (OfAsk t) = ⊥
PollsAt (OfSend s) last wants result NotHeld = ⊥
PollsAt (OfRecv r) last wants result (OfSend t) = ⊥
PollsAt (OfRecv r) last wants result (OfRecv t) = TakesWanted wants r.end last result t.end
PollsAt (OfRecv r) last wants result (OfAsk t) = ⊥
PollsAt (OfRecv r) last wants result NotHeld = ⊥
PollsAt (OfAsk a) last wants result (OfSend t) = ⊥
PollsAt (OfAsk a) last wants result (OfRecv t) = ⊥
PollsAt (OfAsk a) last wants result (OfAsk b) = PollsRequests a.end last wants result b.end
PollsAt (OfAsk a) last wants result NotHeld = ⊥
PollsAt NotHeld last wants result t = ⊥
