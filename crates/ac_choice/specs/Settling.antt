-- A relay as it is made, and what a settling of one of its ends leaves.
use Rattle.std.specs.Prelude.{◌≡◌, ℕ, ℤ, List, [], length, Some, None, slice_get}
use Rattle.channel_ends.specs.Sending.{Sending}
use Rattle.channel_ends.specs.Receiving.{Receiving}
use Rattle.channel_ends.specs.Settled.{AreEnds, AreSettled}
use Rattle.channel_ends.specs.Pairs.{IsSettledSend, IsSettledRecv}
use Rattle.ac_choice.specs.AnyOf.{IsLeft, SoAt}
use Rattle.ac_choice.specs.declared.answers.Tagged.{Tagged}
use Rattle.ac_choice.specs.Relaying.{Relaying}

-- nothing was decided at any end, and nothing taken out of its ring
abbrev pub HaveDecidedNone : List (Receiving ℤ) → Type 0
HaveDecidedNone ins = (k : ℕ) (r : Receiving ℤ) → slice_get ins k ≡ Some r → (r.peer.decisions ≡ []) × (r.popped ≡ [])

-- nothing was offered
abbrev pub HasOfferedNone : Sending Tagged → Type 0
HasOfferedNone s = (s.notes.offers ≡ []) × (s.payloads ≡ [])

-- a relay that has made no entry
abbrev pub new_relay : List (Receiving ℤ) → Sending Tagged → Relaying
new_relay ins out = record { ins = ins; out = out; held = None; first = 0; clock = 0 }

-- end k was settled with the end that sends to it
pub record SettlesEnd (old : Relaying) (k : ℕ) (send send' : Sending ℤ) (new : Relaying) : Type 0 where
  pub before : Receiving ℤ
  pub end : Receiving ℤ
  pub was : slice_get old.ins k ≡ Some before
  pub now : slice_get new.ins k ≡ Some end
  pub pair : AreEnds send' end
  pub sends : IsSettledSend send send'
  pub receives : IsSettledRecv before end
  pub settled : AreSettled send' end
  pub count : length new.ins ≡ length old.ins
  pub others : (i : ℕ) → (i ≡ k → ⊥) → SoAt IsLeft old.ins i new.ins
  pub only : new ≡ record old { ins = new.ins }

-- the end on which it offers was settled with the end that receives from it
pub record SettlesOut (old : Relaying) (recv recv' : Receiving Tagged) (new : Relaying) : Type 0 where
  pub pair : AreEnds new.out recv'
  pub sends : IsSettledSend old.out new.out
  pub receives : IsSettledRecv recv recv'
  pub settled : AreSettled new.out recv'
  pub only : new ≡ record old { out = new.out }
