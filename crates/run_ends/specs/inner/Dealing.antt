-- The channels that are dealt.
use Rattle.std.specs.Prelude.{◌≡◌, ℕ, ◌<◌, ◌≤◌, List, [], Some, None, ◌==◌, if◌then◌else◌, slice_get}
use Rattle.ac_base.specs.declared.entry.Payload.{Payload}
use Rattle.stack_code.specs.declared.parts.ChannelEnds.{ChannelEnds}
use Rattle.channel_ends.specs.Receiving.{Receiving}
use Rattle.request_ends.specs.Asking.{Asking}
use Rattle.request_ends.specs.Replying.{Replying}
use Rattle.end_ports.specs.Held.{SendingAt, ReceivingAt}
use Rattle.end_ports.specs.OnLinks.{sent_on, received_on}
use Rattle.run_ends.specs.inner.Hands.{Handed, sends_at, recvs_at}
use Rattle.run_ends.specs.inner.NewEnds.{IsNewChannel, AreNewRequests}

-- of channel l the one core has the sending end, the other the receiving one, and no other core has an end of it
pub record IsDealt (capacity l : ℕ) (e : ChannelEnds) (hands : List Handed) : Type 0 where
  pub send : SendingAt
  pub recv : ReceivingAt
  pub new : IsNewChannel capacity l send recv
  pub sends : (k : ℕ) → sent_on (sends_at hands k) l ≡ (if e.from == k then Some send else None)
  pub recvs : (k : ℕ) → received_on (recvs_at hands k) l ≡ (if e.to == k then Some recv else None)

-- the channels below n are dealt, and of the others no core has an end
pub record AreDealtBelow (ends : List ChannelEnds) (capacities : List ℕ) (n : ℕ) (hands : List Handed) : Type 0 where
  pub each : (l c : ℕ) (e : ChannelEnds) → l < n → slice_get ends l ≡ Some e → slice_get capacities l ≡ Some c → IsDealt c l e hands
  pub no_sends : (k l : ℕ) → n ≤ l → sent_on (sends_at hands k) l ≡ None
  pub no_recvs : (k l : ℕ) → n ≤ l → received_on (recvs_at hands k) l ≡ None

-- no core has an end of a channel
abbrev pub HaveNone : List Handed → Type 0
HaveNone hands = (k : ℕ) → (sends_at hands k ≡ []) × (recvs_at hands k ≡ [])

-- those at each place of the three lists are of one core's requests
abbrev pub AreAllNew : List Asking → List (Receiving Payload) → List Replying → Type 0
AreAllNew asks recvs ends = (k : ℕ) (a : Asking) (r : Receiving Payload) (e : Replying)
    → slice_get asks k ≡ Some a → slice_get recvs k ≡ Some r → slice_get ends k ≡ Some e → AreNewRequests a r e

-- nothing was asked
abbrev pub AsksNothing : Handed → Type 0
AsksNothing h = (h.ask.send.notes.offers ≡ []) × (h.ask.send.notes.heard ≡ []) × (h.ask.send.payloads ≡ [])
