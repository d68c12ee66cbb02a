-- New ends of one link.
use Rattle.std.specs.Prelude.{◌≡◌, ℕ, []}
use Rattle.ac_base.specs.declared.entry.Payload.{Payload}
use Rattle.completion_word.specs.Link.{new_peer}
use Rattle.channel_ends.specs.Sending.{Sending, capacity_of}
use Rattle.channel_ends.specs.Receiving.{Receiving}
use Rattle.channel_ends.specs.Settled.{AreEnds}
use Rattle.request_ends.specs.Asking.{Asking}
use Rattle.request_ends.specs.Replying.{Replying}
use Rattle.end_ports.specs.Held.{SendingAt, ReceivingAt}

module _ {M : Type 0} where
  -- two ends of one pair of this many places, on which nothing was done
  pub record IsNewPair (capacity : ℕ) (send : Sending M) (recv : Receiving M) : Type 0 where
    pub ends : AreEnds send recv
    pub capacity_is : capacity_of send.notes ≡ capacity
    pub offers : send.notes.offers ≡ []
    pub heard : send.notes.heard ≡ []
    pub payloads : send.payloads ≡ []
    pub words : recv.table.words ≡ capacity
    pub peer : recv.peer ≡ new_peer
    pub popped : recv.popped ≡ []
    pub items : recv.items ≡ []

-- those of a channel
pub record IsNewChannel (capacity link : ℕ) (send : SendingAt) (recv : ReceivingAt) : Type 0 where
  pub pair : IsNewPair capacity send.end recv.end
  pub sends : send.link ≡ link
  pub receives : recv.link ≡ link
  pub polls : (send.polls ≡ 0) × (recv.polls ≡ 0)
  pub tries : send.tries ≡ 0

-- those of the requests of a core and of their replies
pub record AreNewRequests (ask : Asking) (recv : Receiving Payload) (end : Replying) : Type 0 where
  pub pair : IsNewPair 16 ask.send recv
  pub had : ask.replies ≡ []
  pub gathered : ask.gathered ≡ []
  pub items : ask.items ≡ []
  pub ring : ask.ring ≡ end.ring
  pub replies : end.replies ≡ []
  pub free : end.free ≡ 16
