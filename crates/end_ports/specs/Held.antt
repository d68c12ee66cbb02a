-- What contracts see of the ports of a core: the end of each link that it holds, with counts of the calls on it.
use Rattle.std.specs.Prelude.{◌≡◌, ℕ, ℤ, List, Bool}
use Rattle.channel_ends.specs.Sending.{Sending}
use Rattle.channel_ends.specs.Receiving.{Receiving}
use Rattle.request_ends.specs.Asking.{Asking, IsSameAsk}
use Rattle.channel_ends.specs.Pairs.{IsSameSend, IsSameRecv}

-- a channel on which the core sends: how often it was polled, and how often an offer was tried
pub record SendingAt : Type 0 where
  pub link : ℕ
  pub end : Sending (List ℤ)
  pub polls : ℕ
  pub tries : ℕ

-- a channel on which it receives
pub record ReceivingAt : Type 0 where
  pub link : ℕ
  pub end : Receiving (List ℤ)
  pub polls : ℕ

-- the link of its requests
pub record AskingAt : Type 0 where
  pub link : ℕ
  pub end : Asking
  pub polls : ℕ
  pub tries : ℕ
  -- no entry was made on it since the last settling: for one more request there is then a slot and a place wherever there is room
  pub settled : Bool

-- the end that a core has of a link
pub data HeldEnd : Type 0 where
  OfSend : (s : SendingAt) → HeldEnd
  OfRecv : (r : ReceivingAt) → HeldEnd
  OfAsk : (a : AskingAt) → HeldEnd
  NotHeld : HeldEnd

-- all of them, and whether a call has answered that all stamps are used
pub record Held : Type 0 where
  pub sends : List SendingAt
  pub recvs : List ReceivingAt
  pub ask : AskingAt
  pub full : Bool

-- it is still the end of the same pair, under the same link
pub record IsSameSendAt (old new : SendingAt) : Type 0 where
  pub link : new.link ≡ old.link
  pub end : IsSameSend old.end new.end

pub record IsSameRecvAt (old new : ReceivingAt) : Type 0 where
  pub link : new.link ≡ old.link
  pub end : IsSameRecv old.end new.end

pub record IsSameAskAt (old new : AskingAt) : Type 0 where
  pub link : new.link ≡ old.link
  pub end : IsSameAsk old.end new.end
