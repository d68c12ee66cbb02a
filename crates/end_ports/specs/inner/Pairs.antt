-- Settling of two ends that stand in lists.
use Rattle.std.specs.Prelude.{◌≡◌, ℕ, List, Some, slice_get, slice_set}
use Rattle.channel_ends.specs.Settled.{AreEnds}
use Rattle.end_ports.specs.Held.{SendingAt, ReceivingAt, IsSameSendAt, IsSameRecvAt}
use Rattle.end_ports.specs.OnLinks.{on_send, on_recv}
use Rattle.end_ports.specs.SettledLinks.{IsQuiet, IsSettled}

-- two ends of one pair
pub record SettlesPair (s : SendingAt) (r : ReceivingAt) (s' : SendingAt) (r' : ReceivingAt) : Type 0 where
  pub pair : AreEnds s'.end r'.end
  pub send : IsQuiet (on_send s) (on_send s')
  pub recv : IsQuiet (on_recv r) (on_recv r')
  pub same_send : IsSameSendAt s s'
  pub same_recv : IsSameRecvAt r r'
  pub link : IsSettled (on_send s') (on_recv r')

-- that at the one place of the one list, and that at the other of the other
pub record SettlesAt (sends : List SendingAt) (at : ℕ) (recvs : List ReceivingAt) (to : ℕ) (sends' : List SendingAt)
    (recvs' : List ReceivingAt) : Type 0 where
  pub send : SendingAt
  pub send' : SendingAt
  pub recv : ReceivingAt
  pub recv' : ReceivingAt
  pub sent : slice_get sends at ≡ Some send
  pub received : slice_get recvs to ≡ Some recv
  pub sends_are : sends' ≡ slice_set sends at send'
  pub recvs_are : recvs' ≡ slice_set recvs to recv'
  pub settles : SettlesPair send recv send' recv'
