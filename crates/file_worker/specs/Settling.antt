-- What the settling of one core's ends with the worker's makes of them.
use Rattle.std.specs.Prelude.{◌≡◌, ℕ, ◌<◌, Some, slice_get, slice_set}
use Rattle.channel_ends.specs.Pairs.{IsSettledSend, IsSettledRecv}
use Rattle.channel_ends.specs.Settled.{AreEnds, AreSettled, MakeALink}
use Rattle.request_ends.specs.Asking.{Asking, requests_of, IsSameAsk}
use Rattle.request_ends.specs.Replying.{HasLooked}
use Rattle.request_ends.specs.Answered.{HasAllReplies}
use Rattle.end_ports.specs.Held.{AskingAt}
use Rattle.end_ports.specs.OnLinks.{on_ask}
use Rattle.end_ports.specs.SettledLinks.{IsSettledAsk}
use Rattle.file_worker.specs.Ends.{CoreEnds, AtDesk}

-- the ends are those of this core
abbrev pub MaySettle : ℕ → AtDesk → Asking → Type 0
MaySettle core w ask = (e : CoreEnds) → slice_get w.ends core ≡ Some e → AreEnds ask.send e.ask × (ask.ring ≡ e.reply.ring)

-- the lists of all are as they were
pub record AskSettles (ask : Asking) (e : CoreEnds) (ask' : Asking) (e' : CoreEnds) : Type 0 where
  pub pair : AreEnds ask'.send e'.ask
  pub send : IsSettledSend ask.send ask'.send
  pub recv : IsSettledRecv e.ask e'.ask
  pub list : requests_of ask' ≡ requests_of ask
  pub same : IsSameAsk ask ask'
  pub replies : ask'.replies ≡ ask.replies
  pub end : HasLooked e.reply e'.reply

-- nothing else of the worker changes
pub record SettlesCore (core : ℕ) (old : AtDesk) (ask : Asking) (new : AtDesk) (ask' : Asking) : Type 0 where
  pub before : CoreEnds
  pub after : CoreEnds
  pub was : slice_get old.ends core ≡ Some before
  pub is : new ≡ record old { ends = slice_set old.ends core after }
  pub ends : AskSettles ask before ask' after

-- what each end of this core knows is told exactly, its list and the worker's are one link, all its replies have come, and all that there
-- is is at hand for it
pub record AskIsSettled (ask : AskingAt) (e : CoreEnds) : Type 0 where
  pub settled : AreSettled ask.end.send e.ask
  pub link : MakeALink ask.end.send e.ask
  pub replies : HasAllReplies ask.end e.reply
  pub places : 0 < ask.end.places
  pub told : IsSettledAsk ask e.ask e.reply

abbrev pub IsSettledWith : ℕ → AtDesk → AskingAt → Type 0
IsSettledWith core w ask = (e : CoreEnds) → slice_get w.ends core ≡ Some e → AskIsSettled ask e

-- after want of memory what is at hand for the core is as it was, and so is the worker's end of its requests
pub record LeavesAtHand (core : ℕ) (old : AtDesk) (ask : AskingAt) (new : AtDesk) (ask' : AskingAt) : Type 0 where
  pub hand : (on_ask ask').hand ≡ (on_ask ask).hand
  pub taken : (e e' : CoreEnds) → slice_get old.ends core ≡ Some e → slice_get new.ends core ≡ Some e' → e'.ask ≡ e.ask
