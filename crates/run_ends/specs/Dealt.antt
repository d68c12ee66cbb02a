-- The ends of all links of a code as its cores and its worker are dealt them.
use Rattle.std.specs.Prelude.{◌≡◌, ◌≢◌, ℕ, ◌+◌, ◌<◌, List, [], length, Some, false, slice_get}
use Rattle.ac_base.specs.declared.entry.Payload.{Payload}
use Rattle.ac_links.specs.Party.{LinkEnd}
use Rattle.ac_links.specs.Party.LinkEnd.{Owns, Decides, Absent}
use Rattle.core_channels.specs.LinkViews.{terms_at}
use Rattle.completion_word.specs.Link.{new_peer}
use Rattle.stack_code.specs.declared.parts.ChannelEnds.{ChannelEnds}
use Rattle.core_ports.specs.declared.side.Side.{Side}
use Rattle.core_ports.specs.declared.side.Side.TheVariants.{Owner, Peer, Neither}
use Rattle.core_ports.specs.Sides.{side_of}
use Rattle.channel_ends.specs.Receiving.{Receiving}
use Rattle.channel_ends.specs.Settled.{AreEnds}
use Rattle.request_ends.specs.Replying.{Replying}
use Rattle.end_ports.specs.Held.{Held}
use Rattle.end_ports.specs.PortsTold.{told_of}
use Rattle.end_ports.specs.SettledLinks.{HavePair}

-- two of so many cores
abbrev pub IsBetween : ℕ → ChannelEnds → Type 0
IsBetween cores e = (e.from < cores) × (e.to < cores) × (e.from ≢ e.to)

-- a core's end of a link on which nothing was done
abbrev pub new_end : Side → LinkEnd
new_end Owner = Owns []
new_end Peer = Decides []
new_end Neither = Absent

-- the ports of a core hold its end of each link, and nothing was done or heard on any
pub record HasItsEnds (channels : List ChannelEnds) (capacities : List ℕ) (core : ℕ) (h : Held) : Type 0 where
  pub ends : (l : ℕ) → (told_of h).ends l ≡ new_end (side_of channels core l)
  pub terms : (l : ℕ) → side_of channels core l ≢ Neither → (told_of h).terms l ≡ terms_at (length channels) capacities l
  pub heard : (l : ℕ) → (told_of h).heard l ≡ 0
  pub decision : (l : ℕ) → ((told_of h).at_hand l).decision ≡ false
  pub front : (l : ℕ) → ((told_of h).at_hand l).front ≡ false
  pub reply : (l : ℕ) → ((told_of h).at_hand l).reply ≡ false
  pub polls : (l : ℕ) → (told_of h).polls l ≡ 0
  pub tries : (l : ℕ) → (told_of h).tries l ≡ 0
  pub full : h.full ≡ false

-- the link of a core's requests and the ring of its replies: the core has the one end of each, and the worker the other
pub record HasRequests (link : ℕ) (h : Held) (recv : Receiving Payload) (end : Replying) : Type 0 where
  pub asked : h.ask.link ≡ link
  pub ends : AreEnds h.ask.end.send recv
  pub places : recv.table.words ≡ 16
  pub peer : recv.peer ≡ new_peer
  pub popped : recv.popped ≡ []
  pub items : recv.items ≡ []
  pub ring : h.ask.end.ring ≡ end.ring
  pub replies : end.replies ≡ []
  pub free : end.free ≡ 16

-- all links, where the channels have these ends, and the links these capacities: the ports of each core, and the worker's ends of the links
-- of requests and of the rings of replies, by the numbers of the cores
pub record AreDealt (ends : List ChannelEnds) (capacities : List ℕ) (cores : ℕ) (ports : List Held) (asks : List (Receiving Payload))
    (replies : List Replying) : Type 0 where
  pub ports_count : length ports ≡ cores
  pub asks_count : length asks ≡ cores
  pub replies_count : length replies ≡ cores
  pub each : (k : ℕ) (h : Held) → slice_get ports k ≡ Some h → HasItsEnds ends capacities k h
  pub pairs : (l : ℕ) (e : ChannelEnds) (from to : Held) → slice_get ends l ≡ Some e → slice_get ports e.from ≡ Some from
      → slice_get ports e.to ≡ Some to → HavePair from to l
  pub requests : (k : ℕ) (h : Held) (recv : Receiving Payload) (end : Replying) → slice_get ports k ≡ Some h → slice_get asks k ≡ Some recv
      → slice_get replies k ≡ Some end → HasRequests (length ends + k) h recv end
