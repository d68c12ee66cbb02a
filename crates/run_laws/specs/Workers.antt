-- The worker as it is seen from outside, when it agrees with the links of its run, and when it rests on them.
use Rattle.std.specs.Prelude.{◌≡◌, ◌⊎◌, ℕ, ◌<◌, ◌≤◌, List, length, None}
use Rattle.std.specs.List.{AllByRecursion}
use Rattle.ac_base.specs.declared.entry.Entry.{Entry}
use Rattle.ac_base.specs.Stamps.{stamp_after}
use Rattle.stack_code.specs.Parts.{Parts}
use Rattle.ac_links.specs.Journals.{last_of}
use Rattle.ac_links.specs.Party.{PartyAgrees}
use Rattle.core_channels.specs.LinkViews.{LinkViews, link_at}
use Rattle.core_ports.specs.declared.side.Side.TheVariants.{Peer}
use Rattle.file_ops.specs.Agreement.{worker_ends}
use Rattle.run_laws.specs.Hands.{heard_at}
use Rattle.run_laws.specs.Network.{terms_in, offers_in, decisions_in}

-- the worker is the party after the cores, and its journal has what was done at its end of each link of requests, in turn 0
pub record WorkerAgreesWith (code : Parts) (entries : List Entry) (links : List LinkViews) : Type 0 where
  pub party : PartyAgrees (terms_in links) (length code.entries) (worker_ends (length code.ends) (length code.entries) links) entries
  pub turns : AllByRecursion (λ e. e.turn ≡ 0) entries

-- it has done or passed each request
abbrev pub WorkerRests : Parts → List LinkViews → Type 0
WorkerRests code links = (l : ℕ) → length code.ends ≤ l → l < length code.capacities → length (offers_in links l) ≤ length
    (decisions_in links l)

-- no stamp is left to it for an entry that answers the greatest that it has heard of on some link
pub record WorkerHasNoStamp (entries : List Entry) (links : List LinkViews) : Type 0 where
  pub link : ℕ
  pub full : stamp_after (last_of 0 entries) (heard_at (link_at links link) Peer) ≡ None

-- it can go on no further
abbrev pub WorkerIsDone : Parts → List Entry → List LinkViews → Type 0
WorkerIsDone code entries links = WorkerRests code links ⊎ WorkerHasNoStamp entries links
