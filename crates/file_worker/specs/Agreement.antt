-- When the worker's journal agrees with its ends, and the disk with what was done.
use Rattle.std.specs.Prelude.{◌≡◌, ◌≤◌, ℕ, ◌+◌, List, length, Option, Some, true, slice_get}
use Rattle.std.specs.List.{AllByRecursion}
use Rattle.ac_base.specs.declared.entry.Payload.{Payload}
use Rattle.ac_base.specs.declared.entry.Answer.{Answer}
use Rattle.ac_base.specs.declared.entry.Event.{Event}
use Rattle.ac_base.specs.declared.entry.Event.TheVariants.{Did}
use Rattle.ac_links.specs.declared.payloads.Terms.{Terms}
use Rattle.ac_links.specs.Order.{of_party}
use Rattle.ac_links.specs.Party.{PartyAgrees}
use Rattle.ac_history.specs.Files.{Deed, contents, IsServed, deeds_by}
use Rattle.ac_outside.specs.Disks.{Held, DiskTold}
use Rattle.file_ops.specs.Agreement.{files_of}
use Rattle.file_ops.specs.Counting.{AreCounted}
use Rattle.file_worker.specs.Ends.{CoreEnds, AtDesk, AreAnswered, worker_ends}

-- its journal, as that of the party after its cores, agrees with its ends, whatever else the links carry; its entries are of turn 0; and
-- on the ring of each core are the answers to the requests that were taken
pub record WorkerAgrees (w : AtDesk) : Type 0 where
  pub journal : (terms : ℕ → Terms) → ((l : ℕ) → w.first ≤ l → (terms l).requests ≡ true)
      → PartyAgrees terms (length w.ends) (worker_ends w.first w.ends) w.entries
  pub turns : AllByRecursion (λ e. e.entry.turn ≡ 0) (of_party (length w.ends) w.entries)
  pub answered : (c : ℕ) (e : CoreEnds) → slice_get w.ends c ≡ Some e → AreAnswered e.ask.popped e.ask.peer.decisions e.reply.replies

-- ---- the disk

-- a worker with what its disk tells
pub record Seen : Type 0 where
  pub desk : AtDesk
  pub told : DiskTold

-- `got` tells of each request that was taken which it is
abbrev pub TellsTaken : (Event → Option Payload) → AtDesk → Type 0
TellsTaken got w = (c n : ℕ) (answer : Answer) (e : CoreEnds) (x : Payload) → slice_get w.ends c ≡ Some e
    → slice_get e.ask.popped n ≡ Some x → got (Did (w.first + c) n answer) ≡ Some x

-- what the worker has done
abbrev pub deeds_of : ℕ → (Event → Option Payload) → AtDesk → List Deed
deeds_of p got w = deeds_by got (of_party p w.entries)

-- since the disk told `begun` it was called once for each request of a bound file that was done, and no more
pub record IsCounted (p : ℕ) (got : Event → Option Payload) (begun : DiskTold) (s : Seen) : Type 0 where
  pub bound : s.told.bound ≡ begun.bound
  pub counted : AreCounted begun s.told (deeds_of p got s.desk)

-- the disk tells that it holds this, and from these files on it has served what was done
pub record DiskServes (p : ℕ) (got : Event → Option Payload) (start : List (List ℕ)) (s : Seen) (held : Held) : Type 0 where
  pub tells : s.told.held ≡ Some held
  pub count : s.told.bound ≡ length held.files
  pub served : IsServed start (deeds_of p got s.desk)
  pub files : files_of held ≡ contents start (deeds_of p got s.desk)
