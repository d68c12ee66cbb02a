-- What a worker has done with its disk, by the payloads that it has taken out of its links.
use Rattle.std.specs.Prelude.{◌≡◌, ℕ, List, [], length, map, Option, Some, IfSome, true, false, slice_get}
use mathlib.Core.List.{IsPrefix}
use Rattle.ac_base.specs.declared.entry.Payload.{Payload}
use Rattle.ac_base.specs.declared.entry.Answer.{Answer}
use Rattle.ac_base.specs.declared.entry.Entry.{Entry}
use Rattle.ac_base.specs.declared.entry.Event.{Event}
use Rattle.ac_base.specs.declared.entry.Event.TheVariants.{Did}
use Rattle.stack_code.specs.Parts.{Parts}
use Rattle.ac_links.specs.declared.payloads.Terms.{Terms}
use Rattle.ac_links.specs.Order.{of_party}
use Rattle.ac_links.specs.Party.{LinkEnd}
use Rattle.ac_history.specs.Files.{padded, deeds_by}
use Rattle.ac_history.specs.Working.{WorkerDisk}
use Rattle.ac_outside.specs.Disks.{Held, DiskTold}
use Rattle.core_ports.specs.Ends.{offers_of}
use Rattle.core_ports.specs.PortsTold.{PortsTold}
use Rattle.file_ops.specs.Agreement.{is_own, files_of}
use Rattle.file_ops.specs.Counting.{AreCounted}
use Rattle.settled_run.specs.Ends.{owner_end}

-- ---- what was taken out

-- `got` tells of each request that was taken out of its link which it is
abbrev pub TellsPopped : (Event → Option Payload) → (ℕ → List Payload) → Type 0
TellsPopped got popped =
    (l n : ℕ) (answer : Answer) (payload : Payload) → slice_get (popped l) n ≡ Some payload → got (Did l n answer) ≡ Some payload

abbrev pub payloads_at : LinkEnd → List Payload
payloads_at end = map (λ o. o.payload) (offers_of end)

-- from each link of requests was taken what was offered there, from the first on, and from no other link anything
pub record ArePopped (code : Parts) (ports : ℕ → PortsTold) (popped : ℕ → List Payload) : Type 0 where
  pub offered : (l : ℕ) → is_own (length code.ends) (length code.entries) l ≡ true
      → IsPrefix (popped l) (payloads_at (owner_end code ports l))
  pub none : (l : ℕ) → is_own (length code.ends) (length code.entries) l ≡ false → popped l ≡ []

-- ---- the disk

-- from these files on it has served the journal of party p, which has these ends and got these requests; no file more is bound, and no
-- path leads elsewhere
pub record LeavesHeld (terms : ℕ → Terms) (p : ℕ) (ends : ℕ → LinkEnd) (entries : List Entry) (popped : ℕ → List Payload)
    (files : List (List ℕ)) (before left : Held) : Type 0 where
  pub served : (got : Event → Option Payload) → TellsPopped got popped
      → WorkerDisk terms p ends entries got (padded files) (files_of left)
  pub as_many : length left.files ≡ length before.files
  pub paths : map (λ f. f.name) left.files ≡ map (λ f. f.name) before.files
  pub others : left.found ≡ before.found

-- it was called for just what that journal says was done, and where it tells what it holds, it tells so after that
pub record HasServed (terms : ℕ → Terms) (p : ℕ) (ends : ℕ → LinkEnd) (entries : List Entry) (popped : ℕ → List Payload)
    (files : List (List ℕ)) (before after : DiskTold) : Type 0 where
  pub counted : (got : Event → Option Payload) → TellsPopped got popped
      → AreCounted before after (deeds_by got (of_party p entries))
  pub held : IfSome before.held (λ h. (left : Held) × (after.held ≡ Some left)
      × LeavesHeld terms p ends entries popped files h left)
