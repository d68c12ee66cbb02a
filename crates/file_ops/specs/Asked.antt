-- How a disk is asked for what a request wants, and what its answer shows.
use Rattle.std.specs.Prelude.{◌≡◌, ◌≤◌, ℕ, List, map, Bool, true, false, None, Some, IfSome, nat_lt}
use Rattle.ac_base.specs.declared.entry.Payload.{Payload}
use Rattle.ac_base.specs.declared.entry.Payload.TheVariants.{Int, Read, Write}
use Rattle.ac_base.specs.declared.entry.Answer.{Answer}
use Rattle.ac_base.specs.declared.entry.Answer.TheVariants.{Bytes, Count, Fault}
use Rattle.ac_links.specs.Payloads.{answer_fits}
use Rattle.ac_history.specs.Files.{bytes_in, serves}
use Rattle.ac_outside.specs.Causes.{Rose}
use Rattle.ac_outside.specs.Disks.{Held, DiskTold, BindsNone, called, with_written}

-- ---- what a request is about

abbrev pub file_of : Payload → ℕ
file_of (Int v) = 0
file_of (Read f a n) = f
file_of (Write f a b) = f

-- its file is bound
abbrev pub is_of_bound : ℕ → Payload → Bool
is_of_bound bound payload = nat_lt (file_of payload) bound

abbrev pub is_fault : Answer → Bool
is_fault (Bytes b) = false
is_fault (Count n) = false
is_fault (Fault j) = true

-- ---- one call

-- the bytes of the bound files
abbrev pub texts : Held → List (List ℕ)
texts held = map (λ f. f.bytes) held.files

-- what a disk holds after the call by which a request had this answer
abbrev pub held_after : Held → Payload → Answer → Held
held_after held (Int v) answer = held
held_after held (Read f a n) answer = called held
held_after held (Write f a b) answer = with_written held f a (bytes_in answer b)

-- the count of faults rose where the answer is FAULT, and stayed where it is not
abbrev pub FaultIsDue : Bool → ℕ → ℕ → Type 0
FaultIsDue true before after = Rose before after
FaultIsDue false before after = after ≡ before

-- the disk gave the answer in one call: it fits the request, a read is given what stands there, and a write writes what it tells
pub record Called (before after : DiskTold) (payload : Payload) (answer : Answer) : Type 0 where
  pub fits : answer_fits answer payload ≡ true
  pub none : BindsNone before after
  pub held : IfSome before.held (λ h. after.held ≡ Some (held_after h payload answer))
  pub silent : before.held ≡ None → after.held ≡ None
  pub serves' : IfSome before.held (λ h. serves (texts h) payload answer ≡ true)
  pub later : before.faults ≤ after.faults
  pub cause : FaultIsDue (is_fault answer) before.faults after.faults

-- ---- a request

-- of a bound file it is one call, and of another it is none and FAULT
abbrev pub AskedBy : Bool → DiskTold → DiskTold → Payload → Answer → Type 0
AskedBy true before after payload answer = Called before after payload answer
AskedBy false before after payload answer = (after ≡ before) × (answer ≡ Fault 0)

abbrev pub Asked : DiskTold → DiskTold → Payload → Answer → Type 0
Asked before after payload answer = AskedBy (is_of_bound before.bound payload) before after payload answer
