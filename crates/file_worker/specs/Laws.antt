-- What the worker's ends are to the law on links, and how calls follow one another.
use Rattle.std.specs.Prelude.{◌≡◌, ℕ, zero, suc, List, [], ◌∷◌, Option, Some, length}
use Rattle.ac_base.specs.declared.entry.Payload.{Payload}
use Rattle.ac_base.specs.declared.entry.Answer.{Answer}
use Rattle.ac_base.specs.declared.entry.Answer.TheVariants.{Count}
use Rattle.ac_base.specs.declared.entry.Event.{Event}
use Rattle.ac_links.specs.Payloads.{Taking}
use Rattle.ac_links.specs.Payloads.Taking.{Done}
use Rattle.ac_links.specs.Views.{Response}
use Rattle.ac_links.specs.Replies.{NoMessages, responses}
use Rattle.ac_outside.specs.Disks.{Held}
use Rattle.completion_word.specs.declared.views.Decision.{Decision}
use Rattle.channel_ends.specs.Settled.{AreTakenAs, peer_decisions}
use Rattle.request_ends.specs.Asking.{Asking}
use Rattle.file_ops.specs.Agreement.{files_of}
use Rattle.file_worker.specs.Ends.{AreAnswered, decisions_of, replies_left}
use Rattle.file_worker.specs.Agreement.{Seen, IsCounted, DiskServes}
use Rattle.file_worker.specs.Rounds.{GoesOn}
use Rattle.file_worker.specs.Settling.{SettlesCore}

-- the answer that stands first, or any where there is none
abbrev pub first_answer : List Response → Answer
first_answer [] = Count 0
first_answer (r ∷ rs) = r.answer

-- the answer that belongs to decision k, where it took its request
abbrev pub answer_at : List Decision → List Response → ℕ → Answer
answer_at [] rs k = Count 0
answer_at (d ∷ ds) rs zero = first_answer rs
answer_at (d ∷ ds) rs (suc k) = answer_at ds (replies_left d.outcome rs) k

abbrev pub taking_of : List Decision → List Response → ℕ → Payload → Taking
taking_of ds rs k x = Done (answer_at ds rs k)

-- the worker's decisions are those by which its end and a core's make a link, none takes a message, and what they give to be answered is
-- what stands on the ring
pub record AreViewed (popped : List Payload) (decisions : List Decision) (replies : List Response) : Type 0 where
  pub taken : AreTakenAs (λ x. x) (taking_of decisions replies) 0 popped decisions
  pub same : peer_decisions (taking_of decisions replies) 0 popped decisions ≡ decisions_of decisions replies
  pub requests : NoMessages (decisions_of decisions replies)
  pub on_ring : responses (decisions_of decisions replies) ≡ replies

abbrev pub DecisionsAreViews : Type 0
DecisionsAreViews = (popped : List Payload) (decisions : List Decision) (replies : List Response)
    → AreAnswered popped decisions replies → AreViewed popped decisions replies

-- what goes on from one to another, and from there to a third, goes on from the first to the third
abbrev pub CallsGoOn : Type 0
CallsGoOn = (s t u : Seen) → GoesOn s t → GoesOn t u → GoesOn s u

-- so does what is settled with a core: no entry is made, and the disk is not called
abbrev pub SettlingsGoOn : Type 0
SettlingsGoOn = (core : ℕ) (s t : Seen) (ask ask' : Asking) → SettlesCore core s.desk ask t.desk ask' → t.told ≡ s.told → GoesOn s t

-- a worker that has done nothing is counted from what its disk tells, and its disk has served from the files that it holds
abbrev pub StartsCounted : Type 0
StartsCounted = (p : ℕ) (got : Event → Option Payload) (s : Seen) → s.desk.entries ≡ [] → IsCounted p got s.told s

abbrev pub StartsServed : Type 0
StartsServed = (p : ℕ) (got : Event → Option Payload) (s : Seen) (held : Held) → s.desk.entries ≡ [] → s.told.held ≡ Some held
    → s.told.bound ≡ length held.files → DiskServes p got (files_of held) s held
