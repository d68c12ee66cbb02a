-- What contracts see of the worker's ends of its cores' requests, and what they are to the law on links.
use Rattle.std.specs.Prelude.{◌≡◌, ◌≤◌, ℕ, ◌+◌, ◌-◌, List, [], ◌∷◌, Option, Some, None, true}
use Rattle.std.specs.Prelude.{length, slice_get, nat_le, if◌then◌else◌}
use Rattle.std.specs.List.{filter}
use Rattle.ac_base.specs.declared.entry.Payload.{Payload}
use Rattle.ac_base.specs.declared.entry.Entry.{Entry}
use Rattle.ac_base.specs.Done.{is_done_on}
use Rattle.ac_links.specs.Payloads.{Taking, answer_fits}
use Rattle.ac_links.specs.Payloads.Taking.{Done}
use Rattle.ac_links.specs.Views.{Response, PeerDecision}
use Rattle.ac_links.specs.Party.{LinkEnd}
use Rattle.ac_links.specs.Party.LinkEnd.{Decides, Absent}
use Rattle.completion_word.specs.declared.views.Decision.{Decision}
use Rattle.completion_word.specs.declared.views.DecisionKind.{DecisionKind}
use Rattle.completion_word.specs.declared.views.DecisionKind.TheVariants as outcome
use Rattle.channel_ends.specs.Receiving.{Receiving}
use Rattle.channel_ends.specs.Settled.{stamp_of}
use Rattle.request_ends.specs.Replying.{Replying}

-- of one core: the end by which its requests are taken, and the end on which the replies are put
pub record CoreEnds : Type 0 where
  pub ask : Receiving Payload
  pub reply : Replying

-- those of core 0, of core 1, and so on
abbrev pub core_ends : List (Receiving Payload) → List Replying → List CoreEnds
core_ends [] rs = []
core_ends (a ∷ xs) [] = []
core_ends (a ∷ xs) (r ∷ rs) = record { ask = a; reply = r } ∷ core_ends xs rs

-- nothing was taken, no reply was put, and no settling has told of a request
pub record IsNew (e : CoreEnds) : Type 0 where
  pub decisions : e.ask.peer.decisions ≡ []
  pub popped : e.ask.popped ≡ []
  pub replies : e.reply.replies ≡ []
  pub told : e.ask.peer.told_offers ≡ 0

-- of each request that a settling told of it is known what it asks, and of a free place for its reply
pub record IsReady (e : CoreEnds) : Type 0 where
  pub items : e.ask.peer.told_offers ≤ length e.ask.peer.decisions + length e.ask.items
  pub places : e.ask.peer.told_offers ≤ length e.ask.peer.decisions + e.reply.free

-- what a worker has beside its disk: the link of core 0, where those of the others follow, its ends for each core, and what it has entered
pub record AtDesk : Type 0 where
  pub first : ℕ
  pub ends : List CoreEnds
  pub entries : List Entry

-- it is so at each core
abbrev pub AreReady : AtDesk → Type 0
AreReady w = (c : ℕ) (e : CoreEnds) → slice_get w.ends c ≡ Some e → IsReady e

-- ---- what was done

-- how many requests of link l
abbrev pub done_on : ℕ → List Entry → ℕ
done_on l es = length (filter (λ e. is_done_on l e.event) es)

-- ---- as ends of links

-- what was taken is the request with the next of the replies
abbrev pub done_by : DecisionKind → List Response → Option Taking
done_by (outcome.Taken t) [] = None
done_by (outcome.Taken t) (r ∷ rs) = Some (Done r.answer)
done_by (outcome.Passed t) rs = None

abbrev pub replies_left : DecisionKind → List Response → List Response
replies_left (outcome.Taken t) [] = []
replies_left (outcome.Taken t) (r ∷ rs) = rs
replies_left (outcome.Passed t) rs = rs

-- the decisions as the law on links has them: the replies belong to the requests that were taken, in order
abbrev pub decisions_of : List Decision → List Response → List PeerDecision
decisions_of [] rs = []
decisions_of (d ∷ ds) rs =
    record { value = done_by d.outcome rs; stamp = stamp_of d.outcome; answers = d.answers } ∷ decisions_of ds (replies_left d.outcome rs)

-- a request that was taken has the next reply, with the stamp of its decision and an answer that fits
abbrev pub HasReply : Payload → DecisionKind → List Response → Type 0
HasReply x (outcome.Taken t) [] = ⊥
HasReply x (outcome.Taken t) (r ∷ rs) = (r.of ≡ t) × (answer_fits r.answer x ≡ true)
HasReply x (outcome.Passed t) rs = Unit {0}

-- each request that was taken has its reply, in order, and there are no other replies
abbrev pub AreAnswered : List Payload → List Decision → List Response → Type 0
AreAnswered [] [] rs = rs ≡ []
AreAnswered [] (d ∷ ds) rs = ⊥
AreAnswered (x ∷ xs) [] rs = ⊥
AreAnswered (x ∷ xs) (d ∷ ds) rs = HasReply x d.outcome rs × AreAnswered xs ds (replies_left d.outcome rs)

-- the worker's end of the link of one core
abbrev pub end_of : CoreEnds → LinkEnd
end_of e = Decides (decisions_of e.ask.peer.decisions e.reply.replies)

abbrev pub end_or_absent : Option CoreEnds → LinkEnd
end_or_absent None = Absent
end_or_absent (Some e) = end_of e

-- its ends of all links: of those from `first` on, one for each core
abbrev pub worker_ends : ℕ → List CoreEnds → ℕ → LinkEnd
worker_ends first ends l = if nat_le first l then end_or_absent (slice_get ends (l - first)) else Absent

-- ---- what is so of all cores, or of one

-- at each core the ends before and after are so
abbrev pub AtEach : (CoreEnds → CoreEnds → Type 0) → List CoreEnds → List CoreEnds → Type 0
AtEach R before after = (c : ℕ) (a b : CoreEnds) → slice_get before c ≡ Some a → slice_get after c ≡ Some b → R a b

-- and at one
pub record AtOne (R : CoreEnds → CoreEnds → Type 0) (before after : List CoreEnds) : Type 0 where
  pub core : ℕ
  pub old : CoreEnds
  pub new : CoreEnds
  pub before' : slice_get before core ≡ Some old
  pub after' : slice_get after core ≡ Some new
  pub holds : R old new
