-- What holds of the worker, its links and its disk while it does one request after the other.
use Rattle.std.specs.Prelude.{◌≡◌, ℕ, List, [], ◌∷◌, length, Option, true, ◌==◌, ◌++◌, slice_get, Some, None, false}
use Rattle.ac_base.specs.declared.entry.Payload.{Payload}
use Rattle.ac_base.specs.declared.entry.Answer.{Answer}
use Rattle.ac_base.specs.declared.entry.Event.{Event}
use Rattle.ac_base.specs.declared.entry.Entry.{Entry}
use Rattle.ac_base.specs.declared.entry.Event.TheVariants.{Did}
use Rattle.ac_base.specs.Stamps.{next_stamp}
use Rattle.ac_links.specs.declared.payloads.Terms.{Terms}
use Rattle.ac_links.specs.Payloads.{answer_fits}
use Rattle.ac_links.specs.Order.{of_party}
use Rattle.ac_links.specs.Journals.{last_of}
use Rattle.ac_links.specs.Views.{Response, OwnerOffer, PeerDecision, ViewsAgree}
use Rattle.ac_links.specs.Replies.{waiting_replies, NoMessages}
use Rattle.ac_links.specs.Party.{LinkEnd, with_end, PartyAgrees}
use Rattle.ac_links.specs.Payloads.Taking.{Done}
use Rattle.ac_links.specs.Party.LinkEnd.{Decides}
use Rattle.ac_history.specs.Files.{files_done, serves, contents, IsServed, deeds_by}

-- the worker's end of link k is `ds`, its owner is at `os`, and `ring` is on the ring of the replies
pub record WorkerLink (terms : ℕ → Terms) (ends : ℕ → LinkEnd) (k : ℕ) (os : List OwnerOffer) (ds : List PeerDecision)
    (ring : List Response) : Type 0 where
  pub mine : ends k ≡ Decides ds
  pub both : ViewsAgree os ds
  pub requests : (terms k).requests ≡ true
  pub only : NoMessages ds
  pub on_ring : ring ≡ waiting_replies os ds

-- the worker's journal agrees with its ends; the disk held `first` and holds `files` now, where `got` is what the worker was asked
pub record WorkerDisk (terms : ℕ → Terms) (p : ℕ) (ends : ℕ → LinkEnd) (j : List Entry) (got : Event → Option Payload)
    (first files : List (List ℕ)) : Type 0 where
  pub journal : PartyAgrees terms p ends j
  pub served : IsServed first (deeds_by got (of_party p j))
  pub held : files ≡ contents first (deeds_by got (of_party p j))

-- the next request of link k is open, and the disk gave this answer to it
pub record WorkerAnswers (k : ℕ) (os : List OwnerOffer) (ds : List PeerDecision) (o : OwnerOffer) (w : Answer)
    (got : Event → Option Payload) (files : List (List ℕ)) : Type 0 where
  pub front : slice_get os (length ds) ≡ Some o
  pub open' : o.withdrawn ≡ None
  pub fits : answer_fits w o.payload ≡ true
  pub asked : got (Did k (length ds) w) ≡ Some o.payload
  pub serves : serves files o.payload w ≡ true

-- the entry by which it is done, and the decision of the worker's end
abbrev pub did_entry : List Entry → ℕ → List PeerDecision → OwnerOffer → Answer → Entry
did_entry j k ds o w = record { stamp = next_stamp (last_of 0 j) o.stamp; turn = 0; event = Did k (length ds) w }

abbrev pub done_decision : List Entry → OwnerOffer → Answer → PeerDecision
done_decision j o w = record { value = Some (Done w); stamp = next_stamp (last_of 0 j) o.stamp; answers = o.stamp }

abbrev pub more_decisions : List Entry → List PeerDecision → OwnerOffer → Answer → List PeerDecision
more_decisions j ds o w = ds ++ done_decision j o w ∷ []

-- what goes to the end of the ring
abbrev pub response : List Entry → OwnerOffer → Answer → Response
response j o w = record { answer = w; of = (done_decision j o w).stamp }

-- after the worker has done it: its link, its other links, and its journal with the disk
pub record WorkerGoesOn (terms : ℕ → Terms) (p : ℕ) (ends : ℕ → LinkEnd) (j : List Entry) (k : ℕ) (os : List OwnerOffer)
    (ds : List PeerDecision) (ring : List Response) (got : Event → Option Payload) (first files : List (List ℕ)) (o : OwnerOffer)
    (w : Answer) : Type 0 where
  pub link : WorkerLink terms (with_end ends k (Decides (more_decisions j ds o w))) k os (more_decisions j ds o w)
      (ring ++ response j o w ∷ [])
  pub others : (l : ℕ) (os' : List OwnerOffer) (ds' : List PeerDecision) (ring' : List Response) → (k == l) ≡ false
      → WorkerLink terms ends l os' ds' ring' → WorkerLink terms (with_end ends k (Decides (more_decisions j ds o w))) l os' ds' ring'
  pub disk : WorkerDisk terms p (with_end ends k (Decides (more_decisions j ds o w))) (j ++ did_entry j k ds o w ∷ []) got first
      (files_done files o.payload w)
