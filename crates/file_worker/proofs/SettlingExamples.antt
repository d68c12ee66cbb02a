-- A core's ends are settled with the worker's after its request was done: the core is told of the decision and has the reply at hand; and what
-- is no settling, or not with this core.
use Rattle.std.proofs.Common.{◌≡◌, ◌∙◌, ℕ, zero, suc, ◌<◌, ◌≤◌, List, [], ◌∷◌, Some, None, true, false, refl, sym, ap, subst, arith}
use Rattle.ac_base.specs.declared.entry.Entry.{Entry}
use Rattle.ac_links.specs.Views.{Response}
use Rattle.completion_word.specs.declared.standing.Standing.TheVariants as word
use Rattle.completion_word.specs.declared.views.Decision.{Decision}
use Rattle.completion_word.specs.declared.views.DecisionKind.TheVariants as outcome
use Rattle.completion_word.specs.Link.{Answered, decision, decision_at}
use Rattle.channel_ends.specs.Rings.{RingName}
use Rattle.channel_ends.specs.Sending.{MadeOffer, OwnerNotes, made_at, heard_of}
use Rattle.channel_ends.specs.Settled.{stamp_of, AreEnds, AreOfOneLink, AreSettled}
use Rattle.channel_ends.proofs.Examples.{an_offer, notes}
use Rattle.channel_ends.proofs.OneLink.{makes_a_link}
use Rattle.request_ends.specs.Asking.{Asking}
use Rattle.core_ports.specs.AtHand.{AtHand}
use Rattle.end_ports.specs.Held.{AskingAt}
use Rattle.file_worker.specs.Ends.{CoreEnds, AtDesk}
use Rattle.file_worker.specs.Agreement.{Seen}
use Rattle.file_worker.specs.Rounds.{GoesOn}
use Rattle.file_worker.specs.Settling.{MaySettle, AskSettles, SettlesCore, AskIsSettled, IsSettledWith, LeavesAtHand}
use Rattle.file_worker.specs.Laws.{SettlingsGoOn}
use Rattle.file_worker.proofs.EndLists.{same_some}
use Rattle.file_worker.proofs.EndExamples.{a_ring, putter, two_bytes, as_read, first_done, second_passed, at_last}
use Rattle.file_worker.proofs.AgreementExamples.{after_both}

-- ---- the core's end before it and after it

abbrev one_offer : List MadeOffer
one_offer = an_offer 1 None None ∷ []

abbrev asked_notes : OwnerNotes
asked_notes = notes 16 one_offer (None ∷ []) 0 word.Unused

abbrev told_notes : OwnerNotes
told_notes = record asked_notes { told = 1 }

-- with the replies that it has had, those that were gathered for it, and its free slots and places
abbrev an_end : OwnerNotes → List Response → List Response → ℕ → ℕ → Asking
an_end e replies gathered free places = record {
  send = record { ring = a_ring 1; notes = e; payloads = two_bytes ∷ []; free = free };
  ring = a_ring 2;
  replies = replies;
  gathered = gathered;
  items = [];
  places = places;
}

abbrev asked : Asking
asked = an_end asked_notes [] [] 15 63

abbrev has_come : List Response → List Response → Asking
has_come replies gathered = an_end told_notes replies gathered 16 64

abbrev settled : Asking
settled = has_come [] (as_read ∷ [])

-- the worker knows of each place of the ring again
abbrev first_settled : CoreEnds
first_settled = record first_done { reply = putter 2 (as_read ∷ []) 16 }

abbrev at_settled : AtDesk
at_settled = record at_last { ends = first_settled ∷ second_passed ∷ [] }

abbrev ring_number : RingName → ℕ
ring_number r = r.names.0

pub they_are_ends_of_core_0 : MaySettle 0 at_last asked
they_are_ends_of_core_0 e is = subst (λ (x : CoreEnds). AreEnds asked.send x.ask × (asked.ring ≡ x.reply.ring)) (same_some first_done e is) ((refl, refl), refl)

pub not_of_core_1 : MaySettle 1 at_last asked → ⊥
not_of_core_1 h = let e : ◌≡◌ {A = ℕ} 1 3 = ap ring_number (h second_passed refl).0.1 in absurd (omega arith)

-- ---- what changes

pub it_is_told : AskSettles asked first_done settled first_settled
it_is_told = record {
  pair = (refl, refl);
  send = record { ring = refl; payloads = refl; free = let l : 15 ≤ 16 = omega arith in l; notes = refl };
  recv = record { table = refl; ring = refl; peer = refl; popped = refl; items = ([], refl) };
  list = refl;
  same = record { send = record { table = refl; ring = refl }; ring = refl };
  replies = refl;
  end = record { ring = refl; replies = refl; free = let l : 15 ≤ 16 = omega arith in l };
}

-- to have it is an entry of the core's
pub it_has_no_reply_yet : AskSettles asked first_done (has_come (as_read ∷ []) []) first_settled → ⊥
it_has_no_reply_yet h = let e = h.replies in cc

pub nor_is_one_put : AskSettles asked first_done settled (record first_settled { reply = putter 2 (as_read ∷ as_read ∷ []) 15 }) → ⊥
nor_is_one_put h = let e = h.end.replies in cc

pub core_0_settles : SettlesCore 0 at_last asked at_settled settled
core_0_settles = record { before = first_done; after = first_settled; was = refl; is = refl; ends = it_is_told }

pub no_entry_is_lost : SettlesCore 0 at_last asked (record at_settled { entries = [] }) settled → ⊥
no_entry_is_lost h = let e : ◌≡◌ {A = List Entry} [] at_last.entries = ap (λ (w : AtDesk). w.entries) h.is in cc

abbrev then_settled : Seen
then_settled = record after_both { desk = at_settled }

pub it_goes_on : SettlingsGoOn → GoesOn after_both then_settled
it_goes_on law = law 0 after_both then_settled asked settled core_0_settles refl

-- ---- where there was no memory

abbrev at_link_2 : Asking → AskingAt
at_link_2 a = record { link = 2; end = a; polls = 0; tries = 0; settled = false }

-- the core may know of the reply on its ring, but it is not at hand
pub all_is_left : LeavesAtHand 0 at_last (at_link_2 asked) at_last (at_link_2 (record asked { items = as_read ∷ [] }))
all_is_left = record { hand = refl; taken = λ e e' a b. ap (λ (x : CoreEnds). x.ask) (sym (same_some first_done e' b) ∙ same_some first_done e a) }

pub nothing_comes_to_hand : LeavesAtHand 0 at_last (at_link_2 asked) at_last (at_link_2 settled) → ⊥
nothing_comes_to_hand h = let e = ap (λ (x : AtHand). x.reply) h.hand in cc

-- ---- once it is done

abbrev one_decision : List Decision
one_decision = decision (outcome.Taken 2) 1 ∷ []

answered : (k : ℕ) → k < 1 → Answered (made_at one_offer k).stamp (made_at one_offer k).withdrawn (decision_at one_decision k)
answered zero l = (2, let m : 1 < 2 = omega arith in m, refl)
answered (suc k) l = absurd (omega (arith, l))

none_withdrawn : (k : ℕ) → k < 1 → (w : ℕ) → (made_at one_offer k).withdrawn ≡ Some w → (made_at one_offer k).stamp < w
none_withdrawn zero l w e = absurd cc
none_withdrawn (suc k) l w e = absurd (omega (arith, l))

none_known : (k : ℕ) → k < 1 → (t : ℕ) → (made_at one_offer k).known ≡ Some t → heard_of told_notes k ≡ Some t
none_known zero l t e = absurd cc
none_known (suc k) l t e = absurd (omega (arith, l))

none_heard : (k : ℕ) → k < 1 → (t : ℕ) → heard_of told_notes k ≡ Some t → (k < 1) × (stamp_of (decision_at one_decision k).outcome ≡ t)
none_heard zero l t e = absurd cc
none_heard (suc k) l t e = absurd (omega (arith, l))

of_one_link : AreOfOneLink told_notes one_decision None
of_one_link = record {
  decided_offered = let l : 1 ≤ 1 = omega arith in l;
  answered = answered;
  withdrawn_later = none_withdrawn;
  known_heard = none_known;
  heard_true = none_heard;
  seen_true = λ shown e. absurd cc;
}

both_settled : AreSettled settled.send first_settled.ask
both_settled = record {
  decisions_told = refl;
  offers_told = refl;
  in_order = refl;
  one_popped = refl;
  one_sent = refl;
  free_slots = let l : 17 ≤ 17 = omega arith in l;
  one_link = of_one_link;
}

abbrev port : Asking → AskingAt
port end = record { link = 1; end = end; polls = 0; tries = 0; settled = true }

first_is_settled : AskIsSettled (port settled) first_settled
first_is_settled = record {
  settled = both_settled;
  link = makes_a_link settled.send first_settled.ask both_settled;
  replies = record { items = refl; all = refl; free = refl };
  places = let l : 0 < 64 = omega arith in l;
  told = record {
    decision = refl;
    slot = λ room. refl;
    reply = refl;
    heard = let l : 2 ≤ 2 = omega arith in l;
    few = let l : 1 ≤ 17 = omega arith in l;
  };
}

pub its_reply_has_not_come : AskIsSettled (port (has_come [] [])) first_settled → ⊥
its_reply_has_not_come h = let e = h.replies.all in cc

pub nor_is_its_decision_told : AskIsSettled (port asked) first_settled → ⊥
nor_is_its_decision_told h = let e : ◌≡◌ {A = ℕ} 0 1 = h.settled.decisions_told in absurd (omega arith)

pub core_0_is_settled : IsSettledWith 0 at_settled (port settled)
core_0_is_settled e is = subst (AskIsSettled (port settled)) (same_some first_settled e is) first_is_settled

pub core_1_is_not : IsSettledWith 1 at_settled (port settled) → ⊥
core_1_is_not h = let e = (h second_passed refl).replies.all in cc
