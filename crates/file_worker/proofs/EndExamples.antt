-- The worker's ends for two cores, by numbers: core 0 has asked for two bytes and core 1 has withdrawn its request; then the one is done and
-- the other is passed. And one row of three requests, of which the second is withdrawn.
use Rattle.std.proofs.Common.{◌≡◌, ℕ, zero, suc, ◌≤◌, List, [], ◌∷◌, Option, Some, None, refl, ap, subst, arith}
use denote.RawPtr.{null_ptr}
use Rattle.ac_base.specs.declared.entry.Payload.{Payload}
use Rattle.ac_base.specs.declared.entry.Payload.TheVariants.{Read}
use Rattle.ac_base.specs.declared.entry.Answer.TheVariants.{Bytes}
use Rattle.ac_base.specs.declared.entry.Entry.{Entry}
use Rattle.ac_base.specs.declared.entry.Event.TheVariants as event
use Rattle.ac_links.specs.Payloads.Taking.{Done}
use Rattle.ac_links.specs.Views.{Response}
use Rattle.ac_links.specs.Party.LinkEnd.{Decides, Absent}
use Rattle.completion_word.specs.declared.answers.Look.{Look}
use Rattle.completion_word.specs.declared.standing.Standing.{Standing}
use Rattle.completion_word.specs.declared.standing.Standing.TheVariants as word
use Rattle.completion_word.specs.declared.views.Decision.{Decision}
use Rattle.completion_word.specs.declared.views.DecisionKind.TheVariants as outcome
use Rattle.completion_word.specs.declared.views.Peer.{Peer}
use Rattle.completion_word.specs.Link.{decision}
use Rattle.channel_ends.specs.Receiving.{Receiving}
use Rattle.channel_ends.specs.Rings.{RingName}
use Rattle.channel_ends.proofs.Examples.{words_of}
use Rattle.request_ends.specs.Replying.{Replying}
use Rattle.file_worker.specs.Ends.{CoreEnds, core_ends, IsNew, IsReady, AtDesk, AreReady, done_on, done_by, replies_left, decisions_of, HasReply, AreAnswered}
use Rattle.file_worker.specs.Ends.{end_of, end_or_absent, worker_ends}
use Rattle.file_worker.specs.Laws.{first_answer, answer_at, taking_of, AreViewed, DecisionsAreViews}
use Rattle.file_worker.proofs.EndLists.{same_some}

-- ---- the two cores

abbrev pub a_peer : List Decision → ℕ → Standing → Option Look → ℕ → Peer
a_peer decisions looks saw seen told = record { decisions = decisions; looks = looks; saw = saw; look = seen; told_offers = told }

abbrev pub a_ring : ℕ → RingName
a_ring n = record { words = null_ptr; slots = null_ptr; names = (n, (0, 0)) }

-- ends of rings of these numbers
abbrev pub taker : ℕ → Peer → List Payload → List Payload → Receiving Payload
taker ring p popped items = record { table = words_of 16; ring = a_ring ring; peer = p; popped = popped; items = items }

abbrev pub putter : ℕ → List Response → ℕ → Replying
putter ring replies free = record { ring = a_ring ring; replies = replies; free = free }

-- two bytes of file 0 from its second on, and its first one
abbrev pub two_bytes : Payload
two_bytes = Read 0 1 2

abbrev pub one_byte : Payload
one_byte = Read 0 0 1

-- core 0 has asked with stamp 1; core 1 has asked with stamp 2, and withdrawn that with stamp 3; a settling has told of both
abbrev pub first_asks : CoreEnds
first_asks = record { ask = taker 1 (a_peer [] 0 word.Unused None 1) [] (two_bytes ∷ []); reply = putter 2 [] 16 }

abbrev pub second_withdrew : CoreEnds
second_withdrew = record { ask = taker 3 (a_peer [] 0 word.Unused None 1) [] (one_byte ∷ []); reply = putter 4 [] 16 }

abbrev pub as_read : Response
as_read = record { answer = Bytes (2 ∷ 3 ∷ []); of = 2 }

-- the one is done with stamp 2, and the other is passed with stamp 4
abbrev pub first_done : CoreEnds
first_done = record { ask = taker 1 (a_peer (decision (outcome.Taken 2) 1 ∷ []) 1 (word.Offered 1) None 1) (two_bytes ∷ []) []; reply = putter 2 (as_read ∷ []) 15 }

abbrev pub second_passed : CoreEnds
second_passed = record { ask = taker 3 (a_peer (decision (outcome.Passed 4) 3 ∷ []) 1 (word.Withdrawn 3) None 1) (one_byte ∷ []) []; reply = putter 4 [] 16 }

abbrev pub did : Entry
did = record { stamp = 2; turn = 0; event = event.Did 1 0 (Bytes (2 ∷ 3 ∷ [])) }

abbrev pub passed : Entry
passed = record { stamp = 4; turn = 0; event = event.Pass 2 0 }

-- the link of core 0 is 1
abbrev pub at_first : AtDesk
at_first = record { first = 1; ends = first_asks ∷ second_withdrew ∷ []; entries = [] }

abbrev pub at_last : AtDesk
at_last = record { first = 1; ends = first_done ∷ second_passed ∷ []; entries = did ∷ passed ∷ [] }

pub both_ends_of_each : core_ends (first_asks.ask ∷ second_withdrew.ask ∷ []) (first_asks.reply ∷ second_withdrew.reply ∷ []) ≡ at_first.ends
both_ends_of_each = refl

pub one_without_a_ring_is_none : core_ends (first_asks.ask ∷ second_withdrew.ask ∷ []) (first_asks.reply ∷ []) ≡ first_asks ∷ []
one_without_a_ring_is_none = refl

-- ---- new ends, and ends that are ready

pub nothing_was_taken : IsNew (record { ask = taker 1 (a_peer [] 0 word.Unused None 0) [] []; reply = putter 2 [] 16 })
nothing_was_taken = record { decisions = refl; popped = refl; replies = refl; told = refl }

pub not_once_a_settling_has_told : IsNew first_asks → ⊥
not_once_a_settling_has_told h = let e : ◌≡◌ {A = ℕ} 1 0 = h.told in absurd (omega arith)

pub not_once_one_is_decided : IsNew second_passed → ⊥
not_once_one_is_decided h = let e = h.decisions in cc

first_is_ready : IsReady first_asks
first_is_ready = record { items = let l : 1 ≤ 1 = omega arith in l; places = let l : 1 ≤ 16 = omega arith in l }

second_is_ready : IsReady second_withdrew
second_is_ready = record { items = let l : 1 ≤ 1 = omega arith in l; places = let l : 1 ≤ 16 = omega arith in l }

pub both_are_ready : AreReady at_first
both_are_ready zero e is = subst IsReady (same_some first_asks e is) first_is_ready
both_are_ready (suc zero) e is = subst IsReady (same_some second_withdrew e is) second_is_ready
both_are_ready (suc (suc c)) e is = cc

pub not_without_the_item : AreReady (record at_first { ends = record first_asks { ask = taker 1 (a_peer [] 0 word.Unused None 1) [] [] } ∷ [] }) → ⊥
not_without_the_item h = let l : 1 ≤ 0 = (h 0 (record first_asks { ask = taker 1 (a_peer [] 0 word.Unused None 1) [] [] }) refl).items in absurd (omega arith)

pub nor_without_a_place : IsReady (record first_asks { reply = putter 2 [] 0 }) → ⊥
nor_without_a_place h = let l : 1 ≤ 0 = h.places in absurd (omega arith)

-- ---- what was done

pub one_was_done_and_one_was_passed : done_on 1 at_last.entries ∷ done_on 2 at_last.entries ∷ [] ≡ 1 ∷ 0 ∷ []
one_was_done_and_one_was_passed = refl

-- ---- the row: the first is taken with stamp 2 and the third with 6, and the second is passed with 5

-- so many bytes from the start of file 0
abbrev pub read : ℕ → Payload
read n = Read 0 0 n

abbrev pub seven : Response
seven = record { answer = Bytes (7 ∷ []); of = 2 }

abbrev pub eight : Response
eight = record { answer = Bytes (8 ∷ []); of = 6 }

abbrev pub row : List Decision
row = decision (outcome.Taken 2) 1 ∷ decision (outcome.Passed 5) 4 ∷ decision (outcome.Taken 6) 3 ∷ []

abbrev pub row_asked : List Payload
row_asked = read 1 ∷ read 2 ∷ read 3 ∷ []

pub who_has_the_next_reply : done_by (outcome.Taken 2) (seven ∷ []) ∷ done_by (outcome.Taken 2) [] ∷ done_by (outcome.Passed 5) (seven ∷ []) ∷ []
    ≡ Some (Done (Bytes (7 ∷ []))) ∷ None ∷ None ∷ []
who_has_the_next_reply = refl

pub which_are_left : replies_left (outcome.Taken 2) (seven ∷ eight ∷ []) ∷ replies_left (outcome.Taken 2) [] ∷ replies_left (outcome.Passed 5) (eight ∷ []) ∷ []
    ≡ (eight ∷ []) ∷ [] ∷ (eight ∷ []) ∷ []
which_are_left = refl

pub the_one_that_was_passed_has_none : decisions_of row (seven ∷ eight ∷ [])
    ≡ record { value = Some (Done (Bytes (7 ∷ []))); stamp = 2; answers = 1 } ∷ record { value = None; stamp = 5; answers = 4 }
    ∷ record { value = Some (Done (Bytes (8 ∷ []))); stamp = 6; answers = 3 } ∷ []
the_one_that_was_passed_has_none = refl

pub with_its_stamp : HasReply (read 1) (outcome.Taken 2) (seven ∷ [])
with_its_stamp = (refl, refl)

pub with_no_other : HasReply (read 1) (outcome.Taken 3) (seven ∷ []) → ⊥
with_no_other h = let e : ◌≡◌ {A = ℕ} 2 3 = h.0 in absurd (omega arith)

pub nor_with_more_than_was_asked : HasReply (read 0) (outcome.Taken 2) (seven ∷ []) → ⊥
nor_with_more_than_was_asked h = let e = h.1 in cc

pub each_is_answered : AreAnswered row_asked row (seven ∷ eight ∷ [])
each_is_answered = ((refl, refl), (tt, ((refl, refl), refl)))

pub not_without_a_reply : AreAnswered (read 1 ∷ []) (decision (outcome.Taken 2) 1 ∷ []) [] → ⊥
not_without_a_reply h = h.0

pub nor_with_one_too_many : AreAnswered (read 1 ∷ []) (decision (outcome.Taken 2) 1 ∷ []) (seven ∷ eight ∷ []) → ⊥
nor_with_one_too_many h = let e = h.1 in cc

-- ---- as ends of links

pub as_an_end : end_of first_done ≡ Decides (record { value = Some (Done (Bytes (2 ∷ 3 ∷ []))); stamp = 2; answers = 1 } ∷ [])
as_an_end = refl

pub with_no_ends_it_is_absent : end_or_absent (Some second_passed) ∷ end_or_absent None ∷ [] ≡ Decides (record { value = None; stamp = 4; answers = 3 } ∷ []) ∷ Absent ∷ []
with_no_ends_it_is_absent = refl

pub on_its_links_alone : worker_ends 1 at_last.ends 0 ∷ worker_ends 1 at_last.ends 1 ∷ worker_ends 1 at_last.ends 2 ∷ worker_ends 1 at_last.ends 3 ∷ []
    ≡ Absent ∷ end_of first_done ∷ end_of second_passed ∷ Absent ∷ []
on_its_links_alone = refl

-- ---- as those by which the ends of the row make a link

pub the_first_answer : first_answer (seven ∷ eight ∷ []) ∷ first_answer (eight ∷ []) ∷ [] ≡ Bytes (7 ∷ []) ∷ Bytes (8 ∷ []) ∷ []
the_first_answer = refl

pub whose_answers_they_are : answer_at row (seven ∷ eight ∷ []) 0 ∷ answer_at row (seven ∷ eight ∷ []) 2 ∷ [] ≡ Bytes (7 ∷ []) ∷ Bytes (8 ∷ []) ∷ []
whose_answers_they_are = refl

pub what_the_third_takes : taking_of row (seven ∷ eight ∷ []) 2 (read 3) ≡ Done (Bytes (8 ∷ []))
what_the_third_takes = refl

pub the_row_is_viewed : AreViewed row_asked row (seven ∷ eight ∷ [])
the_row_is_viewed = record { taken = (refl, (tt, (refl, tt))); same = refl; requests = (refl, (refl, (refl, tt))); on_ring = refl }

pub not_with_a_reply_of_another_stamp : AreViewed (read 1 ∷ []) (decision (outcome.Taken 3) 1 ∷ []) (seven ∷ []) → ⊥
not_with_a_reply_of_another_stamp h = let e : ◌≡◌ {A = ℕ} 3 2 = ap first_stamp h.on_ring in absurd (omega arith)
  where
    first_stamp : List Response → ℕ
    first_stamp [] = 0
    first_stamp (r ∷ rs) = r.of

pub so_says_the_law : DecisionsAreViews → AreViewed row_asked row (seven ∷ eight ∷ [])
so_says_the_law law = law row_asked row (seven ∷ eight ∷ []) each_is_answered
