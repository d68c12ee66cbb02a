-- What the parts say of which the definitions of a history are made, for the small histories of the other examples.
-- Those that hold do so by computing.
use Rattle.std.proofs.Common.{◌≡◌, refl, ℕ, List, [], ◌∷◌, Option, Some, None, Bool, true, false, cond, arith}
use Rattle.std.specs.Prelude.{pos, ◌==◌}
use Rattle.ac_base.specs.declared.entry.Payload.{Payload}
use Rattle.ac_base.specs.declared.entry.Payload.TheVariants.{Int, Read, Write}
use Rattle.ac_base.specs.declared.entry.Answer.TheVariants.{Bytes, Count, Fault}
use Rattle.ac_base.specs.declared.entry.Event.{Event}
use Rattle.ac_base.specs.declared.entry.Event.TheVariants.{Offer, Know, Got, Pass, Did}
use Rattle.ac_links.specs.declared.payloads.Terms.{Terms}
use Rattle.ac_links.specs.Payloads.Taking.{Done}
use Rattle.ac_links.specs.Views.{OwnerOffer, PeerDecision}
use Rattle.ac_links.specs.Noted.{request_of}
use Rattle.ac_links.specs.Party.{LinkEnd, EndRuns, with_end}
use Rattle.ac_links.specs.Party.LinkEnd.{Decides, Absent}
use Rattle.ac_history.specs.History.{Past, in_range, is_later, has_stamp, after, start}
use Rattle.ac_history.specs.Files.{written, bytes_in, reads, deed_of, deeds_at, deeds_by}
use Rattle.ac_history.specs.Served.{HistoryState, serves_all, can_follow, state_after}
use Rattle.ac_history.specs.Agreement.{AllStamps, AllMade, link_part}
use Rattle.ac_history.specs.Network.{IsPeer, request_by, worker_entries, AllNoted}
use Rattle.ac_history.specs.Parties.{pair_of}
use Rattle.ac_history.specs.Working.{WorkerLink, WorkerDisk, WorkerAnswers, did_entry, done_decision, more_decisions, response}
use Rattle.ac_history.proofs.Examples.{at, by, capacities, message, nothing_yet, a_deed, written_and_read, journals, channel, ends, notes, the_network_agrees}

-- ---- an entry after those before it

pub stamps_and_then_parties : is_later 3 1 (by 0 4 1 (Know 0 0)) ∷ is_later 3 1 (by 2 3 1 (Know 0 0)) ∷ is_later 3 1 (by 1 3 1 (Know 0 0)) ∷ is_later 3 1 (by 2 2 1 (Know 0 0)) ∷ []
    ≡ true ∷ true ∷ false ∷ false ∷ []
stamps_and_then_parties = refl

-- three links, two cores and the worker
pub the_links_and_parties_that_there_are : in_range nothing_yet (by 2 1 0 (Pass 2 0)) ∷ in_range nothing_yet (by 3 1 0 (Pass 2 0)) ∷ in_range nothing_yet (by 2 1 0 (Pass 3 0)) ∷ []
    ≡ true ∷ false ∷ false ∷ []
the_links_and_parties_that_there_are = refl

abbrev one_offered : Past
one_offered = after nothing_yet (by 0 1 1 (Offer 0 0 (Int (pos 5 ∷ []))))

-- above its party's last one
pub the_next_of_its_party : has_stamp one_offered (by 0 2 1 (Offer 0 1 (Int (pos 6 ∷ [])))) ∷ has_stamp one_offered (by 0 1 1 (Offer 0 1 (Int (pos 6 ∷ [])))) ∷ [] ≡ true ∷ false ∷ []
the_next_of_its_party = refl

-- and above that of the offer
pub the_next_of_what_it_answers : has_stamp one_offered (by 1 2 1 (Got 0 0 (pos 5 ∷ []))) ∷ has_stamp one_offered (by 1 1 1 (Got 0 0 (pos 5 ∷ []))) ∷ [] ≡ true ∷ false ∷ []
the_next_of_what_it_answers = refl

-- ---- files and deeds

pub the_bytes_that_went_in : bytes_in (Count 2) (7 ∷ 8 ∷ []) ∷ bytes_in (Fault 1) (7 ∷ 8 ∷ []) ∷ bytes_in (Bytes (9 ∷ [])) (7 ∷ 8 ∷ []) ∷ [] ≡ (7 ∷ 8 ∷ []) ∷ (7 ∷ []) ∷ [] ∷ []
the_bytes_that_went_in = refl

pub one_file_is_written : written ((1 ∷ []) ∷ (2 ∷ []) ∷ []) 1 2 (7 ∷ []) ≡ (1 ∷ []) ∷ (2 ∷ 0 ∷ 7 ∷ []) ∷ []
one_file_is_written = refl

pub no_such_file : written ((1 ∷ []) ∷ []) 1 0 (7 ∷ []) ≡ (1 ∷ []) ∷ []
no_such_file = refl

pub what_a_read_gives : reads (1 ∷ 2 ∷ 3 ∷ []) 1 1 (Bytes (2 ∷ [])) ∷ reads (1 ∷ 2 ∷ 3 ∷ []) 1 1 (Bytes (3 ∷ [])) ∷ reads (1 ∷ []) 1 1 (Bytes []) ∷ reads (1 ∷ []) 0 1 (Fault 0) ∷ []
    ≡ true ∷ false ∷ true ∷ true ∷ []
what_a_read_gives = refl

pub what_is_done_is_a_deed : deed_of (Some (Read 0 1 1)) (Did 0 0 (Bytes (9 ∷ []))) ≡ a_deed (Read 0 1 1) (Bytes (9 ∷ [])) ∷ []
what_is_done_is_a_deed = refl

pub nothing_else_is_one : deed_of (Some (Read 0 1 1)) (Know 0 0) ≡ []
nothing_else_is_one = refl

pub nor_where_nothing_was_asked : deed_of None (Did 0 0 (Count 1)) ≡ []
nor_where_nothing_was_asked = refl

-- core 0 has asked for byte 1 of file 0
abbrev one_asked : Past
one_asked = after (start (16 ∷ []) [] 1) (by 0 1 1 (Offer 0 0 (Read 0 1 1)))

pub the_deed_of_an_entry : deeds_at one_asked (by 1 2 0 (Did 0 0 (Bytes (9 ∷ [])))) ≡ a_deed (Read 0 1 1) (Bytes (9 ∷ [])) ∷ []
the_deed_of_an_entry = refl

pub written_and_then_read : serves_all ([] ∷ []) written_and_read ≡ true
written_and_then_read = refl

pub not_read_before : serves_all ([] ∷ []) (a_deed (Read 0 0 1) (Bytes (7 ∷ [])) ∷ []) ≡ false
not_read_before = refl

abbrev asked_of_two : HistoryState
asked_of_two = record { past = one_asked; files = (8 ∷ 9 ∷ []) ∷ [] }

pub what_stands_there_may_be_answered : can_follow asked_of_two (by 1 2 0 (Did 0 0 (Bytes (9 ∷ [])))) ≡ true
what_stands_there_may_be_answered = refl

pub but_nothing_else : can_follow asked_of_two (by 1 2 0 (Did 0 0 (Bytes (8 ∷ [])))) ≡ false
but_nothing_else = refl

pub nor_with_another_stamp : can_follow asked_of_two (by 1 3 0 (Did 0 0 (Bytes (9 ∷ [])))) ≡ false
nor_with_another_stamp = refl

abbrev asked_to_write : HistoryState
asked_to_write = record { past = after (start (16 ∷ []) [] 1) (by 0 1 1 (Offer 0 0 (Write 0 1 (7 ∷ [])))); files = (8 ∷ 9 ∷ []) ∷ [] }

pub a_byte_is_written : (state_after asked_to_write (by 1 2 0 (Did 0 0 (Count 1)))).files ≡ (8 ∷ 7 ∷ []) ∷ []
a_byte_is_written = refl

-- ---- journals

pub who_made_the_message : AllMade 1 2 message
who_made_the_message = (refl, (refl, (refl, tt)))

pub a_core_cannot_have_done_it : AllMade 1 2 (by 1 2 1 (Did 1 0 (Count 1)) ∷ []) → ⊥
a_core_cannot_have_done_it m = let e = m.0 in cc

abbrev answers_one : Event → ℕ
answers_one e = 1

pub the_stamps_of_two_journals : AllStamps answers_one ((at 2 1 (Know 0 0) ∷ at 3 1 (Know 0 1) ∷ []) ∷ (at 2 1 (Know 1 0) ∷ []) ∷ [])
the_stamps_of_two_journals = ((refl, (refl, tt)), ((refl, tt), tt))

pub one_that_begins_too_low : AllStamps answers_one ((at 1 1 (Know 0 0) ∷ []) ∷ []) → ⊥
one_that_begins_too_low s = let e = s.0.0 in cc

pub the_entries_of_the_channel : link_part 0 journals ≡ by 0 1 1 (Offer 0 0 (Int (pos 5 ∷ []))) ∷ by 1 2 1 (Got 0 0 (pos 5 ∷ [])) ∷ by 0 3 2 (Know 0 0) ∷ []
the_entries_of_the_channel = refl

pub each_noted_its_stamps : AllNoted notes 0 journals
each_noted_its_stamps = the_network_agrees.stamps

pub not_with_another_stamp : AllNoted notes 0 ((at 2 1 (Offer 0 0 (Int (pos 5 ∷ []))) ∷ []) ∷ []) → ⊥
not_with_another_stamp s = let e = s.0.0 in cc

pub the_entries_of_the_worker : worker_entries 2 journals ≡ by 2 3 0 (Did 1 0 (Count 1)) ∷ by 2 4 0 (Did 2 0 (Bytes (0 ∷ 7 ∷ []))) ∷ by 2 8 0 (Pass 1 1) ∷ []
the_entries_of_the_worker = refl

pub what_the_worker_has_done : deeds_by (request_by ends) (worker_entries 2 journals) ≡ a_deed (Write 0 2 (7 ∷ [])) (Count 1) ∷ a_deed (Read 0 1 4) (Bytes (0 ∷ 7 ∷ [])) ∷ []
what_the_worker_has_done = refl

-- the worker is the peer of requests, and a core that of a channel
pub the_peer_of_requests : IsPeer 2 true 2
the_peer_of_requests = refl

pub no_core_is_it : IsPeer 2 true 1 → ⊥
no_core_is_it e = omega (arith, e)

pub the_peer_of_a_channel : IsPeer 2 false 1
the_peer_of_a_channel = omega arith

pub the_worker_is_not_it : IsPeer 2 false 2 → ⊥
the_worker_is_not_it h = omega (arith, h)

pub the_ends_of_the_channel : pair_of capacities 2 (λ l. (ends l).owner) (λ l. (ends l).peer) (λ l. (ends l).offers) (λ l. (ends l).decisions) 0 ≡ channel
the_ends_of_the_channel = refl

-- ---- a worker, party 1, with one link of requests, on which a byte is to be written

abbrev pub asking : ℕ → Terms
asking l = record { capacity = 16; requests = true }

abbrev pub wanted : OwnerOffer
wanted = record { payload = Write 0 1 (7 ∷ []); stamp = 1; withdrawn = None; known = None; reply = None }

abbrev pub its_end : ℕ → LinkEnd
its_end = with_end (λ l. Absent) 0 (Decides [])

abbrev pub its_requests : Event → Option Payload
its_requests = request_of (wanted ∷ [])

abbrev pub its_files : List (List ℕ)
its_files = (8 ∷ 9 ∷ []) ∷ []

pub its_link : WorkerLink asking its_end 0 (wanted ∷ []) [] []
its_link = record { mine = refl; both = (refl, refl, tt); requests = refl; only = tt; on_ring = refl }

either_end_runs : (b : Bool) → EndRuns (asking 0) (cond b (Decides []) Absent) []
either_end_runs true = refl
either_end_runs false = refl

pub its_disk : WorkerDisk asking 1 its_end [] its_requests its_files its_files
its_disk = record { journal = record { runs = λ l. either_end_runs (0 == l); stamps = tt }; served = tt; held = refl }

pub it_is_written : WorkerAnswers 0 (wanted ∷ []) [] wanted (Count 1) its_requests its_files
it_is_written = record { front = refl; open' = refl; fits = refl; asked = refl; serves = refl }

-- not with an answer that tells of two bytes
pub not_two_bytes : WorkerAnswers 0 (wanted ∷ []) [] wanted (Count 2) its_requests its_files → ⊥
not_two_bytes w = let e = w.fits in cc

pub the_entry_of_it : did_entry [] 0 [] wanted (Count 1) ≡ at 2 0 (Did 0 0 (Count 1))
the_entry_of_it = refl

abbrev decided : PeerDecision
decided = record { value = Some (Done (Count 1)); stamp = 2; answers = 1 }

pub the_decision_of_it : done_decision [] wanted (Count 1) ≡ decided
the_decision_of_it = refl

pub its_end_then : more_decisions [] [] wanted (Count 1) ≡ decided ∷ []
its_end_then = refl

pub what_goes_on_the_ring : response [] wanted (Count 1) ≡ record { answer = Count 1; of = 2 }
what_goes_on_the_ring = refl
