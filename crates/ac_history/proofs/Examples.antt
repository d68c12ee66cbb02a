-- What the definitions of a history say of small ones.
-- Those that hold do so by computing.
use Rattle.std.proofs.Common.{◌≡◌, ◌≢◌, ℕ, zero, suc, ◌<◌, List, [], ◌∷◌, Some, None, Bool, true, false, ◌&&◌, refl, arith}
use Rattle.std.specs.Prelude.{pos, negsuc, nat_lt}
use Rattle.std.proofs.lemmas.Bool.Decides.{nat_tests}
use Rattle.ac_base.specs.declared.entry.Payload.{Payload}
use Rattle.ac_base.specs.declared.entry.Payload.TheVariants.{Int, Read, Write}
use Rattle.ac_base.specs.declared.entry.Answer.{Answer}
use Rattle.ac_base.specs.declared.entry.Answer.TheVariants.{Bytes, Count, Fault}
use Rattle.ac_base.specs.declared.entry.Event.{Event}
use Rattle.ac_base.specs.declared.entry.Event.TheVariants.{Offer, Withdraw, Know, Room, Got, Pass, Did, Reply}
use Rattle.ac_base.specs.declared.entry.Entry.{Entry}
use Rattle.ac_base.specs.declared.entry.Stamped.{Stamped}
use Rattle.ac_links.specs.Link.{link_of}
use Rattle.ac_links.specs.Payloads.Taking.{Message, Done}
use Rattle.ac_links.specs.Views.{answers_none}
use Rattle.ac_history.specs.Agreement.{InRange, AllOfTheirWidth}
use Rattle.ac_history.specs.Merged.{all_from, merged}
use Rattle.ac_history.specs.History.{Past, terms_of, may_make, has_width, has_its_width, fits, after, IsLegal, start}
use Rattle.ac_history.specs.Files.{files_done, serves, Deed, IsServed, contents, deeds, padded, file_of}
use Rattle.ac_history.specs.Served.{begun, IsHistory, after_all}
use Rattle.ac_history.specs.Network.{Pair, PairAgrees, NetworkAgrees, DiskAgrees, entries_at, seen_by, request_by}
use Rattle.ac_links.proofs.Growth.{both_true}
use Rattle.ac_history.proofs.Runtime.{legal_network}
use Rattle.ac_history.proofs.Disk.{network_served}

abbrev pub at : ℕ → ℕ → Event → Entry
at stamp turn event = record { stamp = stamp; turn = turn; event = event }

abbrev pub capacities : List ℕ
capacities = 1 ∷ 16 ∷ 16 ∷ []

-- its channel carries messages of one int
abbrev pub widths : List ℕ
widths = 1 ∷ []

-- ---- the merged history

abbrev pub by : ℕ → ℕ → ℕ → Event → Stamped
by party stamp turn event = record { party = party; entry = at stamp turn event }

abbrev pub sender : List Entry
sender = at 1 1 (Offer 0 0 (Int (pos 5 ∷ []))) ∷ at 3 1 (Know 0 0) ∷ []

abbrev pub receiver : List Entry
receiver = at 2 1 (Got 0 0 (pos 5 ∷ [])) ∷ []

abbrev pub message : List Stamped
message = by 0 1 1 (Offer 0 0 (Int (pos 5 ∷ []))) ∷ by 1 2 1 (Got 0 0 (pos 5 ∷ [])) ∷ by 0 3 1 (Know 0 0) ∷ []

pub in_order_of_stamps : merged (sender ∷ receiver ∷ []) ≡ message
in_order_of_stamps = refl

-- of one stamp the lower party comes first
pub then_of_parties : merged ((at 4 1 (Know 0 1) ∷ []) ∷ (at 4 1 (Know 0 0) ∷ []) ∷ []) ≡ by 0 4 1 (Know 0 1) ∷ by 1 4 1 (Know 0 0) ∷ []
then_of_parties = refl

-- ---- a legal history: a channel from core 0 to core 1, with room for one message

abbrev pub nothing_yet : Past
nothing_yet = start capacities widths 2

pub a_message_of_two_ints : IsLegal (start capacities (2 ∷ []) 2) (by 0 1 1 (Offer 0 0 (Int (pos 5 ∷ negsuc 0 ∷ []))) ∷ by 1 2 1 (Got 0 0 (pos 5 ∷ negsuc 0 ∷ [])) ∷ [])
a_message_of_two_ints = (refl, (refl, tt))

pub every_int_is_carried : IsLegal (start capacities (2 ∷ []) 2) (by 0 1 1 (Offer 0 0 (Int (pos 5 ∷ negsuc 0 ∷ []))) ∷ by 1 2 1 (Got 0 0 (pos 5 ∷ pos 6 ∷ [])) ∷ []) → ⊥
every_int_is_carried h = let e = h.1.0 in cc

pub no_message_is_wider_than_its_channel : fits nothing_yet (by 0 1 1 (Offer 0 0 (Int (pos 5 ∷ pos 6 ∷ [])))) ≡ false
no_message_is_wider_than_its_channel = refl

pub widths_are_of_channels : has_width (Some 2) (Int (pos 5 ∷ [])) ∷ has_width None (Int (pos 5 ∷ [])) ∷ has_width (Some 2) (Read 0 0 1) ∷ [] ≡ false ∷ true ∷ true ∷ []
widths_are_of_channels = refl

pub an_offer_has_its_width : has_its_width (2 ∷ []) (Offer 0 0 (Int (pos 5 ∷ pos 6 ∷ []))) ∷ has_its_width (2 ∷ []) (Offer 0 0 (Int (pos 5 ∷ []))) ∷ has_its_width (2 ∷ []) (Know 0 0) ∷ []
    ≡ true ∷ false ∷ true ∷ []
an_offer_has_its_width = refl

pub a_message_crosses : IsLegal nothing_yet message
a_message_crosses = (refl, (refl, (refl, tt)))

pub no_entry_is_legal : IsLegal nothing_yet []
no_entry_is_legal = tt

-- what was not offered is not got
pub an_invented_message : IsLegal nothing_yet (by 1 2 1 (Got 0 0 (pos 5 ∷ [])) ∷ []) → ⊥
an_invented_message h = let e = h.0 in cc

-- the taking is known before it was made
pub too_early_to_know : IsLegal nothing_yet (by 0 1 1 (Offer 0 0 (Int (pos 5 ∷ []))) ∷ by 0 2 1 (Know 0 0) ∷ []) → ⊥
too_early_to_know h = let e = h.1.0 in cc

-- a stamp has to be the next, and no greater
pub a_stamp_is_left_out : fits nothing_yet (by 0 2 1 (Offer 0 0 (Int (pos 5 ∷ [])))) ≡ false
a_stamp_is_left_out = refl

pub one_party_after_the_other : fits (after nothing_yet (by 0 1 1 (Offer 0 0 (Int (pos 5 ∷ []))))) (by 1 1 1 (Offer 2 0 (Read 0 0 1))) ≡ true
one_party_after_the_other = refl

pub and_not_the_other_way : fits (after nothing_yet (by 1 1 1 (Offer 2 0 (Read 0 0 1)))) (by 0 1 1 (Offer 0 0 (Int (pos 5 ∷ [])))) ≡ false
and_not_the_other_way = refl

pub no_such_link : fits nothing_yet (by 0 1 1 (Offer 3 0 (Read 0 0 1))) ≡ false
no_such_link = refl

pub no_such_party : fits nothing_yet (by 3 1 0 (Offer 1 0 (Read 0 0 1))) ≡ false
no_such_party = refl

-- ---- who may make what: cores 0 and 1, the worker as party 2, the channel as link 0

pub a_core_takes_messages : may_make 1 2 (by 1 2 1 (Got 0 0 (pos 5 ∷ []))) ≡ true
a_core_takes_messages = refl

pub the_worker_takes_none : may_make 1 2 (by 2 2 0 (Got 0 0 (pos 5 ∷ []))) ≡ false
the_worker_takes_none = refl

pub the_worker_does_requests : may_make 1 2 (by 2 2 0 (Did 1 0 (Count 1))) ≡ true
the_worker_does_requests = refl

pub a_core_does_none : may_make 1 2 (by 1 2 1 (Did 1 0 (Count 1))) ≡ false
a_core_does_none = refl

pub the_turn_of_the_worker_is_nought : may_make 1 2 (by 2 2 1 (Did 1 0 (Count 1))) ≡ false
the_turn_of_the_worker_is_nought = refl

pub who_passes : may_make 1 2 (by 1 3 1 (Pass 0 0)) ∷ may_make 1 2 (by 2 3 0 (Pass 1 0)) ∷ may_make 1 2 (by 1 3 1 (Pass 1 0)) ∷ [] ≡ true ∷ true ∷ false ∷ []
who_passes = refl

-- ---- files

pub a_failed_write_leaves_its_prefix : files_done ((1 ∷ 2 ∷ 3 ∷ []) ∷ []) (Write 0 0 (7 ∷ 8 ∷ [])) (Fault 1) ≡ (7 ∷ 2 ∷ 3 ∷ []) ∷ []
a_failed_write_leaves_its_prefix = refl

pub a_read_changes_nothing : files_done ((1 ∷ []) ∷ []) (Read 0 0 4) (Bytes (1 ∷ [])) ≡ (1 ∷ []) ∷ []
a_read_changes_nothing = refl

pub a_read_gives_what_there_is : serves ((1 ∷ 2 ∷ 3 ∷ []) ∷ []) (Read 0 1 4) (Bytes (2 ∷ 3 ∷ [])) ≡ true
a_read_gives_what_there_is = refl

pub and_all_of_it : serves ((1 ∷ 2 ∷ 3 ∷ []) ∷ []) (Read 0 1 4) (Bytes (2 ∷ [])) ≡ false
and_all_of_it = refl

pub a_failed_read_gives_nothing : serves ((1 ∷ []) ∷ []) (Read 0 0 1) (Fault 0) ≡ true
a_failed_read_gives_nothing = refl

-- a file past those at the start is empty at first
pub a_further_file : file_of (padded ((1 ∷ []) ∷ [])) 15 ≡ []
a_further_file = refl

abbrev pub a_deed : Payload → Answer → Deed
a_deed payload answer = record { payload = payload; answer = answer }

-- a read is answered by what was written before it, not after
abbrev pub written_and_read : List Deed
written_and_read = a_deed (Write 0 0 (7 ∷ [])) (Count 1) ∷ a_deed (Read 0 0 1) (Bytes (7 ∷ [])) ∷ []

pub read_after_it_was_written : IsServed ([] ∷ []) written_and_read
read_after_it_was_written = (refl, (refl, tt))

pub read_before_it_is_written : IsServed ([] ∷ []) (a_deed (Read 0 0 1) (Bytes (7 ∷ [])) ∷ []) → ⊥
read_before_it_is_written h = let e = h.0 in cc

pub what_is_left : contents ([] ∷ []) written_and_read ≡ (7 ∷ []) ∷ []
what_is_left = refl

-- ---- a history over its files: core 0 reads byte 1 of a file of two, and the worker is party 1

abbrev pub reading : Answer → List Stamped
reading answer = by 0 1 1 (Offer 0 0 (Read 0 1 1)) ∷ by 1 2 0 (Did 0 0 answer) ∷ []

pub the_deed_of_it : deeds (start (16 ∷ []) [] 1) (reading (Bytes (9 ∷ []))) ≡ a_deed (Read 0 1 1) (Bytes (9 ∷ [])) ∷ []
the_deed_of_it = refl

pub a_read_of_what_stands_there : IsHistory (begun (16 ∷ []) [] 1 ((8 ∷ 9 ∷ []) ∷ [])) (reading (Bytes (9 ∷ [])))
a_read_of_what_stands_there = (refl, (refl, tt))

pub a_read_of_something_else : IsHistory (begun (16 ∷ []) [] 1 ((8 ∷ 9 ∷ []) ∷ [])) (reading (Bytes (8 ∷ []))) → ⊥
a_read_of_something_else h = let e = h.1.0 in cc

-- it is legal all the same
pub it_is_legal_all_the_same : IsLegal (start (16 ∷ []) [] 1) (reading (Bytes (8 ∷ [])))
it_is_legal_all_the_same = (refl, (refl, tt))

pub a_read_leaves_the_files : file_of (after_all (begun (16 ∷ []) [] 1 ((8 ∷ 9 ∷ []) ∷ [])) (reading (Bytes (9 ∷ [])))).files 0 ≡ 8 ∷ 9 ∷ []
a_read_leaves_the_files = refl

-- ---- a network: two cores with a channel and their requests, and a worker

-- sends 5, writes a byte behind the end of the file, and withdraws a read
abbrev pub first_core : List Entry
first_core =
    at 1 1 (Offer 0 0 (Int (pos 5 ∷ []))) ∷ at 2 1 (Offer 1 0 (Write 0 2 (7 ∷ []))) ∷ at 3 2 (Know 0 0) ∷ at 4 2 (Know 1 0) ∷ at 5 2 (Reply 1 0 (Count 1))
    ∷ at 6 3 (Offer 1 1 (Read 0 0 4)) ∷ at 7 3 (Withdraw 1 1) ∷ at 9 4 (Room 1 1) ∷ []

-- receives 5, and reads what was written
abbrev pub second_core : List Entry
second_core = at 2 1 (Got 0 0 (pos 5 ∷ [])) ∷ at 3 1 (Offer 2 0 (Read 0 1 4)) ∷ at 5 2 (Know 2 0) ∷ at 6 2 (Reply 2 0 (Bytes (0 ∷ 7 ∷ []))) ∷ []

abbrev pub worker : List Entry
worker = at 3 0 (Did 1 0 (Count 1)) ∷ at 4 0 (Did 2 0 (Bytes (0 ∷ 7 ∷ []))) ∷ at 8 0 (Pass 1 1) ∷ []

abbrev pub journals : List (List Entry)
journals = first_core ∷ second_core ∷ worker ∷ []

abbrev pub channel : Pair
channel = record {
  terms = record { capacity = 1; requests = false };
  owner = 0;
  peer = 1;
  offers = record { payload = Int (pos 5 ∷ []); stamp = 1; withdrawn = None; known = Some 2; reply = None } ∷ [];
  decisions = record { value = Some (Message (pos 5 ∷ [])); stamp = 2; answers = 1 } ∷ [];
}

abbrev pub first_asks : Pair
first_asks = record {
  terms = record { capacity = 16; requests = true };
  owner = 0;
  peer = 2;
  offers = record { payload = Write 0 2 (7 ∷ []); stamp = 2; withdrawn = None; known = Some 3; reply = Some (record { answer = Count 1; of = 3 }) }
      ∷ record { payload = Read 0 0 4; stamp = 6; withdrawn = Some 7; known = Some 8; reply = None } ∷ [];
  decisions = record { value = Some (Done (Count 1)); stamp = 3; answers = 2 } ∷ record { value = None; stamp = 8; answers = 7 } ∷ [];
}

abbrev pub second_asks : Pair
second_asks = record {
  terms = record { capacity = 16; requests = true };
  owner = 1;
  peer = 2;
  offers = record { payload = Read 0 1 4; stamp = 3; withdrawn = None; known = Some 4; reply = Some (record { answer = Bytes (0 ∷ 7 ∷ []); of = 4 }) } ∷ [];
  decisions = record { value = Some (Done (Bytes (0 ∷ 7 ∷ []))); stamp = 4; answers = 3 } ∷ [];
}

abbrev pub ends : ℕ → Pair
ends zero = channel
ends (suc zero) = first_asks
ends (suc (suc l)) = second_asks

-- each party noted what the ends tell
abbrev pub notes : ℕ → Event → ℕ
notes p e = seen_by ends e

channel_others : (p : ℕ) → p ≢ 0 → p ≢ 1 → entries_at 0 journals p ≡ []
channel_others zero a b = absurd (a refl)
channel_others (suc zero) a b = absurd (b refl)
channel_others (suc (suc zero)) a b = refl
channel_others (suc (suc (suc p))) a b = refl

first_others : (p : ℕ) → p ≢ 0 → p ≢ 2 → entries_at 1 journals p ≡ []
first_others zero a b = absurd (a refl)
first_others (suc zero) a b = refl
first_others (suc (suc zero)) a b = absurd (b refl)
first_others (suc (suc (suc p))) a b = refl

second_others : (p : ℕ) → p ≢ 1 → p ≢ 2 → entries_at 2 journals p ≡ []
second_others zero a b = refl
second_others (suc zero) a b = absurd (a refl)
second_others (suc (suc zero)) a b = absurd (b refl)
second_others (suc (suc (suc p))) a b = refl

pub apart : (m n : ℕ) → m < n → m ≢ n
apart m n h e = omega arith

channel_agrees : PairAgrees 2 notes journals 0 channel
channel_agrees = record {
  apart = apart 0 1 (omega arith);
  core = omega arith;
  party = omega arith;
  owner = (refl, omega arith, (refl, omega arith, refl));
  peer = (refl, omega arith, refl);
  both = ((omega arith, (Message (pos 5 ∷ []), refl, refl, refl), refl, omega arith, tt), tt);
  others = channel_others;
}

first_agrees : PairAgrees 2 notes journals 1 first_asks
first_agrees = record {
  apart = apart 0 2 (omega arith);
  core = omega arith;
  party = refl;
  owner = (refl, omega arith, (refl, omega arith, (refl, omega arith, (refl, omega arith, (refl, omega arith, (refl, omega arith, refl))))));
  peer = (refl, omega arith, (refl, omega arith, refl));
  both = ((omega arith, (Done (Count 1), refl, refl, refl), refl, omega arith, (refl, refl)), ((omega arith, (refl, refl), refl, omega arith, tt), tt));
  others = first_others;
}

second_agrees : PairAgrees 2 notes journals 2 second_asks
second_agrees = record {
  apart = apart 1 2 (omega arith);
  core = omega arith;
  party = refl;
  owner = (refl, omega arith, (refl, omega arith, (refl, omega arith, refl)));
  peer = (refl, omega arith, refl);
  both = ((omega arith, (Done (Bytes (0 ∷ 7 ∷ [])), refl, refl, refl), refl, omega arith, (refl, refl)), tt);
  others = second_others;
}

pub pair_at : (l : ℕ) → l < 3 → PairAgrees 2 notes journals l (ends l)
pair_at zero h = channel_agrees
pair_at (suc zero) h = first_agrees
pair_at (suc (suc zero)) h = second_agrees
pair_at (suc (suc (suc l))) h = absurd (omega arith)

terms_at : (l : ℕ) → l < 3 → (ends l).terms ≡ terms_of capacities 1 l
terms_at zero h = refl
terms_at (suc zero) h = refl
terms_at (suc (suc zero)) h = refl
terms_at (suc (suc (suc l))) h = absurd (omega arith)

first_at : (p : ℕ) (e : Event) → answers_none e ≡ true → notes p e ≡ 0
first_at p (Offer l n x) h = refl
first_at p (Withdraw l n) h = refl
first_at p (Know l n) h = cc
first_at p (Room l n) h = cc
first_at p (Got l n v) h = cc
first_at p (Pass l n) h = cc
first_at p (Did l n w) h = cc
first_at p (Reply l n w) h = cc

-- all entries are about links that there are
pub below : (m n : ℕ) → nat_lt m n ≡ true → m < n
below m n h = grind (arith, nat_tests)

abbrev pub all_below : ℕ → List Stamped → Bool
all_below n [] = true
all_below n (e ∷ es) = nat_lt (link_of e.entry.event) n && all_below n es

range_of : (n : ℕ) (es : List Stamped) → all_below n es ≡ true → InRange n es
range_of n [] h = tt
range_of n (e ∷ es) h = let p = both_true (nat_lt (link_of e.entry.event) n) (all_below n es) h in (below (link_of e.entry.event) n p.0, range_of n es p.1)

pub the_network_agrees : NetworkAgrees capacities 2 notes ends journals
the_network_agrees = record {
  parties = refl;
  terms = terms_at;
  pair = pair_at;
  turns = (refl, (refl, (refl, tt)));
  stamps = (
    (refl, (refl, (refl, (refl, (refl, (refl, (refl, (refl, tt)))))))),
    ((refl, (refl, (refl, (refl, tt)))), ((refl, (refl, (refl, tt))), tt)),
  );
  first = first_at;
  range = range_of 3 (all_from 0 journals) refl;
}

pub they_have_their_widths : AllOfTheirWidth widths (all_from 0 journals)
they_have_their_widths = (refl, (refl, (refl, (refl, (refl, (refl, (refl, (refl, (refl, (refl, (refl, (refl, (refl, (refl, (refl, tt)))))))))))))))

pub its_history_is_legal : IsLegal (start capacities widths 2) (merged journals)
its_history_is_legal = legal_network capacities widths 2 notes ends journals the_network_agrees they_have_their_widths

-- the file was empty, and is 0, 0, 7 afterwards
pub its_disk_agrees : DiskAgrees 2 ends journals (request_by ends) ([] ∷ []) ((0 ∷ 0 ∷ 7 ∷ []) ∷ [])
its_disk_agrees = record {
  noted = (refl, (refl, (refl, tt)));
  served = (refl, (refl, tt));
  contents = refl;
}

pub its_history_is_served : IsServed ([] ∷ []) (deeds (start capacities widths 2) (merged journals)) × ((0 ∷ 0 ∷ 7 ∷ []) ∷ [] ≡ contents ([] ∷ []) (deeds (start capacities widths 2)
    (merged journals)))
its_history_is_served = network_served capacities widths 2 notes ends journals (request_by ends) ([] ∷ []) ((0 ∷ 0 ∷ 7 ∷ []) ∷ []) the_network_agrees its_disk_agrees
