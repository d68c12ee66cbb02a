-- The network of the other examples by its parties, each with all its ends; and networks, disks and workers that do not agree.
-- What holds is put together end by end.
use Rattle.std.proofs.Common.{◌≡◌, ◌≢◌, refl, ℕ, zero, suc, ◌≤◌, ◌<◌, List, [], ◌∷◌, true, false, arith}
use Rattle.std.specs.Prelude.{◌==◌, slice_index_or}
use Rattle.std.specs.List.{filter}
use Rattle.std.proofs.lemmas.Bool.Decides.{nat_tests}
use Rattle.ac_base.specs.declared.entry.Answer.TheVariants.{Count}
use Rattle.ac_base.specs.declared.entry.Event.TheVariants.{Know}
use Rattle.ac_base.specs.declared.entry.Stamped.{Stamped}
use Rattle.ac_links.specs.Link.{link_of}
use Rattle.ac_links.specs.Order.{of_party, is_of_link}
use Rattle.ac_links.specs.Views.{Response}
use Rattle.ac_links.specs.Party.{LinkEnd, EndRuns, PartyAgrees}
use Rattle.ac_links.specs.Party.LinkEnd.{Owns, Decides, Absent}
use Rattle.ac_links.proofs.Growth.{both_true}
use Rattle.ac_history.specs.History.{terms_of}
use Rattle.ac_history.specs.Agreement.{InRange}
use Rattle.ac_history.specs.Network.{IsPeer, PairAgrees, NetworkAgrees, DiskAgrees, request_by}
use Rattle.ac_history.specs.Parties.{PartiesAgree}
use Rattle.ac_history.specs.Working.{WorkerLink, WorkerDisk}
use Rattle.ac_history.proofs.Examples.{by, capacities, channel, first_asks, second_asks, first_core, second_core, worker, journals, ends, notes, pair_at, below, all_below}
use Rattle.ac_history.proofs.PartExamples.{asking, wanted, its_end, its_requests, its_files}

-- ---- each party with its ends

abbrev pub held : ℕ → ℕ → LinkEnd
held zero zero = Owns channel.offers
held zero (suc zero) = Owns first_asks.offers
held zero (suc (suc l)) = Absent
held (suc zero) zero = Decides channel.decisions
held (suc zero) (suc zero) = Absent
held (suc zero) (suc (suc zero)) = Owns second_asks.offers
held (suc zero) (suc (suc (suc l))) = Absent
held (suc (suc zero)) zero = Absent
held (suc (suc zero)) (suc zero) = Decides first_asks.decisions
held (suc (suc zero)) (suc (suc zero)) = Decides second_asks.decisions
held (suc (suc zero)) (suc (suc (suc l))) = Absent
held (suc (suc (suc p))) l = Absent

-- a journal has no entries of links that are not there
none_of : (n k : ℕ) (es : List Stamped) → n ≤ k → all_below n es ≡ true → filter (is_of_link k) es ≡ []
none_of n k [] le h = refl
none_of n k (e ∷ es) le h =
    let p = both_true _ _ h in
    let lt : link_of e.entry.event < n = below _ _ p.0 in
    let other : (link_of e.entry.event == k) ≡ false = grind (arith, nat_tests) in
    rw other (none_of n k es le p.1)

first_runs : (l : ℕ) → EndRuns (terms_of capacities 1 l) (held 0 l) (filter (is_of_link l) (of_party 0 first_core))
first_runs zero = (refl, omega arith, (refl, omega arith, refl))
first_runs (suc zero) = (refl, omega arith, (refl, omega arith, (refl, omega arith, (refl, omega arith, (refl, omega arith, (refl, omega arith, refl))))))
first_runs (suc (suc l)) = none_of 2 (suc (suc l)) (of_party 0 first_core) (omega arith) refl

second_runs : (l : ℕ) → EndRuns (terms_of capacities 1 l) (held 1 l) (filter (is_of_link l) (of_party 1 second_core))
second_runs zero = (refl, omega arith, refl)
second_runs (suc zero) = refl
second_runs (suc (suc zero)) = (refl, omega arith, (refl, omega arith, (refl, omega arith, refl)))
second_runs (suc (suc (suc l))) = none_of 3 (suc (suc (suc l))) (of_party 1 second_core) (omega arith) refl

worker_runs : (l : ℕ) → EndRuns (terms_of capacities 1 l) (held 2 l) (filter (is_of_link l) (of_party 2 worker))
worker_runs zero = refl
worker_runs (suc zero) = (refl, omega arith, (refl, omega arith, refl))
worker_runs (suc (suc zero)) = (refl, omega arith, refl)
worker_runs (suc (suc (suc l))) = none_of 3 (suc (suc (suc l))) (of_party 2 worker) (omega arith) refl

each_party : (p : ℕ) → PartyAgrees (terms_of capacities 1) p (held p) (slice_index_or journals p [])
each_party zero = record { runs = first_runs; stamps = (refl, (refl, (refl, (refl, (refl, (refl, (refl, (refl, tt)))))))) }
each_party (suc zero) = record { runs = second_runs; stamps = (refl, (refl, (refl, (refl, tt)))) }
each_party (suc (suc zero)) = record { runs = worker_runs; stamps = (refl, (refl, (refl, tt))) }
each_party (suc (suc (suc p))) = record { runs = λ l. refl; stamps = tt }

abbrev owner : ℕ → ℕ
owner l = (ends l).owner

abbrev peer : ℕ → ℕ
peer l = (ends l).peer

owner_owns : (l : ℕ) → l < 3 → held (owner l) l ≡ Owns (ends l).offers
owner_owns zero h = refl
owner_owns (suc zero) h = refl
owner_owns (suc (suc zero)) h = refl
owner_owns (suc (suc (suc l))) h = absurd (omega arith)

peer_decides : (l : ℕ) → l < 3 → held (peer l) l ≡ Decides (ends l).decisions
peer_decides zero h = refl
peer_decides (suc zero) h = refl
peer_decides (suc (suc zero)) h = refl
peer_decides (suc (suc (suc l))) h = absurd (omega arith)

third_is_absent : (l p : ℕ) → l < 3 → p ≢ owner l → p ≢ peer l → held p l ≡ Absent
third_is_absent zero zero h a b = absurd (a refl)
third_is_absent zero (suc zero) h a b = absurd (b refl)
third_is_absent zero (suc (suc zero)) h a b = refl
third_is_absent (suc zero) zero h a b = absurd (a refl)
third_is_absent (suc zero) (suc zero) h a b = refl
third_is_absent (suc zero) (suc (suc zero)) h a b = absurd (b refl)
third_is_absent (suc (suc zero)) zero h a b = refl
third_is_absent (suc (suc zero)) (suc zero) h a b = absurd (a refl)
third_is_absent (suc (suc zero)) (suc (suc zero)) h a b = absurd (b refl)
third_is_absent (suc (suc (suc l))) p h a b = absurd (omega arith)
third_is_absent l (suc (suc (suc p))) h a b = refl

no_further_link : (l p : ℕ) → 3 ≤ l → held p l ≡ Absent
no_further_link zero p h = absurd (omega arith)
no_further_link (suc zero) p h = absurd (omega arith)
no_further_link (suc (suc zero)) p h = absurd (omega arith)
no_further_link (suc (suc (suc l))) zero h = refl
no_further_link (suc (suc (suc l))) (suc zero) h = refl
no_further_link (suc (suc (suc l))) (suc (suc zero)) h = refl
no_further_link (suc (suc (suc l))) (suc (suc (suc p))) h = refl

pub the_parties_agree : PartiesAgree capacities 2 owner peer held (λ l. (ends l).offers) (λ l. (ends l).decisions) journals
the_parties_agree = record {
  parties = refl;
  party = each_party;
  owns = owner_owns;
  decides = peer_decides;
  absent = third_is_absent;
  beyond = no_further_link;
  apart = λ l h. (pair_at l h).apart;
  core = λ l h. (pair_at l h).core;
  kind = kinds;
  both = λ l h. (pair_at l h).both;
  turns = (refl, (refl, (refl, tt)));
} where
  kinds : (l : ℕ) → l < 3 → IsPeer 2 ((terms_of capacities 1 l).requests) (peer l)
  kinds zero h = omega arith
  kinds (suc zero) h = refl
  kinds (suc (suc zero)) h = refl
  kinds (suc (suc (suc l))) h = absurd (omega arith)

-- ---- what does not agree

pub a_party_without_a_journal : PartiesAgree capacities 2 owner peer held (λ l. (ends l).offers) (λ l. (ends l).decisions) (first_core ∷ second_core ∷ []) → ⊥
a_party_without_a_journal a = let e = a.parties in cc

pub nor_a_network_without_it : NetworkAgrees capacities 2 notes ends (first_core ∷ second_core ∷ []) → ⊥
nor_a_network_without_it a = let e = a.parties in cc

-- nobody takes his own messages
pub owner_and_peer_are_two : PairAgrees 2 notes journals 0 (record channel { peer = 0 }) → ⊥
owner_and_peer_are_two a = a.apart refl

pub other_files_are_left : DiskAgrees 2 ends journals (request_by ends) ([] ∷ []) ([] ∷ []) → ⊥
other_files_are_left d = let e = d.contents in cc

pub a_link_that_is_not_there : InRange 1 (by 0 1 1 (Know 2 0) ∷ []) → ⊥
a_link_that_is_not_there r = let e = r.0 in omega arith

abbrev stray : Response
stray = record { answer = Count 1; of = 2 }

pub nothing_was_done_yet : WorkerLink asking its_end 0 (wanted ∷ []) [] (stray ∷ []) → ⊥
nothing_was_done_yet w = let e = w.on_ring in cc

pub nothing_was_written_yet : WorkerDisk asking 1 its_end [] its_requests its_files ((8 ∷ 7 ∷ []) ∷ []) → ⊥
nothing_was_written_yet w = let e = w.held in cc
