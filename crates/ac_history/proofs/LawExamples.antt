-- What the laws of histories say of the small histories of the other examples.
-- Each takes a law as its hypothesis and gives it what the small history has.
use Rattle.std.proofs.Common.{◌≡◌, refl, ℕ, ◌≤◌, [], ◌∷◌}
use Rattle.std.specs.List.{AllByRecursion}
use Rattle.ac_base.specs.declared.entry.Answer.TheVariants.{Bytes, Count}
use Rattle.ac_links.specs.Journals.{LinkAgrees}
use Rattle.ac_links.specs.Party.{party_noted}
use Rattle.ac_history.specs.Merged.{all_from, merged}
use Rattle.ac_history.specs.History.{terms_of, IsLegal, start}
use Rattle.ac_history.specs.Files.{padded, IsServed, contents, deeds, deeds_by}
use Rattle.ac_history.specs.Served.{begun, IsHistory, after_all}
use Rattle.ac_history.specs.Agreement.{AllStamps, AllMade, link_part}
use Rattle.ac_history.specs.Network.{NetworkAgrees, DiskAgrees, seen_by, request_by, worker_entries}
use Rattle.ac_history.specs.Parties.{pair_of}
use Rattle.ac_history.specs.Working.{WorkerGoesOn}
use Rattle.ac_history.specs.Laws.{MergedIsLegal, NetworkIsLegal, PartiesAreANetwork, StampsAreFew, DeedsAreTheWorkers, NetworkIsServed, NetworkIsAHistory}
use Rattle.ac_history.specs.Laws.{HistoryIsLegalAndServed, LegalAndServedIsAHistory, FilesAreTheContents, TheWorkerGoesOn}
use Rattle.ac_history.proofs.Examples.{capacities, widths, they_have_their_widths, message, a_message_crosses, reading, a_read_of_what_stands_there, it_is_legal_all_the_same}
use Rattle.ac_history.proofs.Examples.{journals, ends, notes, the_network_agrees, its_disk_agrees}
use Rattle.ac_history.proofs.PartExamples.{asking, wanted, its_end, its_requests, its_files, its_link, its_disk, it_is_written}
use Rattle.ac_history.proofs.PartiesExamples.{held, the_parties_agree}

-- ---- the network of two cores, with one channel, and a worker

pub the_merged_journals_are_legal : MergedIsLegal → AllStamps (seen_by ends) journals
    → ((l : ℕ) → LinkAgrees (seen_by ends) (request_by ends) (terms_of capacities 1 l) [] (link_part l journals))
    → AllMade 1 2 (all_from 0 journals) → IsLegal (start capacities widths 2) (merged journals)
the_merged_journals_are_legal law stamps links made = law (seen_by ends) (request_by ends) capacities widths 2 journals refl stamps links made the_network_agrees.range they_have_their_widths

pub the_network_is_legal : NetworkIsLegal → IsLegal (start capacities widths 2) (merged journals)
the_network_is_legal law = law capacities widths 2 notes ends journals the_network_agrees they_have_their_widths

pub its_parties_make_it : PartiesAreANetwork
    → NetworkAgrees capacities 2 (λ p. party_noted (held p)) (pair_of capacities 2 (λ l. (ends l).owner) (λ l. (ends l).peer) (λ l. (ends l).offers) (λ l. (ends l).decisions)) journals
its_parties_make_it law = law capacities 2 (λ l. (ends l).owner) (λ l. (ends l).peer) held (λ l. (ends l).offers) (λ l. (ends l).decisions) journals the_parties_agree

pub no_stamp_is_above_three : StampsAreFew → AllByRecursion (λ e. e.entry.stamp ≤ 3) message
no_stamp_is_above_three law = law capacities widths 2 message a_message_crosses

pub its_deeds_are_the_workers : DeedsAreTheWorkers → deeds (start capacities widths 2) (merged journals) ≡ deeds_by (request_by ends) (worker_entries 2 journals)
its_deeds_are_the_workers law = law capacities widths 2 notes ends journals the_network_agrees

pub the_network_is_served : NetworkIsServed → IsServed ([] ∷ []) (deeds (start capacities widths 2) (merged journals))
the_network_is_served law = (law capacities widths 2 notes ends journals (request_by ends) ([] ∷ []) ((0 ∷ 0 ∷ 7 ∷ []) ∷ []) the_network_agrees its_disk_agrees).0

pub the_network_is_a_history : NetworkIsAHistory → DiskAgrees 2 ends journals (request_by ends) (padded ([] ∷ [])) (padded ((0 ∷ 0 ∷ 7 ∷ []) ∷ []))
    → IsHistory (begun capacities widths 2 ([] ∷ [])) (merged journals)
the_network_is_a_history law disk = (law capacities widths 2 notes ends journals (request_by ends) ([] ∷ []) (padded ((0 ∷ 0 ∷ 7 ∷ []) ∷ [])) the_network_agrees they_have_their_widths disk).0

-- ---- a read, entry by entry and by the whole

pub the_read_is_legal_and_served : HistoryIsLegalAndServed
    → IsLegal (start (16 ∷ []) [] 1) (reading (Bytes (9 ∷ []))) × IsServed (padded ((8 ∷ 9 ∷ []) ∷ [])) (deeds (start (16 ∷ []) [] 1) (reading (Bytes (9 ∷ []))))
the_read_is_legal_and_served law = law (begun (16 ∷ []) [] 1 ((8 ∷ 9 ∷ []) ∷ [])) (reading (Bytes (9 ∷ []))) a_read_of_what_stands_there

pub a_read_that_is_served_is_a_history : LegalAndServedIsAHistory → IsServed (padded ((8 ∷ []) ∷ [])) (deeds (start (16 ∷ []) [] 1) (reading (Bytes (8 ∷ []))))
    → IsHistory (begun (16 ∷ []) [] 1 ((8 ∷ []) ∷ [])) (reading (Bytes (8 ∷ [])))
a_read_that_is_served_is_a_history law = law (begun (16 ∷ []) [] 1 ((8 ∷ []) ∷ [])) (reading (Bytes (8 ∷ []))) it_is_legal_all_the_same

pub the_files_after_the_read : FilesAreTheContents → (after_all (begun (16 ∷ []) [] 1 ((8 ∷ 9 ∷ []) ∷ [])) (reading (Bytes (9 ∷ [])))).files
    ≡ contents (padded ((8 ∷ 9 ∷ []) ∷ [])) (deeds (start (16 ∷ []) [] 1) (reading (Bytes (9 ∷ []))))
the_files_after_the_read law = law (begun (16 ∷ []) [] 1 ((8 ∷ 9 ∷ []) ∷ [])) (reading (Bytes (9 ∷ [])))

-- ---- a worker that writes a byte

pub the_worker_has_written : TheWorkerGoesOn → WorkerGoesOn asking 1 its_end [] 0 (wanted ∷ []) [] [] its_requests its_files its_files wanted (Count 1)
the_worker_has_written law = law asking 1 its_end [] 0 (wanted ∷ []) [] [] its_requests its_files its_files its_link its_disk wanted (Count 1) it_is_written
