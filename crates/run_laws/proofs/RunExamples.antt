-- What the laws say of the two cores of the other examples, of which one has sent 5 and the other has received it, and which run they make.
use Rattle.std.proofs.Common.{◌≡◌, ℕ, zero, suc, ◌<◌, ◌≤◌, List, [], ◌∷◌, Some, true, false, refl, sym, subst, map, inl, arith}
use Rattle.std.specs.Prelude.{pos, slice_get}
use Rattle.std.specs.List.{AllByRecursion}
use Rattle.std.proofs.lemmas.List.Elements.{All-from_recursion}
use Rattle.ac_base.specs.Log.{Log}
use Rattle.ac_base.specs.declared.entry.Entry.{Entry}
use Rattle.ac_base.specs.declared.entry.Event.TheVariants.{Offer, Know}
use Rattle.ac_base.specs.declared.entry.Payload.TheVariants.{Int}
use Rattle.ac_base.specs.declared.entry.Stamped.{Stamped}
use Rattle.ac_base.specs.declared.ends.CoreEnd.{CoreEnd}
use Rattle.ac_base.specs.declared.ends.EndWord.TheVariants as word
use Rattle.ac_commands.specs.declared.program.Resolved.{Resolved}
use Rattle.ac_semantics.proofs.OperationExamples.{two_cores}
use Rattle.stack_code.specs.Valid.{IsCapacity, IsWidth, IsChannel, HasLinks, IsValid}
use Rattle.code_meaning.specs.Machine.{Runs}
use Rattle.ac_translation.specs.Translation.{code_of}
use Rattle.ac_translation.specs.Same.{IsSame}
use Rattle.ac_history.specs.Merged.{merged}
use Rattle.ac_links.specs.AtRest.{has_front}
use Rattle.ac_history.specs.Files.{deeds}
use Rattle.ac_history.specs.History.{IsLegal, has_its_width, link_at, start}
use Rattle.ac_history.specs.Quiet.{after_all_of, CoreIsQuiet, IsQuiet}
use Rattle.program_run.specs.declared.ended.Ended.{Ended}
use Rattle.program_run.specs.Parties.{owner_of, peer_of}
use Rattle.run_laws.specs.Cores.{CoreView, IsAtRest, IsDone, AreOfTheirWidth, HasFullClock}
use Rattle.program_run.specs.Run.{IsCoreRun, AreCoreRuns, AreInOrder, IsRunOf, EndsQuiet, history_of, nothing_yet}
use Rattle.run_laws.specs.Laws.{CoresAreLegal, NoClockIsFull, CoresAreQuiet, CoresAreServed, IsRunOfCores, CoresMakeARun}
use Rattle.run_laws.specs.Workers.{WorkerHasNoStamp}
use Rattle.run_laws.proofs.CoreExamples.{crossing, links_with, crossed, entry, sender, receiver, stop, both_cores, it_agrees_too}
use Rattle.run_laws.proofs.CoreExamples.{nothing_is_asked, it_can_go_no_further, by_place, it_has_ended, so_has_the_receiver, it_is_done, not_with_an_instruction_more}

-- ---- the laws

abbrev pub its_cores : List CoreView
its_cores = sender ∷ receiver ∷ []

pub its_channel : HasLinks crossing
its_channel = record {
  few = omega arith;
  each = refl;
  capacities = All-from_recursion IsCapacity crossing.capacities ((omega arith, omega arith), ((omega arith, omega arith), ((omega arith, omega arith), tt)));
  channels = All-from_recursion (IsChannel crossing) crossing.ends ((omega arith, omega arith, λ e. omega (arith, e)), tt);
  wide = refl;
  widths = All-from_recursion IsWidth (1 ∷ []) ((omega arith, omega arith), tt);
}

-- the one message has one int
pub they_have_their_widths : AreOfTheirWidth crossing its_cores
they_have_their_widths = by_place (λ k c. AllByRecursion (λ (e : Entry). has_its_width (1 ∷ []) e.event ≡ true) c.journal) (refl, (refl, tt)) (refl, tt)

pub not_with_an_int_more : AreOfTheirWidth crossing (record sender { journal = entry 1 (Offer 0 0 (Int (pos 5 ∷ pos 6 ∷ []))) ∷ [] } ∷ []) → ⊥
not_with_an_int_more h = let no : false ≡ true = (h 0 _ refl).0 in cc

pub they_are_legal : CoresAreLegal → IsLegal (start (1 ∷ 16 ∷ 16 ∷ []) (1 ∷ []) 2) (merged (sender.journal ∷ receiver.journal ∷ [] ∷ []))
they_are_legal law = law crossing 9 its_cores [] (links_with crossed) its_channel both_cores it_agrees_too they_have_their_widths

-- the last stamp is 3
pub no_clock_of_them_is_full : NoClockIsFull → HasFullClock receiver (links_with crossed) → ⊥
no_clock_of_them_is_full law = (law crossing 9 its_cores [] (links_with crossed) 3 its_channel both_cores it_agrees_too (omega arith, (omega arith, (omega arith, tt))) (omega arith)).0 1 receiver refl

pub nor_is_that_of_the_worker : NoClockIsFull → WorkerHasNoStamp [] (links_with crossed) → ⊥
nor_is_that_of_the_worker law = (law crossing 9 its_cores [] (links_with crossed) 3 its_channel both_cores it_agrees_too (omega arith, (omega arith, (omega arith, tt))) (omega arith)).1

pub they_are_quiet : CoresAreQuiet → IsQuiet (owner_of crossing.ends) (peer_of crossing.ends 2)
    (after_all_of (start (1 ∷ 16 ∷ 16 ∷ []) (1 ∷ []) 2) (merged (sender.journal ∷ receiver.journal ∷ [] ∷ []))) (sender.end.core ∷ receiver.end.core ∷ [])
they_are_quiet law = law crossing 9 its_cores [] (links_with crossed) its_channel both_cores it_agrees_too (by_place (λ k c. IsAtRest c
    (links_with crossed)) it_has_ended so_has_the_receiver) nothing_is_asked

-- they have done nothing, and a disk is as it was
pub nothing_was_done : CoresAreServed → deeds (start (1 ∷ 16 ∷ 16 ∷ []) (1 ∷ []) 2) (merged (sender.journal ∷ receiver.journal ∷ [] ∷ [])) ≡ []
nothing_was_done law = (law crossing 9 its_cores [] (links_with crossed) its_channel both_cores it_agrees_too).0

-- ---- their run

abbrev pub log : List Entry → Log
log entries = record { entries = entries; spare = 0 }

abbrev pub their_run : Ended
their_run = record {
  steps = 9;
  start = [];
  journals = log sender.journal ∷ log receiver.journal ∷ log [] ∷ [];
  cores = sender.end ∷ receiver.end ∷ [];
}

-- 1 before 3
pub they_stand_in_order : AreInOrder their_run.journals
they_stand_in_order = (((omega arith, tt), (tt, tt)), ((tt, tt), (tt, tt)))

pub not_the_other_way_round : AreInOrder (log (entry 3 (Know 0 0) ∷ entry 1 (Offer 0 0 (Int (pos 5 ∷ []))) ∷ []) ∷ []) → ⊥
not_the_other_way_round h = let le = h.0.0.0 in omega (arith, le)

pub it_is_made : IsRunOfCores 9 [] its_cores [] their_run
it_is_made = record { steps = refl; start = refl; journals = refl; ends = refl }

pub not_without_the_worker : IsRunOfCores 9 [] its_cores [] (record their_run { journals = log sender.journal ∷ log receiver.journal ∷ [] }) → ⊥
not_without_the_worker r = let e = r.journals in cc

pub not_from_other_files : IsRunOfCores 9 ([] ∷ []) its_cores [] their_run → ⊥
not_from_other_files r = let e = r.start in cc

pub it_is_a_run : CoresMakeARun → (program : Resolved) → IsValid crossing → crossing ≡ code_of program → IsSame crossing program → IsRunOf program 9 [] their_run
it_is_a_run law program valid is_code is_same =
    law program crossing 9 [] its_cores [] (links_with crossed) their_run valid is_code is_same (omega arith) both_cores it_agrees_too
    (by_place (λ k c. IsDone c (links_with crossed)) it_is_done (inl so_has_the_receiver)) it_can_go_no_further it_is_made

pub not_with_another_bound : (program : Resolved) → IsRunOf program 8 [] their_run → ⊥
not_with_another_bound program r = let e = r.steps in omega (arith, e)

pub its_first_core_runs : CoresMakeARun → (program : Resolved) → IsValid crossing → crossing ≡ code_of program → IsSame crossing program
    → IsCoreRun program 0 9 (log sender.journal) sender.end
its_first_core_runs law program valid is_code is_same = (it_is_a_run law program valid is_code is_same).cores.0

pub it_does_not_run_longer : (program : Resolved) → crossing ≡ code_of program → IsCoreRun program 0 9 (log sender.journal) (record sender.end { instructions = 7 }) → ⊥
it_does_not_run_longer program is_code r =
    not_with_an_instruction_more (subst (λ code. Runs code 0 9 sender.journal (record { core = Some sender.end.core; count = 7 })) (sym is_code) r.code)

pub no_core_without_a_journal : (program : Resolved) → AreCoreRuns program 9 0 [] (sender.end ∷ []) → ⊥
no_core_without_a_journal program r = r

-- ---- it ends quiet

-- the history on the channel from the first core to the second
abbrev pub their_history : List Stamped
their_history = history_of their_run.journals

pub in_the_order_of_stamps : map (λ (e : Stamped). e.entry.stamp) their_history ≡ 1 ∷ 2 ∷ 3 ∷ []
in_the_order_of_stamps = refl

pub before_any_entry : nothing_yet two_cores
    ≡ record { capacities = 1 ∷ 16 ∷ 16 ∷ []; widths = 1 ∷ []; channels = 1; cores = 2; links = [] ∷ [] ∷ [] ∷ []; lasts = 0 ∷ 0 ∷ 0 ∷ []; stamp = 0; party = 0 }
before_any_entry = refl

abbrev Quiet : ℕ → CoreEnd → Type 0
Quiet = CoreIsQuiet (owner_of crossing.ends) (peer_of crossing.ends 2) (after_all_of (nothing_yet two_cores) their_history)

both_quiet : (k : ℕ) (c : CoreEnd) → slice_get (sender.end.core ∷ receiver.end.core ∷ []) k ≡ Some c → Quiet k c
both_quiet zero c is = let e : sender.end.core ≡ c = cc in subst (Quiet 0) e
    (record { stopped = refl; owns = λ idle. let no : false ≡ true = idle in cc; decides = λ idle. let no : false ≡ true = idle in cc })
both_quiet (suc zero) c is = let e : receiver.end.core ≡ c = cc in subst (Quiet 1) e
    (record { stopped = refl; owns = λ idle. let no : false ≡ true = idle in cc; decides = λ idle. let no : false ≡ true = idle in cc })
both_quiet (suc (suc k)) c is = cc

pub it_ends_quiet : EndsQuiet two_cores their_history their_run.cores
it_ends_quiet = record { core = both_quiet; worker = worker } where
  worker : (l : ℕ) → l < 3 → 1 ≤ l → has_front (link_at (after_all_of (nothing_yet two_cores) their_history) l) ≡ false
  worker zero h past = absurd (omega arith)
  worker (suc zero) h past = refl
  worker (suc (suc zero)) h past = refl
  worker (suc (suc (suc l))) h past = absurd (omega arith)

-- a core that has neither ended nor is idle
pub not_where_a_core_could_go_on : EndsQuiet two_cores their_history (stop word.Stalled [] false ∷ receiver.end ∷ []) → ⊥
not_where_a_core_could_go_on q = let e = (q.core 0 (stop word.Stalled [] false).core refl).stopped in cc
