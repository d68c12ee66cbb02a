-- What the definitions say of a program whose core 0 sends 5 on the channel to core 1, which ends at once: its offer is made, and no one takes it.
-- Each part holds of its trace, and not of one with another stamp, another party, the offer twice, or another end.
use Rattle.std.proofs.Common.{◌≡◌, ℕ, List, [], ◌∷◌, ◌++◌, pos, refl, subst, ◌*◌, arith, length}
use Rattle.std.proofs.lemmas.List.Elements.{All-nil}
use Rattle.ac_base.specs.declared.entry.Event.{Event}
use Rattle.ac_base.specs.declared.entry.Event.TheVariants.{Offer}
use Rattle.ac_base.specs.declared.entry.Payload.TheVariants.{Int}
use Rattle.ac_base.specs.declared.entry.Stamped.{Stamped}
use Rattle.ac_base.specs.declared.ends.EndWord.TheVariants as word
use Rattle.ac_semantics.proofs.OperationExamples.{two_cores}
use Rattle.ac_history.specs.Served.{begun}
use Rattle.program_run.proofs.RunExamples.{its_offer as offered, it_waits, it_has_ended, the_sender_replays, the_other_replays, it_ends_quiet}
use Rattle.trace_text.specs.declared.trace.Trace.{Trace}
use Rattle.trace_text.specs.declared.trace.TraceEnd.{TraceEnd}
use Rattle.trace_audit.specs.declared.verdict.Verdict.TheVariants.{Yes, NoAt, NoAtEnd}
use Rattle.trace_audit.specs.RunTrace.{journal_of, HasReplay, nothing_yet, Fits, AllFit, EndsAsTold, AllEndAsTold, file_limit, EndsWell, IsRunTrace}
use Rattle.trace_audit.specs.Judged.{IsFirstMisfit, Judges}

-- ---- its trace

abbrev by : ℕ → ℕ → ℕ → Event → Stamped
by party stamp turn event = record { party = party; entry = record { stamp = stamp; turn = turn; event = event } }

abbrev pub its_offer : Stamped
its_offer = record { party = 0; entry = offered }

abbrev pub waits_told : TraceEnd
waits_told = record { word = word.Stalled; steps = 1; output = [] }

abbrev pub ended_told : TraceEnd
ended_told = record { word = word.Finished; steps = 0; output = [] }

abbrev pub its_trace : Trace
its_trace = record { steps = 9; start = []; entries = its_offer ∷ []; ends = waits_told ∷ ended_told ∷ [] }

pub whose_entries : (journal_of 0 (its_offer ∷ by 2 2 0 (Offer 1 0 (Int (pos 6 ∷ []))) ∷ []) ≡ its_offer.entry ∷ []) × (journal_of 1 (its_offer ∷ []) ≡ [])
whose_entries = (refl, refl)

-- ---- its cores

pub it_has_a_replay : HasReplay two_cores 0 9 (journal_of 0 its_trace.entries)
it_has_a_replay = record { end = it_waits; replays = the_sender_replays }

-- there is no third core
pub no_third_core_has_one : HasReplay two_cores 2 9 [] → ⊥
no_third_core_has_one r = let e = r.replays.enters.core_is in cc

-- ---- its entry

-- a channel, and a link for the requests of each core
pub before_any_entry : nothing_yet two_cores its_trace ≡ begun (1 ∷ 16 ∷ 16 ∷ []) (1 ∷ []) 2 []
before_any_entry = refl

pub the_offer_fits : Fits two_cores its_trace [] its_offer
the_offer_fits = record { follows = refl; replay = λ lt. it_has_a_replay }

-- its stamp is 1
pub not_with_another_stamp : Fits two_cores its_trace [] (by 0 2 1 (Offer 0 0 (Int (pos 5 ∷ [])))) → ⊥
not_with_another_stamp f = let e = f.follows in cc

-- the worker makes no offer, and there is no party after it
pub not_by_the_worker : Fits two_cores its_trace [] (by 2 1 1 (Offer 0 0 (Int (pos 5 ∷ [])))) → ⊥
not_by_the_worker f = let e = f.follows in cc

pub nor_by_another : Fits two_cores its_trace [] (by 3 1 1 (Offer 0 0 (Int (pos 5 ∷ [])))) → ⊥
nor_by_another f = let e = f.follows in cc

pub all_fit : AllFit two_cores its_trace [] its_trace.entries
all_fit = (the_offer_fits, tt)

-- it is not made twice: its number is that of the offers before it
pub not_twice : AllFit two_cores its_trace [] (its_offer ∷ its_offer ∷ []) → ⊥
not_twice a = let e = a.1.0.follows in cc

-- ---- its end

pub the_sender_ends_so : EndsAsTold two_cores its_trace 0 waits_told it_waits
the_sender_ends_so = record { replays = the_sender_replays; word = refl; steps = refl; output = refl }

pub the_other_ends_so : EndsAsTold two_cores its_trace 1 ended_told it_has_ended
the_other_ends_so = record { replays = the_other_replays; word = refl; steps = refl; output = refl }

pub not_with_another_output : EndsAsTold two_cores its_trace 1 (record ended_told { output = 7 ∷ [] }) it_has_ended → ⊥
not_with_another_output e = let o = e.output in cc

pub both_end_so : AllEndAsTold two_cores its_trace 0 its_trace.ends (it_waits ∷ it_has_ended ∷ [])
both_end_so = (the_sender_ends_so, (the_other_ends_so, tt))

pub not_only_one : AllEndAsTold two_cores its_trace 0 its_trace.ends (it_waits ∷ []) → ⊥
not_only_one e = e.1

pub a_file_has_a_megabyte : file_limit ≡ 1024 * 1024
a_file_has_a_megabyte = refl

pub it_ends_well : EndsWell two_cores its_trace
it_ends_well = record {
  files = refl;
  short = All-nil _;
  every_core = refl;
  ends = it_waits ∷ it_has_ended ∷ [];
  told = both_end_so;
  quiet = it_ends_quiet;
}

-- each core has an end, and the program has no file
pub not_with_one_end : EndsWell two_cores (record its_trace { ends = waits_told ∷ [] }) → ⊥
not_with_one_end e = let n = e.every_core in omega (arith, n)

pub not_with_a_file : EndsWell two_cores (record its_trace { start = [] ∷ [] }) → ⊥
not_with_a_file e = let n = e.files in omega (arith, n)

-- ---- the whole

pub it_is_a_run : IsRunTrace two_cores its_trace
it_is_a_run = record { entries = all_fit; end = it_ends_well }

pub not_with_the_offer_twice : IsRunTrace two_cores (record its_trace { entries = its_offer ∷ its_offer ∷ [] }) → ⊥
not_with_the_offer_twice r = let e = r.entries.1.0.follows in cc

abbrev pub twice : Trace
twice = record its_trace { entries = its_offer ∷ its_offer ∷ [] }

pub the_second_is_the_first_misfit : IsFirstMisfit two_cores twice 1
the_second_is_the_first_misfit = record {
  before = its_offer ∷ [];
  misfit = its_offer;
  others = [];
  form = refl;
  place_is = refl;
  fit = (record { follows = refl; replay = λ lt. it_has_a_replay }, tt);
  fits_not = λ f. let e = f.follows in cc;
}

pub not_the_first : IsFirstMisfit two_cores twice 0 → ⊥
not_the_first m = first m.before m.misfit m.others m.form m.place_is m.fits_not
  where
    first : (before : List Stamped) (misfit : Stamped) (others : List Stamped) → twice.entries ≡ before ++ misfit ∷ others → 0 ≡ length before
        → (Fits two_cores twice before misfit → ⊥) → ⊥
    first [] misfit others form is not = not (let e : its_offer ≡ misfit = cc in subst (Fits two_cores twice []) e (record { follows = refl; replay = λ lt. it_has_a_replay }))
    first (s ∷ before) misfit others form is not = omega (arith, is)

pub it_is_judged_yes : Judges two_cores its_trace Yes
it_is_judged_yes = it_is_a_run

pub twice_is_judged_no : Judges two_cores twice (NoAt 1)
twice_is_judged_no = the_second_is_the_first_misfit

pub one_end_is_judged_no : Judges two_cores (record its_trace { ends = waits_told ∷ [] }) NoAtEnd
one_end_is_judged_no = ((record { follows = refl; replay = λ lt. it_has_a_replay }, tt), not_with_one_end)
