-- What the definitions say of states: of a run whose one entry is the offer of a core that then waits, while the other core has ended at once; and of
-- the histories of cuts of the small run of two offers.
use Rattle.std.proofs.Common.{◌≡◌, ℕ, zero, suc, ◌<◌, ◌≤◌, [], ◌∷◌, Some, None, pos, true, false, refl, ap, ◌∙◌, subst, arith}
use Rattle.std.specs.Prelude.{slice_get, slice_index}
use Rattle.std.proofs.lemmas.Option.{same_Some}
use Rattle.ac_base.specs.declared.ends.CoreEnd.{CoreEnd}
use Rattle.ac_base.specs.declared.entry.Event.TheVariants.{Offer, Got}
use Rattle.ac_base.specs.declared.entry.Payload.TheVariants.{Int}
use Rattle.ac_base.specs.declared.entry.Stamped.{Stamped}
use Rattle.ac_semantics.proofs.OperationExamples.{two_cores}
use Rattle.ac_semantics.specs.Replay.{Replays}
use Rattle.ac_translation.specs.Translation.{code_of}
use Rattle.ac_translation.specs.Same.{IsSame}
use Rattle.stack_code.specs.Parts.{Parts}
use Rattle.code_safety.specs.KeptEnds.{KeepsEnds}
use Rattle.ac_history.specs.History.{IsLegal, start}
use Rattle.ac_history.proofs.Examples.{by}
use Rattle.program_run.proofs.RunExamples.{its_offer as offered, it_waits, it_has_ended, the_sender_replays, the_other_replays}
use Rattle.trace_audit.specs.Laws.{IsSound}
use Rattle.trace_audit.proofs.TraceExamples.{its_offer, its_trace, it_is_a_run}
use Rattle.ac_causal.specs.Before.{answers, Answers}
use Rattle.ac_causal.specs.Cuts.{made_by, IsInside}
use Rattle.ac_causal.specs.Laws.{RunsAreLegal, ClosedCutsAreLegal}
use Rattle.ac_causal.specs.Run.{IsAudited}
use Rattle.ac_causal.specs.States.{cut_journal, AreStates, cut_journals, cut_history}
use Rattle.ac_causal.proofs.Examples.{entries, no_run, an_audit_says_no_to_it}

-- ---- states

pub with_its_offer_and_without : cut_journal its_trace.entries (1 ∷ 0 ∷ 0 ∷ []) 0 ∷ cut_journal its_trace.entries (0 ∷ 0 ∷ 0 ∷ []) 0 ∷ [] ≡ (offered ∷ []) ∷ [] ∷ []
with_its_offer_and_without = refl

each_state : (core : ℕ) (end : CoreEnd) → slice_get (it_waits ∷ it_has_ended ∷ []) core ≡ Some end
    → Replays two_cores core 9 (cut_journal its_trace.entries (1 ∷ 0 ∷ 0 ∷ []) core) (Some end)
each_state zero end h = subst (λ x. Replays two_cores 0 9 (offered ∷ []) (Some x)) (same_Some it_waits end h) the_sender_replays
each_state (suc zero) end h = subst (λ x. Replays two_cores 1 9 [] (Some x)) (same_Some it_has_ended end h) the_other_replays
each_state (suc (suc n)) end h = let no : None ≡ Some end = h in absurd (cc)

pub one_waits_and_one_has_ended : AreStates two_cores 9 its_trace.entries (1 ∷ 0 ∷ 0 ∷ []) (it_waits ∷ it_has_ended ∷ [])
one_waits_and_one_has_ended = record { every_core = refl; each = each_state }

-- each core has a state
pub not_of_one_core_alone : AreStates two_cores 9 its_trace.entries (1 ∷ 0 ∷ 0 ∷ []) (it_waits ∷ []) → ⊥
not_of_one_core_alone s = let n = s.every_core in omega (arith, n)

-- ---- histories of cuts

pub first_one_of_each : cut_journals entries 1 (1 ∷ 0 ∷ []) ≡ ((by 1 1 2 (Offer 1 0 (Int (pos 6 ∷ [])))).entry ∷ []) ∷ [] ∷ []
first_one_of_each = refl

pub the_offers_alone : cut_history entries (1 ∷ 1 ∷ 0 ∷ []) ≡ by 0 1 2 (Offer 0 0 (Int (pos 5 ∷ []))) ∷ by 1 1 2 (Offer 1 0 (Int (pos 6 ∷ []))) ∷ []
the_offers_alone = refl

pub two_of_one_core : cut_history entries (2 ∷ 0 ∷ 0 ∷ []) ≡ by 0 1 2 (Offer 0 0 (Int (pos 5 ∷ []))) ∷ by 0 2 2 (Got 1 0 (pos 6 ∷ [])) ∷ []
two_of_one_core = refl

-- ---- the law

its_counts : (p : ℕ) → p < 3 → slice_index (1 ∷ 0 ∷ 0 ∷ []) p ≤ made_by its_trace.entries p 1
its_counts zero lt = omega arith
its_counts (suc zero) lt = omega arith
its_counts (suc (suc zero)) lt = omega arith
its_counts (suc (suc (suc n))) lt = absurd (omega (arith, lt))

-- an offer answers nothing
closed_at : (i j : ℕ) → Answers its_trace.entries i j → IsInside its_trace.entries (1 ∷ 0 ∷ 0 ∷ []) j → IsInside its_trace.entries (1 ∷ 0 ∷ 0 ∷ []) i
closed_at i zero a h =
    let same : its_offer ≡ a.answering = same_Some its_offer a.answering a.answers_it in
    let bad : false ≡ true = ap (λ (x : Stamped). answers x.entry.event a.asking.entry.event) same ∙ a.answer in
    absurd (cc)
closed_at i (suc j) a h = let no : None ≡ Some a.answering = a.answers_it in absurd (cc)

pub the_offer_alone_is_legal : ClosedCutsAreLegal → IsSound two_cores → KeepsEnds (code_of two_cores) → IsLegal (start (1 ∷ 16 ∷ 16 ∷ []) (1 ∷ []) 2) (its_offer ∷ [])
the_offer_alone_is_legal law sound keeps =
    law two_cores its_trace (1 ∷ 0 ∷ 0 ∷ []) sound keeps it_is_a_run (record { so_many = refl; each = its_counts }) closed_at

-- ---- which traces there are

pub it_is_audited : IsSame (code_of two_cores) two_cores → IsAudited (code_of two_cores) its_trace
it_is_audited same = record { program = two_cores; code_is = refl; same = same; run = it_is_a_run }

pub one_that_is_no_run_is_not : RunsAreLegal → (code : Parts) → IsAudited code no_run → ⊥
one_that_is_no_run_is_not law code a = an_audit_says_no_to_it law a.program a.run
