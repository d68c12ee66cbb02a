-- What the laws say of the run and the trace of the other examples; and the trace of a run of two cores of which one has sent 5 and the other
-- has received it, whose three entries stand in it by their stamps.
use Rattle.std.proofs.Common.{◌≡◌, ℕ, [], ◌∷◌, pos, sym, ap, ◌∙◌, refl, arith, length, map}
use Rattle.std.proofs.lemmas.List.{length-map}
use Rattle.std.proofs.lemmas.List.Elements.{All-nil}
use Rattle.ac_base.specs.declared.ends.EndWord.TheVariants as word
use Rattle.ac_base.specs.declared.entry.Event.{Event}
use Rattle.ac_base.specs.declared.entry.Event.TheVariants.{Offer, Know, Got}
use Rattle.ac_base.specs.declared.entry.Payload.TheVariants.{Int}
use Rattle.ac_base.specs.declared.entry.Stamped.{Stamped}
use Rattle.ac_semantics.proofs.OperationExamples.{two_cores}
use Rattle.program_run.proofs.RunExamples.{entry, finished, their_run, its_run, it_is_a_run as is_run}
use Rattle.trace_text.specs.declared.trace.Trace.{Trace}
use Rattle.trace_audit.specs.RunTrace.{IsRunTrace}
use Rattle.trace_audit.specs.Laws.{told_of, trace_of, IsSound, RunsAreTraced, IsTraced, TracesAreRuns}
use Rattle.trace_audit.proofs.TraceExamples.{its_trace, it_is_a_run}

-- ---- the trace of a run

pub what_is_told_of_the_sender : told_of finished ≡ record { word = word.Finished; steps = 1; output = [] }
what_is_told_of_the_sender = refl

abbrev by : ℕ → ℕ → Event → Stamped
by party stamp event = record { party = party; entry = entry stamp event }

-- the offer of the one, the receipt of the other, and that the first knows of it
pub the_trace_of_their_run : trace_of their_run ≡ record {
  steps = 9;
  start = [];
  entries = by 0 1 (Offer 0 0 (Int (pos 5 ∷ []))) ∷ by 1 2 (Got 0 0 (pos 5 ∷ [])) ∷ by 0 3 (Know 0 0) ∷ [];
  ends = told_of finished ∷ told_of finished ∷ [];
}
the_trace_of_their_run = refl

pub the_trace_of_its_run : trace_of its_run ≡ its_trace
the_trace_of_its_run = refl

pub it_is_a_trace : RunsAreTraced → IsSound two_cores → IsRunTrace two_cores (trace_of its_run)
it_is_a_trace law sound = law two_cores 9 [] its_run sound is_run tt refl (All-nil _)

-- ---- the run of a trace

pub its_trace_is_of_it : IsTraced two_cores its_trace
its_trace_is_of_it = record { ended = its_run; run = is_run; trace = refl; served = tt }

pub it_is_of_a_run : TracesAreRuns → IsSound two_cores → IsTraced two_cores its_trace
it_is_of_a_run law sound = law two_cores its_trace sound it_is_a_run

-- each core has an end
pub none_without_ends : IsTraced two_cores (record its_trace { ends = [] }) → ⊥
none_without_ends r =
    let n = r.run.every_core in
    let none : map told_of r.ended.cores ≡ [] = ap (λ (t : Trace). t.ends) r.trace in
    let long = sym (length-map r.ended.cores told_of) ∙ ap length none in omega (arith, n, long)

-- a program has a core
pub none_without_a_core : IsSound (record two_cores { cores = [] }) → ⊥
none_without_a_core s = let some = s.valid.lists.cores.some in omega (arith, some)
