use Rattle.std.proofs.Common.{[], sym, subst, ◌∙◌, List, refl, length, take, ◌≡◌}
use Rattle.std.proofs.lemmas.Option.{slice_get_read}
use Rattle.ac_base.specs.declared.entry.Stamped.{Stamped}
use Rattle.trace_audit.specs.inner.Coded.{AllFit}
use Rattle.trace_audit.specs.inner.Replaying.{HasTaken, StepsOn}
use Rattle.trace_audit.proofs.Stepping.{goes_further, is_misfit, take_whole}
use Rattle.trace_audit.proofs.auditing.first_misfit.Goals as goal

pub returns-then-not-branch-clause-some : goal.returns-then-not-branch-clause-some
returns-then-not-branch-clause-some c =
    is_misfit c.args.legal.now c.loop-place.legal c.step.new.legal c.args.replays.now.cores.items c.loop-place.replays.cores.items c.step.new.replays.cores.items c.args.entries.now
    c.loop-place.place c.index-entries-place.result (slice_get_read c.args.entries.now (length c.args.entries.now) c.loop-place.place c.index-entries-place.result refl
    c.loop-place-test.true c.index-entries-place.is) c.loop-place.invariant.taken
    (subst (λ b. StepsOn c.loop-place.legal c.loop-place.replays.cores.items c.index-entries-place.result b c.step.new.legal c.step.new.replays.cores.items) c.if-not-branch.true
    c.in_ok-step.ensures.steps)

pub loop-place-preserved : goal.loop-place-preserved
loop-place-preserved c = record {
  taken = goes_further c.args.legal.now c.loop-place.legal c.step.new.legal c.args.replays.now.cores.items c.loop-place.replays.cores.items c.step.new.replays.cores.items
      c.args.entries.now c.loop-place.place c.index-entries-place.result (slice_get_read c.args.entries.now (length c.args.entries.now) c.loop-place.place c.index-entries-place.result refl
      c.loop-place-test.true c.index-entries-place.is) c.loop-place.invariant.taken
      (subst (λ b. StepsOn c.loop-place.legal c.loop-place.replays.cores.items c.index-entries-place.result b c.step.new.legal c.step.new.replays.cores.items) c.if-not-branch.false
      c.in_ok-step.ensures.steps);
  took_all = c.in_ok-step.ensures.took_all c.if-not-branch.false;
}

pub returns-clause-none : goal.returns-clause-none
returns-clause-none c = λ code t same h.
    let r = c.loop-place.invariant.taken code t h in
    let all : take c.loop-place.place c.args.entries.now ≡ t.entries = take_whole c.args.entries.now c.loop-place.place c.loop-place-test.false ∙ sym same in (
      subst (λ (es : List Stamped). HasTaken code t es c.loop-place.legal c.loop-place.replays.cores.items) all r.0,
      subst (λ (es : List Stamped). AllFit code t [] es) all r.1,
    )
