-- Each entry that it takes is one more of the journal, which has a run with it; the first that it refuses is the first with which there is none.
use Rattle.std.proofs.Common.{◌≡◌, ◌∙◌, ◌+◌, ◌≤◌, length, take, Some, refl, ap, subst, arith}
use Rattle.std.specs.Prelude.{Err, Ok, OnErr, Result, slice_get}
use Rattle.stack_code.specs.Kept.{IsRanked}
use Rattle.stack_code.specs.Parts.{Parts}
use Rattle.stack_code.specs.Valid.{IsValid}
use Rattle.replay_laws.specs.Given.{HasRun}
use Rattle.core_replay.specs.Replayed.{Replayed}
use Rattle.core_replay.proofs.Following.{followed_more, followed_none, is_front, misfits_at, next_front, same_refusal, same_run, same_still, take_whole}
use Rattle.core_replay.proofs.replay.Replay.follow.Goals as goal

on_err : {X E : Type 0} (r : Result X E) (P : Type 0) → P → OnErr r P
on_err (Ok x) P h = tt
on_err (Err e) P h = h

pub loop-place-init : goal.loop-place-init
loop-place-init c =
    let r = c.args.self.now in
    let comes = c.ending-ending.ensures.comes in
    let runs : HasRun r.code r.core r.bound r.journal = subst (λ (x : Replayed). HasRun x.code x.core x.bound x.journal) c.self.view_is
    (record { end = comes.end.core; count = comes.end.instructions; runs = comes.comes }) in
    record {
      took_all = c.requires.took_all;
      same = record { code = refl; core = refl; bound = refl };
      taken = c.requires.new;
      runs = runs;
      followed = followed_none r c.args.journal.now.entries (subst (HasRun r.code r.core r.bound) c.requires.new runs);
    }

pub loop-place-preserved : goal.loop-place-preserved
loop-place-preserved c =
    let journal = c.args.journal.now.entries in
    let r = c.args.self.now in
    let s = c.take.new.self in
    let k = c.loop-place.place in
    let e = c.in_ok-entry.entry in
    let here : slice_get journal k ≡ Some e = c.in_ok-entry.ensures in
    let same = same_still r c.loop-place.self s c.loop-place.invariant.same c.take.ensures.same in
    let taken = next_front journal k e here c.loop-place.self.journal s.journal c.loop-place.invariant.taken (c.in_ok-take.ensures.took c.if-not-branch.false) in
    record {
      took_all = c.in_ok-take.ensures.took_all ∙ c.if-not-branch.false;
      same = same;
      taken = taken;
      runs = c.take.ensures.runs;
      followed = followed_more r journal k c.loop-place.invariant.followed (same_run r s same (take (k + 1) journal) taken c.take.ensures.runs);
    }

pub returns-in_err-entry-clause-err : goal.returns-in_err-entry-clause-err
returns-in_err-entry-clause-err c =
    on_err c.from_residual.result _ (is_front c.args.journal.now.entries c.loop-place.self.journal c.loop-place.place c.loop-place.invariant.taken)

pub returns-in_err-take-clause-err : goal.returns-in_err-take-clause-err
returns-in_err-take-clause-err c =
    on_err c.from_residual-in_err-take.result _ (is_front c.args.journal.now.entries c.take.new.self.journal c.loop-place.place (c.in_err-take.ensures.err ∙ c.loop-place.invariant.taken))

pub returns-then-not-branch-clause-follows : goal.returns-then-not-branch-clause-follows
returns-then-not-branch-clause-follows c =
    let journal = c.args.journal.now.entries in
    let r = c.args.self.now in
    let k = c.loop-place.place in
    let e = c.in_ok-entry.entry in
    let here : slice_get journal k ≡ Some e = c.in_ok-entry.ensures in
    let valid = subst IsValid (c.code.ensures ∙ ap (λ (x : Replayed). x.code) c.self.view_is) c.instrs-instrs.ensures.valid in
    let ranked = subst (λ (p : Parts). IsRanked p c.ranks-ranks.result.now) (c.code-2.ensures ∙ ap (λ (x : Replayed). x.code) c.self.view_is) c.ranks-ranks.ensures in
    let refused = same_refusal r c.loop-place.self c.loop-place.invariant.same (take k journal) c.loop-place.invariant.taken e (c.in_ok-take.ensures.refused c.if-not-branch.true) in (
      misfits_at r c.ranks-ranks.result.now valid ranked journal k e here refused c.loop-place.invariant.followed,
      c.in_ok-take.ensures.stays c.if-not-branch.true ∙ c.loop-place.invariant.taken,
    )

pub returns-clause-follows : goal.returns-clause-follows
returns-clause-follows c =
    let journal = c.args.journal.now.entries in
    let r = c.args.self.now in
    let long : length journal ≤ c.loop-place.place = let same = c.len-place-end.ensures.same in let past = c.loop-place-test.false in omega (arith, same, past) in
    let all = take_whole journal c.loop-place.place long in (
      subst (HasRun r.code r.core r.bound) all (c.loop-place.invariant.followed.runs c.loop-place.place (omega arith)),
      c.loop-place.invariant.taken ∙ all,
    )
