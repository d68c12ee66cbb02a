use Rattle.std.proofs.Common.{ap, subst, ◌∙◌}
use Rattle.core_replay.specs.Following.{Follows}
use Rattle.trace_audit.specs.RunTrace.{journal_of}
use Rattle.ac_replay.proofs.Following.{ends_under, never_misfits, runs_as}
use Rattle.ac_replay.proofs.replaying.end_of.Goals as goal

pub unreachable-requires : goal.unreachable-requires
unreachable-requires c =
    let made = c.in_ok-replay.ensures in
    let r = c.in_ok-replay.replay in
    let gathered = c.in_ok-journal.ensures ∙ ap (λ es. journal_of c.args.core es) c.as_slice.ensures in
    let run = runs_as r c.args.code.now c.args.core c.args.trace.now.steps (journal_of c.args.core c.args.trace.now.entries) c.in_ok-journal.journal.entries made.code made.core made.bound gathered
    c.requires.run in
    never_misfits r c.in_ok-journal.journal.entries c.follow.new.self.journal c.in-Misfit.place run
    (subst (λ it. Follows r c.in_ok-journal.journal.entries it c.follow.new.self.journal) c.in-Misfit.is c.in_ok-follow.ensures.follows)

pub returns : goal.returns
returns c =
    let made = c.in_ok-replay.ensures in
    let r = c.in_ok-replay.replay in
    let gathered = c.in_ok-journal.ensures ∙ ap (λ es. journal_of c.args.core es) c.as_slice.ensures in
    let follows = subst (λ it. Follows r c.in_ok-journal.journal.entries it c.follow.new.self.journal) c.in-Done.is c.in_ok-follow.ensures.follows in
    ends_under c.machine_end.result r c.follow.new.self c.args.code.now c.args.core c.args.trace.now.steps (journal_of c.args.core c.args.trace.now.entries) c.follow.ensures.same made.code
    made.core made.bound (follows.1 ∙ gathered) c.machine_end.ensures
