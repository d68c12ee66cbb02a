use Rattle.std.proofs.Common.{◌∙◌, subst}
use Rattle.ac_reference.specs.Misfits.{IsMisfit}
use Rattle.ac_reference.proofs.Replays.{it_enters, it_ends, is_misfit, unfit_there, one_place}
use Rattle.ac_reference.proofs.reference.replayed.Goals as goal

pub entered-entered-requires : goal.entered-entered-requires
entered-entered-requires c = it_enters c.args.program.now c.args.core c.args.steps c.requires.ends

pub new-ending-requires-clause-ends : goal.new-ending-requires-clause-ends
new-ending-requires-clause-ends c =
    it_ends c.args.program.now c.args.core c.args.steps c.requires.ends c.entered-entered.result.now c.entered-entered.ensures c.as_slice.result.now

pub returns-clause-misfit : goal.returns-clause-misfit
returns-clause-misfit c = λ place e.
    let p = c.args.program.now in
    let f = c.entered-entered.result.now in
    let x = c.in-Misfit.place in
    let journal = c.args.journal.now.entries in
    let run = c.new-ending.result in
    let is = c.new-ending.ensures in
    let unfit = unfit_there p run.program.now c.args.core run.core f run.function.now c.args.steps run.bound journal run.journal.now x is.program is.core is.function is.bound
    (is.journal ∙ (c.as_slice.ensures ∙ c.in_ok-entries.ensures)) (c.in_ok-end.ensures.unfit x c.in-Misfit.is) in
    subst (IsMisfit p c.args.core c.args.steps journal) (one_place x place e) (is_misfit p c.args.core c.args.steps c.requires.ends f c.entered-entered.ensures journal x unfit)
