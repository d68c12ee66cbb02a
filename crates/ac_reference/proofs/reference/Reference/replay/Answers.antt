use Rattle.std.proofs.Common.{◌<◌, length, sym, subst, arith}
use Rattle.ac_commands.specs.declared.program.Resolved.{Resolved}
use Rattle.ac_resolve.specs.Resolution.{resolved}
use Rattle.ac_compile.proofs.Compiling.{is_few}
use Rattle.ac_reference.proofs.Counts.{is_core}
use Rattle.ac_reference.proofs.Replays.{one_there, ok_there, none_there, misfit_there}
use Rattle.ac_reference.proofs.reference.Reference.replay.Goals as goal

pub replayed-requires-clause-ends : goal.replayed-requires-clause-ends
replayed-requires-clause-ends c =
    one_there c.in_ok-program.program (resolved c.args.checked.now) c.args.core c.args.steps c.in_ok-program.ensures.same
    (λ entries. (c.in_ok-_code.ensures.one_end c.args.core c.args.steps entries
    (is_core c.args.checked.now c.args.core c.requires)).0)

pub replayed-requires-clause-link : goal.replayed-requires-clause-link
replayed-requires-clause-link c =
    let p = c.in_ok-program.program in
    let few = is_few c.args.checked.now p c.in_ok-program.ensures.same c.tree.ensures.small in
    let there = subst (λ (x : Resolved). c.args.core < length x.cores) (sym c.in_ok-program.ensures.same) (is_core c.args.checked.now c.args.core c.requires) in
    omega (arith, few, there)

pub returns-clause-ok : goal.returns-clause-ok
returns-clause-ok c =
    ok_there c.in_ok-program.program (resolved c.args.checked.now) c.args.core c.args.steps c.in_ok-program.ensures.same c.args.journal.now.entries c.replayed.result c.replayed.ensures.ok

pub returns-clause-none : goal.returns-clause-none
returns-clause-none c = λ place e.
    none_there c.in_ok-program.program (resolved c.args.checked.now) c.args.core c.args.steps c.in_ok-program.ensures.same c.args.journal.now.entries (c.replayed.ensures.none place e)

pub returns-clause-misfit : goal.returns-clause-misfit
returns-clause-misfit c = λ place e.
    misfit_there c.in_ok-program.program (resolved c.args.checked.now) c.args.core c.args.steps c.in_ok-program.ensures.same c.args.journal.now.entries place (c.replayed.ensures.misfit place e)
