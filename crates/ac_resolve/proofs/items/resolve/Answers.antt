use Rattle.std.proofs.Common.{sym, subst}
use Rattle.ac_resolve.specs.InPlace.{IsInPlace}
use Rattle.ac_resolve.proofs.Functions.{resolved_is}
use Rattle.ac_resolve.proofs.ProgramInPlace.{all_in_place}
use Rattle.ac_resolve.proofs.items.resolve.Goals as goal

pub returns-clause-same : goal.returns-clause-same
returns-clause-same c =
    resolved_is c.args.checked.now c.tree.result.now c.as_slice-items.result.now c.in_ok-globals.globals.past c.in_ok-outermost.field-0.scopes c.new.result c.in_ok-cores.cores
    c.in_ok-functions.functions c.in_ok-channels.channels
    c.in_ok-files.files c.in_ok-globals.globals.starts c.in_ok-outermost.field-0.labels c.in_ok-outermost.field-0.slot c.functions_in.new.walk
    c.tree.ensures.tree c.as_slice-items.ensures c.in_ok-globals.ensures.past c.in_ok-outermost.ensures.scopes c.new.ensures c.in_ok-cores.ensures c.in_ok-functions.ensures.functions
    c.in_ok-channels.ensures c.in_ok-files.ensures
    c.in_ok-globals.ensures.starts c.in_ok-functions.ensures.walk

pub returns-clause-in_place : goal.returns-clause-in_place
returns-clause-in_place c = subst IsInPlace (sym (
    resolved_is c.args.checked.now c.tree.result.now c.as_slice-items.result.now c.in_ok-globals.globals.past c.in_ok-outermost.field-0.scopes c.new.result c.in_ok-cores.cores
    c.in_ok-functions.functions c.in_ok-channels.channels
    c.in_ok-files.files c.in_ok-globals.globals.starts c.in_ok-outermost.field-0.labels c.in_ok-outermost.field-0.slot c.functions_in.new.walk
    c.tree.ensures.tree c.as_slice-items.ensures c.in_ok-globals.ensures.past c.in_ok-outermost.ensures.scopes c.new.ensures c.in_ok-cores.ensures c.in_ok-functions.ensures.functions
    c.in_ok-channels.ensures c.in_ok-files.ensures
    c.in_ok-globals.ensures.starts c.in_ok-functions.ensures.walk
    )) (all_in_place c.args.checked.now c.tree.ensures.clean c.tree.ensures.shaped)
