use Rattle.std.proofs.Common.{◌≡◌, ◌<◌, [], length, drop, sym, ap, ◌∙◌, arith}
use Rattle.std.specs.Prelude.{is_some}
use Rattle.std.specs.List.{position_from}
use Rattle.std.proofs.Math.ListN.{drop_of_length-le}
use Rattle.cancel_scope.specs.Outstanding.{is_begun}
use Rattle.core_machine.proofs.Rounds.{seeks_first, seeks_next, sought_here, oldest_found, none_within}
use Rattle.core_machine.proofs.numbered.has_begun.Goals as goal

pub loop-place-init : goal.loop-place-init
loop-place-init c = seeks_first (is_begun c.args.link c.args.number) c.args.outstanding.now.operations

pub returns-then-is_begun : goal.returns-then-is_begun
returns-then-is_begun c =
    let test = is_begun c.args.link c.args.number in
    let os = c.args.outstanding.now.operations in
    let many = c.len-place-end.ensures in
    let lt = c.loop-place-test.true in
    let within : c.loop-place.place < length os = omega (arith, lt, many) in
    let there = c.get-operation.ensures in
    let first = sought_here test os c.loop-place.place c.get-operation.result.now c.loop-place.invariant within there (sym c.is_begun.ensures ∙ c.if-is_begun.true) in
    sym (ap is_some (oldest_found test os c.loop-place.place c.get-operation.result.now first there))

pub loop-place-preserved : goal.loop-place-preserved
loop-place-preserved c =
    let test = is_begun c.args.link c.args.number in
    let os = c.args.outstanding.now.operations in
    let many = c.len-place-end.ensures in
    let lt = c.loop-place-test.true in
    let within : c.loop-place.place < length os = omega (arith, lt, many) in
    seeks_next test os c.loop-place.place c.get-operation.result.now c.loop-place.invariant within c.get-operation.ensures (sym c.is_begun.ensures ∙ c.if-is_begun.false)

pub returns : goal.returns
returns c =
    let test = is_begun c.args.link c.args.number in
    let os = c.args.outstanding.now.operations in
    let many = c.len-place-end.ensures in
    let past = c.loop-place-test.false in
    let none : drop c.loop-place.place os ≡ [] = drop_of_length-le os (omega (arith, past, many)) in
    sym (ap is_some (none_within test os (c.loop-place.invariant ∙ ap (position_from test c.loop-place.place) none)))
