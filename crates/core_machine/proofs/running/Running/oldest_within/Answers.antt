use Rattle.std.proofs.Common.{◌<◌, length, sym, ◌∙◌, arith}
use Rattle.core_state.specs.Cancelling.{is_to_try}
use Rattle.code_meaning.specs.Machine.{is_inside}
use Rattle.core_machine.specs.State.{flat_of}
use Rattle.core_machine.proofs.Rounds.{seeks_first, seeks_next, sought_here}
use Rattle.core_machine.proofs.running.Running.oldest_within.Goals as goal

pub loop-place-init : goal.loop-place-init
loop-place-init c = seeks_first (is_to_try (is_inside (flat_of c.args.self.now) c.args.block)) c.args.self.now.outstanding.operations

pub returns-then-is_to_try : goal.returns-then-is_to_try
returns-then-is_to_try c =
    let test = is_to_try (is_inside (flat_of c.args.self.now) c.args.block) in
    let os = c.args.self.now.outstanding.operations in
    let lt = c.loop-place-test.true in
    let many = c.len.ensures in
    let within : c.loop-place.place < length os = omega (arith, lt, many) in
    sym (sought_here test os c.loop-place.place c.get-operation.result.now c.loop-place.invariant within c.get-operation.ensures (sym c.is_to_try.ensures ∙ c.if-is_to_try.true))

pub loop-place-preserved : goal.loop-place-preserved
loop-place-preserved c =
    let test = is_to_try (is_inside (flat_of c.args.self.now) c.args.block) in
    let os = c.args.self.now.outstanding.operations in
    let lt = c.loop-place-test.true in
    let many = c.len.ensures in
    let within : c.loop-place.place < length os = omega (arith, lt, many) in
    seeks_next test os c.loop-place.place c.get-operation.result.now c.loop-place.invariant within c.get-operation.ensures (sym c.is_to_try.ensures ∙ c.if-is_to_try.false)
