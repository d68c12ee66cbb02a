use Rattle.std.proofs.Common.{◌≡◌, ◌∙◌, rules, arith, w64, to_z, of_z}
use Rattle.std.proofs.lemmas.Int.{ints, to_z-of_z}
use Rattle.core_state.specs.Messages.{ints_at}
use Rattle.core_operators.proofs.Ints.{one_taken}
use Rattle.interpreter_state.proofs.memory.Memory.ints_at.Goals as goal

pub loop-index-preserved : goal.loop-index-preserved
loop-index-preserved c =
    let told = to_z w64 (of_z w64 c.read_at.result) in
    let same : told ≡ c.read_at.result = search (rules, ints, to_z-of_z) in
    one_taken c.args.self.now c.args.place c.loop-index.index told c.loop-index.ints c.push.new.self (ints_at c.args.self.now c.args.place)
    (omega (arith, c.loop-index-test.true, c.len-index-end.ensures)) (same ∙ c.read_at.ensures) c.in_ok-push.ensures.ok c.loop-index.invariant
