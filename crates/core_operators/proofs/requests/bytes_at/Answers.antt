use Rattle.std.proofs.Common.{◌≡◌, ◌∙◌, rules, w64, to_z, of_z}
use Rattle.std.proofs.lemmas.Int.{ints, to_z-of_z}
use Rattle.core_state.specs.Requests.{bytes_at}
use Rattle.core_operators.proofs.Bytes.{one_read}
use Rattle.core_operators.proofs.requests.bytes_at.Goals as goal

pub loop-index-preserved : goal.loop-index-preserved
loop-index-preserved c =
    let told = to_z w64 (of_z w64 c.read_at.result) in
    let same : told ≡ c.read_at.result = search (rules, ints, to_z-of_z) in
    one_read c.args.frames.now c.args.array c.loop-index.index c.low_byte.result told c.loop-index.bytes c.push.new.self (bytes_at c.args.frames.now c.args.array)
    c.loop-index-test.true (same ∙ c.read_at.ensures) c.low_byte.ensures c.in_ok-push.ensures.ok c.loop-index.invariant
