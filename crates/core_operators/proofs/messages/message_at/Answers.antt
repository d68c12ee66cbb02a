use Rattle.std.proofs.Common.{◌≡◌, ◌+◌, ◌∷◌, [], ◌∙◌, ap, length, rules, w64, to_z, of_z}
use Rattle.std.proofs.lemmas.Int.{ints, to_z-of_z}
use Rattle.std.proofs.lemmas.List.{length-append}
use Rattle.core_state.specs.Messages.{ints_at}
use Rattle.core_operators.proofs.Ints.{first_taken, one_taken}
use Rattle.core_operators.proofs.messages.message_at.Goals as goal

pub loop-index-init : goal.loop-index-init
loop-index-init c =
    let told = to_z w64 (of_z w64 c.read_at-first.result) in
    let same : told ≡ c.read_at-first.result = search (rules, ints, to_z-of_z) in
    record {
      taken = first_taken c.args.frames.now c.args.array told c.of-message.result c.requires.least (same ∙ c.read_at-first.ensures) c.of-message.ensures;
      many = ap length c.of-message.ensures;
    }

pub loop-index-preserved : goal.loop-index-preserved
loop-index-preserved c =
    let told = to_z w64 (of_z w64 c.read_at-value.result) in
    let same : told ≡ c.read_at-value.result = search (rules, ints, to_z-of_z) in
    record {
      taken = one_taken c.args.frames.now c.args.array c.loop-index.index told c.loop-index.message c.push.new.self (ints_at c.args.frames.now c.args.array)
          c.loop-index-test.true (same ∙ c.read_at-value.ensures) c.push.ensures c.loop-index.invariant.taken;
      many = ap length c.push.ensures ∙ length-append c.loop-index.message (told ∷ []) ∙ ap (λ n. n + 1) c.loop-index.invariant.many;
    }
