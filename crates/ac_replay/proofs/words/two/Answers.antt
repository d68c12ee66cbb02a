use Rattle.std.proofs.Common.{rules}
use Rattle.ac_words.specs.Words.{IsPlain}
use Rattle.ac_replay.proofs.Calls.{two_operands}
use Rattle.ac_replay.proofs.words.two.Goals as goal

pub returns-then-is_plain-2-clause-some : goal.returns-then-is_plain-2-clause-some
returns-then-is_plain-2-clause-some c =
    let first : IsPlain c.args.first.now = search rules in
    let second : IsPlain c.args.second.now = search rules in
    two_operands c.args.first.now c.args.second.now first second
