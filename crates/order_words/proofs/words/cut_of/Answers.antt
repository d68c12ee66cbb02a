use Rattle.std.proofs.Common.{◌≡◌, codes, rules}
use Rattle.order_words.specs.Words.{IsOfNumbers}
use Rattle.order_words.proofs.Operands.{asks_of_counts}
use Rattle.order_words.proofs.words.cut_of.Goals as goal

pub returns-clause-some : goal.returns-clause-some
returns-clause-some c =
    let named : c.args.command.now ≡ codes "cut" = search rules in
    let are : IsOfNumbers c.args.counts.now = search rules in
    asks_of_counts c.args.command.now c.args.counts named are
