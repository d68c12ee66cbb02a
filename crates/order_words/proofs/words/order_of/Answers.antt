use Rattle.std.proofs.Common.{List, ℕ, ◌≡◌, codes, rules, subst}
use Rattle.order_words.specs.Words.{IsNumber}
use Rattle.order_words.proofs.Operands.{asks_of_entries}
use Rattle.order_words.proofs.words.order_of.Goals as goal

pub returns-clause-some : goal.returns-clause-some
returns-clause-some c =
    let named : c.args.command.now ≡ codes "order" = search rules in
    asks_of_entries c.args.command.now c.args.one.now c.args.other.now c.in_ok-one.one c.in_ok-other.other named
    (subst (λ (bs : List ℕ). IsNumber bs c.in_ok-one.one) c.as_bytes.ensures.value c.in_ok-one.ensures.some)
    (subst (λ (bs : List ℕ). IsNumber bs c.in_ok-other.other) c.as_bytes-2.ensures.value c.in_ok-other.ensures.some)
