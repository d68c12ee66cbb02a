use Rattle.std.proofs.Common.{◌≡◌, ◌+◌, ◌<◌, length, sym, ap, ◌∙◌, arith}
use Rattle.std.proofs.lemmas.Bool.{eq-eqb}
use Rattle.core_state.specs.Arrivals.{offers_on}
use Rattle.core_replay.proofs.Numbers.{below, on_few}
use Rattle.core_replay.proofs.arrivals.is_next.Goals as goal

pub returns-then-number-count-clause-next : goal.returns-then-number-count-clause-next
returns-then-number-count-clause-next c =
    let journal = c.args.machine.now.journal in
    let few = on_few c.args.link journal in
    let own : c.args.number ≡ offers_on c.args.link journal = c.if-number-count.true ∙ c.count.ensures ∙ c.requires.count c.args.link in
    let all : c.len-most.result ≡ length journal = c.len-most.ensures.same ∙ ap length c.journal.ensures in
    let low : c.args.number < c.len-most.result + 1 = omega (arith, few, own, all) in
    below c.args.number (c.len-most.result + 1) low ∙ sym (eq-eqb c.args.number (offers_on c.args.link journal) own)
