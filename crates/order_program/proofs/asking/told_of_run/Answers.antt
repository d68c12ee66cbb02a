use Rattle.std.proofs.Common.{sym, subst}
use Rattle.std.proofs.lemmas.Result.{IfOk-weaker}
use Rattle.order_words.specs.Called.{HasMeaning}
use Rattle.order_program.specs.inner.Telling.{IsToldOfRun}
use Rattle.order_program.proofs.Telling.{counts_there, told_entries, told_counts}
use Rattle.order_program.proofs.asking.told_of_run.Goals as goal

pub read_numbers-requires : goal.read_numbers-requires
read_numbers-requires c = counts_there c.in-Cut.counts (subst HasMeaning c.in-Cut.is c.requires.meant)

pub returns-in-Order : goal.returns-in-Order
returns-in-Order c = let m = c.in_ok-causal.ensures in
    IfOk-weaker c.told_of_entries.result _ _
    (λ told d. subst (λ given. IsToldOfRun c.args.code.now c.args.trace.now given told) (sym c.in-Order.is)
    (told_entries c.args.code.now c.args.trace.now _ c.from.result c.from-in-Order.result c.in-Order.one c.in-Order.other told m.entries c.from.ensures c.from-in-Order.ensures d))
    c.told_of_entries.ensures

pub returns : goal.returns
returns c = let m = c.in_ok-causal.ensures in
    IfOk-weaker c.told_of_cut.result _ _
    (λ told d. subst (λ given. IsToldOfRun c.args.code.now c.args.trace.now given told) (sym c.in-Cut.is)
    (told_counts c.args.code.now c.args.trace.now c.in_ok-causal.causal c.in-Cut.counts c.in_ok-counts-in-Cut.counts told m.steps m.entries c.in_ok-counts-in-Cut.ensures d)) c.told_of_cut.ensures
