use Rattle.std.proofs.Common.{◌-◌, ap, ◌∙◌, arith, rules}
use Rattle.std.specs.List.{filter}
use Rattle.std.proofs.lemmas.Fn.{filter_same}
use Rattle.work_item.proofs.RowsCleared.{lies_out, filtered}
use Rattle.work_item.proofs.others.clear_others.Goals as goal

pub returns : goal.returns
returns c cells e =
    filter_same _ (lies_out c.args.start c.args.end) _ (λ x b f' k. search rules) _ _ c.retain.ensures.filtered ∙ ap (filter (lies_out c.args.start c.args.end)) e
    ∙ filtered c.args.start c.args.end cells 0 c.args.start (c.args.end - c.args.start) (omega arith) (omega (arith, c.requires))
