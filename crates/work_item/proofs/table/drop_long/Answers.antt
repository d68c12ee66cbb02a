use Rattle.std.proofs.Common.{◌∙◌}
use Rattle.std.proofs.lemmas.List.{set-set}
use Rattle.work_item.proofs.table.drop_long.Goals as goal

pub returns : goal.returns
returns c = c.give_back.ensures.items ∙ set-set _ _ _ _
