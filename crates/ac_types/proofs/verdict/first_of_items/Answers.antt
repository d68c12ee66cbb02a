use Rattle.ac_types.proofs.Gathering.{items_first}
use Rattle.ac_types.proofs.verdict.first_of_items.Goals as goal

pub returns : goal.returns
returns c =
    items_first c.args.items.now c.args.gathered.now.tables c.new.result c.args.walk.now c.see_items.new.walk c.new.ensures.first c.requires.scopes c.requires.tables.tables c.in_ok-see_items.ensures
