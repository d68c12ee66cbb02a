use Rattle.std.proofs.Common.{ap, ◌∙◌}
use Rattle.birth_table.specs.Keys.{key_of}
use Rattle.birth_table.proofs.Keys.{tells_key}
use Rattle.birth_table.proofs.index.look.Goals as goal

pub returns-clause-seen : goal.returns-clause-seen
returns-clause-seen c =
    let s = c.slot_of.result in
    tells_key c.args.slots.now s.number s.key (ap (key_of c.args.slots.now) c.slot_of.ensures.number ∙ c.slot_of.ensures.key)
