use Rattle.std.proofs.Common.{◌<◌, ◌-◌, length, arith}
use Rattle.birth_table.proofs.Keys.{tells}
use Rattle.birth_table.proofs.index.last_slot.Goals as goal

pub returns-else-is_empty : goal.returns-else-is_empty
returns-else-is_empty c =
    let slots = c.args.slots.now in
    let some : 0 < length slots = grind (arith, c.if-is_empty.ensures) in
    tells slots c.requires.0 (length slots - 1) c.requires.1 (omega (arith, some))
