use Rattle.std.proofs.Common.{set}
use Rattle.birth_table.proofs.Going.{read_live, read_less, read_count}
use Rattle.birth_table.proofs.Steps.{keys_removed, shrinks_removed}
use Rattle.birth_table.proofs.leaving.empty.Goals as goal

pub returns-clause-keys : goal.returns-clause-keys
returns-clause-keys g c =
    let slots = c.args.slots.now.items in
    let s = c.index_mut-slot.result.now in
    let read = c.index_mut-slot.ensures.value in
    keys_removed slots (set slots c.args.place (record { number = s.number; key = 18446744073709551615 })) c.args.entries.now c.remove.new.self s c.requires.keys
    (read_live slots c.args.place s read c.requires.lives) (read_less slots c.args.place s read c.requires.lives) c.remove.ensures.updates
    (read_count slots c.args.place s read c.requires.lives) c.remove.ensures.len

pub returns-clause-shrinks : goal.returns-clause-shrinks
returns-clause-shrinks g c =
    let slots = c.args.slots.now.items in
    let s = c.index_mut-slot.result.now in
    let read = c.index_mut-slot.ensures.value in
    shrinks_removed slots (set slots c.args.place (record { number = s.number; key = 18446744073709551615 })) c.args.entries.now c.remove.new.self s c.requires.keys
    (read_live slots c.args.place s read c.requires.lives) (read_less slots c.args.place s read c.requires.lives) c.remove.ensures.updates c.remove.ensures.len
    c.remove.ensures.capacity
