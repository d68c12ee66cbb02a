use Rattle.std.proofs.Common.{sym}
use Rattle.birth_table.proofs.Keys.{tells_key}
use Rattle.birth_table.proofs.index.key_or_gone.Goals as goal

pub returns-in-Some : goal.returns-in-Some
returns-in-Some c = tells_key c.args.slots.now c.args.number c.in-Some.key (sym c.in-Some.ensures)
