use Rattle.std.proofs.lemmas.List.{set_split}
use Rattle.std.proofs.Common.{arith}
use Rattle.birth_table.proofs.index.put.Goals as goal

pub returns-then-place-len-clause-items : goal.returns-then-place-len-clause-items
returns-then-place-len-clause-items c =
    set_split c.args.slots.now.items c.args.place c.args.slot (omega (arith, c.if-place-len.true, c.len.ensures))
