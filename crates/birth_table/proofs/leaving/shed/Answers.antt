use Rattle.std.proofs.Common.{◌<◌, length, ◌∙◌, arith}
use Rattle.birth_table.proofs.Steps.{shrinks_then}
use Rattle.birth_table.proofs.leaving.shed.Goals as goal

pub loop-slots-preserved : goal.loop-slots-preserved
loop-slots-preserved g c =
    let was = c.loop-slots in
    let d = c.drop_last.ensures in
    let long : c.args.top < length was.slots.items = omega (arith, c.loop-slots-test.true, c.len.ensures, was.slots.ok.0) in
    record {
      keys = d.keys;
      shrinks = shrinks_then c.args.slots.now.items was.slots.items c.drop_last.new.slots.items c.args.entries.now was.entries c.drop_last.new.entries was.invariant.shrinks d.shrinks;
      items = d.items c.args.top long ∙ was.invariant.items;
      within = omega (arith, long, d.length);
      capacity = d.capacity ∙ was.invariant.capacity;
    }
