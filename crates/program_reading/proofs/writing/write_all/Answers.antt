use Rattle.std.proofs.Common.{arith}
use Rattle.std.proofs.lemmas.Grind.{common_steps}
use Rattle.program_reading.proofs.Streams.{taken_more}
use Rattle.program_reading.proofs.writing.write_all.Goals as goal

pub writing-preserved : goal.writing-preserved
writing-preserved g c = record {
  within = grind (arith, common_steps, c.in_ok-at.ensures.bound);
  taken = taken_more _ _ _ c.args.text.now _ c.writing.at c.in_ok-at.field-0 c.writing.invariant.taken c.in_ok-at.ensures.bytes (grind (arith, common_steps));
  well = grind (arith, common_steps, c.in_ok-at.ensures.cause.unchanged);
}
