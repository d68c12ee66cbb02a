use Rattle.std.proofs.Common.{arith}
use Rattle.ac_parser.proofs.Shaped.{spelled_shape}
use Rattle.ac_parser.proofs.Weights.{is_small}
use Rattle.program_tests.proofs.reference.program.Goals as goal

pub returns-in-Ok-parse : goal.returns-in-Ok-parse
returns-in-Ok-parse c = (
  is_small c.in-Ok.tokens c.in-Ok-parse.program c.in-Ok-parse.ensures (omega (arith, c.in-Ok.ensures.few, c.requires)),
  spelled_shape c.in-Ok-parse.program c.in-Ok-parse.ensures.marks c.in-Ok-parse.ensures.spells,
)
