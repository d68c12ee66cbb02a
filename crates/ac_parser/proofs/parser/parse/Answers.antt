use Rattle.std.proofs.Common.{subst}
use Rattle.ac_expressions.specs.declared.cursor.Halt.{Halt}
use Rattle.ac_expressions.specs.Returned.{Fails}
use Rattle.ac_parser.specs.inner.ReadsItems.{program_at}
use Rattle.ac_parser.proofs.Answered.{parsed_tree, parsed_unexpected, parsed_too_deep}
use Rattle.ac_parser.proofs.parser.parse.Goals as goal

pub returns-in-Ok : goal.returns-in-Ok
returns-in-Ok c = parsed_tree c.args.tokens.now c.in-Ok.found c.program.new.c.rest.now (rw c.as_slice.ensures at c.in-Ok.ensures)

pub returns-in-Err-Unexpected : goal.returns-in-Err-Unexpected
returns-in-Err-Unexpected c =
    parsed_unexpected c.args.len c.args.tokens.now c.program.new.c.rest.now c.place_next.result
    (subst (λ (e : Halt). Fails c.program.new.c.rest.now e (program_at c.args.tokens.now)) c.in-Err-Unexpected.field-0-is (rw c.as_slice.ensures at c.in-Err-Unexpected.ensures)) c.place_next.ensures

pub returns-in-Err-TooDeep : goal.returns-in-Err-TooDeep
returns-in-Err-TooDeep c =
    parsed_too_deep c.args.len c.args.tokens.now c.program.new.c.rest.now c.place_next-in-Err-TooDeep.result
    (subst (λ (e : Halt). Fails c.program.new.c.rest.now e (program_at c.args.tokens.now)) c.in-Err-TooDeep.field-0-is (rw c.as_slice.ensures at c.in-Err-TooDeep.ensures))
    c.place_next-in-Err-TooDeep.ensures
