use Rattle.std.proofs.Common.{◌≡◌, ◌-◌, ◌+◌, ◌*◌, length}
use Rattle.reading_laws.specs.Letters.{sign, has_other}
use Rattle.reading_laws.specs.Readers.{many_at, with_front}
use Rattle.ac_parser.specs.inner.ReadsStatements.{entry_at, stmt_at}
use Rattle.ac_lexer.specs.declared.token.Mark.TheVariants as m
use Rattle.ac_parser.proofs.statements.+stmt.Given as goal

abbrev pub decreases-statement : goal.decreases-statement
decreases-statement l = 20 * l.room

abbrev pub decreases-form : goal.decreases-form
decreases-form l = 20 * l.room + 18

abbrev pub decreases-entry : goal.decreases-entry
decreases-entry l = 20 * l.room + 11

abbrev pub decreases-entries : goal.decreases-entries
decreases-entries l = 20 * l.room + 12

abbrev pub decreases-block : goal.decreases-block
decreases-block l = 20 * l.room + 13

abbrev pub decreases-block_stmt : goal.decreases-block_stmt
decreases-block_stmt l = 20 * l.room + 14

abbrev pub decreases-plain_do : goal.decreases-plain_do
decreases-plain_do l = 20 * l.room + 14

abbrev pub decreases-labelled : goal.decreases-labelled
decreases-labelled l = 20 * l.room + 14

abbrev pub decreases-named_stmt : goal.decreases-named_stmt
decreases-named_stmt l = 20 * l.room + 15

abbrev pub decreases-other : goal.decreases-other
decreases-other l = 20 * l.room + 10

abbrev pub decreases-branches : goal.decreases-branches
decreases-branches l = 20 * l.room + 12

abbrev pub decreases-if_stmt : goal.decreases-if_stmt
decreases-if_stmt l = 20 * l.room + 14

abbrev pub decreases-while_stmt : goal.decreases-while_stmt
decreases-while_stmt l = 20 * l.room + 14

abbrev pub decreases-for_stmt : goal.decreases-for_stmt
decreases-for_stmt l = 20 * l.room + 14

abbrev pub decreases-async_stmt : goal.decreases-async_stmt
decreases-async_stmt l = 20 * l.room + 14

abbrev pub invariant-entries-body : goal.invariant-entries-body
invariant-entries-body l = with_front l.body (many_at (has_other (sign m.CloseBrace)) (entry_at (stmt_at l.room) l.room) (l.most - l.counter) l.c.rest.now)
    ≡ many_at (has_other (sign m.CloseBrace)) (entry_at (stmt_at l.room) l.room) (length l.fn.c.rest.now) l.fn.c.rest.now
