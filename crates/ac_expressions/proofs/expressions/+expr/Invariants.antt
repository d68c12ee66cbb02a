use Rattle.std.proofs.Common.{◌≡◌, ◌-◌, ◌+◌, ◌*◌, length}
use Rattle.reading_laws.specs.Letters.{sign, starts_with}
use Rattle.ac_expressions.specs.Operators.{has_operator}
use Rattle.reading_laws.specs.Readers.{many_at, with_front}
use Rattle.ac_expressions.specs.Reads.{link_at, level_at, next_arg_at, expr_at, unary_at}
use Rattle.ac_lexer.specs.declared.token.Mark.TheVariants as m
use Rattle.ac_expressions.proofs.expressions.+expr.Given as goal

abbrev pub decreases-expression : goal.decreases-expression
decreases-expression l = 100 * l.room + 40

abbrev pub decreases-next_arg : goal.decreases-next_arg
decreases-next_arg l = 100 * l.room + 41

abbrev pub decreases-more_args : goal.decreases-more_args
decreases-more_args l = 100 * l.room + 42

abbrev pub decreases-index : goal.decreases-index
decreases-index l = 100 * l.room + 42

abbrev pub decreases-named_place : goal.decreases-named_place
decreases-named_place l = 100 * l.room + 43

abbrev pub decreases-place_next : goal.decreases-place_next
decreases-place_next l = 100 * l.room + 44

abbrev pub decreases-some_args : goal.decreases-some_args
decreases-some_args l = 100 * l.room + 43

abbrev pub decreases-args : goal.decreases-args
decreases-args l = 100 * l.room + 44

abbrev pub decreases-closed : goal.decreases-closed
decreases-closed l = 100 * l.room + 45

abbrev pub decreases-deep_closed : goal.decreases-deep_closed
decreases-deep_closed l = 100 * l.room + 46

abbrev pub decreases-call : goal.decreases-call
decreases-call l = 100 * l.room + 47

abbrev pub decreases-named : goal.decreases-named
decreases-named l = 100 * l.room + 48

abbrev pub decreases-group : goal.decreases-group
decreases-group l = 100 * l.room + 41

abbrev pub decreases-send : goal.decreases-send
decreases-send l = 100 * l.room + 42

abbrev pub decreases-range : goal.decreases-range
decreases-range l = 100 * l.room + 41

abbrev pub decreases-file_transfer : goal.decreases-file_transfer
decreases-file_transfer l = 100 * l.room + 42

abbrev pub decreases-read : goal.decreases-read
decreases-read l = 100 * l.room + 43

abbrev pub decreases-write : goal.decreases-write
decreases-write l = 100 * l.room + 43

abbrev pub decreases-recv_rest : goal.decreases-recv_rest
decreases-recv_rest l = 100 * l.room + 45

abbrev pub decreases-deep_recv : goal.decreases-deep_recv
decreases-deep_recv l = 100 * l.room + 42

abbrev pub decreases-recv : goal.decreases-recv
decreases-recv l = 100 * l.room + 43

abbrev pub decreases-operation : goal.decreases-operation
decreases-operation l = 100 * l.room + 45

abbrev pub decreases-signed : goal.decreases-signed
decreases-signed l = 100 * l.room + 41

abbrev pub decreases-primary : goal.decreases-primary
decreases-primary l = 100 * l.room + 60

abbrev pub decreases-unary : goal.decreases-unary
decreases-unary l = 100 * l.room

abbrev pub decreases-chain : goal.decreases-chain
decreases-chain l = 100 * l.room + (3 * (11 - l.level) + 3)

abbrev pub decreases-links : goal.decreases-links
decreases-links l = 100 * l.room + (3 * (11 - l.level) + 2)

abbrev pub decreases-link : goal.decreases-link
decreases-link l = 100 * l.room + (3 * (11 - l.level) + 1)

abbrev pub invariant-links-links : goal.invariant-links-links
invariant-links-links l = with_front l.links (many_at (has_operator l.level) (link_at l.level (level_at (unary_at l.room) (l.level + 1))) (l.most - l.counter) l.c.rest.now)
    ≡ many_at (has_operator l.level) (link_at l.level (level_at (unary_at l.room) (l.level + 1))) (length l.fn.c.rest.now) l.fn.c.rest.now

abbrev pub invariant-more_args-args-2 : goal.invariant-more_args-args-2
invariant-more_args-args-2 l = with_front l.args (many_at (starts_with (sign m.Comma)) (next_arg_at (expr_at l.room)) (l.most - l.counter) l.c.rest.now)
    ≡ with_front l.fn.front (many_at (starts_with (sign m.Comma)) (next_arg_at (expr_at l.room)) (length l.fn.c.rest.now) l.fn.c.rest.now)
