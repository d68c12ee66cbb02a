use Rattle.std.proofs.Common.{◌≡◌, ◌-◌, length}
use Rattle.reading_laws.specs.Letters.{sign, starts_with}
use Rattle.reading_laws.specs.Readers.{many_at, with_front}
use Rattle.ac_parser.specs.inner.ReadsItems.{next_param_at}
use Rattle.ac_lexer.specs.declared.token.Mark.TheVariants as m
use Rattle.ac_parser.proofs.items.more_params.Given as goal

abbrev pub invariant-params : goal.invariant-params
invariant-params l = with_front l.params (many_at (starts_with (sign m.Comma)) next_param_at (l.most - l.counter) l.c.rest.now)
    ≡ with_front l.fn.front (many_at (starts_with (sign m.Comma)) next_param_at (length l.fn.c.rest.now) l.fn.c.rest.now)
