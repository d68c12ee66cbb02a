use Rattle.std.proofs.Common.{◌≡◌, ◌-◌, length}
use Rattle.reading_laws.specs.inner.Tokens.{has_token}
use Rattle.reading_laws.specs.Readers.{many_at, with_front}
use Rattle.ac_parser.specs.inner.ReadsItems.{item_at}
use Rattle.ac_parser.proofs.items.items.Given as goal

abbrev pub invariant-items : goal.invariant-items
invariant-items l = with_front l.items (many_at has_token item_at (l.most - l.counter) l.c.rest.now) ≡ many_at has_token item_at (length l.fn.c.rest.now) l.fn.c.rest.now
