use Rattle.std.proofs.Common.{◌≡◌, drop}
use Rattle.ac_types.specs.inner.Seen.{links_seen, args_seen}
use Rattle.ac_types.proofs.expressions.+expr.Given as goal

abbrev pub invariant-see_links-loop-link : goal.invariant-see_links-loop-link
invariant-see_links-loop-link l = links_seen (drop l.link-index l.links) l.tables l.scopes l.around l.seen ≡ links_seen l.links l.tables l.scopes l.around l.fn.seen

abbrev pub invariant-see_args-loop-number : goal.invariant-see_args-loop-number
invariant-see_args-loop-number l = args_seen l.meaning l.number (drop l.number l.args) l.tables l.scopes l.around l.seen ≡ args_seen l.meaning 0 l.args l.tables l.scopes l.around l.fn.seen
