use Rattle.ac_reach.proofs.Searches.{IsSearch, IsBegun}
use Rattle.ac_reach.proofs.search.reached_from.Given as goal

abbrev pub invariant-loop-next : goal.invariant-loop-next
invariant-loop-next l = IsSearch l.calls l.fn.entry l.next l.search × IsBegun l.calls l.fn.entry l.search
