use Rattle.std.proofs.Common.{sym, ◌∙◌, ap, ◌++◌, append-nil}
use Rattle.std.proofs.lemmas.List.{drop_all}
use Rattle.trace_writes.specs.inner.Finding.{writes_from}
use Rattle.trace_writes.proofs.Finding.{all_found}
use Rattle.trace_writes.proofs.writes.writes_of.Goals as goal

pub returns : goal.returns
returns c widths cores =
    let at = c.loop-entry in
    sym (append-nil at.writes) ∙ ap (λ es. at.writes ++ writes_from at.links.items es) (sym (drop_all at.entry-index c.args.entries.now c.loop-entry-test.false)) ∙ at.invariant
    ∙ sym (all_found c.args.capacities.now widths cores c.args.entries.now)
