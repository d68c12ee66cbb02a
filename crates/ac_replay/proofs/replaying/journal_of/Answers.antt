use Rattle.std.proofs.Common.{◌≡◌, ◌+◌, ◌∷◌, ◌++◌, ◌∙◌, append-nil, ap, drop, sym}
use Rattle.std.proofs.lemmas.List.{drop_all, drop_more}
use Rattle.ac_base.specs.declared.entry.Stamped.{Stamped}
use Rattle.trace_audit.specs.RunTrace.{journal_of}
use Rattle.ac_replay.proofs.Following.{gathered}
use Rattle.ac_replay.proofs.replaying.journal_of.Goals as goal

pub loop-stamped-preserved : goal.loop-stamped-preserved
loop-stamped-preserved c =
    let es = c.args.entries.now in
    let i = c.loop-stamped.stamped-index in
    let s = c.stamped-item.result in
    let next : drop i es ≡ s ∷ drop (i + 1) es = drop_more es i s c.loop-stamped-test.true ∙ ap (λ (x : Stamped). x ∷ drop (i + 1) es) (sym c.stamped-item.is) in
    gathered c.args.core c.loop-stamped.journal.entries c.add_entry.new.journal.entries (journal_of c.args.core es) s (drop i es) (drop (i + 1) es) next c.in_ok-add_entry.ensures
    c.loop-stamped.invariant

pub returns : goal.returns
returns c =
    let at = c.loop-stamped in
    sym (append-nil at.journal.entries) ∙ ap (λ es. at.journal.entries ++ journal_of c.args.core es) (sym (drop_all at.stamped-index c.args.entries.now c.loop-stamped-test.false)) ∙ at.invariant
