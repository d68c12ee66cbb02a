-- The next entry is the first of those that are left.
use Rattle.std.proofs.Common.{◌≡◌, ◌+◌, [], ◌∷◌, ◌++◌, ◌∙◌, Some, ap, sym, drop}
use Rattle.std.specs.Prelude.{slice_get}
use Rattle.std.proofs.lemmas.List.{append_assoc, drop_more}
use Rattle.std.proofs.lemmas.Option.{get_or_from_slice_get, slice_get_within}
use Rattle.ac_base.specs.declared.entry.Entry.{Entry}
use Rattle.ac_base.specs.declared.entry.Stamped.{Stamped}
use Rattle.ac_links.specs.Order.{of_party}
use Rattle.ac_history.proofs.merging.add_entries.Goals as goal

pub loop-place-preserved : goal.loop-place-preserved
loop-place-preserved c =
    let es = c.args.journal.now.entries in
    let k = c.loop-place.place in
    let e = c.in_ok-entry.entry in
    let s : Stamped = record { party = c.args.party; entry = e } in
    let at : slice_get es k ≡ Some e = c.in_ok-entry.ensures in
    let next : drop k es ≡ e ∷ drop (k + 1) es = drop_more es k e (slice_get_within es k e at) ∙ ap (λ (x : Entry). x ∷ drop (k + 1) es) (get_or_from_slice_get es k e e at) in
    ap (λ xs. xs ++ of_party c.args.party (drop (k + 1) es)) c.in_ok-push.ensures.ok
    ∙ (append_assoc c.loop-place.all (s ∷ []) (of_party c.args.party (drop (k + 1) es))
    ∙ (ap (λ xs. c.loop-place.all ++ of_party c.args.party xs) (sym next) ∙ c.loop-place.invariant))
