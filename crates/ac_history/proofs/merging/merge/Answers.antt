use Rattle.std.proofs.Common.{◌≡◌, ◌∙◌, ap, map, rules, arith}
use Rattle.std.proofs.lemmas.Grind.{common_steps}
use Rattle.std.proofs.lemmas.List.Sorted.{answers_always}
use Rattle.ac_links.specs.Order.{stamp_of, in_order}
use Rattle.ac_history.specs.Merged.{all_from, entries_of}
use Rattle.ac_history.proofs.Unique.{sorted_is}
use Rattle.ac_history.proofs.merging.merge.Goals as goal

pub returns : goal.returns
returns c =
    let all : c.into_vec-all.result.items ≡ all_from 0 (map entries_of c.args.journals.now) = grind (arith, common_steps) in
    c.from_vec.ensures ∙ sorted_is stamp_of _ _
    (c.in_ok-sort_by_key.ensures.sorted stamp_of (answers_always _ _ _ (λ f a r g h. search rules)))
    (c.sort_by_key.ensures.stable stamp_of (answers_always _ _ _ (λ f a r g h. search rules)))
    ∙ ap (in_order stamp_of) all
