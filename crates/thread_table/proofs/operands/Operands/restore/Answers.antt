use Rattle.std.proofs.Common.{◌∷◌, [], pos, ◌++◌, reverse, ap, ◌∙◌, w64, SFits, rules}
use Rattle.std.proofs.lemmas.Int.{to_z-of_z}
use Rattle.std.proofs.lemmas.List.{reverse-append}
use Rattle.work_item.specs.declared.cell.Cell.TheVariants as cell
use Rattle.work_item.specs.Store.{no_int}
use Rattle.thread_table.proofs.Tops.{one_more}
use Rattle.thread_table.proofs.operands.Operands.restore.Goals as goal

pub replace_int-requires : goal.replace_int-requires
replace_int-requires c =
    let others = c.args.others.now in
    (others, (pos 0, c.in_ok-fill.ensures.ok ∙ one_more others c.len.result c.len.ensures.value))

pub returns-clause-ok : goal.returns-clause-ok
returns-clause-ok c =
    let others = c.args.others.now in
    let filled = c.in_ok-fill.ensures.ok ∙ one_more others c.len.result c.len.ensures.value in
    let fits : SFits w64 c.args.top = search rules in
    ap reverse (c.replace_int.ensures others no_int filled) ∙ ap (λ z. reverse (others ++ cell.Int z ∷ [])) (to_z-of_z w64 c.args.top fits)
    ∙ reverse-append others (cell.Int c.args.top ∷ [])
