use Rattle.std.proofs.Common.{◌≤◌, ◌∷◌, [], length, reverse, get_or, ap, ◌∙◌, arith, w64, SFits, rules}
use Rattle.std.proofs.lemmas.Int.{to_z-of_z}
use Rattle.work_item.specs.declared.cell.Cell.TheVariants as cell
use Rattle.work_item.specs.Store.{no_int}
use Rattle.thread_table.proofs.Tops.{first_only}
use Rattle.thread_table.proofs.operands.Operands.replace_all.Goals as goal

pub replace-requires : goal.replace-requires
replace-requires c =
    let cells = c.self.inside.cells in
    let some : 1 ≤ length cells = omega (arith, c.len.ensures, c.if-len-eq0.false) in
    omega (arith, ap length (c.truncate.ensures ∙ first_only cells some))

pub returns-clause-some : goal.returns-clause-some
returns-clause-some c = λ yes.
    let cells = c.self.inside.cells in
    let some : 1 ≤ length cells = omega (arith, c.len.ensures, c.if-len-eq0.false) in
    let fits : SFits w64 c.args.value = search rules in
    ap reverse (c.replace.ensures [] (get_or cells 0 no_int) (c.truncate.ensures ∙ first_only cells some))
    ∙ ap (λ z. cell.Int z ∷ []) (to_z-of_z w64 c.args.value fits)
