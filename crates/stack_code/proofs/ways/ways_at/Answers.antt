use Rattle.std.proofs.Common.{◌≡◌, ◌<◌, ◌∙◌, Some, length, refl, sym, ap, arith}
use Rattle.stack_code.proofs.Tables.{some_at}
use Rattle.stack_code.proofs.Steadiness.{ways_led}
use Rattle.stack_code.proofs.ways.ways_at.Goals as goal

pub returns-in-Some-2 : goal.returns-in-Some-2
returns-in-Some-2 c =
    let table = c.args.table.now in
    let long : length table ≡ length c.args.code.now.instrs = c.requires.tabled.long in
    let inside : c.args.at < length table = omega arith in
    let has = some_at table c.args.at (length table) c.index-table-at.result c.in_ok-shape.shape refl inside c.index-table-at.is (c.in-Some.is ∙ ap Some (sym c.in_ok-shape.ensures)) in
    ways_led c.args.code.now table c.args.at c.in_ok-shape.shape c.in-Some-instr.instr c.requires.tabled has
    (sym c.in-Some-instr.ensures) c.in_ok-leads.field-0 c.in-Some-2.to c.ways_of.result c.in_ok-leads.ensures c.in-Some-2.is c.in_default-instr-2.not-Step c.ways_of.ensures
