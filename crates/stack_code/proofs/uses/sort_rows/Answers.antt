use Rattle.std.proofs.Common.{◌≡◌, ◌<◌, ◌∙◌, length, arith}
use Rattle.stack_code.proofs.Rows.{row_read, sorted_more}
use Rattle.stack_code.proofs.uses.sort_rows.Goals as goal

pub loop-at-preserved : goal.loop-at-preserved
loop-at-preserved c =
    let rows = c.loop-at.rows.items in
    let long : length rows ≡ length c.args.rows.now.items = c.loop-at.invariant.long in
    let end : c.len-at-end.result ≡ length c.args.rows.now.items = c.len-at-end.ensures ∙ c.args.rows.now.ok.0 in
    let inside : c.loop-at.at < length rows = omega arith in
    sorted_more c.args.rows.now.items rows c.loop-at.at c.replace-row.new.dest c.replace-row.result c.in_ok-rows.field-0 c.loop-at.invariant inside
    (c.replace-row.ensures.value ∙ row_read rows c.loop-at.at c.index_mut.result.now inside c.index_mut.ensures.value) c.in_ok-rows.ensures.same c.in_ok-rows.ensures.sorted
