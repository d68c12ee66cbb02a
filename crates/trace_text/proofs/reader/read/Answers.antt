use Rattle.std.proofs.Common.{◌∙◌, sym, arith}
use Rattle.trace_text.proofs.Steps.{cut_length, open_at, wrong_at, right_at, at_the_end, ends_whole, ends_open, told_on}
use Rattle.trace_text.proofs.reader.read.Goals as goal

pub returns-then-len-rest : goal.returns-then-len-rest
returns-then-len-rest c =
    sym c.lines.invariant.same
    ∙ open_at c.lines.line c.lines.so_far c.args.text.now c.lines.at c.line_run-len.result c.lines-test.true c.line_run-len.ensures.value c.if-len-rest.true

pub returns-in-Err-Wrong : goal.returns-in-Err-Wrong
returns-in-Err-Wrong c =
    sym c.lines.invariant.same
    ∙ wrong_at c.lines.line c.lines.so_far c.args.text.now c.lines.at c.line_run-len.result c.line_run-len.ensures.value c.if-len-rest.false
    (rw c.in-Err-Wrong.field-0-is at c.in-Err-Wrong.ensures)

pub lines-preserved : goal.lines-preserved
lines-preserved c = record {
  same = right_at c.lines.line c.lines.so_far c.add.new.self c.args.text.now c.lines.at c.line_run-len.result c.line_run-len.ensures.value c.if-len-rest.false c.in-Ok.ensures
      ∙ c.lines.invariant.same;
  within = omega (arith, c.lines.invariant.within, c.line_run-len.ensures.within, c.lines-test.true, cut_length c.args.text.now c.lines.at, c.if-len-rest.false);
  counted = omega (arith, c.lines.invariant.counted);
}

pub returns-in-Ends : goal.returns-in-Ends
returns-in-Ends c =
    told_on c.told.result _ _
    (sym c.lines.invariant.same
    ∙ (at_the_end c.lines.line c.lines.so_far c.args.text.now c.lines.at c.lines-test.false
    ∙ ends_whole c.lines.line c.lines.so_far.version c.lines.so_far.trace c.lines.so_far.stage c.in-Ends.is))
    c.told.ensures

pub returns-in_default : goal.returns-in_default
returns-in_default c =
    sym c.lines.invariant.same
    ∙ (at_the_end c.lines.line c.lines.so_far c.args.text.now c.lines.at c.lines-test.false
    ∙ ends_open c.lines.line c.lines.so_far.version c.lines.so_far.trace c.lines.so_far.stage c.in_default.not-Ends)
