use Rattle.std.proofs.Common.{◌≡◌, ◌∷◌, [], ◌++◌, length, ap, ◌∙◌, arith}
use Rattle.std.proofs.lemmas.List.{take_all}
use Rattle.work_item.specs.Cells.{others_from}
use Rattle.work_item.proofs.RowCalls.{moved_low, moved_high, moved_one, moved_more, length_moved}
use Rattle.work_item.proofs.others.put_others.Goals as goal

pub overflow_sub-other : goal.overflow_sub-other
overflow_sub-other c = moved_low c.args.more.now c.requires.short.0 c.args.from c.loop-other.other-index c.requires.short.1.0 c.loop-other-test.true

pub overflow_add-to : goal.overflow_add-to
overflow_add-to c =
    omega (
      arith,
      moved_low c.args.more.now c.requires.short.0 c.args.from c.loop-other.other-index c.requires.short.1.0 c.loop-other-test.true,
      moved_high c.args.more.now c.requires.short.0 c.args.from
          c.loop-other.other-index c.requires.short.1.0 c.loop-other-test.true,
      c.requires.short.1.1,
    )

pub loop-other-preserved : goal.loop-other-preserved
loop-other-preserved c = record {
  items = λ cells e.
      c.push_reserved.ensures.items
      ∙ ap (λ l. l ++ moved_one c.args.more.now c.args.from c.args.to c.loop-other.other-index ∷ []) (c.loop-other.invariant.items cells e)
      ∙ moved_more c.args.others.now.items c.args.more.now cells c.args.from c.args.to c.loop-other.other-index e c.loop-other-test.true;
  len = omega (arith, c.push_reserved.ensures.len, c.loop-other.invariant.len);
  capacity = omega (arith, c.push_reserved.ensures.capacity, c.loop-other.invariant.capacity);
}

pub returns : goal.returns
returns c cells e =
    let n : length c.args.more.now ≡ length (others_from c.args.from cells) = ap length e in
    c.loop-other.invariant.items cells e
    ∙ ap (λ l. c.args.others.now.items ++ l)
    (take_all c.loop-other.other-index (others_from c.args.to cells) (omega (arith, n, length_moved cells c.args.from c.args.to, c.loop-other-test.false)))
