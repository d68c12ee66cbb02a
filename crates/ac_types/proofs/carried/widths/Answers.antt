use Rattle.std.proofs.Common.{◌-◌, length, sym, ap, ◌∙◌, arith}
use Rattle.std.proofs.lemmas.List.{drop_all}
use Rattle.ac_types.specs.Widths.{widths_in}
use Rattle.ac_types.proofs.Widths.{all_ones, one_more}
use Rattle.ac_types.proofs.carried.widths.Goals as goal

pub loop-left-init : goal.loop-left-init
loop-left-init c = (
  omega arith,
  c.in_ok-list.ensures.items_if_clones_equal (λ y e. e)
      ∙ all_ones 0 c.args.count
      ∙ ap (λ cs. widths_in cs 0 c.args.count) (sym (drop_all (length c.args.carried.now) c.args.carried.now (omega arith))),
)

pub loop-left-preserved : goal.loop-left-preserved
loop-left-preserved c = (
  omega (arith, c.loop-left.invariant.0),
  one_more c.args.carried.now (c.loop-left.left - 1) c.loop-left.left c.args.count _ c.loop-left.list.items c.write_width.new.list.items
      (omega (arith, c.loop-left-test.true)) (omega (arith, c.loop-left-test.true, c.loop-left.invariant.0)) c.loop-left.invariant.1 c.write_width.ensures,
)
