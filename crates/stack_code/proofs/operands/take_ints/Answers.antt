use Rattle.std.proofs.Common.{◌≡◌, ℕ, suc, ◌+◌, ◌-◌, ◌<◌, List, ◌∷◌, None, Bool, true, replicate, ap, ◌∙◌, arith}
use Rattle.std.specs.Prelude.{if◌then◌else◌}
use Rattle.stack_code.specs.declared.shape.CellKind.{CellKind}
use Rattle.stack_code.specs.declared.shape.Want.{Want}
use Rattle.stack_code.specs.declared.shape.Want.TheVariants as want
use Rattle.stack_code.specs.Shapes.{taken}
use Rattle.stack_code.proofs.operands.take_ints.Goals as goal

-- one int less to take
one_less : (count k : ℕ) (old new : List CellKind) (b : Bool) → k < count → b ≡ true → ((wants : List Want) → taken (want.Int ∷ wants) old ≡ (if b then taken wants new else None))
    → taken (replicate (count - k) want.Int) old ≡ taken (replicate (count - (k + 1)) want.Int) new
one_less count k old new b lt e h =
    let n : count - k ≡ suc (count - (k + 1)) = omega arith in
    ap (λ m. taken (replicate m want.Int) old) n ∙ h (replicate (count - (k + 1)) want.Int) ∙ ap (λ (x : Bool). if x then taken (replicate (count - (k + 1)) want.Int) new else None) e

pub loop-preserved : goal.loop-preserved
loop-preserved c = c.loop.invariant ∙ one_less c.args.count c.loop.counter c.loop.operands c.take_one.new.operands c.take_one.result c.loop-test.true c.if-not-take_one.false c.take_one.ensures
