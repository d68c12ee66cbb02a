use Rattle.std.proofs.Common.{◌≡◌, pos, length, length-take-le, length-set, ap, sym, ◌∙◌, w64, to_z, of_z, arith}
use Rattle.ac_base.proofs.Filled.{one_less}
use Rattle.ac_base.proofs.message.Message.push.Goals as goal

-- src/message.rt:58:5
pub invariant_of-self : goal.invariant_of-self
invariant_of-self c = (
  omega arith,
  (let counted : length c.args.self.now ≡ c.self.inside.count = ap length (sym c.self.view_is)
      ∙ length-take-le c.self.inside.count c.self.inside.ints (omega (arith, c.self.invariant.1, c.self.invariant.2))
      in omega (arith, counted, c.requires)),
  length-set c.self.inside.ints c.self.inside.count (to_z w64 (of_z w64 c.args.value)) ∙ c.self.invariant.2,
  one_less c.self.inside.count 16 c.self.inside.ints (to_z w64 (of_z w64 c.args.value)) (pos 0) c.self.invariant.3,
)
