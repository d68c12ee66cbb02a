use Rattle.std.proofs.Common.{refl, arith}
use Rattle.finish_block.proofs.Rooted.{rooted_same, seen_gone, of_some}
use Rattle.finish_block.proofs.blocks.Blocks.end.Goals as goal

pub invariant_of-self : goal.invariant_of-self
invariant_of-self c =
    let alone = of_some _ _ _ c.kept-was.ensures.block c.requires.childless (omega arith) (cc) in
    seen_gone _ _ _ _ c.args.block _ c.self.invariant c.self.view_is c.kept-was.ensures.block alone c.give_back.ensures.items

pub invariant_of-self-2 : goal.invariant_of-self-2
invariant_of-self-2 c = rooted_same _ c.args.block _ _ c.self.invariant c.value_mut.ensures.value refl
