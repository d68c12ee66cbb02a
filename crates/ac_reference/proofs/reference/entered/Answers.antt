use Rattle.std.proofs.Common.{◌≡◌, ℕ, Some, subst, arith}
use Rattle.std.specs.Prelude.{slice_get}
use Rattle.ac_reference.proofs.Replays.{has_core, has_function}
use Rattle.ac_reference.proofs.reference.entered.Goals as goal

pub get-core-requires : goal.get-core-requires
get-core-requires c = omega (arith, has_core c.args.program.now c.args.core c.requires.0 c.requires.1, c.from-number.ensures)

pub get-requires : goal.get-requires
get-requires c =
    let there = subst (λ (n : ℕ). slice_get c.args.program.now.cores n ≡ Some c.get-core.result.now) c.from-number.ensures c.get-core.ensures in
    omega (arith, has_function c.args.program.now c.args.core c.get-core.result.now c.requires.0 c.requires.1 there, c.from-entry.ensures)

pub returns : goal.returns
returns c = record {
  here = c.get-core.result.now;
  core_is = subst (λ (n : ℕ). slice_get c.args.program.now.cores n ≡ Some c.get-core.result.now) c.from-number.ensures c.get-core.ensures;
  function_is = subst (λ (n : ℕ). slice_get c.args.program.now.functions n ≡ Some c.get.result.now) c.from-entry.ensures c.get.ensures;
}
