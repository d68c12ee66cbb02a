use Rattle.std.proofs.Common.{◌≡◌, ℤ, sym, subst, w64, of_z, to_z, FitsSigned}
use Rattle.std.proofs.lemmas.Int.{to_z-of_z}
use Rattle.stack_code.specs.declared.instr.Instr.{Instr}
use Rattle.core_machine.specs.declared.running.Running.{Running}
use Rattle.core_machine.specs.inner.Led.{pushed, DoesOn}
use Rattle.core_machine.proofs.running.Running.push_and_apply.Goals as goal

-- the next instruction is this comparison
as_named : (m after : Running) (v : ℤ) (next third compares : Instr) → FitsSigned w64 v → next ≡ compares → DoesOn (pushed m (to_z w64 (of_z w64 v))) compares third after
    → DoesOn (pushed m v) next third after
as_named m after v next third compares fits is does =
    subst (λ x. DoesOn (pushed m x) next third after) (to_z-of_z w64 v fits) (subst (λ x. DoesOn (pushed m (to_z w64 (of_z w64 v))) x third after) (sym is) does)

pub returns-in-Eq-clause-does : goal.returns-in-Eq-clause-does
returns-in-Eq-clause-does c done = as_named _ _ c.args.value c.args.next.now _ _ c.ranges.value c.in-Eq.is c.compare_to.ensures.does

pub returns-in-Ne-clause-does : goal.returns-in-Ne-clause-does
returns-in-Ne-clause-does c done = as_named _ _ c.args.value c.args.next.now _ _ c.ranges.value c.in-Ne.is c.compare_to-in-Ne.ensures.does

pub returns-in-Less-clause-does : goal.returns-in-Less-clause-does
returns-in-Less-clause-does c done = as_named _ _ c.args.value c.args.next.now _ _ c.ranges.value c.in-Less.is c.compare_to-in-Less.ensures.does

pub returns-in-LessEq-clause-does : goal.returns-in-LessEq-clause-does
returns-in-LessEq-clause-does c done = as_named _ _ c.args.value c.args.next.now _ _ c.ranges.value c.in-LessEq.is c.compare_to-in-LessEq.ensures.does

pub returns-in-More-clause-does : goal.returns-in-More-clause-does
returns-in-More-clause-does c done = as_named _ _ c.args.value c.args.next.now _ _ c.ranges.value c.in-More.is c.compare_to-in-More.ensures.does

pub returns-in-MoreEq-clause-does : goal.returns-in-MoreEq-clause-does
returns-in-MoreEq-clause-does c done = as_named _ _ c.args.value c.args.next.now _ _ c.ranges.value c.in-MoreEq.is c.compare_to-in-MoreEq.ensures.does
