use Rattle.std.proofs.Common.{sym, subst}
use Rattle.stack_code.specs.Valid.{IsValid}
use Rattle.ac_compile.proofs.Validity.{code_valid}
use Rattle.ac_compile.proofs.Never.{never_none}
use Rattle.ac_compile.proofs.whole.program_code.Goals as goal

pub unreachable-requires : goal.unreachable-requires
unreachable-requires c = never_none _ c.in_ok-made.made _ c.in-None.is c.in_ok-made.ensures.none
    (subst IsValid (sym c.in_ok-whole.ensures) (code_valid c.args.program.now c.requires.in_place c.requires.short c.requires.few))
