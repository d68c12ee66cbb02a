use Rattle.std.proofs.lemmas.Result.{IfOk-weaker}
use Rattle.ac_compile.proofs.Compiling.{is_short, is_few, is_code, is_same, is_one_end, is_at_ends, if_both}
use Rattle.ac_compile.proofs.compile.Goals as goal

pub program_code-requires-clause-short : goal.program_code-requires-clause-short
program_code-requires-clause-short c = is_short c.args.checked.now c.in_ok-program.program c.in_ok-program.ensures.same c.tree.ensures.small

pub program_code-requires-clause-few : goal.program_code-requires-clause-few
program_code-requires-clause-few c = is_few c.args.checked.now c.in_ok-program.program c.in_ok-program.ensures.same c.tree.ensures.small

pub returns-clause-code : goal.returns-clause-code
returns-clause-code c = IfOk-weaker c.program_code.result _ _ (is_code c.args.checked.now c.in_ok-program.program c.in_ok-program.ensures.same) c.program_code.ensures.same

pub returns-clause-same : goal.returns-clause-same
returns-clause-same c =
    IfOk-weaker c.program_code.result _ _ (is_same c.args.checked.now c.in_ok-program.program c.in_ok-program.ensures.same c.in_ok-program.ensures.in_place) c.program_code.ensures.same

pub returns-clause-one_end : goal.returns-clause-one_end
returns-clause-one_end c =
    if_both c.program_code.result (is_one_end c.args.checked.now c.in_ok-program.program c.in_ok-program.ensures.same c.in_ok-program.ensures.in_place c.tree.ensures.small)
    c.program_code.ensures.same c.program_code.ensures.ranked

pub returns-clause-ends : goal.returns-clause-ends
returns-clause-ends c =
    IfOk-weaker c.program_code.result _ _ (is_at_ends c.args.checked.now c.in_ok-program.program c.in_ok-program.ensures.same c.tree.ensures.clean c.tree.ensures.shaped) c.program_code.ensures.same
