use Rattle.std.proofs.Common.{sym, ap, ◌∙◌}
use Rattle.ac_names.specs.declared.past.Past.{Past}
use Rattle.ac_types.specs.Items.{program_tests}
use Rattle.ac_types.specs.inner.Seen.{least_broken}
use Rattle.ac_types.proofs.Judging.{program_first}
use Rattle.ac_types.proofs.verdict.judge.Goals as goal

pub returns-in-Some : goal.returns-in-Some
returns-in-Some c =
    program_first c.args.items.now c.in-Some.rule (sym (c.in-Some.ensures ∙ ap (λ (p : Past). least_broken (program_tests p.counts.cores)) c.in_ok-past.ensures))
