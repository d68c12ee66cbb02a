use Rattle.ac_types.proofs.Accepting.{clean_told}
use Rattle.ac_types.proofs.accepted.check.Goals as goal

pub invariant_of-result : goal.invariant_of-result
invariant_of-result c =
    let told = clean_told c.args.program.items c.as_slice.result.now c.in_ok-broken.field-0 c.in-Clean.counts c.in-Clean.reach c.in-Clean.widths c.as_slice.ensures c.in_ok-broken.ensures
    c.in-Clean.is in
    ((told.0, c.requires.0, c.requires.1), told.1.0, told.1.1, told.1.2)

pub returns-in-Clean-clause-clean : goal.returns-in-Clean-clause-clean
returns-in-Clean-clause-clean c = (clean_told c.args.program.items c.as_slice.result.now c.in_ok-broken.field-0 c.in-Clean.counts c.in-Clean.reach c.in-Clean.widths c.as_slice.ensures
    c.in_ok-broken.ensures c.in-Clean.is).0
