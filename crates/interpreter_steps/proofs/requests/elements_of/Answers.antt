use Rattle.std.proofs.Common.{◌≡◌, rules, w64, to_z, of_z}
use Rattle.std.proofs.lemmas.Int.{ints, to_z-of_z}
use Rattle.std.proofs.lemmas.Result.{err_from_is_err_and}
use Rattle.interpreter_steps.proofs.Ranges.{wrong, no_longer, right}
use Rattle.interpreter_steps.proofs.requests.elements_of.Goals as goal

pub first-requires : goal.first-requires
first-requires c =
    let told_from = to_z w64 (of_z w64 c.args.from) in
    let told_len = to_z w64 (of_z w64 c.args.len) in
    let same_from : told_from ≡ c.args.from = search (rules, ints, to_z-of_z) in
    let same_len : told_len ≡ c.args.len = search (rules, ints, to_z-of_z) in
    no_longer c.args.array c.somewhere.result c.len.result c.args.from c.args.len told_from told_len c.somewhere.ensures c.len.ensures same_from same_len c.in_ok-range.range.from
    c.in_ok-range.range.elements c.in_ok-range.ensures.ok

pub returns-clause-ok : goal.returns-clause-ok
returns-clause-ok c =
    let told_from = to_z w64 (of_z w64 c.args.from) in
    let told_len = to_z w64 (of_z w64 c.args.len) in
    let same_from : told_from ≡ c.args.from = search (rules, ints, to_z-of_z) in
    let same_len : told_len ≡ c.args.len = search (rules, ints, to_z-of_z) in
    right c.args.array c.somewhere.result c.len.result c.args.from c.args.len told_from told_len c.somewhere.ensures c.len.ensures same_from same_len c.in_ok-range.range.from
    c.in_ok-range.range.elements c.in_ok-range.ensures.ok c.first.result c.first.ensures

pub returns-in_err-range-clause-err : goal.returns-in_err-range-clause-err
returns-in_err-range-clause-err c =
    let told_from = to_z w64 (of_z w64 c.args.from) in
    let told_len = to_z w64 (of_z w64 c.args.len) in
    let same_from : told_from ≡ c.args.from = search (rules, ints, to_z-of_z) in
    let same_len : told_len ≡ c.args.len = search (rules, ints, to_z-of_z) in
    let p = err_from_is_err_and c.from_residual.result c.from_residual.ensures.1 in
    rw (p.1, p.2) (wrong c.args.array c.somewhere.result c.len.result c.args.from c.args.len told_from told_len c.somewhere.ensures c.len.ensures same_from same_len _ c.in_err-range.ensures.err)
