use Rattle.std.proofs.Common.{◌≡◌, get_or, refl, sym, ap, ◌∙◌}
use Rattle.std.specs.Prelude.{Some, find, position}
use Rattle.cancel_scope.specs.Outstanding.{is_offered}
use Rattle.core_state.specs.Arrivals.{is_known}
use Rattle.interpreter_state.proofs.Finding.{any, none_found, one_found}
use Rattle.interpreter_state.proofs.held.Held.take_offered.Goals as goal

pub returns-in-Some-clause-fits : goal.returns-in-Some-clause-fits
returns-in-Some-clause-fits c =
    let store = c.args.self.now.memory in
    let os = c.args.self.now.operations.items in
    let test = is_offered c.args.link c.args.number in
    let place = c.in-Some.place in
    let at : Some place ≡ position test os = c.in-Some.ensures ∙ ap (position test) c.as_slice.ensures.value in
    let found : find test os ≡ Some (get_or os place any) = one_found test os os place at refl in
    ap (is_known store os c.args.link c.args.number) found ∙ ap (λ x. Some x) (c.be_taken.ensures store test (get_or os place any) (sym at, found))

pub returns-in-None-clause-fits : goal.returns-in-None-clause-fits
returns-in-None-clause-fits c =
    ap (is_known c.args.self.now.memory c.args.self.now.operations.items c.args.link c.args.number)
    (none_found (is_offered c.args.link c.args.number) c.args.self.now.operations.items c.as_slice.result.now c.in-None.ensures c.as_slice.ensures.value)
