use Rattle.std.proofs.Common.{◌<◌, refl, sym, ap, ◌∙◌, subst, length, get_or}
use Rattle.std.proofs.lemmas.Option.{slice_get_read}
use Rattle.std.specs.Prelude.{slice_set}
use Rattle.cancel_scope.specs.Roomy.{Roomy}
use Rattle.cancel_scope.specs.Outstanding.{is_offered, as_begun, is_request}
use Rattle.cancel_scope.proofs.Finding.{none_found, none_changed, is_first}
use Rattle.cancel_scope.specs.declared.operation.Operation.{Operation}
use Rattle.cancel_scope.proofs.Counted.{count_changed}
use Rattle.cancel_scope.proofs.outstanding.Outstanding.begin_offered.Goals as goal

pub returns-in-Some-clause-operations : goal.returns-in-Some-clause-operations
returns-in-Some-clause-operations c =
    let place = c.in-Some.place in
    let first = is_first (is_offered c.args.link c.args.number) c.args.self.now.operations place c.in-Some.ensures in
    let read = c.index_mut.ensures.value ∙ ap (λ (r : Roomy). get_or r.operations place c.index_mut.result.now) c.self.view_is in
    let at = slice_get_read c.args.self.now.operations (length c.args.self.now.operations) place c.index_mut.result.now refl first.within read in
    ap (λ (r : Roomy). slice_set r.operations place c.begin.new.self) c.self.view_is
    ∙ ap (slice_set c.args.self.now.operations place) c.begin.ensures ∙ sym (first.changed as_begun c.index_mut.result.now at)

pub returns-in_default-clause-operations : goal.returns-in_default-clause-operations
returns-in_default-clause-operations c =
    sym (none_changed _ as_begun c.args.self.now.operations (none_found _ c.args.self.now.operations c.in_default.ensures))

pub invariant_of-self : goal.invariant_of-self
invariant_of-self c =
    let os = c.self.inside.operations.items in
    let place = c.in-Some.place in
    let first = is_first (is_offered c.args.link c.args.number) c.args.self.now.operations place c.in-Some.ensures in
    let within = subst (λ (r : Roomy). place < length r.operations) (sym c.self.view_is) first.within in
    let at = slice_get_read os (length os) place c.index_mut.result.now refl within c.index_mut.ensures.value in
    c.self.invariant ∙ sym (count_changed os place c.index_mut.result.now c.begin.new.self at (ap (λ (o : Operation). is_request o.asked) c.begin.ensures))
