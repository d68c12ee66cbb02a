use Rattle.std.proofs.Common.{◌≡◌, ◌<◌, Some, refl, sym, ap, ◌∙◌, subst, length, get_or}
use Rattle.std.proofs.lemmas.Option.{slice_get_read}
use Rattle.std.specs.Prelude.{slice_set}
use Rattle.cancel_scope.specs.Roomy.{Roomy}
use Rattle.cancel_scope.specs.Outstanding.{as_begun, is_request}
use Rattle.cancel_scope.specs.declared.operation.Operation.{Operation}
use Rattle.cancel_scope.proofs.Counted.{count_changed}
use Rattle.cancel_scope.proofs.outstanding.Outstanding.begin_at.Goals as goal

pub returns-clause-operations : goal.returns-clause-operations
returns-clause-operations c o at =
    let place = c.args.place in
    let os = c.args.self.now.operations in
    let read = c.index_mut.ensures.value ∙ ap (λ (r : Roomy). get_or r.operations place c.index_mut.result.now) c.self.view_is in
    let there = slice_get_read os (length os) place c.index_mut.result.now refl c.requires read in
    let same : c.index_mut.result.now ≡ o = let both : Some c.index_mut.result.now ≡ Some o = sym there ∙ at in cc in
    ap (λ (r : Roomy). slice_set r.operations place c.begin.new.self) c.self.view_is ∙ ap (slice_set os place) (c.begin.ensures ∙ ap as_begun same)

pub invariant_of-self : goal.invariant_of-self
invariant_of-self c =
    let os = c.self.inside.operations.items in
    let within = subst (λ (r : Roomy). c.args.place < length r.operations) (sym c.self.view_is) c.requires in
    let at = slice_get_read os (length os) c.args.place c.index_mut.result.now refl within c.index_mut.ensures.value in
    c.self.invariant ∙ sym (count_changed os c.args.place c.index_mut.result.now c.begin.new.self at (ap (λ (o : Operation). is_request o.asked) c.begin.ensures))
