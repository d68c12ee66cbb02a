use Rattle.std.proofs.Common.{◌≡◌, ◌<◌, Some, refl, sym, ap, ◌∙◌, subst, length, arith}
use Rattle.std.proofs.lemmas.Option.{slice_get_read}
use Rattle.std.specs.Prelude.{slice_get}
use Rattle.cancel_scope.specs.Roomy.{Roomy}
use Rattle.cancel_scope.specs.Outstanding.{is_request}
use Rattle.cancel_scope.proofs.Counted.{count_of, count_without}
use Rattle.cancel_scope.proofs.outstanding.Outstanding.end_at.Goals as goal

pub overflow_sub-self : goal.overflow_sub-self
overflow_sub-self c =
    let within = subst (λ (r : Roomy). c.args.place < length r.operations) (sym c.self.view_is) c.requires in
    let counted = count_without c.self.inside.operations.items c.take_out.new.operations.items c.args.place _ c.in-Some.operation within c.in-Some.ensures.value c.in-Some.ensures.items
    c.self.invariant in
    let one : count_of (is_request c.in-Some.operation.asked) ≡ 1 = ap count_of (sym c.is_request.ensures ∙ c.if-is_request.true) in
    omega (arith, counted, one)

pub invariant_of-self : goal.invariant_of-self
invariant_of-self c =
    let within = subst (λ (r : Roomy). c.args.place < length r.operations) (sym c.self.view_is) c.requires in
    let counted = count_without c.self.inside.operations.items c.take_out.new.operations.items c.args.place _ c.in-Some.operation within c.in-Some.ensures.value c.in-Some.ensures.items
    c.self.invariant in
    let one : count_of (is_request c.in-Some.operation.asked) ≡ 1 = ap count_of (sym c.is_request.ensures ∙ c.if-is_request.true) in
    omega (arith, counted, one)

pub invariant_of-self-else-is_request : goal.invariant_of-self-else-is_request
invariant_of-self-else-is_request c =
    let within = subst (λ (r : Roomy). c.args.place < length r.operations) (sym c.self.view_is) c.requires in
    let counted = count_without c.self.inside.operations.items c.take_out.new.operations.items c.args.place _ c.in-Some.operation within c.in-Some.ensures.value c.in-Some.ensures.items
    c.self.invariant in
    let none : count_of (is_request c.in-Some.operation.asked) ≡ 0 = ap count_of (sym c.is_request.ensures ∙ c.if-is_request.false) in
    omega (arith, counted, none)

pub returns-then-is_request-clause-result : goal.returns-then-is_request-clause-result
returns-then-is_request-clause-result c =
    let os = c.self.inside.operations.items in
    let within = subst (λ (r : Roomy). c.args.place < length r.operations) (sym c.self.view_is) c.requires in
    subst (λ (r : Roomy). slice_get r.operations c.args.place ≡ Some c.in-Some.operation) c.self.view_is
    (slice_get_read os (length os) c.args.place c.in-Some.operation refl within c.in-Some.ensures.value)

pub returns-else-is_request-clause-result : goal.returns-else-is_request-clause-result
returns-else-is_request-clause-result c =
    let os = c.self.inside.operations.items in
    let within = subst (λ (r : Roomy). c.args.place < length r.operations) (sym c.self.view_is) c.requires in
    subst (λ (r : Roomy). slice_get r.operations c.args.place ≡ Some c.in-Some.operation) c.self.view_is
    (slice_get_read os (length os) c.args.place c.in-Some.operation refl within c.in-Some.ensures.value)
