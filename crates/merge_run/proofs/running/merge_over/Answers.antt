use Rattle.std.proofs.Common.{◌≡◌, [], ◌∷◌, ◌++◌, length, sym, ◌∙◌, subst}
use Rattle.std.proofs.lemmas.List.{with_items_is}
use Rattle.settled_rounds.specs.Linked.{Pointwise}
use Rattle.merge_run.specs.inner.Parties.{IsLater}
use Rattle.merge_run.specs.inner.Making.{AreNewParties, AreWaysOf}
use Rattle.merge_run.proofs.Positions.{after_count}
use Rattle.merge_run.proofs.Started.{all_paired, all_going}
use Rattle.merge_run.proofs.Whole.{last_is_later, last_consumes, received_part}
use Rattle.merge_run.proofs.running.merge_over.Goals as goal

pub run-requires-clause-paired : goal.run-requires-clause-paired
run-requires-clause-paired g c κs within =
    let width = length c.args.words.now in
    let new = subst (λ ps. AreNewParties width c.args.count ps) (sym c.as_mut_slice.ensures.value) c.in_ok-parties.ensures in
    all_paired width c.args.count c.as_mut_slice.result.now new c.as_slice.result.now (subst (λ ws. AreWaysOf width ws) (sym c.as_slice.ensures.value) c.in_ok-ways.ensures)

pub run-requires-clause-ready : goal.run-requires-clause-ready
run-requires-clause-ready g c κs within =
    let width = length c.args.words.now in
    let new = subst (λ ps. AreNewParties width c.args.count ps) (sym c.as_mut_slice.ensures.value) c.in_ok-parties.ensures in
    all_going width c.args.count c.as_mut_slice.result.now new

pub unreachable-requires : goal.unreachable-requires
unreachable-requires g c =
    let width = length c.args.words.now in
    let ps = c.as_mut_slice.result.now in let qs = c.run.new.parties in
    let new = subst (λ xs. AreNewParties width c.args.count xs) (sym c.as_mut_slice.ensures.value) c.in_ok-parties.ensures in
    let later : Pointwise IsLater ps qs = c.in_ok-run.ensures.later in
    let last = sym (with_items_is c.in_ok-parties.parties qs (after_count IsLater ps qs later ∙ c.as_mut_slice.ensures.len)) ∙ c.take_last.ensures.items in
    last_consumes new.consumer c.take_last.result (last_is_later width c.args.count ps qs c.as_slice.result.now new later c.take_last.new.self.items c.take_last.result last) c.in_default.not-Consumes

pub returns : goal.returns
returns g c =
    let width = length c.args.words.now in
    let ps = c.as_mut_slice.result.now in let qs = c.run.new.parties in
    let new = subst (λ xs. AreNewParties width c.args.count xs) (sym c.as_mut_slice.ensures.value) c.in_ok-parties.ensures in
    let later : Pointwise IsLater ps qs = c.in_ok-run.ensures.later in
    let last = sym (with_items_is c.in_ok-parties.parties qs (after_count IsLater ps qs later ∙ c.as_mut_slice.ensures.len)) ∙ c.take_last.ensures.items in
    received_part width c.args.count ps qs c.as_slice.result.now new later c.take_last.new.self.items c.in-Consumes.consumer
    (subst (λ p. qs ≡ c.take_last.new.self.items ++ p ∷ []) c.in-Consumes.is last)
    (subst (λ ws. AreWaysOf width ws) (sym c.as_slice.ensures.value) c.in_ok-ways.ensures) c.in_ok-run.ensures.settled
