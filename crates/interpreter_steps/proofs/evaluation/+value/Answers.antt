use Rattle.std.proofs.Common.{◌+◌, ◌∙◌, subst, ◌∷◌, reverse}
use Rattle.work_item.specs.Store.{int_in}
use Rattle.ac_semantics.specs.Evaluation.{goes, Operands}
use Rattle.interpreter_steps.specs.inner.Pending.{IsOutcome, head_of}
use Rattle.interpreter_steps.specs.inner.Chains.{joined}
use Rattle.interpreter_steps.proofs.Copying.{all_after}
use Rattle.interpreter_steps.proofs.Outcomes.{chain_ends, chain_goes_on, chain_starts, chain_stops, rows_end, rows_go_on}
use Rattle.interpreter_steps.proofs.evaluation.+value.Goals as goal

pub chain-returns-in_default : goal.chain-returns-in_default
chain-returns-in_default t c =
    let links = c.args.links.now in
    let out = subst (λ ls. IsOutcome c.in_ok-other.other c.links.around c.joined.new.around (joined c.args.memory.now c.args.frame (int_in c.links.x) c.index-links-index.result ls c.links.around))
    (all_after links (c.links.index + 1)) c.in_ok-other.ensures in
    chain_ends c.args.memory.now c.args.frame c.in_ok-other.other c.links.x c.args.first links c.links.index c.index-links-index.result c.args.around.now c.links.around c.joined.new.around
    c.links-test.true c.index-links-index.is c.links.invariant.same c.links.invariant.around c.in_default.not-Comes out

pub chain-links-preserved : goal.chain-links-preserved
chain-links-preserved t c =
    let links = c.args.links.now in
    let out = subst (λ ls. IsOutcome c.in_ok-other.other c.links.around c.joined.new.around (joined c.args.memory.now c.args.frame (int_in c.links.x) c.index-links-index.result ls c.links.around))
    (all_after links (c.links.index + 1)) c.in_ok-other.ensures in
    let h = chain_goes_on c.args.memory.now c.args.frame c.in_ok-other.other c.in-Comes.value c.links.x c.args.first links c.links.index c.index-links-index.result c.args.around.now
    c.links.around c.joined.new.around c.links-test.true c.index-links-index.is c.links.invariant.same c.links.invariant.around c.in-Comes.is out in
    record { same = h.0; around = h.1 }

pub evaluate-returns-in-Comes-4 : goal.evaluate-returns-in-Comes-4
evaluate-returns-in-Comes-4 t c =
    chain_starts c.args.memory.now c.args.frame c.args.value.now c.in-Chain.first c.get-in-Chain.result.now c.in-Chain.rest c.as_slice-links.result.now c.in_ok-other-in-Chain.other c.in-Comes-4.x
    c.args.around.now c.within-in-Chain.new.around _ c.chain.result c.in-Chain.is c.get-in-Chain.ensures c.as_slice-links.ensures c.in-Comes-4.is c.in_ok-other-in-Chain.ensures c.chain.ensures

pub evaluate-returns-in_default-4 : goal.evaluate-returns-in_default-4
evaluate-returns-in_default-4 t c =
    chain_stops c.args.memory.now c.args.frame c.in_ok-other-in-Chain.other c.args.value.now c.in-Chain.first c.get-in-Chain.result.now c.in-Chain.rest c.as_slice-links.result.now c.args.around.now
    c.within-in-Chain.new.around c.in-Chain.is c.get-in-Chain.ensures c.as_slice-links.ensures c.in_default-4.not-Comes c.in_ok-other-in-Chain.ensures

pub row-returns-in_default : goal.row-returns-in_default
row-returns-in_default t c =
    let values = c.args.values.now in
    let copy = c.in_ok-from_slice.field-0.items in
    let out = subst (λ vs. IsOutcome c.in_ok-other.other c.values.around c.within.new.around
    (goes c.args.memory.now c.args.frame c.index-values-index.result (Operands (head_of c.args.head) (reverse copy) vs ∷ c.values.around)))
    (all_after values (c.values.index + 1)) c.in_ok-other.ensures in
    rows_end c.args.memory.now c.args.frame (head_of c.args.head) c.args.done.items c.values.done.items copy values c.values.index c.index-values-index.result
    c.args.around.now c.values.around c.within.new.around c.values-test.true c.index-values-index.is c.values.invariant.same c.values.invariant.around
    (c.in_ok-from_slice.ensures.items ∙ c.as_slice.ensures.value) c.in_ok-other.other c.in_default.not-Comes out

pub row-values-preserved : goal.row-values-preserved
row-values-preserved t c =
    let values = c.args.values.now in
    let copy = c.in_ok-from_slice.field-0.items in
    let out = subst (λ vs. IsOutcome c.in_ok-other.other c.values.around c.within.new.around
    (goes c.args.memory.now c.args.frame c.index-values-index.result (Operands (head_of c.args.head) (reverse copy) vs ∷ c.values.around)))
    (all_after values (c.values.index + 1)) c.in_ok-other.ensures in
    let h = rows_go_on c.args.memory.now c.args.frame (head_of c.args.head) c.args.done.items c.values.done.items copy values c.values.index
    c.index-values-index.result c.args.around.now c.values.around c.within.new.around c.values-test.true c.index-values-index.is c.values.invariant.same c.values.invariant.around
    (c.in_ok-from_slice.ensures.items ∙ c.as_slice.ensures.value) c.in_ok-other.other c.in-Comes.cell c.push.new.self.items c.in_ok-push-in-Comes.ensures.items c.in-Comes.is out in
    record { same = h.0; around = h.1 }
