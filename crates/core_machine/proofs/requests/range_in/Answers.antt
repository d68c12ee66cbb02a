use Rattle.std.proofs.Common.{◌≡◌, ℕ, ℤ, Ok, Err, IfOk, IfErr, sym, ap, ◌∙◌, subst, rules, w64, to_z, of_z}
use Rattle.std.proofs.lemmas.Int.{ints, to_z-of_z}
use Rattle.std.proofs.lemmas.Option.{get_or_from_slice_get}
use Rattle.work_item.specs.declared.cell.Place.{Place}
use Rattle.work_item.specs.Store.{int_in, no_int, place_in}
use Rattle.cancel_scope.specs.declared.operation.Asked.{Asked}
use Rattle.core_state.specs.Requests.{if_in_range}
use Rattle.core_machine.specs.inner.Operands.{first_place, int_below}
use Rattle.core_machine.proofs.requests.range_in.Goals as goal

pub returns-clause-ok : goal.returns-clause-ok
returns-clause-ok c =
    let ops = c.args.operands.now in
    let told_from = to_z w64 (of_z w64 c.int_in-from.result) in
    let told_len = to_z w64 (of_z w64 c.int_in-len.result) in
    let same_from : told_from ≡ c.int_in-from.result = search (rules, ints, to_z-of_z) in
    let same_len : told_len ≡ c.int_in-len.result = search (rules, ints, to_z-of_z) in
    let from : told_from ≡ int_below ops 2 = same_from ∙ c.int_in-from.ensures ∙ ap int_in (sym (get_or_from_slice_get ops 2 c.operand.result no_int c.operand.ensures)) in
    let len : told_len ≡ int_below ops 1 = same_len ∙ c.int_in-len.ensures ∙ ap int_in (sym (get_or_from_slice_get ops 1 c.operand-2.result no_int c.operand-2.ensures)) in
    let array : c.place_in.result ≡ first_place ops = c.place_in.ensures ∙ ap place_in (sym (get_or_from_slice_get ops 0 c.operand-3.result no_int c.operand-3.ensures)) in
    subst (λ (a : Place). IfOk c.range_of.result (λ r. (ask : ℕ → Place → Asked) → if_in_range a (int_below ops 2) (int_below ops 1) ask ≡ Ok (ask r.from r.elements))) array
    (subst (λ (n : ℤ). IfOk c.range_of.result (λ r. (ask : ℕ → Place → Asked) → if_in_range c.place_in.result (int_below ops 2) n ask ≡ Ok (ask r.from r.elements))) len
    (subst (λ (f : ℤ). IfOk c.range_of.result (λ r. (ask : ℕ → Place → Asked) → if_in_range c.place_in.result f told_len ask ≡ Ok (ask r.from r.elements))) from c.range_of.ensures.ok))

pub returns-clause-err : goal.returns-clause-err
returns-clause-err c =
    let ops = c.args.operands.now in
    let told_from = to_z w64 (of_z w64 c.int_in-from.result) in
    let told_len = to_z w64 (of_z w64 c.int_in-len.result) in
    let same_from : told_from ≡ c.int_in-from.result = search (rules, ints, to_z-of_z) in
    let same_len : told_len ≡ c.int_in-len.result = search (rules, ints, to_z-of_z) in
    let from : told_from ≡ int_below ops 2 = same_from ∙ c.int_in-from.ensures ∙ ap int_in (sym (get_or_from_slice_get ops 2 c.operand.result no_int c.operand.ensures)) in
    let len : told_len ≡ int_below ops 1 = same_len ∙ c.int_in-len.ensures ∙ ap int_in (sym (get_or_from_slice_get ops 1 c.operand-2.result no_int c.operand-2.ensures)) in
    let array : c.place_in.result ≡ first_place ops = c.place_in.ensures ∙ ap place_in (sym (get_or_from_slice_get ops 0 c.operand-3.result no_int c.operand-3.ensures)) in
    subst (λ (a : Place). IfErr c.range_of.result (λ trap. (ask : ℕ → Place → Asked) → if_in_range a (int_below ops 2) (int_below ops 1) ask ≡ Err trap)) array
    (subst (λ (n : ℤ). IfErr c.range_of.result (λ trap. (ask : ℕ → Place → Asked) → if_in_range c.place_in.result (int_below ops 2) n ask ≡ Err trap)) len
    (subst (λ (f : ℤ). IfErr c.range_of.result (λ trap. (ask : ℕ → Place → Asked) → if_in_range c.place_in.result f told_len ask ≡ Err trap)) from c.range_of.ensures.err))
