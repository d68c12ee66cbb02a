use Rattle.std.proofs.Common.{◌≡◌, ℕ, ℤ, List, [], ◌∷◌, reverse, Ok, Err, IfOk, IfErr, refl, ap, ◌∙◌, subst, rules, w64, to_z, of_z}
use Rattle.std.proofs.lemmas.Int.{ints, to_z-of_z}
use Rattle.std.specs.Prelude.{slice_index_or}
use Rattle.work_item.specs.declared.cell.Cell.{Cell}
use Rattle.work_item.specs.declared.cell.Place.{Place}
use Rattle.work_item.specs.Store.{no_int, int_in, place_in}
use Rattle.cancel_scope.specs.declared.operation.Asked.{Asked}
use Rattle.core_state.specs.Requests.{if_in_range}
use Rattle.ac_semantics.specs.Statements.{last_of, before_last, place_operand, length_operand}
use Rattle.interpreter_steps.proofs.requests.elements_in.Goals as goal

first : (xs : List Cell) → slice_index_or xs 0 no_int ≡ last_of xs
first [] = refl
first (x ∷ xs) = refl

second : (xs : List Cell) → slice_index_or xs 1 no_int ≡ last_of (before_last xs)
second [] = refl
second (x ∷ xs) = first xs

third : (xs : List Cell) → slice_index_or xs 2 no_int ≡ last_of (before_last (before_last xs))
third [] = refl
third (x ∷ xs) = second xs

pub returns-clause-ok : goal.returns-clause-ok
returns-clause-ok c =
    let xs = reverse c.args.operands.now in
    let told_from = to_z w64 (of_z w64 c.as_int-from.result) in
    let told_len = to_z w64 (of_z w64 c.as_int-len.result) in
    let same_from : told_from ≡ c.as_int-from.result = search (rules, ints, to_z-of_z) in
    let same_len : told_len ≡ c.as_int-len.result = search (rules, ints, to_z-of_z) in
    let from : told_from ≡ place_operand xs = same_from ∙ c.as_int-from.ensures ∙ ap int_in (c.operand.ensures ∙ third xs) in
    let len : told_len ≡ length_operand xs = same_len ∙ c.as_int-len.ensures ∙ ap int_in (c.operand-2.ensures ∙ second xs) in
    let array = c.as_array.ensures ∙ ap place_in (c.operand-3.ensures ∙ first xs) in
    subst (λ (a : Place). IfOk c.elements_of.result (λ r. (ask : ℕ → Place → Asked) → if_in_range a (place_operand xs) (length_operand xs) ask ≡ Ok (ask r.from r.span))) array
    (subst (λ (n : ℤ). IfOk c.elements_of.result (λ r. (ask : ℕ → Place → Asked) → if_in_range c.as_array.result (place_operand xs) n ask ≡ Ok (ask r.from r.span))) len
    (subst (λ (f : ℤ). IfOk c.elements_of.result (λ r. (ask : ℕ → Place → Asked) → if_in_range c.as_array.result f told_len ask ≡ Ok (ask r.from r.span))) from c.elements_of.ensures.ok))

pub returns-clause-err : goal.returns-clause-err
returns-clause-err c =
    let xs = reverse c.args.operands.now in
    let told_from = to_z w64 (of_z w64 c.as_int-from.result) in
    let told_len = to_z w64 (of_z w64 c.as_int-len.result) in
    let same_from : told_from ≡ c.as_int-from.result = search (rules, ints, to_z-of_z) in
    let same_len : told_len ≡ c.as_int-len.result = search (rules, ints, to_z-of_z) in
    let from : told_from ≡ place_operand xs = same_from ∙ c.as_int-from.ensures ∙ ap int_in (c.operand.ensures ∙ third xs) in
    let len : told_len ≡ length_operand xs = same_len ∙ c.as_int-len.ensures ∙ ap int_in (c.operand-2.ensures ∙ second xs) in
    let array = c.as_array.ensures ∙ ap place_in (c.operand-3.ensures ∙ first xs) in
    subst (λ (a : Place). IfErr c.elements_of.result (λ trap. (ask : ℕ → Place → Asked) → if_in_range a (place_operand xs) (length_operand xs) ask ≡ Err trap)) array
    (subst (λ (n : ℤ). IfErr c.elements_of.result (λ trap. (ask : ℕ → Place → Asked) → if_in_range c.as_array.result (place_operand xs) n ask ≡ Err trap)) len
    (subst (λ (f : ℤ). IfErr c.elements_of.result (λ trap. (ask : ℕ → Place → Asked) → if_in_range c.as_array.result f told_len ask ≡ Err trap)) from c.elements_of.ensures.err))
