use Rattle.std.proofs.Common.{◌≡◌, ◌∷◌, ◌-◌, length, take, refl, sym, ap, ◌∙◌, subst, arith, reverse, Some, [], w64, SFits, rules}
use Rattle.std.proofs.lemmas.Int.{to_z-of_z}
use Rattle.std.specs.Prelude.{slice_get}
use Rattle.work_item.specs.declared.cell.Cell.TheVariants as cell
use Rattle.thread_table.specs.Callers.{Popped, callers_of}
use Rattle.thread_table.proofs.Innermost.{innermost, innermost_first, alone, alone_first, last_is}
use Rattle.thread_table.proofs.callers.Callers.pop.Goals as goal

pub returns-clause-ok : goal.returns-clause-ok
returns-clause-ok c =
    let w = c.in-Some.caller in
    let waiting = c.self.inside.waiting.items in
    let cells = c.self.inside.cells in
    let end = c.len.result - w.below in
    let rest = take (length waiting - 1) waiting in
    let lies : end ≡ length cells - w.below = omega (arith, c.len.ensures) in
    let here : slice_get waiting (length waiting - 1) ≡ Some w = sym (ap (λ l. slice_get l (length l - 1)) c.deref.ensures.value) ∙ sym c.last.ensures.value ∙ sym c.copied.ensures ∙ c.in-Some.is in
    let last = last_is waiting w here in
    let first = innermost_first waiting rest w cells end last c.self.invariant lies in
    let others = callers_of (reverse rest) (reverse (take end cells)) in
    let was : c.args.self.now ≡ innermost waiting rest w cells end last c.self.invariant lies ∷ others = sym c.self.view_is ∙ first in
    let fits : SFits w64 c.args.value = search rules in
    subst (λ l. Popped l c.forget.new.self (cell.Int c.args.value) (Some w) c.args.operands.now c.restore.new.self) (sym was) (
      refl,
      (
        refl,
        (
          c.forget.ensures.one (innermost waiting rest w cells end last c.self.invariant lies) others was,
          c.in_ok-restore.ensures.ok ∙ ap (λ z. cell.Int z ∷ reverse c.from.result) (to_z-of_z w64 c.args.value fits)
              ∙ ap (λ l. cell.Int c.args.value ∷ reverse l) c.from.ensures,
        ),
      ),
    )

-- it has left no operands below
pub returns-then-replace_all-clause-ok : goal.returns-then-replace_all-clause-ok
returns-then-replace_all-clause-ok c =
    let w = c.in-Some.caller in
    let waiting = c.self.inside.waiting.items in
    let cells = c.self.inside.cells in
    let rest = take (length waiting - 1) waiting in
    let here : slice_get waiting (length waiting - 1) ≡ Some w = sym (ap (λ l. slice_get l (length l - 1)) c.deref.ensures.value) ∙ sym c.last.ensures.value ∙ sym c.copied.ensures ∙ c.in-Some.is in
    let last = last_is waiting w here in
    let none : w.below ≡ 0 = omega (arith, c.if-caller-eq0.true) in
    let others = callers_of (reverse rest) (reverse cells) in
    let was : c.args.self.now ≡ alone waiting rest w cells last none ∷ others = sym c.self.view_is ∙ alone_first waiting rest w cells last none in
    let count : c.self.inside.waiting.len ≡ length waiting = omega (arith, c.self.inside.waiting.ok.0) in
    let left : c.pop.new.self.items ≡ rest = c.pop.ensures.rest ∙ ap (λ n. take (n - 1) waiting) count in
    let fits : SFits w64 c.args.value = search rules in
    subst (λ l. Popped l (callers_of (reverse c.pop.new.self.items) (reverse cells)) (cell.Int c.args.value) (Some w) c.args.operands.now c.replace_all.new.self) (sym was)
    (refl, (refl, (ap (λ l. callers_of (reverse l) (reverse cells)) left, c.replace_all.ensures.some c.if-replace_all.true ∙ ap (λ z. cell.Int z ∷ []) (to_z-of_z w64 c.args.value fits))))
