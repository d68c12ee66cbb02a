use Rattle.std.proofs.Common.{◌≡◌, [], ◌∷◌, ◌-◌, length, take, sym, ap, ◌∙◌, arith, reverse}
use Rattle.thread_table.specs.Callers.{callers_of}
use Rattle.thread_table.proofs.Innermost.{innermost, innermost_first}
use Rattle.thread_table.proofs.callers.Callers.forget.Goals as goal

pub returns-in-Some-clause-one : goal.returns-in-Some-clause-one
returns-in-Some-clause-one c d callers e =
    let w = c.in-Some.caller in
    let waiting = c.self.inside.waiting.items in
    let cells = c.self.inside.cells in
    let end = c.len.result - w.below in
    let rest = c.pop.new.self.items in
    let lies : end ≡ length cells - w.below = omega (arith, c.len.ensures) in
    let first = innermost_first waiting rest w cells end c.in-Some.ensures.items c.self.invariant lies in
    let both : d ∷ callers ≡ innermost waiting rest w cells end c.in-Some.ensures.items c.self.invariant lies ∷ callers_of (reverse rest) (reverse (take end cells)) =
    sym e ∙ sym c.self.view_is ∙ first in
    ap (λ l. callers_of (reverse rest) (reverse l)) c.truncate.ensures ∙ sym (cc)

-- one waits
pub returns-in-Some-clause-none : goal.returns-in-Some-clause-none
returns-in-Some-clause-none c e =
    let w = c.in-Some.caller in
    let waiting = c.self.inside.waiting.items in
    let cells = c.self.inside.cells in
    let end = c.len.result - w.below in
    let rest = c.pop.new.self.items in
    let lies : end ≡ length cells - w.below = omega (arith, c.len.ensures) in
    let first = innermost_first waiting rest w cells end c.in-Some.ensures.items c.self.invariant lies in
    let no : [] ≡ innermost waiting rest w cells end c.in-Some.ensures.items c.self.invariant lies ∷ callers_of (reverse rest) (reverse (take end cells)) =
    sym e ∙ sym c.self.view_is ∙ first in
    absurd (cc)
