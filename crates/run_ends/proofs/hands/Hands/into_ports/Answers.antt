use Rattle.std.proofs.Common.{◌≡◌, ◌∙◌, ap, sym, ◌++◌, [], ◌∷◌, length, append_assoc, arith}
use Rattle.std.specs.Vec.Iter.{into_iter_items}
use Rattle.std.proofs.lemmas.List.{length-append}
use Rattle.run_ends.specs.inner.Hands.{port_of, ports_from}
use Rattle.run_ends.proofs.Growing.{ports_more}
use Rattle.run_ends.proofs.hands.Hands.into_ports.Goals as goal

pub loop-hand-preserved : goal.loop-hand-preserved
loop-hand-preserved c =
    let at = c.loop-hand in
    let x = c.in-Some.hand in
    let steps : into_iter_items at.hand-iterator ≡ x ∷ into_iter_items c.next.new.self = c.in-Some.ensures.steps.0 in
    record {
      left = append_assoc at.yielded (x ∷ []) _ ∙ rw (← steps) at.invariant.left;
      count = let was = at.invariant.count in let gone = c.in-Some.ensures.steps.1 in let short = ap length steps in omega arith;
      asked = let n = length-append at.yielded (x ∷ []) in let was = at.invariant.asked in omega arith;
      ports = c.in_ok-push.ensures.items ∙ ap (λ ps. ps ++ c.into_ports.result ∷ []) at.invariant.ports
          ∙ ap (λ p. ports_from c.args.channels at.yielded ++ p ∷ []) (c.into_ports.ensures ∙ ap (λ m. port_of m x) at.invariant.asked)
          ∙ sym (ports_more c.args.channels at.yielded x);
    }
