-- The core of each number is made for the ports at its place.
use Rattle.std.proofs.Common.{◌≡◌, ◌∙◌, ap, sym, refl, subst, ◌++◌, [], ◌∷◌, length, append_assoc, arith}
use Rattle.std.specs.Vec.Iter.{into_iter_items}
use Rattle.std.proofs.lemmas.List.{length-append}
use Rattle.std.proofs.lemmas.Option.{slice_get_within}
use Rattle.core_driver.specs.Sides.{ArePortsOf}
use Rattle.ac_links.specs.Party.{PartyAgrees}
use Rattle.end_ports.specs.PortsTold.{told_of}
use Rattle.core_runner.specs.inner.Parties.{AreNewCores}
use Rattle.core_runner.proofs.NewParties.{its_ports, agrees_so_far, no_cores, one_core_more, new_core}
use Rattle.core_runner.proofs.Lists.{next_is, all_were}
use Rattle.core_runner.proofs.parties.cores_of.Goals as goal

pub loop-own-init : goal.loop-own-init
loop-own-init g c = record {
  left = refl;
  count = let gives = c.into_iter-own-iterator.ensures.into_iter_gives in let n = ap (λ xs. length xs) gives.0 in let m = gives.1 in omega arith;
  number = refl;
  cores = subst (AreNewCores c.args.code.now c.args.steps []) (sym c.new-parties.ensures.items) (no_cores c.args.code.now c.args.steps);
}

pub new-requires-in-loop-own-clause-ports : goal.new-requires-in-loop-own-clause-ports
new-requires-in-loop-own-clause-ports g c =
    let at = c.loop-own in
    let m = c.in_ok-machine.ensures in
    let here = next_is at.yielded _ _ c.args.ports.items at.invariant.left c.into_iter-own-iterator.ensures.into_iter_gives.0 c.in-Some.own _ c.in-Some.ensures.steps.0 in
    let has = c.requires.ends (length at.yielded) c.in-Some.own here in
    subst (λ x. ArePortsOf x c.in_ok-machine.machine.core (told_of c.in-Some.own).terms (told_of c.in-Some.own).ends) (sym m.code)
    (subst (λ n. ArePortsOf c.args.code.now n (told_of c.in-Some.own).terms (told_of c.in-Some.own).ends) (sym (m.core ∙ at.invariant.number))
    (its_ports c.args.code.now (length at.yielded) c.in-Some.own has))

pub new-requires-in-loop-own-clause-agrees : goal.new-requires-in-loop-own-clause-agrees
new-requires-in-loop-own-clause-agrees g c =
    let at = c.loop-own in
    let m = c.in_ok-machine.ensures in
    let here = next_is at.yielded _ _ c.args.ports.items at.invariant.left c.into_iter-own-iterator.ensures.into_iter_gives.0 c.in-Some.own _ c.in-Some.ensures.steps.0 in
    let has = c.requires.ends (length at.yielded) c.in-Some.own here in
    subst (λ n. PartyAgrees (told_of c.in-Some.own).terms n (told_of c.in-Some.own).ends []) (sym (m.core ∙ at.invariant.number))
    (agrees_so_far c.args.code.now (length at.yielded) c.in-Some.own has)

pub overflow_add-number : goal.overflow_add-number
overflow_add-number g c =
    let at = c.loop-own in
    let here = next_is at.yielded _ _ c.args.ports.items at.invariant.left c.into_iter-own-iterator.ensures.into_iter_gives.0 c.in-Some.own _ c.in-Some.ensures.steps.0 in
    let within = slice_get_within c.args.ports.items (length at.yielded) c.in-Some.own here in
    let number = at.invariant.number in let count = c.requires.count in let few = c.instrs-instrs.ensures.valid.lists.cores.few in omega arith

pub loop-own-preserved : goal.loop-own-preserved
loop-own-preserved g c =
    let at = c.loop-own in
    let x = c.in-Some.own in
    let m = c.in_ok-machine.ensures in
    let steps : into_iter_items at.own-iterator ≡ x ∷ into_iter_items c.next.new.self = c.in-Some.ensures.steps.0 in
    record {
      left = append_assoc at.yielded (x ∷ []) _ ∙ rw (← steps) at.invariant.left;
      count = let was = at.invariant.count in let gone = c.in-Some.ensures.steps.1 in let short = ap length steps in omega arith;
      number = let number = at.invariant.number in let n = length-append at.yielded (x ∷ []) in omega arith;
      cores = subst (AreNewCores c.args.code.now c.args.steps (at.yielded ++ x ∷ [])) (sym c.in_ok-push.ensures.items)
          (one_core_more c.args.code.now c.args.steps at.yielded at.parties.items x c.new-in-loop-own.result at.invariant.cores
          (new_core c.args.code.now c.args.steps (length at.yielded) x c.in_ok-machine.machine c.new-in-loop-own.result c.new-in-loop-own.ensures.machine c.new-in-loop-own.ensures.ports m.code
          (m.core ∙ at.invariant.number) m.bound m.journal));
    }

pub returns-clause-cores : goal.returns-clause-cores
returns-clause-cores g c =
    let at = c.loop-own in
    let all = all_were at.yielded _ _ c.args.ports.items at.invariant.left c.into_iter-own-iterator.ensures.into_iter_gives.0 (sym at.invariant.count ∙ c.in-None.ensures.steps.0) in
    subst (AreNewCores c.args.code.now c.args.steps c.args.ports.items) (sym c.in_ok-reserve.ensures.items)
    (subst (λ hs. AreNewCores c.args.code.now c.args.steps hs at.parties.items) all at.invariant.cores)
