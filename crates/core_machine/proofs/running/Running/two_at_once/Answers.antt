use Rattle.std.proofs.Common.{◌≡◌, ◌+◌, ◌<◌, Some, true, ap, ◌∙◌, subst, rules, w64, SFits, slice_index_or}
use Rattle.std.proofs.lemmas.Int.{to_z-of_z}
use Rattle.stack_code.specs.declared.instr.Instr.TheVariants as i
use Rattle.core_machine.specs.State.{IsSound}
use Rattle.core_machine.specs.inner.Changes.{at_address}
use Rattle.core_machine.specs.inner.Led.{IsLed, pushed, DoesOn}
use Rattle.core_machine.specs.inner.Left.{left_of}
use Rattle.core_machine.proofs.Pushed.{at_push}
use Rattle.core_machine.proofs.Sound.{keeps_at, keeps_code}
use Rattle.core_machine.proofs.running.Running.two_at_once.Goals as goal

pub bounds-instrs-address : goal.bounds-instrs-address
bounds-instrs-address c =
    let m = at_address c.args.self.now c.args.address.now in
    let n = at_push m c.requires.running c.requires.runs c.requires.sound c.in-Push.value (c.requires.here ∙ ap (λ x. Some x) c.in-Push.is)
    c.args._ranks.now c.requires.ranked c.args.instrs.now c.requires.instrs in
    n.within

pub push_and_apply-requires-clause-inside : goal.push_and_apply-requires-clause-inside
push_and_apply-requires-clause-inside c =
    let m = at_address c.args.self.now c.args.address.now in
    let n = at_push m c.requires.running c.requires.runs c.requires.sound c.in-Push.value (c.requires.here ∙ ap (λ x. Some x) c.in-Push.is)
    c.args._ranks.now c.requires.ranked c.args.instrs.now c.requires.instrs in
    n.inside

pub push_and_apply-requires-clause-int : goal.push_and_apply-requires-clause-int
push_and_apply-requires-clause-int c =
    let m = at_address c.args.self.now c.args.address.now in
    let n = at_push m c.requires.running c.requires.runs c.requires.sound c.in-Push.value (c.requires.here ∙ ap (λ x. Some x) c.in-Push.is)
    c.args._ranks.now c.requires.ranked c.args.instrs.now c.requires.instrs in
    n.int

pub push_and_apply-requires-clause-third : goal.push_and_apply-requires-clause-third
push_and_apply-requires-clause-third c =
    let m = at_address c.args.self.now c.args.address.now in
    let n = at_push m c.requires.running c.requires.runs c.requires.sound c.in-Push.value (c.requires.here ∙ ap (λ x. Some x) c.in-Push.is)
    c.args._ranks.now c.requires.ranked c.args.instrs.now c.requires.instrs in
    n.third

after_both : (c : goal.After-push_and_apply) → c.push_and_apply.result ≡ true →
    let m = at_address c.args.self.now c.args.address.now in
    let after = at_address c.push_and_apply.new.self c.push_and_apply.new.address in
    IsLed m after × (IsSound after × (left_of c.args._ranks.now after < left_of c.args._ranks.now m))
after_both c done =
    let m = at_address c.args.self.now c.args.address.now in
    let after = at_address c.push_and_apply.new.self c.push_and_apply.new.address in
    let n = at_push m c.requires.running c.requires.runs c.requires.sound c.in-Push.value (c.requires.here ∙ ap (λ x. Some x) c.in-Push.is)
    c.args._ranks.now c.requires.ranked c.args.instrs.now c.requires.instrs in
    let fits : SFits w64 c.in-Push.value = search rules in
    let next = slice_index_or c.args.instrs.now (m.place + 1) i.Step in
    let third = slice_index_or c.args.instrs.now (m.place + 1 + 1) i.Step in
    let kept = keeps_code c.args.self.now c.push_and_apply.new.self c.push_and_apply.ensures.keeps in
    n.some after (subst (λ v. DoesOn (pushed m v) next third after) (to_z-of_z w64 c.in-Push.value fits) (c.push_and_apply.ensures.does done)) (c.push_and_apply.ensures.places done)
    (keeps_at c.args.self.now c.push_and_apply.new.self c.args.address.now c.push_and_apply.new.address kept)

pub returns-clause-led : goal.returns-clause-led
returns-clause-led c done = (after_both c done).0

pub returns-clause-sound : goal.returns-clause-sound
returns-clause-sound c done = (after_both c done).1.0

pub returns-clause-less : goal.returns-clause-less
returns-clause-less c done = (after_both c done).1.1
