use Rattle.std.proofs.Common.{◌≡◌, ◌<◌, ◌^◌, length, Some, slice_index_or, ap, sym, subst, ◌∙◌, arith}
use Rattle.std.proofs.lemmas.Option.{slice_get-get_or}
use Rattle.stack_code.specs.declared.instr.Instr.TheVariants as i
use Rattle.core_machine.specs.State.{flat_of}
use Rattle.core_machine.specs.inner.Changes.{at_address}
use Rattle.core_machine.proofs.Sound as sound
use Rattle.core_machine.proofs.Sound.{within, finds_there, is_item}
use Rattle.core_machine.proofs.running.Running.next_instr.Goals as goal

pub bounds-instrs-address : goal.bounds-instrs-address
bounds-instrs-address c =
    let m = at_address c.args.self.now c.args.address in
    let fit = c.requires.sound.fit c.requires.running in
    let t = is_item m.schedule.running c.requires.runs in
    subst (λ xs. m.place < length xs) (sym c.requires.instrs) (within m.code.now m.bound (flat_of m) fit c.requires.sound.valid t.0 t.1)

pub offset_bounds-instrs-address : goal.offset_bounds-instrs-address
offset_bounds-instrs-address c =
    let m = at_address c.args.self.now c.args.address in
    let fit = c.requires.sound.fit c.requires.running in
    let t = is_item m.schedule.running c.requires.runs in
    let l : m.place < 2 ^ 32 = sound.inside m.code.now m.bound (flat_of m) fit c.requires.sound.valid t.0 t.1 in
    omega (arith, l)

pub returns-clause-here : goal.returns-clause-here
returns-clause-here c =
    let m = at_address c.args.self.now c.args.address in
    let fit = c.requires.sound.fit c.requires.running in
    let t = is_item m.schedule.running c.requires.runs in
    let instrs = m.code.now.instrs in
    let there = slice_get-get_or instrs m.place i.Step (within m.code.now m.bound (flat_of m) fit c.requires.sound.valid t.0 t.1) in
    let same : slice_index_or instrs m.place i.Step ≡ slice_index_or c.args.instrs.now m.place i.Step = ap (λ xs. slice_index_or xs m.place i.Step) (sym c.requires.instrs) in
    there ∙ ap (λ x. Some x) same

pub returns-clause-inside : goal.returns-clause-inside
returns-clause-inside c =
    let m = at_address c.args.self.now c.args.address in
    let t = is_item m.schedule.running c.requires.runs in
    sound.inside m.code.now m.bound (flat_of m) (c.requires.sound.fit c.requires.running) c.requires.sound.valid t.0 t.1

pub returns-clause-finds : goal.returns-clause-finds
returns-clause-finds c =
    let m = at_address c.args.self.now c.args.address in
    let fit = c.requires.sound.fit c.requires.running in
    let t = is_item m.schedule.running c.requires.runs in
    let instrs = m.code.now.instrs in
    let there = slice_get-get_or instrs m.place i.Step (within m.code.now m.bound (flat_of m) fit c.requires.sound.valid t.0 t.1) in
    let same : slice_index_or instrs m.place i.Step ≡ slice_index_or c.args.instrs.now m.place i.Step = ap (λ xs. slice_index_or xs m.place i.Step) (sym c.requires.instrs) in
    finds_there m.code.now m.bound (flat_of m) fit c.requires.sound.valid t.0 t.1 (c.requires.sound.chained c.requires.running)
    (slice_index_or c.args.instrs.now m.place i.Step) (there ∙ ap (λ x. Some x) same)
