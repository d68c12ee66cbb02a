use Rattle.std.proofs.Common.{◌≡◌, ◌+◌, ◌<◌, List, [], ◌∷◌, ◌++◌, length, Bool, true, false, ap, sym, ◌∙◌, subst, rules, arith, length-append}
use Rattle.std.specs.Prelude.{IfSome, slice_index_or}
use Rattle.work_item.specs.declared.ids.Item.{Item}
use Rattle.core_state.specs.Frames.{has_words}
use Rattle.code_meaning.specs.Machine.{nobody}
use Rattle.core_machine.specs.declared.running.Running.{Running}
use Rattle.core_machine.specs.State.{flat_of, thread_of}
use Rattle.core_machine.proofs.Does.{can_count, started, between_is}
use Rattle.core_machine.proofs.Places.{has_new}
use Rattle.core_machine.proofs.running.Running.start.Goals as goal

pub begin-requires : goal.begin-requires
begin-requires c =
    let m = c.args.self.now in
    let h = c.requires.can.has in
    let pushed = c.add.ensures.threads ∙ ap (λ xs. xs ++ nobody ∷ []) c.reserve.ensures.threads in
    let long : length c.add.new.self.threads ≡ length m.threads.threads + 1 = ap length pushed ∙ length-append m.threads.threads (nobody ∷ []) in
    can_count m c.requires.running c.item-item.result c.item-item.ensures h c.innermost-block.result c.innermost-block.ensures (omega (arith, long, c.add.ensures.few, c.requires.can.few))

pub returns-clause-ok : goal.returns-clause-ok
returns-clause-ok c =
    let m = c.args.self.now in
    let h = c.requires.can.has in
    let room : has_words m.frames c.args.slots ≡ true = search rules in
    let listed : IfSome m.schedule.running (λ (t : Item). t.number < length m.threads.threads) = c.requires.can.listed in
    let lt = subst (λ o. IfSome o (λ (t : Item). t.number < length m.threads.threads)) c.item-item.ensures listed in
    let many : c.len.result ≡ length m.threads.threads = c.len.ensures.threads ∙ ap length c.reserve.ensures.threads in
    let pushed = c.add.ensures.threads ∙ ap (λ xs. xs ++ nobody ∷ []) c.reserve.ensures.threads in
    let flat = between_is m c.requires.running c.item-item.result c.item-item.ensures h c.innermost-block.result c.innermost-block.ensures c.args.slots
    c.make.new.self c.reserve_all.new.self c.yield_to.new.self
    c.add.new.self.threads c.begin.new.self c.len.result c.in_ok-frame.ensures.ok c.reserve_all.ensures.running c.reserve_all.ensures.ready c.yield_to.ensures many pushed c.begin.ensures in
    let next = c.new-next.ensures ∙ ap (λ (y : Running). record nobody { place = y.place + 1; frame = c.in_ok-frame.frame; block = y.block }) c.count_one.ensures
    ∙ ap (λ g. record nobody { place = m.place + 1; frame = g; block = m.block }) c.in_ok-frame.ensures.number in
    started m c.requires.running c.item-item.result c.item-item.ensures h c.innermost-block.result c.innermost-block.ensures c.args.slots
    c.args.to c.count_one.new.self c.park.new.self c.new-next.result
    room lt (ap flat_of c.count_one.ensures ∙ flat) (ap thread_of c.count_one.ensures) (ap (λ (y : Running). y.ended) c.count_one.ensures) next c.park.ensures.ended c.park.ensures.flat

pub returns-clause-places : goal.returns-clause-places
returns-clause-places c e =
    let m = c.args.self.now in
    let lives = c.park.ensures.keeps.lives ∙ ap (λ (y : Running). y.threads.lives) c.count_one.ensures in
    let pushed : c.add.new.self.lives ≡ m.threads.lives ++ true ∷ [] = c.add.ensures.lives ∙ ap (λ xs. xs ++ true ∷ []) c.reserve.ensures.lives in
    let same : c.len.result ≡ length m.threads.threads = c.len.ensures.threads ∙ ap length c.reserve.ensures.threads in
    let many : length m.threads.threads ≡ length m.threads.lives = sym same ∙ c.len.ensures.lives ∙ ap length c.reserve.ensures.lives in
    let all = lives ∙ pushed in (
      all,
      subst (λ (xs : List Bool). slice_index_or xs (length m.threads.threads) false ≡ true) (sym all) (has_new m.threads.lives (length m.threads.threads) many),
    )
