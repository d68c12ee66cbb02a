use Rattle.std.proofs.Common.{refl, true}
use Rattle.work_item.specs.Store.{some_over}
use Rattle.work_item.proofs.Sound.{sound_same}
use Rattle.work_item.proofs.Stands.{seen}
use Rattle.work_item.proofs.table.Table.end.Goals as goal

pub invariant_of-self : goal.invariant_of-self
invariant_of-self c = sound_same _ _ c.args.frame.number c.value_mut.result.now _ c.self.invariant c.value_mut.ensures.value refl refl refl

pub returns-clause-ended : goal.returns-clause-ended
returns-clause-ended c = seen _ _ c.args.frame.number c.value_mut.result.now _ some_over c.self.view_is c.value_mut.ensures.value refl

pub returns-clause-rooted : goal.returns-clause-rooted
returns-clause-rooted c =
    let x = c.value_mut.result.now in
    (sound_same c.self.inside.lives.items c.self.inside.words c.args.frame.number x (record x { over = true }) c.self.invariant c.value_mut.ensures.value refl refl refl).rooted
