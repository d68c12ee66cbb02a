use Rattle.work_item.proofs.Filling.{filled, length-filled}
use Rattle.work_item.proofs.Stands.{adds_to, added_can, added_sound, added_seen}
use Rattle.work_item.proofs.table.Table.push.Goals as goal

pub count_in-requires : goal.count_in-requires
count_in-requires c =
    let cells = filled c.args.first.now c.args.words in
    added_can _ _ _ _ c.args.parent cells _ (record {
      sound = c.self.invariant;
      view = c.self.view_is;
      alive = c.requires.parent;
      few = c.requires.words;
      long = length-filled c.args.first.now c.args.words c.requires.first;
      adds = adds_to _ _ _ c.args.parent cells c.in_ok-reserve.ensures.items c.in_ok-number.ensures.ok;
    })

pub invariant_of-self-2 : goal.invariant_of-self-2
invariant_of-self-2 c =
    let cells = filled c.args.first.now c.args.words in
    added_sound _ _ _ _ c.args.parent cells _ (record {
      sound = c.self.invariant;
      view = c.self.view_is;
      alive = c.requires.parent;
      few = c.requires.words;
      long = length-filled c.args.first.now c.args.words c.requires.first;
      adds = adds_to _ _ _ c.args.parent cells c.in_ok-reserve.ensures.items c.in_ok-number.ensures.ok;
    })
    _ c.count_in.ensures

pub returns-clause-ok : goal.returns-clause-ok
returns-clause-ok c =
    let cells = filled c.args.first.now c.args.words in
    added_seen _ _ _ _ c.args.parent cells _ (record {
      sound = c.self.invariant;
      view = c.self.view_is;
      alive = c.requires.parent;
      few = c.requires.words;
      long = length-filled c.args.first.now c.args.words c.requires.first;
      adds = adds_to _ _ _ c.args.parent cells c.in_ok-reserve.ensures.items c.in_ok-number.ensures.ok;
    })
    _ c.count_in.ensures
