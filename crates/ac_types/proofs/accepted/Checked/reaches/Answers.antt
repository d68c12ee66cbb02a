use Rattle.ac_types.proofs.Numbers.{core_there, function_there, reach_sound, reach_whole}
use Rattle.ac_types.proofs.accepted.Checked.reaches.Goals as goal

pub get-requires : goal.get-requires
get-requires c = core_there c.self.inside.program c.args.self.now c.self.inside.reach c.self.view_is c.self.invariant.2 c.args.core c.from.result c.requires.core c.from.ensures

pub get-requires-2 : goal.get-requires-2
get-requires-2 c =
    function_there c.self.inside.program c.args.self.now c.self.inside.reach c.self.view_is c.self.invariant.2 c.args.core c.from.result c.get.result.now c.from.ensures c.get.ensures c.args.function
    c.from-2.result
    c.requires.function c.from-2.ensures

pub returns-clause-sound : goal.returns-clause-sound
returns-clause-sound c =
    reach_sound c.self.inside.program c.args.self.now c.self.inside.reach c.self.view_is c.self.invariant.2 c.args.core c.from.result c.get.result.now c.from.ensures c.get.ensures c.args.function
    c.from-2.result c.get-2.result.now
    c.from-2.ensures c.get-2.ensures

pub returns-clause-whole : goal.returns-clause-whole
returns-clause-whole c =
    reach_whole c.self.inside.program c.args.self.now c.self.inside.reach c.self.view_is c.self.invariant.2 c.args.core c.from.result c.get.result.now c.from.ensures c.get.ensures c.args.function
    c.from-2.result c.get-2.result.now
    c.requires.function c.from-2.ensures c.get-2.ensures
