use Rattle.std.proofs.Common.{sym, ◌∙◌}
use Rattle.core_state.specs.Cancelling.{is_to_try}
use Rattle.code_meaning.specs.Machine.{is_inside}
use Rattle.core_machine.specs.State.{flat_of}
use Rattle.core_machine.proofs.Decided.{asks_on, asks_place, never_happens}
use Rattle.core_machine.proofs.Rounds.{place_there}
use Rattle.core_machine.proofs.running.Running.decide_withdrawn.Goals as goal

pub cancels-requires-clause-running : goal.cancels-requires-clause-running
cancels-requires-clause-running c = asks_on c.args.self.now c.requires.asks

pub unreachable-requires-in_default-oldest_within : goal.unreachable-requires-in_default-oldest_within
unreachable-requires-in_default-oldest_within c =
    asks_place c.args.self.now c.requires.asks c.in-Some.block (sym c.cancels.ensures ∙ c.in-Some.is) (sym c.oldest_within.ensures ∙ c.in_default-oldest_within.is)

pub end_tried-requires-clause-places : goal.end_tried-requires-clause-places
end_tried-requires-clause-places c = c.requires.sound.places (asks_on c.args.self.now c.requires.asks)

pub returns : goal.returns
returns c =
    let m = c.args.self.now in
    let first = sym c.oldest_within.ensures ∙ c.in-Some-oldest_within.is in
    let there = place_there (is_to_try (is_inside (flat_of m) c.in-Some.block)) m.outstanding.operations c.in-Some-oldest_within.place first in
    record {
      decides = never_happens m c.end_tried.new.self c.in-Some.block (sym c.cancels.ensures ∙ c.in-Some.is) c.in-Some-oldest_within.place there.0 c.args.event c.args.stamp first there.1
          (c.end_tried.ensures.makes there.0 there.1);
    }
