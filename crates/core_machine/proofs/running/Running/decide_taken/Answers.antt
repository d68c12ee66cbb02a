use Rattle.std.proofs.Common.{sym, ◌∙◌}
use Rattle.core_machine.proofs.Decided.{asks_on, asks_place, has_begun, is_done}
use Rattle.core_machine.proofs.running.Running.decide_taken.Goals as goal

pub cancels-requires-clause-running : goal.cancels-requires-clause-running
cancels-requires-clause-running c = asks_on c.args.self.now c.requires.asks

pub unreachable-requires-in_default-oldest_within : goal.unreachable-requires-in_default-oldest_within
unreachable-requires-in_default-oldest_within c =
    asks_place c.args.self.now c.requires.asks c.in-Some.block (sym c.cancels.ensures ∙ c.in-Some.is) (sym c.oldest_within.ensures ∙ c.in_default-oldest_within.is)

pub end_tried-requires-clause-places : goal.end_tried-requires-clause-places
end_tried-requires-clause-places c = c.requires.sound.places (asks_on c.args.self.now c.requires.asks)

pub returns-then-is_request : goal.returns-then-is_request
returns-then-is_request c =
    let m = c.args.self.now in
    let first = sym c.oldest_within.ensures ∙ c.in-Some-oldest_within.is in
    record {
      decides = has_begun m c.begin_tried.new.self c.in-Some.block (sym c.cancels.ensures ∙ c.in-Some.is) c.in-Some-oldest_within.place c.get.result.now c.args.event c.args.stamp first
          c.get.ensures (sym c.is_request.ensures ∙ c.if-is_request.true) (c.begin_tried.ensures.makes c.get.result.now c.get.ensures);
    }

pub returns-else-is_request : goal.returns-else-is_request
returns-else-is_request c =
    let m = c.args.self.now in
    let first = sym c.oldest_within.ensures ∙ c.in-Some-oldest_within.is in
    record {
      decides = is_done m c.end_tried.new.self c.in-Some.block (sym c.cancels.ensures ∙ c.in-Some.is) c.in-Some-oldest_within.place c.get.result.now c.args.event c.args.stamp first
          c.get.ensures (sym c.is_request.ensures ∙ c.if-is_request.false) (c.end_tried.ensures.makes c.get.result.now c.get.ensures);
    }
