use Rattle.std.proofs.Common.{[], ◌∷◌, ◌++◌, ap, sym, ◌∙◌}
use Rattle.merge_run.proofs.Meeting.{some_taken, none_taken, one_each_then}
use Rattle.merge_run.proofs.consumer.Consumer.step.Goals as goal

pub returns-in-Some-clause-consuming : goal.returns-in-Some-clause-consuming
returns-in-Some-clause-consuming c =
    let old = c.args.self.now in
    record {
      received = c.push_reserved.ensures.items ∙ ap (λ xs. xs ++ c.in-Some.value ∷ []) (c.reserve.ensures.items ∙ c.requires.received)
          ∙ sym (some_taken old.end c.take.new.self old.clock c.requires.one_each c.take.result c.in-Some.value c.take.ensures.answer (sym c.in-Some.is ∙ c.taken.ensures));
      one_each = one_each_then old.end c.take.new.self old.clock c.requires.one_each c.take.result c.take.ensures.answer;
    }

pub returns-in_default-clause-consuming : goal.returns-in_default-clause-consuming
returns-in_default-clause-consuming c =
    let old = c.args.self.now in
    record {
      received = c.reserve.ensures.items ∙ c.requires.received
          ∙ sym (none_taken old.end c.take.new.self old.clock c.requires.one_each c.take.result c.take.ensures.answer (sym c.in_default.is ∙ c.taken.ensures));
      one_each = one_each_then old.end c.take.new.self old.clock c.requires.one_each c.take.result c.take.ensures.answer;
    }
