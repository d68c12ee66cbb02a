use Rattle.std.proofs.Common.{refl, ap, subst, arith}
use Rattle.ac_outside.specs.Told.{GrewBy}
use Rattle.program_reading.specs.Writing.{TookFront}
use Rattle.ac_base.specs.declared.ends.Status.{Status}
use Rattle.merge_program.specs.Headline.{usage, merge}
use Rattle.merge_program.specs.Lines.{usage_line, merge_text}
use Rattle.merge_program.proofs.Called.{may_merge, one_or_eight}
use Rattle.merge_program.proofs.merge_main.Goals as goal

-- ---- no call

pub returns-in-None-clause-whole : goal.returns-in-None-clause-whole
returns-in-None-clause-whole g c = λ well _. let e = ap (λ (s : Status). s.number) (c.answer.ensures.status well) in
    record {
      text = usage_line;
      due = usage e refl (c.in-None.ensures.usage refl) c.new.ensures;
      taken = subst (GrewBy (g.K.Sink.told c.args.sink.now).held (g.K.Sink.told c.answer.new.sink).held) c.as_bytes.ensures.value (c.answer.ensures.whole well);
    }

pub returns-in-None-clause-part : goal.returns-in-None-clause-part
returns-in-None-clause-part g c = λ failed. record {
  status = 1;
  text = usage_line;
  due = usage refl refl (c.in-None.ensures.usage refl) c.new.ensures;
  taken = subst (TookFront (g.K.Sink.told c.args.sink.now).held (g.K.Sink.told c.answer.new.sink).held) c.as_bytes.ensures.value (c.answer.ensures.part failed);
}

pub returns-in-None-clause-memory : goal.returns-in-None-clause-memory
returns-in-None-clause-memory g c = λ is. absurd (let e = ap (λ (s : Status). s.number) (c.answer.ensures.status (λ f. omega (arith, is, f))) in omega (arith, is, e))

pub returns-in-None-clause-usage : goal.returns-in-None-clause-usage
returns-in-None-clause-usage g c =
    record { told = λ _. c.in-None.ensures.usage refl; only = λ _. one_or_eight c.answer.result.number (λ well. ap (λ (s : Status). s.number) (c.answer.ensures.status well)) }

-- ---- a call

pub answer_call-requires : goal.answer_call-requires
answer_call-requires g c = (c.type_bounds.sync-R, may_merge _ _ _ c.in-Some.ensures.call)

pub returns-in-Some-clause-whole : goal.returns-in-Some-clause-whole
returns-in-Some-clause-whole g c = λ well kept. let x = c.answer_call.ensures in record {
  text = merge_text c.in-Some.call.producers c.answer_call.result.received;
  due = merge c.in-Some.call.messages c.in-Some.call.producers c.in-Some.ensures.call (x.nought well kept) (x.merged kept) refl;
  taken = x.whole well kept;
}

pub returns-in-Some-clause-part : goal.returns-in-Some-clause-part
returns-in-Some-clause-part g c = λ failed. let x = c.answer_call.ensures in record {
  status = 0;
  text = merge_text c.in-Some.call.producers c.answer_call.result.received;
  due = merge c.in-Some.call.messages c.in-Some.call.producers c.in-Some.ensures.call refl (x.merged (λ e. omega (arith, failed, e))) refl;
  taken = x.part failed;
}

pub returns-in-Some-clause-memory : goal.returns-in-Some-clause-memory
returns-in-Some-clause-memory g c = λ refused. let x = c.answer_call.ensures in record {
  messages = c.in-Some.call.messages;
  producers = c.in-Some.call.producers;
  is_call = c.in-Some.ensures.call;
  none = x.none refused;
  nothing = x.nothing refused;
}

pub returns-in-Some-clause-usage : goal.returns-in-Some-clause-usage
returns-in-Some-clause-usage g c = let x = c.answer_call.ensures in
    record { told = λ e. absurd (x.usage e); only = λ none. absurd (none _ _ c.in-Some.ensures.call) }

pub returns-in-Some-clause-sink : goal.returns-in-Some-clause-sink
returns-in-Some-clause-sink g c = c.answer_call.ensures.tells
