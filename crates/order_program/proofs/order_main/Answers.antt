use Rattle.std.proofs.Common.{refl, ap, subst, arith}
use Rattle.ac_outside.specs.Told.{GrewBy}
use Rattle.program_reading.specs.Writing.{TookFront}
use Rattle.ac_base.specs.declared.ends.Status.{Status}
use Rattle.order_program.specs.Headline.{usage, call}
use Rattle.order_program.specs.Lines.{usage_line}
use Rattle.order_program.proofs.AnsweredFiles.{one_or_eight}
use Rattle.order_program.proofs.order_main.Goals as goal

-- ---- no call

pub returns-in-None-clause-whole : goal.returns-in-None-clause-whole
returns-in-None-clause-whole g c = λ well _. let e = ap (λ (s : Status). s.number) (c.answer.ensures.status well) in
    record {
      text = usage_line;
      due = usage e refl (c.in-None.ensures.usage refl) refl;
      taken = subst (GrewBy (g.K.Sink.told c.args.sink.now).held
          (g.K.Sink.told c.answer.new.sink).held) c.as_bytes.ensures.value (c.answer.ensures.whole well);
    }

pub returns-in-None-clause-part : goal.returns-in-None-clause-part
returns-in-None-clause-part g c = λ failed. record {
  status = 1;
  text = usage_line;
  due = usage refl refl (c.in-None.ensures.usage refl) refl;
  taken = subst (TookFront
      (g.K.Sink.told c.args.sink.now).held (g.K.Sink.told c.answer.new.sink).held) c.as_bytes.ensures.value (c.answer.ensures.part failed);
}

pub returns-in-None-clause-memory : goal.returns-in-None-clause-memory
returns-in-None-clause-memory g c = λ is. absurd (let e = ap (λ (s : Status). s.number) (c.answer.ensures.status (λ f. omega (arith, is, f))) in omega (arith, is, e))

pub returns-in-None-clause-usage : goal.returns-in-None-clause-usage
returns-in-None-clause-usage g c =
    record { told = λ _. c.in-None.ensures.usage refl; only = λ _. one_or_eight c.answer.result.number (λ well. ap (λ (s : Status). s.number) (c.answer.ensures.status well)) }

pub returns-in-None-clause-library : goal.returns-in-None-clause-library
returns-in-None-clause-library g c = record {
  told = λ is. absurd (let e = ap (λ (s : Status). s.number) (c.answer.ensures.status (λ f. omega (arith, is, f))) in omega (arith, is, e));
  only = λ _ _. refl;
}

-- ---- a call

pub answer_files-requires : goal.answer_files-requires
answer_files-requires g c = c.in-Some.ensures.call.meant

pub returns-in-Some-clause-whole : goal.returns-in-Some-clause-whole
returns-in-Some-clause-whole g c = λ well kept. let x = c.answer_files.ensures.answered.whole well kept in let d = x.due in record {
  text = x.text;
  due = call (record { file = c.in-Some.call.file.now; trace = c.in-Some.call.trace.now; question = d.question }) (c.in-Some.ensures.call.asks d.question d.means) d.due;
  taken = x.taken;
}

pub returns-in-Some-clause-part : goal.returns-in-Some-clause-part
returns-in-Some-clause-part g c = λ failed. let x = c.answer_files.ensures.answered.part failed in let d = x.due in record {
  status = x.status;
  text = x.text;
  due = call (record { file = c.in-Some.call.file.now; trace = c.in-Some.call.trace.now; question = d.question }) (c.in-Some.ensures.call.asks d.question d.means) d.due;
  taken = x.taken;
}

pub returns-in-Some-clause-memory : goal.returns-in-Some-clause-memory
returns-in-Some-clause-memory g c = λ refused. let m = c.in-Some.ensures.call.meant in record {
  asked = record { file = c.in-Some.call.file.now; trace = c.in-Some.call.trace.now; question = m.question };
  is_call = c.in-Some.ensures.call.asks m.question m.means;
  are_read = c.answer_files.ensures.read refused;
  nothing = c.answer_files.ensures.answered.nothing refused;
}

pub returns-in-Some-clause-usage : goal.returns-in-Some-clause-usage
returns-in-Some-clause-usage g c = let m = c.in-Some.ensures.call.meant in record {
  told = λ e. absurd (c.answer_files.ensures.answered.usage e);
  only = λ none. absurd (none _ (c.in-Some.ensures.call.asks m.question m.means));
}
