use Rattle.ac_words.specs.inner.Scanning.{texts_of}
use Rattle.ac_words.proofs.Scans.{end_of, one_at_end, few_texts}
use Rattle.ac_words.proofs.scan.finish.Goals as goal

pub returns-in_default : goal.returns-in_default
returns-in_default c = record {
  refused = λ e. absurd (cc (e));
  call = end_of c.args.scan.next c.args.scan.steps (texts_of c.args.scan.operands) (few_texts c.args.scan.operands) c.in_default.not-Value;
  only = one_at_end c.args.scan.next (texts_of c.args.scan.operands) c.args.scan.steps;
}
