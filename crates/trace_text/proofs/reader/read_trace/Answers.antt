use Rattle.trace_text.proofs.Whole.{told_is_read}
use Rattle.trace_text.proofs.reader.read_trace.Goals as goal

pub returns : goal.returns
returns c = told_is_read c.args.text.now c.read.result c.read.ensures
