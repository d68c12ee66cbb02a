use Rattle.trace_text.proofs.Firsts.{text_stays, traces_stay, traces_only}
use Rattle.trace_text.proofs.law.the_first_version_stays.Goals as goal

pub returns-clause-text : goal.returns-clause-text
returns-clause-text c = text_stays

pub returns-clause-traces : goal.returns-clause-traces
returns-clause-traces c = traces_stay

pub returns-clause-only : goal.returns-clause-only
returns-clause-only c = traces_only
