use Rattle.file_ops.proofs.Counting.{counted_more}
use Rattle.file_ops.proofs.law.requests_are_counted.Goals as goal

pub returns : goal.returns
returns c = λ begun before after ds payload answer bound was asked. counted_more begun before after ds payload answer was bound asked
