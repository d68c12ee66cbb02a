use Rattle.file_ops.proofs.Filing.{same_files}
use Rattle.file_ops.proofs.law.files_are_done.Goals as goal

pub returns : goal.returns
returns c = same_files
