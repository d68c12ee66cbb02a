use Rattle.std.proofs.Common.{append_assoc}
use Rattle.ac_file_server.proofs.text.add_first.Goals as goal

pub returns : goal.returns
returns c = rw append_assoc c.in_ok-add_around.ensures
