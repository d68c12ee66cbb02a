use Rattle.ac_file_server.proofs.Parts.{three_parts}
use Rattle.ac_file_server.proofs.text.add_server.Goals as goal

pub returns : goal.returns
returns c = three_parts _ _ _ _ _ _ _ c.in_ok-add.ensures c.in_ok-add-2.ensures c.in_ok-add-3.ensures
