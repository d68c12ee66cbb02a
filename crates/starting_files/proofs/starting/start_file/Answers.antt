use Rattle.std.proofs.Common.{ℕ, List, subst}
use Rattle.std.specs.Prelude.{IfSome}
use Rattle.starting_files.specs.Starting.{StartsFile}
use Rattle.starting_files.proofs.Started.{file_read, named, none_numbered}
use Rattle.starting_files.proofs.starting.start_file.Goals as goal

pub returns-in-Ok-2-clause-is_number : goal.returns-in-Ok-2-clause-is_number
returns-in-Ok-2-clause-is_number g c = none_numbered _ c.read_whole.result c.read_whole.ensures.below

pub returns-in-Ok-2-clause-told : goal.returns-in-Ok-2-clause-told
returns-in-Ok-2-clause-told g c =
    let first = (g.D.Disk.told c.args.disk.now).held in
    let last = (g.D.Disk.told c.read_whole.new.disk).held in
    subst (λ (p : List ℕ). IfSome first (λ held. StartsFile held last c.args.number p c.read_whole.result)) c.in-Ok.ensures.cases.0
    (file_read first (g.D.Disk.told c.bind.new.self).held last c.args.number c.in-Ok-bind.len c.in-Ok.text.now c.read_whole.result c.in-Ok-bind.ensures.leaves c.read_whole.ensures.told
    c.read_whole.ensures.below c.if-len-gt-FILE_BYTES.false (named first c.args.number _ c.requires.next (g.met.D.Disk.tells_bound c.args.disk.now)))
