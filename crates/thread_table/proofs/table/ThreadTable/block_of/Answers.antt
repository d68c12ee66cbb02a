use Rattle.std.proofs.Common.{ap, ◌∙◌, sym}
use Rattle.std.specs.Prelude.{option_copied}
use Rattle.thread_table.specs.Table.{Table}
use Rattle.code_meaning.specs.Machine.{Thread}
use Rattle.thread_table.proofs.Handed.{block_seen}
use Rattle.thread_table.proofs.table.ThreadTable.block_of.Goals as goal

pub returns : goal.returns
returns c =
    ap (λ (h : Thread). h.block) c.branch.view_is
    ∙ block_seen c.self.inside.parked.items c.self.inside.handed c.args.self.now.threads c.args.item.number c.in_ok-get.field-0.now
    (ap (λ (t : Table). t.threads) c.self.view_is) (sym c.get.ensures ∙ ap option_copied c.in_ok-get.was)
