-- The number is that of the core's own end.
use Rattle.std.proofs.Common.{ap, ◌∙◌, length, arith}
use Rattle.std.specs.Prelude.{slice_get}
use Rattle.ac_base.specs.declared.entry.Payload.{Payload}
use Rattle.channel_ends.specs.Receiving.{Receiving}
use Rattle.file_worker.specs.Ends.{AtDesk}
use Rattle.file_worker.proofs.EndLists.{ends_ask}
use Rattle.file_worker.proofs.Turning.{has_core}
use Rattle.file_worker.proofs.desk.Desk.decided.Goals as goal

pub index-requires : goal.index-requires
index-requires c =
    let has = has_core c.self.inside c.args.self.now c.args.core c.self.view_is c.self.invariant c.requires in
    let len = c.self.inside.asks.ok in
    omega (arith, has.0, len)

pub returns : goal.returns
returns c = λ e at. c.decided.ensures ∙ ap (λ (v : Receiving Payload). length v.peer.decisions)
    (ends_ask c.self.inside.asks.items c.self.inside.replies.items c.args.core e c.index.result.now (ap (λ (v : AtDesk). slice_get v.ends c.args.core) c.self.view_is ∙ at) c.index.ensures)
