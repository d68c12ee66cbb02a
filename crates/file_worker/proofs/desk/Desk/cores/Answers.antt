-- There are as many cores as ends by which their requests are taken.
use Rattle.std.proofs.Common.{rules, ◌≡◌, ◌+◌, ◌<◌, sym, ap, ◌∙◌, subst, length, arith}
use Rattle.file_worker.specs.Ends.{AtDesk}
use Rattle.file_worker.proofs.EndLists.{ends_long}
use Rattle.file_worker.proofs.desk.Desk.cores.Goals as goal

pub returns-clause-count : goal.returns-clause-count
returns-clause-count c =
    let seen : c.len.result ≡ length c.self.inside.asks.items = search rules in
    seen ∙ sym (ends_long c.self.inside.asks.items c.self.inside.replies.items c.self.invariant.both) ∙ ap (λ (v : AtDesk). length v.ends) c.self.view_is

pub returns-clause-links : goal.returns-clause-links
returns-clause-links c =
    let long = ends_long c.self.inside.asks.items c.self.inside.replies.items c.self.invariant.both in
    subst (λ (v : AtDesk). v.first + length v.ends < 4294967296) c.self.view_is (omega (arith, long, c.self.invariant.links))
