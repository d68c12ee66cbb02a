use Rattle.std.proofs.Common.{ap, ◌∙◌, None}
use Rattle.std.specs.Prelude.{is_some, map}
use Rattle.thread_table.specs.Table.{Table, or_nobody, with_given}
use Rattle.thread_table.proofs.Handed.{threads_set, lives_set}
use Rattle.thread_table.proofs.table.ThreadTable.end.Goals as goal

pub returns-clause-threads : goal.returns-clause-threads
returns-clause-threads c =
    ap (λ ks. map or_nobody (with_given ks c.self.inside.handed)) c.give_back.ensures.items
    ∙ threads_set c.self.inside.parked.items c.self.inside.handed c.args.self.now.threads c.args.self.now.lives
    (ap (λ (t : Table). t.pending) c.self.view_is ∙ c.requires.settled) (ap (λ (t : Table). t.threads) c.self.view_is) (ap (λ (t : Table). t.lives) c.self.view_is) c.args.item.number None

pub returns-clause-lives : goal.returns-clause-lives
returns-clause-lives c =
    ap (λ ks. map is_some (with_given ks c.self.inside.handed)) c.give_back.ensures.items
    ∙ lives_set c.self.inside.parked.items c.self.inside.handed c.args.self.now.threads c.args.self.now.lives
    (ap (λ (t : Table). t.pending) c.self.view_is ∙ c.requires.settled) (ap (λ (t : Table). t.threads) c.self.view_is) (ap (λ (t : Table). t.lives) c.self.view_is) c.args.item.number None
