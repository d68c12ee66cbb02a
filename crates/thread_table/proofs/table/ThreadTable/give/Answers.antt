use Rattle.std.proofs.Common.{ap, ◌∙◌}
use Rattle.thread_table.specs.Table.{Table}
use Rattle.thread_table.proofs.Handed.{threads_given, lives_given}
use Rattle.thread_table.proofs.table.ThreadTable.give.Goals as goal

pub returns-clause-threads : goal.returns-clause-threads
returns-clause-threads c = threads_given c.self.inside.parked.items c.self.inside.handed c.args.self.now.threads c.args.self.now.lives
    (ap (λ (t : Table). t.pending) c.self.view_is ∙ c.requires) (ap (λ (t : Table). t.threads) c.self.view_is) (ap (λ (t : Table). t.lives) c.self.view_is) c.args.item.number c.args.value

pub returns-clause-lives : goal.returns-clause-lives
returns-clause-lives c = lives_given c.self.inside.parked.items c.self.inside.handed c.args.self.now.threads c.args.self.now.lives
    (ap (λ (t : Table). t.pending) c.self.view_is ∙ c.requires) (ap (λ (t : Table). t.threads) c.self.view_is) (ap (λ (t : Table). t.lives) c.self.view_is) c.args.item.number c.args.value
