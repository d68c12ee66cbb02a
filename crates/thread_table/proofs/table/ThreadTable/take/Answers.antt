use Rattle.std.proofs.Common.{ap, ◌∙◌, Some}
use Rattle.std.specs.Prelude.{slice_set}
use Rattle.thread_table.specs.Table.{Table}
use Rattle.thread_table.proofs.Handed.{threads_set, lives_set, lives_same}
use Rattle.thread_table.proofs.table.ThreadTable.take.Goals as goal

pub returns-clause-threads : goal.returns-clause-threads
returns-clause-threads c =
    threads_set c.self.inside.parked.items c.self.inside.handed c.args.self.now.threads c.args.self.now.lives
    (ap (λ (t : Table). t.pending) c.self.view_is ∙ c.requires.settled) (ap (λ (t : Table). t.threads) c.self.view_is) (ap (λ (t : Table). t.lives) c.self.view_is) c.args.item.number
    (Some c.replace.new.dest)
    ∙ ap (slice_set c.args.self.now.threads c.args.item.number) (c.replace.ensures.after ∙ c.nobody.ensures)

pub returns-clause-lives : goal.returns-clause-lives
returns-clause-lives c =
    lives_set c.self.inside.parked.items c.self.inside.handed c.args.self.now.threads c.args.self.now.lives
    (ap (λ (t : Table). t.pending) c.self.view_is ∙ c.requires.settled) (ap (λ (t : Table). t.threads) c.self.view_is) (ap (λ (t : Table). t.lives) c.self.view_is) c.args.item.number
    (Some c.replace.new.dest)
    ∙ lives_same c.args.self.now.lives c.args.item.number c.requires.place
