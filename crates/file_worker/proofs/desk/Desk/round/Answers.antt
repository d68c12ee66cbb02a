-- Each core has had its turn.
use Rattle.std.proofs.Common.{◌≡◌, sym, subst, length, arith, ◌+◌}
use Rattle.file_worker.specs.declared.turns.Round.{Round}
use Rattle.file_worker.specs.Rounds.{LooksOnce}
use Rattle.file_worker.specs.inner.Rounds.{seen, HaveTurned}
use Rattle.file_worker.proofs.Rounding.{one_turn_more, at_each, says_all}
use Rattle.file_worker.proofs.desk.Desk.round.Goals as goal

pub loop-core-preserved : goal.loop-core-preserved
loop-core-preserved g c =
    let start = seen c.args.self.now (g.D.Disk.told c.args.disk.now) in
    let next = seen c.turn.new.self (g.D.Disk.told c.turn.new.disk) in
    subst (λ (r : Round). HaveTurned (c.loop-core.core + 1) start next r) (sym c.join-found.ensures)
    (one_turn_more c.loop-core.core start (seen c.loop-core.self (g.D.Disk.told c.loop-core.disk)) next c.loop-core.found c.in_ok-turn.field-0 c.loop-core.invariant c.in_ok-turn.ensures.turn)

pub returns-clause-looked : goal.returns-clause-looked
returns-clause-looked g c =
    let end : c.loop-core.core ≡ length c.args.self.now.ends = omega (arith, c.cores-core-end.ensures.count) in
    at_each c.loop-core.core (seen c.args.self.now (g.D.Disk.told c.args.disk.now)) (seen c.loop-core.self (g.D.Disk.told c.loop-core.disk)) end LooksOnce c.loop-core.invariant.looked

pub returns-clause-says : goal.returns-clause-says
returns-clause-says g c =
    let end : c.loop-core.core ≡ length c.args.self.now.ends = omega (arith, c.cores-core-end.ensures.count) in
    says_all c.loop-core.core (seen c.args.self.now (g.D.Disk.told c.args.disk.now)) (seen c.loop-core.self (g.D.Disk.told c.loop-core.disk)) end c.loop-core.found c.loop-core.invariant.says
