use Rattle.std.proofs.Common.{◌∙◌, subst}
use Rattle.file_worker.specs.Rounds.{Says}
use Rattle.file_worker.specs.Workers.{seen_of}
use Rattle.run_parties.proofs.Trying.{goes_on_so, looks_once_more, looks_anew, has_no_stamp}
use Rattle.run_parties.proofs.working.keep_on.Goals as goal

pub returns-in_err-round-clause-later : goal.returns-in_err-round-clause-later
returns-in_err-round-clause-later g c =
    let told = g.D.Disk.told in
    goes_on_so (seen_of told c.args.worker.now) (seen_of told c.loop-in_vain.worker) (seen_of told c.round.new.self) c.loop-in_vain.in_vain c.loop-in_vain.invariant.0 c.round.ensures.goes_on

pub loop-in_vain-preserved-in-Did : goal.loop-in_vain-preserved-in-Did
loop-in_vain-preserved-in-Did g c =
    let told = g.D.Disk.told in (
      looks_anew (seen_of told c.args.worker.now) (seen_of told c.loop-in_vain.worker) (seen_of told c.round.new.self) c.loop-in_vain.in_vain c.loop-in_vain.invariant.0
          c.round.ensures.goes_on c.in_ok-round.ensures.looked,
      c.round.ensures.loan ∙ c.loop-in_vain.invariant.1,
    )

pub loop-in_vain-preserved : goal.loop-in_vain-preserved
loop-in_vain-preserved g c =
    let told = g.D.Disk.told in (
      looks_once_more (seen_of told c.args.worker.now) (seen_of told c.loop-in_vain.worker) (seen_of told c.round.new.self) c.loop-in_vain.in_vain c.loop-in_vain.invariant.0
          c.round.ensures.goes_on c.in_ok-round.ensures.looked c.loop-in_vain-test.true,
      c.round.ensures.loan ∙ c.loop-in_vain.invariant.1,
    )

pub returns-in-ClockFull-clause-later : goal.returns-in-ClockFull-clause-later
returns-in-ClockFull-clause-later g c =
    let told = g.D.Disk.told in
    goes_on_so (seen_of told c.args.worker.now) (seen_of told c.loop-in_vain.worker) (seen_of told c.round.new.self) c.loop-in_vain.in_vain c.loop-in_vain.invariant.0 c.round.ensures.goes_on

pub returns-in-ClockFull-clause-worked : goal.returns-in-ClockFull-clause-worked
returns-in-ClockFull-clause-worked g c =
    let told = g.D.Disk.told in
    has_no_stamp (seen_of told c.args.worker.now) (seen_of told c.loop-in_vain.worker) (seen_of told c.round.new.self) c.loop-in_vain.in_vain c.loop-in_vain.invariant.0 c.round.ensures.goes_on
    (subst (λ r. Says r (seen_of told c.loop-in_vain.worker) (seen_of told c.round.new.self)) c.in-ClockFull.is c.in_ok-round.ensures.says)
