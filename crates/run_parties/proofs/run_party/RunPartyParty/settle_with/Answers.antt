use Rattle.run_parties.proofs.Meeting.{cores_have_met, requests_have_met}
use Rattle.run_parties.proofs.run_party.RunPartyParty.settle_with.Goals as goal
use Rattle.run_parties.proofs.run_party.RunPartyParty.settle_with.Goals.{in-Core-Core, in-Core-Disk}

pub returns-clause-owner : goal.returns-clause-owner
returns-clause-owner g c = elim c.match-other.branch [
  | in-Core-Core w ↦ (cores_have_met g.D.Disk.told c.args.link c.args.self.now c.args.other.now c.match-other.self c.match-other.other c.match-other.result c.t8-1.given.0.0 w.t9-1.given.0.0
      w.settle_with.new.self w.settle_with.new.other c.t8-1.given.1 w.t9-1.given.1 w.self-is w.other-is w.result-is c.requires w.settle_with.ensures.cores.0 w.settle_with.ensures.cores.1
      w.settle_with.ensures.mine w.settle_with.ensures.its w.settle_with.ensures.link).owner
  | in-Core-Disk w ↦ (requests_have_met g.D.Disk.told c.args.link c.args.self.now c.args.other.now c.match-other.self c.match-other.other c.match-other.result _ c.t8-1.given.0.0
      w.settle_requests.new.self w.t9-in-Disk-1.given.0.0 w.settle_requests.new.worker c.t8-1.given.1 w.t9-in-Disk-1.given.1 w.self-is w.other-is w.result-is c.requires w.settle_requests.ensures.core
      w.settle_requests.ensures.ports w.settle_requests.ensures.worker w.settle_requests.ensures.settled
      w.settle_requests.ensures.taken w.settle_requests.ensures.told w.settle_requests.ensures.loan w.settle_requests.ensures.rests).owner
]

pub returns-clause-peer : goal.returns-clause-peer
returns-clause-peer g c = elim c.match-other.branch [
  | in-Core-Core w ↦ (cores_have_met g.D.Disk.told c.args.link c.args.self.now c.args.other.now c.match-other.self c.match-other.other c.match-other.result c.t8-1.given.0.0 w.t9-1.given.0.0
      w.settle_with.new.self w.settle_with.new.other c.t8-1.given.1 w.t9-1.given.1 w.self-is w.other-is w.result-is c.requires w.settle_with.ensures.cores.0 w.settle_with.ensures.cores.1
      w.settle_with.ensures.mine w.settle_with.ensures.its w.settle_with.ensures.link).peer
  | in-Core-Disk w ↦ (requests_have_met g.D.Disk.told c.args.link c.args.self.now c.args.other.now c.match-other.self c.match-other.other c.match-other.result _ c.t8-1.given.0.0
      w.settle_requests.new.self w.t9-in-Disk-1.given.0.0 w.settle_requests.new.worker c.t8-1.given.1 w.t9-in-Disk-1.given.1 w.self-is w.other-is w.result-is c.requires w.settle_requests.ensures.core
      w.settle_requests.ensures.ports w.settle_requests.ensures.worker w.settle_requests.ensures.settled
      w.settle_requests.ensures.taken w.settle_requests.ensures.told w.settle_requests.ensures.loan w.settle_requests.ensures.rests).peer
]

pub returns-clause-settled : goal.returns-clause-settled
returns-clause-settled g c = elim c.match-other.branch [
  | in-Core-Core w ↦ (cores_have_met g.D.Disk.told c.args.link c.args.self.now c.args.other.now c.match-other.self c.match-other.other c.match-other.result c.t8-1.given.0.0 w.t9-1.given.0.0
      w.settle_with.new.self w.settle_with.new.other c.t8-1.given.1 w.t9-1.given.1 w.self-is w.other-is w.result-is c.requires w.settle_with.ensures.cores.0 w.settle_with.ensures.cores.1
      w.settle_with.ensures.mine w.settle_with.ensures.its w.settle_with.ensures.link).settled
  | in-Core-Disk w ↦ (requests_have_met g.D.Disk.told c.args.link c.args.self.now c.args.other.now c.match-other.self c.match-other.other c.match-other.result _ c.t8-1.given.0.0
      w.settle_requests.new.self w.t9-in-Disk-1.given.0.0 w.settle_requests.new.worker c.t8-1.given.1 w.t9-in-Disk-1.given.1 w.self-is w.other-is w.result-is c.requires w.settle_requests.ensures.core
      w.settle_requests.ensures.ports w.settle_requests.ensures.worker w.settle_requests.ensures.settled
      w.settle_requests.ensures.taken w.settle_requests.ensures.told w.settle_requests.ensures.loan w.settle_requests.ensures.rests).settled
]

pub returns-clause-again : goal.returns-clause-again
returns-clause-again g c = elim c.match-other.branch [
  | in-Core-Core w ↦ (cores_have_met g.D.Disk.told c.args.link c.args.self.now c.args.other.now c.match-other.self c.match-other.other c.match-other.result c.t8-1.given.0.0 w.t9-1.given.0.0
      w.settle_with.new.self w.settle_with.new.other c.t8-1.given.1 w.t9-1.given.1 w.self-is w.other-is w.result-is c.requires w.settle_with.ensures.cores.0 w.settle_with.ensures.cores.1
      w.settle_with.ensures.mine w.settle_with.ensures.its w.settle_with.ensures.link).again
  | in-Core-Disk w ↦ (requests_have_met g.D.Disk.told c.args.link c.args.self.now c.args.other.now c.match-other.self c.match-other.other c.match-other.result _ c.t8-1.given.0.0
      w.settle_requests.new.self w.t9-in-Disk-1.given.0.0 w.settle_requests.new.worker c.t8-1.given.1 w.t9-in-Disk-1.given.1 w.self-is w.other-is w.result-is c.requires w.settle_requests.ensures.core
      w.settle_requests.ensures.ports w.settle_requests.ensures.worker w.settle_requests.ensures.settled
      w.settle_requests.ensures.taken w.settle_requests.ensures.told w.settle_requests.ensures.loan w.settle_requests.ensures.rests).again
]
