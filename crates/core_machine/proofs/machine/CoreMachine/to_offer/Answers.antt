use Rattle.std.proofs.Common.{sym}
use Rattle.core_machine.proofs.Points.{goes_out}
use Rattle.core_machine.proofs.machine.CoreMachine.to_offer.Goals as goal

pub payload_of-requires : goal.payload_of-requires
payload_of-requires c = goes_out c.self.inside.running.outstanding.operations c.args.link c.in-Some.operation.now (sym c.in-Some.ensures)
