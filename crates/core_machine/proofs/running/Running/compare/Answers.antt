use Rattle.std.proofs.Common.{rules}
use Rattle.core_machine.specs.inner.Changes.{Does, at_address}
use Rattle.core_machine.proofs.Pushed.{done_alone}
use Rattle.core_machine.proofs.running.Running.compare.Goals as goal

pub returns-in_default : goal.returns-in_default
returns-in_default g c =
    let m = at_address c.args.self.now c.args.address.now in
    let n = at_address c.pass.new.self c.pass.new.address in
    let done : Does m c.args._instr n = search rules in
    record {
      does = done_alone m n c.args._instr c.args.next.now c.in_default.not-Jz done;
      keeps = search rules;
      continues = search rules;
    }
