use Rattle.std.proofs.Common.{refl, sym, ap, ◌∙◌}
use Rattle.std.specs.List.{list_any}
use Rattle.cancel_scope.specs.Outstanding.{waits_on}
use Rattle.core_machine.specs.Machine.{Machine, waits}
use Rattle.core_machine.proofs.Pausing.{waiting_is}
use Rattle.core_machine.proofs.machine.CoreMachine.waits.Goals as goal

pub returns : goal.returns
returns c =
    let m = c.self.inside.running in
    c.waits.ensures ∙ sym (ap (list_any (waits_on c.args.link)) (waiting_is m m.ended refl)) ∙ ap (λ (n : Machine). waits n.state c.args.link) c.self.view_is
