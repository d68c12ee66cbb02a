use Rattle.std.proofs.lemmas.Result.{on_ok_weaker}
use Rattle.cancel_scope.specs.declared.operation.Asked.TheVariants as asked
use Rattle.core_machine.proofs.Requested.{read_does, read_traps}
use Rattle.core_machine.proofs.running.Running.read.Goals as goal

pub returns-in-Ok-clause-ok : goal.returns-in-Ok-clause-ok
returns-in-Ok-clause-ok c =
    let is = c.in-Ok.ensures.ok (λ from elements. asked.Read c.args.file from elements) in
    on_ok_weaker c.request.result
    (read_does c.args.self.now c.requires.has.three c.request.new.self c.args.file (asked.Read c.args.file c.in-Ok.range.from c.in-Ok.range.elements) is) c.request.ensures.ok

pub returns-in-Err-clause-ok : goal.returns-in-Err-clause-ok
returns-in-Err-clause-ok c =
    read_traps c.args.self.now c.requires.has.three c.end.new.self c.args.file c.in-Err.trap (c.in-Err.ensures.err (λ from elements. asked.Read c.args.file from elements)) c.end.ensures
