use Rattle.std.proofs.Common.{Ok, sym, ap, ◌∙◌, subst}
use Rattle.std.proofs.lemmas.Result.{on_ok_weaker}
use Rattle.work_item.specs.Conditions.{HomeLives}
use Rattle.cancel_scope.specs.declared.operation.Asked.TheVariants as asked
use Rattle.core_state.specs.Requests.{bytes_at}
use Rattle.core_machine.proofs.Requested.{write_does, write_traps}
use Rattle.core_machine.proofs.running.Running.write.Goals as goal

pub bytes_at-requires : goal.bytes_at-requires
bytes_at-requires c = subst (λ home. HomeLives c.args.self.now.frames home) (sym c.in-Ok.ensures.home) c.requires.has.home

pub returns-in_ok-bytes-in-Ok-clause-ok : goal.returns-in_ok-bytes-in-Ok-clause-ok
returns-in_ok-bytes-in-Ok-clause-ok c =
    let m = c.args.self.now in
    let from = c.in-Ok.range.from in
    let is = c.in-Ok.ensures.ok (λ from elements. asked.Write c.args.file from (bytes_at m.frames elements))
    ∙ ap (λ bytes. Ok (asked.Write c.args.file from bytes)) (sym c.in_ok-bytes-in-Ok.ensures) in
    on_ok_weaker c.request.result (write_does m c.requires.has.three c.request.new.self c.args.file (asked.Write c.args.file from c.in_ok-bytes-in-Ok.bytes) is) c.request.ensures.ok

pub returns-in-Err-clause-ok : goal.returns-in-Err-clause-ok
returns-in-Err-clause-ok c =
    let m = c.args.self.now in
    write_traps m c.requires.has.three c.end.new.self c.args.file c.in-Err.trap (c.in-Err.ensures.err (λ from elements. asked.Write c.args.file from (bytes_at m.frames elements))) c.end.ensures
