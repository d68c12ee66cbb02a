use Rattle.std.proofs.Common.{sym, subst}
use Rattle.cancel_scope.specs.Outstanding.{is_to_receive}
use Rattle.thread_table.specs.Table.{HasPlace}
use Rattle.core_machine.specs.declared.running.Running.{Running}
use Rattle.core_machine.proofs.Entered.{got_enters}
use Rattle.core_machine.proofs.Places.{place_found}
use Rattle.core_machine.proofs.Received.{home_there, no_other}
use Rattle.core_machine.proofs.running.Running.got.Goals as goal

pub unreachable-requires-in_default-asked : goal.unreachable-requires-in_default-asked
unreachable-requires-in_default-asked c =
    no_other c.args.self.now c.requires.sound c.requires.running c.args.link c.in-Some.operation (sym c.in-Some.ensures.result) c.in_default-asked.not-Recv

pub put_message-requires : goal.put_message-requires
put_message-requires c = home_there c.args.self.now c.requires.sound c.requires.running c.args.link c.in-Some.operation (sym c.in-Some.ensures.result) c.in-Recv.place c.in-Recv.is

pub resume-requires-clause-place : goal.resume-requires-clause-place
resume-requires-clause-place c = subst (λ (y : Running). HasPlace y.threads c.in-Some.operation.item) (sym c.note.ensures.same)
    (place_found c.args.self.now (c.requires.sound.places c.requires.running) (is_to_receive c.args.link) c.in-Some.operation (sym c.in-Some.ensures.result))

pub returns : goal.returns
returns c =
    let m = c.args.self.now in
    record {
      enters = got_enters m c.note.new.self c.resume.new.self c.end_receiving.new.self c.put_message.new.frames c.note.new.self.journal c.args.link c.args.number c.args.stamp c.args.value
          c.in-Some.operation c.in-Recv.place (sym c.in-Some.ensures.result) c.in-Recv.is c.note.ensures.same c.in-Some.ensures.operations c.put_message.ensures c.note.ensures.entries
          c.resume.ensures.flat c.resume.ensures.ended c.resume.ensures.keeps;
    }
