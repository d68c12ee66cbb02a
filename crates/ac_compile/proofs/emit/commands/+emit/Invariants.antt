use Rattle.std.proofs.Common.{◌≡◌, ◌+◌, ◌*◌, ◌≤◌, drop}
use Rattle.ac_translation.specs.Translation.{command_code, body_code}
use Rattle.ac_compile.specs.inner.Emission.{with_code, HasRoom}
use Rattle.ac_compile.proofs.CommandForms.{other_code}
use Rattle.ac_compile.proofs.emit.commands.+emit.Given as goal

abbrev pub decreases-emit_command : goal.decreases-emit_command
decreases-emit_command l = 2 * (command_code l.command.now).size

abbrev pub decreases-emit_body : goal.decreases-emit_body
decreases-emit_body l = 2 * (body_code l.body.now).size + 1

abbrev pub decreases-emit_inside : goal.decreases-emit_inside
decreases-emit_inside l = 2 * (body_code l.body.now).size + 2

abbrev pub decreases-emit_then : goal.decreases-emit_then
decreases-emit_then l = 2 * (body_code l.body.now).size + 2

abbrev pub decreases-emit_else : goal.decreases-emit_else
decreases-emit_else l = 2 * ((body_code l.body.now).size + (body_code l.other.now).size) + 2

abbrev pub decreases-emit_if : goal.decreases-emit_if
decreases-emit_if l = 2 * ((body_code l.body.now).size + (other_code l.other.now).size) + 3

abbrev pub decreases-emit_while : goal.decreases-emit_while
decreases-emit_while l = 2 * (body_code l.body.now).size + 3

abbrev pub decreases-emit_for : goal.decreases-emit_for
decreases-emit_for l = 2 * ((body_code l.next.now).size + (body_code l.body.now).size) + 3

abbrev pub decreases-emit_do : goal.decreases-emit_do
decreases-emit_do l = 2 * (body_code l.body.now).size + 2

abbrev pub decreases-emit_async : goal.decreases-emit_async
decreases-emit_async l = 2 * (body_code l.body.now).size + 2

abbrev pub invariant-emit_body-loop-command : goal.invariant-emit_body-loop-command
invariant-emit_body-loop-command l = record {
  code : with_code (body_code (drop l.command-index l.body)) l.emitter ≡ with_code (body_code l.body) l.fn.emitter;
  room : HasRoom (body_code (drop l.command-index l.body)) l.emitter;
  rest : (body_code (drop l.command-index l.body)).size ≤ (body_code l.body).size;
}
