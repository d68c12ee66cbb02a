use Rattle.std.proofs.Common.{List, subst}
use Rattle.std.specs.Prelude.{IfOk}
use Rattle.ac_base.specs.declared.entry.Entry.{Entry}
use Rattle.ac_semantics.specs.Held.{Held}
use Rattle.ac_interpreter.specs.inner.Cores.{core_of}
use Rattle.ac_interpreter.specs.inner.Under.{IsMoved}
use Rattle.ac_interpreter.specs.inner.Cancels.{trying}
use Rattle.ac_interpreter.proofs.running.InterpretedCore.call_off.Goals as goal

pub returns-clause-state : goal.returns-clause-state
returns-clause-state c =
    let todo = c.args.todo.now in
    subst (λ (h : Held). IfOk c.try_oldest.result (λ now. (past : List Entry) → IsMoved now past todo
    (trying past todo c.args.block (record (core_of c.args.self.now) { held = h })) c.try_oldest.new.self)) c.mark.ensures c.try_oldest.ensures.state
