use Rattle.ac_interpreter.specs.inner.Cores.{core_of}
use Rattle.ac_interpreter.proofs.Journals.{rests_under}
use Rattle.ac_interpreter.proofs.Turning.{moved_as, stays_under, if_ok}
use Rattle.ac_interpreter.proofs.running.InterpretedCore.turn.Goals as goal

pub go_on-requires-clause-meaning : goal.go_on-requires-clause-meaning
go_on-requires-clause-meaning c = λ stays.
    let s = c.args.self.now in
    c.requires.meaning (stays_under s.program.now s.bound c.args.past.now c.args.todo.now (core_of s) c.in-Some.item c.in-Some.is stays)

pub returns-in-None-clause-state : goal.returns-in-None-clause-state
returns-in-None-clause-state c =
    let s = c.args.self.now in
    moved_as _ _ c.args.past.now c.args.todo.now c.rest.new.self c.rest.result
    (rests_under s.program.now s.bound c.args.past.now c.args.todo.now (core_of s) c.in-None.is) c.rest.ensures.state

pub returns-in-Some-clause-state : goal.returns-in-Some-clause-state
returns-in-Some-clause-state c = if_ok c.go_on.result _ _ c.go_on.ensures.state (λ now moved. moved c.args.past.now)
