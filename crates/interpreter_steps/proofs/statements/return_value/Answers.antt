use Rattle.work_item.specs.Store.{int_in}
use Rattle.ac_semantics.specs.Statements as s
use Rattle.interpreter_state.specs.State.{held_of}
use Rattle.interpreter_steps.proofs.Returning.{by_call, by_entry, by_none}
use Rattle.interpreter_steps.proofs.statements.return_value.Goals as goal

pub returns-in-Back : goal.returns-in-Back
returns-in-Back c =
    by_call c.args.value c.in-Some.top c.work.work c.pop.new.self c.args.work.now (held_of c.work.held) (s.returns (int_in c.args.value) c.args.work.now (held_of c.args.held.now)) c.in-Some.ensures
    c.work.invariant c.in-Back.own c.give_back.result (held_of c.give_back.new.held) c.give_back.new.work c.requires c.in-Back.is c.give_back.ensures

pub returns-in-Leave : goal.returns-in-Leave
returns-in-Leave c =
    by_entry c.args.value c.in-Some.top c.work.work c.pop.new.self c.args.work.now (held_of c.work.held) (s.returns (int_in c.args.value) c.args.work.now (held_of c.args.held.now)) c.in-Some.ensures
    c.work.invariant c.in-Leave.is

pub returns : goal.returns
returns c =
    by_none c.args.value c.work.work (held_of c.work.held) (s.returns (int_in c.args.value) c.args.work.now (held_of c.args.held.now)) c.in_default.ensures.0 c.work.invariant
