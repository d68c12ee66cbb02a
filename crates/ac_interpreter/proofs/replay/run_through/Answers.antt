use Rattle.std.proofs.Common.{◌∙◌, arith}
use Rattle.ac_interpreter.specs.declared.turns.Came.TheVariants as came
use Rattle.ac_interpreter.specs.inner.Cores.{core_of, state_of}
use Rattle.ac_interpreter.proofs.Moving.{going, some_of, some_is, begins, is_over, is_stopped, moved_here, has_meaning}
use Rattle.ac_interpreter.proofs.Moving.{turned, turned_less, unfit_here, none_here, come, come_less, one_was_left}
use Rattle.ac_interpreter.proofs.replay.run_through.Goals as goal

pub turns-init : goal.turns-init
turns-init c =
    let e = c.args.ending.now in
    record {
      goes = begins e.program.now e.bound e.count.0 e.core e.function.now e.journal.now (state_of c.args.core.now) c.requires.first e.count.1.0;
      within = omega arith;
      program = c.requires.program;
      bound = c.requires.bound;
    }

pub turn-requires-clause-meaning : goal.turn-requires-clause-meaning
turn-requires-clause-meaning c =
    let e = c.args.ending.now in
    let here = going (core_of c.turns.core) c.turns.core.ended c.is_none.result c.is_none.ensures c.turns-test.true in
    has_meaning e.program.now e.bound e.count.0 e.core e.function.now e.journal.now c.turns.taken (state_of c.turns.core) (core_of c.turns.core) here c.turns.invariant.goes
    c.turns.core.program.now c.turns.core.bound c.before-in-turns.result.now c.after.result.now c.turns.invariant.program c.turns.invariant.bound c.before-in-turns.ensures c.after.ensures

pub turns-preserved-in-Nothing : goal.turns-preserved-in-Nothing
turns-preserved-in-Nothing c =
    let e = c.args.ending.now in
    let k = c.turns.taken in
    let m = state_of c.turns.core in
    let s = core_of c.turns.core in
    let goes = c.turns.invariant.goes in
    let here = going s c.turns.core.ended c.is_none.result c.is_none.ensures c.turns-test.true in
    let moved = moved_here e.program.now e.bound e.count.0 e.core e.function.now e.journal.now k m s here goes c.turns.core.program.now c.turns.core.bound c.before-in-turns.result.now
    c.after.result.now
    c.in_ok-turn.field-0 came.Nothing c.turn.new.self c.turns.invariant.program c.turns.invariant.bound c.before-in-turns.ensures c.after.ensures c.in-Nothing.is c.in_ok-turn.ensures.state in
    record {
      goes = turned e.program.now e.bound e.count.0 e.core e.function.now e.journal.now k m s here goes (state_of c.turn.new.self) moved;
      within = c.turns.invariant.within;
      program = c.turn.ensures.same.program ∙ c.turns.invariant.program;
      bound = c.turn.ensures.same.bound ∙ c.turns.invariant.bound;
    }

pub turns-smaller-in-Nothing : goal.turns-smaller-in-Nothing
turns-smaller-in-Nothing c =
    let e = c.args.ending.now in
    let k = c.turns.taken in
    let m = state_of c.turns.core in
    let s = core_of c.turns.core in
    let goes = c.turns.invariant.goes in
    let here = going s c.turns.core.ended c.is_none.result c.is_none.ensures c.turns-test.true in
    let moved = moved_here e.program.now e.bound e.count.0 e.core e.function.now e.journal.now k m s here goes c.turns.core.program.now c.turns.core.bound c.before-in-turns.result.now
    c.after.result.now
    c.in_ok-turn.field-0 came.Nothing c.turn.new.self c.turns.invariant.program c.turns.invariant.bound c.before-in-turns.ensures c.after.ensures c.in-Nothing.is c.in_ok-turn.ensures.state in
    turned_less e.program.now e.bound e.count.0 e.core e.function.now e.journal.now k m s here goes (state_of c.turn.new.self) moved

pub turns-preserved : goal.turns-preserved
turns-preserved c =
    let e = c.args.ending.now in
    let k = c.turns.taken in
    let m = state_of c.turns.core in
    let s = core_of c.turns.core in
    let goes = c.turns.invariant.goes in
    let here = going s c.turns.core.ended c.is_none.result c.is_none.ensures c.turns-test.true in
    let took = moved_here e.program.now e.bound e.count.0 e.core e.function.now e.journal.now k m s here goes c.turns.core.program.now c.turns.core.bound c.before-in-turns.result.now
    c.after.result.now
    c.in_ok-turn.field-0 came.Entry c.turn.new.self c.turns.invariant.program c.turns.invariant.bound c.before-in-turns.ensures c.after.ensures c.in-Entry.is c.in_ok-turn.ensures.state in
    record {
      goes = come e.program.now e.bound e.count.0 e.core e.function.now e.journal.now k m s here goes c.turn.new.self took;
      within = let less = one_was_left e.program.now e.bound e.count.0 e.core e.function.now e.journal.now k m s here goes c.turn.new.self took in omega (arith, less);
      program = c.turn.ensures.same.program ∙ c.turns.invariant.program;
      bound = c.turn.ensures.same.bound ∙ c.turns.invariant.bound;
    }

pub turns-smaller : goal.turns-smaller
turns-smaller c =
    let e = c.args.ending.now in
    let k = c.turns.taken in
    let m = state_of c.turns.core in
    let s = core_of c.turns.core in
    let goes = c.turns.invariant.goes in
    let here = going s c.turns.core.ended c.is_none.result c.is_none.ensures c.turns-test.true in
    let took = moved_here e.program.now e.bound e.count.0 e.core e.function.now e.journal.now k m s here goes c.turns.core.program.now c.turns.core.bound c.before-in-turns.result.now
    c.after.result.now
    c.in_ok-turn.field-0 came.Entry c.turn.new.self c.turns.invariant.program c.turns.invariant.bound c.before-in-turns.ensures c.after.ensures c.in-Entry.is c.in_ok-turn.ensures.state in
    come_less e.program.now e.bound e.count.0 e.core e.function.now e.journal.now k m s here goes c.turn.new.self took

pub returns-in-Misfit-clause-stopped : goal.returns-in-Misfit-clause-stopped
returns-in-Misfit-clause-stopped c = λ less.
    let e = c.args.ending.now in
    let k = c.turns.taken in
    let m = state_of c.turns.core in
    let s = core_of c.turns.core in
    let goes = c.turns.invariant.goes in
    let here = going s c.turns.core.ended c.is_none.result c.is_none.ensures c.turns-test.true in
    let over = moved_here e.program.now e.bound e.count.0 e.core e.function.now e.journal.now k m s here goes c.turns.core.program.now c.turns.core.bound c.before-in-turns.result.now
    c.after.result.now
    c.in_ok-turn.field-0 came.Misfit c.turn.new.self c.turns.invariant.program c.turns.invariant.bound c.before-in-turns.ensures c.after.ensures c.in-Misfit.is c.in_ok-turn.ensures.state in
    record {
      unfit = unfit_here e.program.now e.bound e.count.0 e.core e.function.now e.journal.now k m s here goes over;
      none = none_here e.program.now e.bound e.count.0 e.core e.function.now e.journal.now k m s here goes over;
    }

pub returns-clause-over : goal.returns-clause-over
returns-clause-over c = λ all.
    let e = c.args.ending.now in
    let some = some_of c.turns.core.ended c.is_none.result c.is_none.ensures c.turns-test.false in
    record {
      ended = some_is c.turns.core.ended some;
      comes = is_over e.program.now e.bound e.count.0 e.core e.function.now e.journal.now c.turns.taken (core_of c.turns.core) c.turns.core.ended some c.turns.invariant.goes all;
    }

pub returns-clause-stopped : goal.returns-clause-stopped
returns-clause-stopped c = λ less.
    let e = c.args.ending.now in
    let some = some_of c.turns.core.ended c.is_none.result c.is_none.ensures c.turns-test.false in
    let both = is_stopped e.program.now e.bound e.count.0 e.core e.function.now e.journal.now c.turns.taken (core_of c.turns.core) c.turns.core.ended some c.turns.invariant.goes less in
    record { unfit = both.0; none = both.1 }

pub returns-in-Misfit-clause-over : goal.returns-in-Misfit-clause-over
returns-in-Misfit-clause-over c = λ all.
    let e = c.args.ending.now in
    let k = c.turns.taken in
    let m = state_of c.turns.core in
    let s = core_of c.turns.core in
    let goes = c.turns.invariant.goes in
    let here = going s c.turns.core.ended c.is_none.result c.is_none.ensures c.turns-test.true in
    let over = moved_here e.program.now e.bound e.count.0 e.core e.function.now e.journal.now k m s here goes c.turns.core.program.now c.turns.core.bound c.before-in-turns.result.now
    c.after.result.now
    c.in_ok-turn.field-0 came.Misfit c.turn.new.self c.turns.invariant.program c.turns.invariant.bound c.before-in-turns.ensures c.after.ensures c.in-Misfit.is c.in_ok-turn.ensures.state in
    let inside = (unfit_here e.program.now e.bound e.count.0 e.core e.function.now e.journal.now k m s here goes over).inside in
    absurd (omega (arith, inside, all))
