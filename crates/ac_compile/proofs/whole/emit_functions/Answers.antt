use Rattle.std.proofs.Common.{length, refl}
use Rattle.ac_translation.specs.Translation.{function_code, functions_code}
use Rattle.ac_translation.proofs.Sized.{function_sized}
use Rattle.ac_compile.proofs.Emissions.{done, turn, rest_room, grown_to}
use Rattle.ac_compile.proofs.Making.{one_more}
use Rattle.ac_compile.proofs.whole.emit_functions.Goals as goal

pub loop-function-preserved : goal.loop-function-preserved
loop-function-preserved c =
    let old = c.loop-function.emitter in
    let new = c.emit_function.new.emitter in
    let f = c.function-item.result in
    let fs = c.args.functions.now in
    let at = c.loop-function.function-index in
    record {
      code = turn functions_code function_code (λ x xs. refl) refl function_sized fs at f old c.loop-function-test.true c.function-item.is new _ c.in_ok-emit_function.ensures
          c.loop-function.invariant.code;
      room = rest_room functions_code function_code (λ x xs. refl) refl function_sized fs at f old c.loop-function-test.true c.function-item.is new c.in_ok-emit_function.ensures
          c.loop-function.invariant.room;
      list =
          one_more fs at f c.loop-function.list c.push.new.self c.in_ok-entered_at.field-0 c.len-at.result (length old.instrs)
          (length new.instrs) _ c.loop-function-test.true c.function-item.is c.in_ok-entered_at.ensures c.len-at.ensures
          c.in_ok-push.ensures.ok (grown_to (function_code f) old new (function_sized f) c.in_ok-emit_function.ensures) c.loop-function.invariant.list;
    }

pub returns-clause-code : goal.returns-clause-code
returns-clause-code c = done functions_code function_code (λ x xs. refl) refl function_sized c.args.functions.now c.loop-function.function-index c.loop-function.emitter _ c.loop-function-test.false
    c.loop-function.invariant.code
