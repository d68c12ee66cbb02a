use Rattle.std.proofs.Common.{◌≡◌, ◌++◌, drop, length}
use Rattle.ac_translation.specs.Translation.{functions_code, functions_from}
use Rattle.ac_compile.specs.inner.Emission.{with_code, HasRoom}
use Rattle.ac_compile.proofs.whole.emit_functions.Given as goal

abbrev pub invariant-loop-function : goal.invariant-loop-function
invariant-loop-function l = record {
  code : with_code (functions_code (drop l.function-index l.functions)) l.emitter ≡ with_code (functions_code l.functions) l.fn.emitter;
  room : HasRoom (functions_code (drop l.function-index l.functions)) l.emitter;
  list : l.list ++ functions_from (length l.emitter.instrs) (drop l.function-index l.functions) ≡ functions_from (length l.fn.emitter.instrs) l.functions;
}
