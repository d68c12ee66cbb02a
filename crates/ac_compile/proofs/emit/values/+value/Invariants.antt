use Rattle.std.proofs.Common.{◌≡◌, drop, map}
use Rattle.ac_translation.specs.Translation.{chained_code, link_code, values_code}
use Rattle.ac_compile.specs.inner.Emission.{with_code, HasRoom}
use Rattle.ac_compile.proofs.emit.values.+value.Given as goal

abbrev pub invariant-emit_links-loop-link : goal.invariant-emit_links-loop-link
invariant-emit_links-loop-link l = record {
  code : with_code (chained_code (map link_code (drop l.link-index l.links))) l.emitter ≡ with_code (chained_code (map link_code l.links)) l.fn.emitter;
  room : HasRoom (chained_code (map link_code (drop l.link-index l.links))) l.emitter;
}

abbrev pub invariant-emit_values-loop-value : goal.invariant-emit_values-loop-value
invariant-emit_values-loop-value l = record {
  code : with_code (values_code (drop l.value-index l.values)) l.emitter ≡ with_code (values_code l.values) l.fn.emitter;
  room : HasRoom (values_code (drop l.value-index l.values)) l.emitter;
}
