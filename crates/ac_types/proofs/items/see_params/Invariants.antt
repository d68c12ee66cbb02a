use Rattle.std.proofs.Common.{◌≡◌, ◌+◌, ◌<◌, length, drop}
use Rattle.ac_types.specs.inner.Items.{after_params}
use Rattle.ac_types.proofs.items.see_params.Given as goal

abbrev pub invariant-loop-param : goal.invariant-loop-param
invariant-loop-param l = (after_params (drop l.param-index l.params) l.walk ≡ after_params l.params l.fn.walk) × (l.walk.names.slot + length (drop l.param-index l.params) < 4294967296)
