use Rattle.std.proofs.Common.{◌≡◌, ◌++◌, drop}
use Rattle.ac_names.specs.Items.{kinds_in}
use Rattle.ac_names.proofs.params.kinds_of.Given as goal

abbrev pub invariant-loop-param : goal.invariant-loop-param
invariant-loop-param l = l.kinds ++ kinds_in (drop l.param-index l.params) ≡ kinds_in l.params
