use Rattle.std.proofs.Common.{◌≡◌, ◌++◌, []}
use Rattle.std.specs.Prelude.{replicate}
use Rattle.ac_history.proofs.files.padded.Given as goal

abbrev pub invariant-loop-file : goal.invariant-loop-file
invariant-loop-file l = l.all.items ≡ l.initial.all.items ++ replicate l._file []
