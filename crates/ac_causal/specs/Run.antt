-- What contracts see of a run in its causal order, and of which traces there is one.
use Rattle.std.specs.Prelude.{◌≡◌, ℕ, List}
use Rattle.ac_base.specs.declared.entry.Stamped.{Stamped}
use Rattle.ac_commands.specs.declared.program.Resolved.{Resolved}
use Rattle.ac_translation.specs.Same.{IsSame}
use Rattle.ac_translation.specs.Translation.{code_of}
use Rattle.stack_code.specs.Parts.{Parts}
use Rattle.trace_audit.specs.RunTrace.{IsRunTrace}
use Rattle.trace_text.specs.declared.trace.Trace.{Trace}

pub record CausalRun : Type 0 where
  pub code : Parts
  -- the bound on each core's steps
  pub steps : ℕ
  pub entries : List Stamped
  -- how many: the cores and the worker
  pub parties : ℕ

-- an audit of the trace says yes, for a program that has this code and the same runs
pub record IsAudited (code : Parts) (t : Trace) : Type 0 where
  pub program : Resolved
  pub code_is : code ≡ code_of program
  pub same : IsSame code program
  pub run : IsRunTrace program t
