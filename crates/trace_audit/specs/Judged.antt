-- What an audit says of a trace.
use Rattle.std.specs.Prelude.{◌≡◌, ℕ, List, [], ◌∷◌, ◌++◌, length}
use Rattle.ac_base.specs.declared.entry.Stamped.{Stamped}
use Rattle.ac_commands.specs.declared.program.Resolved.{Resolved}
use Rattle.trace_text.specs.declared.trace.Trace.{Trace}
use Rattle.trace_audit.specs.declared.verdict.Verdict.{Verdict}
use Rattle.trace_audit.specs.declared.verdict.Verdict.TheVariants.{Yes, NoAt, NoAtEnd}
use Rattle.trace_audit.specs.RunTrace.{Fits, AllFit, EndsWell, IsRunTrace}

-- the entry of that place, counted from 0, is the first that may not come after those before it
pub record IsFirstMisfit (program : Resolved) (t : Trace) (place : ℕ) : Type 0 where
  pub before : List Stamped
  pub misfit : Stamped
  pub others : List Stamped
  pub form : t.entries ≡ before ++ misfit ∷ others
  pub place_is : place ≡ length before
  pub fit : AllFit program t [] before
  pub fits_not : Fits program t before misfit → ⊥

-- yes to a run; else the first entry that does not fit; and where all fit, no at the end
abbrev pub Judges : Resolved → Trace → Verdict → Type 0
Judges program t Yes = IsRunTrace program t
Judges program t (NoAt place) = IsFirstMisfit program t place
Judges program t NoAtEnd = AllFit program t [] t.entries × (EndsWell program t → ⊥)
