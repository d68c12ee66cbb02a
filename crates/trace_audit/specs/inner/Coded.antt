-- When a trace is a run of a code: what is said of the source, where code and source have the same runs.
use Rattle.std.specs.Prelude.{◌≡◌, ℕ, suc, ◌<◌, ◌≤◌, List, [], ◌∷◌, ◌++◌, length, All, true, Some}
use Rattle.ac_base.specs.declared.entry.Stamped.{Stamped}
use Rattle.ac_base.specs.declared.ends.CoreEnd.{CoreEnd}
use Rattle.stack_code.specs.Parts.{Parts}
use Rattle.code_meaning.specs.Machine.{Runs}
use Rattle.ac_history.specs.Served.{HistoryState, begun, can_follow, after_all}
use Rattle.ac_history.specs.Quiet.{IsQuiet}
use Rattle.program_run.specs.Parties.{owner_of, peer_of}
use Rattle.replay_laws.specs.Given.{HasRun}
use Rattle.trace_text.specs.declared.trace.Trace.{Trace}
use Rattle.trace_text.specs.declared.trace.TraceEnd.{TraceEnd}
use Rattle.trace_audit.specs.declared.verdict.Verdict.{Verdict}
use Rattle.trace_audit.specs.declared.verdict.Verdict.TheVariants.{Yes, NoAt, NoAtEnd}
use Rattle.trace_audit.specs.RunTrace.{journal_of, file_limit}

-- the links, the stamps and the files before any entry
abbrev pub nothing_yet : Parts → Trace → HistoryState
nothing_yet code t = begun code.capacities code.widths (length code.entries) t.start

-- if the entry is a core's, the core has a run with it
abbrev pub RunsWith : Parts → ℕ → List Stamped → Stamped → Type 0
RunsWith code bound before s = s.party < length code.entries → HasRun code s.party bound (journal_of s.party (before ++ s ∷ []))

-- the entry may come after these
pub record Fits (code : Parts) (t : Trace) (before : List Stamped) (s : Stamped) : Type 0 where
  pub follows : can_follow (after_all (nothing_yet code t) before) s ≡ true
  pub run : RunsWith code t.steps before s

-- each entry may come after those before it
abbrev pub AllFit : Parts → Trace → List Stamped → List Stamped → Type 0
AllFit code t before [] = Unit {0}
AllFit code t before (s ∷ ss) = Fits code t before s × AllFit code t (before ++ s ∷ []) ss

-- the core has this end under its journal, and the trace tells its word, its steps and its output
pub record EndsAsTold (code : Parts) (t : Trace) (core : ℕ) (told : TraceEnd) (end : CoreEnd) : Type 0 where
  pub count : ℕ
  pub runs : Runs code core t.steps (journal_of core t.entries) (record { core = Some end; count = count })
  pub word : told.word ≡ end.word
  pub steps : told.steps ≡ end.steps
  pub output : told.output ≡ end.output

abbrev pub AllEndAsTold : Parts → Trace → ℕ → List TraceEnd → List CoreEnd → Type 0
AllEndAsTold code t core [] [] = Unit {0}
AllEndAsTold code t core [] (end ∷ ends) = ⊥
AllEndAsTold code t core (told ∷ others) [] = ⊥
AllEndAsTold code t core (told ∷ others) (end ∷ ends) = EndsAsTold code t core told end × AllEndAsTold code t (suc core) others ends

pub record EndsWell (code : Parts) (files : ℕ) (t : Trace) : Type 0 where
  pub as_many : length t.start ≡ files
  pub short : All (λ bytes. length bytes ≤ file_limit) t.start
  pub every_core : length t.ends ≡ length code.entries
  pub ends : List CoreEnd
  pub told : AllEndAsTold code t 0 t.ends ends
  pub quiet : IsQuiet (owner_of code.ends) (peer_of code.ends (length code.entries)) (after_all (nothing_yet code t) t.entries).past ends

-- the entry of that place is the first that may not come after those before it
pub record IsFirstMisfit (code : Parts) (t : Trace) (place : ℕ) : Type 0 where
  pub before : List Stamped
  pub misfit : Stamped
  pub others : List Stamped
  pub form : t.entries ≡ before ++ misfit ∷ others
  pub place_is : place ≡ length before
  pub fit : AllFit code t [] before
  pub fits_not : Fits code t before misfit → ⊥

-- what is said of a trace, of which the code names so many files
abbrev pub Judges : Parts → ℕ → Trace → Verdict → Type 0
Judges code files t Yes = AllFit code t [] t.entries × EndsWell code files t
Judges code files t (NoAt place) = IsFirstMisfit code t place
Judges code files t NoAtEnd = AllFit code t [] t.entries × (EndsWell code files t → ⊥)
