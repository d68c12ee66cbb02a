-- The links, the stamps and the files of a trace, and all cores of a code, each under the entries of its own.
use Rattle.std.specs.Prelude.{◌≡◌, ℕ, List, ◌∷◌, [], ◌++◌, length, slice_get, Some, Bool, true, false}
use Rattle.ac_base.specs.declared.entry.Stamped.{Stamped}
use Rattle.ac_base.specs.declared.ends.CoreEnd.{CoreEnd}
use Rattle.stack_code.specs.Parts.{Parts}
use Rattle.code_meaning.specs.Machine.{Runs}
use Rattle.ac_history.specs.Served.{HistoryState, after_all}
use Rattle.core_replay.specs.Replayed.{Replayed}
use Rattle.trace_text.specs.declared.trace.Trace.{Trace}
use Rattle.trace_audit.specs.RunTrace.{journal_of}
use Rattle.trace_audit.specs.inner.Coded.{nothing_yet, RunsWith, Fits}

-- the core of this number, under its entries among these
pub record IsReplay (code : Parts) (bound core : ℕ) (entries : List Stamped) (r : Replayed) : Type 0 where
  pub code_is : r.code ≡ code
  pub core_is : r.core ≡ core
  pub bound_is : r.bound ≡ bound
  pub journal_is : r.journal ≡ journal_of core entries

-- each core of the code in its order
pub record AreReplays (code : Parts) (bound : ℕ) (entries : List Stamped) (rs : List Replayed) : Type 0 where
  pub count : length rs ≡ length code.entries
  pub each : (k : ℕ) (r : Replayed) → slice_get rs k ≡ Some r → IsReplay code bound k entries r

-- each core took each entry that it was given
abbrev pub TookAll : List Replayed → Type 0
TookAll rs = (k : ℕ) (r : Replayed) → slice_get rs k ≡ Some r → r.took_all ≡ true

-- the entry was taken, and then the cores are those under one entry more, or its core has no run with it
pub record TakesEntry (before : List Replayed) (s : Stamped) (taken : Bool) (after : List Replayed) : Type 0 where
  pub took : taken ≡ true → (code : Parts) (bound : ℕ) (entries : List Stamped) → AreReplays code bound entries before
      → AreReplays code bound (entries ++ s ∷ []) after × RunsWith code bound entries s
  pub refused : taken ≡ false → (code : Parts) (bound : ℕ) (entries : List Stamped) → AreReplays code bound entries before
      → RunsWith code bound entries s → ⊥

-- the ends to which the cores come under what they have taken
pub record AreEnds (rs : List Replayed) (ends : List CoreEnd) : Type 0 where
  pub count : length ends ≡ length rs
  pub each : (k : ℕ) (r : Replayed) (end : CoreEnd) → slice_get rs k ≡ Some r → slice_get ends k ≡ Some end
      → (count : ℕ) × Runs r.code r.core r.bound r.journal (record { core = Some end; count = count })

-- ---- all parties

-- after these entries of the trace
pub record HasTaken (code : Parts) (t : Trace) (entries : List Stamped) (legal : HistoryState) (rs : List Replayed) : Type 0 where
  pub legal_is : legal ≡ after_all (nothing_yet code t) entries
  pub replays : AreReplays code t.steps entries rs

-- the entry was taken, or it does not fit
pub record StepsOn (was : HistoryState) (before : List Replayed) (s : Stamped) (taken : Bool) (now : HistoryState) (after : List Replayed)
    : Type 0 where
  pub took : taken ≡ true → (code : Parts) (t : Trace) (entries : List Stamped) → HasTaken code t entries was before
      → HasTaken code t (entries ++ s ∷ []) now after × Fits code t entries s
  pub refused : taken ≡ false → (code : Parts) (t : Trace) (entries : List Stamped) → HasTaken code t entries was before
      → Fits code t entries s → ⊥
