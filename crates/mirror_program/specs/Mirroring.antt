-- A mirror of two devices, each under a prefix, and what a call over it promises.
use Rattle.std.specs.Prelude.{◌≡◌, ◌≢◌, ℕ, Bool, true, List, [], ◌∷◌, ◌++◌, codes, replicate, slice_index_or, is_some, IsSome, IsTrue, None}
use Rattle.std.specs.declared.option.Option.{Option}
use Rattle.ac_outside.specs.Told.{LibraryTold, SinkTold, GrewBy}
use Rattle.ac_outside.specs.Disks.{DiskTold, Held}
use Rattle.ac_words.specs.declared.task.Task.{Task}
use Rattle.ac_words.specs.declared.task.Task.TheVariants.{Run}
use Rattle.ac_words.specs.declared.task.Telling.TheVariants.{Trace}
use Rattle.ac_words.specs.Words.{Does, Audits, Loads, IsCall}
use Rattle.program_reading.specs.Failures.{TellsLibrary, TellsSink}
use Rattle.program_reading.specs.Writing.{TookFront}
use Rattle.ac_program.specs.declared.outcome.Outcome.{Outcome}
use Rattle.ac_program.specs.Auditing.{IsJudged}
use Rattle.ac_program.specs.Headline.{IsDue, TookWhole, TookPart, GaveUp, IsOfText, IsDecided, IsLoaded, IsOfCores, ReadsBack}
use Rattle.ac_program.specs.Headline.{TellsUsage, TellsDisk}
use Rattle.ac_mirror_disk.specs.Pairs.{IfBoth}
use Rattle.ac_mirror_disk.specs.Mirrors.{Mirrored, told_by_mirror}
use Rattle.ac_mirror_disk.specs.Prefixes.{UnderPrefix, held_under, told_under_prefix}

-- ---- the mirror

-- a word, and the empty one where there is none
abbrev pub prefix_at : List (List ℕ) → ℕ → List ℕ
prefix_at words place = slice_index_or words place []

-- two devices tell what they hold, and under each path with its prefix that is the same
pub record AreAlikeUnder (first second : List ℕ) (one other : Option Held) : Type 0 where
  pub tells : IsSome one
  pub also : IsSome other
  pub found : IfBoth one other (λ x y. (held_under first x).found ≡ (held_under second y).found)

module _ {A B : Type 0} where
  -- the mirror before its first call
  abbrev pub mirror_at_first : List (List ℕ) → A → B → Bool → Mirrored (UnderPrefix A) (UnderPrefix B)
  mirror_at_first words a b is_alike = record {
    a = record { disk = record { disk = a; prefix = prefix_at words 0; is_ready = true }; lens = replicate 16 0; in_use = true };
    b = record { disk = record { disk = b; prefix = prefix_at words 1; is_ready = true }; lens = replicate 16 0; in_use = true };
    paths = [];
    binds = [];
    is_ready = true;
    is_alike = is_alike;
    is_even = true;
    calls = 0;
    faults = 0;
    earlier = 0;
  }

  abbrev pub told_by_pair : (A → DiskTold) → (B → DiskTold) → Mirrored (UnderPrefix A) (UnderPrefix B) → DiskTold
  told_by_pair told_a told_b m = told_by_mirror (told_under_prefix told_a) (told_under_prefix told_b) m

-- ---- what a call owes

-- What a call of `ac` owes for these words, clause by clause as `ac_main` says it: `before` and `after` are what the library tells before
-- and after it, `disk` and `later` what the disk does, and `sink` and `written` what the sink does.
pub record AnswersAsAc (words : List (List ℕ)) (before after : LibraryTold) (disk later : DiskTold) (sink written : SinkTold)
    (outcome : Outcome) : Type 0 where
  pub whole : outcome.status.number ≢ 8 → outcome.status.number ≢ 11 →
      TookWhole (IsDue words before after disk later) outcome.status.number outcome.run sink written
  pub part : outcome.status.number ≡ 8 → TookPart (IsDue words before after disk later) outcome.run sink written
  pub memory : outcome.status.number ≡ 11 → GaveUp words before after disk later outcome.run sink written
  pub usage : TellsUsage words outcome.status.number
  pub library : TellsLibrary before after outcome.status.number
  pub fault : TellsDisk disk later outcome.status.number outcome.run
  pub output : TellsSink sink written outcome.status.number
  pub decided : IsOfText outcome.status.number → (task : Task) (file : List ℕ) → IsCall words (Does task file) →
      IsDecided task file before after disk outcome.status.number
  pub judged : IsOfText outcome.status.number → (file trace : List ℕ) → IsCall words (Audits file trace) →
      IsJudged file trace before after outcome.status.number
  pub loaded : IsOfText outcome.status.number → (turns steps : ℕ) → IsCall words (Loads turns steps) →
      IsLoaded turns steps before after disk outcome.status.number
  pub read_back : IsOfCores outcome.status.number → IsTrue (is_some disk.held) → (steps : ℕ) (file : List ℕ) →
      IsCall words (Does (Run steps Trace) file) → ReadsBack (before.text_at file) (Run steps Trace) outcome.run sink written

abbrev pub usage_line : List ℕ
usage_line = codes "usage: ac_mirror PREFIX PREFIX WORDS" ++ 10 ∷ []

-- fewer than two words: the usage line with status 1, or a front of it where the sink failed, and no file was read
pub record IsUsage (before after : LibraryTold) (sink written : SinkTold) (outcome : Outcome) : Type 0 where
  pub one : outcome.status.number ≢ 8 → outcome.status.number ≡ 1
  pub whole : outcome.status.number ≢ 8 → GrewBy sink.held written.held usage_line
  pub part : outcome.status.number ≡ 8 → TookFront sink.held written.held usage_line
  pub output : TellsSink sink written outcome.status.number
  pub untouched : after ≡ before
  pub no_run : outcome.run ≡ None

-- there was no memory for a mirror: status 11, nothing is written and no file was read
pub record HasNoMemory (before after : LibraryTold) (sink written : SinkTold) (outcome : Outcome) : Type 0 where
  pub refused : outcome.status.number ≡ 11
  pub nothing : GrewBy sink.held written.held []
  pub untouched : after ≡ before
  pub no_run : outcome.run ≡ None
