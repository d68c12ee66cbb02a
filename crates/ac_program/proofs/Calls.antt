-- A text calls for one status, or for several that are those of runs of its program, which has a channel or a file. Each way to a status
-- is one of four (too long, refused, a long file, made); two ways of one text are the same way, since a text has one program and what
-- refuses it does so once.
use Rattle.std.proofs.Common.{◌≡◌, ℕ, ◌+◌, ◌<◌, ◌≤◌, ◌⊎◌, inl, inr, List, [], ◌∷◌, length, Option, None, Some, refl, sym, ap, ◌∙◌, subst, arith}
use Rattle.ac_tree.specs.Shape.{HasShape}
use Rattle.ac_parser.proofs.Shaped.{spelled_shape}
use Rattle.ac_commands.specs.declared.program.Channel.{Channel}
use Rattle.ac_resolve.specs.Resolution.{resolved}
use Rattle.ac_tree.specs.declared.item.Program.{Program}
use Rattle.program_reading.specs.declared.refusal.Refusal.{Refusal}
use Rattle.program_reading.specs.declared.refusal.Refusal.TheVariants as r
use Rattle.ac_lexer.specs.declared.fault.LexFault.TheVariants as l
use Rattle.program_reading.specs.Lines.{refusal_status}
use Rattle.ac_words.specs.declared.task.Task.{Task}
use Rattle.ac_words.specs.declared.task.Task.TheVariants as t
use Rattle.std.specs.Prelude.{All, Contains, IfSome, IsTrue, is_some}
use Rattle.ac_outside.specs.Disks.{DiskTold, Held}
use Rattle.starting_files.specs.Starting.{bytes_at}
use Rattle.program_reading.specs.Source.{IsReady, Refuses, needed}
use Rattle.ac_words.specs.declared.task.Telling.{Telling}
use Rattle.program_reading.specs.Reading.{IsShort}
use Rattle.ac_program.specs.Headline.{HasRun, GivesStatus, CallsFor, AreOfRuns, AreShort, HasLong, KnowsFiles}
use Rattle.ac_program.specs.Headline.CallsFor.{bad_token, unexpected, broken, over_long, too_deep, too_many, long_file, made}
use Rattle.program_reading.proofs.Faults.{fault_refuses}
use Rattle.ac_program.proofs.OneRun.{same_told}
use Rattle.program_reading.proofs.Refusals.{refused_once, refused_not, same_program}

-- ---- the four ways in which a text calls for a status

-- something refuses the source with that status
pub record IsRefusedAs (status : ℕ) (source : List ℕ) (task : Task) : Type 0 where
  pub refusal : Refusal
  pub status_is : refusal_status refusal ≡ status
  pub refuses : Refuses source task refusal

-- nothing refuses it, a file of its program is too long
pub record IsFiled (source : List ℕ) (task : Task) (disk : DiskTold) : Type 0 where
  pub program : Program
  pub is_ready : IsReady source task program
  pub long : HasLong disk (needed task program)

-- nothing refuses it, no file is too long, and what is made of it has that status
pub record IsMadeAs (status : ℕ) (source : List ℕ) (task : Task) (disk : DiskTold) : Type 0 where
  pub program : Program
  pub is_ready : IsReady source task program
  pub short : AreShort disk (needed task program)
  pub gives : GivesStatus task program disk status

pub data Way (text : List ℕ) (task : Task) (disk : DiskTold) (status : ℕ) : Type 0 where
  is_long : status ≡ 10 → 1048576 < length text → Way text task disk status
  is_refused : IsShort text → IsRefusedAs status text task → Way text task disk status
  is_filed : status ≡ 10 → IsShort text → IsFiled text task disk → Way text task disk status
  is_made : IsShort text → IsMadeAs status text task disk → Way text task disk status

module _ (text : List ℕ) (task : Task) (disk : DiskTold) (status : ℕ) where
  as_refused : (refusal : Refusal) (number : ℕ) → status ≡ number → refusal_status refusal ≡ number → Refuses text task refusal → IsRefusedAs status text task
  as_refused refusal number e n h = record { refusal = refusal; status_is = n ∙ sym e; refuses = h }

  pub way_of : CallsFor text task disk status → Way text task disk status
  way_of (bad_token f e s h) = let x = fault_refuses text task f h in is_refused s (as_refused x.refusal 2 e x.status_is x.refuses)
  way_of (unexpected at e s h) = is_refused s (as_refused (r.Unexpected at) 2 e refl h)
  way_of (broken rule e s h) = is_refused s (as_refused (r.Broken rule) 3 e refl h)
  way_of (over_long e h) = is_long e h
  way_of (too_deep at e s h) = is_refused s (as_refused (r.TooDeep at) 10 e refl h)
  way_of (too_many e s h) = is_refused s (as_refused r.TooManySteps 10 e refl h)
  way_of (long_file program e s k h) = is_filed e s (record { program = program; is_ready = k; long = h })
  way_of (made program s k a h) = is_made s (record { program = program; is_ready = k; short = a; gives = h })

  -- and back, from a refusal
  pub calls_refused : (refusal : Refusal) → status ≡ refusal_status refusal → IsShort text → Refuses text task refusal → CallsFor text task disk status
  calls_refused r.TooLong e s h = over_long e h
  calls_refused (r.BadByte at) e s h = bad_token (l.BadByte at) e s h
  calls_refused (r.NumberTooLarge at) e s h = bad_token (l.NumberTooLarge at) e s h
  calls_refused (r.OpenComment at) e s h = bad_token (l.OpenComment at) e s h
  calls_refused (r.OpenText at) e s h = bad_token (l.OpenText at) e s h
  calls_refused (r.Unexpected at) e s h = unexpected at e s h
  calls_refused (r.TooDeep at) e s h = too_deep at e s h
  calls_refused (r.Broken rule) e s h = broken rule e s h
  calls_refused r.TooManySteps e s h = too_many e s h

-- ---- one status, but as the runs of a program with channels or files differ

-- what is ready is in order, and its source spells it
has_shape : (text : List ℕ) (task : Task) (program : Program) → IsReady text task program → HasShape program
has_shape text task program k = let tree = k.is_accepted.spelled.tree in spelled_shape program tree.marks tree.spells

module _ (text : List ℕ) (steps : ℕ) (telling : Telling) (program : Program) (disk : DiskTold) (k : IsReady text (t.Run steps telling) program) (m n : ℕ)
    (a : HasRun program steps telling disk m) (b : HasRun program steps telling disk n) where
  abbrev One : Type 0
  One = (n ≡ m) ⊎ AreOfRuns text (t.Run steps telling) disk m n

  runs_differ : 1 ≤ length (resolved program).channels + length (resolved program).files → One
  runs_differ some = inr (record { steps = steps; telling = telling; program = program; is_run = refl; is_ready = k; meets = some; one = a; other = b })

  runs_agree : (resolved program).channels ≡ [] → (resolved program).files ≡ [] → One
  runs_agree none no_files =
      inl (same_told program k.is_accepted.clean (has_shape text (t.Run steps telling) program k) none no_files steps telling
      a.start b.start a.ended b.ended m n a.line b.line a.each_file b.each_file a.is_run b.is_run a.tells b.tells)

  of_runs : One
  of_runs = by (resolved program).channels (resolved program).files refl refl where
    by : (channels : List Channel) (files : List (List ℕ)) → (resolved program).channels ≡ channels → (resolved program).files ≡ files → One
    by [] [] e f = runs_agree e f
    by [] (file ∷ files) e f = runs_differ (let many = ap (λ xs. length xs) f in omega (arith, many))
    by (channel ∷ channels) files e f = runs_differ (let many = ap (λ xs. length xs) e in omega (arith, many))

gives_both : (text : List ℕ) (task : Task) (program : Program) (disk : DiskTold) (m n : ℕ) → IsReady text task program → GivesStatus task program disk m → GivesStatus task program disk n
    → (n ≡ m) ⊎ AreOfRuns text task disk m n
gives_both text (t.Run steps telling) program disk m n k a b = of_runs text steps telling program disk k m n a b
gives_both text t.Check program disk m n k a b = inl (b ∙ sym a)
gives_both text t.Code program disk m n k a b = inl (b ∙ sym a)

-- a file that is too long is not short, where it is told
long_not_short : (held : Option Held) (paths : List (List ℕ)) (path : List ℕ) → (1 ≤ length paths → IsTrue (is_some held)) → Contains paths path
    → IfSome held (λ h. 1048576 < length (bytes_at h path)) → IfSome held (λ h. All (λ p. length (bytes_at h p) ≤ 1048576) paths) → ⊥
long_not_short None paths path knows one over short = let told = knows (let less = one.1 in omega (arith, less)) in absurd (cc (told))
long_not_short (Some h) paths path knows one over short =
    let few = subst (λ p. length (bytes_at h p) ≤ 1048576) one.2 (short one.0 path one.1) in
    omega (arith, over, few)

module _ (text : List ℕ) (task : Task) (disk : DiskTold) (knows : KnowsFiles text task disk) where
  made_both : (m n : ℕ) → IsMadeAs m text task disk → IsMadeAs n text task disk → (n ≡ m) ⊎ AreOfRuns text task disk m n
  made_both m n a b =
      let same = same_program text a.program b.program a.is_ready.is_accepted.spelled b.is_ready.is_accepted.spelled in
      gives_both text task a.program disk m n a.is_ready a.gives (subst (λ (p : Program). GivesStatus task p disk n) (sym same) b.gives)

  pub not_filed : IsFiled text task disk → (program : Program) → IsReady text task program → AreShort disk (needed task program) → ⊥
  not_filed a program is_ready short =
      let same = same_program text a.program program a.is_ready.is_accepted.spelled is_ready.is_accepted.spelled in
      long_not_short disk.held (needed task a.program) a.long.path (knows a.program a.is_ready) a.long.is_one a.long.over
      (subst (λ (p : Program). AreShort disk (needed task p)) (sym same) short)

  both_ways : (m n : ℕ) → Way text task disk m → Way text task disk n → (n ≡ m) ⊎ AreOfRuns text task disk m n
  both_ways m n (is_long e h) (is_long f k) = inl (f ∙ sym e)
  both_ways m n (is_long e h) (is_refused s k) = absurd (omega (arith, h, s))
  both_ways m n (is_long e h) (is_filed f s k) = absurd (omega (arith, h, s))
  both_ways m n (is_long e h) (is_made s k) = absurd (omega (arith, h, s))
  both_ways m n (is_refused s h) (is_long e k) = absurd (omega (arith, k, s))
  both_ways m n (is_refused s h) (is_refused u k) = inl (sym k.status_is ∙ refused_once text task s k.refusal h.refusal k.refuses h.refuses ∙ h.status_is)
  both_ways m n (is_refused s h) (is_filed f u k) = absurd (refused_not text task s h.refusal k.program h.refuses k.is_ready)
  both_ways m n (is_refused s h) (is_made u k) = absurd (refused_not text task s h.refusal k.program h.refuses k.is_ready)
  both_ways m n (is_filed f s h) (is_long e k) = absurd (omega (arith, k, s))
  both_ways m n (is_filed f s h) (is_refused u k) = absurd (refused_not text task u k.refusal h.program k.refuses h.is_ready)
  both_ways m n (is_filed f s h) (is_filed e u k) = inl (e ∙ sym f)
  both_ways m n (is_filed f s h) (is_made u k) = absurd (not_filed h k.program k.is_ready k.short)
  both_ways m n (is_made s h) (is_long e k) = absurd (omega (arith, k, s))
  both_ways m n (is_made s h) (is_refused u k) = absurd (refused_not text task u k.refusal h.program k.refuses h.is_ready)
  both_ways m n (is_made s h) (is_filed f u k) = absurd (not_filed k h.program h.is_ready h.short)
  both_ways m n (is_made s h) (is_made u k) = made_both m n h k

  -- of two statuses that a text calls for, they are the same or both are of runs of its program
  pub calls_both : (m n : ℕ) → CallsFor text task disk m → CallsFor text task disk n → (n ≡ m) ⊎ AreOfRuns text task disk m n
  calls_both m n a b = both_ways m n (way_of text task disk m a) (way_of text task disk n b)
