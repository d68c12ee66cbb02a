-- Which of two files were opened, the one of a program and the other of a trace.
use Rattle.std.specs.Prelude.{ℕ, List}
use Rattle.ac_tree.specs.declared.item.Program.{Program}
use Rattle.ac_outside.specs.Told.{LibraryTold}
use Rattle.ac_words.specs.declared.task.Task.TheVariants as t
use Rattle.program_reading.specs.Source.{IsReady}
use Rattle.program_reading.specs.Reading.{Gave, IsRead, IsReadWhole, IsShort}

-- nothing refuses a check of the source, and just the file of the trace was opened
pub record IsTraceRead (source trace : List ℕ) (before after : LibraryTold) : Type 0 where
  pub program : Program
  pub is_ready : IsReady source t.Check program
  pub read : IsRead before after trace

-- just the first of the files was opened; or it was read whole, nothing refuses a check of it, and then the second was; and no call of the
-- library failed
pub data AreRead (file trace : List ℕ) (before after : LibraryTold) : Type 0 where
  first : IsRead before after file → AreRead file trace before after
  both : (bytes : List ℕ) (between : LibraryTold) → IsReadWhole before between file bytes → Gave (before.text_at file) bytes →
      IsShort bytes → IsTraceRead bytes trace between after → AreRead file trace before after
