-- What reading a whole text gives.
use Rattle.std.specs.Prelude.{◌≡◌, ◌⊎◌, ℕ, ◌+◌, ◌≤◌, List, length, IfSome}
use Rattle.std.specs.Io.KnownBytes.{Consumes}
use Rattle.std.specs.declared.option.Option.{Option}
use Rattle.ac_outside.specs.Told.{LibraryTold, CountsAtMost, OpenedJust}

-- the text is the one that the library tells, where it tells one
abbrev pub Gave : Option (List ℕ) → List ℕ → Type 0
Gave told text = IfSome told (λ known. text ≡ known)

-- Just so many bytes of the text that is told were taken.
pub record TookBytes (told left : Option (List ℕ)) (n : ℕ) : Type 0 where
  pub taken : List ℕ
  pub count : length taken ≡ n
  pub consumed : Consumes told left taken

-- Some bytes of the file were taken, by one read for each at most and one more, which gave none or failed.
pub record TookByReads (before after : LibraryTold) (file : List ℕ) : Type 0 where
  pub taken : List ℕ
  pub consumed : Consumes (before.text_at file) after.left taken
  pub few : CountsAtMost before.reads after.reads (length taken + 1)

-- just this file was opened, it was read no more often than that takes, and no call of the library failed
pub record IsRead (before after : LibraryTold) (file : List ℕ) : Type 0 where
  pub just : OpenedJust before after file
  pub well : after.faults ≡ before.faults
  pub reads : TookByReads before after file

-- and this is all of it
pub record IsReadWhole (before after : LibraryTold) (file text : List ℕ) : Type 0 where
  pub read : IsRead before after file
  pub few : CountsAtMost before.reads after.reads (length text + 1)

-- just this file was to be opened, and it was not opened, or read no more often than what was taken takes
pub record IsTried (before after : LibraryTold) (file : List ℕ) : Type 0 where
  pub just : OpenedJust before after file
  pub reads : (after.reads ≡ before.reads) ⊎ TookByReads before after file

-- a source has at most 1,048,576 bytes
abbrev pub IsShort : List ℕ → Type 0
IsShort text = length text ≤ 1048576
