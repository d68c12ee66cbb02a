-- What is found where a file is read from two disks.
use Rattle.std.specs.Prelude.{◌≡◌, ℕ, take}
use Rattle.ac_outside.specs.Causes.{Rose}
use Rattle.ac_outside.specs.Disks.{DiskTold, Held}
use Rattle.ac_outside.specs.Files.{file_of, part}
use Rattle.ac_mirror_disk.specs.declared.comparing.Compared.{Compared}
use Rattle.ac_mirror_disk.specs.declared.comparing.Compared.TheVariants.{Same, Differ, FirstFailed, SecondFailed}
use Rattle.ac_mirror_disk.specs.Pairs.{IfBoth, HaveSameBytes, OnlyReads}

-- the same stands on both from a place on, up to so many bytes
abbrev pub HaveSamePart : ℕ → ℕ → ℕ → Held → Held → Type 0
HaveSamePart file from len x y = part (file_of x.files file).bytes from len ≡ part (file_of y.files file).bytes from len

-- the first bytes are the same on both
abbrev pub HaveSameFront : ℕ → ℕ → Held → Held → Type 0
HaveSameFront file len x y = take len (file_of x.files file).bytes ≡ take len (file_of y.files file).bytes

-- one comparison, by its answer: `P` holds where the two are the same
abbrev pub Finds : DiskTold → DiskTold → DiskTold → DiskTold → (Held → Held → Type 0) → ℕ → Compared → Type 0
Finds a a' b b' P file Same = IfBoth a.held b.held P
Finds a a' b b' P file Differ = IfBoth a.held b.held (λ x y. HaveSameBytes file x y → ⊥)
Finds a a' b b' P file FirstFailed = Rose a.faults a'.faults
Finds a a' b b' P file SecondFailed = Rose b.faults b'.faults

-- both disks were only read, and this was found
pub record ComparesSo (a a' b b' : DiskTold) (P : Held → Held → Type 0) (file : ℕ) (result : Compared) : Type 0 where
  pub reads_a : OnlyReads a a'
  pub reads_b : OnlyReads b b'
  pub finds : Finds a a' b b' P file result
