-- What copying pieces, files and all files of a side makes of the other.
use Rattle.std.specs.Prelude.{◌≡◌, ◌⊎◌, ℕ, Bool, true, false, ◌<◌, ◌≤◌, List, ◌++◌, length}
use Rattle.std.specs.Prelude.{map, take, drop, slice_index, slice_set, None, Some, Ok, Err, ⊤, IfSome, IsSome, IsTrue}
use Rattle.std.specs.declared.option.Option.{Option}
use Rattle.std.specs.declared.result.Result.{Result}
use Rattle.ac_outside.specs.declared.failed.BindFault.{BindFault}
use Rattle.ac_outside.specs.declared.failed.BindFault.TheVariants.{Failed, NoMemory}
use Rattle.ac_outside.specs.declared.failed.Torn.{Torn}
use Rattle.ac_outside.specs.declared.shelf.NamedBytes.{NamedBytes}
use Rattle.ac_outside.specs.Causes.{Rose}
use Rattle.ac_outside.specs.Disks.{DiskTold, Held, BindsNone}
use Rattle.ac_outside.specs.Files.{file_of, part}
use Rattle.ac_mirror_disk.specs.declared.side.Side.{Side}
use Rattle.ac_mirror_disk.specs.Sides.{SideWrites}
use Rattle.ac_mirror_disk.specs.Pairs.{IfBoth, OnlyReads}
use Rattle.ac_mirror_disk.specs.Rebuilding.{OnlyBinds}
use Rattle.ac_mirror_disk.specs.Sound.{IsKept, WereShort}

-- what is told goes on so
pub record Then (S : Held → Held → Type 0) (h : Held) (after : Option Held) : Type 0 where
  pub held : Held
  pub is : after ≡ Some held
  pub so : S h held

abbrev pub KeepsFound : Held → Held → Type 0
KeepsFound h h' = h'.found ≡ h.found

-- the file with these bytes
abbrev pub with_bytes : List NamedBytes → ℕ → List ℕ → List NamedBytes
with_bytes files file bytes = slice_set files file (record { name = (file_of files file).name; bytes = bytes })

-- the one has this length and the other is not longer
pub record Fits (len file : ℕ) (x y : Held) : Type 0 where
  pub one : length (file_of x.files file).bytes ≡ len
  pub other : length (file_of y.files file).bytes ≤ len

-- the first bytes are those of the one, and the rest those of the other
abbrev pub joined : ℕ → List ℕ → List ℕ → List ℕ
joined count bytes other = take count bytes ++ drop count other

-- what has become of what was held on the second side
pub record Becomes (P : Held → Held → Held → Type 0) (x y : Held) (after : Option Held) : Type 0 where
  pub held : Held
  pub is : after ≡ Some held
  pub so : P x y held

-- so many bytes of the file are copied
abbrev pub HasJoined : ℕ → ℕ → ℕ → Held → Held → Held → Type 0
HasJoined file len count x y y' = Fits len file x y → y'.files ≡ with_bytes y.files file (joined count (file_of x.files file).bytes
    (file_of y.files file).bytes)

-- and so many files are
pub record AllFit (lens : List ℕ) (count : ℕ) (x y : Held) : Type 0 where
  pub fits : (k : ℕ) → k < count → Fits (slice_index lens k) k x y
  pub names : map (λ (f : NamedBytes). f.name) x.files ≡ map (λ (f : NamedBytes). f.name) y.files

abbrev pub HasCopied : List ℕ → ℕ → ℕ → Held → Held → Held → Type 0
HasCopied lens all count x y y' = AllFit lens all x y → y'.files ≡ take count x.files ++ drop count y.files

module _ {D : Type 0} (told : D → DiskTold) where
  pub record SideOnlyReads (s s' : Side D) : Type 0 where
    pub reads : OnlyReads (told s.disk) (told s'.disk)
    pub lens : s'.lens ≡ s.lens
    pub in_use : s'.in_use ≡ s.in_use

  -- bound files were written, and nothing else
  pub record Rewrites (t t' : Side D) : Type 0 where
    pub room : length t'.lens ≡ length t.lens
    pub none : BindsNone (told t.disk) (told t'.disk)
    pub kept : (paths : List (List ℕ)) → IsKept told t paths → IsKept told t' paths
    pub found : IfSome (told t.disk).held (λ h. Then KeepsFound h (told t'.disk).held)
    pub silent : (told t.disk).held ≡ None → (told t'.disk).held ≡ None
    pub later : (told t.disk).faults ≤ (told t'.disk).faults
    pub short : WereShort told t t'
    pub in_use : t'.in_use ≡ t.in_use

  -- the rest of these paths was to be bound
  pub record BindsRest (t t' : Side D) (paths : List (List ℕ)) (result : Result ⊤ BindFault) : Type 0 where
    pub later : (told t.disk).faults ≤ (told t'.disk).faults
    pub short : WereShort told t t'
    pub in_use : t'.in_use ≡ t.in_use
    pub kept : (result ≡ Err NoMemory → ⊥) → IsKept told t' paths
    pub whole : result ≡ Ok tt → (told t'.disk).bound ≡ length paths
    pub rose : result ≡ Err Failed → Rose (told t.disk).faults (told t'.disk).faults
    pub tells : (result ≡ Err NoMemory → ⊥) → IsSome (told t.disk).held → IsSome (told t'.disk).held
    pub found : result ≡ Ok tt → IfSome (told t.disk).held (λ h. Then KeepsFound h (told t'.disk).held)
    pub silent : (told t.disk).held ≡ None → (told t'.disk).held ≡ None
    pub only : OnlyBinds told t t'
    pub refused : result ≡ Err NoMemory → (told t'.disk).is_ready ≡ false

module _ {S T : Type 0} (told_s : S → DiskTold) (told_t : T → DiskTold) where
  pub record MayCopy (s : Side S) (t : Side T) (file : ℕ) : Type 0 where
    pub ready_s : IsTrue (told_s s.disk).is_ready
    pub ready_t : IsTrue (told_t t.disk).is_ready
    pub named_s : file < (told_s s.disk).bound
    pub named_t : file < (told_t t.disk).bound
    pub few : (told_t t.disk).bound ≤ 16
    pub room : length t.lens ≡ 16

  pub record Copies (s s' : Side S) (t t' : Side T) (file from len : ℕ) (done : Bool) : Type 0 where
    pub reads : SideOnlyReads told_s s s'
    pub written : Option (Result ⊤ Torn)
    pub bytes : List ℕ
    pub few : length bytes ≤ len
    pub writes : SideWrites told_t t t' file from bytes written
    pub in_use : t'.in_use ≡ t.in_use
    pub blame : done ≡ false → Rose (told_s s.disk).faults (told_s s'.disk).faults ⊎ Rose (told_t t.disk).faults (told_t t'.disk).faults
    pub well : done ≡ true → written ≡ Some (Ok tt)
    pub given : done ≡ true → IfSome (told_s s.disk).held (λ x. bytes ≡ part (file_of x.files file).bytes from len)

  pub record CopiesFile (s s' : Side S) (t t' : Side T) (file : ℕ) (done : Bool) : Type 0 where
    pub reads : SideOnlyReads told_s s s'
    pub rewrites : Rewrites told_t t t'
    pub blame : done ≡ false → Rose (told_s s.disk).faults (told_s s'.disk).faults ⊎ Rose (told_t t.disk).faults (told_t t'.disk).faults
    pub copied : done ≡ true → IfBoth (told_s s.disk).held (told_t t.disk).held (λ x y.
        Becomes (HasJoined file (slice_index s.lens file) (slice_index s.lens file)) x y (told_t t'.disk).held)

  pub record CopiesFiles (s s' : Side S) (t t' : Side T) (count : ℕ) (done : Bool) : Type 0 where
    pub reads : SideOnlyReads told_s s s'
    pub rewrites : Rewrites told_t t t'
    pub blame : done ≡ false → Rose (told_s s.disk).faults (told_s s'.disk).faults ⊎ Rose (told_t t.disk).faults (told_t t'.disk).faults
    pub copied : done ≡ true → IfBoth (told_s s.disk).held (told_t t.disk).held (λ x y.
        Becomes (HasCopied s.lens count count) x y (told_t t'.disk).held)
