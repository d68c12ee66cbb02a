-- One side of a mirror: what a call of it makes of its device and of the lengths of its files.
use Rattle.std.specs.Prelude.{◌≡◌, ℕ, zero, suc, Bool, true, false, ◌+◌, ◌&&◌, not}
use Rattle.std.specs.Prelude.{max, List, length, slice_index, slice_set, None, Some, Ok, Err, ⊤}
use Rattle.std.specs.declared.option.Option.{Option}
use Rattle.std.specs.declared.result.Result.{Result}
use Rattle.ac_outside.specs.declared.failed.BindFault.{BindFault}
use Rattle.ac_outside.specs.declared.failed.BindFault.TheVariants as b
use Rattle.ac_outside.specs.declared.failed.Failed.{Failed}
use Rattle.ac_outside.specs.declared.failed.Torn.{Torn}
use Rattle.ac_outside.specs.Disks.{DiskTold}
use Rattle.ac_outside.specs.Files.{bytes_in}
use Rattle.ac_mirror_disk.specs.declared.side.Side.{Side}
use Rattle.ac_mirror_disk.specs.Calls.{HasBound, HasRead, HasWritten}

-- ---- lengths

-- the length of a file of which so many bytes were written at a place
abbrev pub grown : ℕ → ℕ → ℕ → ℕ
grown len from zero = len
grown len from (suc n) = max len (from + suc n)

-- the lengths after a bind of the file of this number
abbrev pub lens_bound : List ℕ → ℕ → Result ℕ BindFault → List ℕ
lens_bound lens file (Ok len) = slice_set lens file len
lens_bound lens file (Err fault) = lens

-- the lengths after a write to a file
abbrev pub lens_written : {T : Type 0} → List ℕ → ℕ → ℕ → List ℕ → Result T Torn → List ℕ
lens_written lens file from bytes result = slice_set lens file (grown (slice_index lens file) from (length (bytes_in result bytes)))

-- ---- answers: none where a side was not called

abbrev pub has_failed : {T E : Type 0} → Option (Result T E) → Bool
has_failed None = false
has_failed (Some (Ok value)) = false
has_failed (Some (Err fault)) = true

abbrev pub wants_memory : Option (Result ℕ BindFault) → Bool
wants_memory None = false
wants_memory (Some (Ok len)) = false
wants_memory (Some (Err b.Failed)) = false
wants_memory (Some (Err b.NoMemory)) = true

-- ---- which sides stay in use after a call: by which were in use, and which failed

-- the first is dropped where it fails while the second is in use and does not
abbrev pub first_stays : Bool → Bool → Bool → Bool → Bool
first_stays first first_failed second second_failed = first && not (first_failed && second && not second_failed)

-- the second is dropped where it fails while the first is in use, also where both fail
abbrev pub second_stays : Bool → Bool → Bool → Bool
second_stays first second second_failed = second && not (first && second_failed)

-- ---- calls of a side

module _ {D : Type 0} where
  -- it was not called
  pub record IsLeft (before after : Side D) : Type 0 where
    pub disk : after.disk ≡ before.disk
    pub lens : after.lens ≡ before.lens

  abbrev pub SideBinds : (D → DiskTold) → Side D → Side D → List ℕ → Option (Result ℕ BindFault) → Type 0
  SideBinds told before after path None = IsLeft before after
  SideBinds told before after path (Some result) =
      HasBound (told before.disk) (told after.disk) path result
      × (after.lens ≡ lens_bound before.lens (told before.disk).bound result)

  abbrev pub SideReads : (D → DiskTold) → Side D → Side D → ℕ → ℕ → ℕ → List ℕ → Option (Result ℕ Failed) → Type 0
  SideReads told before after file from len into None = IsLeft before after
  SideReads told before after file from len into (Some result) =
      HasRead (told before.disk) (told after.disk) file from len into result × (after.lens ≡ before.lens)

  abbrev pub SideWrites : (D → DiskTold) → Side D → Side D → ℕ → ℕ → List ℕ → Option (Result ⊤ Torn) → Type 0
  SideWrites told before after file from bytes None = IsLeft before after
  SideWrites told before after file from bytes (Some result) =
      HasWritten (told before.disk) (told after.disk) file from bytes result
      × (after.lens ≡ lens_written before.lens file from bytes result)
