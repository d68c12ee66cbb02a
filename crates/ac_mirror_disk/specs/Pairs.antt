-- What a call makes of the two sides of a mirror.
use Rattle.std.specs.Prelude.{◌≡◌, ◌≢◌, ◌⊎◌, ℕ, Bool, true, false, ◌-◌, ◌<◌, ◌≤◌, ◌&&◌, ◌||◌}
use Rattle.std.specs.Prelude.{not, List, slice_index, None, Some, Err, ⊤, IfSome, IsTrue, if◌then◌else◌, is_some}
use Rattle.std.specs.declared.option.Option.{Option}
use Rattle.std.specs.declared.result.Result.{Result}
use Rattle.ac_outside.specs.declared.failed.BindFault.{BindFault}
use Rattle.ac_outside.specs.declared.failed.BindFault.TheVariants.{NoMemory}
use Rattle.ac_outside.specs.declared.failed.Failed.{Failed}
use Rattle.ac_outside.specs.declared.failed.Torn.{Torn}
use Rattle.ac_outside.specs.Causes.{Rose}
use Rattle.ac_outside.specs.Disks.{DiskTold, Held, BindsNone}
use Rattle.ac_outside.specs.Files.{file_of}
use Rattle.ac_mirror_disk.specs.declared.side.Side.{Side}
use Rattle.ac_mirror_disk.specs.Sides.{SideBinds, SideReads, SideWrites, has_failed, wants_memory, first_stays, second_stays}

-- a fact on what two disks hold, where both tell
abbrev pub IfBoth : Option Held → Option Held → (Held → Held → Type 0) → Type 0
IfBoth first second P = IfSome first (λ x. IfSome second (λ y. P x y))

-- the same files are bound on both
abbrev pub HaveSameFiles : Held → Held → Type 0
HaveSameFiles x y = x.files ≡ y.files

-- the bytes of this file are the same on both
abbrev pub HaveSameBytes : ℕ → Held → Held → Type 0
HaveSameBytes file x y = (file_of x.files file).bytes ≡ (file_of y.files file).bytes

-- the longest file that is read whole
abbrev pub most_bytes : ℕ
most_bytes = 1048576

-- A disk was only read: it holds the same.
pub record OnlyReads (before after : DiskTold) : Type 0 where
  pub none : BindsNone before after
  pub same : IfSome before.held (λ held. (calls : ℕ) × (after.held ≡ Some (record held { calls = calls })))
  pub silent : before.held ≡ None → after.held ≡ None
  pub later : before.faults ≤ after.faults

module _ {A B : Type 0} (told_a : A → DiskTold) (told_b : B → DiskTold) where
  -- ---- a file that was bound on both

  -- a comparison, by what it leaves in use
  pub data Verdict (a : Side A) (b : Side B) (a' : Side A) (b' : Side B) (file : ℕ) : Type 0 where
    -- both have the same bytes
    same : a'.in_use ≡ true → b'.in_use ≡ true → slice_index a.lens file ≡ slice_index b.lens file → slice_index a.lens file ≤ most_bytes
        → IfBoth (told_a a.disk).held (told_b b.disk).held (HaveSameBytes file) → Verdict a b a' b' file
    -- they have not, or too many to be read
    differ : a'.in_use ≡ true → b'.in_use ≡ false
        → (slice_index a.lens file ≢ slice_index b.lens file) ⊎ (most_bytes < slice_index a.lens file)
        ⊎ IfBoth (told_a a.disk).held (told_b b.disk).held (λ x y. HaveSameBytes file x y → ⊥) → Verdict a b a' b' file
    -- a read of the first failed
    first_failed : a'.in_use ≡ false → b'.in_use ≡ true → Rose (told_a a.disk).faults (told_a a'.disk).faults → Verdict a b a' b' file
    -- a read of the second failed
    second_failed : a'.in_use ≡ true → b'.in_use ≡ false → Rose (told_b b.disk).faults (told_b b'.disk).faults → Verdict a b a' b' file

  -- the file of this number was compared
  pub record Compares (a : Side A) (b : Side B) (a' : Side A) (b' : Side B) (file : ℕ) : Type 0 where
    pub reads_a : OnlyReads (told_a a.disk) (told_a a'.disk)
    pub reads_b : OnlyReads (told_b b.disk) (told_b b'.disk)
    pub lens_a : a'.lens ≡ a.lens
    pub lens_b : b'.lens ≡ b.lens
    pub verdict : Verdict a b a' b' file

  -- it was compared where both sides are in use, and else nothing more was done
  abbrev pub ComparesOrNot : Side A → Side B → Side A → Side B → Bool → ℕ → Type 0
  ComparesOrNot a b a' b' true file = Compares a b a' b' file
  ComparesOrNot a b a' b' false file = (a' ≡ a) × (b' ≡ b)

  -- ---- calls of both

  -- A read asks the first side, and the second where the first gives nothing; the answer is that of the first side that is in use then.
  pub record BothRead (a : Side A) (b : Side B) (a' : Side A) (b' : Side B) (file from len : ℕ) (into : List ℕ) (result : Result ℕ Failed) :
      Type 0 where
    pub of_a : Option (Result ℕ Failed)
    pub of_b : Option (Result ℕ Failed)
    pub called_a : is_some of_a ≡ a.in_use
    pub called_b : is_some of_b ≡ (b.in_use && not (is_some of_a && not (has_failed of_a)))
    pub on_a : SideReads told_a a a' file from len into of_a
    pub on_b : SideReads told_b b b' file from len into of_b
    pub use_a : a'.in_use ≡ first_stays a.in_use (has_failed of_a) b.in_use (has_failed of_b)
    pub use_b : b'.in_use ≡ second_stays a.in_use b.in_use (has_failed of_b)
    pub answer : (if a'.in_use then of_a else of_b) ≡ Some result

  -- a write goes to each side in use
  pub record BothWrite (a : Side A) (b : Side B) (a' : Side A) (b' : Side B) (file from : ℕ) (bytes : List ℕ) (result : Result ⊤ Torn) :
      Type 0 where
    pub of_a : Option (Result ⊤ Torn)
    pub of_b : Option (Result ⊤ Torn)
    pub called_a : is_some of_a ≡ a.in_use
    pub called_b : is_some of_b ≡ b.in_use
    pub on_a : SideWrites told_a a a' file from bytes of_a
    pub on_b : SideWrites told_b b b' file from bytes of_b
    pub use_a : a'.in_use ≡ first_stays a.in_use (has_failed of_a) b.in_use (has_failed of_b)
    pub use_b : b'.in_use ≡ second_stays a.in_use b.in_use (has_failed of_b)
    pub answer : (if a'.in_use then of_a else of_b) ≡ Some result

  -- Each side in use was to bind the file, and none was refused memory; then the two are compared where both stay in use. `even` says
  -- whether no bind of a side has failed since the two sides held the same.
  pub record BothBound (a : Side A) (b : Side B) (a' : Side A) (b' : Side B) (path : List ℕ) (even even' : Bool)
      (result : Result ℕ BindFault) :
      Type 0 where
    pub of_a : Option (Result ℕ BindFault)
    pub of_b : Option (Result ℕ BindFault)
    pub between_a : Side A
    pub between_b : Side B
    pub called_a : is_some of_a ≡ a.in_use
    pub called_b : is_some of_b ≡ b.in_use
    pub given_a : wants_memory of_a ≡ false
    pub given_b : wants_memory of_b ≡ false
    pub on_a : SideBinds told_a a between_a path of_a
    pub on_b : SideBinds told_b b between_b path of_b
    pub use_a : between_a.in_use ≡ first_stays a.in_use (has_failed of_a) b.in_use (has_failed of_b)
    pub use_b : between_b.in_use ≡ second_stays a.in_use b.in_use (has_failed of_b)
    pub even_is : even' ≡ (even && not (has_failed of_a) && not (has_failed of_b))
    pub compared : ComparesOrNot between_a between_b a' b' (between_a.in_use && between_b.in_use) ((told_a between_a.disk).bound - 1)
    pub answer : (if a'.in_use then of_a else of_b) ≡ Some result

  -- a side in use was to bind the file and was refused memory, the first before the second was asked
  pub record BothRefused (a : Side A) (b : Side B) (a' : Side A) (b' : Side B) (path : List ℕ) (result : Result ℕ BindFault) : Type 0 where
    pub of_a : Option (Result ℕ BindFault)
    pub of_b : Option (Result ℕ BindFault)
    pub refused : IsTrue (wants_memory of_a || wants_memory of_b)
    pub on_a : SideBinds told_a a a' path of_a
    pub on_b : SideBinds told_b b b' path of_b
    pub use_a : a'.in_use ≡ a.in_use
    pub use_b : b'.in_use ≡ b.in_use
    pub answer : result ≡ Err NoMemory

  abbrev pub BothBind : Side A → Side B → Side A → Side B → List ℕ → Bool → Bool → Result ℕ BindFault → Type 0
  BothBind a b a' b' path even even' result =
      BothBound a b a' b' path even even' result ⊎ BothRefused a b a' b' path result
