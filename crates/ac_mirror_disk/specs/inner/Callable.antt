-- When a side of a mirror may be called.
use Rattle.std.specs.Prelude.{◌≡◌, ℕ, ◌-◌, ◌<◌, ◌≤◌, List, length, slice_index, IsTrue, IfSome}
use Rattle.ac_outside.specs.Files.{file_of, told_length}
use Rattle.ac_outside.specs.Disks.{DiskTold, IsFresh}
use Rattle.ac_mirror_disk.specs.declared.side.Side.{Side}

module _ {D : Type 0} (told : D → DiskTold) where
  -- where it is in use, this file may be read and written
  pub record MayCall (s : Side D) (file : ℕ) : Type 0 where
    pub ready : IsTrue s.in_use → IsTrue (told s.disk).is_ready
    pub named : IsTrue s.in_use → file < (told s.disk).bound
    pub few : IsTrue s.in_use → (told s.disk).bound ≤ 16

  -- where it is in use, a file of this path may be bound
  pub record MayBind (s : Side D) (path : List ℕ) : Type 0 where
    pub ready : IsTrue s.in_use → IsTrue (told s.disk).is_ready
    pub room : length s.lens ≡ 16
    pub few : IsTrue s.in_use → (told s.disk).bound < 16
    pub fresh : IsTrue s.in_use → IfSome (told s.disk).held (λ held. IsFresh held path)

  -- it may be called, and has bound this file, whose length it knows
  pub record HasFile (s : Side D) (file : ℕ) : Type 0 where
    pub ready : IsTrue (told s.disk).is_ready
    pub named : file < (told s.disk).bound
    pub few : (told s.disk).bound ≤ 16
    pub long : IfSome (told s.disk).held (λ held. slice_index s.lens file ≡ told_length (file_of held.files file).bytes)

-- both have bound a file, and the one that the first has bound last
pub record BothLast {A B : Type 0} (told_a : A → DiskTold) (told_b : B → DiskTold) (a : Side A) (b : Side B) : Type 0 where
  pub some : 0 < (told_a a.disk).bound
  pub first : HasFile told_a a ((told_a a.disk).bound - 1)
  pub second : HasFile told_b b ((told_a a.disk).bound - 1)
