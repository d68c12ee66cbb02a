-- What holds of the files that are bound with a prefix.
use Rattle.std.specs.Prelude.{◌≡◌, ℕ, List, ◌++◌, map, IfSome, IsTrue}
use Rattle.ac_outside.specs.Disks.{DiskTold}
use Rattle.ac_mirror_disk.specs.Prefixes.{UnderPrefix, path_without}

-- each of these names has the prefix
abbrev pub AreUnder : List ℕ → List (List ℕ) → Type 0
AreUnder prefix names = map (λ name. prefix ++ path_without prefix name) names ≡ names

-- while no memory was refused, the disk may be called, and each bound file has the prefix
pub record IsUnder {D : Type 0} (told : D → DiskTold) (p : UnderPrefix D) : Type 0 where
  pub ready : IsTrue p.is_ready → IsTrue (told p.disk).is_ready
  pub under : IsTrue p.is_ready → IfSome (told p.disk).held (λ held. AreUnder p.prefix (map (λ file. file.name) held.files))
