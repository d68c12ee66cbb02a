-- What a disk tells whose paths stand on another with a prefix before them.
use Rattle.std.specs.Prelude.{◌≡◌, ℕ, Bool, true, false, List, ◌++◌, length, map, drop, None, Some, if◌then◌else◌, IfSome, Err}
use Rattle.std.proofs.Common.{sym, ◌∙◌}
use Rattle.std.proofs.lemmas.List.{length-map}
use Rattle.std.specs.Option.{option_map}
use Rattle.std.specs.declared.option.Option.{Option}
use Rattle.std.specs.declared.result.Result.{Result}
use Rattle.ac_outside.specs.declared.failed.BindFault.{BindFault}
use Rattle.ac_outside.specs.declared.failed.BindFault.TheVariants.{NoMemory}
use Rattle.ac_outside.specs.Told.{AddsName}
use Rattle.ac_mirror_disk.specs.Calls.{HasBound}
use Rattle.ac_outside.specs.declared.shelf.NamedBytes.{NamedBytes}
use Rattle.ac_outside.specs.Disks.{DiskTold, Held}

-- a disk, the prefix, and whether memory was given at every bind
pub record UnderPrefix (D : Type 0) : Type 0 where
  pub disk : D
  pub prefix : List ℕ
  pub is_ready : Bool

-- a path without its prefix
abbrev pub path_without : List ℕ → List ℕ → List ℕ
path_without prefix path = drop (length prefix) path

abbrev pub file_without : List ℕ → NamedBytes → NamedBytes
file_without prefix file = record { name = path_without prefix file.name; bytes = file.bytes }

-- under each path stands what stands under the prefix and that path
abbrev pub held_under : List ℕ → Held → Held
held_under prefix held = record {
  files = map (file_without prefix) held.files;
  found = λ path. held.found (prefix ++ path);
  calls = held.calls;
}

-- no memory for the path, or the bind that the disk has done
pub data JoinsBind (before after : DiskTold) (whole : List ℕ) (result : Result ℕ BindFault) : Type 0 where
  unasked : result ≡ Err NoMemory → after ≡ before → JoinsBind before after whole result
  asked : HasBound before after whole result → AddsName before.binds after.binds whole → after.earlier ≡ before.faults
      → JoinsBind before after whole result

module _ {D : Type 0} (told : D → DiskTold) where
  abbrev pub told_under_prefix : UnderPrefix D → DiskTold
  told_under_prefix p = record {
    held = (if p.is_ready then option_map (held_under p.prefix) (told p.disk).held else None);
    bound = (told p.disk).bound;
    is_ready = p.is_ready;
    binds = (if p.is_ready then option_map (map (path_without p.prefix)) (told p.disk).binds else None);
    faults = (told p.disk).faults;
    earlier = (if p.is_ready then (told p.disk).earlier else (told p.disk).faults);
  }

  -- a disk that tells its files has as many bound as it tells
  pub under-told : ((d : D) → IfSome (told d).held (λ held. (told d).bound ≡ length held.files)) → (p : UnderPrefix D) → IfSome
      (told_under_prefix p).held (λ held. (told_under_prefix p).bound ≡ length held.files)
  under-told law p = by_ready p.is_ready (told p.disk).held (law p.disk) where
    stripped : (x : Option Held) → IfSome x (λ held. (told p.disk).bound ≡ length held.files) → IfSome (option_map
        (held_under p.prefix) x) (λ held. (told p.disk).bound ≡ length held.files)
    stripped None l = tt
    stripped (Some h) l = l ∙ sym (length-map h.files (file_without p.prefix))

    by_ready : (ready : Bool) (x : Option Held) → IfSome x (λ held. (told p.disk).bound ≡ length held.files)
        → IfSome (if ready then option_map (held_under p.prefix) x else None) (λ held. (told p.disk).bound ≡ length held.files)
    by_ready true x l = stripped x l
    by_ready false x l = tt
