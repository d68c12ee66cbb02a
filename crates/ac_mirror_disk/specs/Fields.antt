-- A mirror, from its fields.
use Rattle.std.specs.Prelude.{map, string_bytes}
use Rattle.ac_mirror_disk.specs.declared.mirror.MirrorDisk.TheInside.{Inside}
use Rattle.ac_mirror_disk.specs.Mirrors.{Mirrored}

module _ {A B : Type 0} where
  abbrev pub mirrored : Inside A B → Mirrored A B
  mirrored s = record {
    a = s.a;
    b = s.b;
    paths = map string_bytes s.paths.bound.items;
    binds = map string_bytes s.paths.asked.items;
    is_ready = s.is_ready;
    is_alike = s.is_alike;
    is_even = s.is_even;
    calls = s.counts.calls;
    faults = s.counts.faults;
    earlier = s.counts.earlier;
  }
