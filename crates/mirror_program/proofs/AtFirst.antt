-- The mirror that is made of two devices, each under its prefix, is the mirror before its first call.
use Rattle.std.proofs.Common.{◌≡◌, ℕ, Bool, true, List, [], replicate, ap, ◌∙◌}
use Rattle.ac_mirror_disk.specs.Mirrors.{Mirrored}
use Rattle.ac_mirror_disk.specs.Prefixes.{UnderPrefix}
use Rattle.mirror_program.specs.Mirroring.{prefix_at, mirror_at_first}

abbrev under : {D : Type 0} → D → List ℕ → UnderPrefix D
under d p = record { disk = d; prefix = p; is_ready = true }

module _ {A B : Type 0} where
  -- a mirror of these two disks, as it is made
  abbrev pub mirror_of : UnderPrefix A → UnderPrefix B → Bool → Mirrored (UnderPrefix A) (UnderPrefix B)
  mirror_of a b is_alike = record {
    a = record { disk = a; lens = replicate 16 0; in_use = true };
    b = record { disk = b; lens = replicate 16 0; in_use = true };
    paths = [];
    binds = [];
    is_ready = true;
    is_alike = is_alike;
    is_even = true;
    calls = 0;
    faults = 0;
    earlier = 0;
  }

  pub made_at_first : (words : List (List ℕ)) (a : A) (b : B) (first : UnderPrefix A) (second : UnderPrefix B) (p q : List ℕ) (is_alike : Bool) (m : Mirrored (UnderPrefix A) (UnderPrefix B))
      → m ≡ mirror_of first second is_alike → first ≡ under a p → second ≡ under b q → p ≡ prefix_at words 0 → q ≡ prefix_at words 1 → m ≡ mirror_at_first words a b is_alike
  made_at_first words a b first second p q is_alike m e one other ep eq =
      e ∙ ap (λ x. mirror_of x second is_alike) (one ∙ ap (under a) ep) ∙ ap (λ x. mirror_of (under a (prefix_at words 0)) x is_alike) (other ∙ ap (under b) eq)
