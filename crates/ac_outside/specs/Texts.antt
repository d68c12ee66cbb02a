-- Texts by name.
use Rattle.std.specs.Prelude.{◌≡◌, ℕ, ◌&&◌, nat_le, nat_lt, List, [], ◌∷◌, ◌++◌, min, length, take, drop}
use Rattle.std.specs.Prelude.{find, slice_get, None, Some, unwrap_or, if◌then◌else◌}
use Rattle.std.specs.Option.{option_map}
use Rattle.std.specs.Str.{bytes_eq}
use Rattle.std.specs.declared.option.Option.{Option}
use Rattle.ac_outside.specs.declared.shelf.NamedBytes.{NamedBytes}

-- the first text with this name
abbrev pub text_of : List NamedBytes → List ℕ → Option (List ℕ)
text_of texts name = option_map (λ text. text.bytes) (find (λ text. bytes_eq text.name name) texts)

-- what is left of the text at a place, from one of its bytes on; past the last text stands the empty one
abbrev pub rest_at : List NamedBytes → ℕ → ℕ → List ℕ
rest_at texts place at = drop at (unwrap_or (option_map (λ text. text.bytes) (slice_get texts place)) [])

-- A read took as much of what was left as fits, and left the rest of the slice as it was.
pub record TakesFront (left left_after : Option (List ℕ)) (into into_after : List ℕ) (n : ℕ) : Type 0 where
  pub count : Some n ≡ option_map (λ rest. min (length into) (length rest)) left
  pub bytes : Some into_after ≡ option_map (λ rest. take n rest ++ drop n into) left
  pub after : left_after ≡ option_map (λ rest. drop n rest) left

-- Names that are noted in memory that was taken before: sixteen at most, each of at most 4,096 bytes. After one that does not go in none is
-- told.
abbrev pub with_name : Option (List (List ℕ)) → List ℕ → Option (List (List ℕ))
with_name None name = None
with_name (Some names) name = if nat_lt (length names) 16 && nat_le (length name) 4096 then Some (names ++ name ∷ []) else None
