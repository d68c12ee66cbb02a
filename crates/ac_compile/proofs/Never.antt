-- What is none only where something fails is not none where it holds.
-- So that `program_code` has a code where `Code::make` says that it gives none only for parts that are not valid.
use Rattle.std.proofs.Common.{◌≡◌, Option, Some, None}
use Rattle.std.specs.Prelude.{IfNone}

pub never_none : (A : Type 0) (made : Option A) (P : Type 0) → made ≡ None → IfNone made (P → ⊥) → P → ⊥
never_none A None P e h p = h p
never_none A (Some x) P e h p = cc
