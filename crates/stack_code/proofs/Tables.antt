-- What indexing reads, as `slice_get` says it.
-- Reading the table gives a default past its end; within its length the two say the same.
use Rattle.std.proofs.Common.{◌≡◌, ℕ, ◌<◌, List, length, Option, Some, None, ap, ◌∙◌}
use Rattle.std.specs.Prelude.{slice_get, get_or}
use Rattle.std.proofs.lemmas.Option.{slice_get_read}
use Rattle.stack_code.specs.declared.shape.Shape.{Shape}
use Rattle.stack_code.specs.Kept.{Has}

pub none_at : (table : List (Option Shape)) (at n : ℕ) (x : Option Shape) → n ≡ length table → at < n → x ≡ get_or table at x → x ≡ None → slice_get table at ≡ Some None
none_at table at n x l lt e none = slice_get_read table n at x l lt e ∙ ap Some none

pub some_at : (table : List (Option Shape)) (at n : ℕ) (x : Option Shape) (s : Shape) → n ≡ length table → at < n → x ≡ get_or table at x → x ≡ Some s → Has table at s
some_at table at n x s l lt e some = slice_get_read table n at x l lt e ∙ ap Some some
