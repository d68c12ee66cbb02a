-- The table of the frames that live, with the counts that it keeps.
use Rattle.std.specs.Prelude.{◌≡◌, ℕ, ◌+◌, ◌<◌, ◌^◌, List, length, Option, Some, None}
use Rattle.std.specs.Prelude.{true, slice_index_or, count_by, ℤ}
use Rattle.work_item.specs.Store.{Frame, is_parent, all_words}

abbrev pub at : List (Option Frame) → ℕ → Option Frame
at frames number = slice_index_or frames number None

-- how many frames that live lie directly in that one
abbrev pub children_of : List (Option Frame) → ℕ → ℕ
children_of frames number = count_by (is_parent number) frames

-- a frame whose end has come and which still lives has one that lives in it
abbrev pub IsSettled : List (Option Frame) → Type 0
IsSettled frames = (number : ℕ) (x : Frame) → at frames number ≡ Some x → x.over ≡ true → 0 < children_of frames number

-- what always holds of a core's globals and frames
pub record IsWhole (globals : List ℤ) (frames : List (Option Frame)) : Type 0 where
  pub settled : IsSettled frames
  pub fits : length globals + all_words frames < 2 ^ 64
