-- What contracts see of the threads that do not run.
use Rattle.std.specs.Prelude.{◌≡◌, ℕ, List, Option, Some, None, Bool, true, false, count_by, option_map, slice_set, slice_index_or}
use Rattle.work_item.specs.declared.ids.Item.{Item}
use Rattle.code_meaning.specs.Machine.{Thread, given, nobody}
use Rattle.thread_table.specs.declared.given.Given.{Given}

-- the threads at their numbers, and which of them have not ended, whether a value that was given is not yet on the operands of its thread,
-- and for how many more threads there is room
pub record Table : Type 0 where
  pub threads : List Thread
  pub lives : List Bool
  pub pending : Bool
  pub spare : ℕ

-- the thread has started, and has not ended
abbrev pub HasPlace : Table → Item → Type 0
HasPlace t item = slice_index_or t.lives item.number false ≡ true

-- how many have started, and have not ended
abbrev pub living : Table → ℕ
living t = count_by (λ (b : Bool). b) t.lives

-- one that has ended is nobody
abbrev pub or_nobody : Option Thread → Thread
or_nobody None = nobody
or_nobody (Some h) = h

-- the thread has its value on top of its operands, where it has not ended
abbrev pub with_given : List (Option Thread) → Option Given → List (Option Thread)
with_given kept None = kept
with_given kept (Some g) =
    slice_set kept g.item.number (option_map (given g.value) (slice_index_or kept g.item.number None))
