-- Which thread of a core runs, which are ready to, and how these change.
use Rattle.std.specs.Prelude.{ℕ, ◌+◌, ◌-◌, List, [], ◌∷◌, ◌++◌, Option, Some, None}
use Rattle.work_item.specs.declared.ids.Item.{Item}

-- the ready threads stand in the order in which they will run; the spare is for how many more there is room
pub record Schedule : Type 0 where
  pub running : Option Item
  pub ready : List Item
  pub spare : ℕ

-- ---- a thread becomes ready: it will run after all others that are, or before them

abbrev pub at_back : Schedule → Item → Schedule
at_back s t = record s { ready = s.ready ++ t ∷ []; spare = s.spare - 1 }

abbrev pub at_front : Schedule → Item → Schedule
at_front s t = record s { ready = t ∷ s.ready; spare = s.spare - 1 }

-- ---- the running thread stops, and none runs

abbrev pub suspended : Schedule → Schedule
suspended s = record s { running = None }

-- it stays ready, after all others
abbrev pub yielded_by : Schedule → Option Item → Schedule
yielded_by s None = s
yielded_by s (Some t) = suspended (at_back s t)

abbrev pub yielded : Schedule → Schedule
yielded s = yielded_by s s.running

-- ---- the running thread stops and stays ready, before all others, and another one runs

abbrev pub left_by : Schedule → Option Item → Item → Schedule
left_by s None next = s
left_by s (Some t) next = record (at_front s t) { running = Some next }

abbrev pub yielded_to : Schedule → Item → Schedule
yielded_to s next = left_by s s.running next

-- ---- no thread runs, and the front of the ready ones does next

abbrev pub front : List Item → Option Item
front [] = None
front (t ∷ ready) = Some t

abbrev pub dispatched_from : Schedule → List Item → Schedule
dispatched_from s [] = s
dispatched_from s (t ∷ ready) = record { running = Some t; ready = ready; spare = s.spare + 1 }

abbrev pub dispatched : Schedule → Schedule
dispatched s = dispatched_from s s.ready
