-- A history over its files, entry by entry.
use Rattle.std.specs.Prelude.{◌≡◌, ℕ, List, [], ◌∷◌, Bool, true, ◌&&◌}
use Rattle.ac_base.specs.declared.entry.Stamped.{Stamped}
use Rattle.ac_history.specs.History.{Past, fits, after, start}
use Rattle.ac_history.specs.Files.{padded, files_done, serves, Deed, contents, deeds_at}

-- the links, the stamps and the files after the entries so far
pub record HistoryState : Type 0 where
  pub past : Past
  pub files : List (List ℕ)

-- nothing has happened, and these are the files
abbrev pub begun : List ℕ → List ℕ → ℕ → List (List ℕ) → HistoryState
begun capacities widths cores files = record { past = start capacities widths cores; files = padded files }

abbrev pub serves_all : List (List ℕ) → List Deed → Bool
serves_all files [] = true
serves_all files (d ∷ ds) = serves files d.payload d.answer && serves_all (files_done files d.payload d.answer) ds

-- the entry may come next, and if it is a read that was done, it was given what stands there
abbrev pub can_follow : HistoryState → Stamped → Bool
can_follow h e = fits h.past e && serves_all h.files (deeds_at h.past e)

abbrev pub state_after : HistoryState → Stamped → HistoryState
state_after h e = record { past = after h.past e; files = contents h.files (deeds_at h.past e) }

-- each entry can follow those before it
abbrev pub IsHistory : HistoryState → List Stamped → Type 0
IsHistory h [] = Unit {0}
IsHistory h (e ∷ es) = (can_follow h e ≡ true) × IsHistory (state_after h e) es

-- the state after all of them
abbrev pub after_all : HistoryState → List Stamped → HistoryState
after_all h [] = h
after_all h (e ∷ es) = after_all (state_after h e) es
