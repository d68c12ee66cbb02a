-- The entries of all journals in one list, by stamp, then party, then place.
use Rattle.std.specs.Prelude.{ℕ, suc, List, [], ◌∷◌, ◌++◌}
use Rattle.ac_base.specs.declared.entry.Entry.{Entry}
use Rattle.ac_base.specs.declared.entry.Stamped.{Stamped}
use Rattle.ac_base.specs.Log.{Log}
use Rattle.ac_links.specs.Order.{stamp_of, of_party, in_order}

-- the entries of the journals one after the other, of which the first is that of party p
abbrev pub all_from : ℕ → List (List Entry) → List Stamped
all_from p [] = []
all_from p (j ∷ js) = of_party p j ++ all_from (suc p) js

-- the merged history
abbrev pub merged : List (List Entry) → List Stamped
merged js = in_order stamp_of (all_from 0 js)

abbrev pub entries_of : Log → List Entry
entries_of j = j.entries
