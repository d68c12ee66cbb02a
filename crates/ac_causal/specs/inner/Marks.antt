-- The entries that the next one may follow, by their marks: their places counted from 1, and 0 for none.
use Rattle.std.specs.Prelude.{◌≡◌, ℕ, zero, suc, ◌+◌, ◌*◌, ◌<◌, ◌≤◌, max, List, [], ◌∷◌, ◌++◌, length, replicate, Bool, ◌==◌}
use Rattle.std.specs.Prelude.{Option, Some, None}
use Rattle.std.specs.Prelude.{slice_get, slice_set, slice_index, slice_index_or, if◌then◌else◌}
use Rattle.ac_base.specs.declared.entry.Event.{Event}
use Rattle.ac_base.specs.declared.entry.Event.TheVariants.{Offer, Withdraw, Know, Room, Got, Pass, Did, Reply}
use Rattle.ac_base.specs.declared.entry.Stamped.{Stamped}
use Rattle.ac_links.specs.Link.{link_of}

-- ---- one link: by number, the mark of the entry by which an offer stands as it does

-- the mark of the entry that the event answers
abbrev pub answered_mark : List ℕ → Event → ℕ
answered_mark marks (Offer l n payload) = 0
answered_mark marks (Withdraw l n) = 0
answered_mark marks (Know l n) = slice_index marks n
answered_mark marks (Room l n) = slice_index marks n
answered_mark marks (Got l n value) = slice_index marks n
answered_mark marks (Pass l n) = slice_index marks n
answered_mark marks (Did l n answer) = slice_index marks n
answered_mark marks (Reply l n answer) = slice_index marks n

abbrev pub link_marks_after : List ℕ → ℕ → Event → List ℕ
link_marks_after marks mark (Offer l n payload) = marks ++ mark ∷ []
link_marks_after marks mark (Withdraw l n) = slice_set marks n mark
link_marks_after marks mark (Know l n) = marks
link_marks_after marks mark (Room l n) = marks
link_marks_after marks mark (Got l n value) = slice_set marks n mark
link_marks_after marks mark (Pass l n) = slice_set marks n mark
link_marks_after marks mark (Did l n answer) = slice_set marks n mark
link_marks_after marks mark (Reply l n answer) = marks

-- ---- all parties and links

-- the mark of each party's last entry, and those of each link
pub record Marked : Type 0 where
  pub lasts : List ℕ
  pub links : List (List ℕ)

abbrev pub no_marks : ℕ → ℕ → Marked
no_marks links parties = record { lasts = replicate parties 0; links = replicate links [] }

abbrev pub marks_of : Marked → ℕ → List ℕ
marks_of m l = slice_index_or m.links l []

-- the mark of the last entry of the entry's party
abbrev pub last_mark : Marked → Stamped → ℕ
last_mark m e = slice_index m.lasts e.party

-- the mark of the entry that it answers
abbrev pub seen_mark : Marked → Stamped → ℕ
seen_mark m e = answered_mark (marks_of m (link_of e.entry.event)) e.entry.event

abbrev pub marked_after : Marked → ℕ → Stamped → Marked
marked_after m mark e = record {
  lasts = slice_set m.lasts e.party mark;
  links = slice_set m.links (link_of e.entry.event) (link_marks_after (marks_of m (link_of e.entry.event)) mark e.entry.event);
}

abbrev pub marked_by : Marked → ℕ → Option Stamped → Marked
marked_by m mark None = m
marked_by m mark (Some e) = marked_after m mark e

-- after the first so many entries
abbrev pub marked_at : List Stamped → Marked → ℕ → Marked
marked_at es first zero = first
marked_at es first (suc k) = marked_by (marked_at es first k) (suc k) (slice_get es k)

-- ---- the table of the vectors, one row for each entry

-- the count of a party in the row of that mark; 0 where there is no mark
abbrev pub count_at : ℕ → List ℕ → ℕ → ℕ → ℕ
count_at parties table zero p = 0
count_at parties table (suc place) p = slice_index table (place * parties + p)

abbrev pub ticked : Bool → ℕ → ℕ
ticked own n = if own then suc n else n

-- what stands in a new row: the greater of the counts in the rows of these two marks, and one more for the party that owns the row
abbrev pub new_count : ℕ → List ℕ → ℕ → ℕ → ℕ → ℕ → ℕ
new_count parties table party last seen p =
    ticked (p == party) (max (count_at parties table last p) (count_at parties table seen p))

-- so many places of a row more, that of an entry of this party, before which these two marks stand
pub record HasRow (parties party last seen : ℕ) (old new : List ℕ) (columns : ℕ) : Type 0 where
  pub row : List ℕ
  pub form : new ≡ old ++ row
  pub columns_are : length row ≡ columns
  pub each : (p : ℕ) → p < columns → slice_index row p ≡ new_count parties old party last seen p

-- the rows of the first so many entries
pub record IsTable (parties : ℕ) (first : Marked) (es : List Stamped) (rows : ℕ) (table : List ℕ) : Type 0 where
  pub length_is : length table ≡ rows * parties
  pub small : (i : ℕ) → slice_index table i ≤ rows
  pub row : (j p : ℕ) (e : Stamped) → j < rows → p < parties → slice_get es j ≡ Some e
      → slice_index table (j * parties + p)
      ≡ new_count parties table e.party (last_mark (marked_at es first j) e) (seen_mark (marked_at es first j) e) p
