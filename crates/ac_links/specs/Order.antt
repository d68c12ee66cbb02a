-- Entries with their parties, and a stable order of them by stamp.
use Rattle.std.specs.Prelude.{ℕ, ◌≤◌, List, [], ◌∷◌, Bool, ◌==◌, if◌then◌else◌, nat_le}
use Rattle.ac_base.specs.declared.entry.Entry.{Entry}
use Rattle.ac_base.specs.declared.entry.Stamped.{Stamped}
use Rattle.ac_links.specs.Link.{link_of}

abbrev pub stamp_of : Stamped → ℕ
stamp_of e = e.entry.stamp

-- the entries of a journal, which is that of party p
abbrev pub of_party : ℕ → List Entry → List Stamped
of_party p [] = []
of_party p (e ∷ es) = record { party = p; entry = e } ∷ of_party p es

-- the entry is about link l
abbrev pub is_of_link : ℕ → Stamped → Bool
is_of_link l e = link_of e.entry.event == l

-- x before the first whose key is not below its own
abbrev pub placed : {X : Type 0} → (X → ℕ) → X → List X → List X
placed key x [] = x ∷ []
placed key x (y ∷ ys) = if nat_le (key x) (key y) then x ∷ y ∷ ys else y ∷ placed key x ys

-- in order of the key, those of one key as they stood
abbrev pub in_order : {X : Type 0} → (X → ℕ) → List X → List X
in_order key [] = []
in_order key (x ∷ xs) = placed key x (in_order key xs)

-- each key is at least n
abbrev pub AllFrom : {X : Type 0} → (X → ℕ) → ℕ → List X → Type 0
AllFrom key n [] = Unit {0}
AllFrom key n (x ∷ xs) = (n ≤ key x) × AllFrom key n xs

-- no key is below one before it
abbrev pub Rises : {X : Type 0} → (X → ℕ) → List X → Type 0
Rises key [] = Unit {0}
Rises key (x ∷ xs) = AllFrom key (key x) xs × Rises key xs
