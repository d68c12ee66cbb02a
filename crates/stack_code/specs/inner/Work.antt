-- What the search for shapes knows.
use Rattle.std.specs.Prelude.{◌≡◌, ℕ, suc, ◌+◌, ◌<◌, ◌≤◌, ◌⊎◌, Bool, true, false, List, [], ◌∷◌, length, Option, Some, None, slice_get}
use Rattle.stack_code.specs.declared.parts.Entered.{Entered}
use Rattle.stack_code.specs.declared.shape.Shape.{Shape}
use Rattle.stack_code.specs.declared.shape.Leads.{Leads}
use Rattle.stack_code.specs.Parts.{Parts, Begins}
use Rattle.stack_code.specs.Shapes.{first, LeadsTo}
use Rattle.stack_code.specs.Valid.{Fits, Reaches, IsShaped}
use Rattle.stack_code.specs.Kept.{Has, IsTable}

-- found, and not followed yet
abbrev pub IsOpen : List ℕ → ℕ → ℕ → Type 0
IsOpen found next at = (k : ℕ) × ((next ≤ k) × (slice_get found k ≡ Some at))

-- followed
pub record IsClosed (code : Parts) (table : List (Option Shape)) (at : ℕ) (s : Shape) : Type 0 where
  pub fits : Fits code at s
  pub leads : (to : ℕ) (t : Shape) → LeadsTo fits.leads to t → Has table to t

abbrev pub nones : List (Option Shape) → ℕ
nones [] = 0
nones (None ∷ table) = suc (nones table)
nones (Some s ∷ table) = nones table

-- by address, its shape where one was found; the addresses that were found, in order; and how many of them are followed
pub record IsWork (code : Parts) (table : List (Option Shape)) (found : List ℕ) (next : ℕ) : Type 0 where
  pub long : length table ≡ length code.instrs
  pub reached : (at : ℕ) (s : Shape) → Has table at s → Reaches code at s
  pub held : (k at : ℕ) → slice_get found k ≡ Some at → (s : Shape) × Has table at s
  pub state : (at : ℕ) (s : Shape) → Has table at s → IsOpen found next at ⊎ IsClosed code table at s
  pub room : length found + nones table ≡ length table
  pub behind : next ≤ length found

abbrev pub Extends : List (Option Shape) → List (Option Shape) → Type 0
Extends table table' = (at : ℕ) (s : Shape) → Has table at s → Has table' at s

abbrev pub Grows : List ℕ → List ℕ → Type 0
Grows found found' = (k at : ℕ) → slice_get found k ≡ Some at → slice_get found' k ≡ Some at

pub record IsMet (code : Parts) (table table' : List (Option Shape)) (found found' : List ℕ) (next to : ℕ) (t : Shape) : Type 0 where
  pub work : IsWork code table' found' next
  pub has : Has table' to t
  pub more : Extends table table'
  pub grows : Grows found found'

-- after a way to that address; false where it makes the code invalid
abbrev pub Met : Parts → List (Option Shape) → List (Option Shape) → List ℕ → List ℕ → ℕ → ℕ → Shape → Bool → Type 0
Met code table table' found found' next to t true = IsMet code table table' found found' next to t
Met code table table' found found' next to t false = IsShaped code → ⊥

pub record IsFollowed (code : Parts) (table table' : List (Option Shape)) (found found' : List ℕ) (next : ℕ) (l : Leads) : Type 0 where
  pub work : IsWork code table' found' next
  pub has : (to : ℕ) (t : Shape) → LeadsTo l to t → Has table' to t
  pub more : Extends table table'
  pub grows : Grows found found'

-- after all ways of an instruction
abbrev pub Followed : Parts → List (Option Shape) → List (Option Shape) → List ℕ → List ℕ → ℕ → Leads → Bool → Type 0
Followed code table table' found found' next l true = IsFollowed code table table' found found' next l
Followed code table table' found found' next l false = IsShaped code → ⊥

pub record IsTurned (code : Parts) (table table' : List (Option Shape)) (found' : List ℕ) (next : ℕ) : Type 0 where
  pub work : IsWork code table' found' (next + 1)
  pub more : Extends table table'

-- after one address more
abbrev pub Turned : Parts → List (Option Shape) → List (Option Shape) → List ℕ → ℕ → Bool → Type 0
Turned code table table' found' next true = IsTurned code table table' found' next
Turned code table table' found' next false = IsShaped code → ⊥

-- the first addresses of the functions that the first cores enter
abbrev pub HasEntries : Parts → List (Option Shape) → ℕ → Type 0
HasEntries code table cores = (core : ℕ) (function : Entered) (b : Begins code core function) → core < cores
    → Has table function.at (first b.entry function)

pub record IsBegun (code : Parts) (table : List (Option Shape)) (found : List ℕ) (next : ℕ) : Type 0 where
  pub work : IsWork code table found next
  pub entries : HasEntries code table (length code.entries)

-- after all entries
abbrev pub Begun : Parts → List (Option Shape) → List ℕ → Bool → Type 0
Begun code table found true = IsBegun code table found 0
Begun code table found false = IsShaped code → ⊥

-- what is found where the code is shaped
pub record IsFound (code : Parts) (table : List (Option Shape)) : Type 0 where
  pub shaped : IsShaped code
  pub tabled : IsTable code table
