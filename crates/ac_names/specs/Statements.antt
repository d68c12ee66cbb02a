-- What statements declare, the slots that they take in their frame, and the names after them.
use Rattle.std.specs.Prelude.{ℕ, ℤ, pos, negsuc, ◌+◌, List, [], ◌∷◌, Option, None, Some, nat_le, if◌then◌else◌}
use Rattle.ac_tree.specs.declared.stmt.Stmt.{Stmt}
use Rattle.ac_tree.specs.declared.stmt.Stmt.TheFolds.{fold-Stmt}
use Rattle.ac_tree.specs.declared.stmt.Stmt.TheOpen.{Stmt-F}
use Rattle.ac_names.specs.declared.meaning.Meaning.{Meaning}
use Rattle.ac_names.specs.declared.meaning.Meaning.TheVariants as m
use Rattle.ac_names.specs.declared.names.Names.{Names}
use Rattle.ac_names.specs.Scopes.{Declaration, declared, closed}

-- what a statement declares in the scope round it: an int, or an array of some length
pub record Named : Type 0 where
  pub name : List ℕ
  pub len : Option ℕ

-- an array takes as many slots as its size, where that may be its size
abbrev pub array_len : ℤ → ℕ
array_len (pos n) = if nat_le n 4096 then n else 0
array_len (negsuc n) = 0

abbrev pub meaning_at : Option ℕ → ℕ → ℕ → Meaning
meaning_at None depth slot = m.Local depth slot
meaning_at (Some len) depth slot = m.LocalArray depth slot len

abbrev pub declared_at : Option Named → ℕ → ℕ → List (List Declaration) → List (List Declaration)
declared_at None depth slot scopes = scopes
declared_at (Some n) depth slot scopes = declared n.name (meaning_at n.len depth slot) scopes

-- ---- single changes of the names at a place

abbrev pub opened : Names → Names
opened n = record { scopes = [] ∷ n.scopes; labels = n.labels; slot = n.slot }

abbrev pub shut : Names → Names
shut n = record { scopes = closed n.scopes; labels = n.labels; slot = n.slot }

abbrev pub moved : Names → ℕ → Names
moved n words = record { scopes = n.scopes; labels = n.labels; slot = n.slot + words }

abbrev pub declared_in : Option Named → ℕ → ℕ → Names → Names
declared_in named depth slot n = record { scopes = declared_at named depth slot n.scopes; labels = n.labels; slot = n.slot }

-- each `do` has a scope of labels
abbrev pub labelled : Option (List ℕ) → ℕ → ℕ → List (List Declaration) → List (List Declaration)
labelled None depth slot labels = [] ∷ labels
labelled (Some name) depth slot labels = declared name (m.Label depth slot) ([] ∷ labels)

abbrev pub in_do : Option (List ℕ) → ℕ → Names → Names
in_do label depth n = record { scopes = n.scopes; labels = labelled label depth n.slot n.labels; slot = n.slot + 1 }

-- an async body has a frame of its own
abbrev pub in_async : Names → Names
in_async n = record { scopes = n.scopes; labels = n.labels; slot = 0 }

-- ---- statements

-- a statement: what it declares in the scope round it, the slots that it takes, and whatever else is told of it
pub data Part (X : Type 0) : Type 0 where
  part : Option Named → ℕ → X → Part X

abbrev pub part_names : {X : Type 0} → Part X → Option Named
part_names (part names words gives) = names

abbrev pub part_words : {X : Type 0} → Part X → ℕ
part_words (part names words gives) = words

abbrev pub part_gives : {X : Type 0} → Part X → X
part_gives (part names words gives) = gives

-- the names after a statement of a list in so many async bodies: a name is visible from the end of its declaration
abbrev pub listed : {X : Type 0} → Part X → ℕ → Names → Names
listed p depth n = record { scopes = declared_at (part_names p) depth n.slot n.scopes; labels = n.labels; slot = n.slot + part_words p }

abbrev pub names_after : {X : Type 0} → List (Part X) → ℕ → Names → Names
names_after [] depth n = n
names_after (p ∷ ps) depth n = names_after ps depth (listed p depth n)

abbrev pub sum_words : {X : Type 0} → List (Part X) → ℕ
sum_words [] = 0
sum_words (p ∷ ps) = part_words p + sum_words ps

abbrev pub some_words : {X : Type 0} → Option (Part X) → ℕ
some_words None = 0
some_words (Some p) = part_words p

abbrev pub some_listed : {X : Type 0} → Option (Part X) → ℕ → Names → Names
some_listed None depth n = n
some_listed (Some p) depth n = listed p depth n

-- what a statement declares, by its form
abbrev pub names_step : {X : Type 0} → Stmt-F (Part X) → Option Named
names_step (Stmt-F.Int at name value) = Some (record { name = name; len = None })
names_step (Stmt-F.Array at name size) = Some (record { name = name; len = Some (array_len size) })
names_step _ = None

-- the slots that a statement takes, by its form and those that its parts take
abbrev pub words_step : {X : Type 0} → Stmt-F (Part X) → ℕ
words_step (Stmt-F.Block at body) = sum_words body
words_step (Stmt-F.Int at name value) = 1
words_step (Stmt-F.Array at name size) = array_len size
words_step (Stmt-F.If at test body other) = part_words body + some_words other
words_step (Stmt-F.While at test body) = part_words body
words_step (Stmt-F.For at init test next body) = (some_words init + some_words next) + part_words body
words_step (Stmt-F.Do at label body) = 1 + sum_words body
words_step _ = 0

-- what is told of a statement, by its form
module _ (X : Type 0) (gives : Stmt-F (Part X) → X) where
  abbrev pub part_step : Stmt-F (Part X) → Part X
  part_step x = part (names_step x) (words_step x) (gives x)

  abbrev pub part_all : Stmt → Part X
  part_all = fold-Stmt (Part X) part_step

-- ---- where nothing else is told

abbrev pub Shape : Type 0
Shape = Part (Unit {0})

abbrev pub no_more : Stmt-F Shape → Unit {0}
no_more x = tt

abbrev pub shape_step : Stmt-F Shape → Shape
shape_step = part_step (Unit {0}) no_more

abbrev pub shape : Stmt → Shape
shape = part_all (Unit {0}) no_more

abbrev pub declares : Stmt → Option Named
declares x = part_names (shape x)
