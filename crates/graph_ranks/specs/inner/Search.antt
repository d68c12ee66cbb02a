-- What a search of a graph knows.
use Rattle.std.specs.Prelude.{◌≡◌, ℕ, suc, ◌+◌, ◌*◌, ◌<◌, ◌≤◌, Bool, true, false, List, [], ◌∷◌, length, Option, Some, None, slice_get}
use Rattle.graph_ranks.specs.declared.graph.Ways.{Ways}
use Rattle.graph_ranks.specs.declared.search.Mark.{Mark}
use Rattle.graph_ranks.specs.declared.search.Mark.TheVariants.{New, Open, Done}
use Rattle.graph_ranks.specs.declared.search.Look.{Look}
use Rattle.graph_ranks.specs.declared.search.Look.TheVariants.{Closed, Cycle, Fresh}
use Rattle.graph_ranks.specs.Graph.{Goes, HasCycle}

abbrev pub weight : Mark → ℕ
weight New = 2
weight (Open place) = 1
weight (Done rank) = 0

-- what there is still to do
abbrev pub left : List Mark → ℕ
left [] = 0
left (m ∷ ms) = weight m + left ms

abbrev pub HasDone : List Mark → ℕ → Type 0
HasDone ms b = (q : ℕ) × (slice_get ms b ≡ Some (Done q))

abbrev pub HasAllDone : List Ways → List Mark → ℕ → Type 0
HasAllDone g ms a = (b : ℕ) → Goes g a b → HasDone ms b

-- the rank of a point that is done is below the next one, and above those of all to which it leads
pub record IsDone (g : List Ways) (ms : List Mark) (count a r : ℕ) : Type 0 where
  pub below : r < count
  pub falls : (b : ℕ) → Goes g a b → (q : ℕ) × ((slice_get ms b ≡ Some (Done q)) × (q < r))

pub record IsSearch (g : List Ways) (ms : List Mark) (path : List ℕ) (count : ℕ) : Type 0 where
  pub long : length ms ≡ length g
  pub linked : (k a b : ℕ) → slice_get path k ≡ Some a → slice_get path (suc k) ≡ Some b → Goes g a b
  pub placed : (a k : ℕ) → slice_get ms a ≡ Some (Open k) → slice_get path k ≡ Some a
  pub opened : (k a : ℕ) → slice_get path k ≡ Some a → slice_get ms a ≡ Some (Open k)
  pub done : (a r : ℕ) → slice_get ms a ≡ Some (Done r) → IsDone g ms count a r
  pub room : count + left ms ≤ 2 * length g

abbrev pub IsTop : List ℕ → ℕ → Type 0
IsTop path a = (k : ℕ) × ((length path ≡ suc k) × (slice_get path k ≡ Some a))

-- the point may stand next on the path
abbrev pub Follows : List Ways → List ℕ → ℕ → Type 0
Follows g path a = (k b : ℕ) → length path ≡ suc k → slice_get path k ≡ Some b → Goes g b a

-- no more points are new than before
abbrev pub Keeps : List Mark → List Mark → Type 0
Keeps ms ms' = (a : ℕ) → slice_get ms' a ≡ Some New → slice_get ms a ≡ Some New

abbrev pub IsClosed : List Mark → Option ℕ → Type 0
IsClosed ms None = Unit {0}
IsClosed ms (Some b) = HasDone ms b

-- what stands at the end of a way
abbrev pub Seen : List Mark → Option ℕ → Look → Type 0
Seen ms to Closed = IsClosed ms to
Seen ms to Cycle = (b : ℕ) × ((k : ℕ) × ((to ≡ Some b) × (slice_get ms b ≡ Some (Open k))))
Seen ms to (Fresh b) = (to ≡ Some b) × (slice_get ms b ≡ Some New)

pub record IsTurned (g : List Ways) (ms ms' : List Mark) (path' : List ℕ) (count' : ℕ) : Type 0 where
  pub search : IsSearch g ms' path' count'
  pub less : left ms' < left ms
  pub keeps : Keeps ms ms'

-- after one way or point more; false where there is a cycle
abbrev pub Turned : List Ways → List Mark → List Mark → List ℕ → ℕ → Bool → Type 0
Turned g ms ms' path' count' true = IsTurned g ms ms' path' count'
Turned g ms ms' path' count' false = HasCycle g

-- after the path has become empty
abbrev pub Finished : List Ways → List Mark → List Mark → List ℕ → ℕ → Bool → Type 0
Finished g ms ms' path' count' true = IsSearch g ms' path' count' × (Keeps ms ms' × (path' ≡ []))
Finished g ms ms' path' count' false = HasCycle g

pub record IsRooted (g : List Ways) (ms ms' : List Mark) (path' : List ℕ) (count' root : ℕ) : Type 0 where
  pub search : IsSearch g ms' path' count'
  pub keeps : Keeps ms ms'
  pub empty : path' ≡ []
  pub here : slice_get ms' root ≡ Some New → ⊥

-- after all that a point leads to is searched
abbrev pub Rooted : List Ways → List Mark → List Mark → List ℕ → ℕ → ℕ → Bool → Type 0
Rooted g ms ms' path' count' root true = IsRooted g ms ms' path' count' root
Rooted g ms ms' path' count' root false = HasCycle g

abbrev pub rank_in : Mark → ℕ
rank_in New = 0
rank_in (Open place) = 0
rank_in (Done rank) = rank
