-- What Steps shows, in the forms that `open`, `close` and `turn` ask for: of the marks and the path that they leave behind, with the top of the path
-- for its last point, and by what was seen at the end of each of the two ways.
use Rattle.std.proofs.Common.{◌≡◌, ℕ, suc, ◌+◌, ◌<◌, ◌⊎◌, inl, inr, List, [], ◌∷◌, ◌++◌, length, Option, Some, None, refl, sym, ap, ◌∙◌, subst, arith, length-append}
use Rattle.std.specs.Prelude.{slice_get, slice_set, slice_index_or, MatchOption}
use Rattle.graph_ranks.specs.declared.graph.Ways.{Ways}
use Rattle.graph_ranks.specs.declared.search.Mark.{Mark}
use Rattle.graph_ranks.specs.declared.search.Mark.TheVariants.{New, Open, Done}
use Rattle.graph_ranks.specs.declared.search.Look.TheVariants.{Closed, Cycle, Fresh}
use Rattle.graph_ranks.specs.Graph.{Goes, HasCycle, IsInside}
use Rattle.graph_ranks.specs.inner.Search.{left, HasAllDone, IsSearch, IsTop, Follows, Keeps, IsClosed, Seen}
use Rattle.graph_ranks.proofs.Places.{end_here, within, got}
use Rattle.std.proofs.lemmas.Option.{slice_get-get_or}
use Rattle.graph_ranks.proofs.Steps.{open_search, open_less, open_keeps, open_here, close_search, close_less, close_keeps, cycle, ways_done}

pub opened_at : (g : List Ways) (ms : List Mark) (path path' : List ℕ) (count a d : ℕ) → IsSearch g ms path count → slice_get ms a ≡ Some New → Follows g path a → path' ≡ path ++ a ∷ []
    → d ≡ length path → IsSearch g (slice_set ms a (Open d)) path' count
opened_at g ms path path' count a d s n f p e = rw (p, e) (open_search g ms path count a s n f)

pub less_at : (g : List Ways) (ms : List Mark) (path : List ℕ) (count a d : ℕ) → IsSearch g ms path count → slice_get ms a ≡ Some New → Follows g path a → d ≡ length path
    → left (slice_set ms a (Open d)) < left ms
less_at g ms path count a d s n f e = rw e (open_less g ms path count a s n f)

pub keeps_at : (g : List Ways) (ms : List Mark) (path : List ℕ) (count a d : ℕ) → IsSearch g ms path count → slice_get ms a ≡ Some New → Follows g path a → d ≡ length path
    → Keeps ms (slice_set ms a (Open d))
keeps_at g ms path count a d s n f e = rw e (open_keeps g ms path count a s n f)

pub here_at : (g : List Ways) (ms : List Mark) (path : List ℕ) (count a d : ℕ) → IsSearch g ms path count → slice_get ms a ≡ Some New → Follows g path a → d ≡ length path
    → slice_get (slice_set ms a (Open d)) a ≡ Some New → ⊥
here_at g ms path count a d s n f e = rw e (open_here g ms path count a s n f)

top_is : (path front : List ℕ) (a v : ℕ) → IsTop path a → path ≡ front ++ v ∷ [] → path ≡ front ++ a ∷ []
top_is path front a v t e =
    let len : length (front ++ v ∷ []) ≡ length front + length (v ∷ []) = length-append front (v ∷ []) in
    let l : length path ≡ length (front ++ v ∷ []) = ap length e in
    let p : length path ≡ suc t.0 = t.1.0 in
    let k : t.0 ≡ length front = omega arith in
    let x : slice_get (front ++ v ∷ []) (length front) ≡ Some a = subst (λ z. slice_get z (length front) ≡ Some a) e (subst (λ z. slice_get path z ≡ Some a) k t.1.1) in
    let y : Some v ≡ Some a = sym (end_here front v) ∙ x in
    let va : v ≡ a = cc in
    e ∙ ap (λ z. front ++ z ∷ []) va

pub top_open : (g : List Ways) (ms : List Mark) (path : List ℕ) (count a : ℕ) → IsSearch g ms path count → IsTop path a → a < length ms
top_open g ms path count a s t = within ms a (Open t.0) (s.opened t.0 a t.1.1)

pub closed_at : (g : List Ways) (ms : List Mark) (path front : List ℕ) (count a v : ℕ) → IsSearch g ms path count → IsTop path a → HasAllDone g ms a → path ≡ front ++ v ∷ []
    → IsSearch g (slice_set ms a (Done count)) front (count + 1)
closed_at g ms path front count a v s t c e =
    let p = top_is path front a v t e in
    close_search g ms front count a (subst (λ z. IsSearch g ms z count) p s) c

pub closed_less : (g : List Ways) (ms : List Mark) (path front : List ℕ) (count a v : ℕ) → IsSearch g ms path count → IsTop path a → HasAllDone g ms a → path ≡ front ++ v ∷ []
    → left (slice_set ms a (Done count)) < left ms
closed_less g ms path front count a v s t c e =
    let p = top_is path front a v t e in
    close_less g ms front count a (subst (λ z. IsSearch g ms z count) p s) c

pub closed_keeps : (g : List Ways) (ms : List Mark) (path front : List ℕ) (count a v : ℕ) → IsSearch g ms path count → IsTop path a → HasAllDone g ms a → path ≡ front ++ v ∷ []
    → Keeps ms (slice_set ms a (Done count))
closed_keeps g ms path front count a v s t c e =
    let p = top_is path front a v t e in
    close_keeps g ms front count a (subst (λ z. IsSearch g ms z count) p s) c

pub follows_by : (g : List Ways) (path : List ℕ) (a b : ℕ) (w : Ways) → IsTop path a → slice_get g a ≡ Some w → (w.one ≡ Some b) ⊎ (w.other ≡ Some b) → Follows g path b
follows_by g path a b w t h e k x len got =
    let l : length path ≡ suc t.0 = t.1.0 in
    let kk : k ≡ t.0 = omega arith in
    let same : Some x ≡ Some a = sym got ∙ subst (λ z. slice_get path z ≡ Some a) (sym kk) t.1.1 in
    let xa : a ≡ x = cc in
    subst (λ z. Goes g z b) xa (w, h, e)

pub top_inside : (g : List Ways) (ms : List Mark) (path : List ℕ) (count a : ℕ) → IsSearch g ms path count → IsTop path a → a < length g
top_inside g ms path count a s t = let h : a < length ms = top_open g ms path count a s t in let l : length ms ≡ length g = s.long in omega arith

inside_opt : (o : Option ℕ) (n : ℕ) → ((b : ℕ) → o ≡ Some b → b < n) → MatchOption o (Unit {0}) (λ b. b < n)
inside_opt None n h = tt
inside_opt (Some b) n h = h b refl

module _ (g : List Ways) (ms ms' : List Mark) (path : List ℕ) (count a : ℕ) (d : Ways) (s : IsSearch g ms path count) (t : IsTop path a) (e : ms' ≡ ms) where
  abbrev w : Ways
  w = slice_index_or g a d

  pub w_is : slice_get g a ≡ Some w
  w_is = slice_get-get_or g a d (top_inside g ms path count a s t)

  long_is : length ms' ≡ length g
  long_is = ap length e ∙ s.long

  pub inside_one : IsInside g → MatchOption w.one (Unit {0}) (λ b. b < length ms')
  inside_one i = inside_opt w.one (length ms') (λ b h. let x : b < length g = i a b (w, w_is, inl h) in let l : length ms' ≡ length g = long_is in omega arith)

  pub inside_other : IsInside g → MatchOption w.other (Unit {0}) (λ b. b < length ms')
  inside_other i = inside_opt w.other (length ms') (λ b h. let x : b < length g = i a b (w, w_is, inr h) in let l : length ms' ≡ length g = long_is in omega arith)

  pub cycle_one : Seen ms' w.one Cycle → HasCycle g
  cycle_one h = cycle g ms path count a h.0 h.1.0 s t (w, w_is, inl h.1.1.0) (subst (λ z. slice_get z h.0 ≡ Some (Open h.1.0)) e h.1.1.1)

  pub cycle_other : Seen ms' w.other Cycle → HasCycle g
  cycle_other h = cycle g ms path count a h.0 h.1.0 s t (w, w_is, inr h.1.1.0) (subst (λ z. slice_get z h.0 ≡ Some (Open h.1.0)) e h.1.1.1)

  pub follows_one : (b : ℕ) → Seen ms' w.one (Fresh b) → Follows g path b
  follows_one b h = follows_by g path a b w t w_is (inl h.0)

  pub follows_other : (b : ℕ) → Seen ms' w.other (Fresh b) → Follows g path b
  follows_other b h = follows_by g path a b w t w_is (inr h.0)

  pub all_done : (ms3 : List Mark) → ms3 ≡ ms → Seen ms' w.one Closed → Seen ms3 w.other Closed → HasAllDone g ms a
  all_done ms3 e2 p q =
      let p' : IsClosed ms w.one = subst (λ z. IsClosed z w.one) e p in
      let q' : IsClosed ms w.other = subst (λ z. IsClosed z w.other) e2 q in
      ways_done g ms a w w_is p' q'
