-- The search from its beginning to its end: it begins with all points new (`first_search`), and where the path is empty and no point is new any
-- more, the marks are a ranking (`is_ranking`): each point is done then, since an open one stands on the path.
-- Between them one root after the other is passed, and none that was passed is new again (`none_more`).
use Rattle.std.proofs.Common.{◌≡◌, ℕ, zero, suc, ◌+◌, ◌*◌, ◌<◌, ◌≤◌, List, [], ◌∷◌, length, Some, None, Bool, true, false, nat_lt, replicate, refl, sym, ap, ◌∙◌, subst, arith}
use Rattle.std.specs.Prelude.{slice_get, slice_index, map}
use Rattle.graph_ranks.specs.declared.graph.Ways.{Ways}
use Rattle.graph_ranks.specs.declared.search.Mark.{Mark}
use Rattle.graph_ranks.specs.declared.search.Mark.TheVariants.{New, Open, Done}
use Rattle.graph_ranks.specs.Graph.{Goes, IsRanking}
use Rattle.graph_ranks.specs.inner.Search.{rank_in, left, IsSearch, Keeps, IsRooted, Rooted}
use Rattle.graph_ranks.proofs.Places.{within, got}
use Rattle.std.proofs.lemmas.Bool.Decides.{nat_tests}
use Rattle.graph_ranks.proofs.Steps.{new_open, new_done}

left_new : (n : ℕ) → left (replicate n New) ≡ 2 * n
left_new zero = refl
left_new (suc n) = let h : left (replicate n New) ≡ 2 * n = left_new n in omega arith

got_new : (n k : ℕ) (m : Mark) → slice_get (replicate n New) k ≡ Some m → m ≡ New
got_new zero k m h = let no : None ≡ Some m = h in cc
got_new (suc n) zero m h = let e : Some New ≡ Some m = h in cc
got_new (suc n) (suc k) m h = got_new n k m h

length_new : (n : ℕ) → length (replicate n New) ≡ n
length_new zero = refl
length_new (suc n) = ap suc (length_new n)

rank_at : (ms : List Mark) (a : ℕ) (m : Mark) → slice_get ms a ≡ Some m → slice_index (map rank_in ms) a ≡ rank_in m
rank_at [] a m h = let no : None ≡ Some m = h in cc
rank_at (n ∷ ms) zero m h = let e : Some n ≡ Some m = h in let x : n ≡ m = cc in ap rank_in x
rank_at (n ∷ ms) (suc a) m h = rank_at ms a m h

length_ranks : (ms : List Mark) → length (map rank_in ms) ≡ length ms
length_ranks [] = refl
length_ranks (m ∷ ms) = ap suc (length_ranks ms)

pub first_search : (g : List Ways) (ms : List Mark) (path : List ℕ) (n : ℕ) → ms ≡ replicate n New → n ≡ length g → path ≡ [] → IsSearch g ms path 0
first_search g ms path n e l p =
    let at : (a : ℕ) (m : Mark) → slice_get ms a ≡ Some m → m ≡ New = λ a m h. got_new n a m (subst (λ z. slice_get z a ≡ Some m) e h) in
    let none : (k a : ℕ) → slice_get path k ≡ Some a → ⊥ = λ k a h. (let no : None ≡ Some a = subst (λ z. slice_get z k ≡ Some a) p h in cc) in
    record {
      long = ap length e ∙ length_new n ∙ l;
      linked = λ k a b h i. absurd (none k a h);
      placed = λ a k h. absurd (new_open k (sym (at a (Open k) h)));
      opened = λ k a h. absurd (none k a h);
      done = λ a r h. absurd (new_done r (sym (at a (Done r) h)));
      room = let x : left ms ≡ 2 * n = ap left e ∙ left_new n in omega arith;
    }

module _ (g : List Ways) (ms : List Mark) (path : List ℕ) (count n : ℕ) (s : IsSearch g ms path count) (p : path ≡ []) (len : length g ≤ n)
    (none : (k : ℕ) → k < n → slice_get ms k ≡ Some New → ⊥) where
  falls_at : (a b : ℕ) → Goes g a b → (m : Mark) → slice_get ms a ≡ Some m → slice_index (map rank_in ms) b < slice_index (map rank_in ms) a
  falls_at a b way New h = absurd (let lt : a < length g = within g a way.0 way.1 in none a (omega arith) h)
  falls_at a b way (Open k) h = let q = s.placed a k h in let no : None ≡ Some a = subst (λ z. slice_get z k ≡ Some a) p q in cc
  falls_at a b way (Done r) h =
      let w = (s.done a r h).falls b way in
      let e : slice_index (map rank_in ms) a ≡ r = rank_at ms a (Done r) h in
      let f : slice_index (map rank_in ms) b ≡ w.0 = rank_at ms b (Done w.0) w.1.0 in
      let below : w.0 < r = w.1.1 in
      omega arith

  falls : (a b : ℕ) → Goes g a b → slice_index (map rank_in ms) b < slice_index (map rank_in ms) a
  falls a b way =
      let lt : a < length g = within g a way.0 way.1 in
      let l : length ms ≡ length g = s.long in
      let x = got ms a (omega arith) in
      falls_at a b way x.0 x.1

  -- a search at its end has ranked all points
  pub is_ranking : (ms' : List Mark) (ranks : List ℕ) → ms' ≡ ms → ranks ≡ map rank_in ms' → IsRanking g ranks
  is_ranking ms' ranks e r =
      let x : ranks ≡ map rank_in ms = r ∙ ap (map rank_in) e in
      subst (IsRanking g) (sym x) (record { long = length_ranks ms ∙ s.long; falls = falls })

pub none_more : (ms ms2 ms3 : List Mark) (n : ℕ) → ((k : ℕ) → k < n → slice_get ms k ≡ Some New → ⊥) → Keeps ms ms2 → (slice_get ms2 n ≡ Some New → ⊥) → Keeps ms2 ms3 → (k : ℕ) → k < n + 1
    → slice_get ms3 k ≡ Some New → ⊥
none_more ms ms2 ms3 n h a here b k lt got = by (nat_lt k n) refl
  where
    by : (t : Bool) → nat_lt k n ≡ t → ⊥
    by true e = let q : k < n = grind (arith, nat_tests) in h k q (a k (b k got))
    by false e = let q : n ≤ k = grind (arith, nat_tests) in let kn : k ≡ n = omega arith in here (subst (λ z. slice_get ms2 z ≡ Some New) kn (b k got))

pub rooted_true : (g : List Ways) (ms ms' : List Mark) (path' : List ℕ) (count' root : ℕ) (more : Bool) → more ≡ true → Rooted g ms ms' path' count' root more → IsRooted g ms ms' path' count' root
rooted_true g ms ms' path' count' root true e r = r
rooted_true g ms ms' path' count' root false e r = let no : false ≡ true = e in cc

pub none_root : (ms ms3 : List Mark) (n : ℕ) → ((k : ℕ) → k < n → slice_get ms k ≡ Some New → ⊥) → Keeps ms ms3 → (slice_get ms3 n ≡ Some New → ⊥) → (k : ℕ) → k < n + 1 → slice_get ms3 k ≡ Some New
    → ⊥
none_root ms ms3 n h a here = none_more ms ms3 ms3 n h a here (λ b got. got)
