-- A point is opened, a point is closed, and a way to an open point closes a cycle: the first two keep the invariant of the search (`IsSearch`), make
-- no point new again, and leave less to do. A point that is closed takes the next rank, above those of all to which it leads, which are done.
-- The hard part is the cycle: each point of the path leads to the next, so along the path to each later one (`along`).
use Rattle.std.proofs.Common.{◌≡◌, ℕ, zero, suc, ◌+◌, ◌-◌, ◌*◌, ◌<◌, ◌≤◌, inl, inr, List, [], ◌∷◌, ◌++◌, length, Some, None, refl, sym, ap, ◌∙◌, subst, arith}
use Rattle.std.specs.Prelude.{slice_get, slice_set}
use Rattle.graph_ranks.specs.declared.graph.Ways.{Ways}
use Rattle.graph_ranks.specs.declared.search.Mark.{Mark}
use Rattle.graph_ranks.specs.declared.search.Mark.TheVariants.{New, Open, Done}
use Rattle.graph_ranks.specs.Graph.{Goes, Way, HasCycle}
use Rattle.graph_ranks.specs.inner.Search.{weight, left, HasAllDone, IsDone, IsSearch, IsTop, Follows, Keeps, IsClosed}
use Rattle.graph_ranks.proofs.Places.{set_same, set_cases, set_other, set_length, end_cases, end_before, end_here, within, got}

pub left_set : (ms : List Mark) (i : ℕ) (m v : Mark) → slice_get ms i ≡ Some m → left (slice_set ms i v) + weight m ≡ left ms + weight v
left_set [] i m v h = let no : None ≡ Some m = h in cc
left_set (n ∷ ms) zero m v h = let e : Some n ≡ Some m = h in let w : weight n ≡ weight m = ap weight (cc) in omega arith
left_set (n ∷ ms) (suc i) m v h = let r : left (slice_set ms i v) + weight m ≡ left ms + weight v = left_set ms i m v h in omega arith

pub new_open : (k : ℕ) → New ≡ Open k → ⊥
new_open k e = cc

pub new_done : (k : ℕ) → New ≡ Done k → ⊥
new_done k e = cc

open_done : (k r : ℕ) → Open k ≡ Done r → ⊥
open_done k r e = cc

-- a new point is opened at the end of the path
module _ (g : List Ways) (ms : List Mark) (path : List ℕ) (count a : ℕ) (s : IsSearch g ms path count) (n : slice_get ms a ≡ Some New) (f : Follows g path a) where
  abbrev ms' : List Mark
  ms' = slice_set ms a (Open (length path))

  linked' : (k x y : ℕ) → slice_get (path ++ a ∷ []) k ≡ Some x → slice_get (path ++ a ∷ []) (suc k) ≡ Some y → Goes g x y
  linked' k x y h i =
      elim (end_cases path a y (suc k) i) [
        | inl e ↦ (elim (end_cases path a x k h) [
          | inl d ↦ absurd (let p : suc k ≡ length path = e.0 in let q : k ≡ length path = d.0 in omega arith)
          | inr d ↦ subst (λ z. Goes g x z) e.1 (f k x (sym e.0) d)
        ])
        | inr e ↦ (elim (end_cases path a x k h) [
          | inl d ↦ absurd (let p : suc k < length path = within path (suc k) y e in let q : k ≡ length path = d.0 in omega arith)
          | inr d ↦ s.linked k x y d e
        ])
      ]

  placed' : (b k : ℕ) → slice_get ms' b ≡ Some (Open k) → slice_get (path ++ a ∷ []) k ≡ Some b
  placed' b k h = elim (set_cases ms a b (Open (length path)) (Open k) h) [
    | inl e ↦ (let p : Open (length path) ≡ Open k = e.1 in let q : length path ≡ k = cc in subst (λ z. slice_get (path ++ a ∷ []) z ≡ Some b) q (end_here path a ∙ ap Some e.0))
    | inr e ↦ end_before path (a ∷ []) b k (s.placed b k e)
  ]

  opened' : (k b : ℕ) → slice_get (path ++ a ∷ []) k ≡ Some b → slice_get ms' b ≡ Some (Open k)
  opened' k b h = elim (end_cases path a b k h) [
    | inl e ↦ (let here : slice_get ms' a ≡ Some (Open (length path)) = set_same ms a (Open (length path)) New n in
        subst (λ z. slice_get ms' z ≡ Some (Open k)) e.1 (here ∙ ap (λ z. Some (Open z)) (sym e.0)))
    | inr e ↦ set_other ms a b (Open (length path)) New (Open k) n (s.opened k b e) (new_open k)
  ]

  done_kept : (b q : ℕ) → slice_get ms b ≡ Some (Done q) → slice_get ms' b ≡ Some (Done q)
  done_kept b q h = set_other ms a b (Open (length path)) New (Done q) n h (new_done q)

  done' : (b r : ℕ) → slice_get ms' b ≡ Some (Done r) → IsDone g ms' count b r
  done' b r h = elim (set_cases ms a b (Open (length path)) (Done r) h) [
    | inl e ↦ absurd (open_done (length path) r e.1)
    | inr e ↦ (let d = s.done b r e in record { below = d.below; falls = λ c way. let w = d.falls c way in (w.0, (done_kept c w.0 w.1.0, w.1.1)) })
  ]

  pub open_less : left ms' < left ms
  open_less = let e : left ms' + 2 ≡ left ms + 1 = left_set ms a New (Open (length path)) n in omega arith

  pub open_search : IsSearch g ms' (path ++ a ∷ []) count
  open_search = record {
    long = set_length ms a (Open (length path)) ∙ s.long;
    linked = linked';
    placed = placed';
    opened = opened';
    done = done';
    room = let l : left ms' < left ms = open_less in let r : count + left ms ≤ 2 * length g = s.room in omega arith;
  }

  pub open_keeps : Keeps ms ms'
  open_keeps b h = elim (set_cases ms a b (Open (length path)) New h) [
    | inl e ↦ absurd (new_open (length path) (sym e.1))
    | inr e ↦ e
  ]

  pub open_here : slice_get ms' a ≡ Some New → ⊥
  open_here h = let e : slice_get ms' a ≡ Some (Open (length path)) = set_same ms a (Open (length path)) New n in
      let e2 : Some New ≡ Some (Open (length path)) = sym h ∙ e in cc

-- the last point of the path is done
module _ (g : List Ways) (ms : List Mark) (path : List ℕ) (count a : ℕ) (s : IsSearch g ms (path ++ a ∷ []) count) (c : HasAllDone g ms a) where
  abbrev ms2 : List Mark
  ms2 = slice_set ms a (Done count)

  abbrev here : ℕ
  here = length path

  was_open : slice_get ms a ≡ Some (Open here)
  was_open = s.opened here a (end_here path a)

  kept2 : (b q : ℕ) → slice_get ms b ≡ Some (Done q) → slice_get ms2 b ≡ Some (Done q)
  kept2 b q h = set_other ms a b (Done count) (Open here) (Done q) was_open h (open_done here q)

  placed2 : (b k : ℕ) → slice_get ms2 b ≡ Some (Open k) → slice_get path k ≡ Some b
  placed2 b k h = elim (set_cases ms a b (Done count) (Open k) h) [
    | inl e ↦ absurd (open_done k count (sym e.1))
    | inr e ↦ (elim (end_cases path a b k (s.placed b k e)) [
      | inl d ↦ absurd (let p : slice_get ms2 a ≡ Some (Done count) = set_same ms a (Done count) (Open here) was_open in
          let q : slice_get ms2 a ≡ Some (Open k) = subst (λ z. slice_get ms2 z ≡ Some (Open k)) (sym d.1) h in
          let r : Some (Done count) ≡ Some (Open k) = sym p ∙ q in cc)
      | inr d ↦ d
    ])
  ]

  other_open : (k : ℕ) → k < here → Open here ≡ Open k → ⊥
  other_open k lt e = let q : here ≡ k = cc in omega arith

  opened2 : (k b : ℕ) → slice_get path k ≡ Some b → slice_get ms2 b ≡ Some (Open k)
  opened2 k b h = set_other ms a b (Done count) (Open here) (Open k) was_open (s.opened k b (end_before path (a ∷ []) b k h)) (other_open k (within path k b h))

  done2 : (b r : ℕ) → slice_get ms2 b ≡ Some (Done r) → IsDone g ms2 (count + 1) b r
  done2 b r h = elim (set_cases ms a b (Done count) (Done r) h) [
    | inl e ↦ (let p : Done count ≡ Done r = e.1 in let q : count ≡ r = cc in record {
      below = omega arith;
      falls = λ x way. let way' = subst (λ z. Goes g z x) (sym e.0) way in let w = c x way' in
          (w.0, (kept2 x w.0 w.1, let lt : w.0 < count = (s.done x w.0 w.1).below in omega arith));
    })
    | inr e ↦ (let d = s.done b r e in record {
      below = let lt : r < count = d.below in omega arith;
      falls = λ x way. let w = d.falls x way in (w.0, (kept2 x w.0 w.1.0, w.1.1));
    })
  ]

  pub close_less : left ms2 < left ms
  close_less = let e : left ms2 + 1 ≡ left ms + 0 = left_set ms a (Open here) (Done count) was_open in omega arith

  pub close_search : IsSearch g ms2 path (count + 1)
  close_search = record {
    long = set_length ms a (Done count) ∙ s.long;
    linked = λ k x y h i. s.linked k x y (end_before path (a ∷ []) x k h) (end_before path (a ∷ []) y (suc k) i);
    placed = placed2;
    opened = opened2;
    done = done2;
    room = let l : left ms2 < left ms = close_less in let r : count + left ms ≤ 2 * length g = s.room in omega arith;
  }

  pub close_keeps : Keeps ms ms2
  close_keeps b h = elim (set_cases ms a b (Done count) New h) [
    | inl e ↦ absurd (new_done count (sym e.1))
    | inr e ↦ e
  ]

-- along the path
module _ (g : List Ways) (path : List ℕ) (l : (k a b : ℕ) → slice_get path k ≡ Some a → slice_get path (suc k) ≡ Some b → Goes g a b) where
  -- from a place on the path to a later one, and on
  pub along : (n i a b c : ℕ) → slice_get path i ≡ Some a → slice_get path (n + i) ≡ Some b → Goes g b c → Way g (suc n) a c
  along zero i a b c h e w =
      let e' : slice_get path i ≡ Some b = subst (λ z. slice_get path z ≡ Some b) (omega arith) e in
      let same : Some a ≡ Some b = sym h ∙ e' in
      let ab : a ≡ b = cc in
      (c, (subst (λ z. Goes g z c) (sym ab) w, refl))
  along (suc n) i a b c h e w =
      let lt : suc n + i < length path = within path (suc n + i) b e in
      let x = got path (suc i) (omega arith) in
      (x.0, (l i a x.0 h x.1, along n (suc i) x.0 b c x.1 (subst (λ z. slice_get path z ≡ Some b) (omega arith) e) w))

-- a way from the last point to one that is open closes a cycle
pub cycle : (g : List Ways) (ms : List Mark) (path : List ℕ) (count a b k : ℕ) → IsSearch g ms path count → IsTop path a → Goes g a b → slice_get ms b ≡ Some (Open k) → HasCycle g
cycle g ms path count a b k s t w o =
    let p : slice_get path k ≡ Some b = s.placed b k o in
    let lt : k < length path = within path k b p in
    let len : length path ≡ suc t.0 = t.1.0 in
    (b, (t.0 - k, along g path s.linked (t.0 - k) k b a b p (subst (λ z. slice_get path z ≡ Some a) (omega arith) t.1.1) w))

pub ways_done : (g : List Ways) (ms : List Mark) (a : ℕ) (w : Ways) → slice_get g a ≡ Some w → IsClosed ms w.one → IsClosed ms w.other → HasAllDone g ms a
ways_done g ms a w h p q b way =
    let same : Some way.0 ≡ Some w = sym way.1 ∙ h in
    let e : way.0 ≡ w = cc in
    elim way.2 [
      | inl x ↦ subst (IsClosed ms) (ap (λ (z : Ways). z.one) (sym e) ∙ x) p
      | inr x ↦ subst (IsClosed ms) (ap (λ (z : Ways). z.other) (sym e) ∙ x) q
    ]
