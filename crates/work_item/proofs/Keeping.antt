-- Which frames are kept: all, where each whose end has come has a child; and a frame without one is taken away first.
-- This joins `kept`, which goes over the list once and asks for children that are younger, to the counts of children. By induction over the
-- list, with the number of its first frame: all children of a frame stand behind it, since a frame lies in an older one (`IsRooted`).
use Rattle.std.proofs.Common.{◌≡◌, ℕ, zero, suc, ◌+◌, ◌-◌, ◌<◌, List, [], ◌∷◌, Option, Some, None, Bool, true, false}
use Rattle.std.proofs.Common.{not, ◌&&◌, ◌||◌, if◌then◌else◌, refl, ap, ◌∙◌, subst, arith, drop, set, get_or-drop}
use Rattle.std.proofs.lemmas.Bool.{or_right}
use Rattle.work_item.specs.Store.{Frame, is_parent, any_in, kept_one, kept}
use Rattle.work_item.specs.Table.{at, children_of, IsSettled}
use Rattle.work_item.specs.inner.Kept.{IsRooted}
use Rattle.work_item.proofs.Children.{parent_told, one_if, children-cons, a_child}

abbrev kept_if : Bool → Option Frame → Option Frame
kept_if gone x = if gone then None else x

-- ---- a child in the list

or_first : (a b : Bool) → (a || b) ≡ false → a ≡ false
or_first true b h = h
or_first false b h = refl

or_second : (a b : Bool) → (a || b) ≡ false → b ≡ false
or_second true b h = let no : true ≡ false = h in absurd (cc)
or_second false b h = h

neither : (a b : Bool) → a ≡ false → b ≡ false → (a || b) ≡ false
neither a b e f = ap (λ q. q || b) e ∙ f

pub any_here : (m : ℕ) (t : List (Option Frame)) (n : ℕ) → is_parent m (at t n) ≡ true → any_in m t ≡ true
any_here m [] n e = let no : false ≡ true = e in absurd (cc)
any_here m (x ∷ t) zero e = ap (λ b. b || any_in m t) e
any_here m (x ∷ t) (suc n) e = or_right (is_parent m x) (any_in m t) (any_here m t n e)

pub any_none : (m : ℕ) (t : List (Option Frame)) → children_of t m ≡ 0 → any_in m t ≡ false
any_none m [] h = refl
any_none m (x ∷ t) h = neither (is_parent m x) (any_in m t) (first (is_parent m x) refl) (any_none m t (omega (arith, children-cons x t m)))
  where
    first : (b : Bool) → is_parent m x ≡ b → is_parent m x ≡ false
    first false e = e
    first true e = let one : one_if (is_parent m x) ≡ 1 = ap one_if e in absurd (omega (arith, h, children-cons x t m))

-- ---- all are kept

stays : (b : Bool) (y : Option Frame) → ((x : Frame) → y ≡ Some x → x.over ≡ true → b ≡ true) → kept_one b y ≡ y
stays b None h = refl
stays b (Some x) h = go x.over refl
  where
    go : (o : Bool) → x.over ≡ o → kept_one b (Some x) ≡ Some x
    go false e = ap (λ q. kept_if (q && not b) (Some x)) e
    go true e = ap (λ q. kept_if (q && not b) (Some x)) e ∙ ap (λ q. kept_if (not q) (Some x)) (h x refl e)

all_from : (k : ℕ) (t : List (Option Frame)) → ((i : ℕ) (x : Frame) → at t i ≡ Some x → x.over ≡ true → any_in (k + i) (drop (suc i) t) ≡ true) → kept k t ≡ t
all_from k [] h = refl
all_from k (y ∷ t) h =
    let rest = all_from (k + 1) t (λ i x e o. let n : k + suc i ≡ k + 1 + i = omega arith in subst (λ m. any_in m (drop (suc i) t) ≡ true) n (h (suc i) x e o)) in
    let here = (λ (x : Frame) (e : y ≡ Some x) (o : x.over ≡ true). let n : k + zero ≡ k = omega arith in subst (λ m. any_in m t ≡ true) n (h zero x e o)) in
    ap (λ z. kept_one (any_in k z) y ∷ z) rest ∙ ap (λ z. z ∷ t) (stays (any_in k t) y here)

-- a child is younger
later : (t : List (Option Frame)) (i : ℕ) → IsRooted t → 0 < children_of t i → any_in i (drop (suc i) t) ≡ true
later t i r h =
    let c = a_child t i h in
    let x = parent_told i (at t c.0) c.1 in
    let up = r c.0 x.0 x.1.0 x.1.1.0 x.1.1.1.0 in
    let j = c.0 - suc i in
    let n : suc i + j ≡ c.0 = omega (arith, up.0, x.1.1.1.1) in
    any_here i (drop (suc i) t) j (ap (is_parent i) (get_or-drop (suc i) t j None ∙ ap (at t) n) ∙ c.1)

pub all_kept : (t : List (Option Frame)) → IsRooted t → IsSettled t → kept 0 t ≡ t
all_kept t r s = all_from 0 t (λ i x e o. let n : i ≡ 0 + i = omega arith in subst (λ m. any_in m (drop (suc i) t) ≡ true) n (later t i r (s i x e o)))

-- ---- one is gone

fewer_one : (m : ℕ) (b : Bool) (y : Option Frame) → is_parent m y ≡ false → is_parent m (kept_one b y) ≡ false
fewer_one m b None h = refl
fewer_one m b (Some x) h = go (x.over && not b)
  where
    go : (c : Bool) → is_parent m (kept_if c (Some x)) ≡ false
    go true = refl
    go false = h

fewer : (m k : ℕ) (t : List (Option Frame)) → any_in m t ≡ false → any_in m (kept k t) ≡ false
fewer m k [] h = refl
fewer m k (y ∷ t) h =
    let b = any_in k (kept (k + 1) t) in
    neither (is_parent m (kept_one b y)) (any_in m (kept (k + 1) t)) (fewer_one m b y (or_first (is_parent m y) (any_in m t) h)) (fewer m (k + 1) t (or_second (is_parent m y) (any_in m t) h))

goes : (b : Bool) (y : Option Frame) (x : Frame) → y ≡ Some x → x.over ≡ true → b ≡ false → kept_one b y ≡ None
goes b y x e o h =
    ap (kept_one b) e ∙ ap (λ q. kept_if (q && not b) (Some x)) o ∙ ap (λ q. kept_if (not q) (Some x)) h

gone_from : (k : ℕ) (t : List (Option Frame)) (n : ℕ) (x : Frame) → at t n ≡ Some x → x.over ≡ true → any_in (k + n) t ≡ false → kept k t ≡ kept k (set t n None)
gone_from k [] n x e o h = let no : None ≡ Some x = e in absurd (cc)
gone_from k (y ∷ t) zero x e o h =
    let n : k + zero ≡ k = omega arith in
    let alone = subst (λ m. any_in m (y ∷ t) ≡ false) n h in
    ap (λ z. z ∷ kept (k + 1) t) (goes (any_in k (kept (k + 1) t)) y x e o (fewer k (k + 1) t (or_second (is_parent k y) (any_in k t) alone)))
gone_from k (y ∷ t) (suc n) x e o h =
    let m : k + suc n ≡ k + 1 + n = omega arith in
    let alone = subst (λ q. any_in q t ≡ false) m (or_second (is_parent (k + suc n) y) (any_in (k + suc n) t) h) in
    ap (λ z. kept_one (any_in k z) y ∷ z) (gone_from (k + 1) t n x e o alone)

pub gone_kept : (t : List (Option Frame)) (n : ℕ) (x : Frame) → at t n ≡ Some x → x.over ≡ true → children_of t n ≡ 0 → kept 0 t ≡ kept 0 (set t n None)
gone_kept t n x e o h = let k : n ≡ 0 + n = omega arith in gone_from 0 t n x e o (subst (λ m. any_in m t ≡ false) k (any_none n t h))
