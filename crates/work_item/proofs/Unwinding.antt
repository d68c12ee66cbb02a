-- Taking frames away, one after another, up to the first that stays.
-- For the loop of `unwind`, whose invariant is `Unwinds`: what is left comes to the same kept frames, and only the frame at hand may be
-- over without a child. Taking one away can make its parent such a frame, and no other; the loop ends since a parent is older. `goes_alone`
-- is the frame that lies in none.
use Rattle.std.proofs.Common.{◌≡◌, ℕ, zero, suc, ◌+◌, ◌<◌, ◌≤◌, List, Option, Some, None, IsSome, IsSomeAnd, Bool, true, false, ◌&&◌, ℤ, is_none}
use Rattle.std.proofs.Common.{inl, inr, refl, sym, ap, ◌∙◌, subst, arith, set, nat_eq, eqb-true, eq-eqb, ne_eqb, get_or-set_same}
use Rattle.std.proofs.lemmas.Bool.{cases_eq}
use Rattle.std.proofs.lemmas.List.{set-set}
use Rattle.work_item.specs.declared.ids.FrameId.{FrameId}
use Rattle.work_item.specs.Conditions.{IsGoing}
use Rattle.work_item.specs.Store.{Store, Frame, is_number, is_parent, some_over, frame_words, all_words, kept, released}
use Rattle.work_item.specs.Table.{at, children_of, IsSettled, IsWhole}
use Rattle.work_item.specs.inner.Kept.{parent_at, is_over, is_done, is_alone, IsRooted}
use Rattle.work_item.proofs.Children.{within, some_of, other, one_if, children-set, words-set, words_gone, rooted_gone}
use Rattle.work_item.proofs.Keeping.{all_kept, gone_kept}

-- how far the frames are taken away: of `start`, the frames at the beginning, those are left, and
-- only the one of number `last` may have ended without a child
pub record Unwinds (start frames : List (Option Frame)) (last : ℕ) : Type 0 where
  pub rooted : IsRooted frames
  pub lives : IsSome (at frames last)
  pub same : kept 0 frames ≡ kept 0 start
  pub settled : (number : ℕ) (x : Frame) → at frames number ≡ Some x → x.over ≡ true → (last ≡ number → ⊥) → 0 < children_of frames number
  pub fewer : all_words frames ≤ all_words start

-- ---- a frame that is done

both : (a b : Bool) → (a && b) ≡ true → (a ≡ true) × (b ≡ true)
both true b h = (refl, h)
both false b h = let no : false ≡ true = h in absurd (cc)

pub done_told : (t : List (Option Frame)) (n : ℕ) → is_done t n ≡ true → (x : Frame) × ((at t n ≡ Some x) × ((x.over ≡ true) × (children_of t n ≡ 0)))
done_told t n h = go (at t n) refl (both (is_over (at t n)) (nat_eq (children_of t n) 0) h)
  where
    go : (o : Option Frame) → at t n ≡ o → (is_over (at t n) ≡ true) × (nat_eq (children_of t n) 0 ≡ true) → (x : Frame) × ((at t n ≡ Some x) × ((x.over ≡ true) × (children_of t n ≡ 0)))
    go None e p = let no : false ≡ true = sym (ap is_over e) ∙ p.0 in absurd (cc)
    go (Some x) e p = (x, (e, (sym (ap is_over e) ∙ p.0, eqb-true (children_of t n) 0 p.1)))

not_done : (t : List (Option Frame)) (n : ℕ) (x : Frame) → is_done t n ≡ false → at t n ≡ Some x → x.over ≡ true → 0 < children_of t n
not_done t n x h e o = go (children_of t n) refl
  where
    go : (k : ℕ) → children_of t n ≡ k → 0 < children_of t n
    go zero z =
        let yes : is_done t n ≡ true = ap (λ q. is_over q && nat_eq (children_of t n) 0) e ∙ ap (λ b. b && nat_eq (children_of t n) 0) o ∙ eq-eqb (children_of t n) 0 z in
        let no : true ≡ false = sym yes ∙ h in
        absurd (cc)
    go (suc k) z = omega arith

-- ---- the beginning

same_parent : (m : ℕ) (o : Option Frame) → one_if (is_parent m (some_over o)) ≡ one_if (is_parent m o)
same_parent m None = refl
same_parent m (Some x) = refl

same_words : (o : Option Frame) → frame_words (some_over o) ≡ frame_words o
same_words None = refl
same_words (Some x) = refl

over_there : (o : Option Frame) → IsSome o → IsSome (some_over o)
over_there None l = l
over_there (Some x) l = refl

ended_words : (t : List (Option Frame)) (n : ℕ) → IsSome (at t n) → all_words (set t n (some_over (at t n))) ≡ all_words t
ended_words t n l =
    let x = some_of (at t n) l in
    omega (arith, words-set t n (some_over (at t n)) (within t n x.0 x.1), same_words (at t n))

pub begins : (t start : List (Option Frame)) (n : ℕ) → IsSettled t → IsSome (at t n) → start ≡ set t n (some_over (at t n)) → IsRooted start → Unwinds start start n
begins t start n s l is r = record {
  rooted = r;
  lives = subst (λ u. IsSome (at u n)) (sym is) (subst (λ o. IsSome o) (sym (get_or-set_same t n (some_over (at t n)) None (within t n x.0 x.1))) (over_there (at t n) l));
  same = refl;
  settled = subst (λ u. (number : ℕ) (x : Frame) → at u number ≡ Some x → x.over ≡ true → (n ≡ number → ⊥) → 0 < children_of u number) (sym is) rest;
  fewer = omega arith;
}
  where
    x : (x : Frame) × (at t n ≡ Some x)
    x = some_of (at t n) l

    rest : (number : ℕ) (y : Frame) → at (set t n (some_over (at t n))) number ≡ Some y → y.over ≡ true → (n ≡ number → ⊥) → 0 < children_of (set t n (some_over (at t n))) number
    rest m y e o ne =
        let had = s m y (sym (other t n m (some_over (at t n)) ne) ∙ e) o in
        let found = some_of (at t n) l in
        omega (arith, had, children-set t n (some_over (at t n)) m (within t n found.0 found.1), same_parent m (at t n))

-- ---- one step up

goes_with : (t : List (Option Frame)) (n : ℕ) (x : Frame) (m : ℕ) → at t n ≡ Some x → children_of (set t n None) m + one_if (is_number m x.parent) ≡ children_of t m
goes_with t n x m e =
    let p : one_if (is_parent m (at t n)) ≡ one_if (is_number m x.parent) = ap (λ o. one_if (is_parent m o)) e in
    omega (arith, children-set t n None m (within t n x e), p)

-- what stands there after a frame is gone stood there before, and is another
stood : (t : List (Option Frame)) (n m : ℕ) (x y : Frame) → at t n ≡ Some x → at (set t n None) m ≡ Some y → (at t m ≡ Some y) × (n ≡ m → ⊥)
stood t n m x y e h =
    elim (cases_eq n m) as (λ _. (at t m ≡ Some y) × (n ≡ m → ⊥)) [
      | inl q ↦
          let here : at (set t n None) m ≡ None = subst (λ k. at (set t n None) k ≡ None) q (get_or-set_same t n None None (within t n x e)) in
          let no : None ≡ Some y = sym here ∙ h in
          absurd (cc)
      | inr ne ↦ (sym (other t n m None ne) ∙ h, ne)
    ]

pub goes_on : (start t : List (Option Frame)) (n : ℕ) (p : FrameId) → Unwinds start t n → is_done t n ≡ true → parent_at (at t n) ≡ Some p → Unwinds start (set t n None) p.number
goes_on start t n p u done up = record {
  rooted = rooted_gone t n x.0 u.rooted x.1.0 x.1.1.1;
  lives = subst (λ o. IsSome o) (sym (other t n p.number None apart)) above.1;
  same = sym (gone_kept t n x.0 x.1.0 x.1.1.0 x.1.1.1) ∙ u.same;
  settled = rest;
  fewer = omega (arith, u.fewer, words_gone t n x.0 x.1.0);
}
  where
    x : (x : Frame) × ((at t n ≡ Some x) × ((x.over ≡ true) × (children_of t n ≡ 0)))
    x = done_told t n done

    above : (p.number < n) × IsSome (at t p.number)
    above = let y = done_told t n done in u.rooted n y.0 p y.1.0 (sym (ap parent_at y.1.0) ∙ up)

    apart : n ≡ p.number → ⊥
    apart q = let lt : p.number < n = (let y = done_told t n done in (u.rooted n y.0 p y.1.0 (sym (ap parent_at y.1.0) ∙ up)).0) in omega arith

    rest : (m : ℕ) (y : Frame) → at (set t n None) m ≡ Some y → y.over ≡ true → (p.number ≡ m → ⊥) → 0 < children_of (set t n None) m
    rest m y e o ne =
        let z = done_told t n done in
        let was = stood t n m z.0 y z.1.0 e in
        let had = u.settled m y was.0 o was.1 in
        let not_its : one_if (is_number m z.0.parent) ≡ 0 = ap (λ q. one_if (is_number m q)) (sym (ap parent_at z.1.0) ∙ up) ∙ ap one_if (ne_eqb m p.number (λ q. ne (sym q))) in
        omega (arith, had, goes_with t n z.0 m z.1.0, not_its)

-- ---- the end

settled_there : (start t : List (Option Frame)) (n : ℕ) → Unwinds start t n → is_done t n ≡ false → IsSettled t
settled_there start t n u h m y e o =
    elim (cases_eq n m) as (λ _. 0 < children_of t m) [
      | inl q ↦ subst (λ k. 0 < children_of t k) q (not_done t n y h (subst (λ k. at t k ≡ Some y) (sym q) e) o)
      | inr ne ↦ u.settled m y e o ne
    ]

settled_above : (start t : List (Option Frame)) (n : ℕ) → Unwinds start t n → is_done t n ≡ true → parent_at (at t n) ≡ None → IsSettled (set t n None)
settled_above start t n u done up m y e o =
    let z = done_told t n done in
    let was = stood t n m z.0 y z.1.0 e in
    let had = u.settled m y was.0 o was.1 in
    let not_its : one_if (is_number m z.0.parent) ≡ 0 = ap (λ q. one_if (is_number m q)) (sym (ap parent_at z.1.0) ∙ up) in
    omega (arith, had, goes_with t n z.0 m z.1.0, not_its)

-- the frames that are left are those that are kept, and what always holds holds of them
pub record Ends (globals : List ℤ) (start frames : List (Option Frame)) : Type 0 where
  pub whole : IsWhole globals frames
  pub is : frames ≡ kept 0 start

pub ends_there : (globals : List ℤ) (before start t : List (Option Frame)) (n : ℕ) → IsWhole globals before → all_words start ≡ all_words before → Unwinds start t n → is_done t n ≡ false
    → Ends globals start t
ends_there globals before start t n w same u h = record {
  whole = record { settled = settled_there start t n u h; fits = omega (arith, w.fits, u.fewer, same) };
  is = sym (all_kept t u.rooted (settled_there start t n u h)) ∙ u.same;
}

pub ends_above : (globals : List ℤ) (before start t : List (Option Frame)) (n : ℕ) → IsWhole globals before → all_words start ≡ all_words before → Unwinds start t n → is_done t n ≡ true
    → parent_at (at t n) ≡ None → Ends globals start (set t n None)
ends_above globals before start t n w same u done up =
    let x = done_told t n done in
    let settled = settled_above start t n u done up in
    record {
      whole = record { settled = settled; fits = omega (arith, w.fits, u.fewer, same, words_gone t n x.0 x.1.0) };
      is = sym (all_kept (set t n None) (rooted_gone t n x.0 u.rooted x.1.0 x.1.1.1) settled) ∙ sym (gone_kept t n x.0 x.1.0 x.1.1.0 x.1.1.1) ∙ u.same;
    }

-- ---- a frame that goes alone

alone_told : (t : List (Option Frame)) (n : ℕ) → IsSome (at t n) → is_alone t n ≡ true → (x : Frame) × ((at t n ≡ Some x) × ((x.parent ≡ None) × (children_of t n ≡ 0)))
alone_told t n l h =
    let x = some_of (at t n) l in
    let told = both (is_none (parent_at (at t n))) (nat_eq (children_of t n) 0) h in
    (x.0, (x.1, (no_parent x.0.parent (sym (ap (λ o. is_none (parent_at o)) x.1) ∙ told.0), eqb-true (children_of t n) 0 told.1)))
  where
    no_parent : (p : Option FrameId) → is_none p ≡ true → p ≡ None
    no_parent None e = refl
    no_parent (Some f) e = let no : false ≡ true = e in absurd (cc)

pub goes_alone : (globals : List ℤ) (t : List (Option Frame)) (n : ℕ) → IsWhole globals t → IsSome (at t n) → is_alone t n ≡ true → IsRooted (set t n None)
    → Ends globals (set t n (some_over (at t n))) (set t n None)
goes_alone globals t n w l h r = record {
  whole = record { settled = settled; fits = (let x = alone_told t n l h in omega (arith, w.fits, words_gone t n x.0 x.1.0)) };
  is = sym (all_kept (set t n None) r settled) ∙ ap (kept 0) (sym (set-set t n (some_over (at t n)) None)) ∙ sym gone;
}
  where
    settled : IsSettled (set t n None)
    settled m y e o =
        let x = alone_told t n l h in
        let was = stood t n m x.0 y x.1.0 e in
        let had = w.settled m y was.0 o in
        let not_its : one_if (is_number m x.0.parent) ≡ 0 = ap (λ q. one_if (is_number m q)) x.1.1.0 in
        omega (arith, had, goes_with t n x.0 m x.1.0, not_its)

    gone : kept 0 (set t n (some_over (at t n))) ≡ kept 0 (set (set t n (some_over (at t n))) n None)
    gone =
        let x = alone_told t n l h in
        let lt = within t n x.0 x.1.0 in
        let none : children_of (set t n (some_over (at t n))) n ≡ 0 = omega (arith, x.1.1.1, children-set t n (some_over (at t n)) n lt, same_parent n (at t n)) in
        gone_kept (set t n (some_over (at t n))) n (record x.0 { over = true }) (get_or-set_same t n (some_over (at t n)) None lt ∙ ap some_over x.1.0) refl none

pub same_at_start : (t start : List (Option Frame)) (n : ℕ) → IsSome (at t n) → start ≡ set t n (some_over (at t n)) → all_words start ≡ all_words t
same_at_start t start n l is = ap all_words is ∙ ended_words t n l

-- ---- what the call says

pub older : (start t : List (Option Frame)) (n : ℕ) (p : FrameId) → Unwinds start t n → parent_at (at t n) ≡ Some p → p.number < n
older start t n p u up =
    let x = some_of (at t n) u.lives in
    (u.rooted n x.0 p x.1 (sym (ap parent_at x.1) ∙ up)).0

going_lives : (o : Option Frame) → IsSomeAnd o (λ x. x.over ≡ false) → IsSome o
going_lives None h = absurd h
going_lives (Some x) h = refl

abbrev store : List ℤ → List (Option Frame) → Store
store globals frames = record { globals = globals; frames = frames }

pub lives_before : (s : Store) (f : FrameId) (globals : List ℤ) (t : List (Option Frame)) → store globals t ≡ s → IsGoing s f → IsSome (at t f.number)
lives_before s f globals t view going = going_lives (at t f.number) (subst (λ q. IsGoing q f) (sym view) going)

pub is_released : (s : Store) (f : FrameId) (first globals : List ℤ) (t start now : List (Option Frame)) → store first t ≡ s → globals ≡ first → start ≡ set t f.number (some_over (at t f.number))
    → now ≡ kept 0 start → store globals now ≡ released s f
is_released s f first globals t start now view same ended is =
    ap (λ g. store g now) same ∙ ap (store first) (is ∙ ap (kept 0) ended) ∙ ap (λ q. released q f) view
