-- Which frames lie in which, and how many words they have.
-- Counts of children and sums of words over the whole list of frames, and what one frame that is set, made or taken away changes of them:
-- set and push are laws of sums, so each step is one equation. From counts alone: who has no child can go, and all others keep a parent
-- that lives.
use Rattle.std.proofs.Common.{◌≡◌, ℕ, zero, suc, ◌+◌, ◌-◌, ◌<◌, ◌≤◌, List, [], ◌∷◌, ◌++◌, length, Option, Some, None, IsSome, Bool, true, false, cond}
use Rattle.std.proofs.Common.{◌⊎◌, inl, inr, refl, sym, ap, ◌∙◌, subst, arith, get_or, set, eqb-true, eq-eqb, get_or-set_other, get_or-set_same}
use Rattle.std.proofs.lemmas.Bool.{cases_eq, cases_lt}
use Rattle.std.proofs.lemmas.List.Sums.{sum_by-set, sum_by_push, sum_by-cons, get_or-le-sum_by}
use Rattle.std.proofs.Math.ListN.{get_or-eq_default, get_or-append}
use Rattle.std.proofs.Math.Seq.{get_or-append_right}
use Rattle.work_item.specs.declared.ids.FrameId.{FrameId}
use Rattle.work_item.specs.Store.{Frame, is_number, is_parent, frame_words, all_words}
use Rattle.work_item.specs.Table.{at, children_of}
use Rattle.work_item.specs.inner.Kept.{IsRooted, LivesIn}

-- ---- what stands in a table

pub within : {A : Type 0} (xs : List (Option A)) (n : ℕ) (x : A) → get_or xs n None ≡ Some x → n < length xs
within xs n x h =
    elim (cases_lt n (length xs)) as (λ _. n < length xs) [
      | inl p ↦ p
      | inr p ↦ let e : get_or xs n None ≡ None = get_or-eq_default xs None p in let no : None ≡ Some x = sym e ∙ h in absurd (cc)
    ]

pub some_of : {A : Type 0} (o : Option A) → IsSome o → (x : A) × (o ≡ Some x)
some_of None l = let no : false ≡ true = l in absurd (cc)
some_of (Some x) l = (x, refl)

pub is_there : {A : Type 0} (o : Option A) (x : A) → o ≡ Some x → IsSome o
is_there o x e = subst (λ q. IsSome q) (sym e) refl

pub other : {A : Type 0} (xs : List (Option A)) (n m : ℕ) (y : Option A) → (n ≡ m → ⊥) → get_or (set xs n y) m None ≡ get_or xs m None
other xs n m y ne = get_or-set_other xs n m y None (λ e. ne (sym e))

-- the last of a list
pub last_one : {A : Type 0} (xs : List (Option A)) (y : A) → get_or (xs ++ Some y ∷ []) (length xs) None ≡ Some y
last_one xs y =
    let z : length xs - length xs ≡ zero = omega arith in
    let q : length xs ≤ length xs = omega arith in
    get_or-append_right xs (Some y ∷ []) (length xs) None q ∙ ap (λ k. get_or (Some y ∷ []) k None) z

-- what stands in a list with one more: it stood there before, or is the new one
pub pushed : {A : Type 0} (xs : List (Option A)) (y : A) (n : ℕ) (z : A) → get_or (xs ++ Some y ∷ []) n None ≡ Some z → (get_or xs n None ≡ Some z) ⊎ ((n ≡ length xs) × (y ≡ z))
pushed {A} xs y n z e =
    elim (cases_lt n (length xs)) as (λ _. (get_or xs n None ≡ Some z) ⊎ ((n ≡ length xs) × (y ≡ z))) [
      | inl p ↦ inl (sym (get_or-append xs (Some y ∷ []) None n p) ∙ e)
      | inr p ↦ far (n - length xs) refl p
    ]
  where
    far : (k : ℕ) → k ≡ n - length xs → length xs ≤ n → (get_or xs n None ≡ Some z) ⊎ ((n ≡ length xs) × (y ≡ z))
    far zero s p =
        let is : n ≡ length xs = omega arith in
        let h : Some y ≡ Some z = sym (last_one xs y) ∙ ap (λ k. get_or (xs ++ Some y ∷ []) k None) (sym is) ∙ e in
        inr (is, cc)
    far (suc k) s p =
        let h : None ≡ Some z = ap (λ j. get_or (Some y ∷ []) j None) s ∙ sym (get_or-append_right xs (Some y ∷ []) n None p) ∙ e in
        absurd (cc)

-- ---- parents

pub is_its_parent : (m : ℕ) (o : Option Frame) (x : Frame) (p : FrameId) → o ≡ Some x → x.parent ≡ Some p → m ≡ p.number → is_parent m o ≡ true
is_its_parent m o x p e f h = ap (is_parent m) e ∙ ap (is_number m) f ∙ eq-eqb m p.number h

pub parent_told : (m : ℕ) (o : Option Frame) → is_parent m o ≡ true → (x : Frame) × ((p : FrameId) × ((o ≡ Some x) × ((x.parent ≡ Some p) × (m ≡ p.number))))
parent_told m None h = let no : false ≡ true = h in absurd (cc)
parent_told m (Some x) h = go x.parent refl
  where
    go : (q : Option FrameId) → x.parent ≡ q → (y : Frame) × ((p : FrameId) × ((Some x ≡ Some y) × ((y.parent ≡ Some p) × (m ≡ p.number))))
    go None e = let no : false ≡ true = sym (ap (is_number m) e) ∙ h in absurd (cc)
    go (Some p) e = (x, (p, (refl, (e, eqb-true m p.number (sym (ap (is_number m) e) ∙ h)))))

pub parent_is_at : (m : ℕ) (o : Option Frame) (x : Frame) → o ≡ Some x → is_parent m o ≡ is_number m x.parent
parent_is_at m o x e = ap (is_parent m) e

-- ---- how many children

abbrev pub one_if : Bool → ℕ
one_if b = cond b 1 0

pub children-set : (t : List (Option Frame)) (n : ℕ) (y : Option Frame) (m : ℕ) → n < length t → children_of (set t n y) m + one_if (is_parent m (at t n)) ≡ children_of t m + one_if (is_parent m y)
children-set t n y m lt = sum_by-set (λ x. cond (is_parent m x) 1 0) t n y None lt

pub children-push : (t : List (Option Frame)) (y : Option Frame) (m : ℕ) → children_of (t ++ y ∷ []) m ≡ children_of t m + one_if (is_parent m y)
children-push t y m = sum_by_push (λ x. cond (is_parent m x) 1 0) t y

pub children-cons : (x : Option Frame) (t : List (Option Frame)) (m : ℕ) → children_of (x ∷ t) m ≡ one_if (is_parent m x) + children_of t m
children-cons x t m = sum_by-cons (λ x. cond (is_parent m x) 1 0) x t

pub children_same : (t : List (Option Frame)) (n : ℕ) (x y : Frame) (m : ℕ) → at t n ≡ Some x → y.parent ≡ x.parent → children_of (set t n (Some y)) m ≡ children_of t m
children_same t n x y m e s =
    let a = children-set t n (Some y) m (within t n x e) in
    let same : one_if (is_parent m (at t n)) ≡ one_if (is_parent m (Some y)) = ap (λ o. one_if (is_parent m o)) e ∙ ap (λ q. one_if (is_number m q)) (sym s) in
    omega arith

pub one_at_least : (t : List (Option Frame)) (n m : ℕ) → is_parent m (at t n) ≡ true → 0 < children_of t m
one_at_least t n m h =
    let x = parent_told m (at t n) h in
    let le = get_or-le-sum_by (λ x. cond (is_parent m x) 1 0) t n None (within t n x.0 x.1.1.0) in
    let one : one_if (is_parent m (at t n)) ≡ 1 = ap one_if h in
    omega (arith, le, one)

pub no_child : (t : List (Option Frame)) (n m : ℕ) → children_of t m ≡ 0 → is_parent m (at t n) ≡ true → ⊥
no_child t n m z h = omega (arith, one_at_least t n m h)

pub a_child : (t : List (Option Frame)) (m : ℕ) → 0 < children_of t m → (n : ℕ) × (is_parent m (at t n) ≡ true)
a_child [] m h = absurd (omega arith)
a_child (x ∷ t) m h = go (is_parent m x) refl (λ more. a_child t m more)
  where
    go : (b : Bool) → is_parent m x ≡ b → (0 < children_of t m → (n : ℕ) × (is_parent m (at t n) ≡ true)) → (n : ℕ) × (is_parent m (at (x ∷ t) n) ≡ true)
    go true e later = (zero, e)
    go false e later =
        let none : one_if (is_parent m x) ≡ 0 = ap one_if e in
        let r = later (omega (arith, children-cons x t m, none)) in
        (suc r.0, r.1)

-- no frame lies in one whose number has not been given
pub unborn : (t : List (Option Frame)) (m : ℕ) → IsRooted t → length t ≤ m → children_of t m ≡ 0
unborn t m r h = go (children_of t m) refl
  where
    go : (k : ℕ) → children_of t m ≡ k → k ≡ 0
    go zero e = refl
    go (suc k) e =
        let c = a_child t m (omega arith) in
        let x = parent_told m (at t c.0) c.1 in
        let p = r c.0 x.0 x.1.0 x.1.1.0 x.1.1.1.0 in
        let y = some_of (at t x.1.0.number) p.1 in
        absurd (omega (arith, within t x.1.0.number y.0 y.1, x.1.1.1.1))

-- ---- words

pub words-set : (t : List (Option Frame)) (n : ℕ) (y : Option Frame) → n < length t → all_words (set t n y) + frame_words (at t n) ≡ all_words t + frame_words y
words-set [] n y lt = absurd (omega arith)
words-set (x ∷ t) zero y lt = omega arith
words-set (x ∷ t) (suc n) y lt = omega (arith, words-set t n y (omega arith))

pub words-push : (t : List (Option Frame)) (y : Option Frame) → all_words (t ++ y ∷ []) ≡ all_words t + frame_words y
words-push [] y = omega arith
words-push (x ∷ t) y = omega (arith, words-push t y)

pub words_same : (t : List (Option Frame)) (n : ℕ) (x y : Frame) → at t n ≡ Some x → length y.cells ≡ length x.cells → all_words (set t n (Some y)) ≡ all_words t
words_same t n x y e s =
    let a = words-set t n (Some y) (within t n x e) in
    let w : frame_words (at t n) ≡ frame_words (Some y) = ap frame_words e ∙ ap (λ k. k + 4) (sym s) in
    omega arith

pub words_gone : (t : List (Option Frame)) (n : ℕ) (x : Frame) → at t n ≡ Some x → all_words (set t n None) + (length x.cells + 4) ≡ all_words t
words_gone t n x e =
    let a = words-set t n None (within t n x e) in
    let w : frame_words (at t n) ≡ length x.cells + 4 = ap frame_words e in
    omega arith

-- no more children than words
pub children_few : (t : List (Option Frame)) (m : ℕ) → children_of t m ≤ all_words t
children_few [] m = omega arith
children_few (x ∷ t) m = omega (arith, one_has_words x, children_few t m, children-cons x t m)
  where
    one_has_words : (o : Option Frame) → one_if (is_parent m o) ≤ frame_words o
    one_has_words None = omega arith
    one_has_words (Some y) = at_most_one (is_number m y.parent)
      where
        at_most_one : (b : Bool) → one_if b ≤ frame_words (Some y)
        at_most_one true = omega arith
        at_most_one false = omega arith

-- ---- a frame that lives lies in one that lives

pub rooted_same : (t : List (Option Frame)) (n : ℕ) (x y : Frame) → IsRooted t → at t n ≡ Some x → y.parent ≡ x.parent → IsRooted (set t n (Some y))
rooted_same t n x y r e s m z p ez ep =
    elim (cases_eq n m) as (λ _. (p.number < m) × IsSome (at (set t n (Some y)) p.number)) [
      | inl q ↦
          let here : at (set t n (Some y)) m ≡ Some y = subst (λ k. at (set t n (Some y)) k ≡ Some y) q (get_or-set_same t n (Some y) None (within t n x e)) in
          let is : y ≡ z = (let h : Some y ≡ Some z = sym here ∙ ez in cc) in
          let k = r n x p e (sym s ∙ ap (λ w. w.parent) is ∙ ep) in
          (subst (λ k. p.number < k) q k.0, still p.number k.1)
      | inr ne ↦
          let k = r m z p (sym (other t n m (Some y) ne) ∙ ez) ep in
          (k.0, still p.number k.1)
    ]
  where
    still : (k : ℕ) → IsSome (at t k) → IsSome (at (set t n (Some y)) k)
    still k l =
        elim (cases_eq n k) as (λ _. IsSome (at (set t n (Some y)) k)) [
          | inl q ↦ is_there (at (set t n (Some y)) k) y (subst (λ j. at (set t n (Some y)) j ≡ Some y) q (get_or-set_same t n (Some y) None (within t n x e)))
          | inr ne ↦ subst (λ o. IsSome o) (sym (other t n k (Some y) ne)) l
        ]

pub rooted_gone : (t : List (Option Frame)) (n : ℕ) (x : Frame) → IsRooted t → at t n ≡ Some x → children_of t n ≡ 0 → IsRooted (set t n None)
rooted_gone t n x r e none m z p ez ep =
    elim (cases_eq n m) as (λ _. (p.number < m) × IsSome (at (set t n None) p.number)) [
      | inl q ↦
          let here : at (set t n None) m ≡ None = subst (λ k. at (set t n None) k ≡ None) q (get_or-set_same t n None None (within t n x e)) in
          let no : None ≡ Some z = sym here ∙ ez in
          absurd (cc)
      | inr ne ↦
          let was = sym (other t n m None ne) ∙ ez in
          let k = r m z p was ep in
          let apart : n ≡ p.number → ⊥ = (λ q. no_child t m n none (is_its_parent n (at t m) z p was ep q)) in
          (k.0, subst (λ o. IsSome o) (sym (other t n p.number None apart)) k.1)
    ]

pub rooted_made : (t : List (Option Frame)) (new : Frame) → IsRooted t → LivesIn t new.parent → IsRooted (t ++ Some new ∷ [])
rooted_made t new r alive m z p ez ep =
    elim (pushed t new m z ez) as (λ _. (p.number < m) × IsSome (at (t ++ Some new ∷ []) p.number)) [
      | inl was ↦ let k = r m z p was ep in (k.0, more p.number k.1)
      | inr is ↦
          let h = in_it new.parent alive (ap (λ w. w.parent) is.1 ∙ ep) in
          (omega (arith, within t p.number (some_of (at t p.number) h).0 (some_of (at t p.number) h).1, is.0), more p.number h)
    ]
  where
    more : (k : ℕ) → IsSome (at t k) → IsSome (at (t ++ Some new ∷ []) k)
    more k l =
        let x = some_of (at t k) l in
        subst (λ o. IsSome o) (sym (get_or-append t (Some new ∷ []) None k (within t k x.0 x.1))) l

    in_it : (o : Option FrameId) → LivesIn t o → o ≡ Some p → IsSome (at t p.number)
    in_it None a e = let no : None ≡ Some p = e in absurd (cc)
    in_it (Some q) a e = let s : q ≡ p = cc in subst (λ u. IsSome (at t u.number)) s a
