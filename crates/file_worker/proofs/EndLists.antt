-- The ends of all cores as one list, and the worker's ends of all links, once those of one core have changed.
use Rattle.std.proofs.Common.{◌≡◌, ℕ, zero, suc, ◌+◌, ◌-◌, ◌<◌, ◌≤◌, List, [], ◌∷◌, Some, Bool, true, false, cond, inl, inr, refl, sym, ap, ◌∙◌, subst, arith, length, slice_index_or, slice_set}
use Rattle.std.specs.Prelude.{◌≢◌, slice_get, nat_le}
use Rattle.std.proofs.Math.Path.{fun_ext}
use Rattle.std.proofs.lemmas.Bool.Decides.{eqb_tells, nat_tests}
use Rattle.std.proofs.lemmas.Option.{slice_get_within}
use Rattle.ac_base.specs.declared.entry.Payload.{Payload}
use Rattle.ac_links.specs.Party.{with_end}
use Rattle.ac_links.specs.Party.LinkEnd.{Absent}
use Rattle.channel_ends.specs.Receiving.{Receiving}
use Rattle.request_ends.specs.Replying.{Replying}
use Rattle.file_worker.specs.Ends.{CoreEnds, core_ends, end_of, end_or_absent, worker_ends, AtEach}

module _ {X : Type 0} where
  pub set_same : (xs : List X) (k : ℕ) (y : X) → k < length xs → slice_get (slice_set xs k y) k ≡ Some y
  set_same [] k y h = absurd (omega arith)
  set_same (x ∷ xs) zero y h = refl
  set_same (x ∷ xs) (suc k) y h = set_same xs k y (omega arith)

  pub set_other : (xs : List X) (k l : ℕ) (y : X) → k ≢ l → slice_get (slice_set xs k y) l ≡ slice_get xs l
  set_other [] k l y n = refl
  set_other (x ∷ xs) zero zero y n = absurd (n refl)
  set_other (x ∷ xs) zero (suc l) y n = refl
  set_other (x ∷ xs) (suc k) zero y n = refl
  set_other (x ∷ xs) (suc k) (suc l) y n = set_other xs k l y (λ e. n (ap suc e))

  pub same_some : (x y : X) → Some x ≡ Some y → x ≡ y
  same_some x y e = cc

  pub found : (xs : List X) (k : ℕ) → k < length xs → (x : X) × (slice_get xs k ≡ Some x)
  found [] k h = absurd (omega arith)
  found (x ∷ xs) zero h = (x, refl)
  found (x ∷ xs) (suc k) h = found xs k (omega arith)

-- ---- both ends of each core

pub ends_long : (xs : List (Receiving Payload)) (rs : List Replying) → length xs ≡ length rs → length (core_ends xs rs) ≡ length xs
ends_long [] rs e = refl
ends_long (a ∷ xs) [] e = cc
ends_long (a ∷ xs) (r ∷ rs) e = ap suc (ends_long xs rs (omega (arith, e)))

pub ends_set : (xs : List (Receiving Payload)) (rs : List Replying) (k : ℕ) (a : Receiving Payload) (r : Replying)
    → core_ends (slice_set xs k a) (slice_set rs k r) ≡ slice_set (core_ends xs rs) k (record { ask = a; reply = r })
ends_set [] rs k a r = refl
ends_set (x ∷ xs) [] zero a r = refl
ends_set (x ∷ xs) [] (suc k) a r = refl
ends_set (x ∷ xs) (q ∷ rs) zero a r = refl
ends_set (x ∷ xs) (q ∷ rs) (suc k) a r = ap (λ l. record { ask = x; reply = q } ∷ l) (ends_set xs rs k a r)

pub ends_get : (xs : List (Receiving Payload)) (rs : List Replying) (k : ℕ) (a : Receiving Payload) (r : Replying) → k < length xs → length xs ≡ length rs → a ≡ slice_index_or xs k a
    → r ≡ slice_index_or rs k r → slice_get (core_ends xs rs) k ≡ Some (record { ask = a; reply = r })
ends_get [] rs k a r h l e f = absurd (omega arith)
ends_get (x ∷ xs) [] k a r h l e f = cc
ends_get (x ∷ xs) (q ∷ rs) zero a r h l e f = ap (λ b. Some (record { ask = b; reply = q })) (sym e) ∙ ap (λ b. Some (record { ask = a; reply = b })) (sym f)
ends_get (x ∷ xs) (q ∷ rs) (suc k) a r h l e f = ends_get xs rs k a r (omega arith) (omega (arith, l)) e f

-- ---- what is so of each core

module _ (R : CoreEnds → CoreEnds → Type 0) (ends : List CoreEnds) (core : ℕ) (a b : CoreEnds) (was : slice_get ends core ≡ Some a) where
  pub each_of_one : ((e : CoreEnds) → R e e) → R a b → AtEach R ends (slice_set ends core b)
  each_of_one same one c x y p q = elim (eqb_tells core c) [
    | inl w ↦
        let here : core ≡ c = w.1 in
        let old : a ≡ x = same_some a x (sym was ∙ ap (slice_get ends) here ∙ p) in
        let new : b ≡ y = same_some b y (sym (set_same ends core b (slice_get_within ends core a was)) ∙ ap (slice_get (slice_set ends core b)) here ∙ q) in
        subst (λ v. R v y) old (subst (R a) new one)
    | inr w ↦
        let still : x ≡ y = same_some x y (sym p ∙ sym (set_other ends core c b w.1) ∙ q) in
        subst (R x) still (same x)
  ]

-- ---- the ends of all links

at_own : (first core : ℕ) → (nat_le first (first + core) ≡ true) × (first + core - first ≡ core)
at_own first core = (grind (arith, nat_tests), omega arith)

pub own_end : (first : ℕ) (ends : List CoreEnds) (core : ℕ) (a : CoreEnds) → slice_get ends core ≡ Some a → worker_ends first ends (first + core) ≡ end_of a
own_end first ends core a was =
    let own = at_own first core in
    ap (λ c. cond c (end_or_absent (slice_get ends (first + core - first))) Absent) own.0 ∙ ap (λ n. end_or_absent (slice_get ends n)) own.1 ∙ ap end_or_absent was

pub kept_ends : (first : ℕ) (ends : List CoreEnds) (core : ℕ) (a b : CoreEnds) → slice_get ends core ≡ Some a → end_of b ≡ end_of a
    → worker_ends first (slice_set ends core b) ≡ worker_ends first ends
kept_ends first ends core a b was e = fun_ext (λ l. ap (λ x. cond (nat_le first l) x Absent) (elim (eqb_tells core (l - first)) [
  | inl w ↦
      let within : core < length ends = slice_get_within ends core a was in
      subst (λ m. end_or_absent (slice_get (slice_set ends core b) m) ≡ end_or_absent (slice_get ends m)) w.1
      (ap end_or_absent (set_same ends core b within) ∙ e ∙ sym (ap end_or_absent was))
  | inr w ↦ ap end_or_absent (set_other ends core (l - first) b w.1)
]))

other_link : (first : ℕ) (ends : List CoreEnds) (core : ℕ) (b : CoreEnds) (l : ℕ) → first + core ≢ l → (c : Bool) → nat_le first l ≡ c
    → cond c (end_or_absent (slice_get (slice_set ends core b) (l - first))) Absent ≡ cond c (end_or_absent (slice_get ends (l - first))) Absent
other_link first ends core b l n true e =
    let up : first ≤ l = grind (arith, nat_tests) in
    let apart : core ≢ l - first = λ q. n (omega (arith, q, up)) in
    ap end_or_absent (set_other ends core (l - first) b apart)
other_link first ends core b l n false e = refl

pub changed_ends : (first : ℕ) (ends : List CoreEnds) (core : ℕ) (b : CoreEnds) → core < length ends
    → worker_ends first (slice_set ends core b) ≡ with_end (worker_ends first ends) (first + core) (end_of b)
changed_ends first ends core b within = fun_ext (λ l. elim (eqb_tells (first + core) l) [
  | inl w ↦
      sym (ap (worker_ends first (slice_set ends core b)) w.1) ∙ own_end first (slice_set ends core b) core b (set_same ends core b within)
      ∙ sym (ap (λ c. cond c (end_of b) (worker_ends first ends l)) w.0)
  | inr w ↦ other_link first ends core b l w.1 (nat_le first l) refl ∙ sym (ap (λ c. cond c (end_of b) (worker_ends first ends l)) w.0)
])

-- the end that is read at a place is that of the core
pub ends_ask : (xs : List (Receiving Payload)) (rs : List Replying) (k : ℕ) (e : CoreEnds) (a : Receiving Payload) → slice_get (core_ends xs rs) k ≡ Some e → a ≡ slice_index_or xs k a → a ≡ e.ask
ends_ask [] rs k e a at f = cc
ends_ask (x ∷ xs) [] k e a at f = cc
ends_ask (x ∷ xs) (q ∷ rs) zero e a at f = f ∙ ap (λ (v : CoreEnds). v.ask) (same_some (record { ask = x; reply = q }) e at)
ends_ask (x ∷ xs) (q ∷ rs) (suc k) e a at f = ends_ask xs rs k e a at f
