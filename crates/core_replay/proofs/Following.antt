-- How far a core follows a journal. It has a run under what it has taken, and under no journal that goes on with the entry that it refused,
-- since each front of a journal that has a run has one.
use Rattle.std.proofs.Common.{◌≡◌, ℕ, zero, suc, ◌+◌, ◌<◌, ◌≤◌, List, [], ◌∷◌, ◌++◌, take, Some, refl, sym, ap, ◌∙◌, subst, inl, inr, add-one, arith, length}
use Rattle.std.specs.Prelude.{slice_get}
use Rattle.std.proofs.lemmas.Bool.Decides.{leb_tells}
use Rattle.std.proofs.lemmas.Option.{slice_get_within}
use Rattle.ac_base.specs.declared.entry.Entry.{Entry}
use Rattle.stack_code.specs.Kept.{IsRanked}
use Rattle.stack_code.specs.Parts.{Parts}
use Rattle.stack_code.specs.Valid.{IsValid}
use Rattle.replay_laws.specs.Given.{HasRun}
use Rattle.core_replay.specs.Following.{IsFront, MisfitsAt}
use Rattle.core_replay.specs.Replayed.{IsSameCore, Replayed}
use Rattle.core_replay.proofs.Fronts.{front_runs}

goes_on : {X : Type 0} (xs : List X) (m k : ℕ) → m ≤ k → (rest : List X) × (take k xs ≡ take m xs ++ rest)
goes_on xs zero k h = (take k xs, refl)
goes_on xs (suc m) zero h = absurd (omega arith)
goes_on [] (suc m) (suc k) h = ([], refl)
goes_on (x ∷ xs) (suc m) (suc k) h = let more = goes_on xs m k (omega arith) in (more.0, ap (λ zs. x ∷ zs) more.1)

pub take_next : {X : Type 0} (xs : List X) (k : ℕ) (x : X) → slice_get xs k ≡ Some x → take (suc k) xs ≡ take k xs ++ x ∷ []
take_next [] k x h = cc
take_next (y ∷ ys) zero x h = let e : y ≡ x = cc in ap (λ z. z ∷ []) e
take_next (y ∷ ys) (suc k) x h = ap (λ zs. y ∷ zs) (take_next ys k x h)

-- ---- fronts of a journal

pub take_whole : {X : Type 0} (xs : List X) (k : ℕ) → length xs ≤ k → take k xs ≡ xs
take_whole [] zero le = refl
take_whole [] (suc k) le = refl
take_whole (x ∷ xs) zero le = absurd (omega (arith, le))
take_whole (x ∷ xs) (suc k) le = ap (λ ys. x ∷ ys) (take_whole xs k (omega (arith, le)))

so_long : {X : Type 0} (xs : List X) (k : ℕ) → take (length (take k xs)) xs ≡ take k xs
so_long xs zero = refl
so_long [] (suc k) = refl
so_long (x ∷ xs) (suc k) = ap (λ ys. x ∷ ys) (so_long xs k)

pub is_front : (journal front : List Entry) (k : ℕ) → front ≡ take k journal → IsFront journal front
is_front journal front k is = record { is_front = is ∙ sym (so_long journal k) ∙ ap (λ (es : List Entry). take (length es) journal) (sym is) }

pub next_front : (journal : List Entry) (place : ℕ) (e : Entry) → slice_get journal place ≡ Some e → (was now : List Entry) → was ≡ take place journal → now ≡ was ++ e ∷ []
    → now ≡ take (place + 1) journal
next_front journal place e here was now before more =
    more ∙ ap (λ (es : List Entry). es ++ e ∷ []) before ∙ sym (take_next journal place e here) ∙ ap (λ k. take k journal) (sym (add-one place))

-- ---- the same core

pub same_run : (r s : Replayed) → IsSameCore r s → (front : List Entry) → s.journal ≡ front → HasRun s.code s.core s.bound s.journal → HasRun r.code r.core r.bound front
same_run r s same front is run =
    subst (λ (c : Parts). HasRun c r.core r.bound front) same.code
    (subst (λ (k : ℕ). HasRun s.code k r.bound front) same.core
    (subst (λ (b : ℕ). HasRun s.code s.core b front) same.bound
    (subst (HasRun s.code s.core s.bound) is run)))

pub same_refusal : (r s : Replayed) → IsSameCore r s → (front : List Entry) → s.journal ≡ front → (e : Entry) → (HasRun s.code s.core s.bound (s.journal ++ e ∷ []) → ⊥)
    → HasRun r.code r.core r.bound (front ++ e ∷ []) → ⊥
same_refusal r s same front is e never run =
    never (subst (λ (c : Parts). HasRun c s.core s.bound (s.journal ++ e ∷ [])) (sym same.code)
    (subst (λ (k : ℕ). HasRun r.code k s.bound (s.journal ++ e ∷ [])) (sym same.core)
    (subst (λ (b : ℕ). HasRun r.code r.core b (s.journal ++ e ∷ [])) (sym same.bound)
    (subst (λ (es : List Entry). HasRun r.code r.core r.bound (es ++ e ∷ [])) (sym is) run))))

pub same_still : (r s t : Replayed) → IsSameCore r s → IsSameCore s t → IsSameCore r t
same_still r s t a b = record { code = b.code ∙ a.code; core = b.core ∙ a.core; bound = b.bound ∙ a.bound }

-- ---- how far it has followed

-- so many entries have come in
pub record HasFollowed (r : Replayed) (journal : List Entry) (n : ℕ) : Type 0 where
  pub runs : (k : ℕ) → k ≤ n → HasRun r.code r.core r.bound (take k journal)

pub followed_none : (r : Replayed) (journal : List Entry) → HasRun r.code r.core r.bound [] → HasFollowed r journal 0
followed_none r journal h = record {
  runs = λ k le. let none : 0 ≡ k = omega arith in subst (λ n. HasRun r.code r.core r.bound (take n journal)) none h;
}

pub followed_more : (r : Replayed) (journal : List Entry) (n : ℕ) → HasFollowed r journal n → HasRun r.code r.core r.bound (take (n + 1) journal) → HasFollowed r journal (n + 1)
followed_more r journal n h more = record {
  runs = λ k le. elim (leb_tells (n + 1) k) [
    | inl q ↦ let same : n + 1 ≡ k = omega arith in subst (λ i. HasRun r.code r.core r.bound (take i journal)) same more
    | inr q ↦ h.runs k (omega arith)
  ];
}

module _ (r : Replayed) (ranks : List ℕ) (valid : IsValid r.code) (ranked : IsRanked r.code ranks) (journal : List Entry) (place : ℕ) (e : Entry)
    (here : slice_get journal place ≡ Some e) (refused : HasRun r.code r.core r.bound (take place journal ++ e ∷ []) → ⊥) where
  no_longer : (k : ℕ) → place < k → HasRun r.code r.core r.bound (take k journal) → ⊥
  no_longer k lt run =
      let more = goes_on journal (suc place) k (omega arith) in
      refused (subst (HasRun r.code r.core r.bound) (take_next journal place e here)
      (front_runs r.code r.core r.bound ranks valid ranked (take (suc place) journal) more.0 (subst (HasRun r.code r.core r.bound) more.1 run)))

  pub misfits_at : HasFollowed r journal place → MisfitsAt r journal place
  misfits_at h = record { within = slice_get_within journal place e here; runs = h.runs; none = no_longer }
