-- Who runs, is ready or waits, and whom the end of a thread wakes.
-- The source finds the woken thread by a search over all threads; here it is shown that the search finds none, or this one. `Listed` says
-- that just the active threads are listed, each once, and how the lists change with them.
use Rattle.std.proofs.Common.{◌≡◌, ◌≢◌, ℕ, zero, suc, ◌+◌, ◌<◌, ◌≤◌, List, [], ◌∷◌, Option, Some, None, Bool, true, false, inl, inr, refl, sym, ap, ◌∙◌, subst, arith}
use Rattle.std.specs.List.{sum_by}
use Rattle.work_item.specs.declared.ids.Item.{Item}
use Rattle.work_item.specs.declared.ids.BlockId.{BlockId}
use Rattle.cancel_scope.specs.declared.operation.Operation.{Operation}
use Rattle.ac_semantics.specs.Threads.{Phase, Active, AtFinish, Ended, Thread, nobody, none_within, may_pass, woken}
use Rattle.ac_translation.proofs.Tables.{Changed, found, one, occ, one_same, one_other}
use Rattle.ac_translation.proofs.Blocks.{alive, head_is, direct, at, Waits}

-- ---- who is woken

pub woken_none : (all ts : List Thread) (k : ℕ) → ((u : ℕ) (b : BlockId) → (at ts u).phase ≡ AtFinish b → none_within b all ≡ false) → woken all ts k ≡ None
woken_none all [] k h = refl
woken_none all (t ∷ ts) k h = go t.phase refl (woken_none all ts (k + 1) (λ u b e. h (suc u) b e))
  where
    never : (p : Phase) → t.phase ≡ p → may_pass all p ≡ false
    never Active e = refl
    never Ended e = refl
    never (AtFinish b) e = h 0 b e

    go : (p : Phase) → t.phase ≡ p → woken all ts (k + 1) ≡ None → woken all (t ∷ ts) k ≡ None
    go p e r = let f = ap (may_pass all) e ∙ never p e in rw f r

abbrev pub item : ℕ → Item
item n = record { number = n }

pub woken_one : (all ts : List Thread) (k o : ℕ) (b : BlockId) → (at ts o).phase ≡ AtFinish b → none_within b all ≡ true
    → ((u : ℕ) (c : BlockId) → (at ts u).phase ≡ AtFinish c → none_within c all ≡ true → u ≡ o) → woken all ts k ≡ Some (item (k + o))
woken_one all [] k o b e h only = absurd (let no : Ended ≡ AtFinish b = e in cc)
woken_one all (t ∷ ts) k zero b e h only =
    let f : may_pass all t.phase ≡ true = ap (may_pass all) e ∙ h in
    let z : k ≡ k + 0 = omega arith in
    rw f (ap (λ n. Some (item n)) z)
woken_one all (t ∷ ts) k (suc o) b e h only =
    let more = woken_one all ts (k + 1) o b e h (λ u c q n. let s = only (suc u) c q n in omega (arith, s)) in
    let z : k + 1 + o ≡ k + suc o = omega arith in
    go t.phase refl (more ∙ ap (λ n. Some (item n)) z)
  where
    never : (p : Phase) → t.phase ≡ p → may_pass all p ≡ false
    never Active e = refl
    never Ended e = refl
    never (AtFinish c) e = by (none_within c all) refl
      where
        by : (q : Bool) → none_within c all ≡ q → none_within c all ≡ false
        by true n = absurd (let s = only 0 c e n in omega (arith, s))
        by false n = n

    go : (p : Phase) → t.phase ≡ p → woken all ts (k + 1) ≡ Some (item (k + suc o)) → woken all (t ∷ ts) k ≡ Some (item (k + suc o))
    go p e r = let f = ap (may_pass all) e ∙ never p e in rw f r

-- ---- who runs or is ready

abbrev pub active : Phase → ℕ
active Active = 1
active (AtFinish b) = 0
active Ended = 0

pub is_active : (p : Phase) → 0 < active p → p ≡ Active
is_active Active h = refl
is_active (AtFinish b) h = absurd (omega (arith, h))
is_active Ended h = absurd (omega (arith, h))

abbrev pub running_is : ℕ → Option Item → ℕ
running_is u None = 0
running_is u (Some t) = one u t.number

-- how often the thread of that number stands in a list
abbrev pub listed_as : ℕ → List Item → ℕ
listed_as u ready = occ (λ (x : Item). x.number) u ready

-- for how many operations the thread of that number waits
abbrev pub asked_by : ℕ → List Operation → ℕ
asked_by u operations = occ (λ (o : Operation). o.item.number) u operations

-- just the active threads run, are ready or wait for the end of an operation, each once
abbrev pub Listed : List Thread → List Operation → List Item → Option Item → Type 0
Listed ts operations ready running = (u : ℕ) → running_is u running + listed_as u ready + asked_by u operations ≡ active (at ts u).phase

small : (p : Phase) → active p ≤ 1
small Active = omega arith
small (AtFinish b) = omega arith
small Ended = omega arith

-- the running thread waits for none
pub runs_without : (ts : List Thread) (operations : List Operation) (ready : List Item) (t : Item) → Listed ts operations ready (Some t) → asked_by t.number operations ≡ 0
runs_without ts operations ready t h =
    let k = h t.number in
    let o = one_same t.number in
    let le = small (at ts t.number).phase in
    omega (arith, k, o, le)

module _ (ts ts' : List Thread) (t : ℕ) (new : Thread) (change : Changed nobody ts ts' t new) where
  pub listed_same : (operations : List Operation) (ready : List Item) (running : Option Item) → new.phase ≡ (at ts t).phase → Listed ts operations ready running
      → Listed ts' operations ready running
  listed_same operations ready running p h u =
      elim (found nobody ts ts' t new change u) as (λ _. running_is u running + listed_as u ready + asked_by u operations ≡ active (at ts' u).phase) [
        | inl q ↦ h u ∙ ap (λ z. active (at ts z).phase) (sym q.0) ∙ ap active (sym p) ∙ ap (λ (x : Thread). active x.phase) (sym q.1)
        | inr q ↦ h u ∙ ap (λ (x : Thread). active x.phase) (sym q.1)
      ]

  -- the running thread runs no more
  pub listed_gone : (operations : List Operation) (ready : List Item) (running : Item) → running.number ≡ t → active new.phase ≡ 0 → Listed ts operations ready (Some running)
      → Listed ts' operations ready None
  listed_gone operations ready running is p h u =
      elim (found nobody ts ts' t new change u) as (λ _. 0 + listed_as u ready + asked_by u operations ≡ active (at ts' u).phase) [
        | inl q ↦
            let x = h u in
            let k : one u running.number ≡ 1 = subst (λ z. one u z ≡ 1) (sym (is ∙ q.0)) (one_same u) in
            let a = ap (λ (x : Thread). active x.phase) q.1 in
            let le : active (at ts u).phase ≤ 1 = small (at ts u).phase in
            omega (arith, x, k, a, p, le)
        | inr q ↦
            let x = h u in
            let ne : u ≢ running.number = (λ e. q.0 (sym (e ∙ is))) in
            let k = one_other u running.number ne in
            let a = ap (λ (x : Thread). active x.phase) q.1 in
            omega (arith, x, k, a)
      ]

  -- a thread is born or wakes, and is put in front of a list or runs
  pub listed_new : (operations : List Operation) (ready ready' : List Item) (was now : Option Item) → active (at ts t).phase ≡ 0 → active new.phase ≡ 1
      → ((u : ℕ) → running_is u now + listed_as u ready' ≡ one u t + (running_is u was + listed_as u ready)) → Listed ts operations ready was → Listed ts' operations ready' now
  listed_new operations ready ready' was now p pn more h u =
      elim (found nobody ts ts' t new change u) as (λ _. running_is u now + listed_as u ready' + asked_by u operations ≡ active (at ts' u).phase) [
        | inl q ↦
            let x = h u in
            let m = more u in
            let k : one u t ≡ 1 = subst (λ z. one u z ≡ 1) (sym q.0) (one_same u) in
            let a = ap (λ (x : Thread). active x.phase) q.1 in
            let b = ap (λ z. active (at ts z).phase) q.0 in
            omega (arith, x, m, k, a, b, p, pn)
        | inr q ↦
            let x = h u in
            let m = more u in
            let ne : u ≢ t = (λ e. q.0 (sym e)) in
            let k = one_other u t ne in
            let a = ap (λ (x : Thread). active x.phase) q.1 in
            omega (arith, x, m, k, a)
      ]

  -- ---- who waits

  pub waits_change : Waits ts → ((b : BlockId) → sum_by (direct b) ts' ≡ sum_by (direct b) ts) → ((b : BlockId) → new.phase ≡ AtFinish b → 0 < sum_by (direct b) ts) → Waits ts'
  waits_change w d mine u b e =
      let k = d b in
      elim (found nobody ts ts' t new change u) as (λ _. 0 < sum_by (direct b) ts') [
        | inl q ↦ let h = mine b (ap (λ (x : Thread). x.phase) (sym q.1) ∙ e) in omega (arith, k, h)
        | inr q ↦ let h = w u b (ap (λ (x : Thread). x.phase) (sym q.1) ∙ e) in omega (arith, k, h)
      ]

  pub waits_start : (at ts t).phase ≡ Ended → new.phase ≡ Active → Waits ts → Waits ts'
  waits_start gone p w u b e =
      elim (found nobody ts ts' t new change u) as (λ _. 0 < sum_by (direct b) ts') [
        | inl q ↦ absurd (let no : Active ≡ AtFinish b = sym p ∙ ap (λ (x : Thread). x.phase) (sym q.1) ∙ e in cc)
        | inr q ↦
            let h = w u b (ap (λ (x : Thread). x.phase) (sym q.1) ∙ e) in
            let k = change.sums (direct b) refl in
            let z : direct b (at ts t) ≡ 0 = ap (λ p. alive p (head_is b (at ts t).around)) gone in
            omega (arith, h, k, z)
      ]

  -- where t has ended, only for t's own block may the count now be 0
  pub waits_end : new.phase ≡ Ended → Waits ts → (u : ℕ) (b : BlockId) → (at ts' u).phase ≡ AtFinish b → sum_by (direct b) ts' ≡ 0 → 0 < head_is b (at ts t).around
  waits_end p w u b e z =
      elim (found nobody ts ts' t new change u) as (λ _. 0 < head_is b (at ts t).around) [
        | inl q ↦ absurd (let no : Ended ≡ AtFinish b = sym p ∙ ap (λ (x : Thread). x.phase) (sym q.1) ∙ e in cc)
        | inr q ↦
            let h = w u b (ap (λ (x : Thread). x.phase) (sym q.1) ∙ e) in
            let k = change.sums (direct b) refl in
            let y : direct b new ≡ 0 = ap (λ p. alive p (head_is b new.around)) p in
            let x = less (at ts t).phase (head_is b (at ts t).around) in
            omega (arith, h, k, y, x, z)
      ]
    where
      less : (p : Phase) (n : ℕ) → alive p n ≤ n
      less Active n = omega arith
      less (AtFinish b) n = omega arith
      less Ended n = omega arith
