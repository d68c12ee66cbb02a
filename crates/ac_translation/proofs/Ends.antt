-- What the end of a thread leads to.
-- Only the owner of the block in which it was started may be woken, since no other count has changed: it is woken where it waits and the
-- count is 0, and else nobody is.
use Rattle.std.proofs.Common.{◌≡◌, ◌≢◌, ℕ, ◌+◌, ◌<◌, List, [], ◌∷◌, ◌++◌, Some, None, Bool, true, false, inl, inr, refl, sym, ap, ◌∙◌, subst, arith}
use Rattle.std.specs.List.{sum_by}
use Rattle.std.proofs.lemmas.Bool.{cases_lt, eqb-true, eq-eqb}
use Rattle.work_item.specs.declared.ids.BlockId.{BlockId}
use Rattle.ac_semantics.specs.Work.{closes}
use Rattle.ac_semantics.specs.Threads.{Phase, Active, AtFinish, Ended, Thread, nobody, none_within, woken}
use Rattle.ac_translation.proofs.Tables.{Changed, found, one_is}
use Rattle.ac_translation.proofs.Blocks.{same_block, Lives, alive, entered_of, entered, head_is, direct, at, OwnerOf, Good, Waits, alive_is, held_at, one_owner, none_direct, count_tells}
use Rattle.ac_translation.proofs.Changes.{none_full, direct_change, end_good, leave_good}
use Rattle.ac_translation.proofs.Tracks.{waits_at}
use Rattle.ac_translation.proofs.Wakes.{item, woken_none, woken_one, waits_end}

waits_tells : (p : Phase) (b : BlockId) → waits_at p b ≡ true → p ≡ AtFinish b
waits_tells Active b h = let no : false ≡ true = h in absurd (cc)
waits_tells Ended b h = let no : false ≡ true = h in absurd (cc)
waits_tells (AtFinish c) b h = ap AtFinish (same_block c b (eqb-true c.number b.number h))

waits_true : (p : Phase) (b : BlockId) → p ≡ AtFinish b → waits_at p b ≡ true
waits_true p b e = ap (λ q. waits_at q b) e ∙ eq-eqb b.number b.number refl

-- the living thread t, which has entered nothing, ends
module _ (ts left : List Thread) (t : ℕ) (new : Thread) (change : Changed nobody ts left t new) (blocks : ℕ) (good : Good ts blocks) (waits : Waits ts) (lives : Lives (at ts t).phase)
    (gone : new.phase ≡ Ended) (empty : entered (at ts t) ≡ []) where
  pub left_good : Good left blocks
  left_good = end_good ts left t new change blocks good lives gone empty

  pub one_less : (b : BlockId) → sum_by (direct b) left + head_is b (at ts t).around ≡ sum_by (direct b) ts
  one_less b =
      let k = change.sums (direct b) refl in
      let z : direct b new ≡ 0 = ap (λ p. alive p (head_is b new.around)) gone in
      let y = alive_is (at ts t).phase (head_is b (at ts t).around) lives in
      omega (arith, k, z, y)

  -- where each waiting thread has a count above 0, none is woken
  pub none_woken : Waits left → woken left left 0 ≡ None
  none_woken w = woken_none left left 0 not_yet
    where
      not_yet : (u : ℕ) (b : BlockId) → (at left u).phase ≡ AtFinish b → none_within b left ≡ false
      not_yet u b h = go (none_within b left) refl
        where
          go : (v : Bool) → none_within b left ≡ v → none_within b left ≡ false
          go true n = absurd (let z = none_direct left b n in let p = w u b h in omega (arith, z, p))
          go false n = n

  waits_unless : ((u : ℕ) (b : BlockId) → (at left u).phase ≡ AtFinish b → sum_by (direct b) left ≡ 0 → ⊥) → Waits left
  waits_unless h u b e =
      elim (cases_lt 0 (sum_by (direct b) left)) as (λ _. 0 < sum_by (direct b) left) [
        | inl p ↦ p
        | inr p ↦ absurd (h u b e (omega (arith, p)))
      ]

  module _ (b0 : BlockId) (rest : List BlockId) (around : (at ts t).around ≡ b0 ∷ rest) (own : OwnerOf ts b0 rest) where
    other : t ≢ own.owner
    other e = none_full b0 own.inside own.outside (sym empty ∙ subst (λ z. entered (at ts z) ≡ own.inside ++ b0 ∷ own.outside) (sym e) own.has)

    owner_is : at left own.owner ≡ at ts own.owner
    owner_is = change.there own.owner other

    -- who waits with a count of 0 is the owner of the block of t
    waiter : (u : ℕ) (b : BlockId) → (at left u).phase ≡ AtFinish b → sum_by (direct b) left ≡ 0 → (b ≡ b0) × (u ≡ own.owner)
    waiter u b h z =
        let k : 0 < head_is b (at ts t).around = waits_end ts left t new change gone waits u b h z in
        let s : b ≡ b0 = same_block b b0 (one_is b.number b0.number (subst (λ l. 0 < head_is b l) around k)) in
        let lu : Lives (at left u).phase = subst Lives (sym h) tt in
        let eu : entered (at left u) ≡ b ∷ closes (at left u).work = ap (λ p. entered_of p (closes (at left u).work)) h in
        let eu' : entered (at left u) ≡ [] ++ b0 ∷ closes (at left u).work = eu ∙ ap (λ x. x ∷ closes (at left u).work) s in
        let hu = held_at left u b0 [] (closes (at left u).work) lu eu' in
        let lo : Lives (at left own.owner).phase = subst (λ (x : Thread). Lives x.phase) (sym owner_is) own.lives in
        let ho = held_at left own.owner b0 own.inside own.outside lo (ap entered owner_is ∙ own.has) in
        (s, one_owner left own.owner u b0 (left_good.once b0) (omega (arith, ho)) (omega (arith, hu)))

    -- threads are left that were started directly in the block
    pub some_left : 0 < sum_by (direct b0) left → Waits left
    some_left p = waits_unless (λ u b h z. let s = (waiter u b h z).0 in let y : sum_by (direct b0) left ≡ 0 = subst (λ c. sum_by (direct c) left ≡ 0) s z in omega (arith, y, p))

    -- the owner has not arrived
    pub not_arrived : waits_at (at ts own.owner).phase b0 ≡ false → Waits left
    not_arrived q =
        waits_unless (λ u b h z.
        let w = waiter u b h z in
        let same : (at ts own.owner).phase ≡ AtFinish b0 = ap (λ (x : Thread). x.phase) (sym owner_is) ∙ ap (λ v. (at left v).phase) (sym w.1) ∙ h ∙ ap AtFinish w.0 in
        let yes = waits_true (at ts own.owner).phase b0 same in
        let no : true ≡ false = sym yes ∙ q in
        cc)

    -- the owner waits, and t was the last
    module _ (none : sum_by (direct b0) left ≡ 0) (arrived : waits_at (at ts own.owner).phase b0 ≡ true) where
      pub at_finish : (at left own.owner).phase ≡ AtFinish b0
      at_finish = ap (λ (x : Thread). x.phase) owner_is ∙ waits_tells (at ts own.owner).phase b0 arrived

      pub has_entered : entered (at left own.owner) ≡ b0 ∷ closes (at left own.owner).work
      has_entered = ap (λ p. entered_of p (closes (at left own.owner).work)) at_finish

      pub owner_lives : Lives (at left own.owner).phase
      owner_lives = subst Lives (sym at_finish) tt

      nobody_within : none_within b0 left ≡ true
      nobody_within =
          sym (count_tells left blocks left_good own.owner b0 (closes (at left own.owner).work) owner_lives has_entered) ∙ eq-eqb (sum_by (direct b0) left) 0 none

      pub owner_woken : woken left left 0 ≡ Some (item own.owner)
      owner_woken =
          let z : 0 + own.owner ≡ own.owner = omega arith in
          woken_one left left 0 own.owner b0 at_finish nobody_within (λ u c h n. (waiter u c h (none_direct left c n)).1) ∙ ap (λ n. Some (item n)) z

      abbrev pub freed : Thread
      freed = record (at left own.owner) { phase = Active }

      module _ (next : List Thread) (frees : Changed nobody left next own.owner freed) where
        pub freed_good : Good next blocks
        freed_good = leave_good left next own.owner freed frees blocks left_good b0 (closes (at left own.owner).work) owner_lives tt refl has_entered refl nobody_within

        pub freed_waits : Waits next
        freed_waits u b e =
            let d = direct_change left next own.owner freed frees owner_lives tt refl b in
            elim (found nobody left next own.owner freed frees u) as (λ _. 0 < sum_by (direct b) next) [
              | inl q ↦ absurd (let no : Active ≡ AtFinish b = ap (λ (x : Thread). x.phase) (sym q.1) ∙ e in cc)
              | inr q ↦
                  elim (cases_lt 0 (sum_by (direct b) left)) as (λ _. 0 < sum_by (direct b) next) [
                    | inl p ↦ omega (arith, d, p)
                    | inr p ↦ absurd (q.0 (sym (waiter u b (ap (λ (x : Thread). x.phase) (sym q.1) ∙ e) (omega (arith, p))).1))
                  ]
            ]
