-- How what holds of threads and blocks is kept where one thread changes.
-- `Good` (Blocks) under each kind of change: a thread goes on, enters a block, leaves one in which nobody lives, ends, or is started. Each
-- is a law on one table that differs from another in one place (Tables).
use Rattle.std.proofs.Common.{◌≡◌, ◌≢◌, ℕ, ◌+◌, ◌≤◌, List, [], ◌∷◌, ◌++◌, true, false, inl, inr, refl, sym, ap, ◌∙◌, subst, arith}
use Rattle.std.specs.List.{sum_by}
use Rattle.std.proofs.lemmas.Bool.{cases_eq}
use Rattle.work_item.specs.declared.ids.BlockId.{BlockId}
use Rattle.ac_semantics.specs.Threads.{Phase, Active, AtFinish, Ended, Thread, nobody, none_within}
use Rattle.ac_translation.proofs.Tables.{Changed, found, one, one_same, one_other}
use Rattle.ac_translation.proofs.Blocks.{among, Lives, alive, entered, head_is, held, direct, at, OwnerOf, Good, Falls, falls_below, path_of, alive_is, within_is, none_true}

pub none_full : (c : BlockId) (inside outside : List BlockId) → [] ≡ inside ++ c ∷ outside → ⊥
none_full c [] outside q = cc
none_full c (i ∷ is) outside q = cc

-- the table is changed at t alone
module _ (ts ts' : List Thread) (t : ℕ) (new : Thread) (change : Changed nobody ts ts' t new) where
  abbrev old : Thread
  old = at ts t

  -- a thread that changes is not the owner
  pub other_owner : (c : BlockId) (rest : List BlockId) (o : OwnerOf ts c rest) → t ≢ o.owner → OwnerOf ts' c rest
  other_owner c rest o ne =
      let e = sym (change.there o.owner ne) in
      record {
        owner = o.owner;
        lives = subst (λ (x : Thread). Lives x.phase) e o.lives;
        inside = o.inside;
        outside = o.outside;
        has = subst (λ x. entered x ≡ o.inside ++ c ∷ o.outside) e o.has;
        round = subst (λ (x : Thread). rest ≡ o.outside ++ x.around) e o.round;
      }

  held_change : (b : BlockId) → Lives old.phase → Lives new.phase → sum_by (held b) ts' + among b (entered old) ≡ sum_by (held b) ts + among b (entered new)
  held_change b lo ln =
      let a = change.sums (held b) refl in
      let x = alive_is old.phase (among b (entered old)) lo in
      let y = alive_is new.phase (among b (entered new)) ln in
      omega (arith, a, x, y)

  pub direct_change : Lives old.phase → Lives new.phase → new.around ≡ old.around → (b : BlockId) → sum_by (direct b) ts' ≡ sum_by (direct b) ts
  direct_change lo ln same b =
      let a = change.sums (direct b) refl in
      let x = alive_is old.phase (head_is b old.around) lo in
      let y = alive_is new.phase (head_is b new.around) ln in
      let z : head_is b new.around ≡ head_is b old.around = ap (head_is b) same in
      omega (arith, a, x, y, z)

  module _ (blocks : ℕ) (good : Good ts blocks) where
    -- the thread lives before and after, and is what the other threads need of it
    change_good : (blocks' : ℕ) → Lives old.phase → Lives new.phase → new.around ≡ old.around →
        blocks ≤ blocks' → (Falls blocks (path_of old) → Falls blocks' (path_of new)) →
        ((u : ℕ) (c : BlockId) (rest inside outside : List BlockId) → Lives (at ts u).phase → (at ts u).around ≡ c ∷ rest → entered old ≡ inside ++ c ∷ outside
        → (more : List BlockId) × (entered new ≡ more ++ c ∷ outside)) →
        ((b : BlockId) → sum_by (held b) ts' ≤ 1) → ((b : BlockId) → blocks' ≤ b.number → sum_by (held b) ts' ≡ 0) → Good ts' blocks'
    change_good blocks' lo ln same more path keep once fresh = record { nested = nested; once = once; fresh = fresh; falls = falls }
      where
        falls : (u : ℕ) → Lives (at ts' u).phase → Falls blocks' (path_of (at ts' u))
        falls u l =
            elim (found nobody ts ts' t new change u) as (λ _. Falls blocks' (path_of (at ts' u))) [
              | inl q ↦ subst (λ x. Falls blocks' (path_of x)) (sym q.1) (path (good.falls t lo))
              | inr q ↦ subst (λ x. Falls blocks' (path_of x)) (sym q.1) (falls_below blocks blocks' (path_of (at ts u)) more (good.falls u (subst (λ (x : Thread). Lives x.phase) q.1 l)))
            ]

        mine : (u : ℕ) (c : BlockId) (rest : List BlockId) → Lives (at ts u).phase → (at ts u).around ≡ c ∷ rest → (o : OwnerOf ts c rest) → t ≡ o.owner → OwnerOf ts' c rest
        mine u c rest l e o q =
            let was : entered old ≡ o.inside ++ c ∷ o.outside = subst (λ z. entered (at ts z) ≡ o.inside ++ c ∷ o.outside) (sym q) o.has in
            let k = keep u c rest o.inside o.outside l e was in
            let now = sym change.here in
            let r : rest ≡ o.outside ++ new.around = subst (λ z. rest ≡ o.outside ++ z) (ap (λ z. (at ts z).around) (sym q) ∙ sym same) o.round in
            record {
              owner = t;
              lives = subst (λ (x : Thread). Lives x.phase) now ln;
              inside = k.0;
              outside = o.outside;
              has = subst (λ x. entered x ≡ k.0 ++ c ∷ o.outside) now k.1;
              round = subst (λ (x : Thread). rest ≡ o.outside ++ x.around) now r;
            }

        moved : (u : ℕ) (c : BlockId) (rest : List BlockId) → Lives (at ts u).phase → (at ts u).around ≡ c ∷ rest → OwnerOf ts' c rest
        moved u c rest l e =
            let o = good.nested u c rest l e in
            elim (cases_eq t o.owner) as (λ _. OwnerOf ts' c rest) [
              | inl q ↦ mine u c rest l e o q
              | inr ne ↦ other_owner c rest o ne
            ]

        nested : (u : ℕ) (c : BlockId) (rest : List BlockId) → Lives (at ts' u).phase → (at ts' u).around ≡ c ∷ rest → OwnerOf ts' c rest
        nested u c rest l e =
            elim (found nobody ts ts' t new change u) as (λ _. OwnerOf ts' c rest) [
              | inl q ↦ moved t c rest lo (sym same ∙ ap (λ (x : Thread). x.around) (sym q.1) ∙ e)
              | inr q ↦ moved u c rest (subst (λ (x : Thread). Lives x.phase) q.1 l) (ap (λ (x : Thread). x.around) (sym q.1) ∙ e)
            ]

    -- the thread has entered the same
    pub same_good : Lives old.phase → Lives new.phase → new.around ≡ old.around → entered new ≡ entered old → Good ts' blocks
    same_good lo ln same e =
        let bound : (b : BlockId) → sum_by (held b) ts' ≡ sum_by (held b) ts =
        λ b. (let h = held_change b lo ln in let z : among b (entered new) ≡ among b (entered old) = ap (among b) e in omega (arith, h, z)) in
        change_good blocks lo ln same (omega arith) (λ h. subst (λ z. Falls blocks (z ++ new.around)) (sym e) (subst (λ z. Falls blocks (entered old ++ z)) (sym same) h))
        (λ u c rest inside outside l a h. (inside, e ∙ h)) (λ b. let h = bound b in let k = good.once b in omega (arith, h, k)) (λ b le. bound b ∙ good.fresh b le)

    -- the thread enters a new block
    pub open_good : (new_block : BlockId) → new_block.number ≡ blocks → Lives old.phase → Lives new.phase → new.around ≡ old.around → entered new ≡ new_block ∷ entered old → Good ts' (blocks + 1)
    open_good nb n lo ln same e =
        let bound : (b : BlockId) → sum_by (held b) ts' ≡ sum_by (held b) ts
        + one b.number nb.number = λ b. (let h = held_change b lo ln in let z : among b (entered new) ≡ one b.number nb.number + among b (entered old) = ap (among b) e in omega (arith, h, z)) in
        change_good (blocks + 1) lo ln same (omega arith) opened (λ u c rest inside outside l a h. (nb ∷ inside, e ∙ ap (λ z. nb ∷ z) h))
        (λ b. elim (cases_eq b.number nb.number) as (λ _. sum_by (held b) ts' ≤ 1) [
          | inl q ↦ (let h = bound b in let f = good.fresh b (omega (arith, q, n)) in let k : one b.number nb.number ≡ 1 = subst (λ z. one b.number z ≡ 1) q (one_same b.number) in
              omega (arith, h, f, k))
          | inr ne ↦ (let h = bound b in let f = good.once b in let k = one_other b.number nb.number ne in omega (arith, h, f, k))
        ])
        (λ b le. let h = bound b in let f = good.fresh b (omega (arith, le)) in let ne : b.number ≢ nb.number = (λ q. omega (arith, le, q, n)) in let k = one_other b.number nb.number ne in
        omega (arith, h, f, k))
      where
        opened : Falls blocks (path_of old) → Falls (blocks + 1) (path_of new)
        opened h =
            let lower : Falls nb.number (path_of old) = subst (λ k. Falls k (path_of old)) (sym n) h in
            let here : Falls (blocks + 1) (nb ∷ path_of old) = (omega (arith, n), lower) in
            subst (λ z. Falls (blocks + 1) (z ++ new.around)) (sym e) (subst (λ z. Falls (blocks + 1) (nb ∷ entered old ++ z)) (sym same) here)

    -- the thread leaves a block in which nobody lives
    pub leave_good : (b : BlockId) (below : List BlockId) → Lives old.phase → Lives new.phase → new.around ≡ old.around → entered old ≡ b ∷ below → entered new ≡ below → none_within b ts ≡ true
        → Good ts' blocks
    leave_good b below lo ln same was is none =
        let bound : (c : BlockId) → sum_by (held c) ts' ≤ sum_by (held c) ts =
        λ c. (let h = held_change c lo ln in let z : among c (entered old) ≡ one c.number b.number + among c below = ap (among c) was in
        let y : among c (entered new) ≡ among c below = ap (among c) is in omega (arith, h, z, y)) in
        change_good blocks lo ln same (omega arith) path keep (λ c. let h = bound c in let k = good.once c in omega (arith, h, k))
        (λ c le. let h = bound c in let k = good.fresh c le in omega (arith, h, k))
      where
        path : Falls blocks (path_of old) → Falls blocks (path_of new)
        path h =
            let all : Falls blocks (b ∷ below ++ old.around) = subst (λ z. Falls blocks (z ++ old.around)) was h in
            let left = falls_below b.number blocks (below ++ old.around) (let lt = all.0 in omega (arith, lt)) all.1 in
            subst (λ z. Falls blocks (z ++ new.around)) (sym is) (subst (λ z. Falls blocks (below ++ z)) (sym same) left)

        apart : (u : ℕ) (c : BlockId) (rest : List BlockId) → Lives (at ts u).phase → (at ts u).around ≡ c ∷ rest → b ≢ c
        apart u c rest l a q =
            let s = one_same b.number in
            let h : among b (at ts u).around ≡ one b.number c.number + among b rest = ap (among b) a in
            let k : one b.number c.number ≡ 1 = subst (λ (z : BlockId). one b.number z.number ≡ 1) q s in
            let yes = within_is b (at ts u) l (omega (arith, h, k)) in
            let wrong : true ≡ false = sym yes ∙ none_true b ts none u in
            cc

        shorter : (c : BlockId) (inside outside : List BlockId) → b ≢ c → b ∷ below ≡ inside ++ c ∷ outside → (more : List BlockId) × (below ≡ more ++ c ∷ outside)
        shorter c [] outside ne q = absurd (ne (let z : b ≡ c = cc in z))
        shorter c (i ∷ inside) outside ne q = (inside, let z : below ≡ inside ++ c ∷ outside = cc in z)

        keep : (u : ℕ) (c : BlockId) (rest inside outside : List BlockId) → Lives (at ts u).phase → (at ts u).around ≡ c ∷ rest → entered old ≡ inside ++ c ∷ outside
            → (more : List BlockId) × (entered new ≡ more ++ c ∷ outside)
        keep u c rest inside outside l a h =
            let r = shorter c inside outside (apart u c rest l a) (sym was ∙ h) in
            (r.0, is ∙ r.1)

    -- the thread ends
    pub end_good : Lives old.phase → new.phase ≡ Ended → entered old ≡ [] → Good ts' blocks
    end_good lo gone none = record { nested = nested; once = once; fresh = fresh; falls = falls }
      where
        falls : (u : ℕ) → Lives (at ts' u).phase → Falls blocks (path_of (at ts' u))
        falls u l =
            elim (found nobody ts ts' t new change u) as (λ _. Falls blocks (path_of (at ts' u))) [
              | inl q ↦ absurd (subst Lives (ap (λ (x : Thread). x.phase) q.1 ∙ gone) l)
              | inr q ↦ subst (λ x. Falls blocks (path_of x)) (sym q.1) (good.falls u (subst (λ (x : Thread). Lives x.phase) q.1 l))
            ]

        fewer : (b : BlockId) → sum_by (held b) ts' ≤ sum_by (held b) ts
        fewer b =
            let a = change.sums (held b) refl in
            let z : held b new ≡ 0 = ap (λ p. alive p (among b (entered new))) gone in
            omega (arith, a, z)

        once : (b : BlockId) → sum_by (held b) ts' ≤ 1
        once b = let h = fewer b in let k = good.once b in omega (arith, h, k)

        fresh : (b : BlockId) → blocks ≤ b.number → sum_by (held b) ts' ≡ 0
        fresh b le = let h = fewer b in let k = good.fresh b le in omega (arith, h, k)

        nested : (u : ℕ) (c : BlockId) (rest : List BlockId) → Lives (at ts' u).phase → (at ts' u).around ≡ c ∷ rest → OwnerOf ts' c rest
        nested u c rest l e =
            elim (found nobody ts ts' t new change u) as (λ _. OwnerOf ts' c rest) [
              | inl q ↦ absurd (subst Lives (ap (λ (x : Thread). x.phase) q.1 ∙ gone) l)
              | inr q ↦
                  let o = good.nested u c rest (subst (λ (x : Thread). Lives x.phase) q.1 l) (ap (λ (x : Thread). x.around) (sym q.1) ∙ e) in
                  other_owner c rest o (λ same. none_full c o.inside o.outside (sym none ∙ subst (λ z. entered (at ts z) ≡ o.inside ++ c ∷ o.outside) (sym same) o.has))
            ]

    -- a thread is started by the living thread o, where none lived before
    pub start_good : (o : ℕ) → Lives (at ts o).phase → old.phase ≡ Ended → entered new ≡ [] → new.around ≡ entered (at ts o) ++ (at ts o).around → Good ts' blocks
    start_good o lo gone none around = record { nested = nested; once = once; fresh = fresh; falls = falls }
      where
        mine : Falls blocks (path_of new)
        mine = subst (λ z. Falls blocks (z ++ new.around)) (sym none) (subst (λ z. Falls blocks z) (sym around) (good.falls o lo))

        falls : (u : ℕ) → Lives (at ts' u).phase → Falls blocks (path_of (at ts' u))
        falls u l =
            elim (found nobody ts ts' t new change u) as (λ _. Falls blocks (path_of (at ts' u))) [
              | inl q ↦ subst (λ x. Falls blocks (path_of x)) (sym q.1) mine
              | inr q ↦ subst (λ x. Falls blocks (path_of x)) (sym q.1) (good.falls u (subst (λ (x : Thread). Lives x.phase) q.1 l))
            ]

        nothing : (p : Phase) → alive p 0 ≡ 0
        nothing Active = refl
        nothing (AtFinish b) = refl
        nothing Ended = refl

        same : (b : BlockId) → sum_by (held b) ts' ≡ sum_by (held b) ts
        same b =
            let a = change.sums (held b) refl in
            let z : held b old ≡ 0 = ap (λ p. alive p (among b (entered old))) gone in
            let y : held b new ≡ alive new.phase 0 = ap (λ l. alive new.phase (among b l)) none in
            let x = nothing new.phase in
            omega (arith, a, z, y, x)

        once : (b : BlockId) → sum_by (held b) ts' ≤ 1
        once b = let h = same b in let k = good.once b in omega (arith, h, k)

        fresh : (b : BlockId) → blocks ≤ b.number → sum_by (held b) ts' ≡ 0
        fresh b le = same b ∙ good.fresh b le

        kept : (c : BlockId) (rest : List BlockId) → OwnerOf ts c rest → OwnerOf ts' c rest
        kept c rest w = other_owner c rest w (λ q. subst Lives (ap (λ z. (at ts z).phase) (sym q) ∙ gone) w.lives)

        here : (c : BlockId) (rest inner : List BlockId) → entered (at ts o) ≡ inner → inner ++ (at ts o).around ≡ c ∷ rest → OwnerOf ts c rest
        here c rest [] e q = good.nested o c rest lo q
        here c rest (x ∷ xs) e q =
            let a : x ≡ c = cc in
            let r : rest ≡ xs ++ (at ts o).around = cc in
            record { owner = o; lives = lo; inside = []; outside = xs; has = e ∙ ap (λ z. z ∷ xs) a; round = r }

        nested : (u : ℕ) (c : BlockId) (rest : List BlockId) → Lives (at ts' u).phase → (at ts' u).around ≡ c ∷ rest → OwnerOf ts' c rest
        nested u c rest l e =
            elim (found nobody ts ts' t new change u) as (λ _. OwnerOf ts' c rest) [
              | inl q ↦ kept c rest (here c rest (entered (at ts o)) refl (sym around ∙ ap (λ (x : Thread). x.around) (sym q.1) ∙ e))
              | inr q ↦ kept c rest (good.nested u c rest (subst (λ (x : Thread). Lives x.phase) q.1 l) (ap (λ (x : Thread). x.around) (sym q.1) ∙ e))
            ]
