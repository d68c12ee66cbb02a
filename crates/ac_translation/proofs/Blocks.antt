-- What holds of threads and blocks, and that a block's count of the threads started directly in it is 0 just where no thread within it
-- lives.
-- The source asks whether any thread within the block lives, the machine reads a count. `Good` joins them: each living thread was started
-- where a living thread stands, a block is entered once, and blocks lie in older ones. The hard part is `direct_lives`: from a living
-- thread within the block one climbs, owner by owner, to one started directly in it.
use Rattle.std.proofs.Common.{◌≡◌, ◌≢◌, ℕ, zero, suc, ◌+◌, ◌<◌, ◌≤◌, List, [], ◌∷◌, ◌++◌, length, get_or, set, Bool, true}
use Rattle.std.proofs.Common.{false, inl, inr, refl, sym, ap, ◌∙◌, subst, arith, length-append, nat_eq, if◌then◌else◌}
use Rattle.std.specs.Prelude.{not, ◌&&◌}
use Rattle.std.specs.List.{sum_by}
use Rattle.std.proofs.lemmas.Bool.{cases_eq, cases_lt, eq-eqb}
use Rattle.std.proofs.lemmas.Bool.Decides.{nat_tests}
use Rattle.work_item.specs.declared.ids.BlockId.{BlockId}
use Rattle.ac_semantics.specs.Work.{closes}
use Rattle.ac_semantics.specs.Threads.{Phase, Active, AtFinish, Ended, Thread, nobody, is_among, is_living, is_within, none_within}
use Rattle.ac_translation.proofs.Tables.{total_one, total_two, total_some, one, occ, one_same, one_other, occ_append}

abbrev pub number : BlockId → ℕ
number b = b.number

pub same_block : (b c : BlockId) → b.number ≡ c.number → b ≡ c
same_block b c e = ap {A = ℕ} {B = BlockId} (λ n. record { number = n }) e

pub other_block : (b c : BlockId) → b ≢ c → b.number ≢ c.number
other_block b c ne e = ne (same_block b c e)

-- how often the block stands in a list
abbrev pub among : BlockId → List BlockId → ℕ
among b bs = occ number b.number bs

abbrev pub Lives : Phase → Type 0
Lives Active = Unit {0}
Lives (AtFinish b) = Unit {0}
Lives Ended = ⊥

-- the number, if alive
abbrev pub alive : Phase → ℕ → ℕ
alive Active n = n
alive (AtFinish b) n = n
alive Ended n = 0

abbrev pub entered_of : Phase → List BlockId → List BlockId
entered_of Active bs = bs
entered_of (AtFinish b) bs = b ∷ bs
entered_of Ended bs = []

-- the blocks that a thread has entered and not left
abbrev pub entered : Thread → List BlockId
entered t = entered_of t.phase (closes t.work)

abbrev pub head_is : BlockId → List BlockId → ℕ
head_is b [] = 0
head_is b (x ∷ xs) = one b.number x.number

-- how often a living thread has entered b, and whether it was started directly in b
abbrev pub held : BlockId → Thread → ℕ
held b t = alive t.phase (among b (entered t))

abbrev pub direct : BlockId → Thread → ℕ
direct b t = alive t.phase (head_is b t.around)

abbrev pub at : List Thread → ℕ → Thread
at ts u = get_or ts u nobody

-- the living thread that has entered c, of which rest are the blocks round it
pub record OwnerOf (ts : List Thread) (c : BlockId) (rest : List BlockId) : Type 0 where
  pub owner : ℕ
  pub lives : Lives (at ts owner).phase
  pub inside : List BlockId
  pub outside : List BlockId
  pub has : entered (at ts owner) ≡ inside ++ c ∷ outside
  pub round : rest ≡ outside ++ (at ts owner).around

-- each of these is older than the one before, and all are older than this number
abbrev pub Falls : ℕ → List BlockId → Type 0
Falls n [] = Unit {0}
Falls n (b ∷ bs) = (b.number < n) × Falls b.number bs

pub falls_below : (m n : ℕ) (bs : List BlockId) → m ≤ n → Falls m bs → Falls n bs
falls_below m n [] le h = tt
falls_below m n (b ∷ bs) le h = let lt = h.0 in (omega (arith, le, lt), h.1)

pub falls_short : (n : ℕ) (bs : List BlockId) → Falls n bs → length bs ≤ n
falls_short n [] h = omega arith
falls_short n (b ∷ bs) h = let lt = h.0 in let le = falls_short b.number bs h.1 in omega (arith, lt, le)

-- where a thread stands
abbrev pub path_of : Thread → List BlockId
path_of t = entered t ++ t.around

pub record Good (ts : List Thread) (blocks : ℕ) : Type 0 where
  -- each living thread was started where a living thread stands
  pub nested : (u : ℕ) (c : BlockId) (rest : List BlockId) → Lives (at ts u).phase → (at ts u).around ≡ c ∷ rest → OwnerOf ts c rest
  -- a block is entered by one thread and once
  pub once : (b : BlockId) → sum_by (held b) ts ≤ 1
  -- nobody is in a block that is not yet born
  pub fresh : (b : BlockId) → blocks ≤ b.number → sum_by (held b) ts ≡ 0
  -- a block lies in older ones
  pub falls : (u : ℕ) → Lives (at ts u).phase → Falls blocks (path_of (at ts u))

-- for each thread that waits at a finish a thread lives that was started directly in the block
abbrev pub Waits : List Thread → Type 0
Waits ts = (u : ℕ) (b : BlockId) → (at ts u).phase ≡ AtFinish b → 0 < sum_by (direct b) ts

pub alive_is : (p : Phase) (n : ℕ) → Lives p → alive p n ≡ n
alive_is Active n l = refl
alive_is (AtFinish b) n l = refl
alive_is Ended n l = absurd l

pub alive_lives : (p : Phase) (n : ℕ) → 0 < alive p n → Lives p
alive_lives Active n h = tt
alive_lives (AtFinish b) n h = tt
alive_lives Ended n h = absurd (omega (arith, h))

-- ---- what the tests tell

among_holds : (b : BlockId) (xs : List BlockId) → is_among b xs ≡ true → 0 < among b xs
among_holds b [] h = absurd (let no : false ≡ true = h in cc)
among_holds b (x ∷ xs) h = go (among_holds b xs) (nat_eq b.number x.number) refl
  where
    go : (is_among b xs ≡ true → 0 < among b xs) → (t : Bool) → nat_eq b.number x.number ≡ t → 0 < among b (x ∷ xs)
    go more true e = let o : one b.number x.number ≡ 1 = rw e refl in omega (arith, o)
    go more false e =
        let o : is_among b xs ≡ true = sym (ap (λ q. if q then true else is_among b xs) e) ∙ h in
        let r = more o in
        omega (arith, r)

holds_among : (b : BlockId) (xs : List BlockId) → 0 < among b xs → is_among b xs ≡ true
holds_among b [] h = absurd (omega (arith, h))
holds_among b (x ∷ xs) h = go (holds_among b xs) (nat_eq b.number x.number) refl
  where
    go : (0 < among b xs → is_among b xs ≡ true) → (t : Bool) → nat_eq b.number x.number ≡ t → is_among b (x ∷ xs) ≡ true
    go more true e = rw e refl
    go more false e =
        let o : one b.number x.number ≡ 0 = rw e refl in
        rw e (more (omega (arith, o, h)))

pub within_is : (b : BlockId) (t : Thread) → Lives t.phase → 0 < among b t.around → is_within b t ≡ true
within_is b t l h = go t.phase l (holds_among b t.around h)
  where
    go : (p : Phase) → Lives p → is_among b t.around ≡ true → is_living p && is_among b t.around ≡ true
    go Active l h = h
    go (AtFinish c) l h = h
    go Ended l h = absurd l

pub within_lives : (b : BlockId) (t : Thread) → is_within b t ≡ true → Lives t.phase × (0 < among b t.around)
within_lives b t h = go t.phase h
  where
    go : (p : Phase) → is_living p && is_among b t.around ≡ true → Lives p × (0 < among b t.around)
    go Active h = (tt, among_holds b t.around h)
    go (AtFinish c) h = (tt, among_holds b t.around h)
    go Ended h = absurd (let no : false ≡ true = h in cc)

none_parts : (p q : Bool) → not p && q ≡ true → (p ≡ false) × (q ≡ true)
none_parts true q h = absurd (let no : false ≡ true = h in cc)
none_parts false q h = (refl, h)

pub none_true : (b : BlockId) (ts : List Thread) → none_within b ts ≡ true → (u : ℕ) → is_within b (at ts u) ≡ false
none_true b [] h u = refl
none_true b (t ∷ ts) h zero = (none_parts (is_within b t) (none_within b ts) h).0
none_true b (t ∷ ts) h (suc u) = none_true b ts (none_parts (is_within b t) (none_within b ts) h).1 u

pub none_false : (b : BlockId) (ts : List Thread) → none_within b ts ≡ false → (u : ℕ) × (is_within b (at ts u) ≡ true)
none_false b [] h = absurd (let no : true ≡ false = h in cc)
none_false b (t ∷ ts) h = go (none_false b ts) (is_within b t) refl
  where
    go : (none_within b ts ≡ false → (u : ℕ) × (is_within b (at ts u) ≡ true)) → (q : Bool) → is_within b t ≡ q → (u : ℕ) × (is_within b (at (t ∷ ts) u) ≡ true)
    go more true e = (0, e)
    go more false e = let r = more (sym (ap (λ q. not q && none_within b ts) e) ∙ h) in (suc r.0, r.1)

-- a thread changes, and is within the same
pub none_set : (b : BlockId) (ts : List Thread) (t : ℕ) (new : Thread) → is_within b new ≡ is_within b (at ts t) → none_within b (set ts t new) ≡ none_within b ts
none_set b [] t new e = refl
none_set b (x ∷ ts) zero new e = ap (λ q. not q && none_within b ts) e
none_set b (x ∷ ts) (suc t) new e = ap (λ q. not (is_within b x) && q) (none_set b ts t new e)

-- a living thread that has entered b, and one that was started directly in b
pub held_at : (ts : List Thread) (o : ℕ) (b : BlockId) (inside outside : List BlockId) → Lives (at ts o).phase → entered (at ts o) ≡ inside ++ b ∷ outside
    → held b (at ts o) ≡ among b inside + 1 + among b outside
held_at ts o b inside outside l e =
    let x = alive_is (at ts o).phase (among b (entered (at ts o))) l in
    let y = ap (among b) e in
    let z = occ_append number b.number inside (b ∷ outside) in
    let w = one_same b.number in
    omega (arith, x, y, z, w)

pub direct_at : (ts : List Thread) (u : ℕ) (b : BlockId) (rest : List BlockId) → Lives (at ts u).phase → (at ts u).around ≡ b ∷ rest → 0 < sum_by (direct b) ts
direct_at ts u b rest l e =
    let x = alive_is (at ts u).phase (head_is b (at ts u).around) l in
    let y : head_is b (at ts u).around ≡ one b.number b.number = ap (head_is b) e in
    let z = total_one nobody (direct b) refl ts u in
    let w = one_same b.number in
    omega (arith, x, y, z, w)

-- a block has one owner
pub one_owner : (ts : List Thread) (o w : ℕ) (b : BlockId) → sum_by (held b) ts ≤ 1 → 0 < held b (at ts o) → 0 < held b (at ts w) → w ≡ o
one_owner ts o w b once ho hw =
    elim (cases_eq w o) as (λ _. w ≡ o) [
      | inl e ↦ e
      | inr ne ↦ absurd (let z = total_two nobody (held b) refl ts w o ne in omega (arith, z, once, ho, hw))
    ]

module _ (ts : List Thread) (blocks : ℕ) (good : Good ts blocks) (o : ℕ) (b : BlockId) (rest : List BlockId) (lives : Lives (at ts o).phase) (arrived : entered (at ts o) ≡ b ∷ rest) where
  -- no thread has entered b but o, and o has entered nothing within it
  innermost : (w : ℕ) (c : BlockId) (inside outside : List BlockId) → Lives (at ts w).phase → entered (at ts w) ≡ inside ++ c ∷ outside → b ≢ c → 0 < among b outside → ⊥
  innermost w c inside outside l e ne h =
      let mine = held_at ts o b [] rest lives arrived in
      let same = alive_is (at ts w).phase (among b (entered (at ts w))) l in
      let parts = ap (among b) e ∙ occ_append number b.number inside (c ∷ outside) in
      let own = one_owner ts o w b (good.once b) (omega (arith, mine)) (omega (arith, same, parts, h)) in
      let both : inside ++ c ∷ outside ≡ b ∷ rest = sym e ∙ subst (λ z. entered (at ts z) ≡ b ∷ rest) (sym own) arrived in
      let all = total_one nobody (held b) refl ts w in
      let bound = good.once b in
      starts inside both (omega (arith, same, parts, h, all, bound))
    where
      starts : (is : List BlockId) → is ++ c ∷ outside ≡ b ∷ rest → among b is ≡ 0 → ⊥
      starts [] q z = ne (let s : b ≡ c = cc in s)
      starts (i ∷ is) q z =
          let s : b ≡ i = cc in
          let k : one b.number i.number ≡ 1 = subst (λ (j : BlockId). one b.number j.number ≡ 1) s (one_same b.number) in
          omega (arith, z, k)

  direct_by : (k u : ℕ) (around : List BlockId) → (at ts u).around ≡ around → length around ≤ k → Lives (at ts u).phase → 0 < among b around → 0 < sum_by (direct b) ts
  direct_by k u [] e le l h = absurd (omega (arith, h))
  direct_by zero u (c ∷ more) e le l h = absurd (omega (arith, le))
  direct_by (suc k) u (c ∷ more) e le l h =
      elim (cases_eq b.number c.number) as (λ _. 0 < sum_by (direct b) ts) [
        | inl same ↦ direct_at ts u b more l (e ∙ ap (λ z. z ∷ more) (sym (same_block b c same)))
        | inr ne ↦
            let w = good.nested u c more l e in
            let z = one_other b.number c.number ne in
            let parts = ap (among b) w.round ∙ occ_append number b.number w.outside (at ts w.owner).around in
            let len = ap length w.round ∙ length-append w.outside (at ts w.owner).around in
            elim (cases_lt 0 (among b w.outside)) as (λ _. 0 < sum_by (direct b) ts) [
              | inl p ↦ absurd (innermost w.owner c w.inside w.outside w.lives w.has (λ q. ne (ap number q)) p)
              | inr p ↦ direct_by k w.owner (at ts w.owner).around refl (omega (arith, le, len)) w.lives (omega (arith, h, z, parts, p))
            ]
      ]

  -- where a thread within b lives, one lives that was started directly in b
  pub direct_lives : none_within b ts ≡ false → 0 < sum_by (direct b) ts
  direct_lives h =
      let u = none_false b ts h in
      let l = within_lives b (at ts u.0) u.1 in
      direct_by (length (at ts u.0).around) u.0 (at ts u.0).around refl (omega arith) l.0 l.1

head_among : (b : BlockId) (xs : List BlockId) → 0 < head_is b xs → 0 < among b xs
head_among b [] h = absurd (omega (arith, h))
head_among b (x ∷ xs) h = omega (arith, h)

pub none_direct : (ts : List Thread) (b : BlockId) → none_within b ts ≡ true → sum_by (direct b) ts ≡ 0
none_direct ts b h =
    elim (cases_lt 0 (sum_by (direct b) ts)) as (λ _. sum_by (direct b) ts ≡ 0) [
      | inl p ↦
          let u = total_some nobody (direct b) refl ts p in
          let l = alive_lives (at ts u.0).phase (head_is b (at ts u.0).around) u.1 in
          let same = alive_is (at ts u.0).phase (head_is b (at ts u.0).around) l in
          let yes = within_is b (at ts u.0) l (head_among b (at ts u.0).around (omega (arith, same, u.1))) in
          absurd (let wrong : true ≡ false = sym yes ∙ none_true b ts h u.0 in cc)
      | inr p ↦ omega (arith, p)
    ]

pub positive : (n : ℕ) → 0 < n → nat_eq n 0 ≡ false
positive n p = grind (arith, nat_tests)

-- the count of an innermost block tells whether a thread within it lives, wherever its owner is
pub count_tells : (ts : List Thread) (blocks : ℕ) → Good ts blocks → (o : ℕ) (b : BlockId) (rest : List BlockId) → Lives (at ts o).phase → entered (at ts o) ≡ b ∷ rest
    → nat_eq (sum_by (direct b) ts) 0 ≡ none_within b ts
count_tells ts blocks good o b rest l e = go (none_within b ts) refl
  where
    go : (q : Bool) → none_within b ts ≡ q → nat_eq (sum_by (direct b) ts) 0 ≡ none_within b ts
    go true h = eq-eqb (sum_by (direct b) ts) 0 (none_direct ts b h) ∙ sym h
    go false h = positive (sum_by (direct b) ts) (direct_lives ts blocks good o b rest l e h) ∙ sym h
