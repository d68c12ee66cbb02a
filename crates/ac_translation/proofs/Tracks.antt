-- The machine's table of blocks tells of each block that a living thread has entered.
-- `Tracks`: the block round it, its owner, the number of living threads started directly in it, whether the owner waits, and its mark. It
-- is kept under each kind of change of a thread, with the table that the machine then has.
use Rattle.std.proofs.Common.{◌≡◌, ◌≢◌, ℕ, zero, suc, ◌+◌, ◌<◌, ◌≤◌, List, [], ◌∷◌, ◌++◌, length, get_or, set, Option, Some, None, Bool, true, false, inl, inr, refl, sym, ap, ◌∙◌, subst}
use Rattle.std.proofs.Common.{arith, nat_eq}
use Rattle.std.specs.List.{sum_by}
use Rattle.std.proofs.lemmas.Bool.{cases_lt, cases_eq, eq-eqb}
use Rattle.std.proofs.lemmas.List.{get_or-set_same, get_or-set_other}
use Rattle.std.proofs.lemmas.Bool.Decides.{nat_tests}
use Rattle.work_item.specs.declared.ids.BlockId.{BlockId}
use Rattle.ac_semantics.specs.Threads.{Phase, Active, AtFinish, Ended, Thread, nobody, none_within}
use Rattle.code_meaning.specs.Machine.{Block, block_at, with_block, with_mark}
use Rattle.ac_translation.proofs.Tables.{Changed, found, first, total_one, total_two, total_some, one, one_same, one_is, occ_append}
use Rattle.ac_translation.proofs.Blocks.{number, same_block, other_block, among, Lives, entered, head_is, held, direct, at, Good, alive_is, alive_lives, held_at, count_tells}
use Rattle.ac_translation.proofs.Changes.{none_full, direct_change}
use Rattle.ac_translation.proofs.Counts.{block_put}

abbrev pub waits_at : Phase → BlockId → Bool
waits_at Active b = false
waits_at (AtFinish c) b = nat_eq c.number b.number
waits_at Ended b = false

-- what the table has of a block: the one round it, who has entered it, how many were started directly in it, whether the owner waits, and
-- whether it is marked
abbrev pub entry : Option BlockId → ℕ → ℕ → Bool → Bool → Block
entry parent owner count waits mark = record { parent = parent; owner = record { number = owner }; count = count; waits = waits; cancelled = mark }

abbrev pub mark_of : List Bool → BlockId → Bool
mark_of marks b = get_or marks b.number false

-- the block that the thread o has entered round these
abbrev pub told : List Bool → List Thread → List Thread → ℕ → BlockId → List BlockId → Block
told marks ts counts o b outside = entry (first (outside ++ (at ts o).around)) o (sum_by (direct b) counts) (waits_at (at ts o).phase b) (mark_of marks b)

abbrev pub Tracks : List Bool → List Thread → List (Option Block) → Type 0
Tracks marks ts bs = (o : ℕ) (b : BlockId) (inside outside : List BlockId) → Lives (at ts o).phase → entered (at ts o) ≡ inside ++ b ∷ outside → block_at bs b ≡ Some (told marks ts ts o b outside)

-- The innermost block of a living thread stands in the machine's table, and its count is 0 exactly where no thread within it lives, wherever its owner has arrived.
pub count_is_0_exactly_where_none_lives : (marks : List Bool) (ts : List Thread) (bs : List (Option Block)) (blocks : ℕ) → Good ts blocks → Tracks marks ts bs →
    (o : ℕ) (b : BlockId) (outside : List BlockId)
    → Lives (at ts o).phase → entered (at ts o) ≡ b ∷ outside → (x : Block) × (block_at bs b ≡ Some x) × (nat_eq x.count 0 ≡ none_within b ts)
count_is_0_exactly_where_none_lives marks ts bs blocks good tracks o b outside l e = (told marks ts ts o b outside, tracks o b [] outside l e, count_tells ts blocks good o b outside l e)

-- the table of blocks is as it was but for b
abbrev pub SameBut : BlockId → List (Option Block) → List (Option Block) → Type 0
SameBut b bs bs' = (c : BlockId) → b ≢ c → block_at bs' c ≡ block_at bs c

pub changed_same : (bs bs' : List (Option Block)) (b : BlockId) (x : Option Block) → Changed None bs bs' b.number x → SameBut b bs bs'
changed_same bs bs' b x change c ne = change.there c.number (other_block b c ne)

pub unequal : (a b : ℕ) → a ≢ b → nat_eq a b ≡ false
unequal a b p = grind (arith, nat_tests)

-- a block that is not born has no thread in it
pub fresh_direct : (ts : List Thread) (blocks : ℕ) → Good ts blocks → (b : BlockId) → blocks ≤ b.number → sum_by (direct b) ts ≡ 0
fresh_direct ts blocks good b le =
    elim (cases_lt 0 (sum_by (direct b) ts)) as (λ _. sum_by (direct b) ts ≡ 0) [
      | inl p ↦
          let u = total_some nobody (direct b) refl ts p in
          let l = alive_lives (at ts u.0).phase (head_is b (at ts u.0).around) u.1 in
          let same = alive_is (at ts u.0).phase (head_is b (at ts u.0).around) l in
          absurd (go u.0 l (at ts u.0).around refl (omega (arith, same, u.1)))
      | inr p ↦ omega (arith, p)
    ]
  where
    go : (u : ℕ) → Lives (at ts u).phase → (around : List BlockId) → (at ts u).around ≡ around → 0 < head_is b around → ⊥
    go u l [] e h = omega (arith, h)
    go u l (x ∷ xs) e h =
        let s = one_is b.number x.number h in
        let o = good.nested u x xs l e in
        let k = held_at ts o.owner x o.inside o.outside o.lives o.has in
        let z = total_one nobody (held x) refl ts o.owner in
        let f : sum_by (held x) ts ≡ 0 = good.fresh x (omega (arith, s, le)) in
        omega (arith, k, z, f)

module _ (ts : List Thread) (blocks : ℕ) (good : Good ts blocks) where
  -- a block in which a living thread is, is born
  pub born : (o : ℕ) (b : BlockId) (inside outside : List BlockId) → Lives (at ts o).phase → entered (at ts o) ≡ inside ++ b ∷ outside → b.number ≢ blocks
  born o b inside outside l e q =
      let k = held_at ts o b inside outside l e in
      let z = total_one nobody (held b) refl ts o in
      let f = good.fresh b (omega (arith, q)) in
      omega (arith, k, z, f)

  -- two that are entered are two
  apart : (o u : ℕ) (b c : BlockId) (i j k l : List BlockId) → o ≢ u → Lives (at ts o).phase → entered (at ts o) ≡ i ++ b ∷ j → Lives (at ts u).phase → entered (at ts u) ≡ k ++ c ∷ l → b ≢ c
  apart o u b c i j k l ne lo eo lu eu q =
      let x = held_at ts o b i j lo eo in
      let e : entered (at ts u) ≡ k ++ b ∷ l = eu ∙ ap (λ z. k ++ z ∷ l) (sym q) in
      let y = held_at ts u b k l lu e in
      let z = total_two nobody (held b) refl ts o u ne in
      let f = good.once b in
      omega (arith, x, y, z, f)

  below_apart : (o : ℕ) (b c : BlockId) (inside outside : List BlockId) → Lives (at ts o).phase → entered (at ts o) ≡ b ∷ inside ++ c ∷ outside → b ≢ c
  below_apart o b c inside outside lo e q =
      let x = alive_is (at ts o).phase (among b (entered (at ts o))) lo in
      let y : among b (entered (at ts o)) ≡ one b.number b.number + among b (inside ++ c ∷ outside) = ap (among b) e in
      let z = occ_append number b.number inside (c ∷ outside) in
      let w = one_same b.number in
      let v : one b.number c.number ≡ 1 = subst (λ (q : BlockId). one b.number q.number ≡ 1) q w in
      let u = total_one nobody (held b) refl ts o in
      let f = good.once b in
      omega (arith, x, y, z, w, v, u, f)

-- the thread t is changed alone, and the table of blocks is another
module _ (ts ts' : List Thread) (t : ℕ) (new : Thread) (change : Changed nobody ts ts' t new) (bs bs' : List (Option Block)) (marks : List Bool) where
  abbrev old : Thread
  old = at ts t

  -- what is told of the changed thread's blocks, and of those of each other one
  tracks_change : (Lives new.phase → (b : BlockId) (inside outside : List BlockId) → entered new ≡ inside ++ b ∷ outside
      → block_at bs' b ≡ Some (entry (first (outside ++ new.around)) t (sum_by (direct b) ts') (waits_at new.phase b) (mark_of marks b))) →
      ((o : ℕ) (b : BlockId) (inside outside : List BlockId) → t ≢ o → Lives (at ts o).phase → entered (at ts o) ≡ inside ++ b ∷ outside → block_at bs' b ≡ Some (told marks ts ts' o b outside))
      → Tracks marks ts' bs'
  tracks_change mine others o b inside outside =
      elim (found nobody ts ts' t new change o) as (λ _. Lives (at ts' o).phase → entered (at ts' o) ≡ inside ++ b ∷ outside → block_at bs' b ≡ Some (told marks ts' ts' o b outside)) [
        | inl q ↦
            subst (λ (x : Thread). Lives x.phase → entered x ≡ inside ++ b ∷ outside →
            block_at bs' b ≡ Some (entry (first (outside ++ x.around)) o (sum_by (direct b) ts') (waits_at x.phase b) (mark_of marks b)))
            (sym q.1)
            (λ l e. subst (λ z. block_at bs' b ≡ Some (entry (first (outside ++ new.around)) z (sum_by (direct b) ts') (waits_at new.phase b) (mark_of marks b))) q.0 (mine l b inside outside e))
        | inr q ↦
            subst (λ (x : Thread). Lives x.phase → entered x ≡ inside ++ b ∷ outside →
            block_at bs' b ≡ Some (entry (first (outside ++ x.around)) o (sum_by (direct b) ts') (waits_at x.phase b) (mark_of marks b)))
            (sym q.1)
            (λ l e. others o b inside outside q.0 l e)
      ]

  module _ (blocks : ℕ) (good : Good ts blocks) (tracks : Tracks marks ts bs) where
    abbrev Counts : Type 0
    Counts = (b : BlockId) → sum_by (direct b) ts' ≡ sum_by (direct b) ts

    -- the same is told of another thread's block
    other_told : Counts → (o : ℕ) (b : BlockId) (inside outside : List BlockId) → Lives (at ts o).phase → entered (at ts o) ≡ inside ++ b ∷ outside → block_at bs' b ≡ block_at bs b
        → block_at bs' b ≡ Some (told marks ts ts' o b outside)
    other_told d o b inside outside l h same =
        same ∙ tracks o b inside outside l h ∙ ap (λ z. Some (entry (first (outside ++ (at ts o).around)) o z (waits_at (at ts o).phase b) (mark_of marks b))) (sym (d b))

    -- and of a block of this one
    same_told : Counts → new.around ≡ old.around → (b : BlockId) (inside outside : List BlockId) → Lives old.phase → entered old ≡ inside ++ b ∷ outside → block_at bs' b ≡ block_at bs b
        → waits_at old.phase b ≡ waits_at new.phase b →
        block_at bs' b ≡ Some (entry (first (outside ++ new.around)) t (sum_by (direct b) ts') (waits_at new.phase b) (mark_of marks b))
    same_told d a b inside outside l h same waits =
        same ∙ tracks t b inside outside l h
        ∙ ap (λ z. Some (entry (first (outside ++ z)) t (sum_by (direct b) ts) (waits_at old.phase b) (mark_of marks b))) (sym a)
        ∙ ap (λ z. Some (entry (first (outside ++ new.around)) t z (waits_at old.phase b) (mark_of marks b))) (sym (d b))
        ∙ ap (λ z. Some (entry (first (outside ++ new.around)) t (sum_by (direct b) ts') z (mark_of marks b))) waits

    -- the thread is where it was
    pub tracks_same : bs' ≡ bs → Lives old.phase → new.phase ≡ old.phase → new.around ≡ old.around → entered new ≡ entered old → Tracks marks ts' bs'
    tracks_same is lo p a e =
        let ln : Lives new.phase = subst Lives (sym p) lo in
        let d = direct_change ts ts' t new change lo ln a in
        tracks_change
        (λ l b inside outside h. same_told d a b inside outside lo (sym e ∙ h) (ap (λ z. block_at z b) is) (ap (λ z. waits_at z b) (sym p)))
        (λ o b inside outside ne l h. other_told d o b inside outside l h (ap (λ z. block_at z b) is))

    -- the thread enters a new block
    -- The new block is told as it was made; each other one as before, since it is not the new one.
    pub tracks_open : (nb : BlockId) → nb.number ≡ blocks → mark_of marks nb ≡ false → Changed None bs bs' nb.number (Some (entry (first (entered old ++ old.around)) t 0 false false)) →
        old.phase ≡ Active → new.phase ≡ Active
        → new.around ≡ old.around → entered new ≡ nb ∷ entered old → Tracks marks ts' bs'
    tracks_open nb n unborn made po pn a e =
        let lo : Lives old.phase = subst Lives (sym po) tt in
        let ln : Lives new.phase = subst Lives (sym pn) tt in
        let d = direct_change ts ts' t new change lo ln a in
        let other = λ (o : ℕ) (b : BlockId) (inside outside : List BlockId) (l : Lives (at ts o).phase) (h : entered (at ts o) ≡ inside ++ b ∷ outside). changed_same bs bs' nb _ made b
        (λ q. born ts blocks good o b inside outside l h (sym (ap number q) ∙ n)) in
        tracks_change
        (λ l b inside outside h. mine lo d other inside outside b (sym e ∙ h))
        (λ o b inside outside ne l h. other_told d o b inside outside l h (other o b inside outside l h))
      where
        mine : Lives old.phase → Counts → ((o : ℕ) (b : BlockId) (inside outside : List BlockId) → Lives (at ts o).phase → entered (at ts o) ≡ inside ++ b ∷ outside → block_at bs' b ≡ block_at bs b) →
            (inside outside : List BlockId) (b : BlockId) → nb ∷ entered old ≡ inside ++ b ∷ outside
            → block_at bs' b ≡ Some (entry (first (outside ++ new.around)) t (sum_by (direct b) ts') (waits_at new.phase b) (mark_of marks b))
        mine lo d other [] outside b h =
            let q : nb ≡ b = cc in
            let r : entered old ≡ outside = cc in
            let none : 0 ≡ sum_by (direct b) ts' = sym (d b ∙ fresh_direct ts blocks good b (let k = ap number q in omega (arith, k, n))) in
            let x : first (entered old ++ old.around) ≡ first (outside ++ new.around) = ap (λ z. first (z ++ old.around)) r ∙ ap (λ z. first (outside ++ z)) (sym a) in
            subst (λ (z : BlockId). block_at bs' z ≡ Some (entry (first (entered old ++ old.around)) t 0 false false)) q made.here
            ∙ ap (λ z. Some (entry z t 0 false false)) x
            ∙ ap (λ z. Some (entry (first (outside ++ new.around)) t z false false)) none
            ∙ ap (λ z. Some (entry (first (outside ++ new.around)) t (sum_by (direct b) ts') (waits_at z b) false)) (sym pn)
            ∙ ap (λ z. Some (entry (first (outside ++ new.around)) t (sum_by (direct b) ts') (waits_at new.phase b) z)) (sym (subst (λ (z : BlockId). mark_of marks z ≡ false) q unborn))
        mine lo d other (i ∷ is) outside b h =
            let r : entered old ≡ is ++ b ∷ outside = cc in
            same_told d a b is outside lo r (other t b is outside lo r) (ap (λ p. waits_at p b) (po ∙ sym pn))

    -- the thread leaves the block b, of which the machine may say what it likes
    pub tracks_leave : (b : BlockId) (below : List BlockId) → SameBut b bs bs' → Lives old.phase → ((c : BlockId) → b ≢ c → waits_at old.phase c ≡ false) → new.phase ≡ Active → new.around ≡ old.around
        → entered old ≡ b ∷ below → entered new ≡ below → Tracks marks ts' bs'
    tracks_leave b below same lo quiet pn a was is =
        let ln : Lives new.phase = subst Lives (sym pn) tt in
        let d = direct_change ts ts' t new change lo ln a in
        tracks_change
        (λ l c inside outside h.
        let full : entered old ≡ b ∷ inside ++ c ∷ outside = was ∙ ap (λ z. b ∷ z) (sym is ∙ h) in
        let ne = below_apart ts blocks good t b c inside outside lo full in
        same_told d a c (b ∷ inside) outside lo full (same c ne) (quiet c ne ∙ sym (ap (λ p. waits_at p c) pn)))
        (λ o c inside outside ne l h. other_told d o c inside outside l h (same c (apart ts blocks good t o b c [] below inside outside ne lo was l h)))

    -- the thread waits at the finish of b
    -- Of the block b it is now told that its owner waits; of each other one all is as it was.
    pub tracks_wait : (b : BlockId) (below : List BlockId) (x : Block) → block_at bs b ≡ Some x → Changed None bs bs' b.number (Some (record x { waits = true })) → old.phase ≡ Active
        → new.phase ≡ AtFinish b → new.around ≡ old.around → entered old ≡ b ∷ below → entered new ≡ entered old → Tracks marks ts' bs'
    tracks_wait b below x stood made po pn a was is =
        let lo : Lives old.phase = subst Lives (sym po) tt in
        let ln : Lives new.phase = subst Lives (sym pn) tt in
        let d = direct_change ts ts' t new change lo ln a in
        tracks_change
        (λ l c inside outside h. mine lo d inside outside c (sym was ∙ sym is ∙ h) (sym is ∙ h))
        (λ o c inside outside ne l h. other_told d o c inside outside l h (changed_same bs bs' b _ made c (apart ts blocks good t o b c [] below inside outside ne lo was l h)))
      where
        mine : Lives old.phase → Counts → (inside outside : List BlockId) (c : BlockId) → b ∷ below ≡ inside ++ c ∷ outside → entered old ≡ inside ++ c ∷ outside
            → block_at bs' c ≡ Some (entry (first (outside ++ new.around)) t (sum_by (direct c) ts') (waits_at new.phase c) (mark_of marks c))
        mine lo d [] outside c h full =
            let q : b ≡ c = cc in
            let was_told : Some x ≡ Some (told marks ts ts t c outside) = sym stood ∙ ap (λ (z : BlockId). block_at bs z) q ∙ tracks t c [] outside lo full in
            let is_told : x ≡ told marks ts ts t c outside = cc in
            let w : true ≡ waits_at new.phase c = sym (ap (λ p. waits_at p c) pn ∙ eq-eqb b.number c.number (ap number q)) in
            subst (λ (z : BlockId). block_at bs' z ≡ Some (record x { waits = true })) q made.here
            ∙ ap {A = Block} {B = Option Block} (λ y. Some (record y { waits = true })) is_told
            ∙ ap (λ z. Some (entry (first (outside ++ z)) t (sum_by (direct c) ts) true (mark_of marks c))) (sym a)
            ∙ ap (λ z. Some (entry (first (outside ++ new.around)) t z true (mark_of marks c))) (sym (d c))
            ∙ ap (λ z. Some (entry (first (outside ++ new.around)) t (sum_by (direct c) ts') z (mark_of marks c))) w
        mine lo d (i ∷ is') outside c h full =
            let q : b ≡ i = cc in
            let full' : entered old ≡ b ∷ is' ++ c ∷ outside = full ∙ ap (λ z. z ∷ is' ++ c ∷ outside) (sym q) in
            let ne = below_apart ts blocks good t b c is' outside lo full' in
            let w : waits_at old.phase c ≡ waits_at new.phase c = ap (λ p. waits_at p c) po ∙ sym (ap (λ p. waits_at p c) pn ∙ unequal b.number c.number (other_block b c ne)) in
            same_told d a c (i ∷ is') outside lo full (changed_same bs bs' b _ made c ne) w

    -- a thread is started, or has ended: the counts change
    pub tracks_count : (Lives new.phase → entered new ≡ []) → ((b : BlockId) (x : Block) → x.count ≡ sum_by (direct b) ts → block_at bs b ≡ Some x
        → block_at bs' b ≡ Some (record x { count = sum_by (direct b) ts' })) → Tracks marks ts' bs'
    tracks_count empty counts =
        tracks_change
        (λ l b inside outside h. absurd (none_full b inside outside (sym (empty l) ∙ h)))
        (λ o b inside outside ne l h. counts b (told marks ts ts o b outside) refl (tracks o b inside outside l h))

-- ---- marks

-- a new block has none
pub mark_open : (marks : List Bool) (n : ℕ) → get_or (marks ++ false ∷ []) n false ≡ get_or marks n false
mark_open [] zero = refl
mark_open [] (suc n) = refl
mark_open (x ∷ marks) zero = refl
mark_open (x ∷ marks) (suc n) = mark_open marks n

pub tracks_marks : (marks marks' : List Bool) (ts : List Thread) (bs : List (Option Block)) → ((b : BlockId) → mark_of marks' b ≡ mark_of marks b) → Tracks marks ts bs → Tracks marks' ts bs
tracks_marks marks marks' ts bs same tracks o b inside outside l e =
    tracks o b inside outside l e
    ∙ ap (λ z. Some (entry (first (outside ++ (at ts o).around)) o (sum_by (direct b) ts) (waits_at (at ts o).phase b) z)) (sym (same b))

-- one more is marked
module _ (marks : List Bool) (ts : List Thread) (bs : List (Option Block)) (good : Good ts (length marks)) (tracks : Tracks marks ts bs) (block : BlockId) where
  abbrev marks' : List Bool
  marks' = set marks block.number true

  abbrev bs' : List (Option Block)
  bs' = with_block bs block (with_mark (block_at bs block))

  pub tracks_mark : Tracks marks' ts bs'
  tracks_mark o b inside outside l e =
      elim (cases_eq block.number b.number) as (λ _. block_at bs' b ≡ Some (told marks' ts ts o b outside)) [
        | inl q ↦
            let is : block ≡ b = same_block block b q in
            subst (λ (z : BlockId). block_at (with_block bs z (with_mark (block_at bs z))) b ≡ Some (told (set marks z.number true) ts ts o b outside)) (sym is) here
        | inr ne ↦
            get_or-set_other bs block.number b.number (with_mark (block_at bs block)) None (λ q. ne (sym q))
            ∙ tracks o b inside outside l e
            ∙ ap (λ z. Some (entry (first (outside ++ (at ts o).around)) o (sum_by (direct b) ts) (waits_at (at ts o).phase b) z))
            (sym (get_or-set_other marks block.number b.number true false (λ q. ne (sym q))))
      ]
    where
      is_born : b.number < length marks
      is_born =
          elim (cases_lt b.number (length marks)) as (λ _. b.number < length marks) [
            | inl lt ↦ lt
            | inr le ↦ absurd (
                let k = held_at ts o b inside outside l e in
                let z = total_one nobody (held b) refl ts o in
                let f = good.fresh b le in
                omega (arith, k, z, f))
          ]

      here : block_at (with_block bs b (with_mark (block_at bs b))) b ≡ Some (told (set marks b.number true) ts ts o b outside)
      here =
          let was = tracks o b inside outside l e in
          (block_put bs b (told marks ts ts o b outside) (with_mark (block_at bs b)) was).here
          ∙ ap with_mark was
          ∙ ap (λ z. Some (entry (first (outside ++ (at ts o).around)) o (sum_by (direct b) ts) (waits_at (at ts o).phase b) z))
          (sym (get_or-set_same marks b.number true false is_born))
