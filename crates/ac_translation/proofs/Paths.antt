-- The blocks in which a thread stands, as the machine's table tells them: each with the one round it, and with its mark.
-- The machine goes from block to parent as often as there are blocks; by induction on the path this comes through all blocks in which the
-- source says that the thread stands.
use Rattle.std.proofs.Common.{◌≡◌, ℕ, zero, suc, ◌≤◌, List, [], ◌∷◌, ◌++◌, length, Option, Bool, true, false, refl, sym, ap, ◌∙◌, subst, arith, append_assoc}
use Rattle.std.specs.Prelude.{nat_eq, ◌||◌, if◌then◌else◌}
use Rattle.std.specs.List.{list_any}
use Rattle.work_item.specs.declared.ids.BlockId.{BlockId}
use Rattle.ac_semantics.specs.Held.{any_marked}
use Rattle.ac_semantics.specs.Threads.{Thread, is_among}
use Rattle.code_meaning.specs.Machine.{Block, block_at, parent_of, is_marked, few_round, round, is_cancelled}
use Rattle.ac_translation.proofs.Tables.{first}
use Rattle.ac_translation.proofs.Blocks.{Lives, entered, at, Good, path_of, falls_short}
use Rattle.ac_translation.proofs.Tracks.{mark_of, Tracks}

module _ (marks : List Bool) (bs : List (Option Block)) where
  -- the table tells of each of these that it lies in the next one, and whether it is marked
  abbrev pub AreTold : List BlockId → Type 0
  AreTold [] = Unit {0}
  AreTold (b ∷ rest) = (is_marked (block_at bs b) ≡ mark_of marks b) × ((parent_of (block_at bs b) ≡ first rest) × AreTold rest)

  -- so its way from block to parent comes through all of them
  pub rounds : (k : ℕ) (xs : List BlockId) → length xs ≤ k → AreTold xs → few_round k bs (first xs) ≡ xs
  rounds k [] le h = refl
  rounds zero (b ∷ xs) le h = absurd (omega (arith, le))
  rounds (suc k) (b ∷ xs) le h = ap (λ o. b ∷ few_round k bs o) h.1.0 ∙ ap (λ l. b ∷ l) (rounds k xs (omega (arith, le)) h.1.1)

  pub marks_told : (xs : List BlockId) → AreTold xs → list_any (λ (x : BlockId). is_marked (block_at bs x)) xs ≡ any_marked marks xs
  marks_told [] h = refl
  marks_told (b ∷ xs) h =
      ap (λ q. q || list_any (λ (x : BlockId). is_marked (block_at bs x)) xs) h.0 ∙ ap (λ q. mark_of marks b || q) (marks_told xs h.1.1)

  module _ (ts : List Thread) (good : Good ts (length marks)) (tracks : Tracks marks ts bs) where
    abbrev Paths : ℕ → Type 0
    Paths k = (w : ℕ) (inside outside : List BlockId) → Lives (at ts w).phase → entered (at ts w) ≡ inside ++ outside → length (outside ++ (at ts w).around) ≤ k → AreTold (outside ++ (at ts w).around)

    around_told : (k : ℕ) → Paths k → (w : ℕ) (around : List BlockId) → Lives (at ts w).phase → (at ts w).around ≡ around → length around ≤ suc k → AreTold around
    around_told k ih w [] l e le = tt
    around_told k ih w (c ∷ rest) l e le =
        let o = good.nested w c rest l e in
        let here = tracks o.owner c o.inside o.outside o.lives o.has in
        let more : entered (at ts o.owner) ≡ (o.inside ++ c ∷ []) ++ o.outside = o.has ∙ sym (append_assoc o.inside (c ∷ []) o.outside) in
        let len = ap length o.round in
        let told = ih o.owner (o.inside ++ c ∷ []) o.outside o.lives more (omega (arith, le, len)) in
        (ap is_marked here, (ap parent_of here ∙ ap first (sym o.round), subst AreTold (sym o.round) told))

    nothing_told : (w : ℕ) (around : List BlockId) → length around ≤ 0 → AreTold around
    nothing_told w [] le = tt
    nothing_told w (c ∷ rest) le = absurd (omega (arith, le))

    paths : (k : ℕ) → Paths k
    paths zero w inside [] l e le = nothing_told w (at ts w).around le
    paths zero w inside (b ∷ outside) l e le = absurd (omega (arith, le))
    paths (suc k) w inside [] l e le = around_told k (paths k) w (at ts w).around l refl le
    paths (suc k) w inside (b ∷ outside) l e le =
        let here = tracks w b inside outside l e in
        let more : entered (at ts w) ≡ (inside ++ b ∷ []) ++ outside = e ∙ sym (append_assoc inside (b ∷ []) outside) in
        (ap is_marked here, (ap parent_of here, paths k w (inside ++ b ∷ []) outside l more (omega (arith, le))))

    -- all that a living thread stands in is told, and that is not more than were born
    pub path_told : (u : ℕ) → Lives (at ts u).phase → AreTold (path_of (at ts u))
    path_told u l = paths (length (path_of (at ts u))) u [] (entered (at ts u)) l refl (omega arith)

    pub path_round : (u : ℕ) → length bs ≡ length marks → Lives (at ts u).phase → round bs (first (path_of (at ts u))) ≡ path_of (at ts u)
    path_round u same l =
        let short = falls_short (length marks) (path_of (at ts u)) (good.falls u l) in
        rounds (length bs) (path_of (at ts u)) (omega (arith, same, short)) (path_told u l)

    -- it stands in a cancelled block in the machine where it does so in the source
    pub path_cancelled : (u : ℕ) → length bs ≡ length marks → Lives (at ts u).phase → is_cancelled bs (first (path_of (at ts u))) ≡ any_marked marks (path_of (at ts u))
    path_cancelled u same l =
        ap (list_any (λ (x : BlockId). is_marked (block_at bs x))) (path_round u same l) ∙ marks_told (path_of (at ts u)) (path_told u l)

-- two ways to say that a block is among others
pub among_any : (b : BlockId) (xs : List BlockId) → list_any (λ (x : BlockId). nat_eq b.number x.number) xs ≡ is_among b xs
among_any b [] = refl
among_any b (x ∷ xs) = go (nat_eq b.number x.number) (among_any b xs)
  where
    go : (q : Bool) → list_any (λ (y : BlockId). nat_eq b.number y.number) xs ≡ is_among b xs
        → q || list_any (λ (y : BlockId). nat_eq b.number y.number) xs ≡ (if q then true else is_among b xs)
    go true h = refl
    go false h = h
