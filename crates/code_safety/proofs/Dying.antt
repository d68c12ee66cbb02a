-- A state stays fit where its thread ends, which may wake the owner of its block.
-- The thread counts in the block in which it was started, and that alone has one less. If that was the last and the owner waits, the block
-- is given back and the owner comes to the front of the ready ones; the two cases are shown one after the other.
use Rattle.std.proofs.Common.{◌≡◌, ◌⊎◌, ℕ, ◌+◌, ◌-◌, ◌≤◌, ◌<◌, List, [], ◌∷◌, length, Option, Some, None, IsSome, Bool, true, false, refl, sym, ap, ◌∙◌, subst, inl, inr, arith}
use Rattle.std.specs.Prelude.{slice_get, slice_set, nat_eq, nat_lt, not, ◌&&◌, ◌||◌, if◌then◌else◌}
use Rattle.std.specs.List.{list_any}
use Rattle.std.proofs.lemmas.Bool.{and_parts, eqb-true, cases_eq}
use Rattle.std.proofs.lemmas.Bool.Decides.{nat_tests}
use Rattle.std.proofs.lemmas.List.{length-set, get_or-set_same}
use Rattle.work_item.specs.declared.ids.Item.{Item}
use Rattle.work_item.specs.declared.ids.FrameId.{FrameId}
use Rattle.work_item.specs.declared.ids.BlockId.{BlockId}
use Rattle.work_item.specs.Store.{Store, released}
use Rattle.stack_code.specs.declared.instr.Instr.TheVariants as i
use Rattle.stack_code.specs.declared.shape.OpenBlock.{OpenBlock}
use Rattle.stack_code.specs.declared.shape.Shape.{Shape}
use Rattle.stack_code.specs.declared.shape.Leads.{Leads}
use Rattle.stack_code.specs.declared.shape.Leads.TheVariants.{Stop}
use Rattle.stack_code.specs.Parts.{Parts}
use Rattle.stack_code.specs.Shapes.{effect, can_end, has_own}
use Rattle.code_meaning.specs.Machine.{Flat, Thread, Block, Caller, begin, counted, block_at, with_block, with_store, nobody, stops, dies, dies_in, counted_out}
use Rattle.code_safety.specs.Fit.{Birth, Born, AreCallers, bottom, above, HasEntered, outside, inside, IsThread, Phase, Gone, Going, AtFinish, Life, no_life, life_at, is_living, is_going, is_at}
use Rattle.code_safety.specs.Fit.{starts_in, total}
use Rattle.code_safety.specs.Fit.{innermost, innermost_in, IsBlock, IsAlive, IsFit, one_if, one_at, own_blocks, own_in, occurs, items_of}
use Rattle.code_safety.proofs.Taken.{if_is}
use Rattle.code_safety.proofs.Lasting.{IsBefore, thread_kept}
use Rattle.code_safety.proofs.Plain.{Onward}
use Rattle.code_safety.proofs.Making.{left_carries, left_store}
use Rattle.code_safety.proofs.Lives.{one_same, one_other, same_item, life_cases, living_within, total_set, total_same, starts_one, starts_none, one_counts}
use Rattle.code_safety.proofs.Own.{rooted_of, phase_of, lives_of, within_of, thread_of, block_bound, is_bound}
use Rattle.code_safety.proofs.Turns.{alive_kept, stops_fit, listed_other, running_rests, resting}
use Rattle.code_safety.proofs.Removing.{same_or_not, same_or_other, set_aside, set_there, set_is, stays, keeps_others, keeps_before, other_blocks}

none_own : (n : ℕ) (blocks : List OpenBlock) → list_any (λ (block : OpenBlock). nat_eq block.bodies n) blocks ≡ false → own_in n blocks ≡ 0
none_own n [] e = refl
none_own n (b ∷ blocks) e = go (none_own n blocks) (nat_eq b.bodies n) refl e
  where
    go : (list_any (λ (block : OpenBlock). nat_eq block.bodies n) blocks ≡ false → own_in n blocks ≡ 0) → (c : Bool) → nat_eq b.bodies n ≡ c
        → (c || list_any (λ (block : OpenBlock). nat_eq block.bodies n) blocks) ≡ false → own_in n (b ∷ blocks) ≡ 0
    go rest true q f = let no : true ≡ false = f in absurd (cc)
    go rest false q f = let r = rest f in let z : one_if (nat_eq b.bodies n) ≡ 0 = ap one_if q in omega (arith, r, z)

not_true : (b : Bool) → not b ≡ true → b ≡ false
not_true true e = let no : false ≡ true = e in cc
not_true false e = refl

-- where nothing was entered, the block is that in which it was started
outside_is : (blocks : List (Option Block)) (t : Item) (start : Option BlockId) (k : ℕ) (o : Option BlockId) → k ≡ 0 → HasEntered blocks t start k o → o ≡ start
outside_is blocks t start _ _ e outside = refl
outside_is blocks t start _ _ e (inside n b x here owner rest) = absurd (omega (arith, e))

module _ (code : Parts) (bound : ℕ) (m : Flat) (fit : IsFit code m) (t : Item) (run : m.running ≡ Some t) where
  abbrev h : IsThread code fit.births m.store m.blocks t (life_at fit.lives t).start m.current
  h = thread_of code m fit t run

  abbrev s : Shape
  s = h.shape

  abbrev was : Life
  was = life_at fit.lives t

  within : t.number < length fit.lives
  within = within_of code m fit t run

  inner_was : innermost was ≡ m.current.block
  inner_was = ap (λ p. innermost_in p was.thread.block) (phase_of code m fit t run) ∙ ap (λ (x : Thread). x.block) (sym (fit.current t run))

  bottom_here : (f : FrameId) (shape : Shape) (callers : List Caller) (n : ℕ) → 1 < length shape.bodies → AreCallers code fit.births m.store t was.start f shape callers n → (n ≡ 0) × IsSome was.start
  bottom_here _ _ _ _ lt (bottom f shape q) = (refl, q lt)
  bottom_here _ _ _ _ lt (above f shape c callers u n one older waits rest) = absurd (omega (arith, lt, one))

  abbrev gone : FrameId
  gone = m.current.frame

  abbrev store : Store
  store = released m.store gone

  abbrev Others : FrameId → Type 0
  Others g = g.number ≡ gone.number → ⊥

  others_are : (u : Item) → (t ≡ u → ⊥) → (g : FrameId) (birth : Birth) → Born fit.births g birth → birth.item ≡ u → Others g
  others_are u ne g birth born is e =
      let same : birth ≡ h.top.goes.birth = let both : Some birth ≡ Some h.top.goes.birth = sym born ∙ ap (λ n. slice_get fit.births n) e ∙ h.top.goes.born in cc in
      ne (sym h.top.goes.item ∙ ap (λ (b : Birth). b.item) (sym same) ∙ is)

  -- the block in which it was started, which is its innermost
  module _ (b : BlockId) (start : was.start ≡ Some b) (block : m.current.block ≡ Some b) (x : Block) (here : block_at m.blocks b ≡ Some x) (older : x.owner.number < t.number) where
    inner_is : innermost was ≡ Some b
    inner_is = inner_was ∙ block

    owner_not : (c : BlockId) (y : Block) → block_at m.blocks c ≡ Some y → t ≡ y.owner → ⊥
    owner_not c y e same =
        let o = fit.block c y e in
        let q : o.inner ≡ b = let both : Some o.inner ≡ Some b = sym o.innermost ∙ ap (λ k. innermost (life_at fit.lives k)) (sym same) ∙ inner_is in cc in
        let le : c.number ≤ b.number = subst (λ (d : BlockId). c.number ≤ d.number) q o.within in
        let lt = o.newer b (ap (λ k. (life_at fit.lives k).start) (sym same) ∙ start) in
        omega (arith, le, lt)

    abbrev left : List Life
    left = slice_set fit.lives t.number no_life

    -- another thread
    left_other : (u : Item) → (t ≡ u → ⊥) → life_at left u ≡ life_at fit.lives u
    left_other u ne = elim (life_cases fit.lives t u no_life within) as (λ _. life_at left u ≡ life_at fit.lives u) [ inl p ↦ absurd (ne p.0) | inr p ↦ p.1 ]

    left_own : life_at left t ≡ no_life
    left_own = get_or-set_same fit.lives t.number no_life no_life within

    left_lives : (u : Item) → is_living (life_at left u).phase ≡ true → t ≡ u → ⊥
    left_lives u e same = let k : is_living (life_at left t).phase ≡ true = ap (λ z. is_living (life_at left z).phase) same ∙ e in
        let no : false ≡ true = sym (ap (λ (l : Life). is_living l.phase) left_own) ∙ k in cc

    owner_left : (c : BlockId) (y : Block) → block_at m.blocks c ≡ Some y → life_at left y.owner ≡ life_at fit.lives y.owner
    owner_left c y e = left_other y.owner (owner_not c y e)

    count_here : total (starts_in b) left + 1 ≡ total (starts_in b) fit.lives
    count_here =
        let k : total (starts_in b) left + starts_in b was ≡ total (starts_in b) fit.lives + 0 = total_set (starts_in b) fit.lives t.number no_life no_life within in
        let one = starts_one b was (lives_of code m fit t run) start in
        omega (arith, k, one)

    count_there : (c : BlockId) → (b ≡ c → ⊥) → total (starts_in c) left ≡ total (starts_in c) fit.lives
    count_there c ne =
        let k : total (starts_in c) left + starts_in c was ≡ total (starts_in c) fit.lives + 0 = total_set (starts_in c) fit.lives t.number no_life no_life within in
        let none = starts_none c was (λ l e. let both : Some b ≡ Some c = sym start ∙ e in ne (cc)) in
        omega (arith, k, none)

    abbrev zeroth : Item
    zeroth = record { number = 0 }

    not_first : t ≡ zeroth → ⊥
    not_first e = let no : None ≡ Some b = sym fit.free ∙ ap (λ k. (life_at fit.lives k).start) (sym e) ∙ start in cc

    going_left : (u : ℕ) → (t.number ≡ u → ⊥) → resting m u ≡ one_if (is_going (life_at fit.lives (record { number = u })).phase)
    going_left u ne =
        let l = listed_other code m fit t run u in
        let z : one_at u t ≡ 0 = one_other u t.number (λ q. ne (sym q)) in
        omega (arith, l, z)

    -- ---- no owner wakes

    module _ (some : (x.count ≡ 1) → (x.waits ≡ true) → ⊥) where
      abbrev less : Block
      less = record x { count = x.count - 1 }

      abbrev blocks : List (Option Block)
      blocks = with_block m.blocks b (Some less)

      pub record Still (c : BlockId) (y : Block) : Type 0 where
        pub old : Block
        pub at : block_at m.blocks c ≡ Some old
        pub owner : y.owner ≡ old.owner
        pub parent : y.parent ≡ old.parent
        pub waits : y.waits ≡ old.waits
        pub count : y.count ≡ total (starts_in c) left

      still_of : (c : BlockId) (y : Block) → block_at blocks c ≡ Some y → Still c y
      still_of c y e = elim (set_is m.blocks b (Some less) x here c y e) as (λ _. Still c y) [
        | inl p ↦
            let z : less ≡ y = let both : Some less ≡ Some y = p.1 in cc in
            let n : x.count - 1 ≡ total (starts_in b) left = let k = (fit.block b x here).count in let g = count_here in omega (arith, k, g) in
            subst (λ d. Still d y) p.0 (subst (Still b) z (record { old = x; at = here; owner = refl; parent = refl; waits = refl; count = n }))
        | inr p ↦ record { old = y; at = p.1; owner = refl; parent = refl; waits = refl; count = (fit.block c y p.1).count ∙ sym (count_there c p.0) }
      ]

      there_still : (c : BlockId) (y : Block) → block_at m.blocks c ≡ Some y
          → (z : Block) × ((block_at blocks c ≡ Some z) × (((z.owner ≡ y.owner) × (z.parent ≡ y.parent)) × ((z.waits ≡ y.waits) × (y.waits ≡ true → 0 < y.count → 0 < z.count))))
      there_still c y e = elim (same_or_not b c) as
          (λ _. (z : Block) × ((block_at blocks c ≡ Some z) × (((z.owner ≡ y.owner) × (z.parent ≡ y.parent)) × ((z.waits ≡ y.waits) × (y.waits ≡ true → 0 < y.count → 0 < z.count))))) [
            | inl same ↦
                let q : x ≡ y = let both : Some x ≡ Some y = sym here ∙ ap (block_at m.blocks) same ∙ e in cc in
                let more = (λ (w : y.waits ≡ true) (lt : 0 < y.count). let k = ap (λ (z : Block). z.count) q in more_than_one (ap (λ (z : Block). z.waits) q ∙ w) (omega (arith, lt, k))) in (
                  less,
                  (
                    subst (λ d. block_at blocks d ≡ Some less) same (set_there m.blocks b (Some less) x here),
                    ((ap (λ (w : Block). w.owner) q, ap (λ (w : Block). w.parent) q), (ap (λ (w : Block). w.waits) q, more)),
                  ),
                )
            | inr ne ↦ (y, (set_aside m.blocks b (Some less) c ne ∙ e, ((refl, refl), (refl, λ w lt. lt))))
          ]
        where
          more_than_one : x.waits ≡ true → 0 < x.count → 0 < x.count - 1
          more_than_one w lt = elim (cases_eq x.count 1) as (λ _. 0 < x.count - 1) [ inl one ↦ absurd (some one w) | inr ne ↦ omega (arith, lt, ne) ]

      -- The block of the thread counts one less; of any other block nothing has changed, since the thread was started in no other and owns none.
      all_blocks : (c : BlockId) (y : Block) → block_at blocks c ≡ Some y → IsBlock left blocks c y
      all_blocks c y e =
          let z = still_of c y e in
          let o = fit.block c z.old z.at in
          let l : life_at left y.owner ≡ life_at fit.lives z.old.owner = ap (life_at left) z.owner ∙ owner_left c z.old z.at in
          record {
            inner = o.inner;
            innermost = ap innermost l ∙ o.innermost;
            within = o.within;
            nested = λ d w g owner lt.
                let zw = still_of d w g in
                let r = o.nested d zw.old zw.at (sym zw.owner ∙ owner ∙ z.owner) lt in
                (r.0, (z.parent ∙ r.1.0, r.1.1));
            rooted = λ p up.
                let r = o.rooted p (sym z.parent ∙ up) in
                let w = there_still p r.1.0 r.1.1.0 in (
                  r.0,
                  (
                    w.0,
                    (
                      w.1.0,
                      elim r.1.1.1 as (λ _. (w.0.owner ≡ y.owner) ⊎ ((life_at left y.owner).start ≡ Some p)) [
                        | inl k ↦ inl (w.1.1.0.0 ∙ k ∙ sym z.owner)
                        | inr k ↦ inr (ap (λ (q : Life). q.start) l ∙ k)
                      ],
                    ),
                  ),
                );
            newer = λ a k. o.newer a (sym (ap (λ (q : Life). q.start) l) ∙ k);
            count = z.count;
            waits = λ w. ap (λ (q : Life). q.phase) l ∙ o.waits (sym z.waits ∙ w);
          }

      alive : (u : Item) → is_living (life_at left u).phase ≡ true → IsAlive code fit.births store blocks u (life_at left u)
      alive u e =
          let ne = left_lives u e in
          let l = life_at fit.lives u in
          let same = left_other u ne in
          subst (λ q. IsAlive code fit.births store blocks u q) (sym same)
          (alive_kept code fit.births fit.births (λ j z q. q) m.store store Others (left_carries m.store gone) m.blocks blocks (rooted_of code m fit) u l (block_bound l.thread.block) (others_are u ne)
          (λ c y q owner lt. let z = there_still c y q in (z.0, (z.1.0, z.1.1.0))) (is_bound l.thread.block) (λ c y q g. let z = there_still c y g in (z.0, (z.1.0, z.1.1.0.0)))
          (λ c q w. let z = there_still c w.block w.here in
          record { block = z.0; here = z.1.0; owner = z.1.1.0.0 ∙ w.owner; waits = z.1.1.1.0 ∙ w.waits; some = z.1.1.1.1 w.waits w.some; round = w.round ∙ sym z.1.1.0.1 })
          (fit.alive u (sym (ap (λ (q : Life). is_living q.phase) same) ∙ e)))

      ends_fit : IsFit code (stops (with_store m store) t nobody m.ready blocks)
      ends_fit = stops_fit code m fit t run fit.births left m.shared store (left_store code fit.births m.store gone fit.store) m.operations nobody m.ready blocks (counted m.count) alive all_blocks
          (ap (λ (q : Life). is_living q.phase) (left_other zeroth not_first) ∙ fit.first) (ap (λ (q : Life). q.start) (left_other zeroth not_first) ∙ fit.free) listed fit.asks
          (length-set fit.lives t.number no_life) (λ e. absurd (left_lives t e refl)) (λ u h ne. refl) others
        where
          listed : (u : ℕ) → resting m u ≡ one_if (is_going (life_at left (record { number = u })).phase)
          listed u = elim (cases_eq t.number u) as (λ _. resting m u ≡ one_if (is_going (life_at left (record { number = u })).phase)) [
            | inl e ↦ subst (λ k. resting m k ≡ one_if (is_going (life_at left (record { number = k })).phase)) e
                (running_rests code m fit t run ∙ sym (ap (λ (q : Life). one_if (is_going q.phase)) left_own))
            | inr ne ↦ going_left u ne ∙ sym (ap (λ (q : Life). one_if (is_going q.phase)) (left_other (record { number = u }) (λ q. ne (ap (λ (z : Item). z.number) q))))
          ]

          others : (u : Item) → (t ≡ u → ⊥) → is_living (life_at left u).phase ≡ true → (is_living (life_at fit.lives u).phase ≡ true) × ((life_at fit.lives u).thread ≡ (life_at left u).thread)
          others u ne e = (sym (ap (λ (q : Life). is_living q.phase) (left_other u ne)) ∙ e, sym (ap (λ (q : Life). q.thread) (left_other u ne)))

    -- ---- the owner wakes

    module _ (last : x.count ≡ 1) (waits : x.waits ≡ true) where
      abbrev o : Item
      o = x.owner

      abbrev slept : Life
      slept = life_at fit.lives o

      abbrev woken : Life
      woken = record slept { phase = Going }

      abbrev lives : List Life
      lives = slice_set left o.number woken

      abbrev table : List (Option Block)
      table = with_block m.blocks b None

      asleep : slept.phase ≡ AtFinish b
      asleep = (fit.block b x here).waits waits

      differ : t ≡ o → ⊥
      differ e = let k = ap (λ (z : Item). z.number) e in let lt = older in omega (arith, k, lt)

      owner_alive : is_living slept.phase ≡ true
      owner_alive = ap is_living asleep

      o_within : o.number < length left
      o_within = let lt = living_within fit.lives o owner_alive in let k = length-set fit.lives t.number no_life in omega (arith, lt, k)

      left_slept : life_at left o ≡ slept
      left_slept = left_other o differ

      -- another thread than both
      lives_other : (u : Item) → (t ≡ u → ⊥) → (o ≡ u → ⊥) → life_at lives u ≡ life_at fit.lives u
      lives_other u ne away = elim (life_cases left o u woken o_within) as (λ _. life_at lives u ≡ life_at fit.lives u) [ inl p ↦ absurd (away p.0) | inr p ↦ p.1 ∙ left_other u ne ]

      lives_own : life_at lives o ≡ woken
      lives_own = get_or-set_same left o.number woken no_life o_within

      lives_gone : life_at lives t ≡ no_life
      lives_gone = elim (life_cases left o t woken o_within) as (λ _. life_at lives t ≡ no_life) [ inl p ↦ absurd (differ (sym p.0)) | inr p ↦ p.1 ∙ left_own ]

      total_left : (c : BlockId) → total (starts_in c) lives ≡ total (starts_in c) left
      total_left c =
          let w : starts_in c woken ≡ starts_in c (life_at left o) = ap (λ q. if q then one_if (is_at slept.start c) else 0) (sym owner_alive) ∙ ap (starts_in c) (sym left_slept) in
          total_same (starts_in c) left o.number woken no_life o_within w

      none_left : total (starts_in b) left ≡ 0
      none_left = let k = count_here in let c = (fit.block b x here).count in omega (arith, k, c, last)

      none_in : (u : Item) → (t ≡ u → ⊥) → is_living (life_at fit.lives u).phase ≡ true → (life_at fit.lives u).start ≡ Some b → ⊥
      none_in u ne l e =
          let same = left_other u ne in
          let one = one_counts b left u (ap (λ (q : Life). is_living q.phase) same ∙ l) (ap (λ (q : Life). q.start) same ∙ e) in
          let none = none_left in
          omega (arith, one, none)

      owner_lives : (c : BlockId) (y : Block) → block_at m.blocks c ≡ Some y → is_living (life_at fit.lives y.owner).phase ≡ true
      owner_lives c y e = let k = fit.block c y e in some_inner (life_at fit.lives y.owner).phase (life_at fit.lives y.owner).thread.block k.inner k.innermost
        where
          some_inner : (p : Phase) (q : Option BlockId) (r : BlockId) → innermost_in p q ≡ Some r → is_living p ≡ true
          some_inner Gone q r e = let no : None ≡ Some r = e in cc
          some_inner Going q r e = refl
          some_inner (AtFinish c) q r e = refl

      owner_inner : innermost (life_at fit.lives x.owner) ≡ Some b
      owner_inner = ap (λ p. innermost_in p slept.thread.block) asleep

      round : slept.thread.block ≡ x.parent
      round =
          let w = (fit.alive o owner_alive).waiting b asleep in
          let same : w.block ≡ x = let both : Some w.block ≡ Some x = sym w.here ∙ here in cc in
          w.round ∙ ap (λ (z : Block). z.parent) same

      inner_now : innermost (life_at lives x.owner) ≡ x.parent
      inner_now = ap innermost lives_own ∙ round

      inner_other : (c : BlockId) (y : Block) → block_at m.blocks c ≡ Some y → (y.owner ≡ x.owner → ⊥) → innermost (life_at lives y.owner) ≡ innermost (life_at fit.lives y.owner)
      inner_other c y e ne = ap innermost (lives_other y.owner (owner_not c y e) (λ q. ne (sym q)))

      starts_same : (c : BlockId) (y : Block) → block_at m.blocks c ≡ Some y → (life_at lives y.owner).start ≡ (life_at fit.lives y.owner).start
      starts_same c y e = elim (same_or_other o y.owner) as (λ _. (life_at lives y.owner).start ≡ (life_at fit.lives y.owner).start) [
        | inl same ↦ subst (λ k. (life_at lives k).start ≡ (life_at fit.lives k).start) same (ap (λ (q : Life). q.start) lives_own)
        | inr away ↦ ap (λ (q : Life). q.start) (lives_other y.owner (owner_not c y e) away)
      ]

      waiting_same : (c : BlockId) (y : Block) → block_at m.blocks c ≡ Some y → (b ≡ c → ⊥) → y.waits ≡ true → (life_at lives y.owner).phase ≡ AtFinish c
      waiting_same c y e ne w =
          let phase = (fit.block c y e).waits w in
          let no : o ≡ y.owner → ⊥ = (λ same. let both : AtFinish b ≡ AtFinish c = sym asleep ∙ ap (λ k. (life_at fit.lives k).phase) same ∙ phase in ne (cc)) in
          ap (λ (q : Life). q.phase) (lives_other y.owner (owner_not c y e) no) ∙ phase

      table_blocks : (c : BlockId) (y : Block) → block_at table c ≡ Some y → IsBlock lives table c y
      table_blocks = other_blocks fit.lives lives m.blocks b x here fit.block owner_inner (λ c y e k. none_in y.owner (owner_not c y e) (owner_lives c y e) k) inner_now inner_other starts_same
          (λ c y e ne. (fit.block c y e).count ∙ sym (count_there c ne) ∙ sym (total_left c)) waiting_same

      stays_there : (c : BlockId) (y : Block) → (b ≡ c → ⊥) → block_at m.blocks c ≡ Some y → block_at table c ≡ Some y
      stays_there c y ne e = stays fit.lives lives m.blocks b x here fit.block owner_inner c y ne e

      started_kept : (u : Item) → (t ≡ u → ⊥) → is_living (life_at fit.lives u).phase ≡ true → (c : BlockId) (y : Block) → (life_at fit.lives u).start ≡ Some c → block_at m.blocks c ≡ Some y
          → (z : Block) × ((block_at table c ≡ Some z) × (z.owner ≡ y.owner))
      started_kept u ne l c y e f = (y, (stays_there c y (λ same. none_in u ne l (e ∙ ap (λ d. Some d) (sym same))) f, refl))

      before_parent : (q : Option BlockId) → slept.thread.block ≡ q → IsBefore b.number slept.thread.block
      before_parent None e = subst (IsBefore b.number) (sym e) tt
      before_parent (Some p) e = let lt = rooted_of code m fit b x p here (sym round ∙ e) in subst (IsBefore b.number) (sym e) lt

      -- The woken owner goes on where it stood; each other thread keeps its blocks, as the one that is given back is the innermost of its owner.
      alive_now : (u : Item) → is_living (life_at lives u).phase ≡ true → IsAlive code fit.births store table u (life_at lives u)
      alive_now u e = elim (same_or_other t u) as (λ _. IsAlive code fit.births store table u (life_at lives u)) [
        | inl same ↦ absurd (let k : is_living (life_at lives t).phase ≡ true = ap (λ z. is_living (life_at lives z).phase) same ∙ e in
            let no : false ≡ true = sym (ap (λ (q : Life). is_living q.phase) lives_gone) ∙ k in cc)
        | inr ne ↦ elim (same_or_other o u) as (λ _. IsAlive code fit.births store table u (life_at lives u)) [
          | inl same ↦ subst (λ z. IsAlive code fit.births store table z (life_at lives z)) same (subst (λ q. IsAlive code fit.births store table o q) (sym lives_own) owner_now)
          | inr away ↦
              let l = life_at fit.lives u in
              let q = lives_other u ne away in
              let living = sym (ap (λ (z : Life). is_living z.phase) q) ∙ e in
              subst (λ z. IsAlive code fit.births store table u z) (sym q)
              (alive_kept code fit.births fit.births (λ j z g. g) m.store store Others (left_carries m.store gone) m.blocks table (rooted_of code m fit) u l (block_bound l.thread.block)
              (others_are u ne)
              (keeps_others fit.lives lives m.blocks b x here fit.block owner_inner u (block_bound l.thread.block) (λ g. away (sym g))) (is_bound l.thread.block) (started_kept u ne living)
              (λ c f w. record {
                block = w.block;
                here = stays_there c w.block
                    (λ same. let z : x ≡ w.block = let both : Some x ≡ Some w.block = sym here ∙ ap (block_at m.blocks) same ∙ w.here in cc in away (ap (λ (y : Block). y.owner) z ∙ w.owner)) w.here;
                owner = w.owner;
                waits = w.waits;
                some = w.some;
                round = w.round;
              })
              (fit.alive u living))
        ]
      ]
        where
          owner_now : IsAlive code fit.births store table o woken
          owner_now =
              let a = fit.alive o owner_alive in
              record {
                thread = thread_kept code fit.births fit.births (λ j z g. g) m.store store Others (left_carries m.store gone) m.blocks table (rooted_of code m fit) o slept.start slept.thread b.number
                    (others_are o differ) (keeps_before fit.lives lives m.blocks b x here fit.block owner_inner o) (before_parent slept.thread.block refl) a.thread;
                started = λ c q.
                    let w = a.started c q in
                    let z = started_kept o differ owner_alive c w.block q w.here in
                    record { block = z.0; here = z.1.0; older = subst (λ (k : Item). k.number < o.number) (sym z.1.1) w.older };
                waiting = λ c w. absurd (let no : Going ≡ AtFinish c = w in cc);
              }

      first_of : {A : Type 0} (f : Life → A) → f woken ≡ f slept → f (life_at lives zeroth) ≡ f (life_at fit.lives zeroth)
      first_of f e = elim (same_or_other o zeroth) as (λ _. f (life_at lives zeroth) ≡ f (life_at fit.lives zeroth)) [
        | inl same ↦ subst (λ k. f (life_at lives k) ≡ f (life_at fit.lives k)) same (ap f lives_own ∙ e)
        | inr away ↦ ap f (lives_other zeroth not_first away)
      ]

      -- The parts of a fit state, each from the laws above: the thread is out, the owner is listed once, and the block is gone.
      wakes_fit : IsFit code (stops (with_store m store) t nobody (x.owner ∷ m.ready) table)
      wakes_fit = stops_fit code m fit t run fit.births lives m.shared store (left_store code fit.births m.store gone fit.store) m.operations nobody (x.owner ∷ m.ready) table
          (counted m.count) alive_now table_blocks
          (first_of (λ (q : Life). is_living q.phase) (sym owner_alive) ∙ fit.first) (first_of (λ (q : Life). q.start) refl ∙ fit.free) listed fit.asks
          (length-set left o.number woken ∙ length-set fit.lives t.number no_life)
          (λ e. absurd (let no : false ≡ true = sym (ap (λ (q : Life). is_living q.phase) lives_gone) ∙ e in cc)) (λ u h ne. refl) others
        where
          listed : (u : ℕ) → (one_at u o + occurs u m.ready) + occurs u (items_of m.operations) ≡ one_if (is_going (life_at lives (record { number = u })).phase)
          listed u = elim (cases_eq t.number u) as (λ _. (one_at u o + occurs u m.ready) + occurs u (items_of m.operations) ≡ one_if (is_going (life_at lives (record { number = u })).phase)) [
            | inl e ↦
                let z : one_at t.number o ≡ 0 = one_other t.number o.number (λ q. differ (same_item t o q)) in
                let r = running_rests code m fit t run in
                let g : one_if (is_going (life_at lives t).phase) ≡ 0 = ap (λ (q : Life). one_if (is_going q.phase)) lives_gone in
                let all : (one_at t.number o + occurs t.number m.ready) + occurs t.number (items_of m.operations) ≡ one_if (is_going (life_at lives t).phase) = omega (arith, z, r, g) in
                subst (λ k. (one_at k o + occurs k m.ready) + occurs k (items_of m.operations) ≡ one_if (is_going (life_at lives (record { number = k })).phase)) e all
            | inr ne ↦ elim (cases_eq o.number u) as (λ _. (one_at u o + occurs u m.ready) + occurs u (items_of m.operations) ≡ one_if (is_going (life_at lives (record { number = u })).phase)) [
              | inl e ↦
                  let one : one_at o.number o ≡ 1 = one_same o.number in
                  let was_out : resting m o.number ≡ one_if (is_going slept.phase) = going_left o.number (λ q. differ (same_item t o q)) in
                  let none : one_if (is_going slept.phase) ≡ 0 = ap (λ p. one_if (is_going p)) asleep in
                  let g : one_if (is_going (life_at lives o).phase) ≡ 1 = ap (λ (q : Life). one_if (is_going q.phase)) lives_own in
                  let all : (one_at o.number o + occurs o.number m.ready) + occurs o.number (items_of m.operations) ≡ one_if (is_going (life_at lives o).phase) =
                  omega (arith, one, was_out, none, g) in
                  subst (λ k. (one_at k o + occurs k m.ready) + occurs k (items_of m.operations) ≡ one_if (is_going (life_at lives (record { number = k })).phase)) e all
              | inr away ↦
                  let z : one_at u o ≡ 0 = one_other u o.number (λ q. away (sym q)) in
                  let g = going_left u ne in
                  let q : one_if (is_going (life_at lives (record { number = u })).phase) ≡ one_if (is_going (life_at fit.lives (record { number = u })).phase) =
                  ap (λ (q : Life). one_if (is_going q.phase)) (lives_other (record { number = u }) (λ k. ne (ap (λ (z : Item). z.number) k)) (λ k. away (ap (λ (z : Item). z.number) k))) in
                  omega (arith, z, g, q)
            ]
          ]

          others : (u : Item) → (t ≡ u → ⊥) → is_living (life_at lives u).phase ≡ true → (is_living (life_at fit.lives u).phase ≡ true) × ((life_at fit.lives u).thread ≡ (life_at lives u).thread)
          others u ne e = elim (same_or_other o u) as (λ _. (is_living (life_at fit.lives u).phase ≡ true) × ((life_at fit.lives u).thread ≡ (life_at lives u).thread)) [
            | inl same ↦ subst (λ k. (is_living (life_at fit.lives k).phase ≡ true) × ((life_at fit.lives k).thread ≡ (life_at lives k).thread)) same
                (owner_alive, sym (ap (λ (q : Life). q.thread) lives_own))
            | inr away ↦ let q = lives_other u ne away in (sym (ap (λ (z : Life). is_living z.phase) q) ∙ e, sym (ap (λ (z : Life). z.thread) q))
          ]

    dies_there : IsFit code (dies (with_store m store) t m.current.block)
    dies_there =
        subst (λ z. IsFit code (dies (with_store m store) t z)) (sym block) (subst (λ z. IsFit code (dies_in (with_store m store) t b z)) (sym here) (go (nat_eq x.count 1) x.waits refl refl))
      where
        go : (p q : Bool) → nat_eq x.count 1 ≡ p → x.waits ≡ q → IsFit code (counted_out (p && q) (with_store m store) t b x)
        go true true e w = wakes_fit (eqb-true x.count 1 e) w
        go true false e w = ends_fit (λ one k. let no : false ≡ true = sym w ∙ k in cc)
        go false q e w = ends_fit (λ one k. let no : x.count ≡ 1 → ⊥ = grind (arith, nat_tests) in no one)

  -- the block of a thread that ends
  pub record Leaves : Type 0 where
    pub b : BlockId
    pub start : was.start ≡ Some b
    pub block : m.current.block ≡ Some b
    pub x : Block
    pub here : block_at m.blocks b ≡ Some x
    pub older : x.owner.number < t.number

  some_start : (z : Option BlockId) → was.start ≡ z → IsSome z → m.current.block ≡ was.start → Leaves
  some_start None e k same = let no : false ≡ true = k in absurd (cc)
  some_start (Some b) e k same =
      let w = (fit.alive t (lives_of code m fit t run)).started b e in
      record { b = b; start = e; block = same ∙ e; x = w.block; here = w.here; older = w.older }

  pub leaving : (leads : Leads) → effect code m.current.place i.End s ≡ Some leads → Leaves
  leaving leads finds =
      let c = if_is (can_end s) (Some Stop) leads finds in
      let p = and_parts (nat_lt 1 (length s.bodies)) (nat_eq (length s.operands) 0 && not (has_own s)) c.0 in
      let two : 1 < length s.bodies = let q = p.0 in grind (arith, nat_tests) in
      let q = and_parts (nat_eq (length s.operands) 0) (not (has_own s)) p.1 in
      let none = none_own (length s.bodies) s.blocks (not_true (has_own s) q.1) in
      let bot = bottom_here m.current.frame s m.current.callers h.below two h.callers in
      let below = bot.0 in
      let zero_all : own_blocks s + h.below ≡ 0 = omega (arith, none, below) in
      some_start was.start refl bot.1 (outside_is m.blocks t was.start (own_blocks s + h.below) m.current.block zero_all h.entered)

  pub end_fit : (leads : Leads) → effect code m.current.place i.End s ≡ Some leads → Onward (IsFit code) (begin code bound m t (Some i.End))
  end_fit leads finds = let l = leaving leads finds in dies_there l.b l.start l.block l.x l.here l.older
