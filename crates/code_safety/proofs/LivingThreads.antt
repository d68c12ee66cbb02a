-- The threads that live are those that a fit state says live; and where their blocks were entered.
-- `LivesAs` goes by what is seen of a machine, `Life` by what a fit state has; they agree thread by thread, and none is in two places. From
-- a block one comes to its owner, as it stands, and to the frame in which it entered the block.
use Rattle.std.proofs.Common.{◌≡◌, ◌⊎◌, ℕ, zero, suc, ◌+◌, ◌≤◌, ◌<◌, List, [], ◌∷◌, length, Option, Some, None, Bool, true, false, refl, sym, ap, ◌∙◌, subst, inl, inr, arith}
use Rattle.std.specs.Prelude.{slice_get, slice_index_or, nat_eq, if◌then◌else◌}
use Rattle.std.proofs.lemmas.Bool.{cases_eq}
use Rattle.work_item.specs.declared.ids.Item.{Item}
use Rattle.work_item.specs.declared.ids.FrameId.{FrameId}
use Rattle.work_item.specs.declared.ids.BlockId.{BlockId}
use Rattle.work_item.specs.declared.cell.Cell.{Cell}
use Rattle.work_item.specs.Store.{no_int}
use Rattle.cancel_scope.specs.declared.operation.Operation.{Operation}
use Rattle.stack_code.specs.declared.shape.Shape.{Shape}
use Rattle.stack_code.specs.Parts.{Parts}
use Rattle.stack_code.specs.Valid.{Reaches, IsShaped}
use Rattle.code_meaning.specs.Machine.{Caller, Thread, Block, Flat, block_at, thread_at, given}
use Rattle.code_safety.specs.Fit.{Birth, Goes, AreCallers, bottom, above, HasEntered, outside, inside, IsThread, Phase, Gone, Going, AtFinish, life_at, is_living, is_going}
use Rattle.code_safety.specs.Fit.{innermost_in, IsFit, one_if, one_at, occurs, runs, items_of, going_on, own_blocks}
use Rattle.code_safety.specs.Living.{LivesAs, as_running, as_ready, as_operating, as_waiting, IsOfCaller, HasFrame}
use Rattle.code_safety.specs.Chains.{Origin, HasEnteredIn, none_in, one_in, Starts, IsStack, outermost, called, HasStack, AreChained}
use Rattle.code_safety.proofs.Lives.{one_same, one_other, one_true, one_at_most, same_block, going_is, going_lives}
use Rattle.code_safety.proofs.Own.{phase_of, lives_of}

-- ---- the blocks of the innermost activation

module _ (code : Parts) (origins : List Origin) (blocks : List (Option Block)) (sites : List FrameId) (t : Item) (start : Option BlockId) where
  abbrev pub first_blocks : (place : ℕ) (f : FrameId) (ops : List Cell) (callers : List Caller) (o : Option BlockId) → IsStack code origins blocks sites t start place f ops callers o → ℕ
  first_blocks _ _ _ _ _ (outermost place f ops block level starts) = own_blocks level.shape
  first_blocks _ _ _ _ _ (called place f ops c callers block outer level came rest) = own_blocks level.shape

  pub blocks_first : IsShaped code → (place : ℕ) (f : FrameId) (ops : List Cell) (callers : List Caller) (o : Option BlockId) → (z : IsStack code origins blocks sites t start place f ops callers o)
      → (s : Shape) → Reaches code place s → first_blocks place f ops callers o z ≡ own_blocks s
  blocks_first v _ _ _ _ _ (outermost place f ops block level starts) s r = ap own_blocks (v.same place level.shape s level.reached r)
  blocks_first v _ _ _ _ _ (called place f ops c callers block outer level came rest) s r = ap own_blocks (v.same place level.shape s level.reached r)

-- ---- which threads live

-- the thread of an operation waits for its end
pub waits_there : (os : List Operation) (k : ℕ) (d : Operation) → k < length os → 0 < occurs (slice_index_or os k d).item.number (items_of os)
waits_there [] k d lt = absurd (omega (arith, lt))
waits_there (o ∷ os) zero d lt = let one : one_at o.item.number o.item ≡ 1 = one_same o.item.number in omega (arith, one)
waits_there (o ∷ os) (suc k) d lt = let h = waits_there os k d (omega (arith, lt)) in omega (arith, h)

-- a thread with the same activations, in the same block, whatever its operands are
pub record StandsAs (h k : Thread) : Type 0 where
  pub frame : h.frame ≡ k.frame
  pub callers : h.callers ≡ k.callers
  pub block : h.block ≡ k.block

stands : (h : Thread) → StandsAs h h
stands h = record { frame = refl; callers = refl; block = refl }

-- as it goes on it stands where it was
stands_on : (os : List Operation) (t : Item) (h : Thread) → StandsAs (going_on os t h) h
stands_on [] t h = stands h
stands_on (o ∷ os) t h = by (stands_on os t h) (nat_eq t.number o.item.number)
  where
    by : StandsAs (going_on os t h) h → (b : Bool) → StandsAs (if b then given no_int h else going_on os t h) h
    by rest true = record { frame = refl; callers = refl; block = refl }
    by rest false = rest

has_frame_as : (h k : Thread) → StandsAs h k → (g : FrameId) → HasFrame k g → HasFrame h g
has_frame_as h k s g has = elim has as (λ _. HasFrame h g) [ inl e ↦ inl (s.frame ∙ e) | inr c ↦ inr (subst (λ cs. IsOfCaller cs g) (sym s.callers) c) ]

module _ (code : Parts) (m : Flat) (fit : IsFit code m) where
  -- an owner that waits does not run
  pub not_running : (t : Item) (b : BlockId) (x : Block) → block_at m.blocks b ≡ Some x → x.owner ≡ t → x.waits ≡ true → m.running ≡ Some t → ⊥
  not_running t b x here owner w run =
      let at : (life_at fit.lives t).phase ≡ AtFinish b = ap (λ z. (life_at fit.lives z).phase) (sym owner) ∙ (fit.block b x here).waits w in
      let no : Going ≡ AtFinish b = sym (phase_of code m fit t run) ∙ at in
      cc

  -- one that runs, is ready or waits for an operation goes, and does no two of them
  pub one_listed : (t : Item) → 0 < occurs t.number m.ready + occurs t.number (items_of m.operations)
      → (is_going (life_at fit.lives t).phase ≡ true) × ((occurs t.number m.ready + occurs t.number (items_of m.operations) ≡ 1) × (m.running ≡ Some t → ⊥))
  one_listed t some =
      let l = fit.listed t.number in
      let most = one_at_most (is_going (life_at fit.lives t).phase) in
      let one : one_if (is_going (life_at fit.lives t).phase) ≡ 1 = omega (arith, l, most, some) in (
        one_true (is_going (life_at fit.lives t).phase) one,
        (
          omega (arith, l, most, some),
          λ run. let r : runs t.number m.running ≡ 1 = ap (runs t.number) run ∙ one_same t.number in omega (arith, l, most, some, r),
        ),
      )

  -- one that is ready does not run either, and is so once
  pub ready_once : (t : Item) → 0 < occurs t.number m.ready → (is_going (life_at fit.lives t).phase ≡ true) × ((occurs t.number m.ready ≡ 1) × (m.running ≡ Some t → ⊥))
  ready_once t some = let o = one_listed t (omega (arith, some)) in (o.0, (let one = o.1.0 in omega (arith, one, some), o.1.1))

  -- and so with one that waits for an operation
  pub operating_once : (t : Item) → 0 < occurs t.number (items_of m.operations)
      → (is_going (life_at fit.lives t).phase ≡ true) × ((occurs t.number (items_of m.operations) ≡ 1) × (m.running ≡ Some t → ⊥))
  operating_once t some = let o = one_listed t (omega (arith, some)) in (o.0, (let one = o.1.0 in omega (arith, one, some), o.1.1))

  pub not_both : (t : Item) → 0 < occurs t.number m.ready → 0 < occurs t.number (items_of m.operations) → ⊥
  not_both t ready operating = let o = one_listed t (omega (arith, ready)) in let one = o.1.0 in omega (arith, one, ready, operating)

  -- an owner that waits at a finish does not go
  pub not_going : (t : Item) (b : BlockId) (x : Block) → block_at m.blocks b ≡ Some x → x.owner ≡ t → x.waits ≡ true → is_going (life_at fit.lives t).phase ≡ true → ⊥
  not_going t b x here owner w go =
      let at : (life_at fit.lives t).phase ≡ AtFinish b = ap (λ z. (life_at fit.lives z).phase) (sym owner) ∙ (fit.block b x here).waits w in
      let no : false ≡ true = sym (ap is_going at) ∙ go in
      cc

  parked_as : (t : Item) → is_living (life_at fit.lives t).phase ≡ true → (m.running ≡ Some t → ⊥) → StandsAs (life_at fit.lives t).thread (thread_at m.threads t)
  parked_as t l not = subst (λ h. StandsAs h (thread_at m.threads t)) (fit.parked t l not) (stands_on m.operations t (thread_at m.threads t))

  current_as : (t : Item) → m.running ≡ Some t → StandsAs (life_at fit.lives t).thread m.current
  current_as t run = subst (λ h. StandsAs h m.current) (fit.current t run) (stands m.current)

  pub is_life : (t : Item) (h : Thread) → LivesAs m t h → (is_living (life_at fit.lives t).phase ≡ true) × StandsAs (life_at fit.lives t).thread h
  is_life _ _ (as_running t run) = (lives_of code m fit t run, current_as t run)
  is_life _ _ (as_ready t some) =
      let r = ready_once t some in
      let l = going_lives (life_at fit.lives t).phase (going_is (life_at fit.lives t).phase r.0) in
      (l, parked_as t l r.1.1)
  is_life _ _ (as_operating t some) =
      let r = operating_once t some in
      let l = going_lives (life_at fit.lives t).phase (going_is (life_at fit.lives t).phase r.0) in
      (l, parked_as t l r.1.1)
  is_life _ _ (as_waiting t b x here owner w) =
      let at : (life_at fit.lives t).phase ≡ AtFinish b = ap (λ z. (life_at fit.lives z).phase) (sym owner) ∙ (fit.block b x here).waits w in
      let l : is_living (life_at fit.lives t).phase ≡ true = ap is_living at in
      (l, parked_as t l (not_running t b x here owner w))

  -- a thread that lives, as it stands
  pub record Standing (t : Item) : Type 0 where
    pub thread : Thread
    pub lives : LivesAs m t thread
    pub same : StandsAs (life_at fit.lives t).thread thread

  lives_as : (t : Item) → is_living (life_at fit.lives t).phase ≡ true → Standing t
  lives_as t l = go (life_at fit.lives t).phase refl l
    where
      parked : (m.running ≡ Some t → ⊥) → LivesAs m t (thread_at m.threads t) → Standing t
      parked not a = record { thread = thread_at m.threads t; lives = a; same = parked_as t l not }

      cases_some : (n : ℕ) → (0 < n) ⊎ (n ≡ 0)
      cases_some zero = inr refl
      cases_some (suc n) = inl (omega arith)

      ready_or : (m.running ≡ Some t → ⊥) → occurs t.number m.ready + occurs t.number (items_of m.operations) ≡ 1 → Standing t
      ready_or not one = elim (cases_some (occurs t.number m.ready)) as (λ _. Standing t) [
        | inl some ↦ parked not (as_ready t some)
        | inr none ↦ parked not (as_operating t (omega (arith, one, none)))
      ]

      running_or : (o : Option Item) → m.running ≡ o → runs t.number o + (occurs t.number m.ready + occurs t.number (items_of m.operations)) ≡ 1 → Standing t
      running_or None run one = ready_or (λ e. let no : None ≡ Some t = sym run ∙ e in cc) (omega (arith, one))
      running_or (Some u) run one = elim (cases_eq t.number u.number) as (λ _. Standing t) [
        | inl e ↦
            let make : ℕ → Item = λ n. record { number = n } in
            let same : Some u ≡ Some t = ap (λ n. Some (make n)) (sym e) in
            record { thread = m.current; lives = as_running t (run ∙ same); same = current_as t (run ∙ same) }
        | inr ne ↦
            let none : runs t.number (Some u) ≡ 0 = one_other t.number u.number ne in
            ready_or (λ e. let both : Some u ≡ Some t = sym run ∙ e in ne (let q : u ≡ t = cc in ap (λ (z : Item). z.number) (sym q))) (omega (arith, one, none))
      ]

      go : (p : Phase) → (life_at fit.lives t).phase ≡ p → is_living p ≡ true → Standing t
      go Gone e h = let no : false ≡ true = h in absurd (cc)
      go Going e h =
          let g : is_going (life_at fit.lives t).phase ≡ true = ap is_going e in
          running_or m.running refl (fit.listed t.number ∙ ap one_if g)
      go (AtFinish b) e h =
          let w = (fit.alive t l).waiting b e in
          parked (λ run. let no : Going ≡ AtFinish b = sym (phase_of code m fit t run) ∙ e in cc) (as_waiting t b w.block w.here w.owner w.waits)

  -- what is fit of it, as it goes on
  thread_as : (t : Item) (h : Thread) → LivesAs m t h → IsThread code fit.births m.store m.blocks t (life_at fit.lives t).start (life_at fit.lives t).thread
  thread_as t h l = (fit.alive t (is_life t h l).0).thread

  caller_goes : (t : Item) (start : Option BlockId) (f : FrameId) (shape : Shape) (callers : List Caller) (n : ℕ) → AreCallers code fit.births m.store t start f shape callers n → (g : FrameId)
      → IsOfCaller callers g → (g.number < f.number) × Goes fit.births m.store t g
  caller_goes t start _ _ _ _ (bottom f shape q) g has = absurd has
  caller_goes t start _ _ _ _ (above f shape c callers u n one older waits rest) g has =
      elim has as (λ _. (g.number < f.number) × Goes fit.births m.store t g) [
        | inl e ↦ (subst (λ (z : FrameId). z.number < f.number) e older, subst (Goes fit.births m.store t) e waits.activation.goes)
        | inr k ↦ let r = caller_goes t start c.frame u callers n rest g k in let lt = r.0 in (omega (arith, lt, older), r.1)
      ]

  pub callers_older : (t : Item) (h : Thread) → LivesAs m t h → (g : FrameId) → IsOfCaller h.callers g → g.number < h.frame.number
  callers_older t h l g has =
      let i = thread_as t h l in
      let k = (is_life t h l).1 in
      let own = (life_at fit.lives t).thread in
      let lt = (caller_goes t (life_at fit.lives t).start own.frame i.shape own.callers i.below i.callers g (subst (λ cs. IsOfCaller cs g) (sym k.callers) has)).0 in
      subst (λ (z : FrameId). g.number < z.number) k.frame lt

  -- the frames of its activations, none of which has ended
  pub frame_goes : (t : Item) (h : Thread) → LivesAs m t h → (g : FrameId) → HasFrame h g → (g.number ≤ h.frame.number) × Goes fit.births m.store t g
  frame_goes t h l g has =
      let i = thread_as t h l in
      let k = (is_life t h l).1 in
      let own = (life_at fit.lives t).thread in
      subst (λ (z : FrameId). (g.number ≤ z.number) × Goes fit.births m.store t g) k.frame
      (elim (has_frame_as own h k g has) as (λ _. (g.number ≤ own.frame.number) × Goes fit.births m.store t g) [
        | inl e ↦ (subst (λ (z : FrameId). z.number ≤ own.frame.number) e (omega arith), subst (Goes fit.births m.store t) e i.top.goes)
        | inr c ↦ let r = caller_goes t (life_at fit.lives t).start own.frame i.shape own.callers i.below i.callers g c in let lt = r.0 in (omega (arith, lt), r.1)
      ])

  -- a frame is of one thread
  pub one_owner : (t u : Item) (g k : FrameId) → g.number ≡ k.number → Goes fit.births m.store t g → Goes fit.births m.store u k → t ≡ u
  one_owner t u g k e a b =
      let same : a.birth ≡ b.birth = let both : Some a.birth ≡ Some b.birth = sym a.born ∙ ap (slice_get fit.births) e ∙ b.born in cc in
      sym a.item ∙ ap (λ (z : Birth). z.item) same ∙ b.item

  -- ---- blocks

  module _ (origins_sites : AreChained code m) where
    abbrev sites : List FrameId
    sites = origins_sites.sites

    abbrev origins : List Origin
    origins = origins_sites.origins

    -- an older thread owns the block, or there is none
    abbrev IsOthers : Item → Option BlockId → Type 0
    IsOthers t o = (b : BlockId) (x : Block) → o ≡ Some b → block_at m.blocks b ≡ Some x → x.owner ≡ t → ⊥

    starts_others : (t : Item) (f : FrameId) (start : Option BlockId) → Starts origins m.blocks sites t f start → IsOthers t start
    starts_others t f None s b x e here owner = let no : None ≡ Some b = e in cc
    starts_others t f (Some a) s b x e here owner =
        let same : a ≡ b = cc in
        let is : s.block ≡ x = let both : Some s.block ≡ Some x = sym s.here ∙ ap (block_at m.blocks) same ∙ here in cc in
        let lt = s.older in
        let o : s.block.owner.number ≡ t.number = ap (λ (z : Block). z.owner.number) is ∙ ap (λ (z : Item). z.number) owner in
        omega (arith, lt, o)

    -- the next block of a thread
    next_entered : (t : Item) (s : Option BlockId) → IsOthers t s → (k : ℕ) (o : Option BlockId) (b : BlockId) (x : Block) → o ≡ Some b → block_at m.blocks b ≡ Some x → x.owner ≡ t
        → HasEntered m.blocks t s k o → (j : ℕ) × HasEntered m.blocks t s j x.parent
    next_entered t s others _ _ b x e here owner outside = absurd (others b x e here owner)
    next_entered t s others _ _ b x e here owner (inside n c y there of rest) =
        let same : c ≡ b = cc in
        let is : y ≡ x = let both : Some y ≡ Some x = sym there ∙ ap (block_at m.blocks) same ∙ here in cc in
        (n, subst (λ (z : Block). HasEntered m.blocks t s n z.parent) is rest)

    level_walk : (t : Item) (f : FrameId) (s : Option BlockId) → IsOthers t s → (n : ℕ) (o p : Option BlockId) → HasEnteredIn m.blocks sites t f n o p → (k : ℕ) → HasEntered m.blocks t s k o
        → (j : ℕ) × HasEntered m.blocks t s j p
    level_walk t f s others _ _ _ (none_in o) k e = (k, e)
    level_walk t f s others _ _ _ (one_in n b x o here owner site rest) k e =
        let r = next_entered t s others k (Some b) b x refl here owner e in
        level_walk t f s others n x.parent o rest r.0 r.1

    ends_same : (t : Item) (s start : Option BlockId) → IsOthers t start → (k : ℕ) → HasEntered m.blocks t s k start → start ≡ s
    ends_same t s _ others _ outside = refl
    ends_same t s _ others _ (inside n b x here owner rest) = absurd (others b x refl here owner)

    stack_walk : (t : Item) (s start : Option BlockId) → IsOthers t s → (place : ℕ) (f : FrameId) (ops : List Cell) (callers : List Caller) (block : Option BlockId)
        → IsStack code origins m.blocks sites t start place f ops callers block → (k : ℕ) → HasEntered m.blocks t s k block → start ≡ s
    stack_walk t s start others _ _ _ _ _ (outermost place f ops block level starts) k e =
        let r = level_walk t f s others (own_blocks level.shape) block start level.entered k e in
        ends_same t s start (starts_others t f start starts) r.0 r.1
    stack_walk t s start others _ _ _ _ _ (called place f ops c callers block outer level came rest) k e =
        let r = level_walk t f s others (own_blocks level.shape) block outer level.entered k e in
        stack_walk t s start others c.place c.frame c.operands callers outer rest r.0 r.1

    -- both say of a thread that it was started in the same block
    pub start_same : (t : Item) (h : Thread) → LivesAs m t h → (z : HasStack code origins m.blocks sites t h) → z.start ≡ (life_at fit.lives t).start
    start_same t h l z =
        let i = is_life t h l in
        let a = fit.alive t i.0 in
        let th = thread_as t h l in
        stack_walk t (life_at fit.lives t).start z.start
        (λ b x e here owner.
        let st = a.started b e in
        let is : st.block ≡ x = let both : Some st.block ≡ Some x = sym st.here ∙ here in cc in
        let lt = st.older in
        let o : st.block.owner.number ≡ t.number = ap (λ (w : Block). w.owner.number) is ∙ ap (λ (w : Item). w.number) owner in
        omega (arith, lt, o))
        h.place h.frame h.operands h.callers h.block z.stack (own_blocks th.shape + th.below)
        (subst (HasEntered m.blocks t (life_at fit.lives t).start (own_blocks th.shape + th.below)) i.1.block th.entered)

    -- ---- where a block was entered

    module _ (b : BlockId) (x : Block) (here : block_at m.blocks b ≡ Some x) where
      -- the block is that one, or lies within it
      pub record Within (o : Option BlockId) : Type 0 where
        pub inner : BlockId
        pub is : o ≡ Some inner
        pub le : b.number ≤ inner.number

      abbrev In : FrameId → Type 0
      In f = slice_get sites b.number ≡ Some f

      level_find : (f : FrameId) (n : ℕ) (o p : Option BlockId) → HasEnteredIn m.blocks sites x.owner f n o p → Within o → ((0 < n) × In f) ⊎ Within p
      level_find f _ _ _ (none_in o) w = inr w
      level_find f _ _ _ (one_in n c y o there owner site rest) w =
          let same : c ≡ w.inner = let e = w.is in cc in
          let le : b.number ≤ c.number = subst (λ (z : BlockId). b.number ≤ z.number) (sym same) w.le in
          elim (cases_eq b.number c.number) as (λ _. ((0 < 1 + n) × In f) ⊎ Within o) [
            | inl e ↦ inl (omega arith, ap (slice_get sites) e ∙ site)
            | inr ne ↦
                let r = (fit.block c y there).nested b x here (sym owner) (omega (arith, le, ne)) in
                let up : Within y.parent = record { inner = r.0; is = r.1.0; le = r.1.1 } in
                elim (level_find f n y.parent o rest up) as (λ _. ((0 < 1 + n) × In f) ⊎ Within o) [ inl k ↦ inl (omega arith, k.1) | inr k ↦ inr k ]
          ]

      -- the frame in which it was entered: that of the first activation, which then has blocks, or that of a caller
      pub record Found (blocks_in : ℕ) (f : FrameId) (callers : List Caller) : Type 0 where
        pub site : FrameId
        pub at : slice_get sites b.number ≡ Some site
        pub has : ((0 < blocks_in) × (f ≡ site)) ⊎ IsOfCaller callers site

      stack_find : (start : Option BlockId) → (Within start → ⊥) → (place : ℕ) (f : FrameId) (ops : List Cell) (callers : List Caller) (o : Option BlockId)
          → (z : IsStack code origins m.blocks sites x.owner start place f ops callers o) → Within o → Found (first_blocks code origins m.blocks sites x.owner start place f ops callers o z) f callers
      stack_find start free _ _ _ _ _ (outermost place f ops block level starts) w =
          elim (level_find f (own_blocks level.shape) block start level.entered w) as (λ _. Found (own_blocks level.shape) f []) [
            | inl k ↦ record { site = f; at = k.1; has = inl (k.0, refl) }
            | inr k ↦ absurd (free k)
          ]
      stack_find start free _ _ _ _ _ (called place f ops c callers block outer level came rest) w =
          elim (level_find f (own_blocks level.shape) block outer level.entered w) as (λ _. Found (own_blocks level.shape) f (c ∷ callers)) [
            | inl k ↦ record { site = f; at = k.1; has = inl (k.0, refl) }
            | inr k ↦
                let r = stack_find start free c.place c.frame c.operands callers outer rest k in
                record { site = r.site; at = r.at; has = inr (elim r.has as (λ _. IsOfCaller (c ∷ callers) r.site) [ inl q ↦ inl q.1 | inr q ↦ inr q ]) }
          ]

      owner_lives : is_living (life_at fit.lives x.owner).phase ≡ true
      owner_lives = some_inner (life_at fit.lives x.owner).phase (life_at fit.lives x.owner).thread.block (fit.block b x here).inner (fit.block b x here).innermost
        where
          some_inner : (p : Phase) (q : Option BlockId) (r : BlockId) → innermost_in p q ≡ Some r → is_living p ≡ true
          some_inner Gone q r e = let no : None ≡ Some r = e in cc
          some_inner Going q r e = refl
          some_inner (AtFinish c) q r e = refl

      not_before : (h : Thread) → LivesAs m x.owner h → (z : HasStack code origins m.blocks sites x.owner h) → Within z.start → ⊥
      not_before h l z w =
          let lt = (fit.block b x here).newer w.inner (sym (start_same x.owner h l z) ∙ w.is) in
          let le = w.le in
          omega (arith, lt, le)

      pub stack_found : (h : Thread) → LivesAs m x.owner h → (z : HasStack code origins m.blocks sites x.owner h) → Within h.block
          → Found (first_blocks code origins m.blocks sites x.owner z.start h.place h.frame h.operands h.callers h.block z.stack) h.frame h.callers
      stack_found h l z w = stack_find z.start (not_before h l z) h.place h.frame h.operands h.callers h.block z.stack w

      -- its owner runs or is ready
      pub going_within : (life_at fit.lives x.owner).phase ≡ Going → Within (life_at fit.lives x.owner).thread.block
      going_within e =
          let i = fit.block b x here in
          record { inner = i.inner; is = sym (ap (λ p. innermost_in p (life_at fit.lives x.owner).thread.block) e) ∙ i.innermost; le = i.within }

      -- the owner's frame in which it was entered
      pub record Site : Type 0 where
        pub thread : Thread
        pub lives : LivesAs m x.owner thread
        pub site : FrameId
        pub at : slice_get sites b.number ≡ Some site
        pub has : HasFrame thread site

      owner_stands : Standing x.owner
      owner_stands = lives_as x.owner owner_lives

      site_within : Within (life_at fit.lives x.owner).thread.block → Site
      site_within w =
          let own = owner_stands in
          let f = stack_found own.thread own.lives (origins_sites.threads x.owner own.thread own.lives)
          (record { inner = w.inner; is = sym own.same.block ∙ w.is; le = w.le }) in
          record {
            thread = own.thread;
            lives = own.lives;
            site = f.site;
            at = f.at;
            has = elim f.has as (λ _. HasFrame own.thread f.site) [ inl k ↦ inl k.1 | inr k ↦ inr k ];
          }

      -- By the phase of its owner: one that waits at this block stands in the frame, and else the block is on its stack.
      pub block_site : Site
      block_site = go (life_at fit.lives x.owner).phase refl
        where
          go : (p : Phase) → (life_at fit.lives x.owner).phase ≡ p → Site
          go Gone e = let no : false ≡ true = sym (ap is_living e) ∙ owner_lives in absurd (cc)
          go Going e = site_within (going_within e)
          go (AtFinish c) e =
              let i = fit.block b x here in
              let w = (fit.alive x.owner owner_lives).waiting c e in
              let same : i.inner ≡ c = let both : Some i.inner ≡ Some c = sym i.innermost ∙ ap (λ p. innermost_in p (life_at fit.lives x.owner).thread.block) e in cc in
              let le : b.number ≤ c.number = subst (λ (z : BlockId). b.number ≤ z.number) same i.within in
              elim (cases_eq b.number c.number) as (λ _. Site) [
                | inl k ↦
                    let is : c ≡ b = same_block c b (sym k) in
                    let at = origins_sites.waiting c w.block w.here w.waits in
                    let kept = parked_as x.owner owner_lives (not_running x.owner c w.block w.here w.owner w.waits) in
                    let own = owner_stands in
                    let frame : (thread_at m.threads w.block.owner).frame ≡ own.thread.frame =
                    ap (λ z. (thread_at m.threads z).frame) w.owner ∙ sym kept.frame ∙ own.same.frame in
                    record {
                      thread = own.thread;
                      lives = own.lives;
                      site = own.thread.frame;
                      at = ap (λ (z : BlockId). slice_get sites z.number) (sym is) ∙ at ∙ ap (λ z. Some z) frame;
                      has = inl refl;
                    }
                | inr ne ↦
                    let r = (fit.block c w.block w.here).nested b x here (sym w.owner) (omega (arith, le, ne)) in
                    site_within (record { inner = r.0; is = w.round ∙ r.1.0; le = r.1.1 })
              ]
