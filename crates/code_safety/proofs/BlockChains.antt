-- No reference dangles where a block is entered, and where its owner arrives at its finish.
-- A block that is entered has its site in the innermost frame. An owner that passes gives back its innermost block, in which no thread
-- lives, so that no stack stands on it; one that waits stands in the frame in which it entered the block.
use Rattle.std.proofs.Common.{◌≡◌, ℕ, ◌+◌, List, [], ◌∷◌, ◌++◌, length, length-append, Option, Some, None, Bool, true, false, refl, sym, ap, ◌∙◌, subst, inl, inr, arith}
use Rattle.std.specs.Prelude.{slice_get, nat_eq, if◌then◌else◌}
use Rattle.std.proofs.lemmas.Bool.{eqb-true}
use Rattle.std.proofs.lemmas.List.{length-set}
use Rattle.work_item.specs.declared.ids.Item.{Item}
use Rattle.work_item.specs.declared.ids.FrameId.{FrameId}
use Rattle.work_item.specs.declared.ids.BlockId.{BlockId}
use Rattle.work_item.specs.declared.cell.Cell.TheVariants as cell
use Rattle.work_item.specs.Store.{Store}
use Rattle.core_state.specs.Frames.{with_entered}
use Rattle.stack_code.specs.declared.instr.Instr.TheVariants as i
use Rattle.stack_code.specs.declared.shape.Shape.{Shape}
use Rattle.stack_code.specs.declared.shape.Leads.{Leads}
use Rattle.stack_code.specs.declared.shape.Leads.TheVariants.{One}
use Rattle.stack_code.specs.Parts.{Parts}
use Rattle.stack_code.specs.Shapes as shapes
use Rattle.stack_code.specs.Shapes.{effect, entered, is_entered, body_with}
use Rattle.stack_code.specs.Valid as valid
use Rattle.stack_code.specs.Valid.{Reaches, IsValid, Goes}
use Rattle.code_meaning.specs.Machine.{Thread, Block, Flat, begin, counted, block_at, with_block, arrives, arrives_in, arrives_at}
use Rattle.code_safety.specs.Fit.{IsThread, life_at, own_blocks, own_in, one_if, IsFit}
use Rattle.code_safety.specs.Living.{LivesAs, as_running, as_ready, as_waiting, HasFrame}
use Rattle.code_safety.specs.Chains.{HasStack, IsActive, AreChained}
use Rattle.code_safety.proofs.Taken.{on_some_is, if_not_is}
use Rattle.code_safety.proofs.Lasting.{KeepsBlocks, IsBefore}
use Rattle.code_safety.proofs.Lives.{one_same, one_counts}
use Rattle.code_safety.proofs.Own.{rooted_of, thread_of, block_bound}
use Rattle.code_safety.proofs.Plain.{Onward}
use Rattle.code_safety.proofs.Making.{at_end, still_there, new_there}
use Rattle.code_safety.proofs.Removing.{same_or_not, set_aside, set_there, set_is}
use Rattle.code_safety.proofs.Finishing.{arrival}
use Rattle.code_safety.proofs.Chained.{extends_one, extends_last}
use Rattle.code_safety.proofs.LivingThreads.{is_life, not_running, start_same}
use Rattle.code_safety.proofs.LinkedFrames.{SameFrames, same_frames, cell_frames, linked_same}
use Rattle.code_safety.proofs.Stacks.{KeepsStart, Finishes, stack_kept, has_stack_kept, stack_entered, stack_finished}
use Rattle.code_safety.proofs.OwnChains as own_chains
use Rattle.code_safety.proofs.OwnChains.{KeepsWaiting, own_chained, active_on, extends_same}
use Rattle.code_safety.proofs.StopChains as stop_chains
use Rattle.code_safety.proofs.StopChains.{Waits, KeepsLiving, stop_chained, stop_active, still_asks, own_thread}

module _ (code : Parts) (bound : ℕ) (m : Flat) (v : IsValid code) (fit : IsFit code m) (chained : AreChained code m) (t : Item) (run : m.running ≡ Some t) where
  abbrev own : IsThread code fit.births m.store m.blocks t (life_at fit.lives t).start m.current
  own = thread_of code m fit t run

  abbrev s : Shape
  s = own.shape

  abbrev place : ℕ
  place = m.current.place

  abbrev mine : HasStack code chained.origins m.blocks chained.sites t m.current
  mine = chained.threads t m.current (as_running t run)

  shape_is : (z : Shape) → Reaches code place z → z ≡ s
  shape_is z r = v.shaped.same place z s r own.top.reached

  -- ---- a block is entered

  module _ (slot : ℕ) (ways : Goes code place s (place + 1) (entered slot s)) where
    abbrev new : Block
    new = record { parent = m.current.block; owner = t; count = 0; waits = false; cancelled = false }

    abbrev b : BlockId
    b = record { number = length m.blocks }

    abbrev blocks : List (Option Block)
    blocks = m.blocks ++ Some new ∷ []

    abbrev sites : List FrameId
    sites = chained.sites ++ m.current.frame ∷ []

    abbrev current : Thread
    current = record m.current { place = place + 1; block = Some b }

    abbrev store : Store
    store = with_entered m.store m.current.frame slot (length m.blocks)

    back : KeepsWaiting blocks m.blocks
    back c x here w = elim (at_end m.blocks new c.number x here) as (λ _. (y : Block) × ((block_at m.blocks c ≡ Some y) × ((y.owner ≡ x.owner) × (y.waits ≡ true)))) [
      | inl p ↦ (x, (p, (refl, w)))
      | inr p ↦ absurd (let no : false ≡ true = ap (λ (z : Block). z.waits) p.1 ∙ w in cc)
    ]

    on : KeepsWaiting m.blocks blocks
    on c x here w = (x, (still_there m.blocks (Some new) c.number x here, (refl, w)))

    keeps : (u : Item) (k : ℕ) → KeepsBlocks m.blocks blocks u k
    keeps u k c x here owner lt = (x, (still_there m.blocks (Some new) c.number x here, (refl, refl)))

    starts : (o : Option BlockId) → KeepsStart m.blocks blocks o
    starts o c x e here = (x, (still_there m.blocks (Some new) c.number x here, refl))

    abbrev next : Flat
    next = own_chains.next code m fit chained t run m.shared store current blocks (counted m.count) back on

    same : SameFrames chained.origins m.store store
    same = cell_frames chained.origins m.store m.current.frame slot (cell.Block b) (λ g. (tt, tt))

    one_more : (u : Shape) → Reaches code place u → 1 + own_blocks u ≡ own_blocks (entered slot s)
    one_more u r =
        let e : own_blocks u ≡ own_in (length s.bodies) s.blocks = ap own_blocks (shape_is u r) in
        let one : one_if (nat_eq (length s.bodies) (length s.bodies)) ≡ 1 = one_same (length s.bodies) in
        let n : 1 + own_blocks u ≡ one_if (nat_eq (length s.bodies) (length s.bodies)) + own_in (length s.bodies) s.blocks = omega (arith, e, one) in
        n

    site : slice_get sites b.number ≡ Some m.current.frame
    site = ap (slice_get sites) (sym chained.many) ∙ extends_last chained.sites m.current.frame

    stack : HasStack code chained.origins blocks sites t current
    stack =
        let old = has_stack_kept code chained.origins chained.origins (extends_same chained.origins) m.blocks blocks (rooted_of code m fit) chained.sites sites
        (extends_one chained.sites m.current.frame) t m.current (keeps t (block_bound m.current.block)) mine (starts mine.start) in
        let reached = valid.goes place s (place + 1) (entered slot s) own.top.reached ways in
        record {
          start = old.start;
          stack = stack_entered code chained.origins blocks sites t old.start place m.current.frame m.current.operands m.current.callers m.current.block old.stack (place + 1) (entered slot s) reached
              one_more b new (new_there m.blocks new) refl refl site;
        }

    entered_chained : AreChained code next
    entered_chained = own_chained code m fit chained t run m.shared store current blocks (counted m.count) back on chained.origins sites (extends_same chained.origins)
        (extends_one chained.sites m.current.frame) (chained.long ∙ sym same.count)
        (length-append chained.sites (m.current.frame ∷ []) ∙ ap (λ k. k + 1) chained.many ∙ sym (length-append m.blocks (Some new ∷ []))) chained.older
        (linked_same chained.origins m next same (λ f a. active_on code m fit chained t run m.shared store current blocks (counted m.count) back on f (λ has. has) a) chained.frames) stack
        (λ u ne k. keeps u k) (λ u h l ne. starts (life_at fit.lives u).start)

  pub enter_chained : (slot : ℕ) → slice_get code.instrs place ≡ Some (i.Enter slot) → (leads : Leads) → effect code place (i.Enter slot) s ≡ Some leads
      → Onward (AreChained code) (begin code bound m t (Some (i.Enter slot)))
  enter_chained slot here leads finds =
      let f = on_some_is (body_with s 0 slot 1) (λ body. if is_entered s 0 slot then None else shapes.goes place (entered slot s)) leads finds in
      let c = if_not_is (is_entered s 0 slot) (shapes.goes place (entered slot s)) leads f.1.1 in
      entered_chained slot (record { fits = record { instr = i.Enter slot; leads = One (place + 1) (entered slot s); here = here; finds = finds ∙ sym c.1 }; leads = (refl, refl) })

  -- ---- its owner arrives

  module _ (n : Finishes code chained.origins m.blocks chained.sites t mine.start (place + 1) m.current.frame m.current.operands m.current.callers m.current.block) where
    abbrev gone : BlockId
    gone = n.b

    abbrev x : Block
    x = n.x

    abbrev after : Thread
    after = record m.current { place = place + 1; block = x.parent }

    -- it is the thread's own, and no owner waits there
    theirs : (c : BlockId) (y : Block) → block_at m.blocks c ≡ Some y → (y.owner ≡ t → ⊥) → gone ≡ c → ⊥
    theirs c y here ne e = let is : x ≡ y = let both : Some x ≡ Some y = sym n.here ∙ ap (block_at m.blocks) e ∙ here in cc in ne (ap (λ (z : Block). z.owner) (sym is) ∙ n.owner)

    no_wait : (c : BlockId) (y : Block) → block_at m.blocks c ≡ Some y → y.waits ≡ true → y.owner ≡ t → ⊥
    no_wait c y here w owner = not_running code m fit t c y here owner w run

    -- where it is set, the other blocks stay
    module _ (o : Option Block) where
      abbrev table : List (Option Block)
      table = with_block m.blocks gone o

      others : (u : Item) → (u ≡ t → ⊥) → (k : ℕ) → KeepsBlocks m.blocks table u k
      others u ne k c y here owner lt = (y, (set_aside m.blocks gone o c (theirs c y here (λ e. ne (sym owner ∙ e))) ∙ here, (refl, refl)))

      before : KeepsBlocks m.blocks table t gone.number
      before c y here owner lt = (y, (set_aside m.blocks gone o c (λ e. let k = ap (λ (z : BlockId). z.number) e in omega (arith, k, lt)) ∙ here, (refl, refl)))

      round : (p : Option BlockId) → x.parent ≡ p → IsBefore gone.number p
      round None e = tt
      round (Some p) e = rooted_of code m fit gone x p n.here e

      left_stack : KeepsStart m.blocks table mine.start → HasStack code chained.origins table chained.sites t after
      left_stack starts = record {
        start = mine.start;
        stack = stack_kept code chained.origins chained.origins (extends_same chained.origins) m.blocks table (rooted_of code m fit) chained.sites chained.sites (extends_same chained.sites) t
            gone.number
            before mine.start starts (place + 1) m.current.frame m.current.operands m.current.callers x.parent (round x.parent refl) n.stack;
      }

    -- ---- it passes

    module _ (none : x.count ≡ 0) where
      abbrev removed : List (Option Block)
      removed = with_block m.blocks gone None

      was_there : (c : BlockId) (y : Block) → block_at removed c ≡ Some y → block_at m.blocks c ≡ Some y
      was_there c y e = elim (set_is m.blocks gone None x n.here c y e) as (λ _. block_at m.blocks c ≡ Some y) [ inl p ↦ let no : None ≡ Some y = p.1 in absurd (cc) | inr p ↦ p.1 ]

      back_passed : KeepsWaiting removed m.blocks
      back_passed c y here w = (y, (was_there c y here, (refl, w)))

      on_passed : KeepsWaiting m.blocks removed
      on_passed c y here w = (y, (set_aside m.blocks gone None c (theirs c y here (no_wait c y here w)) ∙ here, (refl, w)))

      -- no thread that lives was started in it
      none_started : (u : Item) (h : Thread) → LivesAs m u h → KeepsStart m.blocks removed (life_at fit.lives u).start
      none_started u h l c y e here = (
        y,
        (
          set_aside m.blocks gone None c (λ same.
              let one = one_counts gone fit.lives u (is_life code m fit u h l).0 (e ∙ ap (λ z. Some z) (sym same)) in
              let count = (fit.block gone x n.here).count in
              omega (arith, one, count, none)) ∙ here,
          refl,
        ),
      )

      passed : AreChained code (own_chains.next code m fit chained t run m.shared m.store after removed (counted m.count) back_passed on_passed)
      passed =
          let starts = subst (KeepsStart m.blocks removed) (sym (start_same code m fit chained t m.current (as_running t run) mine)) (none_started t m.current (as_running t run)) in
          own_chained code m fit chained t run m.shared m.store after removed (counted m.count) back_passed on_passed chained.origins chained.sites (extends_same chained.origins)
          (extends_same chained.sites) chained.long (chained.many ∙ sym (length-set m.blocks gone.number None)) chained.older
          (linked_same chained.origins m (own_chains.next code m fit chained t run m.shared m.store after removed (counted m.count) back_passed on_passed) (same_frames chained.origins m.store)
          (λ f a. active_on code m fit chained t run m.shared m.store after removed (counted m.count) back_passed on_passed f (λ has. has) a) chained.frames) (left_stack None starts)
          (λ u ne k. others None u ne k) (λ u h l ne. none_started u h l)

    -- ---- it waits

    abbrev waiting : Block
    waiting = record x { waits = true }

    abbrev noted : List (Option Block)
    noted = with_block m.blocks gone (Some waiting)

    abbrev stopped : Flat
    stopped = stop_chains.next code m fit chained t run m.store m.operations after m.ready noted (counted m.count)

    waits_there : (u : Item) (c : BlockId) → (u ≡ t → ⊥) → Waits m.blocks u c → Waits noted u c
    waits_there u c ne w = record {
      block = w.block;
      here = set_aside m.blocks gone (Some waiting) c (theirs c w.block w.here (λ e. ne (sym w.owner ∙ e))) ∙ w.here;
      owner = w.owner;
      waits = w.waits;
    }

    waits_here : (u : Item) (c : BlockId) → (u ≡ t → ⊥) → Waits noted u c → Waits m.blocks u c
    waits_here u c ne w = elim (set_is m.blocks gone (Some waiting) x n.here c w.block w.here) as (λ _. Waits m.blocks u c) [
      | inl p ↦ absurd (let is : waiting ≡ w.block = let both : Some waiting ≡ Some w.block = p.1 in cc in ne (sym w.owner ∙ ap (λ (z : Block). z.owner) (sym is) ∙ n.owner))
      | inr p ↦ record { block = w.block; here = p.1; owner = w.owner; waits = w.waits }
    ]

    living : KeepsLiving code m fit chained t run m.store m.operations after m.ready noted (counted m.count)
    living = record {
      ready_back = λ u ne some. as_ready u some;
      operates_back = λ u ne some. some;
      waits_back = waits_here;
      ready_on = λ u ne some. some;
      operates_on = λ u ne some. some;
      waits_on = λ u c ne w. inl (waits_there u c ne w);
    }

    noted_there : block_at noted gone ≡ Some waiting
    noted_there = set_there m.blocks gone (Some waiting) x n.here

    starts_noted : (o : Option BlockId) → KeepsStart m.blocks noted o
    starts_noted o c y e here = elim (same_or_not gone c) as (λ _. (z : Block) × ((block_at noted c ≡ Some z) × (z.owner ≡ y.owner))) [
      | inl same ↦
          let is : x ≡ y = let both : Some x ≡ Some y = sym n.here ∙ ap (block_at m.blocks) same ∙ here in cc in
          (waiting, (subst (λ d. block_at noted d ≡ Some waiting) same noted_there, ap (λ (z : Block). z.owner) is))
      | inr ne ↦ (y, (set_aside m.blocks gone (Some waiting) c ne ∙ here, refl))
    ]

    waits_own : (c : BlockId) → Waits noted t c → slice_get chained.sites c.number ≡ Some after.frame
    waits_own c w = elim (set_is m.blocks gone (Some waiting) x n.here c w.block w.here) as (λ _. slice_get chained.sites c.number ≡ Some after.frame) [
      | inl p ↦ ap (λ (z : BlockId). slice_get chained.sites z.number) (sym p.0) ∙ n.site
      | inr p ↦ absurd (no_wait c w.block p.1 w.waits w.owner)
    ]

    now_active : (f : FrameId) → HasFrame m.current f → IsActive stopped f
    now_active f has = record {
      item = t;
      thread = after;
      living = subst (LivesAs stopped t) (own_thread code m fit chained t run m.store m.operations after m.ready noted (counted m.count)) (as_waiting t gone waiting noted_there n.owner refl);
      has = has;
    }

    waits_chained : AreChained code stopped
    waits_chained = stop_chained code m fit chained t run m.store m.operations after m.ready noted (counted m.count) living chained.long
        (chained.many ∙ sym (length-set m.blocks gone.number (Some waiting)))
        (linked_same chained.origins m stopped (same_frames chained.origins m.store)
        (λ f a. stop_active code m fit chained t run m.store m.operations after m.ready noted (counted m.count) living f (now_active f) a) chained.frames)
        (λ l. left_stack (Some waiting) (starts_noted mine.start)) (still_asks code m fit chained t run m.store m.operations after m.ready noted (counted m.count)) waits_own
        (λ u h l ne. others (Some waiting) u ne (block_bound h.block)) (λ u h l ne. starts_noted (life_at fit.lives u).start)

    arrived : Onward (AreChained code) (arrives m t m.current.block)
    arrived = subst (λ o. Onward (AreChained code) (arrives m t o)) (sym n.is) (subst (λ o. Onward (AreChained code) (arrives_in m t gone o)) (sym n.here) (go (nat_eq x.count 0) refl))
      where
        go : (z : Bool) → nat_eq x.count 0 ≡ z → Onward (AreChained code) (arrives_at z m t gone x)
        go true e = passed (eqb-true x.count 0 e)
        go false e = waits_chained

  pub finish_chained : (slot : ℕ) → slice_get code.instrs place ≡ Some (i.Finish slot) → (leads : Leads) → effect code place (i.Finish slot) s ≡ Some leads
      → Onward (AreChained code) (begin code bound m t (Some (i.Finish slot)))
  finish_chained slot here leads finds =
      let a = arrival code bound m fit t run slot here leads finds in
      let u = a.u in
      let goes : Goes code place s (place + 1) u = record { fits = record { instr = i.Finish slot; leads = One (place + 1) u; here = here; finds = a.ways }; leads = (refl, refl) } in
      let reached = valid.goes place s (place + 1) u own.top.reached goes in
      let f = a.finished in
      let one : one_if (nat_eq f.block.bodies (length s.bodies)) ≡ 1 = ap (λ k. one_if (nat_eq k (length s.bodies))) f.own ∙ one_same (length s.bodies) in
      let all : own_blocks s ≡ one_if (nat_eq f.block.bodies (length s.bodies)) + own_in (length s.bodies) f.rest = ap (own_in (length s.bodies)) f.blocks in
      let left : own_in (length s.bodies) f.rest ≡ own_blocks u = ap own_blocks f.is in
      arrived (stack_finished code chained.origins m.blocks chained.sites t mine.start place m.current.frame m.current.operands m.current.callers m.current.block mine.stack (place + 1) u reached
      (λ z r. let e : own_blocks z ≡ own_blocks s = ap own_blocks (shape_is z r) in omega (arith, e, one, all, left)))
