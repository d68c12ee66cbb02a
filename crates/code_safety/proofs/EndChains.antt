-- No reference dangles where a thread ends: no block is left that was entered in its frame.
-- A body has no callers, so its frame is the only one of its thread; it is given back, or lives on for a body in it. Then the block in
-- which the thread was started counts one less, and its owner may wake, out of that block.
use Rattle.std.proofs.Common.{◌≡◌, ◌⊎◌, ℕ, ◌+◌, ◌-◌, ◌≤◌, ◌<◌, List, [], ◌∷◌, length, Option, Some, None, Bool, true, false, refl, sym, ap, ◌∙◌, subst, inl, inr, arith}
use Rattle.std.specs.Prelude.{slice_set, nat_eq, nat_lt, not, ◌&&◌}
use Rattle.std.proofs.lemmas.Bool.{and_parts, eqb-true}
use Rattle.std.proofs.lemmas.Bool.Decides.{nat_tests}
use Rattle.std.proofs.lemmas.List.{length-set}
use Rattle.work_item.specs.declared.ids.Item.{Item}
use Rattle.work_item.specs.declared.ids.FrameId.{FrameId}
use Rattle.work_item.specs.declared.ids.BlockId.{BlockId}
use Rattle.work_item.specs.Store.{Store, Frame, frame_at, released}
use Rattle.stack_code.specs.declared.instr.Instr.TheVariants as i
use Rattle.stack_code.specs.declared.shape.Shape.{Shape}
use Rattle.stack_code.specs.declared.shape.Leads.{Leads}
use Rattle.stack_code.specs.declared.shape.Leads.TheVariants.{Stop}
use Rattle.stack_code.specs.Parts.{Parts}
use Rattle.stack_code.specs.Shapes.{effect, can_end, has_own}
use Rattle.stack_code.specs.Valid.{IsValid}
use Rattle.code_meaning.specs.Machine.{Thread, Block, Flat, begin, counted, block_at, with_block, with_store, thread_at, nobody, dies, dies_in, counted_out}
use Rattle.code_safety.specs.Fit.{IsThread, Life, no_life, life_at, is_living, starts_in, total, one_at, occurs, items_of, IsFit}
use Rattle.code_safety.specs.Living.{LivesAs, as_running, as_ready, as_operating, as_waiting, IsOfCaller, HasFrame}
use Rattle.code_safety.specs.Chains.{StartedIn, parent_of, IsStartedIn, Starts, HasStack, AreChained}
use Rattle.code_safety.proofs.Taken.{if_is}
use Rattle.code_safety.proofs.Lasting.{KeepsBlocks}
use Rattle.code_safety.proofs.Lives.{one_same, one_other, same_item, life_cases, total_set, starts_one, one_counts}
use Rattle.code_safety.proofs.Own.{rooted_of, thread_of, within_of, lives_of, block_bound, bound_below}
use Rattle.code_safety.proofs.Plain.{Onward}
use Rattle.code_safety.proofs.Turns.{running_once}
use Rattle.code_safety.proofs.Removing.{same_or_not, same_or_other, set_aside, set_there, set_is}
use Rattle.code_safety.proofs.Dying.{leaving}
use Rattle.code_safety.proofs.Chained.{lies_next}
use Rattle.code_safety.proofs.LivingThreads.{is_life, not_running, operating_once, start_same}
use Rattle.code_safety.proofs.Releasing.{was, length_left, linked_released}
use Rattle.code_safety.proofs.Stacks.{KeepsStart, stack_starts}
use Rattle.code_safety.proofs.StopChains as stop_chains
use Rattle.code_safety.proofs.StopChains.{Waits, KeepsLiving, stop_chained, stop_active, still_asks}
use Rattle.code_safety.proofs.StartChains.{no_callers}

module _ (code : Parts) (bound : ℕ) (m : Flat) (v : IsValid code) (fit : IsFit code m) (chained : AreChained code m) (t : Item) (run : m.running ≡ Some t) where
  abbrev own : IsThread code fit.births m.store m.blocks t (life_at fit.lives t).start m.current
  own = thread_of code m fit t run

  abbrev s : Shape
  s = own.shape

  abbrev top : FrameId
  top = m.current.frame

  abbrev mine : HasStack code chained.origins m.blocks chained.sites t m.current
  mine = chained.threads t m.current (as_running t run)

  module _ (bare : m.current.callers ≡ []) (b : BlockId) (start : (life_at fit.lives t).start ≡ Some b) (x : Block) (here : block_at m.blocks b ≡ Some x) (older : x.owner.number < t.number) where
    abbrev store : Store
    store = released m.store top

    owner_other : x.owner ≡ t → ⊥
    owner_other e = let k = ap (λ (z : Item). z.number) e in omega (arith, older, k)

    -- the frame is that of a body
    starts : IsStartedIn chained.origins m.blocks chained.sites t top b
    starts = subst (Starts chained.origins m.blocks chained.sites t top) (start_same code m fit chained t m.current (as_running t run) mine ∙ start)
        (stack_starts code chained.origins m.blocks chained.sites t mine.start m.current.place top m.current.operands m.current.callers m.current.block mine.stack bare)

    has_parent : (y : Frame) → frame_at store top ≡ Some y → y.parent ≡ None → ⊥
    has_parent y e up =
        let w = was m.store top top y e in
        let i = chained.frames top w.frame w.there in
        let p = lies_next chained.origins top starts.site starts.inside in
        let same : i.origin ≡ StartedIn p.0 = let both : Some i.origin ≡ Some (StartedIn p.0) = sym i.came ∙ p.1.0 in cc in
        let no : None ≡ Some p.0 = sym up ∙ w.parent ∙ i.parent ∙ ap parent_of same in
        cc

    other_frame : (f : FrameId) → (f.number ≡ top.number → ⊥) → HasFrame m.current f → ⊥
    other_frame f ne has = elim has as (λ _. ⊥) [ inl e ↦ ne (ap (λ (z : FrameId). z.number) (sym e)) | inr k ↦ subst (λ cs. IsOfCaller cs f) bare k ]

    -- ---- blocks; another one is set in its place

    module _ (o : Option Block) where
      abbrev table : List (Option Block)
      table = with_block m.blocks b o

      away : (c : BlockId) (y : Block) → (b ≡ c → ⊥) → block_at m.blocks c ≡ Some y → block_at table c ≡ Some y
      away c y ne e = set_aside m.blocks b o c ne ∙ e

    theirs : (c : BlockId) (y : Block) → block_at m.blocks c ≡ Some y → (y.owner ≡ x.owner → ⊥) → b ≡ c → ⊥
    theirs c y e ne same = let is : x ≡ y = let both : Some x ≡ Some y = sym here ∙ ap (block_at m.blocks) same ∙ e in cc in ne (ap (λ (z : Block). z.owner) (sym is))

    no_operation : (u : Item) → 0 < occurs u.number (items_of m.operations) → u ≡ t → ⊥
    no_operation u some q = (operating_once code m fit u some).1.1 (run ∙ ap (λ z. Some z) (sym q))

    -- ---- no owner wakes

    module _ (still_some : x.count ≡ 1 → x.waits ≡ true → ⊥) where
      abbrev less : Block
      less = record x { count = x.count - 1 }

      abbrev blocks : List (Option Block)
      blocks = with_block m.blocks b (Some less)

      abbrev next : Flat
      next = stop_chains.next code m fit chained t run store m.operations nobody m.ready blocks (counted m.count)

      there : (c : BlockId) (y : Block) → block_at m.blocks c ≡ Some y → (z : Block) × ((block_at blocks c ≡ Some z) × ((z.owner ≡ y.owner) × ((z.parent ≡ y.parent) × (z.waits ≡ y.waits))))
      there c y e = elim (same_or_not b c) as (λ _. (z : Block) × ((block_at blocks c ≡ Some z) × ((z.owner ≡ y.owner) × ((z.parent ≡ y.parent) × (z.waits ≡ y.waits))))) [
        | inl same ↦
            let q : x ≡ y = let both : Some x ≡ Some y = sym here ∙ ap (block_at m.blocks) same ∙ e in cc in (
              less,
              (
                subst (λ d. block_at blocks d ≡ Some less) same (set_there m.blocks b (Some less) x here),
                (ap (λ (z : Block). z.owner) q, (ap (λ (z : Block). z.parent) q, ap (λ (z : Block). z.waits) q)),
              ),
            )
        | inr ne ↦ (y, (away (Some less) c y ne e, (refl, (refl, refl))))
      ]

      back : (u : Item) (c : BlockId) → Waits blocks u c → Waits m.blocks u c
      back u c w = elim (set_is m.blocks b (Some less) x here c w.block w.here) as (λ _. Waits m.blocks u c) [
        | inl p ↦
            let q : less ≡ w.block = let both : Some less ≡ Some w.block = p.1 in cc in
            record { block = x; here = ap (block_at m.blocks) (sym p.0) ∙ here; owner = ap (λ (z : Block). z.owner) q ∙ w.owner; waits = ap (λ (z : Block). z.waits) q ∙ w.waits }
        | inr p ↦ record { block = w.block; here = p.1; owner = w.owner; waits = w.waits }
      ]

      living : KeepsLiving code m fit chained t run store m.operations nobody m.ready blocks (counted m.count)
      living = record {
        ready_back = λ u ne some. as_ready u some;
        operates_back = λ u ne some. some;
        waits_back = λ u c ne w. back u c w;
        ready_on = λ u ne some. some;
        operates_on = λ u ne some. some;
        waits_on = λ u c ne w. let z = there c w.block w.here in inl (record { block = z.0; here = z.1.0; owner = z.1.1.0 ∙ w.owner; waits = z.1.1.1.1 ∙ w.waits });
      }

      no_wait : (c : BlockId) → Waits blocks t c → ⊥
      no_wait c w = let z = back t c w in not_running code m fit t c z.block z.here z.owner z.waits run

      gone : (u : Item) (h : Thread) → LivesAs next u h → u ≡ t → ⊥
      gone _ _ (as_running u e) q = let no : None ≡ Some u = e in cc
      gone _ _ (as_ready u some) q = let k = ap (λ (z : Item). occurs z.number m.ready) q in let r = running_once code m fit t run in omega (arith, some, k, r)
      gone _ _ (as_operating u some) q = no_operation u some q
      gone _ _ (as_waiting u c y e owner w) q = no_wait c (record { block = y; here = e; owner = owner ∙ q; waits = w })

      keeps_start : (z : Option BlockId) → KeepsStart m.blocks blocks z
      keeps_start z c y q e = let k = there c y e in (k.0, (k.1.0, k.1.1.0))

      pub ends_chained : AreChained code next
      ends_chained = stop_chained code m fit chained t run store m.operations nobody m.ready blocks (counted m.count) living (chained.long ∙ sym (length_left m.store top))
          (chained.many ∙ sym (length-set m.blocks b.number (Some less)))
          (linked_released code m fit chained t run next refl
          (λ f ne a. stop_active code m fit chained t run store m.operations nobody m.ready blocks (counted m.count) living f (λ has. absurd (other_frame f ne has)) a) has_parent)
          (λ l. absurd (gone t nobody l refl)) (still_asks code m fit chained t run store m.operations nobody m.ready blocks (counted m.count)) (λ c w. absurd (no_wait c w))
          (λ u h l ne c y e owner lt. let z = there c y e in (z.0, (z.1.0, (z.1.1.0, z.1.1.1.0))))
          (λ u h l ne. keeps_start (life_at fit.lives u).start)

    -- ---- the owner wakes

    module _ (last : x.count ≡ 1) (waits : x.waits ≡ true) where
      abbrev ready : List Item
      ready = x.owner ∷ m.ready

      abbrev removed : List (Option Block)
      removed = with_block m.blocks b None

      abbrev woken : Flat
      woken = stop_chains.next code m fit chained t run store m.operations nobody ready removed (counted m.count)

      was_there : (c : BlockId) (y : Block) → block_at removed c ≡ Some y → block_at m.blocks c ≡ Some y
      was_there c y e = elim (set_is m.blocks b None x here c y e) as (λ _. block_at m.blocks c ≡ Some y) [ inl p ↦ let no : None ≡ Some y = p.1 in absurd (cc) | inr p ↦ p.1 ]

      is_owner : (u : Item) → 0 < occurs u.number ready → (u ≡ x.owner) ⊎ (0 < occurs u.number m.ready)
      is_owner u some = elim (same_or_other u x.owner) as (λ _. (u ≡ x.owner) ⊎ (0 < occurs u.number m.ready)) [
        | inl e ↦ inl e
        | inr ne ↦ inr (let z : one_at u.number x.owner ≡ 0 = one_other u.number x.owner.number (λ k. ne (same_item u x.owner k)) in omega (arith, some, z))
      ]

      owner_ready : (u : Item) → u ≡ x.owner → 0 < occurs u.number ready
      owner_ready u e = let one : one_at u.number x.owner ≡ 1 = ap (λ (z : Item). one_at z.number x.owner) e ∙ one_same x.owner.number in omega (arith, one)

      now_living : KeepsLiving code m fit chained t run store m.operations nobody ready removed (counted m.count)
      now_living = record {
        ready_back = λ u ne some. elim (is_owner u some) as (λ _. LivesAs m u (thread_at m.threads u)) [ inl e ↦ as_waiting u b x here (sym e) waits | inr k ↦ as_ready u k ];
        operates_back = λ u ne some. some;
        waits_back = λ u c ne w. record { block = w.block; here = was_there c w.block w.here; owner = w.owner; waits = w.waits };
        ready_on = λ u ne some. omega (arith, some);
        operates_on = λ u ne some. some;
        waits_on = λ u c ne w. elim (same_or_other u x.owner) as (λ _. (Waits removed u c) ⊎ (0 < occurs u.number ready)) [
          | inl e ↦ inr (owner_ready u e)
          | inr other ↦ inl (record {
            block = w.block;
            here = away None c w.block (theirs c w.block w.here (λ k. other (sym w.owner ∙ k))) w.here;
            owner = w.owner;
            waits = w.waits;
          })
        ];
      }

      no_one_waits : (c : BlockId) → Waits removed t c → ⊥
      no_one_waits c w = not_running code m fit t c w.block (was_there c w.block w.here) w.owner w.waits run

      gone_too : (u : Item) (h : Thread) → LivesAs woken u h → u ≡ t → ⊥
      gone_too _ _ (as_running u e) q = let no : None ≡ Some u = e in cc
      gone_too _ _ (as_ready u some) q = elim (is_owner u some) as (λ _. ⊥) [
        | inl e ↦ owner_other (sym e ∙ q)
        | inr more ↦ let k = ap (λ (z : Item). occurs z.number m.ready) q in let r = running_once code m fit t run in omega (arith, more, k, r)
      ]
      gone_too _ _ (as_operating u some) q = no_operation u some q
      gone_too _ _ (as_waiting u c y e owner w) q = no_one_waits c (record { block = y; here = e; owner = owner ∙ q; waits = w })

      -- it was the last that was started in the block
      none_started : (u : Item) (h : Thread) → LivesAs m u h → (u ≡ t → ⊥) → (life_at fit.lives u).start ≡ Some b → ⊥
      none_started u h l ne e =
          let lt = within_of code m fit t run in
          let left = slice_set fit.lives t.number no_life in
          let k : total (starts_in b) left + starts_in b (life_at fit.lives t) ≡ total (starts_in b) fit.lives + 0 = total_set (starts_in b) fit.lives t.number no_life no_life lt in
          let one = starts_one b (life_at fit.lives t) (lives_of code m fit t run) start in
          let count = (fit.block b x here).count in
          let same : life_at left u ≡ life_at fit.lives u =
          elim (life_cases fit.lives t u no_life lt) as (λ _. life_at left u ≡ life_at fit.lives u) [ inl p ↦ absurd (ne (sym p.0)) | inr p ↦ p.1 ] in
          let some = one_counts b left u (ap (λ (q : Life). is_living q.phase) same ∙ (is_life code m fit u h l).0) (ap (λ (q : Life). q.start) same ∙ e) in
          omega (arith, k, one, count, last, some)

      start_kept : (u : Item) (h : Thread) → LivesAs m u h → (u ≡ t → ⊥) → KeepsStart m.blocks removed (life_at fit.lives u).start
      start_kept u h l ne c y q e = (y, (away None c y (λ same. none_started u h l ne (q ∙ ap (λ z. Some z) (sym same))) e, refl))

      -- the woken owner is out of the block
      out_of_it : (h : Thread) → LivesAs m x.owner h → (c : BlockId) → c.number < block_bound h.block → b ≡ c → ⊥
      out_of_it h l c lt same =
          let i = is_life code m fit x.owner h l in
          let at = (fit.block b x here).waits waits in
          let w = (fit.alive x.owner i.0).waiting b at in
          let is : w.block ≡ x = let both : Some w.block ≡ Some x = sym w.here ∙ here in cc in
          let round : h.block ≡ x.parent = sym i.1.block ∙ w.round ∙ ap (λ (z : Block). z.parent) is in
          let less : block_bound x.parent ≤ b.number = bound_below x.parent b.number (λ p e. rooted_of code m fit b x p here e) in
          let n = ap block_bound round in
          let k = ap (λ (z : BlockId). z.number) same in
          omega (arith, lt, less, n, k)

      keeps : (u : Item) (h : Thread) → LivesAs m u h → (u ≡ t → ⊥) → KeepsBlocks m.blocks removed u (block_bound h.block)
      keeps u h l ne c y e owner lt = (
        y,
        (
          away None c y (elim (same_or_other u x.owner) as (λ _. b ≡ c → ⊥) [
            | inl q ↦ out_of_it h (subst (λ z. LivesAs m z h) q l) c lt
            | inr other ↦ theirs c y e (λ k. other (sym owner ∙ k))
          ]) e,
          (refl, refl),
        ),
      )

      pub wakes_chained : AreChained code woken
      wakes_chained = stop_chained code m fit chained t run store m.operations nobody ready removed (counted m.count) now_living (chained.long ∙ sym (length_left m.store top))
          (chained.many ∙ sym (length-set m.blocks b.number None))
          (linked_released code m fit chained t run woken refl
          (λ f ne a. stop_active code m fit chained t run store m.operations nobody ready removed (counted m.count) now_living f (λ has. absurd (other_frame f ne has)) a) has_parent)
          (λ l. absurd (gone_too t nobody l refl)) (still_asks code m fit chained t run store m.operations nobody ready removed (counted m.count))
          (λ c w. absurd (no_one_waits c w)) keeps start_kept

    dies_there : m.current.block ≡ Some b → AreChained code (dies (with_store m store) t m.current.block)
    dies_there block = subst (λ z. AreChained code (dies (with_store m store) t z)) (sym block)
        (subst (λ z. AreChained code (dies_in (with_store m store) t b z)) (sym here) (go (nat_eq x.count 1) x.waits refl refl))
      where
        go : (p q : Bool) → nat_eq x.count 1 ≡ p → x.waits ≡ q → AreChained code (counted_out (p && q) (with_store m store) t b x)
        go true true e w = wakes_chained (eqb-true x.count 1 e) w
        go true false e w = ends_chained (λ one k. let no : false ≡ true = sym w ∙ k in cc)
        go false q e w = ends_chained (λ one k. let no : x.count ≡ 1 → ⊥ = grind (arith, nat_tests) in no one)

  pub end_chained : (leads : Leads) → effect code m.current.place i.End s ≡ Some leads → Onward (AreChained code) (begin code bound m t (Some i.End))
  end_chained leads finds =
      let c = if_is (can_end s) (Some Stop) leads finds in
      let p = and_parts (nat_lt 1 (length s.bodies)) (nat_eq (length s.operands) 0 && not (has_own s)) c.0 in
      let two : 1 < length s.bodies = let q = p.0 in grind (arith, nat_tests) in
      let bare = no_callers code m fit t (life_at fit.lives t).start top s m.current.callers own.below two own.callers in
      let l = leaving code bound m fit t run leads finds in
      dies_there bare l.b l.start l.x l.here l.older l.block
