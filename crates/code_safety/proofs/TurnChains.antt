-- No reference dangles where a thread yields, and where another one runs.
-- Nothing but the place of a thread changes: among those that live it is running, or ready, and it stands as it stood.
use Rattle.std.proofs.Common.{◌≡◌, ℕ, ◌+◌, ◌<◌, List, [], ◌∷◌, ◌++◌, Some, None, true, refl, sym, ap, ◌∙◌, subst, inl, inr, arith}
use Rattle.std.specs.Prelude.{slice_get, slice_index_or, slice_set}
use Rattle.std.proofs.lemmas.List.{get_or-set_other}
use Rattle.work_item.specs.declared.ids.Item.{Item}
use Rattle.work_item.specs.declared.ids.FrameId.{FrameId}
use Rattle.work_item.specs.declared.ids.BlockId.{BlockId}
use Rattle.core_state.specs.Shared.{Shared}
use Rattle.stack_code.specs.declared.instr.Instr.TheVariants as i
use Rattle.stack_code.specs.declared.shape.Shape.{Shape}
use Rattle.stack_code.specs.declared.shape.Leads.TheVariants.{One}
use Rattle.stack_code.specs.Parts.{Parts}
use Rattle.stack_code.specs.Valid as valid
use Rattle.stack_code.specs.Valid.{IsValid, Goes}
use Rattle.code_meaning.specs.Machine.{Thread, Block, Flat, block_at, thread_at, nobody, counted}
use Rattle.code_safety.specs.Fit.{IsThread, life_at, one_at, occurs, items_of, IsFit}
use Rattle.code_safety.specs.Living.{LivesAs, as_running, as_ready, as_operating, as_waiting, HasFrame}
use Rattle.code_safety.specs.Chains.{AskedOnChain, HasStack, IsActive, AreChained}
use Rattle.code_safety.proofs.Lives.{one_same, one_other, same_item, occurs_append}
use Rattle.code_safety.proofs.Own.{thread_of, all_kept, block_bound}
use Rattle.code_safety.proofs.Removing.{same_or_other}
use Rattle.code_safety.proofs.LivingThreads.{waits_there, not_running, not_going, not_both, ready_once}
use Rattle.code_safety.proofs.LinkedFrames.{same_frames, linked_same}
use Rattle.code_safety.proofs.Stacks.{stack_at, top_names}
use Rattle.code_safety.proofs.OwnChains.{blocks_same, starts_on}
use Rattle.code_safety.proofs.StopChains as stop_chains
use Rattle.code_safety.proofs.StopChains.{KeepsLiving, stop_chained, stop_active, still_asks, own_thread}

-- ---- yield

module _ (code : Parts) (bound : ℕ) (m : Flat) (v : IsValid code) (fit : IsFit code m) (chained : AreChained code m) (t : Item) (run : m.running ≡ Some t)
    (here : slice_get code.instrs m.current.place ≡ Some i.Yield) where
  abbrev own : IsThread code fit.births m.store m.blocks t (life_at fit.lives t).start m.current
  own = thread_of code m fit t run

  abbrev s : Shape
  s = own.shape

  abbrev kept : Thread
  kept = record m.current { place = m.current.place + 1 }

  abbrev ready : List Item
  ready = m.ready ++ t ∷ []

  abbrev next : Flat
  next = stop_chains.next code m fit chained t run m.store m.operations kept ready m.blocks (counted m.count)

  occurs_here : (u : Item) → occurs u.number ready ≡ occurs u.number m.ready + (one_at u.number t + 0)
  occurs_here u = occurs_append u.number m.ready (t ∷ [])

  living : KeepsLiving code m fit chained t run m.store m.operations kept ready m.blocks (counted m.count)
  living = record {
    ready_back = λ u ne some.
        let e = occurs_here u in
        let z : one_at u.number t ≡ 0 = one_other u.number t.number (λ k. ne (same_item u t k)) in
        as_ready u (omega (arith, some, e, z));
    operates_back = λ u ne some. some;
    waits_back = λ u c ne w. w;
    ready_on = λ u ne some. let e = occurs_here u in omega (arith, some, e);
    operates_on = λ u ne some. some;
    waits_on = λ u c ne w. inl w;
  }

  own_ready : 0 < occurs t.number ready
  own_ready = let e = occurs_here t in let one : one_at t.number t ≡ 1 = one_same t.number in omega (arith, e, one)

  now_active : (f : FrameId) → HasFrame m.current f → IsActive next f
  now_active f has = record {
    item = t;
    thread = kept;
    living = subst (LivesAs next t) (own_thread code m fit chained t run m.store m.operations kept ready m.blocks (counted m.count)) (as_ready t own_ready);
    has = has;
  }

  stack : HasStack code chained.origins m.blocks chained.sites t kept
  stack =
      let z = chained.threads t m.current (as_running t run) in
      let goes : Goes code m.current.place s (m.current.place + 1) s =
      record { fits = record { instr = i.Yield; leads = One (m.current.place + 1) s; here = here; finds = refl }; leads = (refl, refl) } in
      let reached = valid.goes m.current.place s (m.current.place + 1) s own.top.reached goes in
      let names = top_names code chained.origins m.blocks chained.sites t z.start m.current.place m.current.frame m.current.operands m.current.callers m.current.block z.stack in
      record {
        start = z.start;
        stack = stack_at code chained.origins m.blocks chained.sites t z.start m.current.place m.current.frame m.current.operands m.current.callers m.current.block (m.current.place + 1)
            m.current.operands s reached names z.stack (blocks_same code bound m v fit chained t run s refl);
      }

  pub yield_chained : AreChained code next
  yield_chained = stop_chained code m fit chained t run m.store m.operations kept ready m.blocks (counted m.count) living chained.long chained.many
      (linked_same chained.origins m next (same_frames chained.origins m.store)
      (λ f a. stop_active code m fit chained t run m.store m.operations kept ready m.blocks (counted m.count) living f (now_active f) a) chained.frames) (λ l. stack)
      (still_asks code m fit chained t run m.store m.operations kept ready m.blocks (counted m.count))
      (λ c w. absurd (not_running code m fit t c w.block w.here w.owner w.waits run)) (λ u h l ne. all_kept m.blocks u (block_bound h.block))
      (λ u h l ne. starts_on m.blocks (life_at fit.lives u).start)

-- ---- another thread runs

module _ (code : Parts) (m : Flat) (fit : IsFit code m) (chained : AreChained code m) (idle : m.running ≡ None) (t : Item) (ready : List Item) (first : m.ready ≡ t ∷ ready) (shared : Shared) where
  abbrev turned : Flat
  turned = record m { shared = shared; running = Some t; current = thread_at m.threads t; ready = ready; threads = slice_set m.threads t.number nobody }

  occurs_first : (u : Item) → occurs u.number m.ready ≡ one_at u.number t + occurs u.number ready
  occurs_first u = ap (occurs u.number) first

  is_ready : 0 < occurs t.number m.ready
  is_ready = let e = occurs_first t in let one : one_at t.number t ≡ 1 = one_same t.number in omega (arith, e, one)

  not_again : (u : Item) → 0 < occurs u.number ready → u ≡ t → ⊥
  not_again u some e =
      let k = ap (λ (z : Item). occurs z.number ready) e in
      let f = occurs_first t in
      let one : one_at t.number t ≡ 1 = one_same t.number in
      let once = (ready_once code m fit t is_ready).1.0 in
      omega (arith, some, k, f, one, once)

  other_thread : (u : Item) → (u ≡ t → ⊥) → thread_at turned.threads u ≡ thread_at m.threads u
  other_thread u ne = get_or-set_other m.threads t.number u.number nobody nobody (λ e. ne (same_item u t e))

  not_waiting : (u : Item) (c : BlockId) (x : Block) → block_at m.blocks c ≡ Some x → x.owner ≡ u → x.waits ≡ true → u ≡ t → ⊥
  not_waiting u c x here owner w e = not_going code m fit t c x here (owner ∙ e) w (ready_once code m fit t is_ready).0

  not_operating : (u : Item) → 0 < occurs u.number (items_of m.operations) → u ≡ t → ⊥
  not_operating u some e = not_both code m fit t is_ready (subst (λ (z : Item). 0 < occurs z.number (items_of m.operations)) e some)

  turn_back : (u : Item) (h : Thread) → LivesAs turned u h → LivesAs m u h
  turn_back _ _ (as_running u e) = let same : t ≡ u = cc in subst (λ z. LivesAs m z (thread_at m.threads t)) same (as_ready t is_ready)
  turn_back _ _ (as_ready u some) = let e = occurs_first u in subst (LivesAs m u) (sym (other_thread u (not_again u some))) (as_ready u (omega (arith, some, e)))
  turn_back _ _ (as_operating u some) = subst (LivesAs m u) (sym (other_thread u (not_operating u some))) (as_operating u some)
  turn_back _ _ (as_waiting u c x here owner w) = subst (LivesAs m u) (sym (other_thread u (not_waiting u c x here owner w))) (as_waiting u c x here owner w)

  turn_on : (u : Item) (h : Thread) → LivesAs m u h → LivesAs turned u h
  turn_on _ _ (as_running u e) = let no : None ≡ Some u = sym idle ∙ e in absurd (cc)
  turn_on _ _ (as_ready u some) = elim (same_or_other u t) as (λ _. LivesAs turned u (thread_at m.threads u)) [
    | inl e ↦ subst (λ z. LivesAs turned z (thread_at m.threads z)) (sym e) (as_running t refl)
    | inr ne ↦
        let e = occurs_first u in
        let z : one_at u.number t ≡ 0 = one_other u.number t.number (λ k. ne (same_item u t k)) in
        subst (LivesAs turned u) (other_thread u ne) (as_ready u (omega (arith, some, e, z)))
  ]
  turn_on _ _ (as_operating u some) = subst (LivesAs turned u) (other_thread u (not_operating u some)) (as_operating u some)
  turn_on _ _ (as_waiting u c x here owner w) = subst (LivesAs turned u) (other_thread u (not_waiting u c x here owner w)) (as_waiting u c x here owner w)

  pub turn_chained : AreChained code turned
  turn_chained = record {
    origins = chained.origins;
    sites = chained.sites;
    long = chained.long;
    many = chained.many;
    older = chained.older;
    frames = linked_same chained.origins m turned (same_frames chained.origins m.store)
        (λ f a. record { item = a.item; thread = a.thread; living = turn_on a.item a.thread a.living; has = a.has }) chained.frames;
    threads = λ u h l. chained.threads u h (turn_back u h l);
    waiting = λ c x here w. chained.waiting c x here w ∙ ap (λ (h : Thread). Some h.frame) (sym (other_thread x.owner (not_waiting x.owner c x here refl w)));
    operations = λ k d lt.
        let o = slice_index_or m.operations k d in
        subst (λ (h : Thread). AskedOnChain chained.origins h.frame o.asked) (sym (other_thread o.item (not_operating o.item (waits_there m.operations k d lt)))) (chained.operations k d lt);
  }
