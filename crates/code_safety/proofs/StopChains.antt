-- No reference dangles where the running thread stops.
-- `KeepsLiving` says that each other thread lives just as before; then frames, stacks, waiting owners and operations are as they were, and
-- the thread itself may have gone to rest, to wait, or to its end.
use Rattle.std.proofs.Common.{◌≡◌, ◌⊎◌, ℕ, ◌<◌, List, length, Option, Some, None, true, refl, sym, ap, ◌∙◌, subst, inl, inr, arith}
use Rattle.std.specs.Prelude.{All, slice_get, slice_index_or, slice_set}
use Rattle.std.proofs.lemmas.List.{get_or-set_same, get_or-set_other}
use Rattle.work_item.specs.declared.ids.Item.{Item}
use Rattle.work_item.specs.declared.ids.FrameId.{FrameId}
use Rattle.work_item.specs.declared.ids.BlockId.{BlockId}
use Rattle.work_item.specs.Store.{Store, Frame, frame_at}
use Rattle.cancel_scope.specs.declared.operation.Operation.{Operation}
use Rattle.stack_code.specs.Parts.{Parts}
use Rattle.code_meaning.specs.Machine.{Thread, Block, Flat, block_at, thread_at, nobody}
use Rattle.code_safety.specs.Fit.{life_at, IsFit, occurs, items_of}
use Rattle.code_safety.specs.Living.{LivesAs, as_running, as_ready, as_operating, as_waiting, HasFrame}
use Rattle.code_safety.specs.Chains.{AskedOnChain, HasStack, IsActive, IsLinked, AreChained}
use Rattle.code_safety.proofs.Lasting.{KeepsBlocks}
use Rattle.code_safety.proofs.Lives.{same_item}
use Rattle.code_safety.proofs.Own.{rooted_of, within_of, block_bound}
use Rattle.code_safety.proofs.Removing.{same_or_other}
use Rattle.code_safety.proofs.LivingThreads.{waits_there, operating_once, start_same}
use Rattle.code_safety.proofs.Releasing.{is_current}
use Rattle.code_safety.proofs.Stacks.{KeepsStart, has_stack_kept}
use Rattle.code_safety.proofs.OwnChains.{same_item_of, extends_same}

-- a block of the thread waits
pub record Waits (blocks : List (Option Block)) (u : Item) (c : BlockId) : Type 0 where
  pub block : Block
  pub here : block_at blocks c ≡ Some block
  pub owner : block.owner ≡ u
  pub waits : block.waits ≡ true

module _ (code : Parts) (m : Flat) (fit : IsFit code m) (chained : AreChained code m) (t : Item) (run : m.running ≡ Some t) (store : Store) (operations : List Operation)
    (kept : Thread) (ready : List Item) (blocks : List (Option Block)) (count : ℕ) where
  abbrev pub next : Flat
  next = record {
    shared = m.shared;
    store = store;
    operations = operations;
    running = None;
    current = nobody;
    ready = ready;
    threads = slice_set m.threads t.number kept;
    blocks = blocks;
    count = count;
  }

  pub other_thread : (u : Item) → (u ≡ t → ⊥) → thread_at next.threads u ≡ thread_at m.threads u
  other_thread u ne = get_or-set_other m.threads t.number u.number kept nobody (λ e. ne (same_item u t e))

  pub own_thread : thread_at next.threads t ≡ kept
  own_thread = let w = within_of code m fit t run in let k = fit.many in get_or-set_same m.threads t.number kept nobody (omega (arith, w, k))

  -- the thread had no operation, so the operations that there were ask for the same
  pub still_asks : All (λ (o : Operation). AskedOnChain chained.origins (thread_at next.threads o.item).frame o.asked) m.operations
  still_asks k d lt =
      let o = slice_index_or m.operations k d in
      let ne : o.item ≡ t → ⊥ = (λ e. (operating_once code m fit o.item (waits_there m.operations k d lt)).1.1 (run ∙ ap (λ z. Some z) (sym e))) in
      subst (λ (h : Thread). AskedOnChain chained.origins h.frame o.asked) (sym (other_thread o.item ne)) (chained.operations k d lt)

  -- the other threads that live are the same
  pub record KeepsLiving : Type 0 where
    pub ready_back : (u : Item) → (u ≡ t → ⊥) → 0 < occurs u.number ready → LivesAs m u (thread_at m.threads u)
    pub operates_back : (u : Item) → (u ≡ t → ⊥) → 0 < occurs u.number (items_of operations) → 0 < occurs u.number (items_of m.operations)
    pub waits_back : (u : Item) (c : BlockId) → (u ≡ t → ⊥) → Waits blocks u c → Waits m.blocks u c
    pub ready_on : (u : Item) → (u ≡ t → ⊥) → 0 < occurs u.number m.ready → 0 < occurs u.number ready
    pub operates_on : (u : Item) → (u ≡ t → ⊥) → 0 < occurs u.number (items_of m.operations) → 0 < occurs u.number (items_of operations)
    pub waits_on : (u : Item) (c : BlockId) → (u ≡ t → ⊥) → Waits m.blocks u c → (Waits blocks u c) ⊎ (0 < occurs u.number ready)

  module _ (living : KeepsLiving) where
    stop_back : (u : Item) (h : Thread) → LivesAs next u h → ((u ≡ t) × (h ≡ kept)) ⊎ ((u ≡ t → ⊥) × LivesAs m u h)
    stop_back _ _ (as_running u e) = let no : None ≡ Some u = e in absurd (cc)
    stop_back _ _ (as_ready u some) = elim (same_or_other u t) as (λ _. ((u ≡ t) × (thread_at next.threads u ≡ kept)) ⊎ ((u ≡ t → ⊥) × LivesAs m u (thread_at next.threads u))) [
      | inl e ↦ inl (e, ap (thread_at next.threads) e ∙ own_thread)
      | inr ne ↦ inr (ne, subst (LivesAs m u) (sym (other_thread u ne)) (living.ready_back u ne some))
    ]
    stop_back _ _ (as_operating u some) = elim (same_or_other u t) as (λ _. ((u ≡ t) × (thread_at next.threads u ≡ kept)) ⊎ ((u ≡ t → ⊥) × LivesAs m u (thread_at next.threads u))) [
      | inl e ↦ inl (e, ap (thread_at next.threads) e ∙ own_thread)
      | inr ne ↦ inr (ne, subst (LivesAs m u) (sym (other_thread u ne)) (as_operating u (living.operates_back u ne some)))
    ]
    stop_back _ _ (as_waiting u c y here owner w) = elim (same_or_other u t) as (λ _. ((u ≡ t) × (thread_at next.threads u ≡ kept)) ⊎ ((u ≡ t → ⊥) × LivesAs m u (thread_at next.threads u))) [
      | inl e ↦ inl (e, ap (thread_at next.threads) e ∙ own_thread)
      | inr ne ↦
          let x = living.waits_back u c ne (record { block = y; here = here; owner = owner; waits = w }) in
          inr (ne, subst (LivesAs m u) (sym (other_thread u ne)) (as_waiting u c x.block x.here x.owner x.waits))
    ]

    now_ready : (u : Item) → (u ≡ t → ⊥) → 0 < occurs u.number ready → LivesAs next u (thread_at m.threads u)
    now_ready u ne some = subst (LivesAs next u) (other_thread u ne) (as_ready u some)

    running_is : (u : Item) (h : Thread) → LivesAs m u h → u ≡ t → h ≡ m.current
    running_is u h l e = is_current code m fit chained t run h (subst (λ z. LivesAs m z h) e l)

    stop_on : (u : Item) (h : Thread) → LivesAs m u h → ((u ≡ t) × (h ≡ m.current)) ⊎ LivesAs next u h
    stop_on _ _ (as_running u e) = inl (same_item_of m.running t u run e, refl)
    stop_on _ _ (as_ready u some) = elim (same_or_other u t) as (λ _. ((u ≡ t) × (thread_at m.threads u ≡ m.current)) ⊎ LivesAs next u (thread_at m.threads u)) [
      | inl e ↦ inl (e, running_is u (thread_at m.threads u) (as_ready u some) e)
      | inr ne ↦ inr (now_ready u ne (living.ready_on u ne some))
    ]
    stop_on _ _ (as_operating u some) = elim (same_or_other u t) as (λ _. ((u ≡ t) × (thread_at m.threads u ≡ m.current)) ⊎ LivesAs next u (thread_at m.threads u)) [
      | inl e ↦ inl (e, running_is u (thread_at m.threads u) (as_operating u some) e)
      | inr ne ↦ inr (subst (LivesAs next u) (other_thread u ne) (as_operating u (living.operates_on u ne some)))
    ]
    stop_on _ _ (as_waiting u c x here owner w) = elim (same_or_other u t) as (λ _. ((u ≡ t) × (thread_at m.threads u ≡ m.current)) ⊎ LivesAs next u (thread_at m.threads u)) [
      | inl e ↦ inl (e, running_is u (thread_at m.threads u) (as_waiting u c x here owner w) e)
      | inr ne ↦ inr (elim (living.waits_on u c ne (record { block = x; here = here; owner = owner; waits = w })) as (λ _. LivesAs next u (thread_at m.threads u)) [
        | inl y ↦ subst (LivesAs next u) (other_thread u ne) (as_waiting u c y.block y.here y.owner y.waits)
        | inr some ↦ now_ready u ne some
      ])
    ]

    pub stop_active : (f : FrameId) → (HasFrame m.current f → IsActive next f) → IsActive m f → IsActive next f
    stop_active f own a = elim (stop_on a.item a.thread a.living) as (λ _. IsActive next f) [
      | inl p ↦ own (subst (λ (h : Thread). HasFrame h f) p.1 a.has)
      | inr l ↦ record { item = a.item; thread = a.thread; living = l; has = a.has }
    ]

    -- What is left to give for such a stop: the frames that are left with their links, the blocks that were entered in them, and the stack of
    -- the thread if it lives on.
    module _ (long : length chained.origins ≡ length store.frames) (many : length chained.sites ≡ length blocks)
        (frames : (f : FrameId) (x : Frame) → frame_at store f ≡ Some x → IsLinked chained.origins next f x) (own : LivesAs next t kept → HasStack code chained.origins blocks chained.sites t kept)
        (asks : All (λ (o : Operation). AskedOnChain chained.origins (thread_at next.threads o.item).frame o.asked) operations)
        (own_waits : (c : BlockId) → Waits blocks t c → slice_get chained.sites c.number ≡ Some kept.frame)
        (keeps : (u : Item) (h : Thread) → LivesAs m u h → (u ≡ t → ⊥) → KeepsBlocks m.blocks blocks u (block_bound h.block))
        (starts : (u : Item) (h : Thread) → LivesAs m u h → (u ≡ t → ⊥) → KeepsStart m.blocks blocks (life_at fit.lives u).start) where
      pub stop_chained : AreChained code next
      stop_chained = record {
        origins = chained.origins;
        sites = chained.sites;
        long = long;
        many = many;
        older = chained.older;
        frames = frames;
        threads = λ u h l. elim (stop_back u h l) as (λ _. HasStack code chained.origins blocks chained.sites u h) [
          | inl p ↦
              let l2 : LivesAs next t kept = subst (λ v. LivesAs next v kept) p.0 (subst (LivesAs next u) p.1 l) in
              subst (λ v. HasStack code chained.origins blocks chained.sites v h) (sym p.0) (subst (HasStack code chained.origins blocks chained.sites t) (sym p.1) (own l2))
          | inr p ↦
              let z = chained.threads u h p.1 in
              has_stack_kept code chained.origins chained.origins (extends_same chained.origins) m.blocks blocks (rooted_of code m fit) chained.sites chained.sites (extends_same chained.sites) u h
              (keeps u h p.1 p.0) z (subst (KeepsStart m.blocks blocks) (sym (start_same code m fit chained u h p.1 z)) (starts u h p.1 p.0))
        ];
        waiting = λ c y here w. elim (same_or_other y.owner t) as (λ _. slice_get chained.sites c.number ≡ Some (thread_at next.threads y.owner).frame) [
          | inl e ↦
              let k = own_waits c (record { block = y; here = here; owner = e; waits = w }) in
              k ∙ ap (λ (h : Thread). Some h.frame) (sym (ap (thread_at next.threads) e ∙ own_thread))
          | inr ne ↦
              let x = living.waits_back y.owner c ne (record { block = y; here = here; owner = refl; waits = w }) in
              chained.waiting c x.block x.here x.waits ∙ ap (λ (h : Thread). Some h.frame) (ap (thread_at m.threads) x.owner ∙ sym (other_thread y.owner ne))
        ];
        operations = asks;
      }
