-- No reference dangles where the running thread goes on.
-- The same form as Own for chains: the other threads that live are the same, the running one is given a new stack, and origins and sites
-- are only added.
use Rattle.std.proofs.Common.{◌≡◌, ◌⊎◌, ℕ, ◌<◌, List, length, Option, Some, true, refl, sym, ap, ◌∙◌, subst, inl, inr}
use Rattle.std.specs.Prelude.{slice_get}
use Rattle.std.proofs.lemmas.List.Elements.{All-weaker}
use Rattle.work_item.specs.declared.ids.Item.{Item}
use Rattle.work_item.specs.declared.ids.FrameId.{FrameId}
use Rattle.work_item.specs.declared.ids.BlockId.{BlockId}
use Rattle.work_item.specs.Store.{Store, Frame, frame_at}
use Rattle.cancel_scope.specs.declared.operation.Operation.{Operation}
use Rattle.core_state.specs.Moves.{Move, On, Over}
use Rattle.core_state.specs.Shared.{Shared}
use Rattle.stack_code.specs.declared.instr.Instr.{Instr}
use Rattle.stack_code.specs.declared.shape.Shape.{Shape}
use Rattle.stack_code.specs.declared.shape.Leads.{Leads}
use Rattle.stack_code.specs.Parts.{Parts}
use Rattle.stack_code.specs.Shapes.{effect}
use Rattle.stack_code.specs.Valid as valid
use Rattle.stack_code.specs.Valid.{Reaches, IsValid}
use Rattle.code_meaning.specs.Machine.{Thread, Block, Flat, FlatEnd, begin, at, block_at, thread_at}
use Rattle.code_safety.specs.Fit.{IsThread, life_at, own_blocks, own_in, IsFit}
use Rattle.code_safety.specs.Living.{LivesAs, as_running, as_ready, as_operating, as_waiting, HasFrame}
use Rattle.code_safety.specs.Chains.{Origin, link_of, Came, AskedOnChain, HasStack, IsActive, IsLinked, AreChained}
use Rattle.code_safety.proofs.Lasting.{KeepsBlocks}
use Rattle.code_safety.proofs.Own.{rooted_of, thread_of, all_kept, block_bound}
use Rattle.code_safety.proofs.Plain.{is_plain, Onward, Next, onward}
use Rattle.code_safety.proofs.Chained.{Extends, chain_grown, asked_onto}
use Rattle.code_safety.proofs.LivingThreads.{not_running, ready_once, operating_once, start_same}
use Rattle.code_safety.proofs.LinkedFrames.{linked_same}
use Rattle.code_safety.proofs.Stacks.{KeepsStart, has_stack_kept, stack_at, top_names}
use Rattle.code_safety.proofs.NamesKept.{KeepsNames, keeps_names}

-- each block that waits did so before, and the other way round
abbrev pub KeepsWaiting : List (Option Block) → List (Option Block) → Type 0
KeepsWaiting old new = (c : BlockId) (x : Block) → block_at old c ≡ Some x → x.waits ≡ true → (y : Block) × ((block_at new c ≡ Some y) × ((y.owner ≡ x.owner) × (y.waits ≡ true)))

pub same_item_of : (o : Option Item) (t u : Item) → o ≡ Some t → o ≡ Some u → u ≡ t
same_item_of o t u e k = let both : Some t ≡ Some u = sym e ∙ k in cc

module _ (code : Parts) (m : Flat) (fit : IsFit code m) (chained : AreChained code m) (t : Item) (run : m.running ≡ Some t) (shared : Shared) (store : Store) (current : Thread)
    (blocks : List (Option Block)) (count : ℕ) (back : KeepsWaiting blocks m.blocks) (on : KeepsWaiting m.blocks blocks) where
  abbrev pub next : Flat
  next = record m { shared = shared; store = store; current = current; blocks = blocks; count = count }

  own_back : (u : Item) (h : Thread) → LivesAs next u h → ((u ≡ t) × (h ≡ current)) ⊎ ((u ≡ t → ⊥) × LivesAs m u h)
  own_back _ _ (as_running u e) = inl (same_item_of m.running t u run e, refl)
  own_back _ _ (as_ready u some) = inr (λ e. (ready_once code m fit u some).1.1 (run ∙ ap (λ z. Some z) (sym e)), as_ready u some)
  own_back _ _ (as_operating u some) = inr (λ e. (operating_once code m fit u some).1.1 (run ∙ ap (λ z. Some z) (sym e)), as_operating u some)
  own_back _ _ (as_waiting u c y here owner w) =
      let x = back c y here w in
      let of : x.0.owner ≡ u = x.1.1.0 ∙ owner in
      inr (λ e. not_running code m fit u c x.0 x.1.0 of x.1.1.1 (run ∙ ap (λ z. Some z) (sym e)), as_waiting u c x.0 x.1.0 of x.1.1.1)

  own_on : (u : Item) (h : Thread) → LivesAs m u h → ((u ≡ t) × (h ≡ m.current)) ⊎ LivesAs next u h
  own_on _ _ (as_running u e) = inl (same_item_of m.running t u run e, refl)
  own_on _ _ (as_ready u some) = inr (as_ready u some)
  own_on _ _ (as_operating u some) = inr (as_operating u some)
  own_on _ _ (as_waiting u c x here owner w) = let y = on c x here w in inr (as_waiting u c y.0 y.1.0 (y.1.1.0 ∙ owner) y.1.1.1)

  pub active_on : (f : FrameId) → (HasFrame m.current f → HasFrame current f) → IsActive m f → IsActive next f
  active_on f keeps a = elim (own_on a.item a.thread a.living) as (λ _. IsActive next f) [
    | inl p ↦ record { item = t; thread = current; living = as_running t run; has = keeps (subst (λ (h : Thread). HasFrame h f) p.1 a.has) }
    | inr l ↦ record { item = a.item; thread = a.thread; living = l; has = a.has }
  ]

  -- What such a move has to give: origins and sites that only grow, the running thread's stack, and blocks that wait just as before.
  module _ (origins : List Origin) (sites : List FrameId) (grown : Extends chained.origins origins) (wider : Extends chained.sites sites) (long : length origins ≡ length store.frames)
      (many : length sites ≡ length blocks) (older : (f g : FrameId) (o : Origin) → Came origins f o → link_of o ≡ Some g → g.number < f.number)
      (frames : (f : FrameId) (x : Frame) → frame_at store f ≡ Some x → IsLinked origins next f x) (stack : HasStack code origins blocks sites t current)
      (keeps : (u : Item) → (u ≡ t → ⊥) → (k : ℕ) → KeepsBlocks m.blocks blocks u k)
      (starts : (u : Item) (h : Thread) → LivesAs m u h → (u ≡ t → ⊥) → KeepsStart m.blocks blocks (life_at fit.lives u).start) where
    pub own_chained : AreChained code next
    own_chained = record {
      origins = origins;
      sites = sites;
      long = long;
      many = many;
      older = older;
      frames = frames;
      threads = λ u h l. elim (own_back u h l) as (λ _. HasStack code origins blocks sites u h) [
        | inl p ↦ subst (λ v. HasStack code origins blocks sites v h) (sym p.0) (subst (HasStack code origins blocks sites t) (sym p.1) stack)
        | inr p ↦
            let z = chained.threads u h p.1 in
            has_stack_kept code chained.origins origins grown m.blocks blocks (rooted_of code m fit) chained.sites sites wider u h (keeps u p.0 (block_bound h.block)) z
            (subst (KeepsStart m.blocks blocks) (sym (start_same code m fit chained u h p.1 z)) (starts u h p.1 p.0))
      ];
      waiting = λ b y here w.
          let x = back b y here w in
          wider b.number (thread_at m.threads y.owner).frame
          (subst (λ (o : Item). slice_get chained.sites b.number ≡ Some (thread_at m.threads o).frame) x.1.1.0 (chained.waiting b x.0 x.1.0 x.1.1.1));
      operations = All-weaker (λ (o : Operation). AskedOnChain chained.origins (thread_at m.threads o.item).frame o.asked)
          (λ (o : Operation). AskedOnChain origins (thread_at m.threads o.item).frame o.asked)
          (λ o. let f = (thread_at m.threads o.item).frame in asked_onto chained.origins origins f f (λ g c. chain_grown chained.origins origins grown f g c) o.asked)
          m.operations chained.operations;
    }

pub waits_on : (blocks : List (Option Block)) → KeepsWaiting blocks blocks
waits_on blocks c x here w = (x, (here, (refl, w)))

pub starts_on : (blocks : List (Option Block)) (start : Option BlockId) → KeepsStart blocks blocks start
starts_on blocks start b x e here = (x, (here, refl))

pub extends_same : {A : Type 0} (xs : List A) → Extends xs xs
extends_same xs n x e = e

-- ---- instructions that concern their own thread alone

pub both_onward : (P Q R : Flat → Type 0) (x : Move Flat FlatEnd) → ((n : Flat) → P n → Q n → R n) → Onward P x → Onward Q x → Onward R x
both_onward P Q R (On m) f p q = f m p q
both_onward P Q R (Over e) f p q = tt

module _ (code : Parts) (bound : ℕ) (m : Flat) (v : IsValid code) (fit : IsFit code m) (chained : AreChained code m) (t : Item) (run : m.running ≡ Some t) where
  abbrev own : IsThread code fit.births m.store m.blocks t (life_at fit.lives t).start m.current
  own = thread_of code m fit t run

  abbrev s : Shape
  s = own.shape

  abbrev mine : HasStack code chained.origins m.blocks chained.sites t m.current
  mine = chained.threads t m.current (as_running t run)

  -- the shape of its address
  pub blocks_same : (u : Shape) → own_blocks s ≡ own_blocks u → (z : Shape) → Reaches code m.current.place z → own_blocks z ≡ own_blocks u
  blocks_same u e z r = ap own_blocks (v.shaped.same m.current.place z s r own.top.reached) ∙ e

  pub plain_next : (instr : Instr) (n : Flat) → Next code bound m fit.births s instr n → KeepsNames chained.origins m n → AreChained code n
  plain_next instr n k q =
      let current : Thread = at m.current n.current.place n.current.operands in
      let reached = valid.goes m.current.place s n.current.place k.shape own.top.reached k.goes in
      let count : own_blocks s ≡ own_blocks k.shape = sym (ap (λ bodies. own_in (length bodies) k.shape.blocks) k.bodies ∙ ap (own_in (length s.bodies)) k.blocks) in
      let stack : HasStack code chained.origins m.blocks chained.sites t current = record {
        start = mine.start;
        stack = stack_at code chained.origins m.blocks chained.sites t mine.start m.current.place m.current.frame m.current.operands m.current.callers m.current.block n.current.place
            n.current.operands k.shape reached q.operands mine.stack (blocks_same k.shape count);
      } in
      subst (AreChained code) (sym k.others)
      (own_chained code m fit chained t run n.shared n.store current m.blocks n.count (waits_on m.blocks) (waits_on m.blocks) chained.origins chained.sites (extends_same chained.origins)
      (extends_same chained.sites) (chained.long ∙ sym q.store.count) chained.many chained.older
      (linked_same chained.origins m (next code m fit chained t run n.shared n.store current m.blocks n.count (waits_on m.blocks) (waits_on m.blocks)) q.store
      (λ f a. active_on code m fit chained t run n.shared n.store current m.blocks n.count (waits_on m.blocks) (waits_on m.blocks) f (λ has. has) a) chained.frames) stack
      (λ u ne j. all_kept m.blocks u j) (λ u h l ne. starts_on m.blocks (life_at fit.lives u).start))

  pub plain_chained : (instr : Instr) (leads : Leads) → slice_get code.instrs m.current.place ≡ Some instr → effect code m.current.place instr s ≡ Some leads → is_plain instr ≡ true
      → Onward (AreChained code) (begin code bound m t (Some instr))
  plain_chained instr leads here finds p =
      both_onward (Next code bound m fit.births s instr) (KeepsNames chained.origins m) (AreChained code) (begin code bound m t (Some instr)) (plain_next instr)
      (onward code bound m fit.births t s v.one_use fit.store own.top t instr leads here finds p)
      (keeps_names chained.origins m
      (top_names code chained.origins m.blocks chained.sites t mine.start m.current.place m.current.frame m.current.operands m.current.callers m.current.block mine.stack)
      (λ f x e. let i = chained.frames f x e in (i.origin, (i.came, i.parent))) (λ f x e. (chained.frames f x e).names) code bound t instr p)
