-- No reference dangles where a thread is started: the body lies in the frame of its creator, and in that which entered its block.
-- A body's frame is linked to the frame round it. That the block in which it starts was entered there or further out is read off the stack
-- of its creator, which has no callers where it is in a body itself.
use Rattle.std.proofs.Common.{◌≡◌, ◌⊎◌, ℕ, ◌+◌, ◌<◌, List, [], ◌∷◌, ◌++◌, length, Option, Some, true, refl, sym, ap, ◌∙◌, subst, inl, inr, arith}
use Rattle.std.specs.Prelude.{slice_get, slice_index_or, slice_set, nat_eq, nat_lt, replicate}
use Rattle.std.proofs.lemmas.Bool.{and_parts}
use Rattle.std.proofs.lemmas.Bool.Decides.{nat_tests}
use Rattle.std.proofs.lemmas.List.{length-set, get_or-set_same, get_or-set_other, get_or_append_left}
use Rattle.work_item.specs.declared.ids.Item.{Item}
use Rattle.work_item.specs.declared.ids.FrameId.{FrameId}
use Rattle.work_item.specs.declared.ids.BlockId.{BlockId}
use Rattle.work_item.specs.declared.cell.Cell.{Cell}
use Rattle.work_item.specs.Store.{Store, made, next_frame, no_int}
use Rattle.work_item.specs.Conditions.{Lives}
use Rattle.core_state.specs.Moves.{On}
use Rattle.core_state.specs.Frames.{begun}
use Rattle.stack_code.specs.declared.instr.Instr.TheVariants as i
use Rattle.stack_code.specs.declared.shape.Shape.{Shape}
use Rattle.stack_code.specs.declared.shape.Leads.{Leads}
use Rattle.stack_code.specs.declared.shape.Leads.TheVariants.{Two}
use Rattle.stack_code.specs.Parts.{Parts}
use Rattle.stack_code.specs.Shapes.{effect, inner, can_start, LeadsTo}
use Rattle.stack_code.specs.Valid as valid
use Rattle.stack_code.specs.Valid.{Reaches, IsValid}
use Rattle.code_meaning.specs.Machine.{Thread, Caller, Block, Flat, begin, counted, block_at, with_block, thread_at, nobody, one_more, starts, counted_in}
use Rattle.code_safety.specs.Fit.{AreCallers, bottom, above, IsThread, life_at, own_blocks, own_in, one_at, occurs, items_of, IsFit}
use Rattle.code_safety.specs.Living.{LivesAs, as_running, as_ready, as_operating, as_waiting, HasFrame}
use Rattle.code_safety.specs.Chains.{Origin, StartedIn, link_of, Came, LiesIn, directly, deeper, AskedOnChain}
use Rattle.code_safety.specs.Chains.{HasEnteredIn, none_in, IsLevel, IsStartedIn, Starts, outermost, HasStack, IsActive, AreChained}
use Rattle.code_safety.proofs.Taken.{if_is}
use Rattle.code_safety.proofs.Lasting.{KeepsBlocks}
use Rattle.code_safety.proofs.Lives.{one_same, one_other, same_item, living_within}
use Rattle.code_safety.proofs.Own.{rooted_of, thread_of, block_bound}
use Rattle.code_safety.proofs.Plain.{Onward, trap_on}
use Rattle.code_safety.proofs.Making.{there_within}
use Rattle.code_safety.proofs.Removing.{same_or_not, same_or_other, set_aside, set_there, set_is}
use Rattle.code_safety.proofs.Calling.{is_made}
use Rattle.code_safety.proofs.Starting.{starting, none_own, two_bodies}
use Rattle.code_safety.proofs.Chained.{Extends, extends_one, extends_last, chain_grown, lies_grown, asked_onto, no_names}
use Rattle.code_safety.proofs.LivingThreads.{waits_there, is_life, not_running, ready_once, operating_once, block_site}
use Rattle.code_safety.proofs.LinkedFrames.{there_lives, linked_made, older_made, long_made}
use Rattle.code_safety.proofs.Stacks.{KeepsStart, has_stack_kept, stack_at, stack_site, top_names}
use Rattle.code_safety.proofs.OwnChains.{KeepsWaiting, blocks_same, same_item_of, extends_same}

-- an activation with two bodies round it has no caller
pub no_callers : (code : Parts) (m : Flat) (fit : IsFit code m) (t : Item) (start : Option BlockId) (f : FrameId) (shape : Shape) (callers : List Caller) (n : ℕ) → 1 < length shape.bodies
    → AreCallers code fit.births m.store t start f shape callers n → callers ≡ []
no_callers code m fit t start _ _ _ _ lt (bottom f shape q) = refl
no_callers code m fit t start _ _ _ _ lt (above f shape c callers u n one older waits rest) = absurd (omega (arith, lt, one))

module _ (code : Parts) (bound : ℕ) (m : Flat) (v : IsValid code) (fit : IsFit code m) (chained : AreChained code m) (t : Item) (run : m.running ≡ Some t) where
  abbrev own : IsThread code fit.births m.store m.blocks t (life_at fit.lives t).start m.current
  own = thread_of code m fit t run

  abbrev s : Shape
  s = own.shape

  abbrev place : ℕ
  place = m.current.place

  abbrev top : FrameId
  top = m.current.frame

  abbrev mine : HasStack code chained.origins m.blocks chained.sites t m.current
  mine = chained.threads t m.current (as_running t run)

  module _ (slots to : ℕ) (here : slice_get code.instrs place ≡ Some (i.Async slots to)) (ways : effect code place (i.Async slots to) s ≡ Some (Two (place + 1) (inner place slots s) to s))
      (entered : 0 < length s.blocks) (b : BlockId) (is : m.current.block ≡ Some b) (x : Block) (at : block_at m.blocks b ≡ Some x) where
    abbrev cells : List Cell
    cells = replicate slots no_int

    abbrev more : Block
    more = record x { count = x.count + 1 }

    abbrev blocks : List (Option Block)
    blocks = with_block m.blocks b (Some more)

    abbrev fresh : Item
    fresh = record { number = length m.threads }

    abbrev new : FrameId
    new = next_frame m.store

    abbrev creator : Thread
    creator = record m.current { place = to }

    abbrev started : Thread
    started = record { place = place + 1; frame = new; operands = []; callers = []; block = m.current.block }

    abbrev store : Store
    store = made m.store (Some top) cells

    abbrev threads : List Thread
    threads = slice_set m.threads t.number creator ++ nobody ∷ []

    abbrev next : Flat
    next = record {
      shared = m.shared;
      store = store;
      operations = m.operations;
      running = Some fresh;
      current = started;
      ready = t ∷ m.ready;
      threads = threads;
      blocks = blocks;
      count = counted m.count;
    }

    abbrev origin : Origin
    origin = StartedIn top

    abbrev origins : List Origin
    origins = chained.origins ++ origin ∷ []

    grown : Extends chained.origins origins
    grown = extends_one chained.origins origin

    -- ---- blocks

    there : (c : BlockId) (y : Block) → block_at m.blocks c ≡ Some y → (z : Block) × ((block_at blocks c ≡ Some z) × ((z.owner ≡ y.owner) × ((z.parent ≡ y.parent) × (z.waits ≡ y.waits))))
    there c y e = elim (same_or_not b c) as (λ _. (z : Block) × ((block_at blocks c ≡ Some z) × ((z.owner ≡ y.owner) × ((z.parent ≡ y.parent) × (z.waits ≡ y.waits))))) [
      | inl same ↦
          let q : x ≡ y = let both : Some x ≡ Some y = sym at ∙ ap (block_at m.blocks) same ∙ e in cc in (
            more,
            (
              subst (λ d. block_at blocks d ≡ Some more) same (set_there m.blocks b (Some more) x at),
              (ap (λ (z : Block). z.owner) q, (ap (λ (z : Block). z.parent) q, ap (λ (z : Block). z.waits) q)),
            ),
          )
      | inr ne ↦ (y, (set_aside m.blocks b (Some more) c ne ∙ e, (refl, (refl, refl))))
    ]

    back : KeepsWaiting blocks m.blocks
    back c y e w = elim (set_is m.blocks b (Some more) x at c y e) as (λ _. (z : Block) × ((block_at m.blocks c ≡ Some z) × ((z.owner ≡ y.owner) × (z.waits ≡ true)))) [
      | inl p ↦
          let q : more ≡ y = let both : Some more ≡ Some y = p.1 in cc in
          (x, (ap (block_at m.blocks) (sym p.0) ∙ at, (ap (λ (z : Block). z.owner) q, ap (λ (z : Block). z.waits) q ∙ w)))
      | inr p ↦ (y, (p.1, (refl, w)))
    ]

    keeps : (u : Item) (k : ℕ) → KeepsBlocks m.blocks blocks u k
    keeps u k c y e owner lt = let z = there c y e in (z.0, (z.1.0, (z.1.1.0, z.1.1.1.0)))

    keeps_start : (o : Option BlockId) → KeepsStart m.blocks blocks o
    keeps_start o c y q e = let z = there c y e in (z.0, (z.1.0, z.1.1.0))

    -- ---- threads

    within : (u : Item) (h : Thread) → LivesAs m u h → u.number < length m.threads
    within u h l = let w = living_within fit.lives u (is_life code m fit u h l).0 in let k = fit.many in omega (arith, w, k)

    long : length (slice_set m.threads t.number creator) ≡ length m.threads
    long = length-set m.threads t.number creator

    old_thread : (u : Item) → u.number < length m.threads → thread_at threads u ≡ thread_at (slice_set m.threads t.number creator) u
    old_thread u lt = let k = long in get_or_append_left (slice_set m.threads t.number creator) (nobody ∷ []) nobody u.number (omega (arith, lt, k))

    other_thread : (u : Item) → u.number < length m.threads → (u ≡ t → ⊥) → thread_at threads u ≡ thread_at m.threads u
    other_thread u lt ne = old_thread u lt ∙ get_or-set_other m.threads t.number u.number creator nobody (λ e. ne (same_item u t e))

    own_thread : thread_at threads t ≡ creator
    own_thread = let w = within t m.current (as_running t run) in old_thread t w ∙ get_or-set_same m.threads t.number creator nobody w

    operating_thread : (u : Item) → 0 < occurs u.number (items_of m.operations) → thread_at threads u ≡ thread_at m.threads u
    operating_thread u some =
        let ne : u ≡ t → ⊥ = (λ e. (operating_once code m fit u some).1.1 (run ∙ ap (λ z. Some z) (sym e))) in
        other_thread u (within u (thread_at m.threads u) (as_operating u some)) ne

    start_back : (u : Item) (h : Thread) → LivesAs next u h → ((u ≡ fresh) × (h ≡ started)) ⊎ (((u ≡ t) × (h ≡ creator)) ⊎ LivesAs m u h)
    start_back _ _ (as_running u e) = let same : fresh ≡ u = cc in inl (sym same, refl)
    start_back _ _ (as_ready u some) =
        elim (same_or_other u t) as (λ _. ((u ≡ fresh) × (thread_at threads u ≡ started)) ⊎ (((u ≡ t) × (thread_at threads u ≡ creator)) ⊎ LivesAs m u (thread_at threads u))) [
          | inl e ↦ inr (inl (e, ap (thread_at threads) e ∙ own_thread))
          | inr ne ↦
              let z : one_at u.number t ≡ 0 = one_other u.number t.number (λ k. ne (same_item u t k)) in
              let l = as_ready u (omega (arith, some, z)) in
              inr (inr (subst (LivesAs m u) (sym (other_thread u (within u (thread_at m.threads u) l) ne)) l))
        ]
    start_back _ _ (as_operating u some) = inr (inr (subst (LivesAs m u) (sym (operating_thread u some)) (as_operating u some)))
    start_back _ _ (as_waiting u c y e owner w) =
        let z = back c y e w in
        let l = as_waiting u c z.0 z.1.0 (z.1.1.0 ∙ owner) z.1.1.1 in
        let ne : u ≡ t → ⊥ = (λ q. not_running code m fit u c z.0 z.1.0 (z.1.1.0 ∙ owner) z.1.1.1 (run ∙ ap (λ k. Some k) (sym q))) in
        inr (inr (subst (LivesAs m u) (sym (other_thread u (within u (thread_at m.threads u) l) ne)) l))

    creator_lives : LivesAs next t creator
    creator_lives = let one : one_at t.number t ≡ 1 = one_same t.number in subst (LivesAs next t) own_thread (as_ready t (omega (arith, one)))

    start_on : (u : Item) (h : Thread) → LivesAs m u h → ((u ≡ t) × (h ≡ m.current)) ⊎ LivesAs next u h
    start_on _ _ (as_running u e) = inl (same_item_of m.running t u run e, refl)
    start_on _ _ (as_ready u some) =
        let ne : u ≡ t → ⊥ = (λ e. (ready_once code m fit u some).1.1 (run ∙ ap (λ z. Some z) (sym e))) in
        inr (subst (LivesAs next u) (other_thread u (within u (thread_at m.threads u) (as_ready u some)) ne) (as_ready u (omega (arith, some))))
    start_on _ _ (as_operating u some) = inr (subst (LivesAs next u) (operating_thread u some) (as_operating u some))
    start_on _ _ (as_waiting u c y e owner w) =
        let z = there c y e in
        let ne : u ≡ t → ⊥ = (λ q. not_running code m fit u c y e owner w (run ∙ ap (λ k. Some k) (sym q))) in
        inr (subst (LivesAs next u) (other_thread u (within u (thread_at m.threads u) (as_waiting u c y e owner w)) ne)
        (as_waiting u c z.0 z.1.0 (z.1.1.0 ∙ owner) (z.1.1.1.1 ∙ w)))

    still : (f : FrameId) → IsActive m f → IsActive next f
    still f a = elim (start_on a.item a.thread a.living) as (λ _. IsActive next f) [
      | inl p ↦ record { item = t; thread = creator; living = creator_lives; has = subst (λ (h : Thread). HasFrame h f) p.1 a.has }
      | inr l ↦ record { item = a.item; thread = a.thread; living = l; has = a.has }
    ]

    new_active : IsActive next new
    new_active = record { item = fresh; thread = started; living = as_running fresh refl; has = inl refl }

    -- ---- stacks

    goes_to : (a : ℕ) (u : Shape) → LeadsTo (Two (place + 1) (inner place slots s) to s) a u → Reaches code a u
    goes_to a u l = valid.goes place s a u own.top.reached (record {
      fits = record { instr = i.Async slots to; leads = Two (place + 1) (inner place slots s) to s; here = here; finds = ways };
      leads = l;
    })

    creator_stack : HasStack code origins blocks chained.sites t creator
    creator_stack =
        let old = has_stack_kept code chained.origins origins grown m.blocks blocks (rooted_of code m fit) chained.sites chained.sites (extends_same chained.sites) t m.current
        (keeps t (block_bound m.current.block)) mine (keeps_start mine.start) in
        let names = top_names code origins blocks chained.sites t old.start place top m.current.operands m.current.callers m.current.block old.stack in
        record {
          start = old.start;
          stack = stack_at code origins blocks chained.sites t old.start place top m.current.operands m.current.callers m.current.block to m.current.operands s (goes_to to s (inr (refl, refl))) names
              old.stack (blocks_same code bound m v fit chained t run s refl);
        }

    came : Came origins new origin
    came = subst (λ k. slice_get origins k ≡ Some origin) chained.long (extends_last chained.origins origin)

    bare : (u : Shape) → Reaches code place u → own_blocks u ≡ 0 → m.current.callers ≡ []
    bare u r e =
        let none : own_in (length s.bodies) s.blocks ≡ 0 = ap own_blocks (v.shaped.same place s u own.top.reached r) ∙ e in
        no_callers code m fit t (life_at fit.lives t).start top s m.current.callers own.below (two_bodies (length s.bodies) s.blocks entered own.top.blocks none) own.callers

    starts_in_block : IsStartedIn origins blocks chained.sites fresh new b
    starts_in_block =
        let r = stack_site code chained.origins m.blocks chained.sites t mine.start place top m.current.operands m.current.callers m.current.block mine.stack bare b is in
        let q = block_site code m fit chained b x at in
        record {
          block = more;
          here = set_there m.blocks b (Some more) x at;
          older = within x.owner q.thread q.lives;
          site = r.site;
          at = r.at;
          inside = elim r.lies as (λ _. LiesIn origins new r.site) [
            | inl e ↦ subst (LiesIn origins new) e (directly new top came)
            | inr l ↦ deeper new top r.site came (lies_grown chained.origins origins grown top r.site l)
          ];
        }

    started_stack : HasStack code origins blocks chained.sites fresh started
    started_stack =
        let none = none_own (length s.bodies) s.blocks own.top.blocks in
        let level : IsLevel code origins blocks chained.sites fresh (place + 1) new [] m.current.block m.current.block = record {
          shape = inner place slots s;
          reached = goes_to (place + 1) (inner place slots s) (inl (refl, refl));
          names = tt;
          entered = subst (λ n. HasEnteredIn blocks chained.sites fresh new n m.current.block m.current.block) (sym none) (none_in m.current.block);
        } in
        record {
          start = m.current.block;
          stack = outermost (place + 1) new [] m.current.block level (subst (Starts origins blocks chained.sites fresh new) (sym is) starts_in_block);
        }

    top_lives : (g : FrameId) → link_of origin ≡ Some g → Lives m.store g
    top_lives g e = let same : top ≡ g = cc in subst (Lives m.store) same (there_lives m.store top own.top.goes.frame own.top.goes.here)

    -- Each part for the new thread, for its creator, which is ready now, and for all others, which are as they were.
    started_chained : AreChained code next
    started_chained = record {
      origins = origins;
      sites = chained.sites;
      long = long_made chained.origins m next origin cells refl chained.long top_lives still new_active;
      many = chained.many ∙ sym (length-set m.blocks b.number (Some more));
      older = older_made chained.origins m next origin cells refl chained.long top_lives still new_active
          (λ g e. let same : top ≡ g = cc in subst (λ (z : FrameId). z.number < length m.store.frames) same (there_within m.store.frames top.number own.top.goes.frame own.top.goes.here))
          chained.older;
      frames = linked_made chained.origins m next origin cells refl chained.long top_lives still new_active (no_names origins new slots) chained.frames;
      threads = λ u h l. elim (start_back u h l) as (λ _. HasStack code origins blocks chained.sites u h) [
        | inl p ↦ subst (λ z. HasStack code origins blocks chained.sites z h) (sym p.0) (subst (HasStack code origins blocks chained.sites fresh) (sym p.1) started_stack)
        | inr q ↦ elim q as (λ _. HasStack code origins blocks chained.sites u h) [
          | inl p ↦ subst (λ z. HasStack code origins blocks chained.sites z h) (sym p.0) (subst (HasStack code origins blocks chained.sites t) (sym p.1) creator_stack)
          | inr k ↦
              let z = chained.threads u h k in
              has_stack_kept code chained.origins origins grown m.blocks blocks (rooted_of code m fit) chained.sites chained.sites (extends_same chained.sites) u h (keeps u (block_bound h.block)) z
              (keeps_start z.start)
        ]
      ];
      waiting = λ c y e w.
          let z = back c y e w in
          let l = as_waiting y.owner c z.0 z.1.0 z.1.1.0 z.1.1.1 in
          let ne : y.owner ≡ t → ⊥ = (λ q. not_running code m fit y.owner c z.0 z.1.0 z.1.1.0 z.1.1.1 (run ∙ ap (λ k. Some k) (sym q))) in
          let same = other_thread y.owner (within y.owner (thread_at m.threads y.owner) l) ne in
          chained.waiting c z.0 z.1.0 z.1.1.1 ∙ ap (λ (h : Thread). Some h.frame) (ap (thread_at m.threads) z.1.1.0 ∙ sym same);
      operations = λ k d lt.
          let o = slice_index_or m.operations k d in
          let f = (thread_at m.threads o.item).frame in
          subst (λ (h : Thread). AskedOnChain origins h.frame o.asked) (sym (operating_thread o.item (waits_there m.operations k d lt)))
          (asked_onto chained.origins origins f f (λ g c. chain_grown chained.origins origins grown f g c) o.asked (chained.operations k d lt));
    }

    counted_is : counted_in m.blocks m.current.block ≡ blocks
    counted_is = ap (counted_in m.blocks) is ∙ ap (λ o. with_block m.blocks b (one_more o)) at

    starts_chained : AreChained code (starts m t to store)
    starts_chained = rw counted_is started_chained

  pub async_chained : (slots to : ℕ) → slice_get code.instrs place ≡ Some (i.Async slots to) → (leads : Leads) → effect code place (i.Async slots to) s ≡ Some leads
      → Onward (AreChained code) (begin code bound m t (Some (i.Async slots to)))
  async_chained slots to here leads finds =
      let c = if_is (can_start s) (Some (Two (place + 1) (inner place slots s) to s)) leads finds in
      let p = and_parts (nat_eq (length s.operands) 0) (nat_lt 0 (length s.blocks)) c.0 in
      let some : 0 < length s.blocks = let q = p.1 in grind (arith, nat_tests) in
      let z = starting code bound m fit t run v slots to here leads finds in
      let w = z.there in
      trap_on (AreChained code) m (begun m.store (Some top) (replicate slots no_int)) (λ store. On (starts m t to store))
      (λ store e. let k = is_made m.store (Some top) (replicate slots no_int) store e in
      subst (λ (z : Store). AreChained code (starts m t to z)) k.is (starts_chained slots to here (finds ∙ sym c.1) some w.b w.is w.x w.at))
