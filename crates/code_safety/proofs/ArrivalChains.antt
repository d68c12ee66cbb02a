-- No reference dangles where an entry comes in: ints are set, and the thread whose operation has ended goes on with one more.
-- By the cases of `Comes` (Arriving). Frames, origins and blocks stay; the thread moves from those that wait to those that are ready, with
-- an int on top, which names nothing.
use Rattle.std.proofs.Common.{◌≡◌, ◌⊎◌, ◌+◌, ◌<◌, List, [], ◌∷◌, ◌++◌, length, Option, Some, None, Bool, true, false, refl, sym, ap, ◌∙◌, subst, inl, inr, arith}
use Rattle.std.specs.Prelude.{ℤ, All, nat_eq, if◌then◌else◌}
use Rattle.std.proofs.lemmas.List.{get_or-set_same, get_or-set_other}
use Rattle.std.proofs.lemmas.List.Elements.{All-weaker}
use Rattle.ac_base.specs.declared.entry.Entry.{Entry}
use Rattle.work_item.specs.declared.ids.Item.{Item}
use Rattle.work_item.specs.declared.ids.FrameId.{FrameId}
use Rattle.work_item.specs.declared.ids.BlockId.{BlockId}
use Rattle.work_item.specs.Store.{Store}
use Rattle.core_state.specs.Messages.{with_ints_at}
use Rattle.cancel_scope.specs.declared.operation.Operation.{Operation}
use Rattle.cancel_scope.specs.Outstanding.{as_begun, offered_as}
use Rattle.core_state.specs.Moves.{On}
use Rattle.core_state.specs.Shared.{Shared, with_entry}
use Rattle.core_state.specs.Arrivals as arrivals
use Rattle.work_item.specs.declared.cell.Cell.TheVariants as cell
use Rattle.core_state.specs.Arrivals.{ok, Arrival, goes_on_waiting, has_ended_as, comes_in, at_point}
use Rattle.core_state.specs.Requests.{value_of, with_answer}
use Rattle.stack_code.specs.Parts.{Parts}
use Rattle.code_meaning.specs.Machine.{Thread, Block, Flat, given, block_at, thread_at, nobody, told, arrived, dispatched, rests}
use Rattle.code_safety.specs.Fit.{life_at, one_at, occurs, items_of, IsFit}
use Rattle.code_safety.specs.Living.{LivesAs, as_running, as_ready, as_operating, as_waiting, HasFrame}
use Rattle.code_safety.specs.Chains.{AskedOnChain, HasStack, IsActive, AreChained}
use Rattle.code_safety.proofs.Lives.{one_same, one_other, same_item, occurs_append, living_within, going_is, going_lives}
use Rattle.code_safety.proofs.Waiting.{occurs_between, all_others, one_of_all, all_between}
use Rattle.code_safety.proofs.Plain.{Onward}
use Rattle.code_safety.proofs.Arriving.{Comes, offered, known, begun, answered, received, passed, comes_of}
use Rattle.code_safety.proofs.Removing.{same_or_other}
use Rattle.code_safety.proofs.LivingThreads.{not_going, not_both, operating_once}
use Rattle.code_safety.proofs.LinkedFrames.{SameFrames, same_frames, linked_same}
use Rattle.code_safety.proofs.Stacks.{stack_pushed}
use Rattle.code_safety.proofs.Transfers.{answer_frames, message_frames}

module _ (code : Parts) (m : Flat) (fit : IsFit code m) (chained : AreChained code m) (shared : Shared) where
  abbrev Asks : Operation → Type 0
  Asks o = AskedOnChain chained.origins (thread_at m.threads o.item).frame o.asked

  -- ---- an operation comes further: it is offered, or has begun

  module _ (front back : List Operation) (o : Operation) (is : m.operations ≡ front ++ o ∷ back) (p : Operation) (item : p.item ≡ o.item) (asks : p.asked ≡ o.asked) where
    abbrev changed : Flat
    changed = arrived m shared (goes_on_waiting m.store (front ++ p ∷ back))

    same_items : (u : Item) → occurs u.number (items_of m.operations) ≡ occurs u.number (items_of changed.operations)
    same_items u =
        ap (λ os. occurs u.number (items_of os)) is ∙ occurs_between u.number front back o
        ∙ ap (λ (z : Item). one_at u.number z + occurs u.number (items_of (front ++ back))) (sym item) ∙ sym (occurs_between u.number front back p)

    changed_back : (u : Item) (h : Thread) → LivesAs changed u h → LivesAs m u h
    changed_back _ _ (as_running u e) = as_running u e
    changed_back _ _ (as_ready u some) = as_ready u some
    changed_back _ _ (as_operating u some) = let e = same_items u in as_operating u (omega (arith, some, e))
    changed_back _ _ (as_waiting u c x here owner w) = as_waiting u c x here owner w

    changed_on : (u : Item) (h : Thread) → LivesAs m u h → LivesAs changed u h
    changed_on _ _ (as_running u e) = as_running u e
    changed_on _ _ (as_ready u some) = as_ready u some
    changed_on _ _ (as_operating u some) = let e = same_items u in as_operating u (omega (arith, some, e))
    changed_on _ _ (as_waiting u c x here owner w) = as_waiting u c x here owner w

    asks_too : Asks o → Asks p
    asks_too a = subst (λ (z : Item). AskedOnChain chained.origins (thread_at m.threads z).frame p.asked) (sym item)
        (subst (AskedOnChain chained.origins (thread_at m.threads o.item).frame) (sym asks) a)

    pub changed_chained : AreChained code changed
    changed_chained = record {
      origins = chained.origins;
      sites = chained.sites;
      long = chained.long;
      many = chained.many;
      older = chained.older;
      frames = linked_same chained.origins m changed (same_frames chained.origins m.store)
          (λ f a. record { item = a.item; thread = a.thread; living = changed_on a.item a.thread a.living; has = a.has }) chained.frames;
      threads = λ u h l. chained.threads u h (changed_back u h l);
      waiting = chained.waiting;
      operations = let all = subst (All Asks) is chained.operations in all_between Asks back p front (all_others Asks back o front all) (asks_too (one_of_all Asks back o front all));
    }

  -- ---- an operation goes on waiting

  abbrev passing : Flat
  passing = arrived m shared (goes_on_waiting m.store m.operations)

  passed_back : (u : Item) (h : Thread) → LivesAs passing u h → LivesAs m u h
  passed_back _ _ (as_running u e) = as_running u e
  passed_back _ _ (as_ready u some) = as_ready u some
  passed_back _ _ (as_operating u some) = as_operating u some
  passed_back _ _ (as_waiting u c x here owner w) = as_waiting u c x here owner w

  passed_on : (u : Item) (h : Thread) → LivesAs m u h → LivesAs passing u h
  passed_on _ _ (as_running u e) = as_running u e
  passed_on _ _ (as_ready u some) = as_ready u some
  passed_on _ _ (as_operating u some) = as_operating u some
  passed_on _ _ (as_waiting u c x here owner w) = as_waiting u c x here owner w

  passed_chained : AreChained code passing
  passed_chained = record {
    origins = chained.origins;
    sites = chained.sites;
    long = chained.long;
    many = chained.many;
    older = chained.older;
    frames = linked_same chained.origins m passing (same_frames chained.origins m.store)
        (λ f a. record { item = a.item; thread = a.thread; living = passed_on a.item a.thread a.living; has = a.has }) chained.frames;
    threads = λ u h l. chained.threads u h (passed_back u h l);
    waiting = chained.waiting;
    operations = chained.operations;
  }

  -- ---- an operation ends

  module _ (front back : List Operation) (o : Operation) (is : m.operations ≡ front ++ o ∷ back) (value : ℤ) (store : Store) (frames : SameFrames chained.origins m.store store) where
    abbrev woken : Item
    woken = o.item

    abbrev left : List Operation
    left = front ++ back

    abbrev now : Thread
    now = given (cell.Int value) (thread_at m.threads woken)

    abbrev ended : Flat
    ended = arrived m shared (has_ended_as value store left o)

    fewer : (u : Item) → occurs u.number (items_of m.operations) ≡ one_at u.number woken + occurs u.number (items_of left)
    fewer u = ap (λ os. occurs u.number (items_of os)) is ∙ occurs_between u.number front back o

    operated : 0 < occurs woken.number (items_of m.operations)
    operated = let e = fewer woken in let one : one_at woken.number woken ≡ 1 = one_same woken.number in omega (arith, e, one)

    not_again : (u : Item) → 0 < occurs u.number (items_of left) → u ≡ woken → ⊥
    not_again u some e =
        let k = subst (λ (z : Item). 0 < occurs z.number (items_of left)) e some in
        let f = fewer woken in
        let one : one_at woken.number woken ≡ 1 = one_same woken.number in
        let once = (operating_once code m fit woken operated).1.0 in
        omega (arith, k, f, one, once)

    not_ready : (u : Item) → 0 < occurs u.number m.ready → u ≡ woken → ⊥
    not_ready u some e = not_both code m fit woken (subst (λ (z : Item). 0 < occurs z.number m.ready) e some) operated

    not_waiting : (u : Item) (c : BlockId) (x : Block) → block_at m.blocks c ≡ Some x → x.owner ≡ u → x.waits ≡ true → u ≡ woken → ⊥
    not_waiting u c x here owner w e = not_going code m fit woken c x here (owner ∙ e) w (operating_once code m fit woken operated).0

    within : woken.number < length m.threads
    within =
        let go = (operating_once code m fit woken operated).0 in
        let w = living_within fit.lives woken (going_lives (life_at fit.lives woken).phase (going_is (life_at fit.lives woken).phase go)) in
        let k = fit.many in
        omega (arith, w, k)

    woken_thread : thread_at ended.threads woken ≡ now
    woken_thread = get_or-set_same m.threads woken.number now nobody within

    other_thread : (u : Item) → (u ≡ woken → ⊥) → thread_at ended.threads u ≡ thread_at m.threads u
    other_thread u ne = get_or-set_other m.threads woken.number u.number now nobody (λ e. ne (same_item u woken e))

    same_place : (u : Item) → (thread_at ended.threads u).frame ≡ (thread_at m.threads u).frame
    same_place u = elim (same_or_other u woken) as (λ _. (thread_at ended.threads u).frame ≡ (thread_at m.threads u).frame) [
      | inl e ↦ ap (λ z. (thread_at ended.threads z).frame) e ∙ ap (λ (h : Thread). h.frame) woken_thread ∙ ap (λ z. (thread_at m.threads z).frame) (sym e)
      | inr ne ↦ ap (λ (h : Thread). h.frame) (other_thread u ne)
    ]

    now_ready : (u : Item) → occurs u.number ended.ready ≡ occurs u.number m.ready + (one_at u.number woken + 0)
    now_ready u = occurs_append u.number m.ready (woken ∷ [])

    ended_back : (u : Item) (h : Thread) → LivesAs ended u h → ((u ≡ woken) × (h ≡ now)) ⊎ LivesAs m u h
    ended_back _ _ (as_running u e) = inr (as_running u e)
    ended_back _ _ (as_ready u some) = elim (same_or_other u woken) as (λ _. ((u ≡ woken) × (thread_at ended.threads u ≡ now)) ⊎ LivesAs m u (thread_at ended.threads u)) [
      | inl e ↦ inl (e, ap (thread_at ended.threads) e ∙ woken_thread)
      | inr ne ↦
          let k = now_ready u in
          let z : one_at u.number woken ≡ 0 = one_other u.number woken.number (λ e. ne (same_item u woken e)) in
          inr (subst (LivesAs m u) (sym (other_thread u ne)) (as_ready u (omega (arith, some, k, z))))
    ]
    ended_back _ _ (as_operating u some) =
        let k = fewer u in inr (subst (LivesAs m u) (sym (other_thread u (not_again u some))) (as_operating u (omega (arith, some, k))))
    ended_back _ _ (as_waiting u c x here owner w) = inr (subst (LivesAs m u) (sym (other_thread u (not_waiting u c x here owner w))) (as_waiting u c x here owner w))

    ended_on : (u : Item) (h : Thread) → LivesAs m u h → ((u ≡ woken) × (h ≡ thread_at m.threads woken)) ⊎ LivesAs ended u h
    ended_on _ _ (as_running u e) = inr (as_running u e)
    ended_on _ _ (as_ready u some) = let k = now_ready u in inr (subst (LivesAs ended u) (other_thread u (not_ready u some)) (as_ready u (omega (arith, some, k))))
    ended_on _ _ (as_operating u some) = elim (same_or_other u woken) as (λ _. ((u ≡ woken) × (thread_at m.threads u ≡ thread_at m.threads woken)) ⊎ LivesAs ended u (thread_at m.threads u)) [
      | inl e ↦ inl (e, ap (thread_at m.threads) e)
      | inr ne ↦
          let k = fewer u in
          let z : one_at u.number woken ≡ 0 = one_other u.number woken.number (λ e. ne (same_item u woken e)) in
          inr (subst (LivesAs ended u) (other_thread u ne) (as_operating u (omega (arith, some, k, z))))
    ]
    ended_on _ _ (as_waiting u c x here owner w) = inr (subst (LivesAs ended u) (other_thread u (not_waiting u c x here owner w)) (as_waiting u c x here owner w))

    woken_lives : LivesAs ended woken now
    woken_lives = let k = now_ready woken in let one : one_at woken.number woken ≡ 1 = one_same woken.number in
        subst (LivesAs ended woken) woken_thread (as_ready woken (omega (arith, k, one)))

    still_active : (f : FrameId) → IsActive m f → IsActive ended f
    still_active f a = elim (ended_on a.item a.thread a.living) as (λ _. IsActive ended f) [
      | inl p ↦ record { item = woken; thread = now; living = woken_lives; has = subst (λ (h : Thread). HasFrame h f) p.1 a.has }
      | inr l ↦ record { item = a.item; thread = a.thread; living = l; has = a.has }
    ]

    -- the value of the operation comes on top of its operands
    woken_stack : HasStack code chained.origins m.blocks chained.sites woken now
    woken_stack =
        let h = thread_at m.threads woken in
        let z = chained.threads woken h (as_operating woken operated) in
        record { start = z.start; stack = stack_pushed code chained.origins m.blocks chained.sites woken z.start (cell.Int value) h.place h.frame h.operands h.callers h.block tt z.stack }

    abbrev StillAsks : Operation → Type 0
    StillAsks p = AskedOnChain chained.origins (thread_at ended.threads p.item).frame p.asked

    still_asks : (p : Operation) → Asks p → StillAsks p
    still_asks p a = subst (λ f. AskedOnChain chained.origins f p.asked) (sym (same_place p.item)) a

    pub ended_chained : AreChained code ended
    ended_chained = record {
      origins = chained.origins;
      sites = chained.sites;
      long = chained.long ∙ sym frames.count;
      many = chained.many;
      older = chained.older;
      frames = linked_same chained.origins m ended frames still_active chained.frames;
      threads = λ u h l. elim (ended_back u h l) as (λ _. HasStack code chained.origins m.blocks chained.sites u h) [
        | inl p ↦ subst (λ z. HasStack code chained.origins m.blocks chained.sites z h) (sym p.0) (subst (HasStack code chained.origins m.blocks chained.sites woken) (sym p.1) woken_stack)
        | inr k ↦ chained.threads u h k
      ];
      waiting = λ c x here w. chained.waiting c x here w ∙ ap (λ z. Some z) (sym (same_place x.owner));
      operations = all_others StillAsks back o front (subst (All StillAsks) is (All-weaker Asks StillAsks still_asks m.operations chained.operations));
    }

  -- ---- any entry

  pub comes_chained : (x : Arrival) → Comes m.store m.operations x → AreChained code (arrived m shared x)
  comes_chained _ passed = passed_chained
  comes_chained _ (offered front back o number is test) = changed_chained front back o is (offered_as number o) refl refl
  comes_chained _ (begun front back o number is request under) = changed_chained front back o is (as_begun o) refl refl
  comes_chained _ (answered front back o answer is) =
      ended_chained front back o is (value_of o.asked answer) (with_answer m.store o.asked answer) (answer_frames chained.origins m.store o.asked answer)
  comes_chained _ (known front back o is plain) = ended_chained front back o is ok m.store (same_frames chained.origins m.store)
  comes_chained _ (received front back o place message is a) =
      ended_chained front back o is ok (with_ints_at m.store place message) (message_frames chained.origins m.store place message)

-- at a dispatch point, where the other move leads to such a state too
pub rests_chained : (code : Parts) (m : Flat) → IsFit code m → AreChained code m → Onward (AreChained code) (dispatched m m.ready) → Onward (AreChained code) (rests m)
rests_chained code m fit chained others = by m.shared.todo
  where
    comes : (shared : Shared) (o : Option Arrival) → ((x : Arrival) → o ≡ Some x → AreChained code (arrived m shared x))
        → Onward (AreChained code) (comes_in (told m.count) (λ x. On (arrived m shared x)) o)
    comes shared None h = tt
    comes shared (Some x) h = h x refl

    turn : (e : Entry) (es : List Entry) (b : Bool) → Onward (AreChained code)
        (if b then comes_in (told m.count) (λ x. On (arrived m (with_entry m.shared e es) x)) (arrivals.arrives m.shared.past m.store m.operations e.event) else dispatched m m.ready)
    turn e es true = comes (with_entry m.shared e es) (arrivals.arrives m.shared.past m.store m.operations e.event)
        (λ x h. comes_chained code m fit chained (with_entry m.shared e es) x (comes_of m.store m.operations x m.shared.past e.event h))
    turn e es false = others

    by : (todo : List Entry) → Onward (AreChained code) (at_point (told m.count) m.shared m.store m.operations (λ shared x. On (arrived m shared x)) (dispatched m m.ready) todo)
    by [] = others
    by (e ∷ es) = turn e es (nat_eq e.turn m.shared.turn)
