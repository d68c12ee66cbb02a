-- Which threads live after a move: those that lived before it, and one that it starts; one that it ends does not. So each that lives has its place in the table of threads, where the move
-- has given that one a place and has taken this one's away. For the part `places` of `IsSound`.
-- By the cases of an instruction: the running thread goes over to those that are ready, to the operations or to the owners that wait, or the other way round; a mark or a count changes no owner.
use Rattle.std.proofs.Common.{◌≡◌, ◌⊎◌, ℕ, zero, suc, ◌+◌, ◌<◌, List, [], ◌∷◌, ◌++◌, append-nil, length, take, drop, Option, Some, None, Bool, true, false, refl, sym, ap, ◌∙◌, subst, inl, inr, arith}
use Rattle.std.specs.Prelude.{ℤ, find, nat_eq, nat_le, nat_lt, ◌&&◌, ◌^◌, ◌-◌, replicate, reverse, slice_get, slice_index_or, slice_set, if◌then◌else◌, Result}
use Rattle.std.proofs.lemmas.List.{get_or-set_other}
use Rattle.ac_base.specs.declared.ends.CoreEnd.{CoreEnd}
use Rattle.ac_base.specs.declared.ends.EndWord.TheVariants as word
use Rattle.ac_base.specs.declared.ends.Trap.{Trap}
use Rattle.work_item.specs.declared.ids.BlockId.{BlockId}
use Rattle.work_item.specs.declared.ids.Item.{Item}
use Rattle.work_item.specs.declared.cell.Cell.{Cell}
use Rattle.work_item.specs.declared.cell.Cell.TheVariants as cell
use Rattle.work_item.specs.Store.{Store, cell_at, int_in, no_int, released}
use Rattle.cancel_scope.specs.declared.operation.Asked.{Asked}
use Rattle.cancel_scope.specs.declared.operation.Progress.{Progress}
use Rattle.cancel_scope.specs.declared.operation.Progress.TheVariants as progress
use Rattle.cancel_scope.specs.declared.operation.Operation.{Operation}
use Rattle.cancel_scope.specs.Outstanding.{as_begun, offered_as, started}
use Rattle.core_state.specs.Moves.{Move, On, Over}
use Rattle.core_state.specs.Arrivals.{Arrival, at_point, cancelled, goes_on_waiting, has_ended_as}
use Rattle.core_state.specs.Cancelling.{Fate, by_outcome, decided, is_to_try, tried, tries}
use Rattle.core_state.specs.Frames as frames
use Rattle.core_state.specs.Frames.{begun_with, block_in}
use Rattle.core_state.specs.Shared.{Shared, with_turn, seen}
use Rattle.stack_code.specs.declared.instr.Instr.{Instr}
use Rattle.stack_code.specs.declared.instr.Instr.TheVariants as i
use Rattle.stack_code.specs.declared.shape.Leads.{Leads}
use Rattle.stack_code.specs.declared.parts.Entered.{Entered}
use Rattle.stack_code.specs.Parts.{Parts}
use Rattle.stack_code.specs.Shapes.{effect}
use Rattle.stack_code.specs.Valid.{IsValid}
use Rattle.code_meaning.specs.Machine as flat
use Rattle.code_meaning.specs.Machine.{Caller, Thread, Block, Flat, FlatEnd, arrived, begin, block_at, calls, calls_off, counted, counted_in, counted_out, dies, dies_in, dispatched, exec}
use Rattle.code_meaning.specs.Machine.{exec_of, first_core, first_item, arrives, arrives_at, arrives_in, goes, is_inside, marked, nobody, on_many, on_three, on_top, one_more, operates, requests}
use Rattle.code_meaning.specs.Machine.{returns, starts, stops, thread_at, told, with_block, with_mark, with_store}
use Rattle.code_safety.specs.Fit.{IsFit, items_of, occurs, one_at}
use Rattle.code_safety.specs.Living.{LivesAs, as_running, as_ready, as_operating, as_waiting}
use Rattle.code_safety.proofs.Arriving.{Comes, offered, known, begun, answered, received, passed}
use Rattle.code_safety.proofs.Dying.{leaving}
use Rattle.code_safety.proofs.Finishing.{arrival}
use Rattle.code_safety.proofs.LivingThreads.{not_running, operating_once}
use Rattle.code_safety.proofs.Lives.{occurs_append, one_is, one_other, one_same, same_item}
use Rattle.code_safety.proofs.Own.{thread_of}
use Rattle.code_safety.proofs.Plain.{Next, Onward, asks_on, is_plain, on_each, onward, trap_on}
use Rattle.code_safety.proofs.Removing.{same_or_other}
use Rattle.code_safety.proofs.Turns.{running_once}
use Rattle.code_safety.proofs.Waiting.{found_at, occurs_between}
use Rattle.thread_table.specs.Table.{Table, HasPlace}
use Rattle.core_machine.specs.inner.Changes.{PlacesAfter}
use Rattle.core_machine.proofs.Places.{has_after}

-- ---- the table of blocks after one of them is set, or one more is there

set_at : (blocks : List (Option Block)) (b c : ℕ) (o : Option Block) (y : Block) → slice_index_or (slice_set blocks b o) c None ≡ Some y
    → ((o ≡ Some y) × (b ≡ c)) ⊎ (slice_index_or blocks c None ≡ Some y)
set_at [] b c o y e = inr e
set_at (x ∷ blocks) zero zero o y e = inl (e, refl)
set_at (x ∷ blocks) zero (suc c) o y e = inr e
set_at (x ∷ blocks) (suc b) zero o y e = inr e
set_at (x ∷ blocks) (suc b) (suc c) o y e = elim (set_at blocks b c o y e) as (λ _. ((o ≡ Some y) × (suc b ≡ suc c)) ⊎ (slice_index_or blocks c None ≡ Some y)) [
  | inl p ↦ inl (p.0, ap suc p.1)
  | inr p ↦ inr p
]

pushed_at : (blocks : List (Option Block)) (c : ℕ) (x y : Block) → slice_index_or (blocks ++ Some x ∷ []) c None ≡ Some y → (x ≡ y) ⊎ (slice_index_or blocks c None ≡ Some y)
pushed_at [] zero x y e = inl (let both : Some x ≡ Some y = e in cc)
pushed_at [] (suc c) x y e = let no : None ≡ Some y = e in absurd (cc)
pushed_at (b ∷ blocks) zero x y e = inr e
pushed_at (b ∷ blocks) (suc c) x y e = pushed_at blocks c x y e

-- ---- places

abbrev pub AllPlaced : Flat → Table → Type 0
AllPlaced m table = (u : Item) (h : Thread) → LivesAs m u h → HasPlace table u

-- ---- a move

module _ (m : Flat) where
  -- it lives, as it stands
  abbrev pub Lived : Item → Type 0
  Lived u = (h : Thread) × LivesAs m u h

  abbrev pub AllLived : Flat → Type 0
  AllLived n = (u : Item) (h : Thread) → LivesAs n u h → Lived u

  here : AllLived m
  here u h l = (h, l)

  runs : (u : Item) → m.running ≡ Some u → Lived u
  runs u run = (m.current, as_running u run)

  is_ready : (u : Item) → 0 < occurs u.number m.ready → Lived u
  is_ready u some = (thread_at m.threads u, as_ready u some)

  is_operating : (u : Item) → 0 < occurs u.number (items_of m.operations) → Lived u
  is_operating u some = (thread_at m.threads u, as_operating u some)

  is_waiting : (u : Item) (c : BlockId) (x : Block) → block_at m.blocks c ≡ Some x → x.owner ≡ u → x.waits ≡ true → Lived u
  is_waiting u c x there owner w = (thread_at m.threads u, as_waiting u c x there owner w)

  -- each of the four says of the other state who lives there
  lived_by : (n : Flat) → ((u : Item) → n.running ≡ Some u → Lived u) → ((u : Item) → 0 < occurs u.number n.ready → Lived u)
      → ((u : Item) → 0 < occurs u.number (items_of n.operations) → Lived u)
      → ((u : Item) (c : BlockId) (x : Block) → block_at n.blocks c ≡ Some x → x.owner ≡ u → x.waits ≡ true → Lived u) → AllLived n
  lived_by n a b c d _ _ (as_running u run) = a u run
  lived_by n a b c d _ _ (as_ready u some) = b u some
  lived_by n a b c d _ _ (as_operating u some) = c u some
  lived_by n a b c d _ _ (as_waiting u e x there owner w) = d u e x there owner w

  -- its own thread goes on
  own_lived : (shared : Shared) (store : Store) (current : Thread) (count : ℕ) → AllLived (record m { shared = shared; store = store; current = current; count = count })
  own_lived shared store current count = lived_by (record m { shared = shared; store = store; current = current; count = count }) runs is_ready is_operating is_waiting

  -- and blocks are others
  blocks_lived : (store : Store) (current : Thread) (blocks : List (Option Block)) (count : ℕ)
      → ((u : Item) (c : BlockId) (x : Block) → block_at blocks c ≡ Some x → x.owner ≡ u → x.waits ≡ true → Lived u)
      → AllLived (record m { store = store; current = current; blocks = blocks; count = count })
  blocks_lived store current blocks count w = lived_by (record m { store = store; current = current; blocks = blocks; count = count }) runs is_ready is_operating w

  -- one more is ready, or operates
  one_ready : (t : Item) → Lived t → (u : Item) → 0 < occurs u.number (t ∷ m.ready) → Lived u
  one_ready t it u some = elim (same_or_other u t) as (λ _. Lived u) [
    | inl e ↦ subst Lived (sym e) it
    | inr ne ↦ is_ready u (let z : one_at u.number t ≡ 0 = one_other u.number t.number (λ k. ne (same_item u t k)) in omega (arith, some, z))
  ]

  last_ready : (t : Item) → Lived t → (u : Item) → 0 < occurs u.number (m.ready ++ t ∷ []) → Lived u
  last_ready t it u some =
      let k : occurs u.number (m.ready ++ t ∷ []) ≡ occurs u.number m.ready + (one_at u.number t + 0) = occurs_append u.number m.ready (t ∷ []) in
      one_ready t it u (omega (arith, some, k))

  one_operates : (t : Item) → Lived t → (o : Operation) → o.item ≡ t → (u : Item) → 0 < occurs u.number (items_of (m.operations ++ o ∷ [])) → Lived u
  one_operates t it o own u some = elim (same_or_other u t) as (λ _. Lived u) [
    | inl e ↦ subst Lived (sym e) it
    | inr ne ↦
        let z : one_at u.number o.item ≡ 0 = one_other u.number o.item.number (λ k. ne (same_item u o.item k ∙ own)) in
        let k = occurs_between u.number m.operations [] o in
        let q : occurs u.number (items_of (m.operations ++ [])) ≡ occurs u.number (items_of m.operations) = ap (λ os. occurs u.number (items_of os)) (append-nil m.operations) in
        is_operating u (omega (arith, some, z, k, q))
  ]

  -- ---- what is common to several instructions

  top_lived : (go : Cell → List Cell → Move Flat FlatEnd) (ops : List Cell) → ((x : Cell) (below : List Cell) → Onward AllLived (go x below)) → Onward AllLived (on_top m go ops)
  top_lived go [] h = here
  top_lived go (x ∷ below) h = h x below

  three_lived : (go : Cell → Cell → Cell → List Cell → Move Flat FlatEnd) (ops : List Cell) → ((x y z : Cell) (below : List Cell) → Onward AllLived (go x y z below))
      → Onward AllLived (on_three m go ops)
  three_lived go [] h = here
  three_lived go (x ∷ []) h = here
  three_lived go (y ∷ x ∷ []) h = here
  three_lived go (z ∷ y ∷ x ∷ below) h = h x y z below

  many_lived : (count : ℕ) (go : List Cell → List Cell → Move Flat FlatEnd) (ops : List Cell) → ((args below : List Cell) → Onward AllLived (go args below)) → Onward AllLived (on_many m count go ops)
  many_lived count go ops h = by (nat_le count (length ops))
    where
      by : (b : Bool) → Onward AllLived (if b then go (reverse (take count ops)) (drop count ops) else On m)
      by true = h (reverse (take count ops)) (drop count ops)
      by false = here

  calls_lived : (f : Option Entered) (args below : List Cell) → Onward AllLived (calls m f args below)
  calls_lived None args below = here
  calls_lived (Some f) args below = trap_on AllLived m (begun_with m.store f.params f.words args) _ (λ store e. own_lived m.shared store _ (counted m.count))

  returns_lived : (value : Cell) (callers : List Caller) → Onward AllLived (returns m value callers)
  returns_lived value [] = tt
  returns_lived value (c ∷ callers) = own_lived m.shared (released m.store m.current.frame) _ (counted m.count)

  module _ (t : Item) (it : Lived t) where
    -- it stops
    stop_lived : (kept : Thread) (ready : List Item) (blocks : List (Option Block)) → ((u : Item) → 0 < occurs u.number ready → Lived u)
        → ((u : Item) (c : BlockId) (x : Block) → block_at blocks c ≡ Some x → x.owner ≡ u → x.waits ≡ true → Lived u) → AllLived (stops m t kept ready blocks)
    stop_lived kept ready blocks r w = lived_by (stops m t kept ready blocks) (λ u e. let no : None ≡ Some u = e in absurd (cc)) r is_operating w

    operates_lived : (link : ℕ) (a : Asked) (below : List Cell) → AllLived (operates m t link a below)
    operates_lived link a below =
        lived_by (operates m t link a below) (λ u e. let no : None ≡ Some u = e in absurd (cc)) is_ready (one_operates t it (started link a t) refl) is_waiting

    asks_lived : (link : ℕ) (a : Asked) (below : List Cell) → Onward AllLived (flat.asks m t link a below)
    asks_lived link a below = asks_on AllLived m t link a below (own_lived m.shared m.store _ (counted m.count)) (operates_lived link a below)

    requests_lived : (it : Result Asked Trap) (below : List Cell) → Onward AllLived (requests m t it below)
    requests_lived it below = trap_on AllLived m it (λ a. flat.asks m t m.shared.requests a below) (λ a e. asks_lived m.shared.requests a below)

  -- an owner of a block is that of the block before, where it waits as before
  same_owner : (b : BlockId) (x y z : Block) → block_at m.blocks b ≡ Some x → z ≡ y → z.owner ≡ x.owner → z.waits ≡ x.waits → (u : Item) → y.owner ≡ u → y.waits ≡ true → Lived u
  same_owner b x y z there is owner waits u own w =
      is_waiting u b x there (sym owner ∙ ap (λ (k : Block). k.owner) is ∙ own) (sym waits ∙ ap (λ (k : Block). k.waits) is ∙ w)

  -- ---- an operation that ends, or another entry

  ended_lived : (shared : Shared) (store : Store) (front back : List Operation) (o : Operation) → m.operations ≡ front ++ o ∷ back → (value : ℤ)
      → AllLived (arrived m shared (has_ended_as value store (front ++ back) o))
  ended_lived shared store front back o is value = lived_by (arrived m shared (has_ended_as value store (front ++ back) o)) runs (last_ready o.item its) fewer is_waiting
    where
      of_all : (u : Item) → occurs u.number (items_of m.operations) ≡ one_at u.number o.item + occurs u.number (items_of (front ++ back))
      of_all u = ap (λ os. occurs u.number (items_of os)) is ∙ occurs_between u.number front back o

      its : Lived o.item
      its = let k = of_all o.item in let one : one_at o.item.number o.item ≡ 1 = one_same o.item.number in is_operating o.item (omega (arith, k, one))

      fewer : (u : Item) → 0 < occurs u.number (items_of (front ++ back)) → Lived u
      fewer u some = let k = of_all u in is_operating u (omega (arith, k, some))

  waiting_lived : (shared : Shared) (store : Store) (os : List Operation) → ((u : ℕ) → occurs u (items_of os) ≡ occurs u (items_of m.operations))
      → AllLived (arrived m shared (goes_on_waiting store os))
  waiting_lived shared store os same =
      lived_by (arrived m shared (goes_on_waiting store os)) runs is_ready (λ u some. let k = same u.number in is_operating u (omega (arith, k, some))) is_waiting

  changed_lived : (shared : Shared) (store : Store) (front back : List Operation) (o p : Operation) → m.operations ≡ front ++ o ∷ back → p.item ≡ o.item
      → AllLived (arrived m shared (goes_on_waiting store (front ++ p ∷ back)))
  changed_lived shared store front back o p is own = waiting_lived shared store (front ++ p ∷ back) (λ u.
      let a = occurs_between u front back p in
      let b : occurs u (items_of m.operations) ≡ one_at u o.item + occurs u (items_of (front ++ back)) = ap (λ os. occurs u (items_of os)) is ∙ occurs_between u front back o in
      let k : one_at u p.item ≡ one_at u o.item = ap (one_at u) own in
      omega (arith, a, b, k))

  pub comes_lived : (shared : Shared) (x : Arrival) → Comes m.store m.operations x → AllLived (arrived m shared x)
  comes_lived shared _ (offered front back o number is out) = changed_lived shared m.store front back o (offered_as number o) is refl
  comes_lived shared _ (known front back o is other) = ended_lived shared m.store front back o is _
  comes_lived shared _ (begun front back o number is request under) = changed_lived shared m.store front back o (as_begun o) is refl
  comes_lived shared _ (answered front back o answer is) = ended_lived shared _ front back o is _
  comes_lived shared _ (received front back o place message is asks) = ended_lived shared _ front back o is _
  comes_lived shared _ passed = waiting_lived shared m.store m.operations (λ u. refl)

  -- ---- a mark

  marked_lived : (block : BlockId) → AllLived (marked m block)
  marked_lived block = lived_by (marked m block) runs is_ready is_operating waits
    where
      of_mark : (o : Option Block) → block_at m.blocks block ≡ o → (y : Block) → with_mark o ≡ Some y → (u : Item) → y.owner ≡ u → y.waits ≡ true → Lived u
      of_mark None there y e u own w = let no : None ≡ Some y = e in absurd (cc)
      of_mark (Some x) there y e u own w =
          let is : (record x { cancelled = true }) ≡ y = let both : Some (record x { cancelled = true }) ≡ Some y = e in cc in
          same_owner block x y (record x { cancelled = true }) there is refl refl u own w

      waits : (u : Item) (c : BlockId) (y : Block) → block_at (marked m block).blocks c ≡ Some y → y.owner ≡ u → y.waits ≡ true → Lived u
      waits u c y there own w = elim (set_at m.blocks block.number c.number (with_mark (block_at m.blocks block)) y there) as (λ _. Lived u) [
        | inl p ↦ of_mark (block_at m.blocks block) refl y p.0 u own w
        | inr p ↦ is_waiting u c y p own w
      ]

-- those that live in the last lived in the first
pub lived_on : (m k n : Flat) → AllLived m k → AllLived k n → AllLived m n
lived_on m k n first second u h l = let s = second u h l in first u s.0 s.1

-- ---- a cancel, an operation of which ends, or its request has begun

module _ (m : Flat) (block : BlockId) (shared : Shared) (store : Store) (front back : List Operation) (o : Operation) (is : m.operations ≡ front ++ o ∷ back) where
  abbrev now : Flat
  now = marked m block

  pub cancel_ended : (value : ℤ) → AllLived m (arrived now shared (has_ended_as value store (front ++ back) o))
  cancel_ended value =
      lived_on m now (arrived now shared (has_ended_as value store (front ++ back) o)) (marked_lived m block) (ended_lived now shared store front back o is value)

  pub cancel_begun : AllLived m (arrived now shared (goes_on_waiting store (front ++ as_begun o ∷ back)))
  cancel_begun = lived_on m now (arrived now shared (goes_on_waiting store (front ++ as_begun o ∷ back))) (marked_lived m block)
      (changed_lived now shared store front back o (as_begun o) is refl)

module _ (m : Flat) (last : m.shared.todo ≡ []) (block : BlockId) where
  cancel_lived : Onward (AllLived m) (calls_off m block)
  cancel_lived = go (find test m.operations) refl
    where
      tell : Option CoreEnd → FlatEnd
      tell = told (counted m.count)

      test : Operation → Bool
      test = is_to_try (is_inside m block)

      ended : Operation → Shared → Fate → Move Flat FlatEnd
      ended o shared it = On (arrived (marked m block) shared (by_outcome it m.store test m.operations o))

      by : (o : Operation) → find test m.operations ≡ Some o → (p : Progress) → Onward (AllLived m) (tried tell m.shared m.store.globals m.operations o.link p (ended o))
      by o e progress.Waiting =
          let f = found_at test m.operations o e in
          subst (λ os. AllLived m (arrived (marked m block) m.shared (has_ended_as cancelled m.store os o))) (sym f.without)
          (cancel_ended m block m.shared m.store f.front f.back o f.is cancelled)
      by o e (progress.Offered number) =
          subst (λ todo. Onward (AllLived m) (decided tell m.shared m.store.globals m.operations o.link number (ended o) todo)) (sym last) tt
      by o e (progress.Started number) = tt

      go : (r : Option Operation) → find test m.operations ≡ r
          → Onward (AllLived m) (tries tell m.shared m.store m.operations test (λ shared x. On (arrived (marked m block) shared x)) (goes (marked m block) m.current.operands) r)
      go None e = lived_on m (marked m block) (record (marked m block) { current = flat.at m.current (m.current.place + 1) m.current.operands; count = counted m.count })
          (marked_lived m block) (own_lived (marked m block) m.shared m.store _ (counted m.count))
      go (Some o) e = by o e o.progress

-- ---- one instruction of a fit state

module _ (code : Parts) (bound : ℕ) (m : Flat) (fit : IsFit code m) (v : IsValid code) (last : m.shared.todo ≡ []) (t : Item) (run : m.running ≡ Some t) where
  it : Lived m t
  it = runs m t run

  abbrev Leading : Instr → Leads → Type 0
  Leading instr leads = effect code m.current.place instr (thread_of code m fit t run).shape ≡ Some leads

  plain_lived : (instr : Instr) (leads : Leads) → slice_get code.instrs m.current.place ≡ Some instr → Leading instr leads → is_plain instr ≡ true
      → Onward (AllLived m) (begin code bound m t (Some instr))
  plain_lived instr leads there e p =
      let h = thread_of code m fit t run in
      on_each (Next code bound m fit.births h.shape instr) (AllLived m) (begin code bound m t (Some instr))
      (λ n k. subst (AllLived m) (sym k.others) (own_lived m n.shared n.store _ n.count))
      (onward code bound m fit.births t h.shape v.one_use fit.store h.top t instr leads there e p)

  enter_lived : (slot : ℕ) → Onward (AllLived m) (begin code bound m t (Some (i.Enter slot)))
  enter_lived slot = blocks_lived m _ _ (m.blocks ++ Some entered ∷ []) (counted m.count) waits
    where
      entered : Block
      entered = record { parent = m.current.block; owner = t; count = 0; waits = false; cancelled = false }

      waits : (u : Item) (c : BlockId) (y : Block) → block_at (m.blocks ++ Some entered ∷ []) c ≡ Some y → y.owner ≡ u → y.waits ≡ true → Lived m u
      waits u c y there own w = elim (pushed_at m.blocks c.number entered y there) as (λ _. Lived m u) [
        | inl e ↦ let no : false ≡ true = ap (λ (k : Block). k.waits) e ∙ w in absurd (cc)
        | inr p ↦ is_waiting m u c y p own w
      ]

  -- ---- it ends

  abbrev gone : Flat
  gone = with_store m (released m.store m.current.frame)

  -- it lived before, and is not the one that ends
  abbrev Other : Item → Type 0
  Other u = Lived m u × (u ≡ t → ⊥)

  abbrev AllOther : Flat → Type 0
  AllOther n = (u : Item) (h : Thread) → LivesAs n u h → Other u

  others_ready : (u : Item) → 0 < occurs u.number m.ready → Other u
  others_ready u some = (
    is_ready m u some,
    λ q. let k = ap (λ (z : Item). occurs z.number m.ready) q in let r = running_once code m fit t run in omega (arith, some, k, r),
  )

  others_operate : (u : Item) → 0 < occurs u.number (items_of m.operations) → Other u
  others_operate u some = (is_operating m u some, λ q. (operating_once code m fit u some).1.1 (run ∙ ap (λ z. Some z) (sym q)))

  others_wait : (u : Item) (c : BlockId) (y : Block) → block_at m.blocks c ≡ Some y → y.owner ≡ u → y.waits ≡ true → Other u
  others_wait u c y there own w = (is_waiting m u c y there own w, λ q. not_running code m fit t c y there (own ∙ q) w run)

  others_by : (ready : List Item) (blocks : List (Option Block)) → ((u : Item) → 0 < occurs u.number ready → Other u)
      → ((u : Item) (c : BlockId) (x : Block) → block_at blocks c ≡ Some x → x.owner ≡ u → x.waits ≡ true → Other u) → AllOther (stops gone t nobody ready blocks)
  others_by ready blocks r w _ _ (as_running u q) = let no : None ≡ Some u = q in absurd (cc)
  others_by ready blocks r w _ _ (as_ready u some) = r u some
  others_by ready blocks r w _ _ (as_operating u some) = others_operate u some
  others_by ready blocks r w _ _ (as_waiting u c x there own waits) = w u c x there own waits

  -- ---- its block

  module _ (b : BlockId) (x : Block) (is : m.current.block ≡ Some b) (there : block_at m.blocks b ≡ Some x) where
    -- it arrives at the finish of its own block
    arrives_lived : x.owner ≡ t → Onward (AllLived m) (arrives m t m.current.block)
    arrives_lived own = subst (λ o. Onward (AllLived m) (arrives m t o)) (sym is) (subst (λ o. Onward (AllLived m) (arrives_in m t b o)) (sym there) (by (nat_eq x.count 0)))
      where
        waiting : Block
        waiting = record x { waits = true }

        waits : (u : Item) (c : BlockId) (y : Block) → block_at (with_block m.blocks b (Some waiting)) c ≡ Some y → y.owner ≡ u → y.waits ≡ true → Lived m u
        waits u c y at owner w = elim (set_at m.blocks b.number c.number (Some waiting) y at) as (λ _. Lived m u) [
          | inl p ↦
              let same : waiting ≡ y = let both : Some waiting ≡ Some y = p.0 in cc in
              subst (Lived m) (sym own ∙ ap (λ (k : Block). k.owner) same ∙ owner) it
          | inr p ↦ is_waiting m u c y p owner w
        ]

        by : (r : Bool) → Onward (AllLived m) (arrives_at r m t b x)
        by true = blocks_lived m m.store _ (with_block m.blocks b None) (counted m.count) (λ u c y at owner w. elim (set_at m.blocks b.number c.number None y at) as (λ _. Lived m u) [
          | inl p ↦ let no : None ≡ Some y = p.0 in absurd (cc)
          | inr p ↦ is_waiting m u c y p owner w
        ])
        by false = stop_lived m t it _ m.ready (with_block m.blocks b (Some waiting)) (is_ready m) waits

    -- it ends, and its block is the one in which it was started
    end_others : AllOther (dies gone t m.current.block)
    end_others = subst (λ o. AllOther (dies gone t o)) (sym is) (subst (λ o. AllOther (dies_in gone t b o)) (sym there) (by (nat_eq x.count 1) x.waits refl))
      where
        less : Block
        less = record x { count = x.count - 1 }

        woken : x.waits ≡ true → (u : Item) → 0 < occurs u.number (x.owner ∷ m.ready) → Other u
        woken w u some = elim (same_or_other u x.owner) as (λ _. Other u) [
          | inl q ↦ subst Other (sym q) (others_wait x.owner b x there refl w)
          | inr ne ↦ others_ready u (let z : one_at u.number x.owner ≡ 0 = one_other u.number x.owner.number (λ k. ne (same_item u x.owner k)) in omega (arith, some, z))
        ]

        lives_on : AllOther (counted_out false gone t b x)
        lives_on = others_by m.ready (with_block m.blocks b (Some less)) others_ready (λ u c y at owner w. elim (set_at m.blocks b.number c.number (Some less) y at) as (λ _. Other u) [
          | inl p ↦
              let same : less ≡ y = let both : Some less ≡ Some y = p.0 in cc in
              others_wait u b x there (ap (λ (k : Block). k.owner) same ∙ owner) (ap (λ (k : Block). k.waits) same ∙ w)
          | inr p ↦ others_wait u c y p owner w
        ])

        by : (p q : Bool) → x.waits ≡ q → AllOther (counted_out (p && q) gone t b x)
        by true true w = others_by (x.owner ∷ m.ready) (with_block m.blocks b None) (woken w) (λ u c y at owner waits. elim (set_at m.blocks b.number c.number None y at) as (λ _. Other u) [
          | inl p ↦ let no : None ≡ Some y = p.0 in absurd (cc)
          | inr p ↦ others_wait u c y p owner waits
        ])
        by true false w = lives_on
        by false q w = lives_on

  -- ---- a start

  abbrev born : Item
  born = record { number = length m.threads }

  starts_lived : (to : ℕ) (store : Store) (u : Item) (h : Thread) → LivesAs (starts m t to store) u h → (u ≡ born) ⊎ Lived m u
  starts_lived to store _ _ (as_running u q) = inl (let both : Some born ≡ Some u = q in cc)
  starts_lived to store _ _ (as_ready u some) = inr (one_ready m t it u some)
  starts_lived to store _ _ (as_operating u some) = inr (is_operating m u some)
  starts_lived to store _ _ (as_waiting u c y there own w) = inr (by m.current.block there)
    where
      more : (b : BlockId) (o : Option Block) → block_at m.blocks b ≡ o → one_more o ≡ Some y → Lived m u
      more b None at e = let no : None ≡ Some y = e in absurd (cc)
      more b (Some x) at e =
          let is : (record x { count = x.count + 1 }) ≡ y = let both : Some (record x { count = x.count + 1 }) ≡ Some y = e in cc in
          same_owner m b x y (record x { count = x.count + 1 }) at is refl refl u own w

      by : (o : Option BlockId) → block_at (counted_in m.blocks o) c ≡ Some y → Lived m u
      by None at = is_waiting m u c y at own w
      by (Some b) at = elim (set_at m.blocks b.number c.number (one_more (block_at m.blocks b)) y at) as (λ _. Lived m u) [
        | inl p ↦ more b (block_at m.blocks b) refl p.0
        | inr p ↦ is_waiting m u c y p own w
      ]

  -- ---- and the table

  module _ (before after : Table) (own : before.threads ≡ m.threads) (places : AllPlaced m before) where
    abbrev Placed : Flat → Type 0
    Placed n = AllPlaced n after

    kept : after.lives ≡ before.lives → (x : Move Flat FlatEnd) → Onward (AllLived m) x → Onward Placed x
    kept same x = on_each (AllLived m) Placed x
        (λ n all u h l. let k = all u h l in subst (λ (lives : List Bool). slice_index_or lives u.number false ≡ true) (sym same) (places u k.0 k.1))

    start_placed : (slots to : ℕ) → PlacesAfter (i.Async slots to) t before after → Onward Placed (begin code bound m t (Some (i.Async slots to)))
    start_placed slots to given = trap_on Placed m (frames.begun m.store (Some m.current.frame) (replicate slots no_int)) (λ store. On (starts m t to store)) (λ store e u h l.
        elim (starts_lived to store u h l) as (λ _. HasPlace after u) [
          | inl q ↦ subst (HasPlace after) (sym q) (subst (λ threads. HasPlace after (record { number = length threads })) own given.1)
          | inr k ↦ subst (λ (lives : List Bool). slice_index_or lives u.number false ≡ true) (sym given.0) (has_after before.lives u.number true (places u k.0 k.1))
        ])

    end_placed : (leads : Leads) → Leading i.End leads → after.lives ≡ slice_set before.lives t.number false → Onward Placed (begin code bound m t (Some i.End))
    end_placed leads e taken u h l =
        let a = leaving code bound m fit t run leads e in
        let k = end_others a.b a.x a.block a.here u h l in
        subst (λ (lives : List Bool). slice_index_or lives u.number false ≡ true) (sym taken)
        (get_or-set_other before.lives t.number u.number false false (λ q. k.1 (same_item u t q)) ∙ places u k.0.0 k.0.1)

    pub placed : (instr : Instr) (leads : Leads) → slice_get code.instrs m.current.place ≡ Some instr → Leading instr leads → PlacesAfter instr t before after
        → Onward Placed (begin code bound m t (Some instr))
    placed (i.Async slots to) leads there e given = start_placed slots to given
    placed i.End leads there e taken = end_placed leads e taken
    placed (i.Call function count) leads there e same = kept same (begin code bound m t (Some (i.Call function count)))
        (many_lived m count _ m.current.operands (λ args below. calls_lived m (slice_get code.functions function) args below))
    placed i.Ret leads there e same = kept same (begin code bound m t (Some i.Ret))
        (top_lived m _ m.current.operands (λ x below. returns_lived m (cell.Int (int_in x)) m.current.callers))
    placed (i.Enter slot) leads there e same = kept same (begin code bound m t (Some (i.Enter slot))) (enter_lived slot)
    placed (i.Finish slot) leads there e same =
        (let a = (arrival code bound m fit t run slot there leads e).innermost in kept same (begin code bound m t (Some (i.Finish slot))) (arrives_lived a.b a.x a.is a.here a.owner))
    placed (i.Cancel level slot) leads there e same = kept same (begin code bound m t (Some (i.Cancel level slot)))
        (cancel_lived m last (block_in (cell_at m.store m.current.frame level slot)))
    placed i.Yield leads there e same = kept same (begin code bound m t (Some i.Yield)) (stop_lived m t it _ (m.ready ++ t ∷ []) m.blocks (last_ready m t it) (is_waiting m))
    placed (i.Send channel) leads there e same = kept same (begin code bound m t (Some (i.Send channel)))
        (top_lived m _ m.current.operands (λ x below. asks_lived m t it channel _ below))
    placed (i.Recv channel) leads there e same = kept same (begin code bound m t (Some (i.Recv channel)))
        (top_lived m _ m.current.operands (λ x below. asks_lived m t it channel _ below))
    placed (i.Read file) leads there e same = kept same (begin code bound m t (Some (i.Read file)))
        (three_lived m _ m.current.operands (λ x y z below. requests_lived m t it _ below))
    placed (i.Write file) leads there e same = kept same (begin code bound m t (Some (i.Write file)))
        (three_lived m _ m.current.operands (λ x y z below. requests_lived m t it _ below))
    placed instr leads there e same = kept same (begin code bound m t (Some instr)) (plain_lived instr leads there e refl)

-- ---- a dispatch, with no entry to come

module _ (code : Parts) (bound : ℕ) (m : Flat) (last : m.shared.todo ≡ []) (idle : m.running ≡ None) where
  next_lived : (t : Item) (ready : List Item) → m.ready ≡ t ∷ ready → Onward (AllLived m) (dispatched m (t ∷ ready))
  next_lived t ready is = by (nat_lt m.shared.turn (2 ^ 64 - 1)) (told m.count (seen word.OutOfSteps false m.store.globals m.operations m.shared))
    where
      was : (u : ℕ) → occurs u m.ready ≡ one_at u t + occurs u ready
      was u = ap (occurs u) is

      by : (b : Bool) (end : FlatEnd) → Onward (AllLived m) (if b then On
          (record m { shared = with_turn m.shared; running = Some t; current = thread_at m.threads t; ready = ready; threads = slice_set m.threads t.number nobody }) else Over end)
      by true end = lived_by m
          (record m { shared = with_turn m.shared; running = Some t; current = thread_at m.threads t; ready = ready; threads = slice_set m.threads t.number nobody })
          (λ u e. let same : t ≡ u = (let both : Some t ≡ Some u = e in cc) in
          subst (Lived m) same (is_ready m t (let k = was t.number in let one : one_at t.number t ≡ 1 = one_same t.number in omega (arith, k, one))))
          (λ u some. is_ready m u (let k = was u.number in omega (arith, k, some))) (is_operating m) (is_waiting m)
      by false end = tt

  dispatch_lived : (ready : List Item) → m.ready ≡ ready → Onward (AllLived m) (dispatched m ready)
  dispatch_lived [] is = tt
  dispatch_lived (t ∷ ready) is = next_lived t ready is

  pub rest_lived : Onward (AllLived m) (exec code bound m)
  rest_lived = subst (λ o. Onward (AllLived m) (exec_of code bound m o)) (sym idle)
      (subst (λ todo. Onward (AllLived m) (at_point (told m.count) m.shared m.store m.operations (λ shared x. On (arrived m shared x)) (dispatched m m.ready) todo)) (sym last)
      (dispatch_lived m.ready refl))

-- ---- the beginning

pub first_placed : (table : Table) (function : Entered) (shared : Shared) (store : Store) → table.lives ≡ true ∷ [] → AllPlaced (first_core function shared store) table
first_placed table function shared store lives _ _ (as_running u e) = let no : None ≡ Some u = e in absurd (cc)
first_placed table function shared store lives _ _ (as_ready u some) =
    let zero_is : u.number ≡ 0 = one_is u.number 0 (let k : 0 < one_at u.number first_item + 0 = some in omega (arith, k)) in
    ap (λ ls. slice_index_or ls u.number false) lives ∙ ap (λ n. slice_index_or (true ∷ []) n false) zero_is
first_placed table function shared store lives _ _ (as_operating u some) = absurd (omega (arith, some))
first_placed table function shared store lives _ _ (as_waiting u c x there own w) = let no : None ≡ Some x = there in absurd (cc)
