-- No reference dangles where a thread starts an operation: what it receives into was among the operands.
-- So it is on the chain of the thread's frame, and lives as long as the thread waits (StopChains).
use Rattle.core_state.specs.Messages.{message_in}
use Rattle.std.proofs.Common.{◌≡◌, ℕ, ◌+◌, ◌<◌, List, [], ◌∷◌, ◌++◌, Some, refl, sym, ap, ◌∙◌, subst, inl, arith}
use Rattle.std.specs.Prelude.{All, slice_get}
use Rattle.std.proofs.lemmas.List.{append-nil}
use Rattle.std.proofs.lemmas.List.Elements.{All-push}
use Rattle.work_item.specs.declared.ids.Item.{Item}
use Rattle.work_item.specs.declared.ids.FrameId.{FrameId}
use Rattle.work_item.specs.declared.cell.Cell.{Cell}
use Rattle.work_item.specs.Store.{place_in}
use Rattle.cancel_scope.specs.declared.operation.Asked.{Asked}
use Rattle.cancel_scope.specs.declared.operation.Asked.TheVariants as asked
use Rattle.cancel_scope.specs.declared.operation.Operation.{Operation}
use Rattle.cancel_scope.specs.Outstanding.{started}
use Rattle.core_state.specs.Requests.{bytes_at, first_of}
use Rattle.stack_code.specs.declared.instr.Instr.{Instr}
use Rattle.stack_code.specs.declared.instr.Instr.TheVariants as i
use Rattle.stack_code.specs.declared.shape.CellKind.{CellKind}
use Rattle.stack_code.specs.declared.shape.CellKind.TheVariants as kind
use Rattle.stack_code.specs.declared.shape.Shape.{Shape}
use Rattle.stack_code.specs.declared.shape.Want.TheVariants as want
use Rattle.stack_code.specs.declared.shape.Leads.{Leads}
use Rattle.stack_code.specs.Parts.{Parts}
use Rattle.stack_code.specs.Shapes.{effect, pushed, with_operands, width_of}
use Rattle.stack_code.specs.Valid as valid
use Rattle.stack_code.specs.Valid.{Reaches, IsValid}
use Rattle.code_meaning.specs.Machine.{Thread, Flat, asks, begin, at, counted, operates, thread_at}
use Rattle.code_safety.specs.Fit.{IsThread, life_at, one_at, occurs, items_of, IsFit}
use Rattle.code_safety.specs.Living.{LivesAs, as_running, as_ready, as_operating, HasFrame}
use Rattle.code_safety.specs.Chains.{AllName, AskedOnChain, HasStack, IsActive, AreChained}
use Rattle.code_safety.proofs.Lives.{one_same, one_other, same_item}
use Rattle.code_safety.proofs.Waiting.{occurs_between}
use Rattle.code_safety.proofs.Own.{thread_of, all_kept, block_bound}
use Rattle.code_safety.proofs.Plain.{Onward, top_on, asks_on}
use Rattle.code_safety.proofs.Operating.{Operates, operating, transferring, transfer_on, given_value, value_next}
use Rattle.code_safety.proofs.Chained.{place_on}
use Rattle.code_safety.proofs.LivingThreads.{not_running}
use Rattle.code_safety.proofs.LinkedFrames.{same_frames, linked_same}
use Rattle.code_safety.proofs.Stacks.{stack_at, top_names}
use Rattle.code_safety.proofs.OwnChains.{blocks_same, starts_on, plain_next}
use Rattle.code_safety.proofs.StopChains as stop_chains
use Rattle.code_safety.proofs.StopChains.{KeepsLiving, stop_chained, stop_active, still_asks, own_thread}

module _ (code : Parts) (bound : ℕ) (m : Flat) (v : IsValid code) (fit : IsFit code m) (chained : AreChained code m) (t : Item) (run : m.running ≡ Some t) where
  abbrev own : IsThread code fit.births m.store m.blocks t (life_at fit.lives t).start m.current
  own = thread_of code m fit t run

  abbrev s : Shape
  s = own.shape

  abbrev place : ℕ
  place = m.current.place

  abbrev top : FrameId
  top = m.current.frame

  abbrev mine : HasStack code chained.origins m.blocks chained.sites t m.current
  mine = chained.threads t m.current (as_running t run)

  names_here : AllName chained.origins top m.current.operands
  names_here = top_names code chained.origins m.blocks chained.sites t mine.start place top m.current.operands m.current.callers m.current.block mine.stack

  module _ (link : ℕ) (what : Asked) (asks : AskedOnChain chained.origins top what) (below : List Cell) (names : AllName chained.origins top below) (kinds : List CellKind)
      (reached : Reaches code (place + 1) (pushed kind.Int (with_operands s kinds))) where
    abbrev new : Operation
    new = started link what t

    abbrev operations : List Operation
    operations = m.operations ++ new ∷ []

    abbrev kept : Thread
    kept = at m.current (place + 1) below

    abbrev next : Flat
    next = stop_chains.next code m fit chained t run m.store operations kept m.ready m.blocks (counted m.count)

    one_more : (u : Item) → occurs u.number (items_of operations) ≡ one_at u.number t + occurs u.number (items_of m.operations)
    one_more u = occurs_between u.number m.operations [] new ∙ ap (λ os. one_at u.number t + occurs u.number (items_of os)) (append-nil m.operations)

    living : KeepsLiving code m fit chained t run m.store operations kept m.ready m.blocks (counted m.count)
    living = record {
      ready_back = λ u ne some. as_ready u some;
      operates_back = λ u ne some.
          let e = one_more u in
          let z : one_at u.number t ≡ 0 = one_other u.number t.number (λ k. ne (same_item u t k)) in
          omega (arith, some, e, z);
      waits_back = λ u c ne w. w;
      ready_on = λ u ne some. some;
      operates_on = λ u ne some. let e = one_more u in omega (arith, some, e);
      waits_on = λ u c ne w. inl w;
    }

    own_operates : 0 < occurs t.number (items_of operations)
    own_operates = let e = one_more t in let one : one_at t.number t ≡ 1 = one_same t.number in omega (arith, e, one)

    kept_there : thread_at next.threads t ≡ kept
    kept_there = own_thread code m fit chained t run m.store operations kept m.ready m.blocks (counted m.count)

    now_active : (f : FrameId) → HasFrame m.current f → IsActive next f
    now_active f has = record { item = t; thread = kept; living = subst (LivesAs next t) kept_there (as_operating t own_operates); has = has }

    stack : HasStack code chained.origins m.blocks chained.sites t kept
    stack = record {
      start = mine.start;
      stack = stack_at code chained.origins m.blocks chained.sites t mine.start place top m.current.operands m.current.callers m.current.block (place + 1) below
          (pushed kind.Int (with_operands s kinds)) reached names mine.stack (blocks_same code bound m v fit chained t run (pushed kind.Int (with_operands s kinds)) refl);
    }

    all_ask : All (λ (o : Operation). AskedOnChain chained.origins (thread_at next.threads o.item).frame o.asked) operations
    all_ask = All-push (λ (o : Operation). AskedOnChain chained.origins (thread_at next.threads o.item).frame o.asked) m.operations new
        (still_asks code m fit chained t run m.store operations kept m.ready m.blocks (counted m.count))
        (subst (λ (h : Thread). AskedOnChain chained.origins h.frame what) (sym kept_there) asks)

    operates_chained : AreChained code (operates m t link what below)
    operates_chained = stop_chained code m fit chained t run m.store operations kept m.ready m.blocks (counted m.count) living chained.long chained.many
        (linked_same chained.origins m next (same_frames chained.origins m.store)
        (λ f a. stop_active code m fit chained t run m.store operations kept m.ready m.blocks (counted m.count) living f (now_active f) a) chained.frames) (λ l. stack) all_ask
        (λ c w. absurd (not_running code m fit t c w.block w.here w.owner w.waits run)) (λ u h l ne. all_kept m.blocks u (block_bound h.block))
        (λ u h l ne. starts_on m.blocks (life_at fit.lives u).start)

  -- its value is there, or its thread waits
  started_on : (instr : Instr) (z : Operates code bound m fit t run instr) → (instr ≡ i.Step → ⊥) → (link : ℕ) (what : Asked) → AskedOnChain chained.origins top what
      → AllName chained.origins top z.below → Onward (AreChained code) (asks m t link what z.below)
  started_on instr z other link what asks names = asks_on (AreChained code) m t link what z.below
      (plain_next code bound m v fit chained t run instr (given_value code bound m fit t run instr z other) (value_next code bound m fit t run instr z other)
      (record { operands = (tt, names); store = same_frames chained.origins m.store }))
      (operates_chained link what asks z.below names z.kinds (valid.goes place s (place + 1) (pushed kind.Int (with_operands s z.kinds)) own.top.reached z.goes))

  -- what is asked for is read off the topmost operand
  pub send_chained : (channel : ℕ) (leads : Leads) → slice_get code.instrs place ≡ Some (i.Send channel) → effect code place (i.Send channel) s ≡ Some leads
      → Onward (AreChained code) (begin code bound m t (Some (i.Send channel)))
  send_chained channel leads here finds =
      let z = operating code bound m fit t run (want.Message (width_of code channel)) (i.Send channel) channel leads here refl finds in
      let names = subst (AllName chained.origins top) z.is names_here in
      top_on (AreChained code) m _ m.current.operands z.top z.on.below z.is (started_on (i.Send channel) z.on (λ e. cc) channel (asked.Send (message_in m.store z.top)) tt names.1)

  pub receive_chained : (channel : ℕ) (leads : Leads) → slice_get code.instrs place ≡ Some (i.Recv channel) → effect code place (i.Recv channel) s ≡ Some leads
      → Onward (AreChained code) (begin code bound m t (Some (i.Recv channel)))
  receive_chained channel leads here finds =
      let z = operating code bound m fit t run (want.Elements (width_of code channel)) (i.Recv channel) channel leads here refl finds in
      let names = subst (AllName chained.origins top) z.is names_here in
      top_on (AreChained code) m _ m.current.operands z.top z.on.below z.is
      (started_on (i.Recv channel) z.on (λ e. cc) channel (asked.Recv (place_in z.top)) (place_on chained.origins top z.top names.0) names.1)

  -- and so is the array of a request
  pub read_chained : (file : ℕ) (leads : Leads) → slice_get code.instrs place ≡ Some (i.Read file) → effect code place (i.Read file) s ≡ Some leads
      → Onward (AreChained code) (begin code bound m t (Some (i.Read file)))
  read_chained file leads here finds =
      let z = transferring code bound m fit t run (i.Read file) file leads here refl finds in
      let names = subst (AllName chained.origins top) z.is names_here in
      transfer_on code bound m fit t run (AreChained code) (i.Read file) z (λ at into. asked.Read file at into)
      (λ at len le. started_on (i.Read file) z.on (λ e. cc) m.shared.requests (asked.Read file at (first_of (place_in z.array) len))
      (place_on chained.origins top z.array names.0) names.1.1.1)

  pub write_chained : (file : ℕ) (leads : Leads) → slice_get code.instrs place ≡ Some (i.Write file) → effect code place (i.Write file) s ≡ Some leads
      → Onward (AreChained code) (begin code bound m t (Some (i.Write file)))
  write_chained file leads here finds =
      let z = transferring code bound m fit t run (i.Write file) file leads here refl finds in
      let names = subst (AllName chained.origins top) z.is names_here in
      transfer_on code bound m fit t run (AreChained code) (i.Write file) z (λ at from. asked.Write file at (bytes_at m.store from))
      (λ at len le. started_on (i.Write file) z.on (λ e. cc) m.shared.requests (asked.Write file at (bytes_at m.store (first_of (place_in z.array) len))) tt names.1.1.1)
