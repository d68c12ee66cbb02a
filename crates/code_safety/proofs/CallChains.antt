-- No reference dangles where a function is called, and where one returns.
-- A call makes one frame more, whose link is the caller's. A return gives the frame back; that nobody names it any more is Releasing, that
-- no body lives in it Childless.
use Rattle.std.proofs.Common.{◌≡◌, ℕ, suc, ◌+◌, ◌<◌, List, [], ◌∷◌, ◌++◌, length, take, drop, Some, None, true, refl, sym, ap, ◌∙◌, subst, inl, inr, arith}
use Rattle.std.specs.Prelude.{ℤ, slice_get, nat_eq, ◌&&◌, replicate, reverse, ◌-◌}
use Rattle.std.proofs.lemmas.Bool.{and_parts}
use Rattle.std.proofs.lemmas.Bool.Decides.{nat_tests}
use Rattle.work_item.specs.declared.ids.Item.{Item}
use Rattle.work_item.specs.declared.ids.FrameId.{FrameId}
use Rattle.work_item.specs.declared.cell.Cell.{Cell}
use Rattle.work_item.specs.declared.cell.Cell.TheVariants as cell
use Rattle.work_item.specs.Store.{Store, Frame, frame_at, made, next_frame, released, no_int, int_in}
use Rattle.work_item.specs.Conditions.{Lives}
use Rattle.core_state.specs.Moves.{On}
use Rattle.core_state.specs.Frames.{arguments, begun, first_cells}
use Rattle.stack_code.specs.declared.instr.Instr.TheVariants as i
use Rattle.stack_code.specs.declared.parts.Entered.{Entered}
use Rattle.stack_code.specs.declared.shape.CellKind.{CellKind}
use Rattle.stack_code.specs.declared.shape.CellKind.TheVariants as kind
use Rattle.stack_code.specs.declared.shape.OpenBlock.{OpenBlock}
use Rattle.stack_code.specs.declared.shape.Shape.{Shape}
use Rattle.stack_code.specs.declared.shape.Leads.{Leads}
use Rattle.stack_code.specs.declared.shape.Leads.TheVariants.{Stop, Two}
use Rattle.stack_code.specs.Parts.{Parts}
use Rattle.stack_code.specs.Shapes as shapes
use Rattle.stack_code.specs.Shapes.{effect, first, pushed, with_operands, after, can_return, is_int_alone, LeadsTo}
use Rattle.stack_code.specs.Valid as valid
use Rattle.stack_code.specs.Valid.{Reaches, IsValid}
use Rattle.code_meaning.specs.Machine.{Thread, Caller, Flat, begin, counted, on_top, calls, returns}
use Rattle.code_safety.specs.Fit.{IsThread, life_at, own_blocks, own_in, IsFit}
use Rattle.code_safety.specs.Living.{as_running, IsOfCaller, HasFrame}
use Rattle.code_safety.specs.Chains.{Origin, CalledIn, StartedIn, link_of, Came, OnChain, further, AllName, none_in, IsLevel, called, HasStack, IsActive, AreChained}
use Rattle.code_safety.proofs.Taken.{on_some_is, if_is, after_is}
use Rattle.code_safety.proofs.Own.{rooted_of, thread_of, all_kept, block_bound}
use Rattle.code_safety.proofs.Plain.{Onward, many_on, trap_on}
use Rattle.code_safety.proofs.Making.{there_within}
use Rattle.code_safety.proofs.Calling.{is_made, call_enough}
use Rattle.code_safety.proofs.Chained.{Extends, extends_one, extends_last, chain_grown, names_onto, names_append, no_names, names_take, names_reverse, names_drop, names_arguments}
use Rattle.code_safety.proofs.LinkedFrames.{there_lives, linked_made, older_made, long_made}
use Rattle.code_safety.proofs.Childless.{no_child}
use Rattle.code_safety.proofs.Releasing.{was, left_settled, length_left, linked_released}
use Rattle.code_safety.proofs.Stacks.{Calls, has_stack_kept, stack_at, stack_pushed, stack_caller, top_names}
use Rattle.code_safety.proofs.OwnChains as own_chains
use Rattle.code_safety.proofs.OwnChains.{own_chained, active_on, blocks_same, waits_on, starts_on, extends_same}

module _ (code : Parts) (bound : ℕ) (m : Flat) (v : IsValid code) (fit : IsFit code m) (chained : AreChained code m) (t : Item) (run : m.running ≡ Some t) where
  abbrev own : IsThread code fit.births m.store m.blocks t (life_at fit.lives t).start m.current
  own = thread_of code m fit t run

  abbrev s : Shape
  s = own.shape

  abbrev place : ℕ
  place = m.current.place

  abbrev top : FrameId
  top = m.current.frame

  abbrev mine : HasStack code chained.origins m.blocks chained.sites t m.current
  mine = chained.threads t m.current (as_running t run)

  names_here : AllName chained.origins top m.current.operands
  names_here = top_names code chained.origins m.blocks chained.sites t mine.start place top m.current.operands m.current.callers m.current.block mine.stack

  -- ---- a call

  module _ (number count : ℕ) (here : slice_get code.instrs place ≡ Some (i.Call number count)) (function : Entered) (kinds : List CellKind)
      (ways : effect code place (i.Call number count) s ≡ Some (Two (place + 1) (pushed kind.Int (with_operands s kinds)) function.at (first number function))) (args below : List Cell)
      (args_name : AllName chained.origins top args) (below_name : AllName chained.origins top below) where
    abbrev cells : List Cell
    cells = first_cells (arguments function.params args) function.words

    abbrev caller : Caller
    caller = record { place = place + 1; frame = top; operands = below }

    abbrev after_call : Shape
    after_call = pushed kind.Int (with_operands s kinds)

    abbrev new : FrameId
    new = next_frame m.store

    abbrev current : Thread
    current = record { place = function.at; frame = new; operands = []; callers = caller ∷ m.current.callers; block = m.current.block }

    abbrev store : Store
    store = made m.store None cells

    abbrev origin : Origin
    origin = CalledIn top

    abbrev more : List Origin
    more = chained.origins ++ origin ∷ []

    grown : Extends chained.origins more
    grown = extends_one chained.origins origin

    abbrev next : Flat
    next = own_chains.next code m fit chained t run m.shared store current m.blocks (counted m.count) (waits_on m.blocks) (waits_on m.blocks)

    came : Came more new origin
    came = subst (λ k. slice_get more k ≡ Some origin) chained.long (extends_last chained.origins origin)

    onto : (g : FrameId) → OnChain chained.origins top g → OnChain more new g
    onto g c = further new top g origin came refl (chain_grown chained.origins more grown top g c)

    cells_name : AllName more new cells
    cells_name = names_append more new (arguments function.params args) (replicate (function.words - length (arguments function.params args)) no_int)
        (names_arguments more new function.params args (names_onto chained.origins more top new onto args args_name)) (no_names more new (function.words - length (arguments function.params args)))

    goes_to : (to : ℕ) (u : Shape) → LeadsTo (Two (place + 1) after_call function.at (first number function)) to u → Reaches code to u
    goes_to to u l = valid.goes place s to u own.top.reached (record {
      fits = record { instr = i.Call number count; leads = Two (place + 1) after_call function.at (first number function); here = here; finds = ways };
      leads = l;
    })

    stack : HasStack code more m.blocks chained.sites t current
    stack =
        let old = has_stack_kept code chained.origins more grown m.blocks m.blocks (rooted_of code m fit) chained.sites chained.sites (extends_same chained.sites) t m.current
        (all_kept m.blocks t (block_bound m.current.block)) mine
        (starts_on m.blocks mine.start) in
        let below_more = names_onto chained.origins more top top (λ g c. chain_grown chained.origins more grown top g c) below below_name in
        let outer = stack_at code more m.blocks chained.sites t old.start place top m.current.operands m.current.callers m.current.block (place + 1) below after_call
        (goes_to (place + 1) after_call (inl (refl, refl))) below_more old.stack (blocks_same code bound m v fit chained t run after_call refl) in
        let level : IsLevel code more m.blocks chained.sites t function.at new [] m.current.block m.current.block =
        record { shape = first number function; reached = goes_to function.at (first number function) (inr (refl, refl)); names = tt; entered = none_in m.current.block } in
        record { start = old.start; stack = called function.at new [] caller m.current.callers m.current.block m.current.block level came outer }

    still : (f : FrameId) → IsActive m f → IsActive next f
    still f a = active_on code m fit chained t run m.shared store current m.blocks (counted m.count) (waits_on m.blocks) (waits_on m.blocks) f (λ has. inr has) a

    top_lives : (g : FrameId) → link_of origin ≡ Some g → Lives m.store g
    top_lives g e = let same : top ≡ g = cc in subst (Lives m.store) same (there_lives m.store top own.top.goes.frame own.top.goes.here)

    new_active : IsActive next new
    new_active = record { item = t; thread = current; living = as_running t run; has = inl refl }

    called_chained : AreChained code next
    called_chained = own_chained code m fit chained t run m.shared store current m.blocks (counted m.count) (waits_on m.blocks) (waits_on m.blocks) more chained.sites grown
        (extends_same chained.sites) (long_made chained.origins m next origin cells refl chained.long top_lives still new_active) chained.many
        (older_made chained.origins m next origin cells refl chained.long top_lives still new_active
        (λ g e. let same : top ≡ g = cc in subst (λ (z : FrameId). z.number < length m.store.frames) same (there_within m.store.frames top.number own.top.goes.frame own.top.goes.here))
        chained.older)
        (linked_made chained.origins m next origin cells refl chained.long top_lives still new_active cells_name chained.frames) stack (λ u ne k. all_kept m.blocks u k)
        (λ u h l ne. starts_on m.blocks (life_at fit.lives u).start)

    call_on : Onward (AreChained code) (calls m (Some function) args below)
    call_on = trap_on (AreChained code) m (begun m.store None cells) (λ made_store. On (record m { store = made_store; current = current; count = counted m.count }))
        (λ made_store e. let n = is_made m.store None cells made_store e in
        subst (λ (x : Store). AreChained code (record m { store = x; current = current; count = counted m.count })) n.is called_chained)

  pub call_chained : (number count : ℕ) (leads : Leads) → slice_get code.instrs place ≡ Some (i.Call number count) → effect code place (i.Call number count) s ≡ Some leads
      → Onward (AreChained code) (begin code bound m t (Some (i.Call number count)))
  call_chained number count leads here finds =
      let f = on_some_is (slice_get code.functions number) (shapes.calls place number count s) leads finds in
      let function = f.0 in
      let ways = (λ (x : Shape). Some (Two (place + 1) (pushed kind.Int x) function.at (first number function))) in
      let c = if_is (nat_eq count (length function.params)) (after (shapes.arguments function.params) s ways) leads f.1.1 in
      let a = after_is (shapes.arguments function.params) s ways leads c.1 in
      let enough = call_enough code bound m fit t run v number count leads finds in
      let leads_on : effect code place (i.Call number count) s ≡ Some (Two (place + 1) (pushed kind.Int (with_operands s a.0)) function.at (first number function)) = finds ∙ sym a.1.1 in
      many_on (AreChained code) m count (λ args below. calls m (slice_get code.functions number) args below) m.current.operands enough
      (subst (λ x. Onward (AreChained code) (calls m x (reverse (take count m.current.operands)) (drop count m.current.operands))) (sym f.1.0)
      (call_on number count here function a.0 leads_on (reverse (take count m.current.operands)) (drop count m.current.operands)
      (names_reverse chained.origins top (take count m.current.operands) (names_take chained.origins top count m.current.operands names_here))
      (names_drop chained.origins top count m.current.operands names_here)))

  -- ---- a return

  module _ (none : own_blocks s ≡ 0) (value : Cell) (c : Caller) (callers : List Caller) (is : m.current.callers ≡ c ∷ callers)
      (k : Calls code chained.origins m.blocks chained.sites t mine.start top c callers m.current.block) (int : AllName chained.origins c.frame (value ∷ [])) where
    abbrev left : Store
    left = released m.store top

    abbrev back : Thread
    back = record m.current { place = c.place; frame = c.frame; operands = value ∷ c.operands; callers = callers }

    abbrev after_return : Flat
    after_return = own_chains.next code m fit chained t run m.shared left back m.blocks (counted m.count) (waits_on m.blocks) (waits_on m.blocks)

    no_body : (p : FrameId) → Came chained.origins top (StartedIn p) → ⊥
    no_body p e = let no : Some (CalledIn c.frame) ≡ Some (StartedIn p) = sym k.came ∙ e in cc

    -- its frame is gone, since no body lives there
    childless : (y : Frame) → frame_at left top ≡ Some y → y.parent ≡ None → ⊥
    childless y e up =
        let w = was m.store top top y e in
        let d = left_settled m.store top top y e (w.own refl) in
        let z = was m.store top d.0 d.1.0 d.1.1.0 in
        no_child code m v fit chained t run s own.top.reached none no_body d.0 z.frame z.there (sym z.parent ∙ d.1.1.1)

    frames_left : (f : FrameId) → (f.number ≡ top.number → ⊥) → HasFrame m.current f → HasFrame back f
    frames_left f ne has = elim has as (λ _. HasFrame back f) [
      | inl e ↦ absurd (ne (ap (λ (z : FrameId). z.number) (sym e)))
      | inr q ↦ subst (λ cs. IsOfCaller cs f) is q
    ]

    returned : AreChained code after_return
    returned = own_chained code m fit chained t run m.shared left back m.blocks (counted m.count) (waits_on m.blocks) (waits_on m.blocks) chained.origins chained.sites (extends_same chained.origins)
        (extends_same chained.sites) (chained.long ∙ sym (length_left m.store top)) chained.many chained.older
        (linked_released code m fit chained t run after_return refl
        (λ f ne a. active_on code m fit chained t run m.shared left back m.blocks (counted m.count) (waits_on m.blocks) (waits_on m.blocks) f (frames_left f ne) a) childless)
        (record { start = mine.start; stack = stack_pushed code chained.origins m.blocks chained.sites t mine.start value c.place c.frame c.operands callers m.current.block int.0 k.stack })
        (λ u ne j. all_kept m.blocks u j) (λ u h l ne. starts_on m.blocks (life_at fit.lives u).start)

  no_own : (n : ℕ) (blocks : List OpenBlock) → nat_eq (length blocks) 0 ≡ true → own_in n blocks ≡ 0
  no_own n [] e = refl
  no_own n (b ∷ blocks) e = let no : suc (length blocks) ≡ 0 = grind (arith, nat_tests) in absurd (omega (arith, no))

  return_to : own_blocks s ≡ 0 → (value : ℤ) (callers : List Caller) → m.current.callers ≡ callers → Onward (AreChained code) (returns m (cell.Int value) callers)
  return_to none value [] e = tt
  return_to none value (c ∷ callers) e =
      returned none (cell.Int value) c callers e
      (stack_caller code chained.origins m.blocks chained.sites t mine.start place top m.current.operands m.current.callers m.current.block mine.stack
      (λ u r. ap own_blocks (v.shaped.same place u s r own.top.reached) ∙ none) c callers e) (tt, tt)

  pub return_chained : (leads : Leads) → effect code place i.Ret s ≡ Some leads → Onward (AreChained code) (begin code bound m t (Some i.Ret))
  return_chained leads finds =
      let c = if_is (can_return s) (Some Stop) leads finds in
      let p = and_parts (nat_eq (length s.bodies) 1) (nat_eq (length s.blocks) 0 && is_int_alone s.operands) c.0 in
      let q = and_parts (nat_eq (length s.blocks) 0) (is_int_alone s.operands) p.1 in
      let none : own_blocks s ≡ 0 = no_own (length s.bodies) s.blocks q.0 in
      by none m.current.operands
    where
      by : own_blocks s ≡ 0 → (ops : List Cell) → Onward (AreChained code) (on_top m (λ x below. returns m (cell.Int (int_in x)) m.current.callers) ops)
      by none [] = chained
      by none (x ∷ below) = return_to none (int_in x) m.current.callers refl
