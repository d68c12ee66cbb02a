-- No reference dangles: not in the first state, and after no move; so whatever is named is in a frame that lives.
-- The theorem to which the files on chains lead. Its invariant is `AreChained`, which each kind of move keeps by a file of its own. From
-- it: what is named is on the chain of a frame that lives, and a chain lives as long as its beginning.
use Rattle.std.proofs.Common.{◌≡◌, ◌⊎◌, ℕ, zero, suc, ◌+◌, List, [], ◌∷◌, Option, Some, None, Bool, true, false, refl, sym, ap, ◌∙◌, subst, inl, inr, arith}
use Rattle.std.specs.Prelude.{All, slice_get, slice_index_or, slice_set, replicate, nat_lt, ◌^◌, ◌-◌, if◌then◌else◌}
use Rattle.ac_base.specs.declared.ends.EndWord.TheVariants as word
use Rattle.work_item.specs.declared.ids.Item.{Item}
use Rattle.work_item.specs.declared.ids.FrameId.{FrameId}
use Rattle.work_item.specs.declared.ids.BlockId.{BlockId}
use Rattle.work_item.specs.declared.cell.Cell.{Cell}
use Rattle.work_item.specs.declared.cell.Cell.TheVariants as cell
use Rattle.work_item.specs.Store.{Frame, cell_at, frame_at, made, no_int}
use Rattle.work_item.specs.Conditions.{Lives, ParentLives, HomeLives}
use Rattle.cancel_scope.specs.declared.operation.Asked.{Asked}
use Rattle.cancel_scope.specs.declared.operation.Asked.TheVariants as asked
use Rattle.cancel_scope.specs.declared.operation.Operation.{Operation}
use Rattle.core_state.specs.Moves.{On, Over}
use Rattle.core_state.specs.Frames.{first_store, first_frame, block_in}
use Rattle.core_state.specs.Shared.{Shared, with_turn, seen}
use Rattle.stack_code.specs.declared.instr.Instr.{Instr}
use Rattle.stack_code.specs.declared.instr.Instr.TheVariants as i
use Rattle.stack_code.specs.declared.parts.Entered.{Entered}
use Rattle.stack_code.specs.declared.shape.Shape.{Shape}
use Rattle.stack_code.specs.declared.shape.Leads.{Leads}
use Rattle.stack_code.specs.Parts.{Parts, Begins}
use Rattle.stack_code.specs.Shapes.{effect, first}
use Rattle.stack_code.specs.Valid.{IsValid, Fits, begins}
use Rattle.code_meaning.specs.Machine.{Flat, FlatEnd, Thread, Caller, begin, exec, exec_of, dispatched, told, nobody, thread_at, first_globals, first_item, first_core}
use Rattle.code_safety.specs.Fit.{IsThread, life_at, one_at, IsFit}
use Rattle.code_safety.specs.Living.{LivesAs, as_running, as_ready, as_operating, as_waiting, IsOfCaller, HasFrame, RefersToLiving, AllReferToLiving, ActivationLives, CallersLive}
use Rattle.code_safety.specs.Living.{AskedLives, NamesLiving}
use Rattle.code_safety.specs.Chains.{Origin, AtEntry, link_of, Came, HomeOnChain, Names, AllName, AskedOnChain, none_in, IsLevel, IsStack, outermost, called, HasStack, IsActive, IsLinked, AreChained}
use Rattle.code_safety.proofs.Plain.{Onward}
use Rattle.code_safety.proofs.Lives.{one_is, same_item}
use Rattle.code_safety.proofs.Own.{thread_of}
use Rattle.code_safety.proofs.Chained.{chain_lives, no_names}
use Rattle.code_safety.proofs.Childless.{body_origin}
use Rattle.code_safety.proofs.LivingThreads.{waits_there, frame_goes}
use Rattle.code_safety.proofs.LinkedFrames.{same_frame, lives_there, there_lives}
use Rattle.code_safety.proofs.OwnChains.{plain_chained}
use Rattle.code_safety.proofs.BlockChains.{enter_chained, finish_chained}
use Rattle.code_safety.proofs.CancelSafety.{cancel_chained}
use Rattle.code_safety.proofs.TurnChains.{yield_chained, turn_chained}
use Rattle.code_safety.proofs.CallChains.{call_chained, return_chained}
use Rattle.code_safety.proofs.StartChains.{async_chained}
use Rattle.code_safety.proofs.EndChains.{end_chained}
use Rattle.code_safety.proofs.OperationChains.{send_chained, receive_chained, read_chained, write_chained}
use Rattle.code_safety.proofs.ArrivalChains.{rests_chained}

-- ---- one move

module _ (code : Parts) (bound : ℕ) (m : Flat) (v : IsValid code) (fit : IsFit code m) (chained : AreChained code m) where
  module _ (t : Item) (run : m.running ≡ Some t) where
    abbrev own : IsThread code fit.births m.store m.blocks t (life_at fit.lives t).start m.current
    own = thread_of code m fit t run

    abbrev s : Shape
    s = own.shape

    abbrev place : ℕ
    place = m.current.place

    by_instr : (instr : Instr) (leads : Leads) → slice_get code.instrs place ≡ Some instr → effect code place instr s ≡ Some leads
        → Onward (AreChained code) (begin code bound m t (Some instr))
    by_instr (i.Call number count) leads here finds = call_chained code bound m v fit chained t run number count leads here finds
    by_instr i.Ret leads here finds = return_chained code bound m v fit chained t run leads finds
    by_instr (i.Enter slot) leads here finds = enter_chained code bound m v fit chained t run slot here leads finds
    by_instr (i.Finish slot) leads here finds = finish_chained code bound m v fit chained t run slot here leads finds
    by_instr (i.Async slots to) leads here finds = async_chained code bound m v fit chained t run slots to here leads finds
    by_instr i.End leads here finds = end_chained code bound m v fit chained t run leads finds
    by_instr i.Yield leads here finds = yield_chained code bound m v fit chained t run here
    by_instr (i.Cancel level slot) leads here finds = cancel_chained code bound v m fit t run level slot here (block_in (cell_at m.store m.current.frame level slot)) chained
    by_instr (i.Send channel) leads here finds = send_chained code bound m v fit chained t run channel leads here finds
    by_instr (i.Recv channel) leads here finds = receive_chained code bound m v fit chained t run channel leads here finds
    by_instr (i.Read file) leads here finds = read_chained code bound m v fit chained t run file leads here finds
    by_instr (i.Write file) leads here finds = write_chained code bound m v fit chained t run file leads here finds
    by_instr instr leads here finds = plain_chained code bound m v fit chained t run instr leads here finds refl

    there : Fits code place s
    there = v.shaped.fits place s own.top.reached

    runs_on : Onward (AreChained code) (begin code bound m t (slice_get code.instrs place))
    runs_on = subst (λ o. Onward (AreChained code) (begin code bound m t o)) (sym there.here) (by_instr there.instr there.leads there.here there.finds)

  dispatches : m.running ≡ None → (ready : List Item) → m.ready ≡ ready → Onward (AreChained code) (dispatched m ready)
  dispatches idle [] e = tt
  dispatches idle (t ∷ ready) e = go (nat_lt m.shared.turn (2 ^ 64 - 1)) (told m.count (seen word.OutOfSteps false m.store.globals m.operations m.shared))
    where
      go : (b : Bool) (end : FlatEnd)
          → Onward (AreChained code) (if b then On
          (record m { shared = with_turn m.shared; running = Some t; current = thread_at m.threads t; ready = ready; threads = slice_set m.threads t.number nobody }) else Over end)
      go true end = turn_chained code m fit chained idle t ready e (with_turn m.shared)
      go false end = tt

  pub chained_on : Onward (AreChained code) (exec code bound m)
  chained_on = go m.running refl
    where
      go : (o : Option Item) → m.running ≡ o → Onward (AreChained code) (exec_of code bound m o)
      go None e = rests_chained code m fit chained (dispatches e m.ready refl)
      go (Some t) e = runs_on t e

-- ---- the first state

module _ (code : Parts) (core : ℕ) (function : Entered) (b : Begins code core function) (shared : Shared) where
  abbrev cells : List Cell
  cells = replicate function.words no_int

  abbrev initial : Flat
  initial = first_core function shared (made (first_store (first_globals code)) None cells)

  abbrev thread : Thread
  thread = record nobody { place = function.at }

  abbrev origins : List Origin
  origins = AtEntry ∷ []

  first_level : IsLevel code origins [] [] first_item function.at first_frame [] None None
  first_level = record { shape = first b.entry function; reached = begins core function b; names = tt; entered = none_in None }

  first_stack : HasStack code origins [] [] first_item thread
  first_stack = record { start = None; stack = outermost function.at first_frame [] None first_level refl }

  first_threads : (t : Item) (h : Thread) → LivesAs initial t h → HasStack code origins [] [] t h
  first_threads _ _ (as_running t e) = let no : None ≡ Some t = e in absurd (cc)
  first_threads _ _ (as_ready t some) =
      let n : t.number ≡ 0 = one_is t.number 0 (let k : one_at t.number first_item + 0 ≡ one_at t.number first_item = omega arith in omega (arith, some, k)) in
      let same : first_item ≡ t = same_item first_item t (sym n) in
      subst (λ z. HasStack code origins [] [] z (thread_at initial.threads z)) same first_stack
  first_threads _ _ (as_operating t some) = absurd (omega (arith, some))
  first_threads _ _ (as_waiting t c x here owner w) = let no : None ≡ Some x = here in absurd (cc)

  first_active : (f : FrameId) → f.number ≡ 0 → IsActive initial f
  first_active f e = record { item = first_item; thread = thread; living = as_ready first_item (omega arith); has = inl (same_frame first_frame f (sym e)) }

  first_linked : (f : FrameId) (x : Frame) → frame_at initial.store f ≡ Some x → IsLinked origins initial f x
  first_linked f x e = go f.number refl e
    where
      go : (n : ℕ) → f.number ≡ n → slice_index_or initial.store.frames n None ≡ Some x → IsLinked origins initial f x
      go zero q e =
          let is : record { parent = None; cells = cells; over = false } ≡ x = cc in
          subst (IsLinked origins initial f) is (record {
            origin = AtEntry;
            came = ap (slice_get origins) q;
            parent = refl;
            link = λ g l. let no : None ≡ Some g = l in absurd (cc);
            names = no_names origins f function.words;
            settled = λ o. let no : false ≡ true = o in absurd (cc);
            active = λ h. first_active f q;
          })
      go (suc n) q e = let no : None ≡ Some x = e in absurd (cc)

  none_older : (n : ℕ) (g : FrameId) (o : Origin) → slice_get origins n ≡ Some o → link_of o ≡ Some g → ⊥
  none_older zero g o c l = let is : AtEntry ≡ o = cc in let no : None ≡ Some g = ap link_of is ∙ l in cc
  none_older (suc n) g o c l = let no : None ≡ Some o = c in cc

  pub first_chained : AreChained code initial
  first_chained = record {
    origins = origins;
    sites = [];
    long = refl;
    many = refl;
    older = λ f g o c l. absurd (none_older f.number g o c l);
    frames = first_linked;
    threads = first_threads;
    waiting = λ c x here w. let no : None ≡ Some x = here in absurd (cc);
    operations = λ k d lt. absurd (omega (arith, lt));
  }

-- ---- whatever is named is in a frame that lives

module _ (code : Parts) (m : Flat) (fit : IsFit code m) (chained : AreChained code m) where
  links_live : (f : FrameId) (o : Origin) (g : FrameId) → Lives m.store f → Came chained.origins f o → link_of o ≡ Some g → Lives m.store g
  links_live f o g l came e =
      let x = lives_there m.store f l in
      let k = chained.frames f x.0 x.1 in
      let same : o ≡ k.origin = let both : Some o ≡ Some k.origin = sym came ∙ k.came in cc in
      k.link g (ap link_of (sym same) ∙ e)

  home_lives : (f : FrameId) → Lives m.store f → (home : Option FrameId) → HomeOnChain chained.origins f home → HomeLives m.store home
  home_lives f l None n = tt
  home_lives f l (Some g) n = chain_lives chained.origins m.store links_live f g n l

  refers : (f : FrameId) → Lives m.store f → (x : Cell) → Names chained.origins f x → RefersToLiving m.store x
  refers f l (cell.Int value) n = tt
  refers f l (cell.Array place) n = home_lives f l place.home n
  refers f l (cell.Block b) n = tt

  all_refer : (f : FrameId) → Lives m.store f → (xs : List Cell) → AllName chained.origins f xs → AllReferToLiving m.store xs
  all_refer f l [] n = tt
  all_refer f l (x ∷ xs) n = (refers f l x n.0, all_refer f l xs n.1)

  stack_lives : (t : Item) (start : Option BlockId) (place : ℕ) (f : FrameId) (ops : List Cell) (callers : List Caller) (o : Option BlockId)
      → IsStack code chained.origins m.blocks chained.sites t start place f ops callers o → ((g : FrameId) → (f ≡ g) ⊎ IsOfCaller callers g → Lives m.store g)
      → ActivationLives m.store f ops × CallersLive m.store callers
  stack_lives t start _ _ _ _ _ (outermost a f ops o level starts) lives = ((lives f (inl refl), all_refer f (lives f (inl refl)) ops level.names), tt)
  stack_lives t start _ _ _ _ _ (called a f ops c callers o outer level came rest) lives = (
    (lives f (inl refl), all_refer f (lives f (inl refl)) ops level.names),
    stack_lives t start c.place c.frame c.operands callers outer rest (λ g has. lives g (inr has)),
  )

  frame_lives : (t : Item) (h : Thread) → LivesAs m t h → (g : FrameId) → HasFrame h g → Lives m.store g
  frame_lives t h l g has = let k = (frame_goes code m fit t h l g has).1 in there_lives m.store g k.frame k.here

  parent_lives : (f : FrameId) (x : Frame) → frame_at m.store f ≡ Some x → (o : Option FrameId) → x.parent ≡ o → ParentLives m.store o
  parent_lives f x e None q = tt
  parent_lives f x e (Some p) q =
      let k = chained.frames f x e in
      k.link p (ap link_of (body_origin k.origin p (sym k.parent ∙ q)))

  -- the thread of an operation lives, and so does the frame of its chain into which it receives or reads
  asked_lives : (a : Asked) (f : FrameId) → Lives m.store f → AskedOnChain chained.origins f a → AskedLives m.store a
  asked_lives (asked.Send value) f l n = tt
  asked_lives (asked.Recv place) f l n = home_lives f l place.home n
  asked_lives (asked.Read file from into) f l n = home_lives f l into.home n
  asked_lives (asked.Write file from bytes) f l n = tt

  operations_live : All (λ (o : Operation). AskedLives m.store o.asked) m.operations
  operations_live k d lt =
      let o = slice_index_or m.operations k d in
      let h = thread_at m.threads o.item in
      asked_lives o.asked h.frame (frame_lives o.item h (as_operating o.item (waits_there m.operations k d lt)) h.frame (inl refl)) (chained.operations k d lt)

  pub names_living : NamesLiving m
  names_living = record {
    threads = λ t h l.
        let z = chained.threads t h l in
        stack_lives t z.start h.place h.frame h.operands h.callers h.block z.stack (frame_lives t h l);
    parents = λ f x e. parent_lives f x e x.parent refl;
    cells = λ f x e. all_refer f (there_lives m.store f x e) x.cells (chained.frames f x e).names;
    operations = operations_live;
  }
