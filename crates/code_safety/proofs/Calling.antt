-- A state stays fit at a call and at a return.
-- A call puts a caller on the stack that waits for one int, and a new frame of the function that is called; a return takes both off. What
-- other threads have is kept by Lasting.
use Rattle.std.proofs.Common.{◌≡◌, ℕ, suc, ◌+◌, ◌≤◌, ◌<◌, ◌^◌, List, [], ◌∷◌, ◌++◌, length, take, drop, Option, Some, None, Result, Ok, Err, Bool, true, false, refl, sym, ap, ◌∙◌, subst}
use Rattle.std.proofs.Common.{inl, inr, arith}
use Rattle.std.specs.Prelude.{slice_get, reverse, map, nat_eq, ◌&&◌, if◌then◌else◌}
use Rattle.std.proofs.lemmas.Bool.{and_parts}
use Rattle.std.proofs.lemmas.Bool.Decides.{nat_tests}
use Rattle.std.proofs.lemmas.List.{length-reverse, length-map}
use Rattle.std.proofs.lemmas.Option.{slice_get_within, get_or_from_slice_get}
use Rattle.ac_base.specs.declared.ends.Trap.{Trap}
use Rattle.ac_base.specs.declared.ends.Trap.TheVariants.{StackFull}
use Rattle.work_item.specs.declared.ids.FrameId.{FrameId}
use Rattle.work_item.specs.declared.ids.Item.{Item}
use Rattle.work_item.specs.declared.cell.Cell.{Cell}
use Rattle.work_item.specs.declared.cell.Cell.TheVariants as cell
use Rattle.work_item.specs.Store.{Store, Frame, made, released, next_frame, live_words, int_in, frame_at}
use Rattle.core_state.specs.Moves.{Move, On}
use Rattle.core_state.specs.Frames.{begun, has_words, first_cells, arguments}
use Rattle.stack_code.specs.declared.instr.Instr.TheVariants as i
use Rattle.stack_code.specs.declared.parts.Entered.{Entered}
use Rattle.stack_code.specs.declared.shape.CellKind.{CellKind}
use Rattle.stack_code.specs.declared.shape.CellKind.TheVariants as kind
use Rattle.stack_code.specs.declared.shape.Home.TheVariants as home
use Rattle.stack_code.specs.declared.shape.Shape.{Shape}
use Rattle.stack_code.specs.declared.shape.OpenBlock.{OpenBlock}
use Rattle.stack_code.specs.declared.shape.Leads.{Leads}
use Rattle.stack_code.specs.declared.shape.Leads.TheVariants.{Stop, Two}
use Rattle.stack_code.specs.Parts.{Parts}
use Rattle.stack_code.specs.Shapes as shapes
use Rattle.stack_code.specs.Shapes.{pushed, after, with_operands, first, want_of, is_int_alone, can_return, effect, params_in, LeadsTo}
use Rattle.stack_code.specs.Valid as valid
use Rattle.stack_code.specs.Valid.{IsValid, HasRoom, Goes}
use Rattle.code_meaning.specs.Machine.{Flat, FlatEnd, Caller, Thread, begin, counted, calls, returns}
use Rattle.code_safety.specs.Fit.{Birth, Born, HasKind, HaveKinds, AreSlots, last, IsCaller, AreCallers, bottom, above, HasEntered, IsThread, IsFit, own_blocks, own_in}
use Rattle.code_safety.specs.Fit.{life_at}
use Rattle.code_safety.proofs.Taken.{on_some_is, if_is, after_is, many_of}
use Rattle.code_safety.proofs.Plain.{Onward, top_on, many_on, trap_on}
use Rattle.code_safety.proofs.Lasting.{Grown, Carries, kinds_grown, all_bodies_carried, goes_carried, activation_carried, callers_carried, callers_as}
use Rattle.code_safety.proofs.Making.{grown_one, new_born, new_there, there_within, made_store, made_carries, left_carries, left_store}
use Rattle.code_safety.proofs.Arguments.{AreArguments, arguments_of, length-arguments, slots_of_call, length-first_cells}
use Rattle.code_safety.proofs.Own.{thread_of, own_fit}

-- ---- a frame for which there is room

pub record IsMade (s : Store) (parent : Option FrameId) (cells : List Cell) (t : Store) : Type 0 where
  pub is : made s parent cells ≡ t
  pub short : length cells < 2 ^ 32

pub is_made : (s : Store) (parent : Option FrameId) (cells : List Cell) (t : Store) → begun s parent cells ≡ Ok t → IsMade s parent cells t
is_made s parent cells t e = go (has_words s (length cells)) refl e
  where
    go : (b : Bool) → has_words s (length cells) ≡ b → ◌≡◌ {A = Result Store Trap} (if b then Ok (made s parent cells) else Err StackFull) (Ok t) → IsMade s parent cells t
    go true h e =
        let is : made s parent cells ≡ t = cc in
        let few : live_words s + (length cells + 4) ≤ 4194304 = grind (arith, nat_tests) in
        record { is = is; short = omega (arith, few) }
    go false h e = absurd (cc)

length_wanted : (params : List Bool) → length (shapes.arguments params) ≡ length params
length_wanted params = length-reverse (map want_of params) ∙ length-map params want_of

module _ (code : Parts) (bound : ℕ) (m : Flat) (fit : IsFit code m) (t : Item) (run : m.running ≡ Some t) (v : IsValid code) where
  abbrev h : IsThread code fit.births m.store m.blocks t (life_at fit.lives t).start m.current
  h = thread_of code m fit t run

  abbrev s : Shape
  s = h.shape

  abbrev ops : List Cell
  ops = m.current.operands

  abbrev place : ℕ
  place = m.current.place

  abbrev Fits : Move Flat FlatEnd → Type 0
  Fits x = Onward (IsFit code) x

  -- ---- a call

  module _ (number count : ℕ) (here : slice_get code.instrs place ≡ Some (i.Call number count)) (function : Entered) (is : slice_get code.functions number ≡ Some function) (kinds : List CellKind)
      (ways : effect code place (i.Call number count) s ≡ Some (Two (place + 1) (pushed kind.Int (with_operands s kinds)) function.at (first number function))) (args below : List Cell) where
    abbrev birth : Birth
    birth = record { home = home.Function number; slots = function.words; item = t }

    abbrev births : List Birth
    births = fit.births ++ birth ∷ []

    abbrev cells : List Cell
    cells = first_cells (arguments function.params args) function.words

    abbrev caller : Caller
    caller = record { place = place + 1; frame = m.current.frame; operands = below }

    abbrev after_call : Shape
    after_call = pushed kind.Int (with_operands s kinds)

    abbrev frame : FrameId
    frame = next_frame m.store

    abbrev called : Thread
    called = record { place = function.at; frame = frame; operands = []; callers = caller ∷ m.current.callers; block = m.current.block }

    abbrev grown : Grown fit.births births
    grown = grown_one fit.births birth

    room : length function.params ≤ function.words
    room =
        let each = v.lists.functions number function (slice_get_within code.functions number function is) in
        subst HasRoom (get_or_from_slice_get code.functions number function function is) each

    goes_to : (to : ℕ) (u : Shape) → LeadsTo (Two (place + 1) after_call function.at (first number function)) to u → Goes code place s to u
    goes_to to u l = record {
      fits = record { instr = i.Call number count; leads = Two (place + 1) after_call function.at (first number function); here = here; finds = ways };
      leads = l;
    }

    module _ (wanted : AreArguments code births function.params args) (have : HaveKinds code births kinds below) (short : length cells < 2 ^ 32) where
      abbrev store : Store
      store = made m.store None cells

      slots : AreSlots code births (home.Function number) cells
      slots = slots_of_call code births (home.Function number) function.params args function.words v.one_use (ap params_in is) wanted

      slots_long : length cells ≡ function.words
      slots_long =
          let long = length-arguments code births function.params args wanted in
          let r = room in
          length-first_cells (arguments function.params args) function.words (omega (arith, long, r))

      abbrev carries : Carries m.store store (λ f. Unit {0})
      carries = made_carries code fit.births m.store fit.store None cells birth slots slots_long short

      born : Born births frame birth
      born = new_born code fit.births m.store fit.store None cells birth slots slots_long short

      abbrev new : Frame
      new = record { parent = None; cells = cells; over = false }

      there : frame_at store frame ≡ Some new
      there = new_there m.store.frames new

      older : m.current.frame.number < frame.number
      older = there_within m.store.frames m.current.frame.number h.top.goes.frame h.top.goes.here

      caller_waits : IsCaller code births store t caller after_call
      caller_waits = record {
        kinds = kinds;
        one = refl;
        activation = record {
          reached = valid.goes place s (place + 1) after_call h.top.reached (goes_to (place + 1) after_call (inl (refl, refl)));
          have = have;
          bodies = all_bodies_carried fit.births births grown m.store store (λ f. Unit {0}) carries t s.bodies m.current.frame h.top.goes tt h.top.bodies;
          goes = goes_carried fit.births births grown m.store store (λ f. Unit {0}) carries t m.current.frame h.top.goes tt;
          blocks = h.top.blocks;
        };
      }

      called_thread : IsThread code births store m.blocks t (life_at fit.lives t).start called
      called_thread = record {
        shape = first number function;
        top = record {
          reached = valid.goes place s function.at (first number function) h.top.reached (goes_to function.at (first number function) (inr (refl, refl)));
          have = tt;
          bodies = last (record { home = home.Function number; slots = function.words }) frame (record { birth = birth; born = born; home = refl; frame = new; here = there; slots = slots_long });
          goes = record { birth = birth; born = born; item = refl; frame = new; here = there; going = refl };
          blocks = tt;
        };
        below = own_blocks s + h.below;
        callers = above frame (first number function) caller m.current.callers after_call h.below refl older caller_waits
            (callers_as code births store t (life_at fit.lives t).start m.current.frame s after_call m.current.callers h.below refl
            (callers_carried code fit.births births grown m.store store (λ f. Unit {0}) carries t m.current.frame.number (life_at fit.lives t).start m.current.frame s m.current.callers h.below
            (λ g b born is lt. tt) (omega arith) h.callers));
        entered = let n : own_blocks s + h.below ≡ own_blocks (first number function) + (own_blocks s + h.below) = omega arith in
            subst (λ k. HasEntered m.blocks t (life_at fit.lives t).start k m.current.block) n h.entered;
      }

      call_made : IsFit code (record m { store = store; current = called; count = counted m.count })
      call_made = own_fit code m fit t run births grown store (λ f. Unit {0}) carries (made_store code fit.births m.store fit.store None cells birth slots slots_long short) (λ g b born ne. tt)
          m.shared called (counted m.count) called_thread refl

    call_on : (wanted : AreArguments code births function.params args) (have : HaveKinds code births kinds below) → Fits (calls m (Some function) args below)
    call_on wanted have = trap_on (IsFit code) m (begun m.store None cells) (λ store. On (record m { store = store; current = called; count = counted m.count }))
        (λ store e. let n = is_made m.store None cells store e in
        subst (λ (x : Store). IsFit code (record m { store = x; current = called; count = counted m.count })) n.is (call_made wanted have n.short))

  -- so many operands are there
  pub call_enough : (number count : ℕ) (leads : Leads) → effect code place (i.Call number count) s ≡ Some leads → count ≤ length ops
  call_enough number count leads finds =
      let f = on_some_is (slice_get code.functions number) (shapes.calls place number count s) leads finds in
      let ways = (λ (x : Shape). Some (Two (place + 1) (pushed kind.Int x) f.0.at (first number f.0))) in
      let c = if_is (nat_eq count (length f.0.params)) (after (shapes.arguments f.0.params) s ways) leads f.1.1 in
      let many : count ≡ length f.0.params = let b = c.0 in grind (arith, nat_tests) in
      let a = after_is (shapes.arguments f.0.params) s ways leads c.1 in
      let o = many_of code fit.births (shapes.arguments f.0.params) s.operands a.0 ops a.1.0 h.top.have in
      let long = length_wanted f.0.params in
      omega (arith, o.enough, long, many)

  pub call_fit : (number count : ℕ) (leads : Leads) → slice_get code.instrs place ≡ Some (i.Call number count) → effect code place (i.Call number count) s ≡ Some leads
      → Fits (begin code bound m t (Some (i.Call number count)))
  call_fit number count leads here finds =
      let f = on_some_is (slice_get code.functions number) (shapes.calls place number count s) leads finds in
      let function = f.0 in
      let ways = (λ (x : Shape). Some (Two (place + 1) (pushed kind.Int x) function.at (first number function))) in
      let c = if_is (nat_eq count (length function.params)) (after (shapes.arguments function.params) s ways) leads f.1.1 in
      let many : count ≡ length function.params = let b = c.0 in grind (arith, nat_tests) in
      let a = after_is (shapes.arguments function.params) s ways leads c.1 in
      let births = fit.births ++ record { home = home.Function number; slots = function.words; item = t } ∷ [] in
      let grown = grown_one fit.births (record { home = home.Function number; slots = function.words; item = t }) in
      let o = many_of code births (shapes.arguments function.params) s.operands a.0 ops a.1.0 (kinds_grown code fit.births births grown s.operands ops h.top.have) in
      let long : length (shapes.arguments function.params) ≡ count = length_wanted function.params ∙ sym many in
      let enough = call_enough number count leads finds in
      let rest : HaveKinds code births a.0 (drop count ops) = subst (λ n. HaveKinds code births a.0 (drop n ops)) long o.rest in
      let wanted : AreArguments code births function.params (reverse (take count ops)) =
      subst (λ n. AreArguments code births function.params (reverse (take n ops))) (sym many) (arguments_of code births function.params ops o.wanted) in
      let leads_on : effect code place (i.Call number count) s ≡ Some (Two (place + 1) (pushed kind.Int (with_operands s a.0)) function.at (first number function)) = finds ∙ sym a.1.1 in
      many_on (IsFit code) m count (λ args below. calls m (slice_get code.functions number) args below) ops enough
      (subst (λ x. Fits (calls m x (reverse (take count ops)) (drop count ops))) (sym f.1.0)
      (call_on number count here function f.1.0 a.0 leads_on (reverse (take count ops)) (drop count ops) wanted rest))

  -- ---- a return

  some_top : (kinds : List CellKind) (operands : List Cell) → is_int_alone kinds ≡ true → HaveKinds code fit.births kinds operands → (x : Cell) × ((below : List Cell) × (operands ≡ x ∷ below))
  some_top [] operands e k = let no : false ≡ true = e in cc
  some_top (kind ∷ kinds) [] e k = absurd k
  some_top (kind ∷ kinds) (x ∷ below) e k = (x, (below, refl))

  abbrev gone : FrameId
  gone = m.current.frame

  abbrev left : Store
  left = released m.store gone

  -- the frames of the thread's callers, and those of the others
  abbrev Others : FrameId → Type 0
  Others g = g.number ≡ gone.number → ⊥

  others : (g : FrameId) (birth : Birth) → Born fit.births g birth → (birth.item ≡ t → ⊥) → Others g
  others g birth born ne e =
      let same : birth ≡ h.top.goes.birth = let both : Some birth ≡ Some h.top.goes.birth = sym born ∙ ap (λ n. slice_get fit.births n) e ∙ h.top.goes.born in cc in
      ne (ap (λ (b : Birth). b.item) same ∙ h.top.goes.item)

  -- the thread goes on in the caller
  module _ (value : Cell) (c : Caller) (callers : List Caller) (u : Shape) (n : ℕ) (lt : c.frame.number < gone.number) (waits : IsCaller code fit.births m.store t c u) (none : s.blocks ≡ [])
      (int : HasKind code fit.births kind.Int value) (below : own_blocks u + n ≡ h.below) (rest : AreCallers code fit.births m.store t (life_at fit.lives t).start c.frame u callers n) where
    abbrev back : Thread
    back = record m.current { place = c.place; frame = c.frame; operands = value ∷ c.operands; callers = callers }

    back_thread : IsThread code fit.births left m.blocks t (life_at fit.lives t).start back
    back_thread =
        let kept = activation_carried code fit.births fit.births (λ n b e. e) m.store left Others (left_carries m.store gone) t c.place c.frame c.operands waits.kinds u
        (λ e. absurd (omega (arith, lt, e))) waits.activation in
        let zero_more : 0 + h.below ≡ h.below = omega arith in
        let all : own_blocks s + h.below ≡ own_blocks u + n = ap (λ blocks. own_in (length s.bodies) blocks + h.below) none ∙ zero_more ∙ sym below in
        record {
          shape = u;
          top = record {
            reached = kept.reached;
            have = subst (λ ks. HaveKinds code fit.births ks (value ∷ c.operands)) (sym waits.one) (int, kept.have);
            bodies = kept.bodies;
            goes = kept.goes;
            blocks = kept.blocks;
          };
          below = n;
          callers = callers_carried code fit.births fit.births (λ n b e. e) m.store left Others (left_carries m.store gone) t gone.number (life_at fit.lives t).start c.frame u callers n
              (λ g b born is l e. absurd (omega (arith, l, e))) (omega (arith, lt)) rest;
          entered = subst (λ j. HasEntered m.blocks t (life_at fit.lives t).start j m.current.block) all h.entered;
        }

    returned : IsFit code (record m { store = left; current = back; count = counted m.count })
    returned = own_fit code m fit t run fit.births (λ n b e. e) left Others (left_carries m.store gone) (left_store code fit.births m.store gone fit.store) others m.shared back
        (counted m.count) back_thread refl

  return_to : (value : Cell) (f : FrameId) (shape : Shape) (callers : List Caller) (n : ℕ) → f ≡ gone → n ≡ h.below → s.blocks ≡ [] → HasKind code fit.births kind.Int value
      → AreCallers code fit.births m.store t (life_at fit.lives t).start f shape callers n → Fits (returns m value callers)
  return_to value _ _ _ _ ef en none int (bottom f shape b) = tt
  return_to value _ _ _ _ ef en none int (above f shape c callers u n one lt waits rest) =
      returned value c callers u n (subst (λ (g : FrameId). c.frame.number < g.number) ef lt) waits none int en rest

  -- the value is there
  pub return_top : (leads : Leads) → effect code place i.Ret s ≡ Some leads → (x : Cell) × ((below : List Cell) × (ops ≡ x ∷ below))
  return_top leads finds =
      let c = if_is (can_return s) (Some Stop) leads finds in
      let p = and_parts (nat_eq (length s.bodies) 1) (nat_eq (length s.blocks) 0 && is_int_alone s.operands) c.0 in
      some_top s.operands ops (and_parts (nat_eq (length s.blocks) 0) (is_int_alone s.operands) p.1).1 h.top.have

  pub return_fit : (leads : Leads) → effect code place i.Ret s ≡ Some leads → Fits (begin code bound m t (Some i.Ret))
  return_fit leads finds =
      let c = if_is (can_return s) (Some Stop) leads finds in
      let p = and_parts (nat_eq (length s.bodies) 1) (nat_eq (length s.blocks) 0 && is_int_alone s.operands) c.0 in
      let q = and_parts (nat_eq (length s.blocks) 0) (is_int_alone s.operands) p.1 in
      let o = return_top leads finds in
      top_on (IsFit code) m (λ x below. returns m (cell.Int (int_in x)) m.current.callers) ops o.0 o.1.0 o.1.1
      (return_to (cell.Int (int_in o.0)) gone s m.current.callers h.below refl refl (no_blocks s.blocks q.0) tt h.callers)
    where
      no_blocks : (blocks : List OpenBlock) → nat_eq (length blocks) 0 ≡ true → blocks ≡ []
      no_blocks [] e = refl
      no_blocks (b ∷ blocks) e = let no : suc (length blocks) ≡ 0 = grind (arith, nat_tests) in absurd (omega (arith, no))
