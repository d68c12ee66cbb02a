-- What valid code finds where it stands: operands of the kinds that its instruction takes, and slots, frames and blocks that live.
-- From the invariant of code_safety (`IsFit`) each `*_there` lemma reads one such fact; `finds` goes through the instructions and gives each what it needs.
-- Functions that execute an instruction ask for these facts in their contracts.
use Rattle.std.proofs.Common.{◌≡◌, ℕ, zero, suc, ◌+◌, ◌≤◌, ◌<◌, ◌^◌, List, [], ◌∷◌, length, take, Bool, Option, Some, None, true, false, refl, sym, ap, ◌∙◌, subst, arith}
use Rattle.std.specs.Prelude.{if◌then◌else◌, IfSome, slice_get, nat_le, nat_lt, nat_eq, replicate, reverse}
use Rattle.std.proofs.lemmas.Bool.Decides.{nat_tests}
use Rattle.std.proofs.lemmas.Bool.{and_parts}
use Rattle.std.proofs.lemmas.List.{length-replicate, length-reverse, length-take-le}
use Rattle.std.proofs.lemmas.Option.{slice_get_within, get_or_from_slice_get}
use Rattle.work_item.specs.declared.ids.Item.{Item}
use Rattle.work_item.specs.declared.ids.FrameId.{FrameId}
use Rattle.work_item.specs.declared.cell.Cell.{Cell}
use Rattle.work_item.specs.declared.cell.Cell.TheVariants as cell
use Rattle.work_item.specs.Store.{Store, frame_at, no_cells, cells_of, above, place_in, parent_or, parent_is}
use Rattle.work_item.specs.Conditions.{HomeLives, HasParent, HasLevel, IsGoing}
use Rattle.core_state.specs.Frames.{argument, arguments}
use Rattle.core_operators.specs.Carrying.{MakesMessage}
use Rattle.stack_code.specs.declared.instr.Instr.{Instr}
use Rattle.stack_code.specs.declared.instr.Instr.TheVariants as i
use Rattle.stack_code.specs.declared.shape.CellKind.{CellKind}
use Rattle.stack_code.specs.declared.shape.CellKind.TheVariants as kind
use Rattle.stack_code.specs.declared.shape.Body.{Body}
use Rattle.stack_code.specs.declared.shape.Shape.{Shape}
use Rattle.stack_code.specs.declared.shape.Want.{Want}
use Rattle.stack_code.specs.declared.shape.Want.TheVariants as want
use Rattle.stack_code.specs.declared.shape.Leads.{Leads}
use Rattle.stack_code.specs.declared.shape.Leads.TheVariants.{Two}
use Rattle.stack_code.specs.Parts.{Parts}
use Rattle.stack_code.specs.Shapes as shapes
use Rattle.stack_code.specs.Shapes.{after, channels_of, width_of, first, pushed, body_with, pushes, goes, effect, is_int_alone, can_return, directives_in, want_of, on_some, is_entered}
use Rattle.stack_code.specs.Valid.{IsValid, IsWidth, HasRoom}
use Rattle.code_meaning.specs.Machine.{Flat}
use Rattle.code_safety.specs.Fit.{Birth, is_int, HasKind, HaveKinds, AreBodies, last, more, IsThread, IsFit, life_at}
use Rattle.code_safety.specs.Living.{as_running, AllReferToLiving, NamesLiving}
use Rattle.code_safety.proofs.Taken.{on_some_is, if_is, after_is, IsMessage, IsWanted, Top, top_of, many_of}
use Rattle.code_safety.proofs.Arguments.{AreArguments, arguments_of}
use Rattle.code_safety.proofs.Plain.{in_frame}
use Rattle.code_safety.proofs.Own.{thread_of}
use Rattle.code_safety.proofs.Calling.{call_enough}
use Rattle.thread_table.specs.Operands.{is_reference, on_top}
use Rattle.core_machine.specs.inner.Operands.{Stand, first_place, second_place}
use Rattle.core_machine.specs.inner.Needs.{HasInt, HasMessage, HasReference, HasInts, HasCell, HasArray, HasElement, HasCall, HasRequest, Finds}
use Rattle.core_machine.proofs.OpenSlots.{slot_of_entered, lie_there}
use Rattle.core_machine.proofs.Lives.{round_lives, finish_there, start_there, end_there}

-- the frames so many levels up live
levels_there : (births : List Birth) (s : Store) (bodies : List Body) (f : FrameId) (level : ℕ) (body : Body) → AreBodies births s bodies f → slice_get bodies level ≡ Some body → HasLevel s f level
levels_there births s _ _ zero body (last b f h) e = rw h.here refl
levels_there births s _ _ (suc level) body (last b f h) e = let no : None ≡ Some body = e in absurd (cc)
levels_there births s _ _ zero body (more b bodies f p h parent lt rest) e = rw h.here refl
levels_there births s _ _ (suc level) body (more b bodies f p h parent lt rest) e =
    let up : parent_or f (frame_at s f) ≡ p = ap (parent_or f) h.here ∙ ap (parent_is f) parent in
    let has : HasParent s f = rw (h.here, parent) refl in
    (has, subst (λ g. HasLevel s g level) (sym up) (levels_there births s bodies p level body rest e))

-- an argument of the kind of its parameter stands in its slot as it is
same_argument : (code : Parts) (births : List Birth) (array : Bool) (x : Cell) → IsWanted code births (want_of array) x → argument array x ≡ x
same_argument code births true (cell.Int v) h = absurd h
same_argument code births true (cell.Array place) h = refl
same_argument code births true (cell.Block b) h = absurd h
same_argument code births false (cell.Int v) h = refl
same_argument code births false (cell.Array place) h = let no : false ≡ true = h in cc
same_argument code births false (cell.Block b) h = let no : false ≡ true = h in cc

same_arguments : (code : Parts) (births : List Birth) (params : List Bool) (xs : List Cell) → length xs ≡ length params → AreArguments code births params xs → arguments params xs ≡ xs
same_arguments code births [] [] l h = refl
same_arguments code births [] (x ∷ xs) l h = absurd (omega (arith, l))
same_arguments code births (a ∷ params) [] l h = absurd h
same_arguments code births (a ∷ params) (x ∷ xs) l h =
    let first = same_argument code births a x h.0 in
    let rest = same_arguments code births params xs (omega (arith, l)) h.1 in
    ap (λ y. y ∷ arguments params xs) first ∙ ap (λ ys. x ∷ ys) rest

-- the array of the reference below the topmost operand
home_there : (s : Store) (operands : List Cell) → AllReferToLiving s operands → HomeLives s (second_place operands).home
home_there s [] h = tt
home_there s (x ∷ []) h = tt
home_there s (x ∷ cell.Int value ∷ below) h = tt
home_there s (x ∷ cell.Array place ∷ below) h = h.1.0
home_there s (x ∷ cell.Block b ∷ below) h = tt

-- the array of the reference on top
first_home : (s : Store) (operands : List Cell) → AllReferToLiving s operands → HomeLives s (first_place operands).home
first_home s [] h = tt
first_home s (cell.Int value ∷ below) h = tt
first_home s (cell.Array place ∷ below) h = h.0
first_home s (cell.Block b ∷ below) h = tt

module _ (code : Parts) (bound : ℕ) (m : Flat) (fit : IsFit code m) (t : Item) (run : m.running ≡ Some t) (v : IsValid code) (names : NamesLiving m) where
  abbrev pub own : IsThread code fit.births m.store m.blocks t (life_at fit.lives t).start m.current
  own = thread_of code m fit t run

  abbrev s : Shape
  s = own.shape

  abbrev store : Store
  store = m.store

  abbrev ops : List Cell
  ops = m.current.operands

  level_there : (level slot len : ℕ) (body : Body) → body_with s level slot len ≡ Some body → HasLevel store m.current.frame level
  level_there level slot len body e =
      let found = on_some_is (slice_get s.bodies level) (λ (b : Body). if nat_le (slot + len) b.slots then Some b else None) body e in
      levels_there fit.births store s.bodies m.current.frame level found.0 own.top.bodies found.1.0

  slots_there : (level slot len : ℕ) (body : Body) → body_with s level slot len ≡ Some body → slot + len ≤ length (cells_of store (above store m.current.frame level))
  slots_there level slot len body e =
      let there = in_frame fit.births store m.current.frame s level slot len body own.top.bodies e in
      let up = there.up in
      let long : length (cells_of store (above store m.current.frame level)) ≡ body.slots = ap (λ o. length (no_cells o)) up.here ∙ up.slots in
      let room = there.slots in
      omega (arith, long, room)

  cell_there : (level slot : ℕ) (body : Body) → body_with s level slot 1 ≡ Some body → HasCell m level slot
  cell_there level slot body e = let room = slots_there level slot 1 body e in (level_there level slot 1 body e, omega (arith, room))

  top_there : (w : Want) (wants : List Want) (go : Shape → Option Leads) (leads : Leads) → after (w ∷ wants) s go ≡ Some leads → (left : List CellKind) × Top code fit.births w wants left ops
  top_there w wants go leads e =
      let a = after_is (w ∷ wants) s go leads e in
      (a.0, top_of code fit.births w wants s.operands a.0 ops a.1.0 own.top.have)

  int_there : (wants : List Want) (go : Shape → Option Leads) (leads : Leads) → after (want.Int ∷ wants) s go ≡ Some leads → HasInt m
  int_there wants go leads e = let o = (top_there want.Int wants go leads e).1 in subst (λ l. on_top is_int l ≡ true) (sym o.is) o.wanted

  one_there : (w : Want) (wants : List Want) (go : Shape → Option Leads) (leads : Leads) → after (w ∷ wants) s go ≡ Some leads → 1 ≤ length ops
  one_there w wants go leads e = let o = (top_there w wants go leads e).1 in let l : length ops ≡ suc (length o.below) = ap length o.is in omega (arith, l)

  ints_there : (go : Shape → Option Leads) (leads : Leads) → after (want.Int ∷ want.Int ∷ []) s go ≡ Some leads → HasInts m
  ints_there go leads e =
      let t = top_there want.Int (want.Int ∷ []) go leads e in
      let o = t.1 in
      let p = top_of code fit.births want.Int [] o.kinds t.0 o.below o.taken o.have in
      let below : Stand (is_int ∷ []) o.below = subst (Stand (is_int ∷ [])) (sym p.is) (p.wanted, tt) in
      subst (Stand (is_int ∷ is_int ∷ [])) (sym o.is) (o.wanted, below)

  reference_there : (x : Cell) → HasKind code fit.births (kind.Reference None) x → (is_reference x ≡ true) × ((place_in x).start + (place_in x).len < 2 ^ 32)
  reference_there (cell.Int value) h = absurd h
  reference_there (cell.Array place) h = (refl, h.short)
  reference_there (cell.Block b) h = absurd h

  many_are_reference : (count : ℕ) (x : Cell) → HasKind code fit.births (kind.Reference (Some count)) x → is_reference x ≡ true
  many_are_reference count (cell.Int value) h = absurd h
  many_are_reference count (cell.Array place) h = refl
  many_are_reference count (cell.Block b) h = absurd h

  elements_there : (count : ℕ) (go : Shape → Option Leads) (leads : Leads) → after (want.Elements count ∷ []) s go ≡ Some leads → HasReference m
  elements_there count go leads e =
      let o = (top_there (want.Elements count) [] go leads e).1 in
      subst (λ l. on_top is_reference l ≡ true) (sym o.is) (many_are_reference count o.top o.wanted)

  -- the width of a channel is that of a message
  width_there : (channel : ℕ) → nat_lt channel (channels_of code) ≡ true → IsWidth (width_of code channel)
  width_there channel t =
      let links = v.lists.links in
      let each : length code.capacities ≡ length code.ends + length code.entries = links.each in
      let wide : length code.widths ≡ length code.ends = links.wide in
      let below : channel < channels_of code = grind (arith, nat_tests) in
      links.widths channel 0 (omega (arith, each, wide, below))

  makes_message : (count : ℕ) (x : Cell) → IsWidth count → HomeLives store (place_in x).home → IsMessage code fit.births count x → MakesMessage store x
  makes_message count (cell.Int value) w home k = tt
  makes_message count (cell.Array place) w home k =
      let many : place.len ≡ count = k.exact count refl in
      let least = w.0 in
      let most = w.1 in
      (home, (omega (arith, many, least), omega (arith, many, most)))
  makes_message count (cell.Block b) w home k = absurd k

  message_there : (channel : ℕ) (leads : Leads) → effect code m.current.place (i.Send channel) s ≡ Some leads → HasMessage m
  message_there channel leads e =
      let count = width_of code channel in
      let go = pushes m.current.place kind.Int in
      let c = if_is (nat_lt channel (channels_of code)) (after (want.Message count ∷ []) s go) leads e in
      let o = (top_there (want.Message count) [] go leads c.1).1 in
      let home = subst (λ l. HomeLives store (first_place l).home) o.is (first_home store ops (names.threads t m.current (as_running t run)).0.1) in
      let makes = makes_message count o.top (width_there channel c.0) home o.wanted in
      (one_there (want.Message count) [] go leads c.1, subst (λ l. IfSome (slice_get l 0) (λ (x : Cell). MakesMessage store x)) (sym o.is) makes)

  array_there : (wants : List Want) (go : Shape → Option Leads) (leads : Leads) → after (want.Int ∷ want.Reference ∷ wants) s go ≡ Some leads → HasArray m
  array_there wants go leads e =
      let t = top_there want.Int (want.Reference ∷ wants) go leads e in
      let o = t.1 in
      let p = top_of code fit.births want.Reference wants o.kinds t.0 o.below o.taken o.have in
      let both : ops ≡ o.top ∷ p.top ∷ p.below = o.is ∙ ap (λ l. o.top ∷ l) p.is in
      let r = reference_there p.top p.wanted in
      let stand : Stand (is_int ∷ is_reference ∷ []) ops = subst (Stand (is_int ∷ is_reference ∷ [])) (sym both) (o.wanted, (r.0, tt)) in
      (stand, subst (λ l. (second_place l).start + (second_place l).len < 2 ^ 32) (sym both) r.1)

  element_there : (wants : List Want) (go : Shape → Option Leads) (leads : Leads) → after (want.Int ∷ want.Reference ∷ wants) s go ≡ Some leads → HasElement m
  element_there wants go leads e = (array_there wants go leads e, home_there store ops (names.threads t m.current (as_running t run)).0.1)

  three_there : (go : Shape → Option Leads) (leads : Leads) → after (want.Int ∷ want.Reference ∷ want.Int ∷ []) s go ≡ Some leads → Stand (is_int ∷ is_reference ∷ is_int ∷ []) ops
  three_there go leads e =
      let t = top_there want.Int (want.Reference ∷ want.Int ∷ []) go leads e in
      let o = t.1 in
      let p = top_of code fit.births want.Reference (want.Int ∷ []) o.kinds t.0 o.below o.taken o.have in
      let q = top_of code fit.births want.Int [] p.kinds t.0 p.below p.taken p.have in
      let all : ops ≡ o.top ∷ p.top ∷ q.top ∷ q.below = o.is ∙ ap (λ l. o.top ∷ l) (p.is ∙ ap (λ l. p.top ∷ l) q.is) in
      subst (Stand (is_int ∷ is_reference ∷ is_int ∷ [])) (sym all) (o.wanted, ((reference_there p.top p.wanted).0, (q.wanted, tt)))

  request_there : (file : ℕ) (leads : Leads) → shapes.transfers m.current.place file s ≡ Some leads → HasRequest m
  request_there file leads e =
      let wants = (if_is (nat_lt file 16) (after (want.Reference ∷ want.Int ∷ want.Int ∷ []) s (pushes m.current.place kind.Int)) leads e).1 in
      let a = top_there want.Reference (want.Int ∷ want.Int ∷ []) (pushes m.current.place kind.Int) leads wants in
      let o = a.1 in
      let p = top_of code fit.births want.Int (want.Int ∷ []) o.kinds a.0 o.below o.taken o.have in
      let q = top_of code fit.births want.Int [] p.kinds a.0 p.below p.taken p.have in
      let all : ops ≡ o.top ∷ p.top ∷ q.top ∷ q.below = o.is ∙ ap (λ l. o.top ∷ l) (p.is ∙ ap (λ l. p.top ∷ l) q.is) in
      let long : length ops ≡ suc (suc (suc (length q.below))) = ap length all in
      record {
        three = omega (arith, long);
        home = first_home store ops (names.threads t m.current (as_running t run)).0.1;
      }

  last_there : (kinds : List CellKind) (operands : List Cell) → is_int_alone kinds ≡ true → HaveKinds code fit.births kinds operands → on_top is_int operands ≡ true
  last_there [] operands e h = let no : false ≡ true = e in cc
  last_there (kind.Int ∷ kinds) [] e h = absurd h
  last_there (kind.Int ∷ kinds) (cell.Int v ∷ below) e h = refl
  last_there (kind.Int ∷ kinds) (cell.Array place ∷ below) e h = absurd h.0
  last_there (kind.Int ∷ kinds) (cell.Block b ∷ below) e h = absurd h.0
  last_there (kind.Reference len ∷ kinds) operands e h = let no : false ≡ true = e in cc

  ret_there : (leads : Leads) → effect code m.current.place i.Ret s ≡ Some leads → HasInt m × IsGoing store m.current.frame
  ret_there leads e =
      let c = if_is (can_return s) _ leads e in
      let last = (and_parts (nat_eq (length s.bodies) 1) _ c.0).1 in
      let going : IsGoing store m.current.frame = rw own.top.goes.here own.top.goes.going in
      (last_there s.operands ops (and_parts (nat_eq (length s.blocks) 0) (is_int_alone s.operands) last).1 own.top.have, going)

  print_there : (text count : ℕ) (leads : Leads) → effect code m.current.place (i.Print text count) s ≡ Some leads → (text < length code.texts) × (count ≤ length ops)
  print_there text count leads e =
      let t = on_some_is (slice_get code.texts text) _ leads e in
      let c = if_is (nat_eq count (directives_in t.0)) _ leads t.1.1 in
      let a = after_is (replicate count want.Int) s (goes m.current.place) leads c.1 in
      let o = many_of code fit.births (replicate count want.Int) s.operands a.0 ops a.1.0 own.top.have in
      let long : length (replicate count want.Int) ≡ count = length-replicate count want.Int in
      (slice_get_within code.texts text t.0 t.1.0, omega (arith, o.enough, long))

  call_there : (number count : ℕ) (leads : Leads) → effect code m.current.place (i.Call number count) s ≡ Some leads → HasCall code ops number count
  call_there number count leads e =
      let f = on_some_is (slice_get code.functions number) (shapes.calls m.current.place number count s) leads e in
      let c = if_is (nat_eq count (length f.0.params)) _ leads f.1.1 in
      let many : length f.0.params ≡ count = let b = c.0 in grind (arith, nat_tests) in
      let ways = (λ (x : Shape). Some (Two (m.current.place + 1) (pushed kind.Int x) f.0.at (first number f.0))) in
      let a = after_is (shapes.arguments f.0.params) s ways leads c.1 in
      let o = many_of code fit.births (shapes.arguments f.0.params) s.operands a.0 ops a.1.0 own.top.have in
      let wanted = subst (λ n. AreArguments code fit.births f.0.params (reverse (take n ops))) many (arguments_of code fit.births f.0.params ops o.wanted) in
      let each = v.lists.functions number f.0 (slice_get_within code.functions number f.0 f.1.0) in
      let room : HasRoom f.0 = subst HasRoom (get_or_from_slice_get code.functions number f.0 f.0 f.1.0) each in
      let enough = call_enough code bound m fit t run v number count leads e in
      let long = length-reverse (take count ops) ∙ length-take-le count ops enough ∙ sym many in
      record {
        function = f.0;
        is = f.1.0;
        enough = enough;
        room = omega (arith, room, many);
        same = same_arguments code fit.births f.0.params (reverse (take count ops)) long wanted;
      }

  cancel_there : (level slot : ℕ) (leads : Leads) → effect code m.current.place (i.Cancel level slot) s ≡ Some leads → HasCell m level slot
  cancel_there level slot leads e =
      let f = on_some_is (slice_get s.bodies level) (λ body. if is_entered s level slot then goes m.current.place s else None) leads e in
      let c = if_is (is_entered s level slot) (goes m.current.place s) leads f.1.1 in
      let room = slot_of_entered (length s.bodies) level slot s.bodies s.blocks f.0 refl f.1.0 (lie_there code m.current.place s own.top.reached) c.0 in
      let fits : nat_le (slot + 1) f.0.slots ≡ true = grind (arith, nat_tests) in
      let body : body_with s level slot 1 ≡ Some f.0 =
      ap (λ o. on_some o (λ (b : Body). if nat_le (slot + 1) b.slots then Some b else None)) f.1.0 ∙ ap (λ (z : Bool). if z then Some f.0 else None) fits in
      cell_there level slot f.0 body

  global_there : (slot : ℕ) (o : Option Leads) (leads : Leads) → (if nat_lt slot code.globals then o else None) ≡ Some leads → slot < length store.globals
  global_there slot o leads e =
      let t = (if_is (nat_lt slot code.globals) o leads e).0 in
      let lt : slot < code.globals = grind (arith, nat_tests) in
      omega (arith, lt, fit.store.globals)

  -- One case for each instruction: its effect on the shape says which operands and slots are there, and `IsFit` says that the state has this shape.
  pub finds : (instr : Instr) (leads : Leads) → slice_get code.instrs m.current.place ≡ Some instr → effect code m.current.place instr s ≡ Some leads → Finds code m instr
  finds i.Step leads here e = tt
  finds (i.Push value) leads here e = tt
  finds (i.Load level slot) leads here e =
      let b = on_some_is (body_with s level slot 1) _ leads e in
      cell_there level slot b.0 b.1.0
  finds (i.LoadG slot) leads here e = global_there slot _ leads e
  finds (i.Store level slot) leads here e =
      let b = on_some_is (body_with s level slot 1) _ leads e in
      (cell_there level slot b.0 b.1.0, int_there [] (goes m.current.place) leads b.1.1)
  finds (i.StoreG slot) leads here e = (global_there slot _ leads e, int_there [] (goes m.current.place) leads (if_is (nat_lt slot code.globals) _ leads e).1)
  finds (i.Arr level slot len) leads here e =
      let b = on_some_is (body_with s level slot len) _ leads e in
      level_there level slot len b.0 b.1.0
  finds (i.ArrG slot len) leads here e = tt
  finds i.Elem leads here e = element_there [] (pushes m.current.place kind.Int) leads e
  finds i.SetElem leads here e = (element_there (want.Int ∷ []) (goes m.current.place) leads e, three_there (goes m.current.place) leads e)
  finds i.Place leads here e = array_there [] (pushes m.current.place (kind.Reference (Some 1))) leads e
  finds (i.Clear slot len) leads here e =
      let b = on_some_is (body_with s 0 slot len) _ leads e in
      (level_there 0 slot len b.0 b.1.0, slots_there 0 slot len b.0 b.1.0)
  finds i.Neg leads here e = int_there [] (pushes m.current.place kind.Int) leads e
  finds i.Not leads here e = int_there [] (pushes m.current.place kind.Int) leads e
  finds i.Flip leads here e = int_there [] (pushes m.current.place kind.Int) leads e
  finds i.Bool leads here e = int_there [] (pushes m.current.place kind.Int) leads e
  finds i.BitOr leads here e = ints_there (pushes m.current.place kind.Int) leads e
  finds i.BitXor leads here e = ints_there (pushes m.current.place kind.Int) leads e
  finds i.BitAnd leads here e = ints_there (pushes m.current.place kind.Int) leads e
  finds i.Eq leads here e = ints_there (pushes m.current.place kind.Int) leads e
  finds i.Ne leads here e = ints_there (pushes m.current.place kind.Int) leads e
  finds i.Less leads here e = ints_there (pushes m.current.place kind.Int) leads e
  finds i.LessEq leads here e = ints_there (pushes m.current.place kind.Int) leads e
  finds i.More leads here e = ints_there (pushes m.current.place kind.Int) leads e
  finds i.MoreEq leads here e = ints_there (pushes m.current.place kind.Int) leads e
  finds i.Shl leads here e = ints_there (pushes m.current.place kind.Int) leads e
  finds i.Shr leads here e = ints_there (pushes m.current.place kind.Int) leads e
  finds i.Add leads here e = ints_there (pushes m.current.place kind.Int) leads e
  finds i.Sub leads here e = ints_there (pushes m.current.place kind.Int) leads e
  finds i.Mul leads here e = ints_there (pushes m.current.place kind.Int) leads e
  finds i.Div leads here e = ints_there (pushes m.current.place kind.Int) leads e
  finds i.Rem leads here e = ints_there (pushes m.current.place kind.Int) leads e
  finds i.Drop leads here e = one_there want.Any [] (goes m.current.place) leads e
  finds (i.Jump to) leads here e = tt
  finds (i.Jz to) leads here e = int_there [] (λ t. Some (Two (m.current.place + 1) t to t)) leads e
  finds (i.Jnz to) leads here e = int_there [] (λ t. Some (Two (m.current.place + 1) t to t)) leads e
  finds (i.Print text count) leads here e = print_there text count leads e
  finds (i.Call number count) leads here e = call_there number count leads e
  finds i.Ret leads here e = ret_there leads e
  finds (i.Enter slot) leads here e =
      let b = on_some_is (body_with s 0 slot 1) _ leads e in
      let cell = cell_there 0 slot b.0 b.1.0 in
      record { frame = cell.0; has = cell.1; round = round_lives code m fit t run }
  finds (i.Finish slot) leads here e = finish_there code bound m fit t run slot here leads e
  finds (i.Async slots to) leads here e = start_there code bound m fit t run v slots to here leads e
  finds i.End leads here e = end_there code bound m fit t run leads e
  finds i.Yield leads here e = tt
  finds (i.Cancel level slot) leads here e = cancel_there level slot leads e
  finds (i.Send channel) leads here e = message_there channel leads e
  finds (i.Recv channel) leads here e =
      elements_there (width_of code channel) (pushes m.current.place kind.Int) leads (if_is (nat_lt channel (channels_of code)) _ leads e).1
  finds (i.Read file) leads here e = request_there file leads e
  finds (i.Write file) leads here e = request_there file leads e
