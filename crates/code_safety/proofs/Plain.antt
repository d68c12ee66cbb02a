-- Where an instruction that concerns its own thread alone leads: to one of the ways of its address, with operands of the kinds that are
-- left.
-- `Next` says it once for all such instructions: what changed of the state, that it is as the shape of the way asks, and whether a step was
-- used. Fitness, falling weights and chains are then each one proof from `Next`.
use Rattle.std.proofs.Common.{◌≡◌, ℕ, zero, suc, ◌+◌, ◌≤◌, ◌<◌, ◌^◌, List, [], ◌∷◌, ◌++◌, length, take, drop, map, Option}
use Rattle.std.proofs.Common.{Some, None, Result, Ok, Err, Bool, true, false, refl, sym, ap, ◌∙◌, subst, inl, inr, arith}
use Rattle.std.specs.Prelude.{if◌then◌else◌, ℤ, pos, negsuc, slice_get, slice_index_or, nat_le, nat_lt, nat_eq, replicate, reverse, option_map}
use Rattle.std.proofs.lemmas.Bool.Decides.{nat_tests}
use Rattle.std.proofs.lemmas.List.{length-replicate}
use Rattle.std.proofs.lemmas.Option.{slice_get-get_or}
use Rattle.ac_base.specs.declared.ends.Trap.{Trap}
use Rattle.ac_base.specs.declared.ends.Trap.TheVariants.{Index, OutputFull}
use Rattle.ac_base.specs.declared.ends.EndWord.TheVariants as word
use Rattle.work_item.specs.declared.ids.Item.{Item}
use Rattle.work_item.specs.declared.ids.FrameId.{FrameId}
use Rattle.work_item.specs.declared.cell.Cell.{Cell}
use Rattle.work_item.specs.declared.cell.Cell.TheVariants as cell
use Rattle.work_item.specs.declared.cell.Place.{Place}
use Rattle.work_item.specs.Store.{Store, cells_of, no_cells, cell_at, place_in, int_in, no_int, global_at, with_int_at, with_cell_at, with_global, with_cleared, above, parent_or, parent_is}
use Rattle.work_item.specs.Store.{frame_at}
use Rattle.cancel_scope.specs.declared.operation.Asked.{Asked}
use Rattle.core_state.specs.Moves.{Move, On, Over}
use Rattle.core_state.specs.Arrivals.{cancelled}
use Rattle.core_state.specs.Arithmetic.{Computed, at_zero, bind, truth, negated, not_true, flipped, sum_of, difference_of, product_of, quotient, remainder}
use Rattle.core_state.specs.Arithmetic.{shifted_left, shifted_right, is_equal, is_not_equal, is_less, is_at_most, both_bits, either_bits, differing_bits}
use Rattle.core_state.specs.Frames.{within, element, set_element, one_place, part_at}
use Rattle.core_state.specs.Shared.{Shared, with_step, printed, formatted, output_limit}
use Rattle.stack_code.specs.declared.instr.Instr.{Instr}
use Rattle.stack_code.specs.declared.instr.Instr.TheVariants as i
use Rattle.stack_code.specs.declared.shape.CellKind.{CellKind}
use Rattle.stack_code.specs.declared.shape.CellKind.TheVariants as kind
use Rattle.stack_code.specs.declared.shape.Home.{Home}
use Rattle.stack_code.specs.declared.shape.Body.{Body}
use Rattle.stack_code.specs.declared.shape.Shape.{Shape}
use Rattle.stack_code.specs.declared.shape.Want.TheVariants as want
use Rattle.stack_code.specs.declared.shape.Leads.{Leads}
use Rattle.stack_code.specs.declared.shape.Leads.TheVariants.{One, Two}
use Rattle.stack_code.specs.Parts.{Parts}
use Rattle.stack_code.specs.Shapes.{on_some, after, body_with, pushed, pushes, goes, with_operands, loaded, is_array, directives_in, effect, LeadsTo}
use Rattle.stack_code.specs.Valid as valid
use Rattle.stack_code.specs.Valid.{Goes, Uses, AsInt, HasOneUse, home_at, use_of, ints_of}
use Rattle.code_meaning.specs.Machine as flat
use Rattle.code_meaning.specs.Machine.{Flat, FlatEnd, seen_of, with_shared, with_store, begin, counted, at, or_trap, on_top}
use Rattle.code_meaning.specs.Machine.{on_two, on_three, on_many, one_operand, two_operands, text_at, always}
use Rattle.code_safety.specs.Fit.{Birth, Born, HasKind, HaveKinds, IsIntArray, HoldsInts, IsSlot, IsStore, IsBody, AreBodies, last, more, IsActivation, is_int}
use Rattle.code_safety.proofs.Taken.{on_some_is, if_is, after_is, after_leads, none_wanted, top_of, many_of, int_kind}
use Rattle.code_safety.proofs.Settings.{KeepsStore, same_store, set_global, set_slot, clear_slots, set_element_at, used_as_int, no_array}

-- an instruction after which its thread goes on in the same activation, and which concerns no other thread and no block
abbrev pub is_plain : Instr → Bool
is_plain (i.Call function count) = false
is_plain i.Ret = false
is_plain (i.Enter slot) = false
is_plain (i.Finish slot) = false
is_plain (i.Async slots to) = false
is_plain i.End = false
is_plain (i.Cancel level slot) = false
is_plain i.Yield = false
is_plain (i.Send channel) = false
is_plain (i.Recv channel) = false
is_plain (i.Read file) = false
is_plain (i.Write file) = false
is_plain _ = true

-- the state to which a move leads, if it leads to one
abbrev pub Onward : (Flat → Type 0) → Move Flat FlatEnd → Type 0
Onward P (On m) = P m
Onward P (Over e) = Unit {0}

pub on_both : (P Q : Flat → Type 0) (x : Move Flat FlatEnd) → Onward P x → Onward Q x → Onward (λ n. P n × Q n) x
on_both P Q (On m) p q = (p, q)
on_both P Q (Over e) p q = tt

pub on_each : (P Q : Flat → Type 0) (x : Move Flat FlatEnd) → ((n : Flat) → P n → Q n) → Onward P x → Onward Q x
on_each P Q (On m) f p = f m p
on_each P Q (Over e) f p = tt

-- a `Step` uses one of the steps, and nothing else does
pub data Spends (bound : ℕ) (instr : Instr) (before after : ℕ) : Type 0 where
  one : instr ≡ i.Step → before < bound → after ≡ before + 1 → Spends bound instr before after
  none : (instr ≡ i.Step → ⊥) → after ≡ before → Spends bound instr before after

pub record Next (code : Parts) (bound : ℕ) (m : Flat) (births : List Birth) (s : Shape) (instr : Instr) (next : Flat) : Type 0 where
  pub shape : Shape
  pub goes : Goes code m.current.place s next.current.place shape
  pub bodies : shape.bodies ≡ s.bodies
  pub blocks : shape.blocks ≡ s.blocks
  pub operands : HaveKinds code births shape.operands next.current.operands
  pub store : KeepsStore code births m.store next.store
  pub spends : Spends bound instr m.shared.steps next.shared.steps
  pub others : next ≡ record m { shared = next.shared; store = next.store; current = at m.current next.current.place next.current.operands; count = next.count }

-- ---- moves that take operands

module _ (P : Flat → Type 0) (m : Flat) where
  pub top_on : (go : Cell → List Cell → Move Flat FlatEnd) (ops : List Cell) (x : Cell) (below : List Cell) → ops ≡ x ∷ below → Onward P (go x below) → Onward P (on_top m go ops)
  top_on go ops x below e h = subst (λ l. Onward P (on_top m go l)) (sym e) h

  pub two_on : (go : Cell → Cell → List Cell → Move Flat FlatEnd) (ops : List Cell) (y x : Cell) (below : List Cell) → ops ≡ y ∷ x ∷ below → Onward P (go x y below) → Onward P (on_two m go ops)
  two_on go ops y x below e h = subst (λ l. Onward P (on_two m go l)) (sym e) h

  pub three_on : (go : Cell → Cell → Cell → List Cell → Move Flat FlatEnd) (ops : List Cell) (z y x : Cell) (below : List Cell) → ops ≡ z ∷ y ∷ x ∷ below → Onward P (go x y z below)
      → Onward P (on_three m go ops)
  three_on go ops z y x below e h = subst (λ l. Onward P (on_three m go l)) (sym e) h

  pub many_on : (count : ℕ) (go : List Cell → List Cell → Move Flat FlatEnd) (ops : List Cell) → count ≤ length ops → Onward P (go (reverse (take count ops)) (drop count ops))
      → Onward P (on_many m count go ops)
  many_on count go ops le h = let t : nat_le count (length ops) ≡ true = grind (arith, nat_tests) in
      subst (λ (b : Bool). Onward P (if b then go (reverse (take count ops)) (drop count ops) else On m)) (sym t) h

  -- an operation that starts: its value is there, or its thread waits
  pub asks_on : (t : Item) (link : ℕ) (a : Asked) (below : List Cell) → Onward P (flat.goes m (cell.Int cancelled ∷ below)) → P (flat.operates m t link a below) → Onward P (flat.asks m t link a below)
  asks_on t link a below there waits = go (flat.is_cancelled m.blocks m.current.block)
    where
      go : (b : Bool) → Onward P (flat.asks_in b m t link a below)
      go true = there
      go false = waits

  pub trap_on : {A : Type 0} (r : Result A Trap) (go : A → Move Flat FlatEnd) → ((x : A) → r ≡ Ok x → Onward P (go x)) → Onward P (or_trap m r go)
  trap_on (Ok x) go h = h x refl
  trap_on (Err trap) go h = tt

below_len : (place : Place) (index : ℤ) (at : ℕ) → within place index ≡ Ok at → at < place.len
below_len place (pos n) at e = go (nat_lt n place.len) refl e
  where
    go : (b : Bool) → nat_lt n place.len ≡ b → ◌≡◌ {A = Result ℕ Trap} (if b then Ok n else Err Index) (Ok at) → at < place.len
    go true t e = let lt : n < place.len = grind (arith, nat_tests) in let same : n ≡ at = cc in subst (λ k. k < place.len) same lt
    go false t e = absurd (cc)
below_len place (negsuc n) at e = absurd (cc)

-- ---- frames round an activation

pub at_same_birth : (births : List Birth) (f : FrameId) (b c : Birth) → Born births f b → Born births f c → b ≡ c
at_same_birth births f b c h k = let both : Some b ≡ Some c = sym h ∙ k in cc

-- the frame of the body so many levels up
pub body_up : (births : List Birth) (s : Store) (bodies : List Body) (f : FrameId) (level : ℕ) (body : Body) → AreBodies births s bodies f → slice_get bodies level ≡ Some body
    → IsBody births s body (above s f level)
body_up births s _ _ zero body (last b f h) e = let same : b ≡ body = cc in subst (λ x. IsBody births s x f) same h
body_up births s _ _ (suc level) body (last b f h) e = let no : None ≡ Some body = e in cc
body_up births s _ _ zero body (more b bodies f p h parent lt rest) e = let same : b ≡ body = cc in subst (λ x. IsBody births s x f) same h
body_up births s _ _ (suc level) body (more b bodies f p h parent lt rest) e =
    let up : parent_or f (frame_at s f) ≡ p = ap (parent_or f) h.here ∙ ap (parent_is f) parent in
    subst (λ g. IsBody births s body (above s g level)) (sym up) (body_up births s bodies p level body rest e)

-- the slots lie in the frame of that body
pub record InFrame (births : List Birth) (store : Store) (f : FrameId) (s : Shape) (level slot len : ℕ) (body : Body) : Type 0 where
  pub up : IsBody births store body (above store f level)
  pub home : home_at s level ≡ Some body.home
  pub slots : slot + len ≤ body.slots

pub in_frame : (births : List Birth) (store : Store) (f : FrameId) (s : Shape) (level slot len : ℕ) (body : Body) → AreBodies births store s.bodies f → body_with s level slot len ≡ Some body
    → InFrame births store f s level slot len body
in_frame births store f s level slot len body bodies e =
    let found = on_some_is (slice_get s.bodies level) (λ (b : Body). if nat_le (slot + len) b.slots then Some b else None) body e in
    let room = if_is (nat_le (slot + len) found.0.slots) (Some found.0) body found.1.1 in
    let is : found.0 ≡ body = let both : Some found.0 ≡ Some body = room.1 in cc in
    let fits : slot + len ≤ found.0.slots = let t = room.0 in grind (arith, nat_tests) in
    record {
      up = body_up births store s.bodies f level body bodies (found.1.0 ∙ ap (λ x. Some x) is);
      home = ap (option_map (λ (b : Body). b.home)) (found.1.0 ∙ ap (λ x. Some x) is);
      slots = subst (λ (b : Body). slot + len ≤ b.slots) is fits;
    }

-- ---- instructions

some_is : (m n : ℕ) → Some m ≡ Some n → m ≡ n
some_is m n e = cc

module _ (code : Parts) (bound : ℕ) (m : Flat) (births : List Birth) (t : Item) (s : Shape) (single : HasOneUse code) (st : IsStore code births m.store)
    (fit : IsActivation code births m.store t m.current.place m.current.frame m.current.operands s.operands s) where
  abbrev store : Store
  store = m.store

  abbrev ops : List Cell
  ops = m.current.operands

  abbrev place : ℕ
  place = m.current.place

  -- the thread goes on at an address to which the instruction leads, with this shared part and this store
  pub went : (instr : Instr) (leads : Leads) (shape : Shape) (to : ℕ) (shared : Shared) (kept : Store) (operands : List Cell) → slice_get code.instrs place ≡ Some instr →
      effect code place instr s ≡ Some leads →
      LeadsTo leads to shape → shape.bodies ≡ s.bodies → shape.blocks ≡ s.blocks → HaveKinds code births shape.operands operands → KeepsStore code births store kept
      → Spends bound instr m.shared.steps shared.steps →
      Next code bound m births s instr (record m { shared = shared; store = kept; current = at m.current to operands; count = counted m.count })
  went instr leads shape to shared kept operands here finds onto bodies blocks have keeps uses = record {
    shape = shape;
    goes = record { fits = record { instr = instr; leads = leads; here = here; finds = finds }; leads = onto };
    bodies = bodies;
    blocks = blocks;
    operands = have;
    store = keeps;
    spends = uses;
    others = refl;
  }

  module _ (instr : Instr) (here : slice_get code.instrs place ≡ Some instr) (quiet : instr ≡ i.Step → ⊥) where
    abbrev Goal : Move Flat FlatEnd → Type 0
    Goal x = Onward (Next code bound m births s instr) x

    same_steps : Spends bound instr m.shared.steps m.shared.steps
    same_steps = none quiet refl

    pushed_on : (k : CellKind) (x : Cell) → effect code place instr s ≡ pushes place k s → HasKind code births k x → Goal (flat.goes m (x ∷ ops))
    pushed_on k x e h = went instr (One (place + 1) (pushed k s)) (pushed k s) (place + 1) m.shared store (x ∷ ops) here e (refl, refl) refl refl (h, fit.have)
        (same_store code births store st) same_steps

    -- what remains when the operands are taken
    left_on : (left : List CellKind) (shared : Shared) (kept : Store) (operands : List Cell) → effect code place instr s ≡ goes place (with_operands s left) → HaveKinds code births left operands →
        KeepsStore code births store kept →
        shared.steps ≡ m.shared.steps → Goal (flat.goes (with_store (with_shared m shared) kept) operands)
    left_on left shared kept operands e have keeps steps =
        went instr (One (place + 1) (with_operands s left)) (with_operands s left) (place + 1) shared kept operands here e (refl, refl) refl refl have keeps
        (none quiet steps)

    put_on : (left : List CellKind) (k : CellKind) (x : Cell) (operands : List Cell) → effect code place instr s ≡ pushes place k (with_operands s left) → HaveKinds code births left operands
        → HasKind code births k x →
        Goal (flat.goes m (x ∷ operands))
    put_on left k x operands e have h =
        went instr (One (place + 1) (pushed k (with_operands s left))) (pushed k (with_operands s left)) (place + 1) m.shared store (x ∷ operands) here e (refl, refl) refl refl (h, have)
        (same_store code births store st) same_steps

    pub unary_on : (f : ℤ → ℤ) (leads : Leads) → effect code place instr s ≡ after (want.Int ∷ []) s (pushes place kind.Int) → effect code place instr s ≡ Some leads → Goal (one_operand m f)
    unary_on f leads same e =
        let a = after_is (want.Int ∷ []) s (pushes place kind.Int) leads (sym same ∙ e) in
        let o = top_of code births want.Int [] s.operands a.0 ops a.1.0 fit.have in
        top_on (Next code bound m births s instr) m _ ops o.top o.below o.is
        (put_on a.0 kind.Int (cell.Int (f (int_in o.top))) o.below (same ∙ after_leads (want.Int ∷ []) s a.0 (pushes place kind.Int) a.1.0)
        (none_wanted code births o.kinds a.0 o.below o.taken o.have) tt)

    pub binary_on : (f : ℤ → ℤ → Computed) (leads : Leads) → effect code place instr s ≡ after (want.Int ∷ want.Int ∷ []) s (pushes place kind.Int) → effect code place instr s ≡ Some leads
        → Goal (two_operands m f)
    binary_on f leads same e =
        let a = after_is (want.Int ∷ want.Int ∷ []) s (pushes place kind.Int) leads (sym same ∙ e) in
        let o = top_of code births want.Int (want.Int ∷ []) s.operands a.0 ops a.1.0 fit.have in
        let p = top_of code births want.Int [] o.kinds a.0 o.below o.taken o.have in
        two_on (Next code bound m births s instr) m _ ops o.top p.top p.below (o.is ∙ ap (λ l. o.top ∷ l) p.is)
        (trap_on (Next code bound m births s instr) m (f (int_in p.top) (int_in o.top)) _
        (λ v _. put_on a.0 kind.Int (cell.Int v) p.below (same ∙ after_leads (want.Int ∷ want.Int ∷ []) s a.0 (pushes place kind.Int) a.1.0)
        (none_wanted code births p.kinds a.0 p.below p.taken p.have) tt))

    load_on : (level slot : ℕ) (body : Body) → instr ≡ i.Load level slot → effect code place instr s ≡ pushes place (loaded (is_array code body.home slot)) s
        → InFrame births store m.current.frame s level slot 1 body →
        Goal (flat.goes m (cell_at store m.current.frame level slot ∷ ops))
    load_on level slot body is e there =
        let up = there.up in
        let cells_are : cells_of store (above store m.current.frame level) ≡ up.frame.cells = ap no_cells up.here in
        let within : slot < length up.frame.cells = omega (arith, there.slots, up.slots) in
        let at_slot : slice_get up.frame.cells slot ≡ Some (cell_at store m.current.frame level slot) =
        subst (λ (cells : List Cell). slice_get up.frame.cells slot ≡ Some (slice_index_or cells slot no_int)) (sym cells_are) (slice_get-get_or up.frame.cells slot no_int within) in
        let f = st.frames (above store m.current.frame level) up.frame up.here in
        let home : f.birth.home ≡ body.home = ap (λ (x : Birth). x.home) (at_same_birth births (above store m.current.frame level) f.birth up.birth f.born up.born) ∙ up.home in
        let holds : IsSlot code births body.home slot (cell_at store m.current.frame level slot) =
        subst (λ (h : Home). IsSlot code births h slot (cell_at store m.current.frame level slot)) home (f.slots slot (cell_at store m.current.frame level slot) at_slot) in
        let uses : Uses code body.home slot (use_of (is_array code body.home slot)) = valid.loads place level s fit.reached (here ∙ ap (λ x. Some x) is) there.home in
        go (is_array code body.home slot) refl uses e holds
      where
        go : (b : Bool) → is_array code body.home slot ≡ b → Uses code body.home slot (use_of (is_array code body.home slot)) →
            effect code place instr s ≡ pushes place (loaded (is_array code body.home slot)) s → IsSlot code births body.home slot (cell_at store m.current.frame level slot) →
            Goal (flat.goes m (cell_at store m.current.frame level slot ∷ ops))
        go true t uses e holds = pushed_on (kind.Reference None) (cell_at store m.current.frame level slot) (e ∙ ap (λ b. pushes place (loaded b) s) t) (holds.array t)
        go false t uses e holds =
            let int : is_int (cell_at store m.current.frame level slot) ≡ true = holds.int (subst (λ b. Uses code body.home slot (use_of b)) t uses) in
            pushed_on kind.Int (cell_at store m.current.frame level slot) (e ∙ ap (λ b. pushes place (loaded b) s) t) (int_kind code births (cell_at store m.current.frame level slot) int)

    array_on : (level slot len : ℕ) (body : Body) → instr ≡ i.Arr level slot len → effect code place instr s ≡ pushes place (kind.Reference (Some len)) s
        → InFrame births store m.current.frame s level slot len body →
        Goal (flat.goes m (cell.Array (record { home = Some (above store m.current.frame level); start = slot; len = len }) ∷ ops))
    array_on level slot len body is e there =
        let up = there.up in
        let f = st.frames (above store m.current.frame level) up.frame up.here in
        let few : length up.frame.cells < 2 ^ 32 = f.short in
        let room : slot + len ≤ body.slots = there.slots in
        let slots : length up.frame.cells ≡ body.slots = up.slots in
        let short : slot + len < 2 ^ 32 = omega (arith, few, room, slots) in
        let all : length up.frame.cells ≡ up.birth.slots =
        f.long ∙ ap (λ (x : Birth). x.slots) (at_same_birth births (above store m.current.frame level) f.birth up.birth f.born up.born) in
        let inside : slot + len ≤ up.birth.slots = omega (arith, room, slots, all) in
        let free = (λ (x : ℕ) (lo : slot ≤ x) (hi : x < slot + len).
        let u : Uses code body.home x AsInt = valid.sets place s instr (record { level = level; slot = slot; len = len }) fit.reached here (ap ints_of is) there.home lo hi in
        subst (λ (h : Home). is_array code h x ≡ false) (sym up.home) (no_array code single body.home x AsInt u (λ n. cc))) in
        pushed_on (kind.Reference (Some len)) (cell.Array (record { home = Some (above store m.current.frame level); start = slot; len = len })) e
        (record { short = short; ints = record { birth = up.birth; born = up.born; inside = inside; plain = free }; exact = λ n e. some_is len n e })

    -- a slot of a frame round the thread that the instruction sets
    sets_int : (level slot len : ℕ) (body : Body) (at : ℕ) (birth : Birth) (v : ℤ) → ints_of instr ≡ Some (record { level = level; slot = slot; len = len }) →
        InFrame births store m.current.frame s level slot len body → Born births (above store m.current.frame level) birth →
        slot ≤ at → at < slot + len → IsSlot code births birth.home at (cell.Int v)
    sets_int level slot len body at birth v is there born lo hi =
        let up = there.up in
        let home : birth.home ≡ body.home = ap (λ (x : Birth). x.home) (at_same_birth births (above store m.current.frame level) birth up.birth born up.born) ∙ up.home in
        let u : Uses code body.home at AsInt = valid.sets place s instr (record { level = level; slot = slot; len = len }) fit.reached here is there.home lo hi in
        subst (λ (h : Home). IsSlot code births h at (cell.Int v)) (sym home) (used_as_int code single body.home at births v u)

    set_on : (change : Cell → Store) (leads : Leads) → effect code place instr s ≡ after (want.Int ∷ []) s (goes place) → effect code place instr s ≡ Some leads
        → ((x : Cell) → KeepsStore code births store (change x)) →
        Goal (on_top m (λ x below. flat.goes (with_store m (change x)) below) ops)
    set_on change leads same e keeps =
        let a = after_is (want.Int ∷ []) s (goes place) leads (sym same ∙ e) in
        let o = top_of code births want.Int [] s.operands a.0 ops a.1.0 fit.have in
        top_on (Next code bound m births s instr) m _ ops o.top o.below o.is
        (left_on a.0 m.shared (change o.top) o.below (same ∙ after_leads (want.Int ∷ []) s a.0 (goes place) a.1.0) (none_wanted code births o.kinds a.0 o.below o.taken o.have) (keeps o.top) refl)

    drop_on : (leads : Leads) → effect code place instr s ≡ after (want.Any ∷ []) s (goes place) → effect code place instr s ≡ Some leads → Goal (on_top m (λ x below. flat.goes m below) ops)
    drop_on leads same e =
        let a = after_is (want.Any ∷ []) s (goes place) leads (sym same ∙ e) in
        let o = top_of code births want.Any [] s.operands a.0 ops a.1.0 fit.have in
        top_on (Next code bound m births s instr) m _ ops o.top o.below o.is
        (left_on a.0 m.shared store o.below (same ∙ after_leads (want.Any ∷ []) s a.0 (goes place) a.1.0) (none_wanted code births o.kinds a.0 o.below o.taken o.have)
        (same_store code births store st) refl)

    clear_on : (slot len : ℕ) (body : Body) → instr ≡ i.Clear slot len → effect code place instr s ≡ goes place s → InFrame births store m.current.frame s 0 slot len body →
        Goal (flat.goes (with_store m (with_cleared store m.current.frame slot len)) ops)
    clear_on slot len body is e there = left_on s.operands m.shared (with_cleared store m.current.frame slot len) ops e fit.have
        (clear_slots code births store st m.current.frame slot len (λ birth born at lo hi. sets_int 0 slot len body at birth (pos 0) (ap ints_of is) there born lo hi)) refl

    -- ---- elements

    elem_on : (leads : Leads) → effect code place instr s ≡ after (want.Int ∷ want.Reference ∷ []) s (pushes place kind.Int) → effect code place instr s ≡ Some leads →
        Goal (on_two m (λ x y below. or_trap m (element store (place_in x) (int_in y)) (λ v. flat.goes m (cell.Int v ∷ below))) ops)
    elem_on leads same e =
        let a = after_is (want.Int ∷ want.Reference ∷ []) s (pushes place kind.Int) leads (sym same ∙ e) in
        let o = top_of code births want.Int (want.Reference ∷ []) s.operands a.0 ops a.1.0 fit.have in
        let p = top_of code births want.Reference [] o.kinds a.0 o.below o.taken o.have in
        two_on (Next code bound m births s instr) m _ ops o.top p.top p.below (o.is ∙ ap (λ l. o.top ∷ l) p.is)
        (trap_on (Next code bound m births s instr) m (element store (place_in p.top) (int_in o.top)) _
        (λ v _. put_on a.0 kind.Int (cell.Int v) p.below (same ∙ after_leads (want.Int ∷ want.Reference ∷ []) s a.0 (pushes place kind.Int) a.1.0)
        (none_wanted code births p.kinds a.0 p.below p.taken p.have) tt))

    part_kind : (x : Cell) (index : ℕ) → HasKind code births (kind.Reference None) x → index < (place_in x).len → HasKind code births (kind.Reference (Some 1)) (cell.Array (one_place
        (place_in x) index))
    part_kind (cell.Int v) index h lt = absurd h
    part_kind (cell.Block b) index h lt = absurd h
    part_kind (cell.Array place) index h lt =
        let all : place.start + place.len < 2 ^ 32 = h.short in
        let short : place.start + index + 1 < 2 ^ 32 = omega (arith, all, lt) in
        record { short = short; ints = go place.home h.ints; exact = λ n e. some_is 1 n e }
      where
        go : (home : Option FrameId) → HoldsInts code births home place.start place.len → HoldsInts code births home (place.start + index) 1
        go None l = omega (arith, l, lt)
        go (Some f) l =
            let inside = l.inside in
            record { birth = l.birth; born = l.born; inside = omega (arith, inside, lt); plain = λ x lo hi. l.plain x (omega (arith, lo)) (omega (arith, hi, lt)) }

    part_on : (place : Place) (index : ℤ) (next : Place → Move Flat FlatEnd) → ((n : ℕ) → within place index ≡ Ok n → Goal (next (one_place place n))) → Goal (or_trap m (part_at place index) next)
    part_on place index next h = go (within place index) refl
      where
        go : (r : Result ℕ Trap) → within place index ≡ r → Goal (or_trap m (bind r (λ n. Ok (one_place place n))) next)
        go (Ok n) e = h n e
        go (Err trap) e = tt

    place_on : (leads : Leads) → effect code place instr s ≡ after (want.Int ∷ want.Reference ∷ []) s (pushes place (kind.Reference (Some 1))) → effect code place instr s ≡ Some leads →
        Goal (on_two m (λ x y below. or_trap m (part_at (place_in x) (int_in y)) (λ part. flat.goes m (cell.Array part ∷ below))) ops)
    place_on leads same e =
        let a = after_is (want.Int ∷ want.Reference ∷ []) s (pushes place (kind.Reference (Some 1))) leads (sym same ∙ e) in
        let o = top_of code births want.Int (want.Reference ∷ []) s.operands a.0 ops a.1.0 fit.have in
        let p = top_of code births want.Reference [] o.kinds a.0 o.below o.taken o.have in
        let lies = (λ (index : ℕ) (w : within (place_in p.top) (int_in o.top) ≡ Ok index).
        part_kind p.top index p.wanted (below_len (place_in p.top) (int_in o.top) index w)) in
        two_on (Next code bound m births s instr) m _ ops o.top p.top p.below (o.is ∙ ap (λ l. o.top ∷ l) p.is)
        (part_on (place_in p.top) (int_in o.top) (λ part. flat.goes m (cell.Array part ∷ p.below))
        (λ index w. put_on a.0 (kind.Reference (Some 1)) (cell.Array (one_place (place_in p.top) index)) p.below
        (same ∙ after_leads (want.Int ∷ want.Reference ∷ []) s a.0 (pushes place (kind.Reference (Some 1))) a.1.0) (none_wanted code births p.kinds a.0 p.below p.taken p.have) (lies index w)))

    -- what is set of an array leaves the sizes
    array_in : (x : Cell) → HasKind code births (kind.Reference None) x → IsIntArray code births None (place_in x)
    array_in (cell.Int v) h = absurd h
    array_in (cell.Array p) h = h
    array_in (cell.Block b) h = absurd h

    set_elem_to : (at : Place) (index value : ℤ) (kept : Store) → IsIntArray code births None at → set_element store at index value ≡ Ok kept → KeepsStore code births store kept
    set_elem_to at index value kept a e = go (within at index) refl e
      where
        go : (r : Result ℕ Trap) → within at index ≡ r → bind r (λ i. Ok (with_int_at store at i value)) ≡ Ok kept → KeepsStore code births store kept
        go (Err trap) w e = absurd (cc)
        go (Ok i) w e = let is : with_int_at store at i value ≡ kept = cc in
            subst (KeepsStore code births store) is (set_element_at code births store single st None at i value (below_len at index i w) a)

    set_elem_on : (leads : Leads) → effect code place instr s ≡ after (want.Int ∷ want.Reference ∷ want.Int ∷ []) s (goes place) → effect code place instr s ≡ Some leads →
        Goal (on_three m (λ x y z below. or_trap m (set_element store (place_in y) (int_in z) (int_in x)) (λ h. flat.goes (with_store m h) below)) ops)
    set_elem_on leads same e =
        let a = after_is (want.Int ∷ want.Reference ∷ want.Int ∷ []) s (goes place) leads (sym same ∙ e) in
        let o = top_of code births want.Int (want.Reference ∷ want.Int ∷ []) s.operands a.0 ops a.1.0 fit.have in
        let p = top_of code births want.Reference (want.Int ∷ []) o.kinds a.0 o.below o.taken o.have in
        let q = top_of code births want.Int [] p.kinds a.0 p.below p.taken p.have in
        three_on (Next code bound m births s instr) m _ ops o.top p.top q.top q.below (o.is ∙ ap (λ l. o.top ∷ l) (p.is ∙ ap (λ l. p.top ∷ l) q.is))
        (trap_on (Next code bound m births s instr) m (set_element store (place_in p.top) (int_in o.top) (int_in q.top)) _
        (λ h w. let k = set_elem_to (place_in p.top) (int_in o.top) (int_in q.top) h (array_in p.top p.wanted) w in
        left_on a.0 m.shared h q.below (same ∙ after_leads (want.Int ∷ want.Reference ∷ want.Int ∷ []) s a.0 (goes place) a.1.0) (none_wanted code births q.kinds a.0 q.below q.taken q.have) k refl))

    -- ---- jumps

    jump_on : (to : ℕ) → effect code place instr s ≡ Some (One to s) → Goal (flat.goes_to to m ops)
    jump_on to e = went instr (One to s) s to m.shared store ops here e (refl, refl) refl refl fit.have (same_store code births store st) same_steps

    branch_to : (to : ℕ) (u : Shape) (v : ℤ) (a b : ℕ) → LeadsTo (Two (place + 1) u to u) a u → LeadsTo (Two (place + 1) u to u) b u → LeadsTo (Two (place + 1) u to u) (at_zero v a b) u
    branch_to to u (pos zero) a b h k = h
    branch_to to u (pos (suc n)) a b h k = k
    branch_to to u (negsuc n) a b h k = k

    branch_on : (to : ℕ) (aim : Cell → ℕ) (leads : Leads) → effect code place instr s ≡ after (want.Int ∷ []) s (λ u. Some (Two (place + 1) u to u)) → effect code place instr s ≡ Some leads
        → ((x : Cell) (u : Shape) → LeadsTo (Two (place + 1) u to u) (aim x) u) →
        Goal (on_top m (λ x below. flat.goes_to (aim x) m below) ops)
    branch_on to aim leads same e onto =
        let a = after_is (want.Int ∷ []) s (λ u. Some (Two (place + 1) u to u)) leads (sym same ∙ e) in
        let o = top_of code births want.Int [] s.operands a.0 ops a.1.0 fit.have in
        let u = with_operands s a.0 in
        top_on (Next code bound m births s instr) m _ ops o.top o.below o.is
        (went instr (Two (place + 1) u to u) u (aim o.top) m.shared store o.below here (same ∙ after_leads (want.Int ∷ []) s a.0 (λ u. Some (Two (place + 1) u to u)) a.1.0) (onto o.top u) refl refl
        (none_wanted code births o.kinds a.0 o.below o.taken o.have) (same_store code births store st) same_steps)

    -- ---- output

    printed_to : (bytes : List ℕ) (shared : Shared) → printed m.shared bytes ≡ Ok shared → shared.steps ≡ m.shared.steps
    printed_to bytes shared e = go (nat_le (length m.shared.output + length bytes) output_limit) e
      where
        go : (b : Bool) → ◌≡◌ {A = Result Shared Trap} (if b then Ok (record m.shared { output = m.shared.output ++ bytes }) else Err OutputFull) (Ok shared) → shared.steps ≡ m.shared.steps
        go true e =
            let is : record m.shared { output = m.shared.output ++ bytes } ≡ shared = cc in
            subst (λ (h : Shared). h.steps ≡ m.shared.steps) is refl
        go false e = absurd (cc)

    print_on : (text count : ℕ) (leads : Leads) → effect code place instr s
        ≡ on_some (slice_get code.texts text) (λ bytes. if nat_eq count (directives_in bytes) then after (replicate count want.Int) s (goes place) else None) → effect code place instr s ≡ Some leads →
        Goal (on_many m count (λ args below. or_trap m (printed m.shared (formatted (text_at code text) (map int_in args))) (λ h. flat.goes (with_shared m h) below)) ops)
    print_on text count leads same e =
        let b = on_some_is (slice_get code.texts text) _ leads (sym same ∙ e) in
        let c = if_is (nat_eq count (directives_in b.0)) _ leads b.1.1 in
        let a = after_is (replicate count want.Int) s (goes place) leads c.1 in
        let o = many_of code births (replicate count want.Int) s.operands a.0 ops a.1.0 fit.have in
        let long : length (replicate count want.Int) ≡ count = length-replicate count want.Int in
        let enough : count ≤ length ops = omega (arith, o.enough, long) in
        let rest : HaveKinds code births a.0 (drop count ops) = subst (λ n. HaveKinds code births a.0 (drop n ops)) long o.rest in
        let finds : effect code place instr s ≡ goes place (with_operands s a.0) = e ∙ sym c.1 ∙ after_leads (replicate count want.Int) s a.0 (goes place) a.1.0 in
        many_on (Next code bound m births s instr) m count
        (λ args below. or_trap m (printed m.shared (formatted (text_at code text) (map int_in args))) (λ h. flat.goes (with_shared m h) below)) ops enough
        (trap_on (Next code bound m births s instr) m (printed m.shared (formatted (text_at code text) (map int_in (reverse (take count ops))))) (λ h. flat.goes (with_shared m h) (drop count ops))
        (λ h w. let k = printed_to (formatted (text_at code text) (map int_in (reverse (take count ops)))) h w in left_on a.0 h store (drop count ops) finds rest (same_store code births store st) k))

  step_on : (here : slice_get code.instrs place ≡ Some i.Step) →
      Onward (Next code bound m births s i.Step) (if nat_lt m.shared.steps bound then flat.goes (with_shared m (with_step m.shared)) ops else flat.ends (seen_of word.OutOfSteps false m) m.count)
  step_on here = go (nat_lt m.shared.steps bound) refl
    where
      go : (b : Bool) → nat_lt m.shared.steps bound ≡ b →
          Onward (Next code bound m births s i.Step) (if b then flat.goes (with_shared m (with_step m.shared)) ops else flat.ends (seen_of word.OutOfSteps false m) m.count)
      go true e =
          let less : m.shared.steps < bound = grind (arith, nat_tests) in
          went i.Step (One (place + 1) s) s (place + 1) (with_step m.shared) store ops here refl (refl, refl) refl refl fit.have (same_store code births store st) (one refl less refl)
      go false e = tt

  in_slots : (level slot len : ℕ) (leads : Leads) (go : Body → Option Leads) → on_some (body_with s level slot len) go ≡ Some leads
      → (body : Body) × (InFrame births store m.current.frame s level slot len body × ((on_some (body_with s level slot len) go ≡ go body) × (go body ≡ Some leads)))
  in_slots level slot len leads go e =
      let b = on_some_is (body_with s level slot len) go leads e in
      (b.0, (in_frame births store m.current.frame s level slot len b.0 fit.bodies b.1.0, (ap (λ o. on_some o go) b.1.0, b.1.1)))

  in_globals : (b : Bool) (o : Option Leads) (leads : Leads) → (if b then o else None) ≡ Some leads → (b ≡ true) × (((if b then o else None) ≡ o) × (o ≡ Some leads))
  in_globals true o leads e = (refl, (refl, e))
  in_globals false o leads e = let no : None ≡ Some leads = e in cc

  -- By cases on the instruction; each takes its operands by one of the laws above, and what they are wanted as excludes that one lacks or is
  -- of another kind.
  pub onward : (item : Item) (instr : Instr) (leads : Leads) → slice_get code.instrs place ≡ Some instr → effect code place instr s ≡ Some leads → is_plain instr ≡ true
      → Onward (Next code bound m births s instr) (begin code bound m item (Some instr))
  onward item i.Step leads here e q = step_on here
  onward item (i.Push value) leads here e q = pushed_on (i.Push value) here (λ no. cc) kind.Int (cell.Int value) refl tt
  onward item (i.Load level slot) leads here e q =
      let b = in_slots level slot 1 leads _ e in
      load_on (i.Load level slot) here (λ no. cc) level slot b.0 refl b.1.1.0 b.1.0
  onward item (i.LoadG slot) leads here e q =
      let b = in_globals (nat_lt slot code.globals) (pushes place kind.Int s) leads e in
      pushed_on (i.LoadG slot) here (λ no. cc) kind.Int (cell.Int (global_at store slot)) b.1.0 tt
  onward item (i.Store level slot) leads here e q =
      let b = in_slots level slot 1 leads _ e in
      set_on (i.Store level slot) here (λ no. cc) (λ x. with_cell_at store m.current.frame level slot (cell.Int (int_in x))) leads b.1.1.0 e
      (λ x. set_slot code births store st (above store m.current.frame level) slot (cell.Int (int_in x))
      (λ birth born. sets_int (i.Store level slot) here (λ no. cc) level slot 1 b.0 slot birth (int_in x) refl b.1.0 born (omega arith) (omega arith)))
  onward item (i.StoreG slot) leads here e q =
      let b = in_globals (nat_lt slot code.globals) (after (want.Int ∷ []) s (goes place)) leads e in
      set_on (i.StoreG slot) here (λ no. cc) (λ x. with_global store slot (int_in x)) leads b.1.0 e (λ x. set_global code births store slot (int_in x) st)
  onward item (i.Arr level slot len) leads here e q =
      let b = in_slots level slot len leads _ e in
      array_on (i.Arr level slot len) here (λ no. cc) level slot len b.0 refl b.1.1.0 b.1.0
  onward item (i.ArrG slot len) leads here e q =
      let b = in_globals (nat_le (slot + len) code.globals) (pushes place (kind.Reference (Some len)) s) leads e in
      let room : slot + len ≤ code.globals = let t = b.0 in grind (arith, nat_tests) in
      let few : code.globals < 2 ^ 32 = st.few in
      let short : slot + len < 2 ^ 32 = omega (arith, room, few) in
      pushed_on (i.ArrG slot len) here (λ no. cc) (kind.Reference (Some len)) (cell.Array (record { home = None; start = slot; len = len })) b.1.0
      (record { short = short; ints = room; exact = λ n e. some_is len n e })
  onward item i.Elem leads here e q = elem_on i.Elem here (λ no. cc) leads refl e
  onward item i.SetElem leads here e q = set_elem_on i.SetElem here (λ no. cc) leads refl e
  onward item i.Place leads here e q = place_on i.Place here (λ no. cc) leads refl e
  onward item (i.Clear slot len) leads here e q =
      let b = in_slots 0 slot len leads _ e in
      clear_on (i.Clear slot len) here (λ no. cc) slot len b.0 refl b.1.1.0 b.1.0
  onward item i.Neg leads here e q = unary_on i.Neg here (λ no. cc) negated leads refl e
  onward item i.Not leads here e q = unary_on i.Not here (λ no. cc) not_true leads refl e
  onward item i.Flip leads here e q = unary_on i.Flip here (λ no. cc) flipped leads refl e
  onward item i.Bool leads here e q = unary_on i.Bool here (λ no. cc) truth leads refl e
  onward item i.BitOr leads here e q = binary_on i.BitOr here (λ no. cc) (always either_bits) leads refl e
  onward item i.BitXor leads here e q = binary_on i.BitXor here (λ no. cc) (always differing_bits) leads refl e
  onward item i.BitAnd leads here e q = binary_on i.BitAnd here (λ no. cc) (always both_bits) leads refl e
  onward item i.Eq leads here e q = binary_on i.Eq here (λ no. cc) (always is_equal) leads refl e
  onward item i.Ne leads here e q = binary_on i.Ne here (λ no. cc) (always is_not_equal) leads refl e
  onward item i.Less leads here e q = binary_on i.Less here (λ no. cc) (always is_less) leads refl e
  onward item i.LessEq leads here e q = binary_on i.LessEq here (λ no. cc) (always is_at_most) leads refl e
  onward item i.More leads here e q = binary_on i.More here (λ no. cc) (always (λ x y. is_less y x)) leads refl e
  onward item i.MoreEq leads here e q = binary_on i.MoreEq here (λ no. cc) (always (λ x y. is_at_most y x)) leads refl e
  onward item i.Shl leads here e q = binary_on i.Shl here (λ no. cc) (always shifted_left) leads refl e
  onward item i.Shr leads here e q = binary_on i.Shr here (λ no. cc) (always shifted_right) leads refl e
  onward item i.Add leads here e q = binary_on i.Add here (λ no. cc) (always sum_of) leads refl e
  onward item i.Sub leads here e q = binary_on i.Sub here (λ no. cc) (always difference_of) leads refl e
  onward item i.Mul leads here e q = binary_on i.Mul here (λ no. cc) (always product_of) leads refl e
  onward item i.Div leads here e q = binary_on i.Div here (λ no. cc) quotient leads refl e
  onward item i.Rem leads here e q = binary_on i.Rem here (λ no. cc) remainder leads refl e
  onward item i.Drop leads here e q = drop_on i.Drop here (λ no. cc) leads refl e
  onward item (i.Jump to) leads here e q = jump_on (i.Jump to) here (λ no. cc) to refl
  onward item (i.Jz to) leads here e q =
      branch_on (i.Jz to) here (λ no. cc) to (λ x. at_zero (int_in x) to (place + 1)) leads refl e
      (λ x u. branch_to (i.Jz to) here (λ no. cc) to u (int_in x) to (place + 1) (inr (refl, refl)) (inl (refl, refl)))
  onward item (i.Jnz to) leads here e q =
      branch_on (i.Jnz to) here (λ no. cc) to (λ x. at_zero (int_in x) (place + 1) to) leads refl e
      (λ x u. branch_to (i.Jnz to) here (λ no. cc) to u (int_in x) (place + 1) to (inl (refl, refl)) (inr (refl, refl)))
  onward item (i.Print text count) leads here e q = print_on (i.Print text count) here (λ no. cc) text count leads refl e
  onward item _ leads here e q = let no : false ≡ true = q in cc
