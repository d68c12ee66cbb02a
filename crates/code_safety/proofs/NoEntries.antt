-- Code that starts no operation takes no entry of a journal.
-- By induction on the moves: without an operation nothing that comes in fits (`nothing_comes`), and no instruction of such code starts one.
-- So an entry that is still to come stays so, and nothing is seen of an end.
use Rattle.std.proofs.Common.{◌≡◌, ℕ, zero, suc, ◌+◌, List, [], ◌∷◌, ◌++◌, length, map, Option, Some, None, Result, Ok, Err, Bool, true, false, refl, sym, ap, ◌∙◌, subst}
use Rattle.std.specs.Prelude.{ℤ, reverse, take, drop, replicate, find, nat_le, nat_lt, nat_eq, slice_get, slice_set, ◌&&◌, ◌^◌, ◌-◌, if◌then◌else◌}
use Rattle.std.proofs.lemmas.Option.{slice_get_within, get_or_from_slice_get}
use Rattle.ac_base.specs.declared.ends.Trap.{Trap}
use Rattle.ac_base.specs.declared.ends.Trap.TheVariants.{OutputFull}
use Rattle.ac_base.specs.declared.ends.EndWord.{EndWord}
use Rattle.ac_base.specs.declared.ends.EndWord.TheVariants as word
use Rattle.ac_base.specs.declared.entry.Entry.{Entry}
use Rattle.ac_base.specs.declared.entry.Event.{Event}
use Rattle.ac_base.specs.declared.entry.Event.TheVariants as event
use Rattle.work_item.specs.declared.ids.Item.{Item}
use Rattle.work_item.specs.declared.ids.BlockId.{BlockId}
use Rattle.work_item.specs.declared.cell.Cell.{Cell}
use Rattle.work_item.specs.declared.cell.Cell.TheVariants as cell
use Rattle.work_item.specs.Store.{Store, cell_at, int_in, place_in, no_int, released}
use Rattle.cancel_scope.specs.declared.operation.Operation.{Operation}
use Rattle.core_state.specs.Moves.{Move, On, Over, moves, and_then}
use Rattle.core_state.specs.Arithmetic.{Computed, truth, negated, not_true, flipped, sum_of, difference_of, product_of, quotient, remainder}
use Rattle.core_state.specs.Arithmetic.{shifted_left, shifted_right, is_equal, is_not_equal, is_less, is_at_most, both_bits, either_bits, differing_bits}
use Rattle.core_state.specs.Frames.{block_in, element, set_element, part_at, begun, begun_with, first_store}
use Rattle.core_state.specs.Arrivals as arrivals
use Rattle.core_state.specs.Arrivals.{Arrival, at_point, comes_in}
use Rattle.core_state.specs.Cancelling.{is_to_try, tries}
use Rattle.core_state.specs.Shared.{begins_with, with_entry, with_step, with_turn, printed, formatted, output_limit, seen, seen_left}
use Rattle.stack_code.specs.declared.instr.Instr.{Instr}
use Rattle.stack_code.specs.declared.instr.Instr.TheVariants as i
use Rattle.stack_code.specs.declared.parts.Entered.{Entered}
use Rattle.stack_code.specs.Parts.{Parts}
use Rattle.code_meaning.specs.Alone.{is_alone, starts_none, IsAlone}
use Rattle.code_meaning.specs.Machine as flat
use Rattle.code_meaning.specs.Machine.{Flat, FlatEnd, Caller, Block, nobody, arrived, begin, exec, exec_of, dispatched, shared_at_first, told, with_store, with_shared, or_trap}
use Rattle.code_meaning.specs.Machine.{on_top, on_two, on_three, on_many}
use Rattle.code_meaning.specs.Machine.{one_operand, two_operands, always, text_at, calls, returns, starts, arrives, arrives_in, arrives_at, dies, dies_in, counted_out, block_at, thread_at}
use Rattle.code_meaning.specs.Machine.{first_flat, first_core, first_globals, is_inside, marked, counted, calls_off, Runs}
use Rattle.code_safety.proofs.Plain.{Onward}

-- ---- an instruction

-- a move leaves the operations, the entries and the link of requests as they are, and an end before an entry to come shows nothing
abbrev pub Leaves : Flat → Move Flat FlatEnd → Type 0
Leaves m (On n) = (n.operations ≡ m.operations) × ((n.shared.todo ≡ m.shared.todo) × ((n.shared.past ≡ m.shared.past) × (n.shared.requests ≡ m.shared.requests)))
Leaves m (Over x) = (e : Entry) (es : List Entry) → m.shared.todo ≡ e ∷ es → x.core ≡ None

module _ (m : Flat) where
  abbrev L : Move Flat FlatEnd → Type 0
  L = Leaves m

  same : (m.operations ≡ m.operations) × ((m.shared.todo ≡ m.shared.todo) × ((m.shared.past ≡ m.shared.past) × (m.shared.requests ≡ m.shared.requests)))
  same = (refl, (refl, (refl, refl)))

  unseen : (why : EndWord) (idle : Bool) (e : Entry) (es : List Entry) → m.shared.todo ≡ e ∷ es → seen why idle m.store.globals m.operations m.shared ≡ None
  unseen why idle e es k = ap (seen_left why idle m.store.globals m.operations m.shared) k

  top_leaves : (go : Cell → List Cell → Move Flat FlatEnd) (ops : List Cell) → ((x : Cell) (below : List Cell) → L (go x below)) → L (on_top m go ops)
  top_leaves go [] h = same
  top_leaves go (x ∷ below) h = h x below

  two_leave : (go : Cell → Cell → List Cell → Move Flat FlatEnd) (ops : List Cell) → ((x y : Cell) (below : List Cell) → L (go x y below)) → L (on_two m go ops)
  two_leave go [] h = same
  two_leave go (x ∷ []) h = same
  two_leave go (y ∷ x ∷ below) h = h x y below

  three_leave : (go : Cell → Cell → Cell → List Cell → Move Flat FlatEnd) (ops : List Cell) → ((x y z : Cell) (below : List Cell) → L (go x y z below)) → L (on_three m go ops)
  three_leave go [] h = same
  three_leave go (x ∷ []) h = same
  three_leave go (y ∷ x ∷ []) h = same
  three_leave go (z ∷ y ∷ x ∷ below) h = h x y z below

  many_leave : (count : ℕ) (go : List Cell → List Cell → Move Flat FlatEnd) (ops : List Cell) → ((args below : List Cell) → L (go args below)) → L (on_many m count go ops)
  many_leave count go ops h = by (nat_le count (length ops))
    where
      by : (b : Bool) → L (if b then go (reverse (take count ops)) (drop count ops) else On m)
      by true = h (reverse (take count ops)) (drop count ops)
      by false = same

  trap_leaves : {A : Type 0} (r : Result A Trap) (go : A → Move Flat FlatEnd) → ((x : A) → L (go x)) → L (or_trap m r go)
  trap_leaves (Ok x) go h = h x
  trap_leaves (Err trap) go h = unseen (word.Trapped trap) false

  one_leaves : (f : ℤ → ℤ) → L (one_operand m f)
  one_leaves f = top_leaves _ m.current.operands (λ x below. same)

  ints_leave : (f : ℤ → ℤ → Computed) → L (two_operands m f)
  ints_leave f = two_leave _ m.current.operands (λ x y below. trap_leaves (f (int_in x) (int_in y)) _ (λ v. same))

  print_leaves : (bytes : List ℕ) (below : List Cell) → L (or_trap m (printed m.shared bytes) (λ s. flat.goes (with_shared m s) below))
  print_leaves bytes below = by (nat_le (length m.shared.output + length bytes) output_limit)
    where
      by : (b : Bool) → L (or_trap m (if b then Ok (record m.shared { output = m.shared.output ++ bytes }) else Err OutputFull) (λ s. flat.goes (with_shared m s) below))
      by true = same
      by false = unseen (word.Trapped OutputFull) false

  calls_leave : (o : Option Entered) (args below : List Cell) → L (calls m o args below)
  calls_leave None args below = same
  calls_leave (Some f) args below = trap_leaves (begun_with m.store f.params f.words args) _ (λ store. same)

  returns_leave : (value : Cell) (callers : List Caller) → L (returns m value callers)
  returns_leave value [] = unseen word.Finished false
  returns_leave value (c ∷ callers) = same

  arrives_leaves : (t : Item) (o : Option BlockId) → L (arrives m t o)
  arrives_leaves t None = same
  arrives_leaves t (Some b) = by (block_at m.blocks b)
    where
      at_block : (z : Bool) (x : Block) → L (arrives_at z m t b x)
      at_block true x = same
      at_block false x = same

      by : (o : Option Block) → L (arrives_in m t b o)
      by None = same
      by (Some x) = at_block (nat_eq x.count 0) x

  dies_leaves : (store : Store) (t : Item) (o : Option BlockId) → L (On (dies (with_store m store) t o))
  dies_leaves store t None = same
  dies_leaves store t (Some b) = by (block_at m.blocks b)
    where
      out : (z : Bool) (x : Block) → L (On (counted_out z (with_store m store) t b x))
      out true x = same
      out false x = same

      by : (o : Option Block) → L (On (dies_in (with_store m store) t b o))
      by None = same
      by (Some x) = out (nat_eq x.count 1 && x.waits) x

  module _ (code : Parts) (bound : ℕ) (t : Item) where
    step_leaves : L (begin code bound m t (Some i.Step))
    step_leaves = by (nat_lt m.shared.steps bound)
      where
        by : (b : Bool) → L (if b then flat.goes (with_shared m (with_step m.shared)) m.current.operands else flat.ends (flat.seen_of word.OutOfSteps false m) m.count)
        by true = same
        by false = unseen word.OutOfSteps false

    -- By cases on the instruction; those that start an operation or cancel are excluded by `is_alone`.
    pub begin_leaves : (instr : Instr) → is_alone instr ≡ true → L (begin code bound m t (Some instr))
    begin_leaves i.Step a = step_leaves
    begin_leaves (i.Push v) a = same
    begin_leaves (i.Load level slot) a = same
    begin_leaves (i.LoadG slot) a = same
    begin_leaves (i.Store level slot) a = top_leaves _ m.current.operands (λ x below. same)
    begin_leaves (i.StoreG slot) a = top_leaves _ m.current.operands (λ x below. same)
    begin_leaves (i.Arr level slot len) a = same
    begin_leaves (i.ArrG slot len) a = same
    begin_leaves i.Elem a = two_leave _ m.current.operands (λ x y below. trap_leaves (element m.store (place_in x) (int_in y)) _ (λ v. same))
    begin_leaves i.SetElem a = three_leave _ m.current.operands (λ x y z below. trap_leaves (set_element m.store (place_in y) (int_in z) (int_in x)) _ (λ store. same))
    begin_leaves i.Place a = two_leave _ m.current.operands (λ x y below. trap_leaves (part_at (place_in x) (int_in y)) _ (λ part. same))
    begin_leaves (i.Clear slot len) a = same
    begin_leaves i.Neg a = one_leaves negated
    begin_leaves i.Not a = one_leaves not_true
    begin_leaves i.Flip a = one_leaves flipped
    begin_leaves i.Bool a = one_leaves truth
    begin_leaves i.BitOr a = ints_leave (always either_bits)
    begin_leaves i.BitXor a = ints_leave (always differing_bits)
    begin_leaves i.BitAnd a = ints_leave (always both_bits)
    begin_leaves i.Eq a = ints_leave (always is_equal)
    begin_leaves i.Ne a = ints_leave (always is_not_equal)
    begin_leaves i.Less a = ints_leave (always is_less)
    begin_leaves i.LessEq a = ints_leave (always is_at_most)
    begin_leaves i.More a = ints_leave (always (λ x y. is_less y x))
    begin_leaves i.MoreEq a = ints_leave (always (λ x y. is_at_most y x))
    begin_leaves i.Shl a = ints_leave (always shifted_left)
    begin_leaves i.Shr a = ints_leave (always shifted_right)
    begin_leaves i.Add a = ints_leave (always sum_of)
    begin_leaves i.Sub a = ints_leave (always difference_of)
    begin_leaves i.Mul a = ints_leave (always product_of)
    begin_leaves i.Div a = ints_leave quotient
    begin_leaves i.Rem a = ints_leave remainder
    begin_leaves i.Drop a = top_leaves _ m.current.operands (λ x below. same)
    begin_leaves (i.Jump to) a = same
    begin_leaves (i.Jz to) a = top_leaves _ m.current.operands (λ x below. same)
    begin_leaves (i.Jnz to) a = top_leaves _ m.current.operands (λ x below. same)
    begin_leaves (i.Print text count) a = many_leave count _ m.current.operands (λ args below. print_leaves (formatted (text_at code text) (map int_in args)) below)
    begin_leaves (i.Call function count) a = many_leave count _ m.current.operands (λ args below. calls_leave (slice_get code.functions function) args below)
    begin_leaves i.Ret a = top_leaves _ m.current.operands (λ x below. returns_leave (cell.Int (int_in x)) m.current.callers)
    begin_leaves (i.Enter slot) a = same
    begin_leaves (i.Finish slot) a = arrives_leaves t m.current.block
    begin_leaves (i.Async slots to) a = trap_leaves (begun m.store (Some m.current.frame) (replicate slots no_int)) (λ store. On (starts m t to store)) (λ store. same)
    begin_leaves i.End a = dies_leaves (released m.store m.current.frame) t m.current.block
    begin_leaves i.Yield a = same
    begin_leaves (i.Cancel level slot) a = let no : false ≡ true = a in absurd (cc)
    begin_leaves (i.Send channel) a = let no : false ≡ true = a in absurd (cc)
    begin_leaves (i.Recv channel) a = let no : false ≡ true = a in absurd (cc)
    begin_leaves (i.Read file) a = let no : false ≡ true = a in absurd (cc)
    begin_leaves (i.Write file) a = let no : false ≡ true = a in absurd (cc)

-- ---- a dispatch point

-- where no operation has still to end and no entry has come in, nothing can come in
pub nothing_comes : (store : Store) (v : Event) → arrivals.arrives [] store [] v ≡ None
nothing_comes store (event.Offer link number payload) = go (nat_eq number 0)
  where
    go : (b : Bool) → ◌≡◌ {A = Option Arrival} (if b then None else None) None
    go true = refl
    go false = refl
nothing_comes store v = refl

abbrev pub IsFree : Flat → Type 0
IsFree m = (m.operations ≡ []) × (m.shared.past ≡ [])

module _ (m : Flat) (free : IsFree m) where
  dispatched_leaves : (ready : List Item) → Leaves m (dispatched m ready)
  dispatched_leaves [] = unseen m word.Stalled true
  dispatched_leaves (t ∷ ready) = go (nat_lt m.shared.turn (2 ^ 64 - 1))
    where
      go : (b : Bool) → Leaves m (if b
          then On (record m { shared = with_turn m.shared; running = Some t; current = thread_at m.threads t; ready = ready; threads = slice_set m.threads t.number nobody })
          else Over (told m.count (seen word.OutOfSteps false m.store.globals m.operations m.shared)))
      go true = same m
      go false = unseen m word.OutOfSteps false

  enters_leaves : (e : Entry) (es : List Entry) (o : Option Arrival) → arrivals.arrives m.shared.past m.store m.operations e.event ≡ o
      → Leaves m (comes_in (told m.count) (λ x. On (arrived m (with_entry m.shared e es) x)) o)
  enters_leaves e es None k = λ f fs to. refl
  enters_leaves e es (Some x) k =
      let at_first = λ (past : List Entry) (os : List Operation). arrivals.arrives past m.store os e.event in
      let none : None ≡ Some x =
      sym (nothing_comes m.store e.event) ∙ ap (λ os. at_first [] os) (sym free.0) ∙ ap (λ past. at_first past m.operations) (sym free.1) ∙ k in
      absurd (cc)

  rests_leaves : (todo : List Entry) → Leaves m (at_point (told m.count) m.shared m.store m.operations (λ shared x. On (arrived m shared x)) (dispatched m m.ready) todo)
  rests_leaves [] = dispatched_leaves m.ready
  rests_leaves (e ∷ es) = go (nat_eq e.turn m.shared.turn)
    where
      go : (b : Bool) → Leaves m
          (if b
          then comes_in (told m.count) (λ x. On (arrived m (with_entry m.shared e es) x)) (arrivals.arrives m.shared.past m.store m.operations e.event)
          else dispatched m m.ready)
      go true = enters_leaves e es (arrivals.arrives m.shared.past m.store m.operations e.event) refl
      go false = dispatched_leaves m.ready

  -- ---- an instruction that starts no operation

  cancel_leaves : (block : BlockId) → Leaves m (calls_off m block)
  cancel_leaves block =
      subst
      (λ (os : List Operation).
      Leaves m
      (tries (told (counted m.count)) m.shared m.store os (is_to_try (is_inside m block)) (λ shared x. On (arrived (marked m block) shared x)) (flat.goes (marked m block) m.current.operands)
      (find (is_to_try (is_inside m block)) os)))
      (sym free.0) (same m)

  begin_free : (code : Parts) (bound : ℕ) (t : Item) (instr : Instr) → starts_none instr ≡ true → Leaves m (begin code bound m t (Some instr))
  begin_free code bound t (i.Cancel level slot) a = cancel_leaves (block_in (cell_at m.store m.current.frame level slot))
  begin_free code bound t instr a = begin_leaves m code bound t instr a

-- ---- a move

module _ (code : Parts) (bound : ℕ) (alone : IsAlone code) where
  module _ (m : Flat) (free : IsFree m) where
    exec_leaves : Leaves m (exec code bound m)
    exec_leaves = go m.running
      where
        at_place : (t : Item) (o : Option Instr) → slice_get code.instrs m.current.place ≡ o → Leaves m (begin code bound m t o)
        at_place t None k = same m
        at_place t (Some instr) k =
            let within = slice_get_within code.instrs m.current.place instr k in
            let one = get_or_from_slice_get code.instrs m.current.place instr instr k in
            begin_free m free code bound t instr (subst (λ x. starts_none x ≡ true) one (alone m.current.place instr within))

        go : (o : Option Item) → Leaves m (exec_of code bound m o)
        go None = rests_leaves m free m.shared.todo
        go (Some t) = at_place t (slice_get code.instrs m.current.place) refl

    -- no operation is there after it
    pub stays_free : Onward IsFree (exec code bound m)
    stays_free = go (exec code bound m) exec_leaves
      where
        go : (x : Move Flat FlatEnd) → Leaves m x → Onward IsFree x
        go (On n) l = (l.0 ∙ free.0, l.1.1.0 ∙ free.1)
        go (Over x) l = tt

  -- ---- a run

  module _ (e : Entry) (es : List Entry) (end : FlatEnd) where
    none_seen : (k : ℕ) (m : Flat) → IsFree m → m.shared.todo ≡ e ∷ es → moves (exec code bound) k m ≡ Over end → end.core ≡ None
    none_seen zero m free to h = let no : On m ≡ Over end = h in absurd (cc)
    none_seen (suc k) m free to h = go (λ n f r l. none_seen k n f r l) (exec code bound m) (exec_leaves m free) h
      where
        go : ((n : Flat) → IsFree n → n.shared.todo ≡ e ∷ es → moves (exec code bound) k n ≡ Over end → end.core ≡ None) → (a : Move Flat FlatEnd) → Leaves m a
            → and_then a (moves (exec code bound) k) ≡ Over end → end.core ≡ None
        go later (On n) l h = later n (l.0 ∙ free.0, l.1.1.0 ∙ free.1) (l.1.0 ∙ to) h
        go later (Over x) l h =
            let is : x ≡ end = let over : Over x ≡ Over end = h in cc in
            subst (λ (y : FlatEnd). y.core ≡ None) is (l e es to)

    from_first : (core : ℕ) (function : Entered) (k : ℕ) → Over end ≡ and_then (first_flat code core function (e ∷ es)) (moves (exec code bound) k) → end.core ≡ None
    from_first core function k h = go (begun (first_store (first_globals code)) None (replicate function.words no_int)) h
      where
        go : (r : Result Store Trap)
            → Over end ≡ and_then (begins_with (told 0) (first_globals code) (shared_at_first code core (e ∷ es)) r
            (λ store. On (first_core function (shared_at_first code core (e ∷ es)) store))) (moves (exec code bound) k)
            → end.core ≡ None
        go (Ok store) h = none_seen k (first_core function (shared_at_first code core (e ∷ es)) store) (refl, refl) refl (sym h)
        go (Err trap) h = let over : Over end ≡ Over (told 0 None) = h in let is : end ≡ told 0 None = cc in ap (λ (y : FlatEnd). y.core) is

-- where an entry is still to come at the beginning, nothing is seen of the end
pub alone_takes_none : (code : Parts) (core bound : ℕ) (e : Entry) (es : List Entry) (end : FlatEnd) → IsAlone code → Runs code core bound (e ∷ es) end → end.core ≡ None
alone_takes_none code core bound e es end alone runs = from_first code bound alone e es end core runs.function runs.comes.0 runs.comes.1
