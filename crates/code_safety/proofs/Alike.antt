-- No instruction but a cancel concerns the journal: with one entry more still to come it leads on too, and where it ends the core, nothing
-- is seen of the end.
-- By cases on the instruction, of two states that differ in the entries to come alone. Journal and the laws of replays use it.
use Rattle.core_state.specs.Messages.{message_in}
use Rattle.std.proofs.Common.{◌≡◌, ℕ, ◌+◌, List, [], ◌∷◌, ◌++◌, length, map, Option, Some, None, Result, Ok, Err, Bool, true, false, refl}
use Rattle.std.specs.Prelude.{ℤ, reverse, take, drop, replicate, nat_le, nat_lt, nat_eq, slice_get, ◌&&◌, if◌then◌else◌}
use Rattle.ac_base.specs.declared.ends.Trap.{Trap}
use Rattle.ac_base.specs.declared.ends.Trap.TheVariants.{OutputFull}
use Rattle.ac_base.specs.declared.ends.EndWord.{EndWord}
use Rattle.ac_base.specs.declared.ends.EndWord.TheVariants as word
use Rattle.ac_base.specs.declared.entry.Entry.{Entry}
use Rattle.work_item.specs.declared.ids.Item.{Item}
use Rattle.work_item.specs.declared.ids.BlockId.{BlockId}
use Rattle.work_item.specs.declared.cell.Cell.{Cell}
use Rattle.work_item.specs.declared.cell.Cell.TheVariants as cell
use Rattle.work_item.specs.Store.{Store, int_in, place_in, no_int, released}
use Rattle.core_state.specs.Moves.{Move, On, Over}
use Rattle.core_state.specs.Arithmetic.{Computed, negated, not_true, flipped, truth, sum_of, difference_of, product_of, quotient, remainder}
use Rattle.core_state.specs.Arithmetic.{shifted_left, shifted_right, is_equal, is_not_equal, is_less, is_at_most, both_bits, either_bits, differing_bits}
use Rattle.core_state.specs.Frames.{element, set_element, part_at, begun, begun_with}
use Rattle.cancel_scope.specs.declared.operation.Asked.{Asked}
use Rattle.cancel_scope.specs.declared.operation.Asked.TheVariants as asked
use Rattle.core_state.specs.Shared.{Shared, with_step, printed, formatted, output_limit, seen_left}
use Rattle.core_state.specs.Requests.{read_of, write_of}
use Rattle.stack_code.specs.declared.instr.Instr.{Instr}
use Rattle.stack_code.specs.declared.instr.Instr.TheVariants as i
use Rattle.stack_code.specs.declared.parts.Entered.{Entered}
use Rattle.stack_code.specs.Parts.{Parts}
use Rattle.code_meaning.specs.Machine as flat
use Rattle.code_meaning.specs.Machine.{Flat, FlatEnd, nobody, Caller, Block, arrived, resumed, begin, exec, exec_of, dispatched, told, with_store, with_shared, or_trap, on_top, on_two, on_three}
use Rattle.code_meaning.specs.Machine.{on_many, one_operand}
use Rattle.code_meaning.specs.Machine.{two_operands, always, text_at}
use Rattle.code_meaning.specs.Machine.{calls, returns, arrives, arrives_in, arrives_at, dies, dies_in, counted_out, block_at, shared_at_first, first_flat, first_core, first_globals, thread_at}

-- one entry more is still to come
abbrev pub more_shared : Entry → Shared → Shared
more_shared e s = record s { todo = s.todo ++ e ∷ [] }

abbrev pub more_to_come : Entry → Flat → Flat
more_to_come e m = record m { shared = more_shared e m.shared }

-- the journal is as it was, and so is the turn
pub record KeepsJournal (before after : Shared) : Type 0 where
  pub past : after.past ≡ before.past
  pub todo : after.todo ≡ before.todo
  pub turn : after.turn ≡ before.turn

-- only a cancel takes entries of the journal
abbrev pub is_cancel : Option Instr → Bool
is_cancel (Some (i.Cancel level slot)) = true
is_cancel _ = false

-- an end shows the core as it is
pub record Ends (m : Flat) (x : FlatEnd) : Type 0 where
  pub word : EndWord
  pub idle : Bool
  pub shows : x.core ≡ flat.seen_of word idle m

-- with that entry still to come a move leads on too, or to an end of which nothing is seen
abbrev pub Alike : Entry → Flat → Move Flat FlatEnd → Move Flat FlatEnd → Type 0
Alike e m (On next) r = (r ≡ On (more_to_come e next)) × KeepsJournal m.shared next.shared
Alike e m (Over x) r = Ends m x × ((y : FlatEnd) × (r ≡ Over y) × (y.core ≡ None))

module _ (e : Entry) (m : Flat) where
  abbrev m' : Flat
  m' = more_to_come e m

  abbrev T : Move Flat FlatEnd → Move Flat FlatEnd → Type 0
  T a b = Alike e m a b

  no_sight : (why : EndWord) (idle : Bool) (todo : List Entry)
      → seen_left why idle m.store.globals m.operations m'.shared (todo ++ e ∷ []) ≡ None
  no_sight why idle [] = refl
  no_sight why idle (first ∷ rest) = refl

  unseen : (why : EndWord) (idle : Bool) (count : ℕ) → T (Over (told count (flat.seen_of why idle m))) (flat.ends (flat.seen_of why idle m') count)
  unseen why idle count =
      (record { word = why; idle = idle; shows = refl }, (told count (flat.seen_of why idle m'), refl, no_sight why idle m.shared.todo))

  kept : KeepsJournal m.shared m.shared
  kept = record { past = refl; todo = refl; turn = refl }

  top_alike : (go go' : Cell → List Cell → Move Flat FlatEnd) (ops : List Cell) → ((x : Cell) (below : List Cell) → T (go x below) (go' x below)) → T (on_top m go ops) (on_top m' go' ops)
  top_alike go go' [] h = (refl, kept)
  top_alike go go' (x ∷ below) h = h x below

  two_alike : (go go' : Cell → Cell → List Cell → Move Flat FlatEnd) (ops : List Cell) → ((x y : Cell) (below : List Cell) → T (go x y below) (go' x y below)) → T (on_two m go ops) (on_two m' go' ops)
  two_alike go go' [] h = (refl, kept)
  two_alike go go' (x ∷ []) h = (refl, kept)
  two_alike go go' (y ∷ x ∷ below) h = h x y below

  three_alike : (go go' : Cell → Cell → Cell → List Cell → Move Flat FlatEnd) (ops : List Cell) → ((x y z : Cell) (below : List Cell) → T (go x y z below) (go' x y z below))
      → T (on_three m go ops) (on_three m' go' ops)
  three_alike go go' [] h = (refl, kept)
  three_alike go go' (x ∷ []) h = (refl, kept)
  three_alike go go' (y ∷ x ∷ []) h = (refl, kept)
  three_alike go go' (z ∷ y ∷ x ∷ below) h = h x y z below

  many_alike : (count : ℕ) (go go' : List Cell → List Cell → Move Flat FlatEnd) (ops : List Cell) → ((args below : List Cell) → T (go args below) (go' args below))
      → T (on_many m count go ops) (on_many m' count go' ops)
  many_alike count go go' ops h = by (nat_le count (length ops))
    where
      by : (b : Bool) → T (if b then go (reverse (take count ops)) (drop count ops) else On m) (if b then go' (reverse (take count ops)) (drop count ops) else On m')
      by true = h (reverse (take count ops)) (drop count ops)
      by false = (refl, kept)

  trap_alike : {A : Type 0} (r : Result A Trap) (go go' : A → Move Flat FlatEnd) → ((x : A) → T (go x) (go' x)) → T (or_trap m r go) (or_trap m' r go')
  trap_alike (Ok x) go go' h = h x
  trap_alike (Err trap) go go' h = unseen (word.Trapped trap) false (flat.counted m.count)

  -- what the instruction makes of a state whose shared part stays
  one_alike : (f : ℤ → ℤ) → T (one_operand m f) (one_operand m' f)
  one_alike f = top_alike _ _ m.current.operands (λ x below. (refl, kept))

  two_ints_alike : (f : ℤ → ℤ → Computed) → T (two_operands m f) (two_operands m' f)
  two_ints_alike f = two_alike _ _ m.current.operands (λ x y below. trap_alike (f (int_in x) (int_in y)) _ _ (λ v. (refl, kept)))

  print_alike : (bytes : List ℕ) (below : List Cell)
      → T (or_trap m (printed m.shared bytes) (λ s. flat.goes (with_shared m s) below)) (or_trap m' (printed m'.shared bytes) (λ s. flat.goes (with_shared m' s) below))
  print_alike bytes below = by (nat_le (length m.shared.output + length bytes) output_limit)
    where
      by : (b : Bool) → T (or_trap m (if b then Ok (record m.shared { output = m.shared.output ++ bytes }) else Err OutputFull) (λ s. flat.goes (with_shared m s) below))
          (or_trap m' (if b then Ok (record m'.shared { output = m.shared.output ++ bytes }) else Err OutputFull) (λ s. flat.goes (with_shared m' s) below))
      by true = (refl, record { past = refl; todo = refl; turn = refl })
      by false = unseen (word.Trapped OutputFull) false (flat.counted m.count)

  calls_alike : (o : Option Entered) (args below : List Cell) → T (calls m o args below) (calls m' o args below)
  calls_alike None args below = (refl, kept)
  calls_alike (Some f) args below = trap_alike (begun_with m.store f.params f.words args) _ _ (λ store. (refl, kept))

  returns_alike : (value : Cell) (callers : List Caller) → T (returns m value callers) (returns m' value callers)
  returns_alike value [] = unseen word.Finished false (flat.counted m.count)
  returns_alike value (c ∷ callers) = (refl, kept)

  arrives_alike : (t : Item) (o : Option BlockId) → T (arrives m t o) (arrives m' t o)
  arrives_alike t None = (refl, kept)
  arrives_alike t (Some b) = by (block_at m.blocks b)
    where
      at_block : (z : Bool) (x : Block) → T (arrives_at z m t b x) (arrives_at z m' t b x)
      at_block true x = (refl, kept)
      at_block false x = (refl, kept)

      by : (o : Option Block) → T (arrives_in m t b o) (arrives_in m' t b o)
      by None = (refl, kept)
      by (Some x) = at_block (nat_eq x.count 0) x

  dies_alike : (store : Store) (t : Item) (o : Option BlockId) → T (On (dies (with_store m store) t o)) (On (dies (with_store m' store) t o))
  dies_alike store t None = (refl, kept)
  dies_alike store t (Some b) = by (block_at m.blocks b)
    where
      out : (z : Bool) (x : Block) → T (On (counted_out z (with_store m store) t b x)) (On (counted_out z (with_store m' store) t b x))
      out true x = (refl, kept)
      out false x = (refl, kept)

      by : (o : Option Block) → T (On (dies_in (with_store m store) t b o)) (On (dies_in (with_store m' store) t b o))
      by None = (refl, kept)
      by (Some x) = out (nat_eq x.count 1 && x.waits) x

  asks_alike : (t : Item) (link : ℕ) (a : Asked) (below : List Cell) → T (flat.asks m t link a below) (flat.asks m' t link a below)
  asks_alike t link a below = by (flat.is_cancelled m.blocks m.current.block)
    where
      by : (b : Bool) → T (flat.asks_in b m t link a below) (flat.asks_in b m' t link a below)
      by true = (refl, kept)
      by false = (refl, kept)

  requests_alike : (t : Item) (it : Result Asked Trap) (below : List Cell) → T (flat.requests m t it below) (flat.requests m' t it below)
  requests_alike t it below = trap_alike it _ _ (λ a. asks_alike t m.shared.requests a below)

  module _ (code : Parts) (bound : ℕ) (t : Item) where
    step_alike : T (begin code bound m t (Some i.Step)) (begin code bound m' t (Some i.Step))
    step_alike = by (nat_lt m.shared.steps bound) (flat.ends (flat.seen_of word.OutOfSteps false m) m.count) (flat.ends (flat.seen_of word.OutOfSteps false m') m.count)
        (unseen word.OutOfSteps false m.count)
      where
        by : (b : Bool) (x y : Move Flat FlatEnd) → T x y
            → T (if b then flat.goes (with_shared m (with_step m.shared)) m.current.operands else x) (if b then flat.goes (with_shared m' (with_step m'.shared)) m.current.operands else y)
        by true x y h = (refl, record { past = refl; todo = refl; turn = refl })
        by false x y h = h

    -- Most instructions do the same in both by computation; those that share a way to take operands or to trap go by the laws above.
    pub begin_alike : (o : Option Instr) → is_cancel o ≡ false → T (begin code bound m t o) (begin code bound m' t o)
    begin_alike None p = (refl, kept)
    begin_alike (Some i.Step) p = step_alike
    begin_alike (Some (i.Push v)) p = (refl, kept)
    begin_alike (Some (i.Load level slot)) p = (refl, kept)
    begin_alike (Some (i.LoadG slot)) p = (refl, kept)
    begin_alike (Some (i.Store level slot)) p = top_alike _ _ m.current.operands (λ x below. (refl, kept))
    begin_alike (Some (i.StoreG slot)) p = top_alike _ _ m.current.operands (λ x below. (refl, kept))
    begin_alike (Some (i.Arr level slot len)) p = (refl, kept)
    begin_alike (Some (i.ArrG slot len)) p = (refl, kept)
    begin_alike (Some i.Elem) p = two_alike _ _ m.current.operands (λ x y below. trap_alike (element m.store (place_in x) (int_in y)) _ _ (λ v. (refl, kept)))
    begin_alike (Some i.SetElem) p = three_alike _ _ m.current.operands (λ x y z below. trap_alike (set_element m.store (place_in y) (int_in z) (int_in x)) _ _ (λ v. (refl, kept)))
    begin_alike (Some i.Place) p = two_alike _ _ m.current.operands (λ x y below. trap_alike (part_at (place_in x) (int_in y)) _ _ (λ v. (refl, kept)))
    begin_alike (Some (i.Clear slot len)) p = (refl, kept)
    begin_alike (Some i.Neg) p = one_alike negated
    begin_alike (Some i.Not) p = one_alike not_true
    begin_alike (Some i.Flip) p = one_alike flipped
    begin_alike (Some i.Bool) p = one_alike truth
    begin_alike (Some i.BitOr) p = two_ints_alike (always either_bits)
    begin_alike (Some i.BitXor) p = two_ints_alike (always differing_bits)
    begin_alike (Some i.BitAnd) p = two_ints_alike (always both_bits)
    begin_alike (Some i.Eq) p = two_ints_alike (always is_equal)
    begin_alike (Some i.Ne) p = two_ints_alike (always is_not_equal)
    begin_alike (Some i.Less) p = two_ints_alike (always is_less)
    begin_alike (Some i.LessEq) p = two_ints_alike (always is_at_most)
    begin_alike (Some i.More) p = two_ints_alike (always (λ x y. is_less y x))
    begin_alike (Some i.MoreEq) p = two_ints_alike (always (λ x y. is_at_most y x))
    begin_alike (Some i.Shl) p = two_ints_alike (always shifted_left)
    begin_alike (Some i.Shr) p = two_ints_alike (always shifted_right)
    begin_alike (Some i.Add) p = two_ints_alike (always sum_of)
    begin_alike (Some i.Sub) p = two_ints_alike (always difference_of)
    begin_alike (Some i.Mul) p = two_ints_alike (always product_of)
    begin_alike (Some i.Div) p = two_ints_alike quotient
    begin_alike (Some i.Rem) p = two_ints_alike remainder
    begin_alike (Some i.Drop) p = top_alike _ _ m.current.operands (λ x below. (refl, kept))
    begin_alike (Some (i.Jump to)) p = (refl, kept)
    begin_alike (Some (i.Jz to)) p = top_alike _ _ m.current.operands (λ x below. (refl, kept))
    begin_alike (Some (i.Jnz to)) p = top_alike _ _ m.current.operands (λ x below. (refl, kept))
    begin_alike (Some (i.Print text count)) p = many_alike count _ _ m.current.operands (λ args below. print_alike (formatted (text_at code text) (map int_in args)) below)
    begin_alike (Some (i.Call function count)) p = many_alike count _ _ m.current.operands (λ args below. calls_alike (slice_get code.functions function) args below)
    begin_alike (Some i.Ret) p = top_alike _ _ m.current.operands (λ x below. returns_alike (cell.Int (int_in x)) m.current.callers)
    begin_alike (Some (i.Enter slot)) p = (refl, kept)
    begin_alike (Some (i.Finish slot)) p = arrives_alike t m.current.block
    begin_alike (Some (i.Async slots to)) p = trap_alike (begun m.store (Some m.current.frame) (replicate slots no_int)) _ _ (λ store. (refl, kept))
    begin_alike (Some i.End) p = dies_alike (released m.store m.current.frame) t m.current.block
    begin_alike (Some (i.Cancel level slot)) p = let no : true ≡ false = p in absurd (cc)
    begin_alike (Some i.Yield) p = (refl, kept)
    begin_alike (Some (i.Send channel)) p = top_alike _ _ m.current.operands (λ x below. asks_alike t channel (asked.Send (message_in m.store x)) below)
    begin_alike (Some (i.Recv channel)) p = top_alike _ _ m.current.operands (λ x below. asks_alike t channel (asked.Recv (place_in x)) below)
    begin_alike (Some (i.Read file)) p = three_alike _ _ m.current.operands (λ x y z below. requests_alike t (read_of file (int_in x) (int_in y) (place_in z)) below)
    begin_alike (Some (i.Write file)) p = three_alike _ _ m.current.operands (λ x y z below. requests_alike t (write_of m.store file (int_in x) (int_in y) (place_in z)) below)
