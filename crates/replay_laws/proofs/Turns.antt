-- The entries of a journal that has a run come in turn after turn; so no run goes on with an entry of a turn that is over.
-- First each move keeps (`Keeps`) what came in, or takes the next entry if its turn is the present one: by the cases of a move, of which only rest and `cancel` take entries.
-- Then `InOrder` is an invariant of the moves, by induction on their number; an end that is seen has nothing to come, so all of the journal is in order.
use Rattle.std.proofs.Common.{◌≡◌, ℕ, zero, suc, ◌≤◌, ◌<◌, List, [], ◌∷◌, ◌++◌, Option, Some, None, Result, Ok, Err, Bool, true, false, refl, sym, ap, ◌∙◌, append-nil, append_assoc, arith}
use Rattle.std.specs.Prelude.{find, nat_eq, nat_lt, slice_get, slice_set, replicate, ◌^◌, ◌-◌, if◌then◌else◌}
use Rattle.std.proofs.lemmas.Bool.{eqb-true}
use Rattle.ac_base.specs.declared.ends.Trap.{Trap}
use Rattle.ac_base.specs.declared.ends.EndWord.TheVariants as word
use Rattle.ac_base.specs.declared.ends.CoreEnd.{CoreEnd}
use Rattle.ac_base.specs.declared.entry.Entry.{Entry}
use Rattle.work_item.specs.declared.ids.Item.{Item}
use Rattle.work_item.specs.declared.ids.BlockId.{BlockId}
use Rattle.work_item.specs.declared.cell.Cell.TheVariants as cell
use Rattle.work_item.specs.Store.{Store, cell_at, no_int}
use Rattle.cancel_scope.specs.declared.operation.Progress.{Progress}
use Rattle.cancel_scope.specs.declared.operation.Progress.TheVariants as progress
use Rattle.cancel_scope.specs.declared.operation.Operation.{Operation}
use Rattle.core_state.specs.Moves.{Move, On, Over, moves, and_then}
use Rattle.core_state.specs.Frames.{block_in, begun, first_store}
use Rattle.core_state.specs.Arrivals as arrivals
use Rattle.core_state.specs.Arrivals.{Arrival, at_point, comes_in}
use Rattle.core_state.specs.Cancelling.{Fate, NeverHappens, by_outcome, tried, tries, is_to_try, goes_by, decided, outcome}
use Rattle.core_state.specs.Shared.{Shared, with_turn, with_entry, seen, seen_left, begins_with}
use Rattle.stack_code.specs.declared.instr.Instr.{Instr}
use Rattle.stack_code.specs.declared.instr.Instr.TheVariants as i
use Rattle.stack_code.specs.Parts.{Parts}
use Rattle.code_meaning.specs.Machine as flat
use Rattle.code_meaning.specs.Machine.{Flat, FlatEnd, nobody, arrived, resumed, begin, exec, exec_of, dispatched, told, first_flat, first_core, first_globals, shared_at_first, thread_at}
use Rattle.code_safety.proofs.Alike.{Alike, begin_alike, is_cancel, more_to_come}
use Rattle.replay_laws.specs.Given.{HasRun, Rises, last_turn}

-- ---- what a move makes of the journal

-- it stays, or its next entry comes in, which is of the present turn; and where an entry is still to come, nothing is seen of an end
pub data Keeps (m : Flat) : Move Flat FlatEnd → Type 0 where
  stays : {n : Flat} → n.shared.past ≡ m.shared.past → n.shared.todo ≡ m.shared.todo → m.shared.turn ≤ n.shared.turn → Keeps m (On n)
  takes : {n : Flat} → (e : Entry) (es : List Entry) → m.shared.todo ≡ e ∷ es → e.turn ≡ m.shared.turn → n.shared.past ≡ m.shared.past ++ e ∷ [] → n.shared.todo ≡ es
      → n.shared.turn ≡ m.shared.turn → Keeps m (On n)
  over : {x : FlatEnd} → ((e : Entry) (es : List Entry) → m.shared.todo ≡ e ∷ es → x.core ≡ None) → Keeps m (Over x)

-- the last of some entries
record Snoc (e : Entry) (es : List Entry) : Type 0 where
  front : List Entry
  last : Entry
  is : e ∷ es ≡ front ++ last ∷ []

snoc : (e : Entry) (es : List Entry) → Snoc e es
snoc e [] = record { front = []; last = e; is = refl }
snoc e (f ∷ es) = let s = snoc f es in record { front = e ∷ s.front; last = s.last; is = ap (λ (fs : List Entry). e ∷ fs) s.is }

on_over : (n : Flat) (x : FlatEnd) → On n ≡ Over x → ⊥
on_over n x h = cc

abbrev end_of : FlatEnd → Move Flat FlatEnd
end_of x = Over x

over_same : (x y : FlatEnd) → end_of x ≡ end_of y → x ≡ y
over_same x y h = cc

abbrev nothing : List Entry
nothing = []

empty : {A : Type 0} (e : Entry) (es : List Entry) → nothing ≡ e ∷ es → A
empty e es h = cc

no_entries : {A : Type 0} (e : Entry) (es todo : List Entry) → todo ≡ [] → todo ≡ e ∷ es → A
no_entries e es todo none some = let h : nothing ≡ e ∷ es = sym none ∙ some in empty e es h

module _ (code : Parts) (bound : ℕ) (m : Flat) where
  -- where entries are to come, nothing is seen of an instruction's end
  hidden : (t : Item) (o : Option Instr) → is_cancel o ≡ false → (x : FlatEnd) → begin code bound m t o ≡ Over x → (e : Entry) (es : List Entry) → m.shared.todo ≡ e ∷ es
      → x.core ≡ None
  hidden t o plain x h e es is = by (begin code bound before t o) (begin_alike s.last before code bound t o plain) (ap (λ (n : Flat). begin code bound n t o) same ∙ h)
    where
      s : Snoc e es
      s = snoc e es

      before : Flat
      before = record m { shared = record m.shared { todo = s.front } }

      same : more_to_come s.last before ≡ m
      same = λ j. record m { shared = record m.shared { todo = (sym (is ∙ s.is)) j } }

      by : (a : Move Flat FlatEnd) → Alike s.last before a (begin code bound (more_to_come s.last before) t o) → begin code bound (more_to_come s.last before) t o ≡ Over x → x.core ≡ None
      by (On next) al g = absurd (on_over (more_to_come s.last next) x (sym al.0 ∙ g))
      by (Over z) al g = ap (λ (y : FlatEnd). y.core) (sym (over_same al.1.0 x (sym al.1.1 ∙ g))) ∙ al.1.2

  plain_keeps : (e : Entry) (t : Item) (o : Option Instr) → is_cancel o ≡ false → (a : Move Flat FlatEnd) → begin code bound m t o ≡ a
      → Alike e m a (begin code bound (more_to_come e m) t o) → Keeps m a
  plain_keeps e t o plain (On next) h al = let same = al.1.turn in stays al.1.past al.1.todo (omega (arith, same))
  plain_keeps e t o plain (Over x) h al = over (hidden t o plain x h)

  -- ---- a dispatch point

  dispatched_keeps : (todo : List Entry) → m.shared.todo ≡ todo → (ready : List Item) → Keeps m (dispatched m ready)
  dispatched_keeps todo is [] = over (λ e es h. ap (seen_left word.Stalled true m.store.globals m.operations m.shared) h)
  dispatched_keeps todo is (t ∷ ready) = by (nat_lt m.shared.turn (2 ^ 64 - 1))
    where
      by : (b : Bool) → Keeps m
          (if b then On (record m { shared = with_turn m.shared; running = Some t; current = thread_at m.threads t; ready = ready; threads = slice_set m.threads t.number nobody })
          else Over (told m.count (seen word.OutOfSteps false m.store.globals m.operations m.shared)))
      by true = stays refl refl (omega arith)
      by false = over (λ e es h. ap (seen_left word.OutOfSteps false m.store.globals m.operations m.shared) h)

  came : (n : Flat) (x : Arrival) (e : Entry) (es : List Entry) → m.shared.todo ≡ e ∷ es → e.turn ≡ m.shared.turn → Keeps m (On (arrived n (with_entry m.shared e es) x))
  came n x e es is now = by x.woken
    where
      by : (o : Option Item) → Keeps m (On (resumed (record n { shared = with_entry m.shared e es; store = x.store; operations = x.operations }) (cell.Int x.value) o))
      by None = takes e es is now refl refl refl
      by (Some t) = takes e es is now refl refl refl

  rests_keeps : (todo : List Entry) → m.shared.todo ≡ todo
      → Keeps m (at_point (told m.count) m.shared m.store m.operations (λ shared x. On (arrived m shared x)) (dispatched m m.ready) todo)
  rests_keeps [] is = dispatched_keeps [] is m.ready
  rests_keeps (e ∷ es) is = by (nat_eq e.turn m.shared.turn) refl
    where
      entered : e.turn ≡ m.shared.turn → (r : Option Arrival) → Keeps m (comes_in (told m.count) (λ x. On (arrived m (with_entry m.shared e es) x)) r)
      entered now None = over (λ f fs h. refl)
      entered now (Some x) = came m x e es is now

      by : (b : Bool) → nat_eq e.turn m.shared.turn ≡ b
          → Keeps m (if b then comes_in (told m.count) (λ x. On (arrived m (with_entry m.shared e es) x)) (arrivals.arrives m.shared.past m.store m.operations e.event) else dispatched m m.ready)
      by true h = entered (eqb-true e.turn m.shared.turn h) (arrivals.arrives m.shared.past m.store m.operations e.event)
      by false h = dispatched_keeps (e ∷ es) is m.ready

  -- ---- a cancel

  module _ (block : BlockId) where
    abbrev inside : Operation → Bool
    inside = is_to_try (flat.is_inside m block)

    abbrev made : Fate → Operation → Arrival
    made it o = by_outcome it m.store inside m.operations o

    never : (x : Arrival) → Keeps m (On (arrived (flat.marked m block) m.shared x))
    never x = by x.woken
      where
        by : (o : Option Item) → Keeps m (On (resumed (record (flat.marked m block) { shared = m.shared; store = x.store; operations = x.operations }) (cell.Int x.value) o))
        by None = stays refl refl (omega arith)
        by (Some t) = stays refl refl (omega arith)

    decided_keeps : (o : Operation) (number : ℕ) (todo : List Entry) → m.shared.todo ≡ todo
        → Keeps m (decided (told (flat.counted m.count)) m.shared m.store.globals m.operations o.link number (λ s it. On (arrived (flat.marked m block) s (made it o))) todo)
    decided_keeps o number [] is = over (λ e es h. no_entries e es m.shared.todo is h)
    decided_keeps o number (e ∷ es) is = by (nat_eq e.turn m.shared.turn) refl
      where
        outcome_keeps : e.turn ≡ m.shared.turn → (r : Option Fate)
            → Keeps m (goes_by (told (flat.counted m.count)) (λ it. On (arrived (flat.marked m block) (with_entry m.shared e es) (made it o))) r)
        outcome_keeps now None = over (λ f fs h. refl)
        outcome_keeps now (Some it) = came (flat.marked m block) (made it o) e es is now

        by : (b : Bool) → nat_eq e.turn m.shared.turn ≡ b
            → Keeps m (if b then goes_by (told (flat.counted m.count)) (λ it. On (arrived (flat.marked m block) (with_entry m.shared e es) (made it o))) (outcome o.link number e.event)
            else Over (told (flat.counted m.count) None))
        by true h = outcome_keeps (eqb-true e.turn m.shared.turn h) (outcome o.link number e.event)
        by false h = over (λ f fs g. refl)

    tried_keeps : (o : Operation) (p : Progress)
        → Keeps m (tried (told (flat.counted m.count)) m.shared m.store.globals m.operations o.link p (λ s it. On (arrived (flat.marked m block) s (made it o))))
    tried_keeps o progress.Waiting = never (made NeverHappens o)
    tried_keeps o (progress.Offered number) = decided_keeps o number m.shared.todo refl
    tried_keeps o (progress.Started number) = over (λ e es h. refl)

    calls_off_keeps : Keeps m (flat.calls_off m block)
    calls_off_keeps = by (find inside m.operations)
      where
        by : (r : Option Operation) → Keeps m
            (tries (told (flat.counted m.count)) m.shared m.store m.operations inside (λ s x. On (arrived (flat.marked m block) s x)) (flat.goes (flat.marked m block) m.current.operands) r)
        by None = stays refl refl (omega arith)
        by (Some o) = tried_keeps o o.progress

  begin_keeps : (e : Entry) (t : Item) (o : Option Instr) → Keeps m (begin code bound m t o)
  begin_keeps e t (Some (i.Cancel level slot)) = calls_off_keeps (block_in (cell_at m.store m.current.frame level slot))
  begin_keeps e t o = plain_keeps e t o refl (begin code bound m t o) refl (begin_alike e m code bound t o refl)

  pub exec_keeps : Entry → Keeps m (exec code bound m)
  exec_keeps e = by m.running
    where
      by : (o : Option Item) → Keeps m (exec_of code bound m o)
      by None = rests_keeps m.shared.todo refl
      by (Some t) = begin_keeps e t (slice_get code.instrs m.current.place)

-- ---- turn after turn

rises_more : (k : ℕ) (es : List Entry) (e : Entry) → Rises k es → last_turn k es ≤ e.turn → Rises k (es ++ e ∷ [])
rises_more k [] e h le = (le, tt)
rises_more k (f ∷ es) e h le = (h.0, rises_more f.turn es e h.1 le)

last_more : (k : ℕ) (es : List Entry) (e : Entry) → last_turn k (es ++ e ∷ []) ≡ e.turn
last_more k [] e = refl
last_more k (f ∷ es) e = last_more f.turn es e

last_rises : (k : ℕ) (es : List Entry) (e : Entry) → Rises k (es ++ e ∷ []) → last_turn k es ≤ e.turn
last_rises k [] e h = h.0
last_rises k (f ∷ es) e h = last_rises f.turn es e h.1

-- what has come in did so turn after turn, up to the present one
record InOrder (journal : List Entry) (m : Flat) : Type 0 where
  whole : m.shared.past ++ m.shared.todo ≡ journal
  rises : Rises 0 m.shared.past
  last : last_turn 0 m.shared.past ≤ m.shared.turn

module _ (code : Parts) (bound : ℕ) (journal : List Entry) (any : Entry) where
  order_on : (m n : Flat) → InOrder journal m → Keeps m (On n) → InOrder journal n
  order_on m n o (stays past todo turn) =
      let last = o.last in
      let same : last_turn 0 n.shared.past ≡ last_turn 0 m.shared.past = ap (last_turn 0) past in
      record {
        whole = ap (λ (es : List Entry). es ++ n.shared.todo) past ∙ (ap (λ (es : List Entry). m.shared.past ++ es) todo ∙ o.whole);
        rises = rw past o.rises;
        last = omega (arith, last, same, turn);
      }
  order_on m n o (takes e es is now past todo turn) =
      let last = o.last in
      let same : last_turn 0 n.shared.past ≡ e.turn = ap (last_turn 0) past ∙ last_more 0 m.shared.past e in
      record {
        whole = ap (λ (fs : List Entry). fs ++ n.shared.todo) past
            ∙ (ap (λ (fs : List Entry). (m.shared.past ++ e ∷ []) ++ fs) todo
            ∙ (append_assoc m.shared.past (e ∷ []) es ∙ (ap (λ (fs : List Entry). m.shared.past ++ fs) (sym is) ∙ o.whole)));
        rises = rw past (rises_more 0 m.shared.past e o.rises (omega (arith, last, now)));
        last = omega (arith, same, now, turn);
      }

  some_none : {A : Type 0} {B : Type 0} (x : A) → Some x ≡ None → B
  some_none x h = cc

  ends_in_order : (m : Flat) (x : FlatEnd) → InOrder journal m → Keeps m (Over x) → (end : CoreEnd) → x.core ≡ Some end → Rises 0 journal
  ends_in_order m x o (over hides) end is = by m.shared.todo refl
    where
      by : (todo : List Entry) → m.shared.todo ≡ todo → Rises 0 journal
      by [] none = rw (sym o.whole, none, append-nil m.shared.past) o.rises
      by (e ∷ es) some = some_none end (sym is ∙ hides e es some)

  run_in_order : (k : ℕ) (m : Flat) (x : FlatEnd) → InOrder journal m → moves (exec code bound) k m ≡ Over x → (end : CoreEnd) → x.core ≡ Some end → Rises 0 journal
  run_in_order zero m x o h end is = absurd (on_over m x h)
  run_in_order (suc k) m x o h end is = by (exec code bound m) (exec_keeps code bound m any) h (λ n q g. run_in_order k n x q g end is)
    where
      by : (a : Move Flat FlatEnd) → Keeps m a → and_then a (moves (exec code bound) k) ≡ Over x
          → ((n : Flat) → InOrder journal n → moves (exec code bound) k n ≡ Over x → Rises 0 journal) → Rises 0 journal
      by (On n) keeps g again = again n (order_on m n o keeps) g
      by (Over z) keeps g again = ends_in_order m z o keeps end (ap (λ (y : FlatEnd). y.core) (over_same z x g) ∙ is)

-- the turns of a journal that has a run never fall
pub turns_rise : (code : Parts) (core bound : ℕ) (journal : List Entry) → HasRun code core bound journal → Rises 0 journal
turns_rise code core bound [] r = tt
turns_rise code core bound (e ∷ es) r =
    from (begun (first_store (first_globals code)) None (replicate r.runs.function.words no_int)) r.runs.comes.1
  where
    journal : List Entry
    journal = e ∷ es

    shared : Shared
    shared = shared_at_first code core (e ∷ es)

    from : (b : Result Store Trap)
        → Over (record { core = Some r.end; count = r.count }) ≡ and_then
        (begins_with (told 0) (first_globals code) shared b (λ store. On (first_core r.runs.function shared store))) (moves (exec code bound) r.runs.comes.0)
        → Rises 0 (e ∷ es)
    from (Ok store) h = run_in_order code bound (e ∷ es) e r.runs.comes.0 (first_core r.runs.function shared store) (record { core = Some r.end; count = r.count })
        (record { whole = refl; rises = tt; last = omega arith }) (sym h) r.end refl
    from (Err trap) h = some_none code bound (e ∷ es) e r.end (ap (λ (y : FlatEnd). y.core) (over_same (record { core = Some r.end; count = r.count }) (told 0 None) h))

-- so no run goes on with an entry of a turn that is over
pub misfit_when_late : (code : Parts) (core bound : ℕ) (journal : List Entry) (e : Entry) → e.turn < last_turn 0 journal → HasRun code core bound (journal ++ e ∷ []) → ⊥
misfit_when_late code core bound journal e late r =
    let le : last_turn 0 journal ≤ e.turn = last_rises 0 journal e (turns_rise code core bound (journal ++ e ∷ []) r) in
    omega (arith, late, le)
