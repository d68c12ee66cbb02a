-- A run goes the same way where one more entry is still to come, and that entry is the next to come in.
-- By induction on the number of moves, with Alike for each of them. At the end of the run the entry comes in at a dispatch point, or is the
-- outcome of the offer that a cancel tries. `core_machine` goes by it from the journal that it has to the one with an entry more.
use Rattle.std.proofs.Common.{◌≡◌, ℕ, zero, suc, ◌+◌, ◌≤◌, List, [], ◌∷◌, ◌++◌, Option, Some, None, Result, Ok, Err, Bool, true, false, refl, sym, ap, ◌∙◌, subst, arith}
use Rattle.std.specs.Prelude.{find, replicate, nat_lt, nat_eq, slice_get, ◌^◌, ◌-◌, if◌then◌else◌, slice_set}
use Rattle.std.proofs.lemmas.Bool.{eqb-true, eq-eqb}
use Rattle.ac_base.specs.declared.ends.Trap.{Trap}
use Rattle.ac_base.specs.declared.ends.EndWord.TheVariants as word
use Rattle.ac_base.specs.declared.entry.Entry.{Entry}
use Rattle.work_item.specs.declared.ids.Item.{Item}
use Rattle.work_item.specs.declared.ids.BlockId.{BlockId}
use Rattle.work_item.specs.declared.cell.Cell.TheVariants as cell
use Rattle.work_item.specs.Store.{Store, cell_at, no_int}
use Rattle.core_state.specs.Moves.{Move, On, Over, moves, and_then, GoesOn}
use Rattle.core_state.specs.Frames.{begun, first_store, block_in}
use Rattle.core_state.specs.Arrivals as arrivals
use Rattle.cancel_scope.specs.declared.operation.Operation.{Operation}
use Rattle.cancel_scope.specs.declared.operation.Progress.{Progress}
use Rattle.cancel_scope.specs.declared.operation.Progress.TheVariants.{Waiting, Offered, Started}
use Rattle.core_state.specs.Arrivals.{Arrival, at_point, comes_in}
use Rattle.core_state.specs.Cancelling.{Fate, NeverHappens, by_outcome, outcome, goes_by, decided, tried, tries, is_to_try}
use Rattle.core_state.specs.Shared.{Shared, begins_with, with_entry, with_turn, seen}
use Rattle.core_state.proofs.Runs.{GoesOn-more}
use Rattle.stack_code.specs.declared.instr.Instr.{Instr}
use Rattle.stack_code.specs.declared.instr.Instr.TheVariants as i
use Rattle.stack_code.specs.declared.parts.Entered.{Entered}
use Rattle.stack_code.specs.Parts.{Parts}
use Rattle.code_meaning.specs.Machine as flat
use Rattle.code_meaning.specs.Machine.{Flat, FlatEnd, nobody, Caller, Block, arrived, resumed, begin, exec, exec_of, dispatched, told, with_store, with_shared, or_trap, on_top, on_two, on_three}
use Rattle.code_meaning.specs.Machine.{on_many, one_operand}
use Rattle.code_meaning.specs.Machine.{two_operands, always, text_at}
use Rattle.code_meaning.specs.Machine.{calls, returns, arrives, arrives_in, arrives_at, dies, dies_in, counted_out, block_at, shared_at_first, first_flat, first_core, first_globals, thread_at}
use Rattle.code_safety.proofs.Alike.{Alike, KeepsJournal, begin_alike, is_cancel, more_shared, more_to_come}

-- a move leads on just as with that entry, and keeps the journal
abbrev pub Too : Entry → Flat → Move Flat FlatEnd → Move Flat FlatEnd → Type 0
Too e m (On next) r = (r ≡ On (more_to_come e next)) × KeepsJournal m.shared next.shared
Too e m (Over x) r = Unit {0}

too_of : (e : Entry) (m : Flat) (a b : Move Flat FlatEnd) → Alike e m a b → Too e m a b
too_of e m (On next) b h = h
too_of e m (Over x) b h = tt

pub begin_too : (e : Entry) (m : Flat) (code : Parts) (bound : ℕ) (t : Item) (o : Option Instr) → is_cancel o ≡ false
    → Too e m (begin code bound m t o) (begin code bound (more_to_come e m) t o)
begin_too e m code bound t o p = too_of e m (begin code bound m t o) (begin code bound (more_to_come e m) t o) (begin_alike e m code bound t o p)

-- ---- a move

-- no move takes the turn back, and one to a state whose turn is at most that of the entry leads there also with the entry
abbrev pub Follows : Entry → ℕ → Move Flat FlatEnd → Move Flat FlatEnd → Type 0
Follows e turn (On next) r = (turn ≤ next.shared.turn) × (next.shared.turn ≤ e.turn → r ≡ On (more_to_come e next))
Follows e turn (Over x) r = Unit {0}

follows_of : (e : Entry) (m : Flat) (a b : Move Flat FlatEnd) → Too e m a b → Follows e m.shared.turn a b
follows_of e m (On next) b h = let same = h.1.turn in (omega (arith, same), λ le. h.0)
follows_of e m (Over x) b h = tt

follows_from : (e : Entry) (n k : ℕ) (a b : Move Flat FlatEnd) → n ≤ k → Follows e k a b → Follows e n a b
follows_from e n k (On next) b le h = let l = h.0 in (omega (arith, le, l), h.1)
follows_from e n k (Over x) b le h = tt

-- where the turn rises before the entry can come in, it is still to come
follows_past : (e : Entry) (turn : ℕ) (a b c : Move Flat FlatEnd) → Follows e (turn + 1) a b → Follows e turn a (if nat_eq e.turn turn then c else b)
follows_past e turn (Over x) b c h = tt
follows_past e turn (On next) b c h = let l = h.0 in (omega (arith, l), λ le. ap (λ (z : Bool). if z then c else b) (no_more le) ∙ h.1 le)
  where
    no_more : next.shared.turn ≤ e.turn → nat_eq e.turn turn ≡ false
    no_more le = go (nat_eq e.turn turn) refl
      where
        go : (z : Bool) → nat_eq e.turn turn ≡ z → nat_eq e.turn turn ≡ false
        go true q = absurd (let same = eqb-true e.turn turn q in let l = h.0 in omega (arith, same, l, le))
        go false q = q

module _ (code : Parts) (bound : ℕ) (e : Entry) where
  -- ---- a dispatch point

  module _ (m : Flat) where
    abbrev more : Flat
    more = more_to_come e m

    -- the turn rises
    dispatched_follows : (ready : List Item) → Follows e (m.shared.turn + 1) (dispatched m ready) (dispatched more ready)
    dispatched_follows [] = tt
    dispatched_follows (t ∷ ready) =
        by (nat_lt m.shared.turn (2 ^ 64 - 1)) (told m.count (seen word.OutOfSteps false m.store.globals m.operations m.shared))
        (told m.count (seen word.OutOfSteps false m.store.globals m.operations (more_shared e m.shared)))
      where
        by : (b : Bool) (x y : FlatEnd) →
            Follows e (m.shared.turn + 1)
            (if b then On (record m { shared = with_turn m.shared; running = Some t; current = thread_at m.threads t; ready = ready; threads = slice_set m.threads t.number nobody }) else Over x)
            (if b then On (record m {
              shared = with_turn (more_shared e m.shared);
              running = Some t;
              current = thread_at m.threads t;
              ready = ready;
              threads = slice_set m.threads t.number nobody;
            }) else Over y)
        by true x y = (omega arith, λ le. refl)
        by false x y = tt

    -- another entry comes in
    enters_follows : (first : Entry) (rest : List Entry) (o : Option Arrival) → Follows e m.shared.turn
        (comes_in (told m.count) (λ x. On (arrived m (with_entry m.shared first rest) x)) o)
        (comes_in (told m.count) (λ x. On (arrived more (with_entry (more_shared e m.shared) first (rest ++ e ∷ [])) x)) o)
    enters_follows first rest None = tt
    enters_follows first rest (Some x) = by x.woken
      where
        by : (o : Option Item) → Follows e m.shared.turn
            (On (resumed (record m { shared = with_entry m.shared first rest; store = x.store; operations = x.operations }) (cell.Int x.value) o))
            (On (resumed (record m { shared = with_entry (more_shared e m.shared) first (rest ++ e ∷ []); store = x.store; operations = x.operations }) (cell.Int x.value) o))
        by None = (omega arith, λ le. refl)
        by (Some t) = (omega arith, λ le. refl)

    abbrev at_rest : Flat → List Entry → Move Flat FlatEnd
    at_rest n todo = at_point (told m.count) n.shared m.store m.operations (λ shared x. On (arrived n shared x)) (dispatched n m.ready) todo

    rests_follow : (todo : List Entry) → Follows e m.shared.turn (at_rest m todo) (at_rest more (todo ++ e ∷ []))
    rests_follow [] = follows_past e m.shared.turn (dispatched m m.ready) (dispatched more m.ready)
        (comes_in (told m.count) (λ x. On (arrived more (with_entry (more_shared e m.shared) e []) x)) (arrivals.arrives m.shared.past m.store m.operations e.event)) (dispatched_follows m.ready)
    rests_follow (first ∷ rest) = by (nat_eq first.turn m.shared.turn)
      where
        by : (b : Bool) → Follows e m.shared.turn
            (if b then comes_in (told m.count) (λ x. On (arrived m (with_entry m.shared first rest) x)) (arrivals.arrives m.shared.past m.store m.operations first.event) else dispatched m m.ready)
            (if b
            then comes_in (told m.count) (λ x. On (arrived more (with_entry (more_shared e m.shared) first (rest ++ e ∷ [])) x))
            (arrivals.arrives m.shared.past m.store m.operations first.event)
            else dispatched more m.ready)
        by true = enters_follows first rest (arrivals.arrives m.shared.past m.store m.operations first.event)
        by false = follows_from e m.shared.turn (m.shared.turn + 1) (dispatched m m.ready) (dispatched more m.ready) (omega arith) (dispatched_follows m.ready)

  -- ---- a cancel

  module _ (m : Flat) (block : BlockId) where
    abbrev after : Flat
    after = more_to_come e m

    abbrev inside : Operation → Bool
    inside = is_to_try (flat.is_inside m block)

    abbrev pub made : Fate → Operation → Arrival
    made it o = by_outcome it m.store inside m.operations o

    -- an operation has been tried, after so many entries
    made_follows : (x : Arrival) (s : Shared) → s.turn ≡ m.shared.turn
        → Follows e m.shared.turn (On (arrived (flat.marked m block) s x)) (On (arrived (flat.marked after block) (more_shared e s) x))
    made_follows x s same = by x.woken
      where
        by : (o : Option Item) → Follows e m.shared.turn
            (On (resumed (record (flat.marked m block) { shared = s; store = x.store; operations = x.operations }) (cell.Int x.value) o))
            (On (resumed (record (flat.marked after block) { shared = more_shared e s; store = x.store; operations = x.operations }) (cell.Int x.value) o))
        by None = (omega (arith, same), λ le. refl)
        by (Some t) = (omega (arith, same), λ le. refl)

    outcome_follows : (o : Operation) (first : Entry) (rest : List Entry) (r : Option Fate) → Follows e m.shared.turn
        (goes_by (told (flat.counted m.count)) (λ it. On (arrived (flat.marked m block) (with_entry m.shared first rest) (made it o))) r)
        (goes_by (told (flat.counted m.count)) (λ it. On (arrived (flat.marked after block) (with_entry (more_shared e m.shared) first (rest ++ e ∷ [])) (made it o))) r)
    outcome_follows o first rest None = tt
    outcome_follows o first rest (Some it) = made_follows (made it o) (with_entry m.shared first rest) refl

    decided_follows : (o : Operation) (number : ℕ) (todo : List Entry) → Follows e m.shared.turn
        (decided (told (flat.counted m.count)) m.shared m.store.globals m.operations o.link number (λ s it. On (arrived (flat.marked m block) s (made it o))) todo)
        (decided (told (flat.counted m.count)) (more_shared e m.shared) m.store.globals m.operations o.link number (λ s it. On (arrived (flat.marked after block) s (made it o)))
        (todo ++ e ∷ []))
    decided_follows o number [] = tt
    decided_follows o number (first ∷ rest) = by (nat_eq first.turn m.shared.turn)
      where
        by : (b : Bool) → Follows e m.shared.turn
            (if b then goes_by (told (flat.counted m.count)) (λ it. On (arrived (flat.marked m block) (with_entry m.shared first rest) (made it o))) (outcome o.link number first.event)
            else Over (told (flat.counted m.count) None))
            (if b
            then goes_by (told (flat.counted m.count)) (λ it. On (arrived (flat.marked after block) (with_entry (more_shared e m.shared) first (rest ++ e ∷ [])) (made it o)))
            (outcome o.link number first.event)
            else Over (told (flat.counted m.count) None))
        by true = outcome_follows o first rest (outcome o.link number first.event)
        by false = tt

    tried_follows : (o : Operation) (p : Progress) → Follows e m.shared.turn
        (tried (told (flat.counted m.count)) m.shared m.store.globals m.operations o.link p (λ s it. On (arrived (flat.marked m block) s (made it o))))
        (tried (told (flat.counted m.count)) (more_shared e m.shared) m.store.globals m.operations o.link p (λ s it. On (arrived (flat.marked after block) s (made it o))))
    tried_follows o Waiting = made_follows (made NeverHappens o) m.shared refl
    tried_follows o (Offered number) = decided_follows o number m.shared.todo
    tried_follows o (Started number) = tt

    calls_off_follows : Follows e m.shared.turn (flat.calls_off m block) (flat.calls_off after block)
    calls_off_follows = by (find inside m.operations)
      where
        by : (r : Option Operation) → Follows e m.shared.turn
            (tries (told (flat.counted m.count)) m.shared m.store m.operations inside (λ s x. On (arrived (flat.marked m block) s x)) (flat.goes (flat.marked m block) m.current.operands) r)
            (tries (told (flat.counted m.count)) (more_shared e m.shared) m.store m.operations inside (λ s x. On (arrived (flat.marked after block) s x))
            (flat.goes (flat.marked after block) m.current.operands) r)
        by None = (omega arith, λ le. refl)
        by (Some o) = tried_follows o o.progress

  begin_follows : (m : Flat) (t : Item) (o : Option Instr) → Follows e m.shared.turn (begin code bound m t o) (begin code bound (more_to_come e m) t o)
  begin_follows m t (Some (i.Cancel level slot)) = calls_off_follows m (block_in (cell_at m.store m.current.frame level slot))
  begin_follows m t o = follows_of e m (begin code bound m t o) (begin code bound (more_to_come e m) t o) (begin_too e m code bound t o refl)

  exec_follows : (m : Flat) → Follows e m.shared.turn (exec code bound m) (exec code bound (more_to_come e m))
  exec_follows m = by m.running
    where
      by : (o : Option Item) → Follows e m.shared.turn (exec_of code bound m o) (exec_of code bound (more_to_come e m) o)
      by None = rests_follow m m.shared.todo
      by (Some t) = begin_follows m t (slice_get code.instrs m.current.place)

  -- ---- so many moves

  then_follows : (k turn : ℕ) → ((next : Flat) → Follows e next.shared.turn (moves (exec code bound) k next) (moves (exec code bound) k (more_to_come e next))) → (a b : Move Flat FlatEnd)
      → Follows e turn a b → Follows e turn (and_then a (moves (exec code bound) k)) (and_then b (moves (exec code bound) k))
  then_follows k turn later (Over x) b h = tt
  then_follows k turn later (On next) b h = by (moves (exec code bound) k next) (later next)
    where
      by : (a : Move Flat FlatEnd) → Follows e next.shared.turn a (moves (exec code bound) k (more_to_come e next)) → Follows e turn a (and_then b (moves (exec code bound) k))
      by (Over x) f = tt
      by (On last) f =
          let before = h.0 in
          let after = f.0 in
          (omega (arith, before, after), λ le. ap (λ r. and_then r (moves (exec code bound) k)) (h.1 (omega (arith, after, le))) ∙ f.1 le)

  moves_follow : (k : ℕ) (m : Flat) → Follows e m.shared.turn (moves (exec code bound) k m) (moves (exec code bound) k (more_to_come e m))
  moves_follow zero m = (omega arith, λ le. refl)
  moves_follow (suc k) m = then_follows k m.shared.turn (λ next. moves_follow k next) (exec code bound m) (exec code bound (more_to_come e m)) (exec_follows m)

  first_follows : (core : ℕ) (function : Entered) (journal : List Entry) → Follows e 0 (first_flat code core function journal) (first_flat code core function (journal ++ e ∷ []))
  first_follows core function journal = by (begun (first_store (first_globals code)) None (replicate function.words no_int))
    where
      by : (r : Result Store Trap) →
          Follows e 0 (begins_with (told 0) (first_globals code) (shared_at_first code core journal) r (λ store. On (first_core function (shared_at_first code core journal) store)))
          (begins_with (told 0) (first_globals code) (shared_at_first code core (journal ++ e ∷ [])) r (λ store. On (first_core function (shared_at_first code core (journal ++ e ∷ [])) store)))
      by (Ok store) = (omega arith, λ le. refl)
      by (Err trap) = tt

  -- at a dispatch point with no entry to come, one of its turn that fits is the next that comes in
  pub comes_next : (m : Flat) (x : Arrival) → m.running ≡ None → m.shared.todo ≡ [] → e.turn ≡ m.shared.turn → arrivals.arrives m.shared.past m.store m.operations e.event ≡ Some x
      → exec code bound (more_to_come e m) ≡ On (arrived m (with_entry m.shared e []) x)
  comes_next m x idle none now fits =
      ap (exec_of code bound (more_to_come e m)) idle ∙ ap (λ todo. at_rest m (more_to_come e m) (todo ++ e ∷ [])) none
      ∙ ap (λ (b : Bool). if b then comes_in (told m.count) go (arrivals.arrives m.shared.past m.store m.operations e.event) else dispatched (more_to_come e m) m.ready)
      (eq-eqb e.turn m.shared.turn now)
      ∙ ap (comes_in (told m.count) go) fits
    where
      go : Arrival → Move Flat FlatEnd
      go y = On (arrived (more_to_come e m) (with_entry (more_shared e m.shared) e []) y)

  -- the operation that a cancel tries next stands on its link under that number
  pub record TriesNext (m : Flat) (t : Item) (block : BlockId) (o : Operation) (number : ℕ) : Type 0 where
    pub level : ℕ
    pub slot : ℕ
    pub running : m.running ≡ Some t
    pub here : slice_get code.instrs m.current.place ≡ Some (i.Cancel level slot)
    pub block_is : block_in (cell_at m.store m.current.frame level slot) ≡ block
    pub found : find (is_to_try (flat.is_inside m block)) m.operations ≡ Some o
    pub offered : o.progress ≡ Offered number

  -- at such a cancel with no entry to come, one of its turn that is the outcome is the next that comes in
  pub decides_next : (m : Flat) (t : Item) (block : BlockId) (o : Operation) (number : ℕ) (it : Fate) → TriesNext m t block o number → m.shared.todo ≡ [] → e.turn ≡ m.shared.turn
      → outcome o.link number e.event ≡ Some it
      → exec code bound (more_to_come e m) ≡ On (arrived (flat.marked m block) (with_entry m.shared e []) (made m block it o))
  decides_next m t block o number it next none now is =
      let found = next.found in
      let offered = next.offered in
      let same = eq-eqb e.turn m.shared.turn now in
      ap (exec_of code bound (more_to_come e m)) next.running
      ∙ ap (begin code bound (more_to_come e m) t) next.here
      ∙ ap (flat.calls_off (more_to_come e m)) next.block_is
      ∙ rw (found, offered, none, same, is) refl

  -- ---- a run

  module _ (core : ℕ) (function : Entered) (journal : List Entry) (m : Flat) (run : GoesOn (exec code bound) (first_flat code core function journal) (On m)) where
    abbrev longer : Move Flat FlatEnd
    longer = first_flat code core function (journal ++ e ∷ [])

    -- a run to a state is also a run to it with one more entry still to come, where its turn is that of the state or a later one
    pub run_more : m.shared.turn ≤ e.turn → GoesOn (exec code bound) longer (On (more_to_come e m))
    run_more le =
        let f = then_follows run.0 0 (λ next. moves_follow run.0 next) (first_flat code core function journal) longer (first_follows core function journal) in
        let g : Follows e 0 (On m) (and_then longer (moves (exec code bound) run.0)) = subst (λ a. Follows e 0 a (and_then longer (moves (exec code bound) run.0))) (sym run.1) f in
        (run.0, sym (g.1 le))

    -- and where it comes in, the run goes on to what it makes of the state
    pub run_arrives : (x : Arrival) → m.running ≡ None → m.shared.todo ≡ [] → e.turn ≡ m.shared.turn → arrivals.arrives m.shared.past m.store m.operations e.event ≡ Some x
        → GoesOn (exec code bound) longer (On (arrived m (with_entry m.shared e []) x))
    run_arrives x idle none now fits =
        subst (GoesOn (exec code bound) longer) (comes_next m x idle none now fits) (GoesOn-more (exec code bound) longer (more_to_come e m) (run_more (omega (arith, now))))

    -- and where it is the outcome of an offer that a cancel tries
    pub run_decides : (t : Item) (block : BlockId) (o : Operation) (number : ℕ) (it : Fate) → TriesNext m t block o number → m.shared.todo ≡ [] → e.turn ≡ m.shared.turn
        → outcome o.link number e.event ≡ Some it
        → GoesOn (exec code bound) longer (On (arrived (flat.marked m block) (with_entry m.shared e []) (made m block it o)))
    run_decides t block o number it next none now is =
        subst (GoesOn (exec code bound) longer) (decides_next m t block o number it next none now is)
        (GoesOn-more (exec code bound) longer (more_to_come e m) (run_more (omega (arith, now))))
