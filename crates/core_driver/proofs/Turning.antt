-- The turn of a core along its run. No move takes it back, an instruction leaves it, and at rest a move raises it by one at most. So the
-- moves that a machine makes at once, at none of which but the first an entry could come in, are of one turn, which bounds each turn that
-- the core has reached by then. Where the core has ended, a state on its way is one of these moves or lies before them.
use Rattle.std.proofs.Common.{◌≡◌, ℕ, zero, suc, ◌+◌, ◌-◌, ◌^◌, ◌≤◌, List, [], ◌∷◌, Option, Some, None, Bool, true, false, refl, sym, ap, ◌∙◌, subst, arith}
use Rattle.std.specs.Prelude.{find, is_none, nat_eq, nat_lt, not, slice_get, slice_set, if◌then◌else◌}
use Rattle.std.proofs.lemmas.Bool.{eqb-false}
use Rattle.ac_base.specs.declared.ends.EndWord.TheVariants as word
use Rattle.ac_base.specs.declared.entry.Entry.{Entry}
use Rattle.ac_base.specs.declared.entry.Event.TheVariants as event
use Rattle.work_item.specs.declared.ids.Item.{Item}
use Rattle.work_item.specs.declared.ids.BlockId.{BlockId}
use Rattle.work_item.specs.declared.cell.Cell.TheVariants as cell
use Rattle.work_item.specs.Store.{cell_at}
use Rattle.cancel_scope.specs.declared.operation.Operation.{Operation}
use Rattle.cancel_scope.specs.declared.operation.Progress.{Progress}
use Rattle.cancel_scope.specs.declared.operation.Progress.TheVariants.{Waiting, Offered, Started}
use Rattle.core_state.specs.Moves.{Move, On, Over, GoesOn, and_then, moves}
use Rattle.core_state.specs.Frames.{block_in}
use Rattle.core_state.specs.Arrivals as arrivals
use Rattle.core_state.specs.Arrivals.{Arrival, at_point, comes_in}
use Rattle.core_state.specs.Cancelling.{Fate, NeverHappens, by_outcome, decided, goes_by, is_to_try, outcome, tried, tries}
use Rattle.core_state.specs.Shared.{Shared, seen, with_entry, with_turn}
use Rattle.stack_code.specs.declared.instr.Instr.{Instr}
use Rattle.stack_code.specs.declared.instr.Instr.TheVariants as i
use Rattle.stack_code.specs.declared.parts.Entered.{Entered}
use Rattle.stack_code.specs.Parts.{Parts, Begins}
use Rattle.code_meaning.specs.Machine as flat
use Rattle.code_meaning.specs.Machine.{Flat, FlatEnd, arrived, begin, counted, dispatched, exec, exec_of, first_flat, marked, nobody, resumed, thread_at, told}
use Rattle.code_safety.proofs.Alike.{Alike, begin_alike, more_to_come}
use Rattle.replay_laws.specs.Given.{Passes, asks, passes_by}
use Rattle.core_machine.specs.Machine.{Machine, IsOnItsWay, IsSameCore}
use Rattle.core_driver.specs.Polled.{HasReached}
use Rattle.core_driver.specs.inner.InStep.{turn_at}

-- ---- one move

-- an instruction leaves the turn
abbrev Leaves : Flat → Move Flat FlatEnd → Type 0
Leaves m (On n) = n.shared.turn ≡ m.shared.turn
Leaves m (Over x) = Unit {0}

-- at rest it rises by one at most
abbrev AtRest : Flat → Move Flat FlatEnd → Type 0
AtRest m (On n) = (m.shared.turn ≤ n.shared.turn) × (n.shared.turn ≤ m.shared.turn + 1)
AtRest m (Over x) = Unit {0}

abbrev Turned : Option Item → Flat → Move Flat FlatEnd → Type 0
Turned None m a = AtRest m a
Turned (Some t) m a = Leaves m a

pub arrived_turn : (m : Flat) (s : Shared) (x : Arrival) → turn_at (On (arrived m s x)) ≡ s.turn
arrived_turn m s x = by x.woken
  where
    by : (o : Option Item) → turn_at (On (resumed (record m { shared = s; store = x.store; operations = x.operations }) (cell.Int x.value) o)) ≡ s.turn
    by None = refl
    by (Some t) = refl

any : Entry
any = record { stamp = 0; turn = 0; event = event.Know 0 0 }

module _ (code : Parts) (bound : ℕ) (m : Flat) where
  -- ---- at rest

  dispatched_rests : (ready : List Item) → AtRest m (dispatched m ready)
  dispatched_rests [] = tt
  dispatched_rests (t ∷ ready) = by (nat_lt m.shared.turn (2 ^ 64 - 1))
    where
      by : (b : Bool) → AtRest m
          (if b then On (record m { shared = with_turn m.shared; running = Some t; current = thread_at m.threads t; ready = ready; threads = slice_set m.threads t.number nobody })
          else Over (told m.count (seen word.OutOfSteps false m.store.globals m.operations m.shared)))
      by true = (omega arith, omega arith)
      by false = tt

  rests : (todo : List Entry) → AtRest m (at_point (told m.count) m.shared m.store m.operations (λ shared x. On (arrived m shared x)) (dispatched m m.ready) todo)
  rests [] = dispatched_rests m.ready
  rests (e ∷ es) = by (nat_eq e.turn m.shared.turn)
    where
      entered : (r : Option Arrival) → AtRest m (comes_in (told m.count) (λ x. On (arrived m (with_entry m.shared e es) x)) r)
      entered None = tt
      entered (Some x) = let same = arrived_turn m (with_entry m.shared e es) x in (omega (arith, same), omega (arith, same))

      by : (b : Bool) → AtRest m
          (if b then comes_in (told m.count) (λ x. On (arrived m (with_entry m.shared e es) x)) (arrivals.arrives m.shared.past m.store m.operations e.event) else dispatched m m.ready)
      by true = entered (arrivals.arrives m.shared.past m.store m.operations e.event)
      by false = dispatched_rests m.ready

  -- ---- a cancel

  module _ (block : BlockId) where
    abbrev inside : Operation → Bool
    inside = is_to_try (flat.is_inside m block)

    abbrev made : Fate → Operation → Arrival
    made it o = by_outcome it m.store inside m.operations o

    decided_leaves : (o : Operation) (number : ℕ) (todo : List Entry)
        → Leaves m (decided (told (counted m.count)) m.shared m.store.globals m.operations o.link number (λ s it. On (arrived (marked m block) s (made it o))) todo)
    decided_leaves o number [] = tt
    decided_leaves o number (e ∷ es) = by (nat_eq e.turn m.shared.turn)
      where
        goes : (r : Option Fate) → Leaves m (goes_by (told (counted m.count)) (λ it. On (arrived (marked m block) (with_entry m.shared e es) (made it o))) r)
        goes None = tt
        goes (Some it) = arrived_turn (marked m block) (with_entry m.shared e es) (made it o)

        by : (b : Bool) → Leaves m
            (if b then goes_by (told (counted m.count)) (λ it. On (arrived (marked m block) (with_entry m.shared e es) (made it o))) (outcome o.link number e.event)
            else Over (told (counted m.count) None))
        by true = goes (outcome o.link number e.event)
        by false = tt

    tried_leaves : (o : Operation) (p : Progress)
        → Leaves m (tried (told (counted m.count)) m.shared m.store.globals m.operations o.link p (λ s it. On (arrived (marked m block) s (made it o))))
    tried_leaves o Waiting = arrived_turn (marked m block) m.shared (made NeverHappens o)
    tried_leaves o (Offered number) = decided_leaves o number m.shared.todo
    tried_leaves o (Started number) = tt

    cancel_leaves : Leaves m (flat.calls_off m block)
    cancel_leaves = by (find inside m.operations)
      where
        by : (r : Option Operation) → Leaves m
            (tries (told (counted m.count)) m.shared m.store m.operations inside (λ s x. On (arrived (marked m block) s x)) (flat.goes (marked m block) m.current.operands) r)
        by None = refl
        by (Some o) = tried_leaves o o.progress

  -- ---- each instruction

  plain_leaves : (a b : Move Flat FlatEnd) → Alike any m a b → Leaves m a
  plain_leaves (On n) b h = h.1.turn
  plain_leaves (Over x) b h = tt

  begin_leaves : (t : Item) (o : Option Instr) → Leaves m (begin code bound m t o)
  begin_leaves t (Some (i.Cancel level slot)) = cancel_leaves (block_in (cell_at m.store m.current.frame level slot))
  begin_leaves t o = plain_leaves (begin code bound m t o) (begin code bound (more_to_come any m) t o) (begin_alike any m code bound t o refl)

  exec_turned : Turned m.running m (exec code bound m)
  exec_turned = by m.running
    where
      by : (o : Option Item) → Turned o m (exec_of code bound m o)
      by None = rests m.shared.todo
      by (Some t) = begin_leaves t (slice_get code.instrs m.current.place)

-- ---- moves, one after another

-- where it goes on, it is in this turn or a later one
abbrev Least : ℕ → Move Flat FlatEnd → Type 0
Least turn (On n) = turn ≤ n.shared.turn
Least turn (Over x) = Unit {0}

-- or in none after this turn
abbrev Most : ℕ → Move Flat FlatEnd → Type 0
Most turn (On n) = n.shared.turn ≤ turn
Most turn (Over x) = Unit {0}

turned_least : (m : Flat) (turn : ℕ) → turn ≤ m.shared.turn → (o : Option Item) (a : Move Flat FlatEnd) → Turned o m a → Least turn a
turned_least m turn le None (On n) h = let up = h.0 in omega (arith, le, up)
turned_least m turn le (Some t) (On n) h = omega (arith, le, h)
turned_least m turn le o (Over x) h = tt

some_same : {A : Type 0} (x y : A) → Some x ≡ Some y → x ≡ y
some_same x y h = cc

same_function : (code : Parts) (core : ℕ) (f g : Entered) → Begins code core f → Begins code core g → f ≡ g
same_function code core f g b c =
    let entry : b.entry ≡ c.entry = some_same b.entry c.entry (sym b.entry_is ∙ c.entry_is) in
    some_same f g (sym b.function_is ∙ (ap (λ (k : ℕ). slice_get code.functions k) entry ∙ c.function_is))

-- of two states of a run, the one leads to the other
data Ordered (f : Flat → Move Flat FlatEnd) (a b : Flat) : Type 0 where
  forth : GoesOn f (On a) (On b) → Ordered f a b
  back : GoesOn f (On b) (On a) → Ordered f a b

ordered : (f : Flat → Move Flat FlatEnd) (first : Move Flat FlatEnd) (a b : Flat) (j k : ℕ) → On a ≡ and_then first (moves f j) → On b ≡ and_then first (moves f k) → Ordered f a b
ordered f (Over x) a b j k e h = let no : On a ≡ Over x = e in absurd (cc)
ordered f (On s) a b zero k e h = forth (k, h ∙ ap (λ (x : Move Flat FlatEnd). and_then x (moves f k)) (sym e))
ordered f (On s) a b (suc j) zero e h = back (suc j, e ∙ ap (λ (x : Move Flat FlatEnd). and_then x (moves f (suc j))) (sym h))
ordered f (On s) a b (suc j) (suc k) e h = ordered f (f s) a b j k e h

module _ (code : Parts) (bound : ℕ) where
  abbrev step : Flat → Move Flat FlatEnd
  step = exec code bound

  moves_least : (k : ℕ) (a : Move Flat FlatEnd) (turn : ℕ) → Least turn a → Least turn (and_then a (moves step k))
  moves_least k (Over x) turn h = tt
  moves_least zero (On m) turn h = h
  moves_least (suc k) (On m) turn h = moves_least k (step m) turn (turned_least m turn h m.running (step m) (exec_turned code bound m))

  -- a later state is of no earlier turn
  pub never_back : (m n : Flat) → GoesOn step (On m) (On n) → m.shared.turn ≤ n.shared.turn
  never_back m n h = subst (Least m.shared.turn) (sym h.1) (moves_least h.0 (On m) m.shared.turn (omega arith))

  -- a move before which no entry of this turn could come in leads to no later turn
  module _ (turn : ℕ) where
    turned_most : (m : Flat) → m.shared.turn ≤ turn → (o : Option Item) → (if is_none o then not (nat_eq turn m.shared.turn) else not (asks code m o)) ≡ true → (a : Move Flat FlatEnd)
        → Turned o m a → Most turn a
    turned_most m le (Some t) pass (On n) h = omega (arith, le, h)
    turned_most m le None pass (On n) h = by (nat_eq turn m.shared.turn) refl pass
      where
        by : (b : Bool) → nat_eq turn m.shared.turn ≡ b → not b ≡ true → n.shared.turn ≤ turn
        by true e p = let no : false ≡ true = p in absurd (cc)
        by false e p = let differ = eqb-false turn m.shared.turn e in let up = h.1 in omega (arith, le, differ, up)
    turned_most m le o pass (Over x) h = tt

    next_most : (m : Flat) → m.shared.turn ≤ turn → passes_by code turn m ≡ true → Most turn (step m)
    next_most m le pass = turned_most m le m.running pass (step m) (exec_turned code bound m)

    pub passes_most : (k : ℕ) (a b : Move Flat FlatEnd) → Most turn a → Passes code bound turn k a b → Most turn b
    passes_most zero a b h p = subst (Most turn) (sym p) h
    passes_most (suc k) (Over x) b h p = subst (Most turn) (sym p) tt
    passes_most (suc k) (On m) b h p = passes_most k (step m) b (next_most m h p.0) p.1

    -- nor do the states on the way to an end
    within_most : (k j : ℕ) (a : Move Flat FlatEnd) (x : FlatEnd) (n : Flat) → Most turn a → Passes code bound turn k a (Over x) → On n ≡ and_then a (moves step j) → n.shared.turn ≤ turn
    within_most k j (Over y) x n h p e = let no : On n ≡ Over y = e in absurd (cc)
    within_most k zero (On m) x n h p e = subst (Most turn) (sym e) h
    within_most zero (suc j) (On m) x n h p e = let no : Over x ≡ On m = p in absurd (cc)
    within_most (suc k) (suc j) (On m) x n h p e = within_most k j (step m) x n (next_most m h p.0) p.1 e

-- ---- the turns that a core has reached

-- one that has not ended has reached none after its own
pub reached_on : (m : Machine) (n : Flat) (turn : ℕ) → m.state ≡ On n → HasReached m turn → turn ≤ n.shared.turn
reached_on m n turn is h =
    let le = never_back m.code m.bound h.flat n (subst (GoesOn (exec m.code m.bound) (On h.flat)) is h.goes) in
    let here = h.in_turn in
    omega (arith, le, here)

pub reached_own : (m : Machine) (n : Flat) → m.state ≡ On n → IsOnItsWay m → HasReached m n.shared.turn
reached_own m n is run = record {
  function = run.function;
  begins = run.begins;
  flat = n;
  comes = subst (GoesOn (exec m.code m.bound) (first_flat m.code m.core run.function m.journal)) is run.goes;
  goes = (0, is);
  in_turn = refl;
}

module _ (m q : Machine) (n : Flat) (run : IsOnItsWay m) (is : m.state ≡ On n) (same : IsSameCore m q) (turn k : ℕ) (low : n.shared.turn ≤ turn)
    (passes : Passes m.code m.bound turn k (On n) q.state) where
  -- The state in turn `t` lies before `n`, or it lies on the way from `n` to the end.
  reached_end : (x : FlatEnd) → q.state ≡ Over x → (t : ℕ) → HasReached q t → t ≤ turn
  reached_end x over t h =
      let function : h.function ≡ run.function = same_function m.code m.core h.function run.function (subst (λ core. Begins m.code core h.function) same.core
      (subst (λ code. Begins code q.core h.function) same.code h.begins)) run.begins in
      let comes : GoesOn (exec m.code m.bound) (first_flat m.code m.core run.function m.journal) (On h.flat) = rw (← same.code, ← same.core, ← same.bound, ← same.journal, ← function) h.comes in
      let there : GoesOn (exec m.code m.bound) (first_flat m.code m.core run.function m.journal) (On n)
      = subst (GoesOn (exec m.code m.bound) (first_flat m.code m.core run.function m.journal)) is run.goes in
      by (ordered (exec m.code m.bound) (first_flat m.code m.core run.function m.journal) h.flat n comes.0 there.0 comes.1 there.1)
    where
      by : Ordered (exec m.code m.bound) h.flat n → t ≤ turn
      by (forth g) = let le = never_back m.code m.bound h.flat n g in let here = h.in_turn in omega (arith, le, low, here)
      by (back g) =
          let le = within_most m.code m.bound turn k g.0 (On n) x h.flat low (subst (Passes m.code m.bound turn k (On n)) over passes) g.1 in
          let here = h.in_turn in
          omega (arith, le, here)

  pub reached_most : (t : ℕ) → HasReached q t → t ≤ turn
  reached_most t h = by q.state refl
    where
      by : (a : Move Flat FlatEnd) → q.state ≡ a → t ≤ turn
      by (On g) e =
          let most = passes_most m.code m.bound turn k (On n) (On g) low (subst (Passes m.code m.bound turn k (On n)) e passes) in
          let le = reached_on q g t e h in
          omega (arith, most, le)
      by (Over x) e = reached_end x e t h
