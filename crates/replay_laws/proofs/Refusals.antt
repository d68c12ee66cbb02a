-- Where an entry does not come in, the core comes to no end that is seen; and where it cannot come in yet, the core goes on as without it.
-- A core comes to one end (moves are a function), so a journal that leads to an end of which nothing is seen has no run.
-- A move at which the entry cannot come in is the move as without it (`Beside`), by the cases of a move; several moves by induction. The hard case is rest, where the turn rises.
use Rattle.std.proofs.Common.{◌≡◌, ℕ, zero, suc, ◌+◌, ◌≤◌, List, [], ◌∷◌, ◌++◌, Option, Some, None, Bool, true, false, refl, sym, ap, ◌∙◌, subst, arith}
use Rattle.std.specs.Prelude.{find, not, nat_eq, nat_lt, slice_get, slice_set, ◌^◌, ◌-◌, is_none, if◌then◌else◌}
use Rattle.std.proofs.lemmas.Bool.{eq-eqb}
use Rattle.ac_base.specs.declared.ends.EndWord.{EndWord}
use Rattle.ac_base.specs.declared.ends.EndWord.TheVariants as word
use Rattle.ac_base.specs.declared.entry.Entry.{Entry}
use Rattle.work_item.specs.declared.ids.Item.{Item}
use Rattle.work_item.specs.declared.ids.BlockId.{BlockId}
use Rattle.work_item.specs.declared.cell.Cell.TheVariants as cell
use Rattle.work_item.specs.Store.{cell_at}
use Rattle.cancel_scope.specs.declared.operation.Progress.{Progress}
use Rattle.cancel_scope.specs.declared.operation.Progress.TheVariants as progress
use Rattle.cancel_scope.specs.declared.operation.Operation.{Operation}
use Rattle.core_state.specs.Moves.{Move, On, Over, GoesOn, ComesTo}
use Rattle.core_state.specs.Frames.{block_in}
use Rattle.core_state.specs.Arrivals as arrivals
use Rattle.core_state.specs.Arrivals.{Arrival, at_point, comes_in}
use Rattle.core_state.specs.Cancelling.{Fate, NeverHappens, by_outcome, tried, tries, is_to_try, outcome}
use Rattle.core_state.specs.Shared.{with_turn, with_entry, seen, seen_left}
use Rattle.core_state.proofs.Runs.{GoesOn-more}
use Rattle.core_state.proofs.Simulation.{one_end}
use Rattle.stack_code.specs.declared.instr.Instr.{Instr}
use Rattle.stack_code.specs.declared.instr.Instr.TheVariants as i
use Rattle.stack_code.specs.declared.parts.Entered.{Entered}
use Rattle.stack_code.specs.Parts.{Parts, Begins}
use Rattle.code_meaning.specs.Machine as flat
use Rattle.code_meaning.specs.Machine.{Flat, FlatEnd, nobody, arrived, resumed, begin, exec, exec_of, dispatched, told, first_flat, thread_at}
use Rattle.code_safety.proofs.Journal.{TriesNext, run_more}
use Rattle.code_safety.proofs.Alike.{Alike, begin_alike, more_shared, more_to_come}
use Rattle.replay_laws.specs.Given.{HasRun, HasComeTo, is_on_offer, asks_of, asks_at, asks_by, asks, passes_by, Passes}

-- ---- a journal has one end

abbrev over_of : (S : Type 0) {E : Type 0} → E → Move S E
over_of S e = Over e

over_same : (S : Type 0) {E : Type 0} (d e : E) → over_of S d ≡ over_of S e → d ≡ e
over_same S d e h = cc

comes_alike : {S E : Type 0} (f : S → Move S E) (a : Move S E) (d e : E) → ComesTo f a d → ComesTo f a e → d ≡ e
comes_alike f (On s) d e x y = one_end f s d e (x.0, sym x.1) (y.0, sym y.1)
comes_alike {S = S} f (Over z) d e x y = over_same S d e (x.1 ∙ sym y.1)

some_same : {A : Type 0} (x y : A) → Some x ≡ Some y → x ≡ y
some_same x y h = cc

same_function : (code : Parts) (core : ℕ) (f g : Entered) → Begins code core f → Begins code core g → f ≡ g
same_function code core f g b c =
    let entry : b.entry ≡ c.entry = some_same b.entry c.entry (sym b.entry_is ∙ c.entry_is) in
    some_same f g (sym b.function_is ∙ (ap (λ (k : ℕ). slice_get code.functions k) entry ∙ c.function_is))

no_some : {A : Type 0} (x : A) → None ≡ Some x → ⊥
no_some x h = cc

-- a core of which nothing is seen has no run
pub no_run : (code : Parts) (core bound : ℕ) (journal : List Entry) (function : Entered) (x : FlatEnd) → Begins code core function
    → ComesTo (exec code bound) (first_flat code core function journal) x → x.core ≡ None → HasRun code core bound journal → ⊥
no_run code core bound journal function x b comes none r =
    let end : FlatEnd = record { core = Some r.end; count = r.count } in
    let same : r.runs.function ≡ function = same_function code core r.runs.function function r.runs.begins b in
    let other : ComesTo (exec code bound) (first_flat code core function journal) end =
    subst (λ (f : Entered). ComesTo (exec code bound) (first_flat code core f journal) end) same r.runs.comes in
    let one : x ≡ end = comes_alike (exec code bound) (first_flat code core function journal) x end comes other in
    no_some r.end (sym none ∙ ap (λ (z : FlatEnd). z.core) one)

-- ---- before a move at which the entry cannot come in

-- the core goes on as without the entry, or ends, and then nothing is seen of it
pub record GoesBeside (e : Entry) (m next : Flat) (r : Move Flat FlatEnd) : Type 0 where
  pub leads : r ≡ On (more_to_come e next)
  pub past : next.shared.past ≡ m.shared.past
  pub todo : next.shared.todo ≡ m.shared.todo
  pub turn : m.shared.turn ≤ e.turn → next.shared.turn ≤ e.turn

abbrev pub Beside : Entry → Flat → Move Flat FlatEnd → Move Flat FlatEnd → Type 0
Beside e m (On next) r = GoesBeside e m next r
Beside e m (Over x) r = (y : FlatEnd) × (r ≡ Over y) × (y.core ≡ None)

beside_alike : (e : Entry) (m : Flat) (a r : Move Flat FlatEnd) → Alike e m a r → Beside e m a r
beside_alike e m (On next) r h =
    let same = h.1.turn in
    record { leads = h.0; past = h.1.past; todo = h.1.todo; turn = λ le. omega (arith, same, le) }
beside_alike e m (Over x) r h = h.1

module _ (code : Parts) (bound : ℕ) (e : Entry) (m : Flat) (none : m.shared.todo ≡ []) where
  abbrev more : Flat
  more = more_to_come e m

  -- nothing is seen of an end before the entry
  hidden : (why : EndWord) (idle : Bool) → seen why idle m.store.globals m.operations more.shared ≡ None
  hidden why idle = ap (λ (todo : List Entry). seen_left why idle m.store.globals m.operations more.shared (todo ++ e ∷ [])) none

  -- with none ready the core ends, which is not seen while the entry is to come; else the turn rises by one, and the entry's is not the present one, so it is not passed
  dispatched_beside : (ready : List Item) → nat_eq e.turn m.shared.turn ≡ false → Beside e m (dispatched m ready) (dispatched more ready)
  dispatched_beside [] off = (told m.count (seen word.Stalled true m.store.globals m.operations more.shared), refl, hidden word.Stalled true)
  dispatched_beside (t ∷ ready) off =
      by (nat_lt m.shared.turn (2 ^ 64 - 1)) (told m.count (seen word.OutOfSteps false m.store.globals m.operations m.shared))
    where
      later : m.shared.turn ≤ e.turn → m.shared.turn + 1 ≤ e.turn
      later le = not_now (λ h. yes_no (sym (eq-eqb e.turn m.shared.turn h) ∙ off))
        where
          yes_no : true ≡ false → ⊥
          yes_no h = cc

          not_now : (e.turn ≡ m.shared.turn → ⊥) → m.shared.turn + 1 ≤ e.turn
          not_now h = omega (arith, h, le)

      by : (b : Bool) (x : FlatEnd) → Beside e m
          (if b then On (record m { shared = with_turn m.shared; running = Some t; current = thread_at m.threads t; ready = ready; threads = slice_set m.threads t.number nobody }) else Over x)
          (if b then On (record m {
            shared = with_turn (more_shared e m.shared);
            running = Some t;
            current = thread_at m.threads t;
            ready = ready;
            threads = slice_set m.threads t.number nobody;
          }) else Over (told m.count (seen word.OutOfSteps false m.store.globals m.operations more.shared)))
      by true x = record { leads = refl; past = refl; todo = refl; turn = later }
      by false x = (told m.count (seen word.OutOfSteps false m.store.globals m.operations more.shared), refl, hidden word.OutOfSteps false)

  abbrev at_rest : Flat → List Entry → Move Flat FlatEnd
  at_rest n todo = at_point (told m.count) n.shared m.store m.operations (λ shared x. On (arrived n shared x)) (dispatched n m.ready) todo

  rests_beside : nat_eq e.turn m.shared.turn ≡ false → Beside e m (at_rest m m.shared.todo) (at_rest more more.shared.todo)
  rests_beside off =
      let plain : at_rest m m.shared.todo ≡ dispatched m m.ready = ap (at_rest m) none in
      let other : at_rest more more.shared.todo ≡ dispatched more m.ready =
      ap (λ (todo : List Entry). at_rest more (todo ++ e ∷ [])) none
      ∙ ap (λ (b : Bool). if b then comes_in (told m.count) (λ x. On (arrived more (with_entry more.shared e []) x)) (arrivals.arrives m.shared.past m.store m.operations e.event)
      else dispatched more m.ready) off in
      rw (plain, other) (dispatched_beside m.ready off)

  -- ---- a cancel that asks for no outcome

  module _ (block : BlockId) where
    abbrev inside : Operation → Bool
    inside = is_to_try (flat.is_inside m block)

    abbrev made : Fate → Operation → Arrival
    made it o = by_outcome it m.store inside m.operations o

    never_beside : (x : Arrival) → Beside e m (On (arrived (flat.marked m block) m.shared x)) (On (arrived (flat.marked more block) more.shared x))
    never_beside x = by x.woken
      where
        by : (o : Option Item) → Beside e m
            (On (resumed (record (flat.marked m block) { shared = m.shared; store = x.store; operations = x.operations }) (cell.Int x.value) o))
            (On (resumed (record (flat.marked more block) { shared = more.shared; store = x.store; operations = x.operations }) (cell.Int x.value) o))
        by None = record { leads = refl; past = refl; todo = refl; turn = λ le. le }
        by (Some t) = record { leads = refl; past = refl; todo = refl; turn = λ le. le }

    tried_beside : (o : Operation) (p : Progress) → is_on_offer p ≡ false → Beside e m
        (tried (told (flat.counted m.count)) m.shared m.store.globals m.operations o.link p (λ s it. On (arrived (flat.marked m block) s (made it o))))
        (tried (told (flat.counted m.count)) more.shared m.store.globals m.operations o.link p (λ s it. On (arrived (flat.marked more block) s (made it o))))
    tried_beside o progress.Waiting off = never_beside (made NeverHappens o)
    tried_beside o (progress.Offered number) off = absurd (yes_no off)
      where
        yes_no : true ≡ false → ⊥
        yes_no h = cc
    tried_beside o (progress.Started number) off = (told (flat.counted m.count) None, refl, refl)

    calls_off_beside : asks_at m block ≡ false → Beside e m (flat.calls_off m block) (flat.calls_off more block)
    calls_off_beside off = by (find inside m.operations) off
      where
        by : (r : Option Operation) → asks_of r ≡ false → Beside e m
            (tries (told (flat.counted m.count)) m.shared m.store m.operations inside (λ s x. On (arrived (flat.marked m block) s x)) (flat.goes (flat.marked m block) m.current.operands) r)
            (tries (told (flat.counted m.count)) more.shared m.store m.operations inside (λ s x. On (arrived (flat.marked more block) s x))
            (flat.goes (flat.marked more block) m.current.operands) r)
        by None h = record { leads = refl; past = refl; todo = refl; turn = λ le. le }
        by (Some o) h = tried_beside o o.progress h

  begin_beside : (t : Item) (o : Option Instr) → asks_by m o ≡ false → Beside e m (begin code bound m t o) (begin code bound more t o)
  begin_beside t (Some (i.Cancel level slot)) off = calls_off_beside (block_in (cell_at m.store m.current.frame level slot)) off
  begin_beside t o off = beside_alike e m (begin code bound m t o) (begin code bound more t o) (begin_alike e m code bound t o refl)

  not_false : (b : Bool) → not b ≡ true → b ≡ false
  not_false false h = refl
  not_false true h = sym h

  pub exec_beside : passes_by code e.turn m ≡ true → Beside e m (exec code bound m) (exec code bound more)
  exec_beside passes = by m.running passes
    where
      by : (o : Option Item) → (if is_none o then not (nat_eq e.turn m.shared.turn) else not (asks code m o)) ≡ true
          → Beside e m (exec_of code bound m o) (exec_of code bound more o)
      by None h = rests_beside (not_false (nat_eq e.turn m.shared.turn) h)
      by (Some t) h = begin_beside t (slice_get code.instrs m.current.place) (not_false (asks code m (Some t)) h)

  -- ---- at a move at which it could come in

  -- at a dispatch point of its turn an entry that does not fit leaves the core without an end
  pub point_misfits : m.running ≡ None → e.turn ≡ m.shared.turn → arrivals.arrives m.shared.past m.store m.operations e.event ≡ None
      → exec code bound more ≡ Over (told m.count None)
  point_misfits idle now misfit =
      ap (exec_of code bound more) idle ∙ ap (λ (todo : List Entry). at_rest more (todo ++ e ∷ [])) none
      ∙ ap (λ (b : Bool). if b then comes_in (told m.count) go (arrivals.arrives m.shared.past m.store m.operations e.event) else dispatched more m.ready)
      (eq-eqb e.turn m.shared.turn now)
      ∙ ap (comes_in (told m.count) go) misfit
    where
      go : Arrival → Move Flat FlatEnd
      go y = On (arrived more (with_entry more.shared e []) y)

  -- and at a cancel that asks for the outcome of an offer, one that is of another turn, or that decides nothing of it
  pub cancel_misfits : (t : Item) (block : BlockId) (o : Operation) (number : ℕ) → TriesNext code bound e m t block o number
      → (if nat_eq e.turn m.shared.turn then outcome o.link number e.event else None) ≡ None → exec code bound more ≡ Over (told (flat.counted m.count) None)
  cancel_misfits t block o number next misfit =
      ap (exec_of code bound more) next.running ∙ ap (begin code bound more t) next.here ∙ ap (flat.calls_off more) next.block_is
      ∙ by (nat_eq e.turn m.shared.turn) refl misfit
    where
      by : (b : Bool) → nat_eq e.turn m.shared.turn ≡ b → (if b then outcome o.link number e.event else None) ≡ None
          → flat.calls_off more block ≡ Over (told (flat.counted m.count) None)
      by true same decides = let found = next.found in let offered = next.offered in rw (found, offered, none, same, decides) refl
      by false differs decides = let found = next.found in let offered = next.offered in rw (found, offered, none, differs) refl

-- ---- so many moves

module _ (code : Parts) (bound : ℕ) (e : Entry) (longer : Move Flat FlatEnd) where
  -- a core that ends before the entry can come in
  pub record Hides : Type 0 where
    pub end : FlatEnd
    pub comes : ComesTo (exec code bound) longer end
    pub unseen : end.core ≡ None

  no_end : (m : Flat) (x : FlatEnd) → Over x ≡ On m → ⊥
  no_end m x h = cc

  pub ends_hidden : (k : ℕ) (m : Flat) (x : FlatEnd) → m.shared.todo ≡ [] → m.shared.turn ≤ e.turn → GoesOn (exec code bound) longer (On (more_to_come e m))
      → Passes code bound e.turn k (On m) (Over x) → Hides
  ends_hidden zero m x none le run p = absurd (no_end m x p)
  ends_hidden (suc k) m x none le run p =
      by (exec code bound m) (exec_beside code bound e m none p.0) p.1 (λ next n l r q. ends_hidden k next x n l r q)
    where
      step : GoesOn (exec code bound) longer (exec code bound (more_to_come e m))
      step = GoesOn-more (exec code bound) longer (more_to_come e m) run

      by : (a : Move Flat FlatEnd) → Beside e m a (exec code bound (more_to_come e m)) → Passes code bound e.turn k a (Over x)
          → ((next : Flat) → next.shared.todo ≡ [] → next.shared.turn ≤ e.turn → GoesOn (exec code bound) longer (On (more_to_come e next))
          → Passes code bound e.turn k (On next) (Over x) → Hides) → Hides
      by (On next) b q again =
          again next (b.todo ∙ none) (b.turn le) (subst (GoesOn (exec code bound) longer) b.leads step) q
      by (Over z) b q again = record { end = b.0; comes = subst (GoesOn (exec code bound) longer) b.1 step; unseen = b.2 }

-- ---- what comes of a journal with one entry more

module _ (code : Parts) (core bound : ℕ) (journal : List Entry) (e : Entry) (m : Flat) (come : HasComeTo code core bound journal m) (le : m.shared.turn ≤ e.turn) where
  abbrev longer : Move Flat FlatEnd
  longer = first_flat code core come.function (journal ++ e ∷ [])

  on : GoesOn (exec code bound) longer (On (more_to_come e m))
  on = run_more code bound e core come.function journal m come.goes le

  over : (x : FlatEnd) → exec code bound (more_to_come e m) ≡ Over x → ComesTo (exec code bound) longer x
  over x h = subst (GoesOn (exec code bound) longer) h (GoesOn-more (exec code bound) longer (more_to_come e m) on)

  -- no run goes on with an entry that does not fit at a point of its turn,
  pub misfit_at_point : m.running ≡ None → e.turn ≡ m.shared.turn → arrivals.arrives journal m.store m.operations e.event ≡ None
      → HasRun code core bound (journal ++ e ∷ []) → ⊥
  misfit_at_point idle now misfit =
      no_run code core bound (journal ++ e ∷ []) come.function (told m.count None) come.begins
      (over (told m.count None) (point_misfits code bound e m come.todo idle now (ap (λ (past : List Entry). arrivals.arrives past m.store m.operations e.event) come.past ∙ misfit))) refl

  -- with one that is not the outcome for which a cancel asks,
  pub misfit_at_cancel : (t : Item) (block : BlockId) (o : Operation) (number : ℕ) → TriesNext code bound e m t block o number
      → (if nat_eq e.turn m.shared.turn then outcome o.link number e.event else None) ≡ None → HasRun code core bound (journal ++ e ∷ []) → ⊥
  misfit_at_cancel t block o number next misfit =
      no_run code core bound (journal ++ e ∷ []) come.function (told (flat.counted m.count) None) come.begins
      (over (told (flat.counted m.count) None) (cancel_misfits code bound e m come.todo t block o number next misfit)) refl

  -- nor where the core ends before the entry can come in
  pub misfit_at_end : (k : ℕ) (x : FlatEnd) → Passes code bound e.turn k (On m) (Over x) → HasRun code core bound (journal ++ e ∷ []) → ⊥
  misfit_at_end k x p =
      let h = ends_hidden code bound e longer k m x come.todo le on p in
      no_run code core bound (journal ++ e ∷ []) come.function h.end come.begins h.comes h.unseen
