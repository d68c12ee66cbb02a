-- What every state of a core keeps: the entries that came in, and those that its operations and begun statements may still bring, are paid
-- for by its steps.
-- The invariant `Counted` is kept by each step: a step pays for the most calls and operations of one statement, each of these for three entries (`Paid`).
-- The table of threads still has what the running thread had to come when it was dispatched, which is taken off again (`stale`).
use Rattle.std.proofs.Common.{◌≡◌, ℕ, zero, suc, ◌+◌, ◌-◌, ◌*◌, ◌^◌, ◌<◌, ◌≤◌, List, [], ◌∷◌, ◌++◌, length, get_or}
use Rattle.std.proofs.Common.{set, Option, Some, None, Bool, true, false, refl, sym, ap, ◌∙◌, subst, inl, inr, arith, append_assoc, append-nil}
use Rattle.std.specs.Prelude.{ℤ, nat_eq, nat_lt, find, if◌then◌else◌}
use Rattle.std.specs.List.{AllByRecursion}
use Rattle.std.proofs.lemmas.List.{length-append}
use Rattle.std.proofs.Math.Nat.{mul-add, mul-le-mul_left}
use Rattle.ac_base.specs.declared.entry.Entry.{Entry}
use Rattle.ac_base.specs.declared.ends.CoreEnd.{CoreEnd}
use Rattle.ac_base.specs.declared.ends.EndWord.{EndWord}
use Rattle.ac_base.specs.declared.ends.EndWord.TheVariants as word
use Rattle.work_item.specs.declared.ids.Item.{Item}
use Rattle.work_item.specs.declared.ids.BlockId.{BlockId}
use Rattle.work_item.specs.declared.cell.Cell.{Cell}
use Rattle.work_item.specs.declared.cell.Cell.TheVariants as cell
use Rattle.work_item.specs.Store.{released}
use Rattle.cancel_scope.specs.declared.operation.Asked.{Asked}
use Rattle.cancel_scope.specs.declared.operation.Progress.{Progress}
use Rattle.cancel_scope.specs.declared.operation.Progress.TheVariants as progress
use Rattle.cancel_scope.specs.declared.operation.Operation.{Operation}
use Rattle.cancel_scope.specs.Outstanding.{started, without_first}
use Rattle.core_state.specs.Moves.{Move, On, Over}
use Rattle.core_state.specs.Shared.{Shared, with_entry, seen_left}
use Rattle.core_state.specs.Arrivals.{Arrival, arrives, comes_in, at_point, cancelled}
use Rattle.core_state.specs.Cancelling.{Fate, NeverHappens, by_outcome, outcome, goes_by, decided, tried, tries, is_to_try}
use Rattle.ac_commands.specs.declared.program.Resolved.{Resolved}
use Rattle.ac_semantics.specs.Held.{Held, with_store, with_mark, any_marked, turned, stepped, with_started, seen_of}
use Rattle.ac_semantics.specs.Work.{Work, given, closes}
use Rattle.ac_semantics.specs.Statements.{Next, Goes, Ends, Starts, Yields, Arrives, Cancels, Operates, Dies, Stays, next_of}
use Rattle.ac_semantics.specs.Threads.{Phase, Active, AtFinish, Ended, Thread, nobody, CoreState, thread_at, with_phase, none_within, stops, goes_on, starts, arrives as arrives_at, woken, wakes}
use Rattle.ac_semantics.specs.Threads.{path, is_inside, operates, calls_off, applied, resumed, arrived, dispatched, step_of, step}
use Rattle.journal_bounds.specs.Actions.{most_actions}
use Rattle.journal_bounds.specs.Passes.{passes_in}
use Rattle.journal_bounds.proofs.Counting.{offers_in, passes_append, offers_append}
use Rattle.journal_bounds.proofs.Rooms.{keeping_in}
use Rattle.journal_bounds.proofs.Work.{works_actions, AreFew, given_few, given_actions}
use Rattle.journal_bounds.proofs.Statements.{Keeps, Leads, next_takes}
use Rattle.journal_bounds.proofs.Operations.{entries_of, unoffered_of, unoffered_push, left_at_most, entries_push, without_less, Less, LessAfter, arrives_less, decided_less}

-- ---- the table of threads

-- what the work of all threads in the table has to come
abbrev pub table_actions : List Thread → ℕ
table_actions [] = 0
table_actions (t ∷ ts) = works_actions t.work + table_actions ts

-- of the running thread the table has what it had to come when it was dispatched
abbrev pub stale : List Thread → Option Item → ℕ
stale ts None = 0
stale ts (Some t) = works_actions (thread_at ts t).work

table_set : (ts : List Thread) (i : ℕ) (x : Thread) → table_actions (set ts i x) + works_actions (get_or ts i nobody).work ≤ table_actions ts + works_actions x.work
table_set [] i x = omega arith
table_set (t ∷ ts) zero x = omega arith
table_set (t ∷ ts) (suc i) x = let ih = table_set ts i x in omega arith

-- a thread whose work has as much to come
as_before : (ts : List Thread) (i : ℕ) (x : Thread) → works_actions x.work ≡ works_actions (get_or ts i nobody).work → (k : ℕ)
    → works_actions (get_or (set ts i x) k nobody).work ≡ works_actions (get_or ts k nobody).work
as_before [] i x e k = refl
as_before (t ∷ ts) zero x e zero = e
as_before (t ∷ ts) zero x e (suc k) = refl
as_before (t ∷ ts) (suc i) x e zero = refl
as_before (t ∷ ts) (suc i) x e (suc k) = as_before ts i x e k

same_stale : (ts : List Thread) (i : ℕ) (x : Thread) → works_actions x.work ≡ works_actions (get_or ts i nobody).work → (r : Option Item) → stale (set ts i x) r ≡ stale ts r
same_stale ts i x e None = refl
same_stale ts i x e (Some t) = as_before ts i x e t.number

table_push : (ts : List Thread) (x : Thread) → table_actions (ts ++ x ∷ []) ≡ table_actions ts + works_actions x.work
table_push [] x = omega arith
table_push (t ∷ ts) x = let ih = table_push ts x in omega arith

table_has : (ts : List Thread) (i : ℕ) → works_actions (get_or ts i nobody).work ≤ table_actions ts
table_has [] i = omega arith
table_has (t ∷ ts) zero = omega arith
table_has (t ∷ ts) (suc i) = let ih = table_has ts i in omega arith

stale_few : (ts : List Thread) (r : Option Item) → stale ts r ≤ table_actions ts
stale_few ts None = omega arith
stale_few ts (Some t) = table_has ts t.number

module _ (w : ℕ) where
  abbrev pub Few : List Thread → Type 0
  Few = AllByRecursion (λ t. AreFew w t.work)

  few_set : (ts : List Thread) (i : ℕ) (x : Thread) → AreFew w x.work → Few ts → Few (set ts i x)
  few_set [] i x h a = tt
  few_set (t ∷ ts) zero x h a = (h, a.1)
  few_set (t ∷ ts) (suc i) x h a = (a.0, few_set ts i x h a.1)

  few_push : (ts : List Thread) (x : Thread) → AreFew w x.work → Few ts → Few (ts ++ x ∷ [])
  few_push [] x h a = (h, tt)
  few_push (t ∷ ts) x h a = (a.0, few_push ts x h a.1)

  few_at : (ts : List Thread) (i : ℕ) → Few ts → AreFew w (get_or ts i nobody).work
  few_at [] i a = tt
  few_at (t ∷ ts) zero a = a.0
  few_at (t ∷ ts) (suc i) a = few_at ts i a.1

-- ---- a state

module _ (program : Resolved) (bound : ℕ) (journal : List Entry) where
  abbrev pub most : ℕ
  most = most_actions program

  -- what is held is of this journal and within its steps, and with n calls and operations to come its entries are paid for, and the offers
  -- among them
  pub record Paid (n : ℕ) (s : Held) : Type 0 where
    pub whole : s.shared.past ++ s.shared.todo ≡ journal
    pub steps : s.shared.steps ≤ bound
    pub entries : length s.shared.past + (keeping_in s.shared.past + (entries_of s.operations + 3 * n)) ≤ 3 * (most * s.shared.steps) + passes_in s.shared.past
    pub offered : offers_in s.shared.past + (unoffered_of s.operations + n) ≤ most * s.shared.steps

  pub record Counted (c : CoreState) : Type 0 where
    pub work : AreFew most c.work
    pub threads : Few most c.threads
    -- what is to come, without what the table has of the running thread
    pub left : ℕ
    pub to_come : works_actions c.work + table_actions c.threads ≤ left + stale c.threads c.running
    pub paid : Paid left c.held

  -- beside its passes it has few entries, of which few make an offer
  abbrev pub IsShort : List Entry → Type 0
  IsShort es = (length es ≤ 3 * (most * bound) + passes_in es) × (offers_in es ≤ most * bound)

  -- a move leads to such a state, or to an end of a short journal
  abbrev pub Fine : Move CoreState (Option CoreEnd) → Type 0
  Fine (On c) = Counted c
  Fine (Over None) = Unit {0}
  Fine (Over (Some end)) = IsShort journal

  -- ---- an end

  pub none_left : (word : EndWord) (idle : Bool) (globals : List ℤ) (os : List Operation) (s : Shared) (todo : List Entry) → s.past ++ todo ≡ journal → IsShort s.past
      → Fine (Over (seen_left word idle globals os s todo))
  none_left word idle globals os s [] e h = subst IsShort (sym (append-nil s.past) ∙ e) h
  none_left word idle globals os s (x ∷ todo) e h = tt

  few_steps : (steps : ℕ) → steps ≤ bound → most * steps ≤ most * bound
  few_steps steps h = mul-le-mul_left most h

  over_fine : (word : EndWord) (idle : Bool) (n : ℕ) (s : Held) → Paid n s → Fine (Over (seen_of word idle s))
  over_fine word idle n s p =
      let k = few_steps s.shared.steps p.steps in
      let h = p.entries in
      let w = p.offered in
      none_left word idle s.store.globals s.operations s.shared s.shared.todo p.whole (omega arith, omega arith)

  -- ---- what is held, when a thread went on

  fewer : (m n : ℕ) (s : Held) → m ≤ n → Paid n s → Paid m s
  fewer m n s le p = record { whole = p.whole; steps = p.steps; entries = let h = p.entries in omega arith; offered = let h = p.offered in omega arith }

  kept : (n : ℕ) (s t : Held) → Keeps s t → Paid n s → Paid n t
  kept n s t k p = record {
    whole = ap (λ past. past ++ t.shared.todo) k.past ∙ ap (λ todo. s.shared.past ++ todo) k.todo ∙ p.whole;
    steps = let e = k.steps in let h = p.steps in omega arith;
    entries = let l : length t.shared.past ≡ length s.shared.past = ap length k.past in
        let q : passes_in t.shared.past ≡ passes_in s.shared.past = ap passes_in k.past in
        let r : keeping_in t.shared.past ≡ keeping_in s.shared.past = ap keeping_in k.past in
        let o : entries_of t.operations ≡ entries_of s.operations = ap entries_of k.operations in
        let m : most * t.shared.steps ≡ most * s.shared.steps = ap (λ i. most * i) k.steps in
        let h = p.entries in
        omega arith;
    offered = let q : offers_in t.shared.past ≡ offers_in s.shared.past = ap offers_in k.past in
        let o : unoffered_of t.operations ≡ unoffered_of s.operations = ap unoffered_of k.operations in
        let m : most * t.shared.steps ≡ most * s.shared.steps = ap (λ i. most * i) k.steps in
        let h = p.offered in
        omega arith;
  }

  -- a step pays for as many as a statement has
  stepped_paid : (n : ℕ) (s : Held) → s.shared.steps < bound → Paid n s → Paid (most + n) (stepped s)
  stepped_paid n s lt p = record {
    whole = p.whole;
    steps = omega arith;
    entries = let m : most * (s.shared.steps + 1) ≡ most * s.shared.steps + most * 1 = mul-add most s.shared.steps 1 in let h = p.entries in omega arith;
    offered = let m : most * (s.shared.steps + 1) ≡ most * s.shared.steps + most * 1 = mul-add most s.shared.steps 1 in let h = p.offered in omega arith;
  }

  -- an operation that is started takes one of those to come
  started_paid : (n link : ℕ) (asked : Asked) (t : Item) (s : Held) → Paid (n + 1) s → Paid n (with_started s link asked t)
  started_paid n link asked t s p = record {
    whole = p.whole;
    steps = p.steps;
    entries = let e = entries_push s.operations (started link asked t) in let l = left_at_most (started link asked t) in let h = p.entries in omega arith;
    offered = let e = unoffered_push s.operations (started link asked t) in let h = p.offered in omega arith;
  }

  -- ---- threads stop, start and go on

  stops_counted : (c : CoreState) (t : Item) (phase : Phase) (n : ℕ) (s : Held) (ws : List Work) (ready : List Item) → c.running ≡ Some t → Few most c.threads → AreFew most ws
      → works_actions ws + table_actions c.threads ≤ n + stale c.threads c.running → Paid n s → Counted (stops c t phase s ws ready)
  stops_counted c t phase n s ws ready running threads few h p =
      let x : Thread = record (thread_at c.threads t) { phase = phase; work = ws } in
      let k = table_set c.threads t.number x in
      let e : stale c.threads c.running ≡ works_actions (thread_at c.threads t).work = ap (stale c.threads) running in
      record { work = tt; threads = few_set most c.threads t.number x few threads; left = n; to_come = omega arith; paid = p }

  goes_counted : (c : CoreState) (n : ℕ) (s : Held) (ws : List Work) → Few most c.threads → AreFew most ws → works_actions ws + table_actions c.threads ≤ n + stale c.threads c.running → Paid n s
      → Counted (goes_on c s ws)
  goes_counted c n s ws threads few h p = record { work = few; threads = threads; left = n; to_come = h; paid = p }

  starts_counted : (c : CoreState) (t : Item) (n : ℕ) (s : Held) (own ws : List Work) → c.running ≡ Some t → Few most c.threads → AreFew most ws → AreFew most own → works_actions own ≡ 0
      → works_actions ws + table_actions c.threads ≤ n + stale c.threads c.running → Paid n s → Counted (starts c t s own ws)
  starts_counted c t n s own ws running threads few own_few none h p =
      let x : Thread = record (thread_at c.threads t) { phase = Active; work = ws } in
      let new : Thread = record { around = closes ws ++ (thread_at c.threads t).around; phase = Active; work = [] } in
      let ts = with_phase c.threads t Active ws in
      let k = table_set c.threads t.number x in
      let q = table_push ts new in
      let e : stale c.threads c.running ≡ works_actions (thread_at c.threads t).work = ap (stale c.threads) running in
      record {
        work = own_few;
        threads = few_push most ts new tt (few_set most c.threads t.number x few threads);
        left = n;
        to_come = omega arith;
        paid = p;
      }

  wakes_counted : (o : Option Item) (c : CoreState) → c.running ≡ None → Counted c → Counted (wakes o c)
  wakes_counted None c none h = h
  wakes_counted (Some owner) c none h =
      let x : Thread = record (thread_at c.threads owner) { phase = Active; work = (thread_at c.threads owner).work } in
      let k = table_set c.threads owner.number x in
      let e : stale c.threads c.running ≡ 0 = ap (stale c.threads) none in
      let f : stale (with_phase c.threads owner Active (thread_at c.threads owner).work) c.running ≡ 0 = ap (stale (with_phase c.threads owner Active (thread_at c.threads owner).work)) none in
      let l = h.to_come in
      record { work = h.work; threads = few_set most c.threads owner.number x (few_at most c.threads owner.number h.threads) h.threads; left = h.left; to_come = omega arith; paid = h.paid }

  arrives_counted : (b : Bool) (c : CoreState) (t : Item) (block : BlockId) (n : ℕ) (s : Held) (ws : List Work) → c.running ≡ Some t → Few most c.threads → AreFew most ws
      → works_actions ws + table_actions c.threads ≤ n + stale c.threads c.running → Paid n s → Counted (arrives_at b c t block s ws)
  arrives_counted true c t block n s ws running threads few h p = goes_counted c n s ws threads few h p
  arrives_counted false c t block n s ws running threads few h p = stops_counted c t (AtFinish block) n s ws c.ready running threads few h p

  -- ---- an operation ends

  resumed_counted : (c : CoreState) (value : Cell) (o : Option Item) → Counted c → Counted (resumed c value o)
  resumed_counted c value None h = h
  resumed_counted c value (Some t) h =
      let ws = given value (thread_at c.threads t).work in
      let x : Thread = record (thread_at c.threads t) { phase = Active; work = ws } in
      let k = table_set c.threads t.number x in
      let g = given_actions value (thread_at c.threads t).work in
      let e : stale (with_phase c.threads t Active ws) c.running ≡ stale c.threads c.running = same_stale c.threads t.number x g c.running in
      let l = h.to_come in
      record {
        work = h.work;
        threads = few_set most c.threads t.number x (given_few most value (thread_at c.threads t).work (few_at most c.threads t.number h.threads)) h.threads;
        left = h.left;
        to_come = omega arith;
        paid = h.paid;
      }

  -- an entry that comes in leaves these operations
  entry_paid : (n : ℕ) (s t : Held) (e : Entry) (todo : List Entry) (os : List Operation) → s.shared.todo ≡ e ∷ todo → Less s.shared.past e s.operations os → Paid n s
      → Paid n (record t { shared = with_entry s.shared e todo; operations = os })
  entry_paid n s t e todo os is less p = record {
    whole = append_assoc s.shared.past (e ∷ []) todo ∙ ap (λ es. s.shared.past ++ es) (sym is) ∙ p.whole;
    steps = p.steps;
    entries = let l = length-append s.shared.past (e ∷ []) in let q = passes_append s.shared.past (e ∷ []) in let k = less.0 in let h = p.entries in omega arith;
    offered = let q = offers_append s.shared.past (e ∷ []) in let k = less.1 in let h = p.offered in omega arith;
  }

  -- ---- a cancel

  -- one that waits has gone without an entry
  tried_paid : (n : ℕ) (s t : Held) (test : Operation → Bool) (o : Operation) → find test s.operations ≡ Some o → Paid n s
      → Paid n (record t { shared = s.shared; operations = without_first test s.operations })
  tried_paid n s t test o found p =
      let l = without_less test s.operations o found in
      let fewer_left = l.0 in
      let fewer_offers = l.1 in
      record {
        whole = p.whole;
        steps = p.steps;
        entries = let h = p.entries in omega arith;
        offered = let h = p.offered in omega arith;
      }

  module _ (c : CoreState) (n : ℕ) (s : Held) (block : BlockId) (again ws : List Work) (threads : Few most c.threads) (p : Paid n s)
      (few_again : AreFew most again) (to_come_again : works_actions again + table_actions c.threads ≤ n + stale c.threads c.running)
      (few_ws : AreFew most ws) (to_come_ws : works_actions ws + table_actions c.threads ≤ n + stale c.threads c.running) where
    -- those inside that have not begun are tried
    abbrev tests : Operation → Bool
    tests = is_to_try (is_inside c.threads block)

    abbrev goes : Shared → Arrival → Move CoreState (Option CoreEnd)
    goes shared x = On (arrived (goes_on c (with_mark s block) again) shared x)

    made : (shared : Shared) (x : Arrival) → Paid n (record (with_mark s block) { shared = shared; store = x.store; operations = x.operations }) → Fine (goes shared x)
    made shared x q =
        let held = record (with_mark s block) { shared = shared; store = x.store; operations = x.operations } in
        resumed_counted (goes_on c held again) (cell.Int x.value) x.woken (goes_counted c n held again threads few_again to_come_again q)

    by_its_outcome : (o : Operation) (number : ℕ) (e : Entry) (todo : List Entry) → find tests s.operations ≡ Some o → o.progress ≡ progress.Offered number → s.shared.todo ≡ e ∷ todo
        → (q : Option Fate) → outcome o.link number e.event ≡ q
        → Fine (goes_by (λ x. x) (λ it. goes (with_entry s.shared e todo) (by_outcome it s.store tests s.operations o)) q)
    by_its_outcome o number e todo found under is None decides = tt
    by_its_outcome o number e todo found under is (Some it) decides =
        let x = by_outcome it s.store tests s.operations o in
        made (with_entry s.shared e todo) x
        (entry_paid n s (record (with_mark s block) { store = x.store }) e todo x.operations is (decided_less s.shared.past e s.store tests s.operations o number found under it decides) p)

    by_entry : (o : Operation) (number : ℕ) → find tests s.operations ≡ Some o → o.progress ≡ progress.Offered number → (todo : List Entry) → s.shared.todo ≡ todo
        → Fine (decided (λ x. x) s.shared s.store.globals s.operations o.link number (λ shared it. goes shared (by_outcome it s.store tests s.operations o)) todo)
    by_entry o number found under [] is = over_fine word.Stalled false n s p
    by_entry o number found under (e ∷ todo) is = at (nat_eq e.turn s.shared.turn)
      where
        at : (b : Bool)
            → Fine (if b then goes_by (λ x. x) (λ it. goes (with_entry s.shared e todo) (by_outcome it s.store tests s.operations o)) (outcome o.link number e.event)
            else Over None)
        at true = by_its_outcome o number e todo found under is (outcome o.link number e.event) refl
        at false = tt

    by_progress : (o : Operation) → find tests s.operations ≡ Some o → (progress : Progress) → o.progress ≡ progress
        → Fine (tried (λ x. x) s.shared s.store.globals s.operations o.link progress (λ shared it. goes shared (by_outcome it s.store tests s.operations o)))
    by_progress o found progress.Waiting is =
        made s.shared (by_outcome NeverHappens s.store tests s.operations o) (tried_paid n s (with_mark s block) tests o found p)
    by_progress o found (progress.Offered number) is = by_entry o number found is s.shared.todo refl
    by_progress o found (progress.Started number) is = tt

    by_operation : (q : Option Operation) → find tests s.operations ≡ q → Fine (tries (λ x. x) s.shared s.store s.operations tests goes (On (goes_on c (with_mark s block) ws)) q)
    by_operation None found =
        goes_counted c n (with_mark s block) ws threads few_ws to_come_ws (kept n s (with_mark s block) (record { past = refl; todo = refl; steps = refl; operations = refl }) p)
    by_operation (Some o) found = by_progress o found o.progress refl

    calls_off_fine : Fine (calls_off c block s again ws)
    calls_off_fine = by_operation (find tests s.operations) refl

  operates_fine : (b : Bool) (c : CoreState) (t : Item) (link : ℕ) (asked : Asked) (n : ℕ) (s : Held) (ws : List Work) → c.running ≡ Some t → Few most c.threads → AreFew most ws
      → works_actions ws + 1 + table_actions c.threads ≤ n + stale c.threads c.running → Paid n s → Counted (operates b c t link asked s ws)
  operates_fine true c t link asked n s ws running threads few h p =
      let g = given_actions (cell.Int cancelled) ws in goes_counted c n s (given (cell.Int cancelled) ws) threads (given_few most (cell.Int cancelled) ws few) (omega arith) p
  operates_fine false c t link asked n s ws running threads few h p =
      let st = stale_few c.threads c.running in
      stops_counted c t Active (n - 1) (with_started s link asked t) ws c.ready running threads few (omega arith) (started_paid (n - 1) link asked t s (fewer (n - 1 + 1) n s (omega arith) p))

  -- ---- a move of the running thread, of whose work k were to come; what is held may have been charged with a step

  -- One case for each way in which a thread's step leads on. In each what is to come is no more than before, and the thread's place in the table is filled anew where it stops.
  applied_fine : (c : CoreState) (t : Item) (k n : ℕ) (s : Held) (next : Next) → c.running ≡ Some t → Counted c → k + table_actions c.threads ≤ n + stale c.threads c.running → Paid n s
      → Leads most k s next → Fine (applied c t next)
  applied_fine c t k n s (Goes x ws) running h le p l = let a = l.actions in goes_counted c n x ws h.threads l.few (omega arith) (kept n s x l.keeps p)
  applied_fine c t k n s (Ends word x) running h le p l = over_fine word false n x (kept n s x l p)
  applied_fine c t k n s (Starts x frame own ws) running h le p l =
      let a = l.0.actions in starts_counted c t n x own ws running h.threads l.0.few l.1 l.2 (omega arith) (kept n s x l.0.keeps p)
  applied_fine c t k n s (Yields x ws) running h le p l =
      let a = l.actions in stops_counted c t Active n x ws (c.ready ++ t ∷ []) running h.threads l.few (omega arith) (kept n s x l.keeps p)
  applied_fine c t k n s (Arrives block x ws) running h le p l =
      let a = l.actions in arrives_counted (none_within block c.threads) c t block n x ws running h.threads l.few (omega arith) (kept n s x l.keeps p)
  applied_fine c t k n s (Cancels block x again ws) running h le p l =
      let a = l.0.actions in
      let b = l.1.actions in
      calls_off_fine c n x block again ws h.threads (kept n s x l.0.keeps p) l.0.few (omega arith) l.1.few (omega arith)
  applied_fine c t k n s (Operates link asked x ws) running h le p l =
      let a = l.2 in
      operates_fine (any_marked x.marks (path ws (thread_at c.threads t))) c t link asked n x ws running h.threads l.1 (omega arith) (kept n s x l.0 p)
  applied_fine c t k n s (Dies frame x) running h le p l =
      let y = with_store x (released x.store frame) in
      let d = stops c t Ended y [] c.ready in
      let q = kept n s x l p in
      wakes_counted (woken d.threads d.threads 0) d refl
      (stops_counted c t Ended n y [] c.ready running h.threads tt (omega arith)
      (record { whole = q.whole; steps = q.steps; entries = q.entries; offered = q.offered }))
  applied_fine c t k n s Stays running h le p l = h

  thread_fine : (c : CoreState) (t : Item) → c.running ≡ Some t → Counted c → Fine (applied c t (next_of program bound c.work c.held))
  thread_fine c t running h =
      let le = h.to_come in
      elim (next_takes program bound c.work c.held h.work) [
        | inl l ↦ applied_fine c t (works_actions c.work) h.left c.held (next_of program bound c.work c.held) running h le h.paid l
        | inr l ↦ applied_fine c t (most + works_actions c.work) (most + h.left) (stepped c.held) (next_of program bound c.work c.held) running h (omega arith)
            (stepped_paid h.left c.held l.0 h.paid) l.1
      ]

  -- ---- no thread runs

  dispatched_fine : (c : CoreState) (ready : List Item) → c.running ≡ None → Counted c → Fine (dispatched c ready)
  dispatched_fine c [] none h = over_fine word.Stalled true h.left c.held h.paid
  dispatched_fine c (t ∷ ready) none h = turn (nat_lt c.held.shared.turn (2 ^ 64 - 1))
    where
      turn : (b : Bool) → Fine (if b then On (record { held = turned c.held; running = Some t; work = (thread_at c.threads t).work; ready = ready; threads = c.threads })
          else Over (seen_of word.OutOfSteps false c.held))
      turn true =
          let e : stale c.threads c.running ≡ 0 = ap (stale c.threads) none in
          let l = h.to_come in
          record {
            work = few_at most c.threads t.number h.threads;
            threads = h.threads;
            left = h.left;
            to_come = omega arith;
            paid = record { whole = h.paid.whole; steps = h.paid.steps; entries = h.paid.entries; offered = h.paid.offered };
          }
      turn false = over_fine word.OutOfSteps false h.left c.held h.paid

  comes_fine : (c : CoreState) (e : Entry) (todo : List Entry) → c.running ≡ None → Counted c → c.held.shared.todo ≡ e ∷ todo → (q : Option Arrival)
      → LessAfter c.held.shared.past e c.held.operations q → Fine (comes_in (λ x. x) (λ x. On (arrived c (with_entry c.held.shared e todo) x)) q)
  comes_fine c e todo none h is None l = tt
  comes_fine c e todo none h is (Some x) l =
      let held = record c.held { shared = with_entry c.held.shared e todo; store = x.store; operations = x.operations } in
      resumed_counted (record c { held = held }) (cell.Int x.value) x.woken
      (record { work = h.work; threads = h.threads; left = h.left; to_come = h.to_come; paid = entry_paid h.left c.held held e todo x.operations is l h.paid })

  point_fine : (c : CoreState) → c.running ≡ None → Counted c → (todo : List Entry) → c.held.shared.todo ≡ todo
      → Fine (at_point (λ x. x) c.held.shared c.held.store c.held.operations (λ shared x. On (arrived c shared x)) (dispatched c c.ready) todo)
  point_fine c none h [] is = dispatched_fine c c.ready none h
  point_fine c none h (e ∷ todo) is = at (nat_eq e.turn c.held.shared.turn)
    where
      at : (b : Bool) → Fine (if b then comes_in (λ x. x) (λ x. On (arrived c (with_entry c.held.shared e todo) x)) (arrives c.held.shared.past c.held.store c.held.operations e.event)
          else dispatched c c.ready)
      at true = comes_fine c e todo none h is (arrives c.held.shared.past c.held.store c.held.operations e.event) (arrives_less c.held.shared.past c.held.store c.held.operations e)
      at false = dispatched_fine c c.ready none h

  step_by : (c : CoreState) (r : Option Item) → c.running ≡ r → Counted c → Fine (step program bound c)
  step_by c None is h = subst (λ (r : Option Item). Fine (step_of program bound c r)) (sym is) (point_fine c is h c.held.shared.todo refl)
  step_by c (Some t) is h = subst (λ (r : Option Item). Fine (step_of program bound c r)) (sym is) (thread_fine c t is h)

  pub step_fine : (c : CoreState) → Counted c → Fine (step program bound c)
  step_fine c h = step_by c c.running refl h
