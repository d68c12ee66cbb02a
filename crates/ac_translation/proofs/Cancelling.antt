-- A thread cancels a block: in the source and in the machine the same operation is tried, and with the same outcome.
-- Who is inside is told by the blocks round a thread, which both tell alike (Paths), so the first operation to try is the same. It ends in
-- both by the same entry, or waits on, and the cancel is looked at again.
use Rattle.std.proofs.Common.{◌≡◌, ◌≢◌, ℕ, zero, suc, ◌+◌, ◌<◌, ◌≤◌, List, [], ◌∷◌, ◌++◌, set, Option, Some, None, Bool, true, false, refl, sym, ap, ◌∙◌, subst, arith}
use Rattle.std.specs.Prelude.{find, slice_get, nat_eq, not, ◌&&◌, if◌then◌else◌}
use Rattle.std.specs.List.{list_any}
use Rattle.std.proofs.lemmas.List.{length-set, get_or-set_other, set_comm}
use Rattle.ac_base.specs.declared.ends.EndWord.TheVariants.{Stalled}
use Rattle.ac_base.specs.declared.entry.Entry.{Entry}
use Rattle.work_item.specs.declared.ids.Item.{Item}
use Rattle.work_item.specs.declared.ids.BlockId.{BlockId}
use Rattle.work_item.specs.declared.cell.Cell.TheVariants as cell
use Rattle.work_item.specs.Store.{cell_at}
use Rattle.cancel_scope.specs.declared.operation.Operation.{Operation}
use Rattle.cancel_scope.specs.declared.operation.Progress.{Progress}
use Rattle.cancel_scope.specs.declared.operation.Progress.TheVariants.{Waiting, Offered, Started}
use Rattle.cancel_scope.specs.Outstanding.{is_request, as_begun, has_begun, change_first, without_first}
use Rattle.core_state.specs.Moves.{On}
use Rattle.core_state.specs.Frames.{block_in}
use Rattle.core_state.specs.Shared.{Shared, with_entry}
use Rattle.core_state.specs.Arrivals.{Arrival, goes_on_waiting, has_ended, has_ended_as, cancelled}
use Rattle.core_state.specs.Cancelling.{Fate, NeverHappens, IsTaken, by_outcome, outcome, is_to_try}
use Rattle.ac_semantics.specs.Held.{Held, with_mark, seen_of}
use Rattle.ac_semantics.specs.Work.{Work, closes, given}
use Rattle.ac_semantics.specs.Statements.{Cancels}
use Rattle.ac_semantics.specs.Threads.{Active, Thread, nobody, CoreState, thread_at, is_among, path, is_inside, goes_on, arrived, applied}
use Rattle.stack_code.specs.declared.instr.Instr.TheVariants as i
use Rattle.stack_code.specs.Parts.{Parts}
use Rattle.code_meaning.specs.Machine.{Block, Flat, Thread as Stack, block_at, with_block, counted, round, marked, with_mark as marked_at, is_inside as is_inside_there, given as gives}
use Rattle.code_meaning.specs.Machine.{arrived as arrives_there, begin}
use Rattle.ac_translation.proofs.WellFormed.{both_true}
use Rattle.ac_translation.proofs.Tables.{first, one_same}
use Rattle.ac_translation.proofs.Blocks.{Lives, entered_of, at, Good, path_of}
use Rattle.ac_translation.proofs.Tracks.{tracks_mark}
use Rattle.ac_translation.proofs.Paths.{path_round, among_any}
use Rattle.ac_translation.proofs.Wakes.{is_active, asked_by, runs_without}
use Rattle.ac_translation.proofs.Keeps.{Activation, Around, flat, SameBirths, FollowsAt, turn_follows, ends_follows}
use Rattle.ac_translation.proofs.Works.{Works, works_closes, sleeps_closes}
use Rattle.ac_translation.proofs.Standing.{running, around_of, seated, stack_at, Parked, Together, Stands, runs, with_births, sitting, Seat, seat_of, on_together}
use Rattle.ac_translation.proofs.Arriving.{Balances, taken_balance, ended_balance, none_together, runs_not, woken_together}

-- ---- two tests that agree on the operations of a core

module _ (all : List Operation) (f g : Operation → Bool) (same : (o : Operation) → 0 < asked_by o.item.number all → f o ≡ g o) where
  agrees : (o : Operation) (os : List Operation) → ((u : ℕ) → asked_by u (o ∷ os) ≤ asked_by u all) → f o ≡ g o
  agrees o os le = same o (let k = one_same o.item.number in let l = le o.item.number in omega (arith, k, l))

  tail : (o : Operation) (os : List Operation) → ((u : ℕ) → asked_by u (o ∷ os) ≤ asked_by u all) → (u : ℕ) → asked_by u os ≤ asked_by u all
  tail o os le u = let l = le u in omega (arith, l)

  find_agrees : (os : List Operation) → ((u : ℕ) → asked_by u os ≤ asked_by u all) → find f os ≡ find g os
  find_agrees [] le = refl
  find_agrees (o ∷ os) le =
      ap (λ q. if q then Some o else find f os) (agrees o os le) ∙ ap (λ r. if g o then Some o else r) (find_agrees os (tail o os le))

  without_agrees : (os : List Operation) → ((u : ℕ) → asked_by u os ≤ asked_by u all) → without_first f os ≡ without_first g os
  without_agrees [] le = refl
  without_agrees (o ∷ os) le =
      ap (λ q. if q then os else o ∷ without_first f os) (agrees o os le) ∙ ap (λ r. if g o then os else o ∷ r) (without_agrees os (tail o os le))

  change_agrees : (change : Operation → Operation) (os : List Operation) → ((u : ℕ) → asked_by u os ≤ asked_by u all) → change_first f change os ≡ change_first g change os
  change_agrees change [] le = refl
  change_agrees change (o ∷ os) le =
      ap (λ q. if q then change o ∷ os else o ∷ change_first f change os) (agrees o os le)
      ∙ ap (λ r. if g o then change o ∷ os else o ∷ r) (change_agrees change os (tail o os le))

-- the first for which a test holds passes it
found_passes : (test : Operation → Bool) (os : List Operation) (o : Operation) → find test os ≡ Some o → test o ≡ true
found_passes test [] o e = cc
found_passes test (p ∷ os) o e = go (test p) refl (found_passes test os o)
  where
    go : (q : Bool) → test p ≡ q → (find test os ≡ Some o → test o ≡ true) → test o ≡ true
    go true t h =
        let is : Some p ≡ Some o = ap (λ (q : Bool). if q then Some p else find test os) (sym t) ∙ e in
        let same : p ≡ o = cc in
        subst (λ z. test z ≡ true) same t
    go false t h = h (ap (λ (q : Bool). if q then Some p else find test os) (sym t) ∙ e)

-- what is told of an operation's thread
asleep : (code : Parts) (th : Thread) (stack : Stack) (n : ℕ) → 0 < n → (p : Parked code.instrs n th stack) → closes th.work ≡ p.activation.entered
asleep code th stack zero lt p = absurd (omega (arith, lt))
asleep code th stack (suc n) lt p = sleeps_closes code.instrs p.activation p.place p.operands th.work p.works

-- ---- a block is marked in both

module _ (code : Parts) {ts : List Thread} {marks : List Bool} {operations : List Operation} {ready : List Item} {running : Option Item} {stacks : List Stack} {bs : List (Option Block)}
    (block : BlockId) (h : Together code.instrs ts marks operations ready running stacks bs) where
  mark_together : Together code.instrs ts (set marks block.number true) operations ready running stacks (with_block bs block (marked_at (block_at bs block)))
  mark_together = record {
    stacks_are = h.stacks_are;
    blocks_are = length-set bs block.number _ ∙ h.blocks_are ∙ sym (length-set marks block.number true);
    good = subst (Good ts) (sym (length-set marks block.number true)) h.good;
    waits = h.waits;
    listed = h.listed;
    tracks = tracks_mark marks ts bs h.good h.tracks block;
    others = h.others;
  }

module _ (code : Parts) (bound : ℕ) (s0 : Held) (t : Item) (ws : List Work) (ready : List Item) (ts : List Thread) (activation : Activation) (stacks : List Stack)
    (bs : List (Option Block)) (x : Seat ts t ws activation)
    (h0 : Together code.instrs (seated ts t ws) s0.marks s0.operations ready (Some t) stacks bs) where
  abbrev R : CoreState → Flat → Type 0
  R = Stands code.instrs

  abbrev a : Around
  a = around_of t activation ready stacks bs

  abbrev c : CoreState
  c = running s0 t ws ready ts

  module _ (level slot : ℕ) (s : Held) (place : ℕ) (again work : List Work) (b : SameBirths s0 s) (is : slice_get code.instrs place ≡ Some (i.Cancel level slot))
      (w : Works code.instrs activation place [] again) (w' : Works code.instrs activation (place + 1) [] work) where
    abbrev block : BlockId
    block = block_in (cell_at s.store activation.frame level slot)

    abbrev m : ℕ → Flat
    m k = flat a s place [] k

    abbrev bs' : List (Option Block)
    bs' = with_block bs block (marked_at (block_at bs block))

    abbrev all : List Thread
    all = seated ts t again

    h : Together code.instrs all s.marks s.operations ready (Some t) stacks bs
    h = on_together code.instrs ts t ws activation x again (works_closes code.instrs activation place [] again w) (with_births code.instrs s0 s b h0)

    abbrev At : Type 0
    At = FollowsAt code bound R a c s place [] (Cancels block s again work)

    -- ---- who is inside

    module _ (o : Operation) (asked : 0 < asked_by o.item.number s.operations) where
      abbrev u : ℕ
      u = o.item.number

      apart : t.number ≢ u
      apart e =
          let none : asked_by u s.operations ≡ 0 = subst (λ n. asked_by n s.operations ≡ 0) e (runs_without all s.operations ready t h.listed) in
          omega (arith, none, asked)

      unchanged : at all u ≡ at ts u
      unchanged = get_or-set_other ts t.number u (sitting ts t Active again) nobody (λ e. apart (sym e))

      active : (at all u).phase ≡ Active
      active = is_active (at all u).phase (let k = h.listed u in omega (arith, k, asked))

      alive : Lives (at all u).phase
      alive = subst Lives (sym active) tt

      parked : Parked code.instrs (asked_by u s.operations) (at all u) (stack_at stacks u)
      parked = h.others u apart alive

      stands_in : path (at ts u).work (at ts u) ≡ path_of (at all u)
      stands_in =
          ap (λ (y : Thread). closes y.work ++ y.around) (sym unchanged)
          ∙ ap (λ p. entered_of p (closes (at all u).work) ++ (at all u).around) (sym active)

      its_block : (stack_at stacks u).block ≡ first (path_of (at all u))
      its_block = let p = parked in
          ap (λ (y : Stack). y.block) p.is
          ∙ ap (λ l. first (l ++ p.activation.around)) (sym (asleep code (at all u) (stack_at stacks u) (asked_by u s.operations) asked p))
          ∙ ap (λ l. first (closes (at all u).work ++ l)) p.around
          ∙ ap (λ q. first (entered_of q (closes (at all u).work) ++ (at all u).around)) (sym active)

      inside_same : (k : ℕ) → is_inside_there (m k) block o ≡ is_inside ts block o
      inside_same k =
          ap (λ y. list_any (λ (z : BlockId). nat_eq block.number z.number) (round bs y)) its_block
          ∙ ap (list_any (λ (z : BlockId). nat_eq block.number z.number)) (path_round s.marks bs all h.good h.tracks u h.blocks_are alive)
          ∙ among_any block (path_of (at all u))
          ∙ ap (is_among block) (sym stands_in)

    -- those inside that have not begun are tried
    abbrev tests : Operation → Bool
    tests = is_to_try (is_inside ts block)

    abbrev tests_there : ℕ → Operation → Bool
    tests_there k = is_to_try (is_inside_there (m k) block)

    tried_alike : (k : ℕ) (o : Operation) → 0 < asked_by o.item.number s.operations → tests_there k o ≡ tests o
    tried_alike k o asked = ap (λ q. q && not (has_begun o.progress)) (inside_same o asked k)

    find_same : (k : ℕ) → find (tests_there k) s.operations ≡ find tests s.operations
    find_same k = find_agrees s.operations (tests_there k) tests (tried_alike k) s.operations (λ u. omega arith)

    without_same : (k : ℕ) → without_first (tests_there k) s.operations ≡ without_first tests s.operations
    without_same k = without_agrees s.operations (tests_there k) tests (tried_alike k) s.operations (λ u. omega arith)

    change_same : (k : ℕ) → change_first (tests_there k) as_begun s.operations ≡ change_first tests as_begun s.operations
    change_same k = change_agrees s.operations (tests_there k) tests (tried_alike k) as_begun s.operations (λ u. omega arith)

    -- both make the same of the operation that is tried
    outcome_same : (o : Operation) (it : Fate) (k : ℕ) → by_outcome it s.store (tests_there k) s.operations o ≡ by_outcome it s.store tests s.operations o
    outcome_same o NeverHappens k = ap (λ os. has_ended_as cancelled s.store os o) (without_same k)
    outcome_same o IsTaken k = go (is_request o.asked)
      where
        go : (q : Bool) → (if q then goes_on_waiting s.store (change_first (tests_there k) as_begun s.operations) else has_ended s.store (without_first (tests_there k) s.operations) o)
            ≡ (if q then goes_on_waiting s.store (change_first tests as_begun s.operations) else has_ended s.store (without_first tests s.operations) o)
        go true = ap (goes_on_waiting s.store) (change_same k)
        go false = ap (λ os. has_ended s.store os o) (without_same k)

    -- ---- none is left

    goes_follow : find tests s.operations ≡ None → At
    goes_follow none =
        let on = on_together code.instrs ts t again activation (again_seat) work (works_closes code.instrs activation (place + 1) [] work w') h in
        turn_follows code bound R a c (i.Cancel level slot) (goes_on c (with_mark s block) work)
        (λ k. flat (around_of t activation ready stacks bs') (with_mark s block) (place + 1) [] (counted k)) is (rw none refl) (λ k. rw (find_same k, none) refl)
        (λ k. runs (with_mark s block) t work ready ts activation (place + 1) [] stacks bs' (counted k) x.was_active x.was_around (mark_together code block on) w')
      where
        again_seat : Seat ts t again activation
        again_seat = seat_of ts t again activation x.was_active x.was_around (works_closes code.instrs activation place [] again w)

    -- ---- one is tried

    -- what it makes of the operations
    module _ (shared : Shared) (y : Arrival) (balance : Balances s.operations y) where
      abbrev held : Held
      held = record s { shared = shared; store = y.store; marks = set s.marks block.number true; operations = y.operations }

      abbrev Stood : ℕ → Type 0
      Stood k = R (arrived (goes_on c (with_mark s block) again) shared y) (arrives_there (marked (m k) block) shared y)

      -- none has ended
      waits_on : (k : ℕ) → y.woken ≡ None → Stood k
      waits_on k e =
          rw e (runs held t again ready ts activation place [] stacks bs' k x.was_active x.was_around
          (mark_together code block (none_together code s ready (Some t) all stacks bs h y balance e)) w)

      -- that of this thread has ended
      module _ (other : Item) (e : y.woken ≡ Some other) where
        apart' : t.number ≢ other.number
        apart' = runs_not code s ready (Some t) all stacks bs h y balance other e

        unchanged' : at all other.number ≡ thread_at ts other
        unchanged' = get_or-set_other ts t.number other.number (sitting ts t Active again) nobody (λ e. apart' (sym e))

        abbrev woken : Thread
        woken = record (thread_at ts other) { phase = Active; work = given (cell.Int y.value) (thread_at ts other).work }

        abbrev ts' : List Thread
        ts' = set ts other.number woken

        still : thread_at ts' t ≡ thread_at ts t
        still = get_or-set_other ts other.number t.number woken nobody (λ e. apart' e)

        seated_is : set all other.number (record (at all other.number) { phase = Active; work = given (cell.Int y.value) (at all other.number).work }) ≡ seated ts' t again
        seated_is =
            ap (λ (z : Thread). set all other.number (record z { phase = Active; work = given (cell.Int y.value) z.work })) unchanged'
            ∙ set_comm ts t.number other.number (sitting ts t Active again) woken apart'
            ∙ ap (λ (z : Thread). set ts' t.number (record z { phase = Active; work = again })) (sym still)

        abbrev stacks' : List Stack
        stacks' = set stacks other.number (gives (cell.Int y.value) (stack_at stacks other.number))

        together : Together code.instrs (seated ts' t again) held.marks y.operations (ready ++ other ∷ []) (Some t) stacks' bs'
        together =
            subst (λ ys. Together code.instrs ys held.marks y.operations (ready ++ other ∷ []) (Some t) stacks' bs') seated_is
            (mark_together code block (woken_together code s ready (Some t) all stacks bs h y balance other e))

        wakes : (k : ℕ) → Stood k
        wakes k =
            rw e (runs held t again (ready ++ other ∷ []) ts' activation place [] stacks' bs' k (ap (λ (z : Thread). z.phase) still ∙ x.was_active)
            (x.was_around ∙ ap (λ (z : Thread). z.around) (sym still)) together w)

      stands : (woken : Option Item) → y.woken ≡ woken → (k : ℕ) → Stood k
      stands None e k = waits_on k e
      stands (Some other) e k = wakes other e k

    module _ (o : Operation) (found : find tests s.operations ≡ Some o) where
      abbrev made : Fate → Arrival
      made it = by_outcome it s.store tests s.operations o

      balance : (it : Fate) → Balances s.operations (made it)
      balance NeverHappens = ended_balance cancelled s.store s.operations tests o found
      balance IsTaken = taken_balance s.store s.operations tests o found

      made_follows : (shared : Shared) (it : Fate) → applied c t (Cancels block s again work) ≡ On (arrived (goes_on c (with_mark s block) again) shared (made it))
          → ((k : ℕ) → begin code bound (m k) t (Some (i.Cancel level slot)) ≡ On (arrives_there (marked (m k) block) shared (by_outcome it s.store (tests_there k) s.operations o)))
          → At
      made_follows shared it here there =
          turn_follows code bound R a c (i.Cancel level slot) (arrived (goes_on c (with_mark s block) again) shared (made it)) (λ k. arrives_there (marked (m k) block) shared (made it)) is
          here
          (λ k. there k ∙ ap (λ y. On (arrives_there (marked (m k) block) shared y)) (outcome_same o it k)) (stands shared (made it) (balance it) (made it).woken refl)

      entry_follows : (number : ℕ) → o.progress ≡ Offered number → (y : Entry) (ys : List Entry) → s.shared.todo ≡ y ∷ ys → nat_eq y.turn s.shared.turn ≡ true
          → (r : Option Fate) → outcome o.link number y.event ≡ r → At
      entry_follows number p y ys e now None r =
          ends_follows code bound R a c (i.Cancel level slot) None counted is (rw (found, p, e, now, r) refl) (λ k. rw (find_same k, found, p, e, now, r) refl)
      entry_follows number p y ys e now (Some it) r =
          made_follows (with_entry s.shared y ys) it (rw (found, p, e, now, r) refl) (λ k. rw (find_same k, found, p, e, now, r) refl)

      turn_follows_here : (number : ℕ) → o.progress ≡ Offered number → (y : Entry) (ys : List Entry) → s.shared.todo ≡ y ∷ ys → (q : Bool) → nat_eq y.turn s.shared.turn ≡ q → At
      turn_follows_here number p y ys e true now = entry_follows number p y ys e now (outcome o.link number y.event) refl
      turn_follows_here number p y ys e false now =
          ends_follows code bound R a c (i.Cancel level slot) None counted is (rw (found, p, e, now) refl) (λ k. rw (find_same k, found, p, e, now) refl)

      offered_follows : (number : ℕ) → o.progress ≡ Offered number → (todo : List Entry) → s.shared.todo ≡ todo → At
      offered_follows number p [] e =
          ends_follows code bound R a c (i.Cancel level slot) (seen_of Stalled false s) counted is (rw (found, p, e) refl) (λ k. rw (find_same k, found, p, e) refl)
      offered_follows number p (y ∷ ys) e = turn_follows_here number p y ys e (nat_eq y.turn s.shared.turn) refl

      -- what has begun is not found
      not_begun : (number : ℕ) → o.progress ≢ Started number
      not_begun number p =
          let passes = both_true (is_inside ts block o) (not (has_begun o.progress)) (found_passes tests s.operations o found) in
          let no : not true ≡ true = subst (λ (q : Progress). not (has_begun q) ≡ true) p passes.1 in
          cc

      tried_follows : (p : Progress) → o.progress ≡ p → At
      tried_follows Waiting p = made_follows s.shared NeverHappens (rw (found, p) refl) (λ k. rw (find_same k, found, p) refl)
      tried_follows (Offered number) p = offered_follows number p s.shared.todo refl
      tried_follows (Started number) p = absurd (not_begun number p)

    -- the oldest operation within is tried, or the thread goes on
    pub cancel_follows : (r : Option Operation) → find tests s.operations ≡ r → At
    cancel_follows None e = goes_follow e
    cancel_follows (Some o) e = tried_follows o e o.progress refl

  pub cancels_follow : (level slot : ℕ) (s : Held) (place : ℕ) (again work : List Work) → SameBirths s0 s → slice_get code.instrs place ≡ Some (i.Cancel level slot) →
      Works code.instrs activation place [] again → Works code.instrs activation (place + 1) [] work →
      FollowsAt code bound R a c s place [] (Cancels (block_in (cell_at s.store activation.frame level slot)) s again work)
  cancels_follow level slot s place again work b is w w' =
      cancel_follows level slot s place again work b is w w' (find (is_to_try (is_inside ts (block_in (cell_at s.store activation.frame level slot)))) s.operations) refl
