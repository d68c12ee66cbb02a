-- An entry that comes in, and what it leaves of a core and of its machine.
-- Both hold the same operations, so the same entry comes in and makes the same of them. What is left to show is who waits: an operation
-- that ends is taken from those for which its thread is counted, and the thread comes to the ready ones in both.
use Rattle.std.proofs.Common.{◌≡◌, ℕ, ◌+◌, ◌<◌, List, [], ◌∷◌, ◌++◌, length, set, Option, Some, None, Bool, true, false, inl, inr, refl, sym, ap, ◌∙◌, subst, arith}
use Rattle.std.specs.Prelude.{ℤ, find, nat_eq, if◌then◌else◌}
use Rattle.std.proofs.lemmas.List.{length-set}
use Rattle.ac_base.specs.declared.entry.Entry.{Entry}
use Rattle.ac_base.specs.declared.entry.Event.{Event}
use Rattle.ac_base.specs.declared.entry.Event.TheVariants as event
use Rattle.ac_base.specs.declared.entry.Payload.{Payload}
use Rattle.ac_base.specs.declared.entry.Answer.{Answer}
use Rattle.work_item.specs.declared.ids.Item.{Item}
use Rattle.work_item.specs.declared.cell.Cell.{Cell}
use Rattle.work_item.specs.declared.cell.Cell.TheVariants as cell
use Rattle.work_item.specs.Store.{Store}
use Rattle.cancel_scope.specs.declared.operation.Operation.{Operation}
use Rattle.cancel_scope.specs.Outstanding.{is_to_offer, is_offered, is_begun, is_to_receive, is_request, carries, offered_as, as_begun, change_first, without_first}
use Rattle.core_state.specs.Shared.{Shared}
use Rattle.core_state.specs.Arrivals.{Arrival, goes_on_waiting, offers_on, keeps_room, has_ended, has_ended_as, offers}
use Rattle.core_state.specs.Arrivals.{is_taken, is_known, is_answered, ends_received, passes_over, gives_room, arrives}
use Rattle.ac_semantics.specs.Held.{Held}
use Rattle.ac_semantics.specs.Work.{Work, Pend, closes, given}
use Rattle.ac_semantics.specs.Threads.{Phase, Active, Thread, nobody, arrived}
use Rattle.stack_code.specs.Parts.{Parts}
use Rattle.code_meaning.specs.Machine.{Block, Thread as Stack, nobody as no_stack, given as gives, arrived as arrives_there}
use Rattle.ac_translation.proofs.Tables.{set_changed, found, in_table, one, one_same, one_other, occ_append}
use Rattle.ac_translation.proofs.Blocks.{Lives, entered_of, entered, at}
use Rattle.ac_translation.proofs.Changes.{direct_change, same_good}
use Rattle.ac_translation.proofs.Tracks.{tracks_same}
use Rattle.ac_translation.proofs.Wakes.{is_active, active, running_is, asked_by, listed_same, waits_change}
use Rattle.ac_translation.proofs.Works.{given_works}
use Rattle.ac_translation.proofs.Standing.{resting, halted, NotRunning, stack_at, Parked, Others, Together, Stands, rests, never_waits}

-- ---- who waits for an operation

abbrev who : Operation → ℕ
who o = o.item.number

-- an operation goes on as another one of the same thread
changed_asked : (u : ℕ) (test : Operation → Bool) (change : Operation → Operation) → ((o : Operation) → (change o).item ≡ o.item) → (os : List Operation)
    → asked_by u (change_first test change os) ≡ asked_by u os
changed_asked u test change keeps [] = refl
changed_asked u test change keeps (o ∷ os) = go (test o) (changed_asked u test change keeps os)
  where
    go : (b : Bool) → asked_by u (change_first test change os) ≡ asked_by u os
        → asked_by u (if b then change o ∷ os else o ∷ change_first test change os) ≡ asked_by u (o ∷ os)
    go true h = ap (λ (t : Item). one u t.number + asked_by u os) (keeps o)
    go false h = ap (λ n. one u (who o) + n) h

-- the first that is found is taken away
without_asked : (u : ℕ) (test : Operation → Bool) (o : Operation) (os : List Operation) → find test os ≡ Some o → asked_by u os ≡ one u (who o) + asked_by u (without_first test os)
without_asked u test o [] e = cc
without_asked u test o (p ∷ os) e = go (test p) refl (without_asked u test o os)
  where
    go : (b : Bool) → test p ≡ b → (find test os ≡ Some o → asked_by u os ≡ one u (who o) + asked_by u (without_first test os))
        → asked_by u (p ∷ os) ≡ one u (who o) + asked_by u (without_first test (p ∷ os))
    go true t h =
        let is : Some p ≡ Some o = ap (λ (b : Bool). if b then Some p else find test os) (sym t) ∙ e in
        let same : p ≡ o = cc in
        rw t (ap (λ (z : Operation). one u (who z) + asked_by u os) same)
    go false t h =
        let is : find test os ≡ Some o = ap (λ (b : Bool). if b then Some p else find test os) (sym t) ∙ e in
        let k = h is in
        rw t (omega (arith, k))

-- the thread whose operation has ended waited for it
pub record Balances (os : List Operation) (x : Arrival) : Type 0 where
  pub by : (u : ℕ) → asked_by u os ≡ running_is u x.woken + asked_by u x.operations

same_balance : (os : List Operation) (x y : Arrival) → Some y ≡ Some x → Balances os y → Balances os x
same_balance os x y e h = let same : y ≡ x = cc in subst (Balances os) same h

offers_balance : (store : Store) (os : List Operation) (link number : ℕ) (payload : Payload) (x : Arrival) (found : Option Operation) → offers store os link number payload found ≡ Some x
    → Balances os x
offers_balance store os link number payload x None e = cc
offers_balance store os link number payload x (Some o) e = go (carries o.asked payload) e
  where
    go : (b : Bool) → (if b then Some (goes_on_waiting store (change_first (is_to_offer link) (offered_as number) os)) else None) ≡ Some x → Balances os x
    go true e = same_balance os x (goes_on_waiting store (change_first (is_to_offer link) (offered_as number) os)) e
        (record { by = λ u. let k = changed_asked u (is_to_offer link) (offered_as number) (λ o. refl) os in omega (arith, k) })
    go false e = cc

-- its peer has taken the first of those for which a test holds
pub taken_balance : (store : Store) (os : List Operation) (test : Operation → Bool) (o : Operation) → find test os ≡ Some o → Balances os (is_taken store test os o)
taken_balance store os test o f = go (is_request o.asked)
  where
    go : (b : Bool) → Balances os (if b then goes_on_waiting store (change_first test as_begun os) else has_ended store (without_first test os) o)
    go true = record { by = λ u. let k = changed_asked u test as_begun (λ o. refl) os in omega (arith, k) }
    go false = record { by = λ u. without_asked u test o os f }

known_balance : (store : Store) (os : List Operation) (link number : ℕ) (x : Arrival) (found : Option Operation) → find (is_offered link number) os ≡ found
    → is_known store os link number found ≡ Some x → Balances os x
known_balance store os link number x None f e = cc
known_balance store os link number x (Some o) f e = same_balance os x _ e (taken_balance store os (is_offered link number) o f)

answered_balance : (store : Store) (os : List Operation) (link number : ℕ) (answer : Answer) (x : Arrival) (found : Option Operation) → find (is_begun link number) os ≡ found
    → is_answered store os link number answer found ≡ Some x → Balances os x
answered_balance store os link number answer x None f e = cc
answered_balance store os link number answer x (Some o) f e = same_balance os x _ e (record { by = λ u. without_asked u (is_begun link number) o os f })

received_balance : (store : Store) (os : List Operation) (link : ℕ) (message : List ℤ) (x : Arrival) (found : Option Operation) → find (is_to_receive link) os ≡ found
    → ends_received store os link message found ≡ Some x → Balances os x
received_balance store os link message x None f e = cc
received_balance store os link message x (Some o) f e = same_balance os x _ e (record { by = λ u. without_asked u (is_to_receive link) o os f })

passed_balance : (store : Store) (os : List Operation) (x : Arrival) (found : Option Operation) → passes_over store os found ≡ Some x → Balances os x
passed_balance store os x None e = cc
passed_balance store os x (Some o) e = same_balance os x (goes_on_waiting store os) e (record { by = λ u. omega arith })

room_balance : (store : Store) (os : List Operation) (x : Arrival) (keeps : Bool) → gives_room store os keeps ≡ Some x → Balances os x
room_balance store os x false e = cc
room_balance store os x true e = same_balance os x (goes_on_waiting store os) e (record { by = λ u. omega arith })

-- the first of those for which a test holds has ended
pub ended_balance : (value : ℤ) (store : Store) (os : List Operation) (test : Operation → Bool) (o : Operation) → find test os ≡ Some o
    → Balances os (has_ended_as value store (without_first test os) o)
ended_balance value store os test o f = record { by = λ u. without_asked u test o os f }

pub arrival_balance : (past : List Entry) (store : Store) (os : List Operation) (event : Event) (x : Arrival) → arrives past store os event ≡ Some x → Balances os x
arrival_balance past store os (event.Offer link number payload) x e = go (nat_eq number (offers_on link past)) e
  where
    go : (b : Bool) → (if b then offers store os link number payload (find (is_to_offer link) os) else None) ≡ Some x → Balances os x
    go true e = offers_balance store os link number payload x (find (is_to_offer link) os) e
    go false e = cc
arrival_balance past store os (event.Know link number) x e = known_balance store os link number x (find (is_offered link number) os) refl e
arrival_balance past store os (event.Got link number value) x e = received_balance store os link value x (find (is_to_receive link) os) refl e
arrival_balance past store os (event.Pass link number) x e = passed_balance store os x (find (is_to_receive link) os) e
arrival_balance past store os (event.Room link number) x e = room_balance store os x (keeps_room link number past) e
arrival_balance past store os (event.Reply link number answer) x e = answered_balance store os link number answer x (find (is_begun link number) os) refl e
arrival_balance past store os other x e = cc

-- ---- the value of an operation

given_closes : (value : Cell) (ws : List Work) → closes (given value ws) ≡ closes ws
given_closes value [] = refl
given_closes value (Pend own c around ∷ ws) = refl
given_closes value (w ∷ ws) = refl

-- ---- the state after it

never_runs : (u : ℕ) (running : Option Item) → running_is u running ≡ 0 → NotRunning u running
never_runs u None z = tt
never_runs u (Some t) z = λ e. let o : one u t.number ≡ 1 = subst (λ n. one u n ≡ 1) (sym e) (one_same u) in omega (arith, z, o)

module _ (code : Parts) (s : Held) (ready : List Item) (running : Option Item) (ts : List Thread) (stacks : List Stack) (bs : List (Option Block))
    (h : Together code.instrs ts s.marks s.operations ready running stacks bs) (x : Arrival) (balance : Balances s.operations x) where
  -- no operation has ended
  pub none_together : x.woken ≡ None → Together code.instrs ts s.marks x.operations ready running stacks bs
  none_together e =
      let same = λ (u : ℕ). balance.by u ∙ ap (λ w. running_is u w + asked_by u x.operations) e in
      record {
        stacks_are = h.stacks_are;
        blocks_are = h.blocks_are;
        good = h.good;
        waits = h.waits;
        listed = λ u. let k = h.listed u in let z = same u in omega (arith, k, z);
        tracks = h.tracks;
        others = λ u ne l. let z : asked_by u s.operations ≡ asked_by u x.operations = (let k = same u in omega (arith, k)) in
            subst (λ n. Parked code.instrs n (at ts u) (stack_at stacks u)) z (h.others u ne l);
      }

  -- the operation of this thread has ended
  module _ (t : Item) (e : x.woken ≡ Some t) where
    one_less : (u : ℕ) → asked_by u s.operations ≡ one u t.number + asked_by u x.operations
    one_less u = balance.by u ∙ ap (λ w. running_is u w + asked_by u x.operations) e

    pub was_active : (at ts t.number).phase ≡ Active
    was_active =
        is_active (at ts t.number).phase (let k = h.listed t.number in let z = one_less t.number in let o = one_same t.number in omega (arith, k, z, o))

    asked_once : (running_is t.number running ≡ 0) × ((asked_by t.number s.operations ≡ 1) × (asked_by t.number x.operations ≡ 0))
    asked_once =
        let k = h.listed t.number in
        let a = ap active was_active in
        let z = one_less t.number in
        let o = one_same t.number in
        (omega (arith, k, z, o, a), (omega (arith, k, z, o, a), omega (arith, k, z, o, a)))

    pub runs_not : NotRunning t.number running
    runs_not = never_runs t.number running asked_once.0

    lives : Lives (at ts t.number).phase
    lives = subst Lives (sym was_active) tt

    abbrev value : Cell
    value = cell.Int x.value

    abbrev pub woken_thread : Thread
    woken_thread = record (at ts t.number) { phase = Active; work = given value (at ts t.number).work }

    abbrev pub woken_stack : Stack
    woken_stack = gives value (stack_at stacks t.number)

    sleeper : Parked code.instrs 1 (at ts t.number) (stack_at stacks t.number)
    sleeper = subst (λ n. Parked code.instrs n (at ts t.number) (stack_at stacks t.number)) asked_once.1.0 (h.others t.number runs_not lives)

    awake : Parked code.instrs 0 woken_thread woken_stack
    awake = record {
      activation = sleeper.activation;
      place = sleeper.place;
      operands = value ∷ sleeper.operands;
      is = ap (gives value) sleeper.is;
      around = sleeper.around;
      works = given_works code.instrs value sleeper.activation sleeper.place sleeper.operands (at ts t.number).work sleeper.works;
    }

    inside : t.number < length ts
    inside = in_table (λ (y : Thread). Lives y.phase) nobody ts t.number (λ l. l) lives

    same_entered : entered woken_thread ≡ entered (at ts t.number)
    same_entered = given_closes value (at ts t.number).work ∙ ap (λ (p : Phase). entered_of p (closes (at ts t.number).work)) (sym was_active)

    abbrev pub then_threads : List Thread
    then_threads = set ts t.number woken_thread

    abbrev pub then_stacks : List Stack
    then_stacks = set stacks t.number woken_stack

    others_then : Others code.instrs then_threads x.operations running then_stacks
    others_then u ne l =
        let change = set_changed nobody ts t.number woken_thread inside in
        let m = h.stacks_are in
        let put = set_changed no_stack stacks t.number woken_stack (let lt = inside in omega (arith, lt, m)) in
        elim (found nobody ts then_threads t.number woken_thread change u) as (λ _. Parked code.instrs (asked_by u x.operations) (at then_threads u) (stack_at then_stacks u)) [
          | inl q ↦
              let here : stack_at then_stacks u ≡ woken_stack = subst (λ z. stack_at then_stacks z ≡ woken_stack) q.0 put.here in
              let own : Parked code.instrs (asked_by u x.operations) woken_thread woken_stack =
              subst (λ z. Parked code.instrs (asked_by z x.operations) woken_thread woken_stack) q.0
              (subst (λ n. Parked code.instrs n woken_thread woken_stack) (sym asked_once.1.1) awake) in
              subst (λ y. Parked code.instrs (asked_by u x.operations) (at then_threads u) y) (sym here) (subst (λ y. Parked code.instrs (asked_by u x.operations) y woken_stack) (sym q.1) own)
          | inr q ↦
              let z : asked_by u s.operations ≡ asked_by u x.operations = (let k = one_less u in let o = one_other u t.number (λ e. q.0 (sym e)) in omega (arith, k, o)) in
              let was = h.others u ne (subst (λ (y : Thread). Lives y.phase) q.1 l) in
              let now = subst (λ n. Parked code.instrs n (at ts u) (stack_at stacks u)) z was in
              subst (λ y. Parked code.instrs (asked_by u x.operations) (at then_threads u) y) (sym (put.there u q.0))
              (subst (λ y. Parked code.instrs (asked_by u x.operations) y (stack_at stacks u)) (sym q.1) now)
        ]

    pub woken_together : Together code.instrs then_threads s.marks x.operations (ready ++ t ∷ []) running then_stacks bs
    woken_together =
        let change = set_changed nobody ts t.number woken_thread inside in
        let listed = listed_same ts then_threads t.number woken_thread change s.operations ready running (sym was_active) h.listed in
        record {
          stacks_are = length-set stacks t.number woken_stack ∙ h.stacks_are ∙ sym (length-set ts t.number woken_thread);
          blocks_are = h.blocks_are;
          good = same_good ts then_threads t.number woken_thread change (length s.marks) h.good lives tt refl same_entered;
          waits = waits_change ts then_threads t.number woken_thread change h.waits (direct_change ts then_threads t.number woken_thread change lives tt refl) (λ b e. absurd (never_waits b e));
          listed = λ u. let k = listed u in let z = one_less u in let r = occ_append (λ (y : Item). y.number) u ready (t ∷ []) in omega (arith, k, z, r);
          tracks = tracks_same ts then_threads t.number woken_thread change bs bs s.marks (length s.marks) h.good h.tracks refl lives (sym was_active) refl same_entered;
          others = others_then;
        }

-- where none runs, both stand in relation again
module _ (code : Parts) (s : Held) (ready : List Item) (ts : List Thread) (stacks : List Stack) (bs : List (Option Block)) (count : ℕ)
    (h : Together code.instrs ts s.marks s.operations ready None stacks bs) (shared : Shared) (x : Arrival) (balance : Balances s.operations x) where
  abbrev then_held : Held
  then_held = record s { shared = shared; store = x.store; operations = x.operations }

  pub arrival_stands : Stands code.instrs (arrived (resting s ready ts) shared x) (arrives_there (halted s ready stacks bs count) shared x)
  arrival_stands = go x.woken refl
    where
      go : (woken : Option Item) → x.woken ≡ woken → Stands code.instrs (arrived (resting s ready ts) shared x) (arrives_there (halted s ready stacks bs count) shared x)
      go None e = rw e (rests then_held ready ts stacks bs count (none_together code s ready None ts stacks bs h x balance e))
      go (Some t) e =
          rw e (rests then_held (ready ++ t ∷ []) (then_threads code s ready None ts stacks bs h x balance t e) (then_stacks code s ready None ts stacks bs h x balance t e) bs count
          (woken_together code s ready None ts stacks bs h x balance t e))
