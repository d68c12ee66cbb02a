-- How many entries the operations of a core may still make, and that one that comes in and passes over no offer leaves one less.
-- A receive has its end before it, and what goes to its peer its offer, and then two more at most: a send the end that is known, a request
-- that it is taken and its answer, and a withdrawn one its withdrawal and its room, which comes back later.
-- By the cases of an event: it ends or changes the first operation for which its test holds, which has less to come then; room that comes back lowers the count of Rooms.
use Rattle.std.proofs.Common.{◌∙◌, ◌≡◌, ℕ, ◌+◌, ◌≤◌, List, [], ◌∷◌, ◌++◌, find, Option, Some, None, Bool, true, false, cond, refl, sym, ap, subst, arith}
use Rattle.std.specs.Prelude.{ℤ, nat_eq, ◌&&◌, if◌then◌else◌}
use Rattle.ac_base.specs.declared.entry.Entry.{Entry}
use Rattle.ac_base.specs.declared.entry.Event.{Event}
use Rattle.ac_base.specs.declared.entry.Event.TheVariants as event
use Rattle.ac_base.specs.declared.entry.Payload.{Payload}
use Rattle.ac_base.specs.declared.entry.Answer.{Answer}
use Rattle.work_item.specs.Store.{Store}
use Rattle.cancel_scope.specs.declared.operation.Progress.{Progress}
use Rattle.cancel_scope.specs.declared.operation.Progress.TheVariants as progress
use Rattle.cancel_scope.specs.declared.operation.Operation.{Operation}
use Rattle.cancel_scope.specs.Outstanding.{is_outgoing, is_request, is_waiting, is_under, past_offer, is_to_offer, is_offered}
use Rattle.cancel_scope.specs.Outstanding.{is_begun, is_to_receive, carries, offered_as, as_begun, change_first, without_first}
use Rattle.core_state.specs.Arrivals.{Arrival, offers, offers_on, is_taken, is_known, is_answered, ends_received, passes_over, gives_room, keeps_room, arrives, goes_on_waiting, has_ended}
use Rattle.core_state.specs.Cancelling.{Fate, NeverHappens, IsTaken, by_outcome, outcome}
use Rattle.journal_bounds.specs.Passes.{pass_of}
use Rattle.journal_bounds.proofs.Counting.{withdrawal_of, offer_of}
use Rattle.journal_bounds.proofs.Rooms.{keeping_in, keeping_push, room_less}

-- A receive has its end before it, and what goes to its peer its offer, and then two more at most: a send the end that is known, a request
-- that it is taken and its answer, and a withdrawn one its withdrawal and its room, which comes back later.
abbrev pub left_in : Progress → Bool → ℕ
left_in progress.Waiting outgoing = if outgoing then 3 else 1
left_in (progress.Offered number) outgoing = 2
left_in (progress.Started number) outgoing = 1

abbrev pub entries_left : Operation → ℕ
entries_left o = left_in o.progress (is_outgoing o.asked)

abbrev pub entries_of : List Operation → ℕ
entries_of [] = 0
entries_of (o ∷ os) = entries_left o + entries_of os

-- those of which only their own core knows
abbrev unoffered : Progress → ℕ
unoffered progress.Waiting = 1
unoffered _ = 0

abbrev pub unoffered_of : List Operation → ℕ
unoffered_of [] = 0
unoffered_of (o ∷ os) = unoffered o.progress + unoffered_of os

pub unoffered_push : (os : List Operation) (o : Operation) → unoffered_of (os ++ o ∷ []) ≡ unoffered_of os + unoffered o.progress
unoffered_push [] o = omega arith
unoffered_push (x ∷ os) o = let ih = unoffered_push os o in omega arith

one_to_three : (p : Progress) (outgoing : Bool) → (1 ≤ left_in p outgoing) × (left_in p outgoing ≤ 3)
one_to_three progress.Waiting true = (omega arith, omega arith)
one_to_three progress.Waiting false = (omega arith, omega arith)
one_to_three (progress.Offered number) outgoing = (omega arith, omega arith)
one_to_three (progress.Started number) outgoing = (omega arith, omega arith)

pub left_at_most : (o : Operation) → entries_left o ≤ 3
left_at_most o = (one_to_three o.progress (is_outgoing o.asked)).1

left_at_least : (o : Operation) → 1 ≤ entries_left o
left_at_least o = (one_to_three o.progress (is_outgoing o.asked)).0

pub entries_push : (os : List Operation) (o : Operation) → entries_of (os ++ o ∷ []) ≡ entries_of os + entries_left o
entries_push [] o = omega arith
entries_push (x ∷ os) o = let ih = entries_push os o in omega arith

-- one that has ended
abbrev pub Fewer : List Operation → Operation → List Operation → Type 0
Fewer after o os = (entries_of after + entries_left o ≤ entries_of os) × (unoffered_of after ≤ unoffered_of os)

pub without_less : (test : Operation → Bool) (os : List Operation) (o : Operation) → find test os ≡ Some o → Fewer (without_first test os) o os
without_less test [] o h = cc
without_less test (x ∷ os) o h = at (test x) refl h (without_less test os o)
  where
    at : (b : Bool) → test x ≡ b → cond b (Some x) (find test os) ≡ Some o → (find test os ≡ Some o → Fewer (without_first test os) o os) → Fewer (without_first test (x ∷ os)) o (x ∷ os)
    at true e found later =
        let same : x ≡ o = cc in
        subst (λ (b : Bool). Fewer (if b then os else x ∷ without_first test os) o (x ∷ os)) (sym e)
        (subst (λ (y : Operation). Fewer os y (x ∷ os)) same (omega arith, omega arith))
    at false e found later =
        let ih = later found in
        let fewer = ih.0 in
        let shorter = ih.1 in
        subst (λ (b : Bool). Fewer (if b then os else x ∷ without_first test os) o (x ∷ os)) (sym e)
        (omega arith, omega arith)

-- one that goes on with less to come, of which k more offers are no longer to be made
abbrev Falls : ℕ → (Operation → Operation) → Operation → Type 0
Falls k change o = (entries_left (change o) + 1 ≤ entries_left o) × (unoffered (change o).progress + k ≤ unoffered o.progress)

abbrev FallsIn : ℕ → List Operation → List Operation → Type 0
FallsIn k after os = (entries_of after + 1 ≤ entries_of os) × (unoffered_of after + k ≤ unoffered_of os)

changed_less : (k : ℕ) (test : Operation → Bool) (change : Operation → Operation) (os : List Operation) → ((o : Operation) → find test os ≡ Some o → Falls k change o)
    → (o : Operation) → find test os ≡ Some o → FallsIn k (change_first test change os) os
changed_less k test change [] falls o h = cc
changed_less k test change (x ∷ os) falls o h = at (test x) refl (changed_less k test change os)
  where
    at : (b : Bool) → test x ≡ b
        → (((o : Operation) → find test os ≡ Some o → Falls k change o) → (o : Operation) → find test os ≡ Some o → FallsIn k (change_first test change os) os)
        → FallsIn k (change_first test change (x ∷ os)) (x ∷ os)
    at true e later =
        let here = falls x (rw e refl) in
        let less = here.0 in
        let one = here.1 in
        subst (λ b. FallsIn k (if b then change x ∷ os else x ∷ change_first test change os) (x ∷ os)) (sym e) (omega arith, omega arith)
    at false e later =
        let found : find test os ≡ Some o = subst (λ b. cond b (Some x) (find test os) ≡ Some o) e h in
        let ih = later (λ y k. falls y (rw e k)) o found in
        let less = ih.0 in
        let one = ih.1 in
        subst (λ b. FallsIn k (if b then change x ∷ os else x ∷ change_first test change os) (x ∷ os)) (sym e) (omega arith, omega arith)

-- the first for which a test holds passes it
passes : (test : Operation → Bool) (os : List Operation) (o : Operation) → find test os ≡ Some o → test o ≡ true
passes test [] o h = cc
passes test (x ∷ os) o h = at (test x) refl h (passes test os o)
  where
    at : (b : Bool) → test x ≡ b → cond b (Some x) (find test os) ≡ Some o → (find test os ≡ Some o → test o ≡ true) → test o ≡ true
    at true e found later = let same : x ≡ o = cc in subst (λ y. test y ≡ true) same e
    at false e found later = later found

-- one that is offered
to_offer : (link number : ℕ) (x : Operation) → is_to_offer link x ≡ true → Falls 1 (offered_as number) x
to_offer link number x h = by (nat_eq x.link link) (is_outgoing x.asked) x.progress h
  where
    by : (a b : Bool) (p : Progress) → a && (b && is_waiting p) ≡ true → (2 + 1 ≤ left_in p b) × (0 + 1 ≤ unoffered p)
    by true true progress.Waiting e = (omega arith, omega arith)
    by true true (progress.Offered number) e = let no : false ≡ true = e in absurd (cc)
    by true true (progress.Started number) e = let no : false ≡ true = e in absurd (cc)
    by true false p e = let no : false ≡ true = e in absurd (cc)
    by false b p e = let no : false ≡ true = e in absurd (cc)

-- one that has begun, where it stood under a number
abbrev Begins : Operation → Progress → Type 0
Begins o p = (left_in (past_offer p) (is_outgoing o.asked) + 1 ≤ left_in p (is_outgoing o.asked)) × (unoffered (past_offer p) + 0 ≤ unoffered p)

begun_under : (number : ℕ) (o : Operation) → o.progress ≡ progress.Offered number → Falls 0 as_begun o
begun_under number o e = subst (Begins o) (sym e) (omega arith, omega arith)

begun_of : (link number : ℕ) (o : Operation) → is_offered link number o ≡ true → Falls 0 as_begun o
begun_of link number o h = by (nat_eq o.link link) o.progress h
  where
    by : (a : Bool) (p : Progress) → a && is_under number p ≡ true → Begins o p
    by true progress.Waiting e = let no : false ≡ true = e in absurd (cc)
    by true (progress.Offered n) e = (omega arith, omega arith)
    by true (progress.Started n) e = let no : false ≡ true = e in absurd (cc)
    by false p e = let no : false ≡ true = e in absurd (cc)

-- ---- an entry

-- after it one less is left, beside an offer that it passes over; and an offer that it makes is no longer to be made
abbrev pub Less : List Entry → Entry → List Operation → List Operation → Type 0
Less past e os after = (keeping_in (past ++ e ∷ []) + (entries_of after + 1) ≤ keeping_in past + (entries_of os + pass_of e.event)) × (unoffered_of after + offer_of e.event ≤ unoffered_of os)

-- where it fits
abbrev pub LessAfter : List Entry → Entry → List Operation → Option Arrival → Type 0
LessAfter past e os None = Unit {0}
LessAfter past e os (Some x) = Less past e os x.operations

-- the peer has taken the first for which a test holds: it has ended, or it has begun and has less to come
taken_less : (past : List Entry) (e : Entry) (store : Store) (test : Operation → Bool) (os : List Operation) → ((o : Operation) → find test os ≡ Some o → Falls 0 as_begun o)
    → withdrawal_of e.event ≡ 0 → offer_of e.event ≡ 0 → (o : Operation) → find test os ≡ Some o → Less past e os (is_taken store test os o).operations
taken_less past e store test os falls none unmade o found = at (is_request o.asked)
  where
    at : (b : Bool) → Less past e os (if b then goes_on_waiting store (change_first test as_begun os) else has_ended store (without_first test os) o).operations
    at true =
        let h = changed_less 0 test as_begun os falls o found in
        let fewer = h.0 in
        let unoffered = h.1 in
        let k = keeping_push past e in
        (omega arith, omega arith)
    at false =
        let h = without_less test os o found in
        let fewer = h.0 in
        let shorter = h.1 in
        let l = left_at_least o in
        let k = keeping_push past e in
        (omega arith, omega arith)

module _ (past : List Entry) (store : Store) (os : List Operation) (stamp turn : ℕ) where
  abbrev entry : Event → Entry
  entry v = record { stamp = stamp; turn = turn; event = v }

  offers_less : (link number : ℕ) (payload : Payload) (q : Option Operation) → find (is_to_offer link) os ≡ q
      → LessAfter past (entry (event.Offer link number payload)) os (offers store os link number payload q)
  offers_less link number payload None e = tt
  offers_less link number payload (Some o) e = at (carries o.asked payload)
    where
      at : (b : Bool)
          → LessAfter past (entry (event.Offer link number payload)) os (if b then Some (goes_on_waiting store (change_first (is_to_offer link) (offered_as number) os)) else None)
      at true =
          let falls = λ (y : Operation) (found : find (is_to_offer link) os ≡ Some y). to_offer link number y (passes (is_to_offer link) os y found) in
          let h = changed_less 1 (is_to_offer link) (offered_as number) os falls o e in
          let fewer = h.0 in
          let unoffered = h.1 in
          let k = keeping_push past (entry (event.Offer link number payload)) in
          (omega arith, omega arith)
      at false = tt

  known_less : (link number : ℕ) (q : Option Operation) → find (is_offered link number) os ≡ q → LessAfter past (entry (event.Know link number)) os (is_known store os link number q)
  known_less link number None e = tt
  known_less link number (Some o) e =
      taken_less past (entry (event.Know link number)) store (is_offered link number) os (λ y found. begun_of link number y (passes (is_offered link number) os y found)) refl refl o e

  answered_less : (link number : ℕ) (answer : Answer) (q : Option Operation) → find (is_begun link number) os ≡ q
      → LessAfter past (entry (event.Reply link number answer)) os (is_answered store os link number answer q)
  answered_less link number answer None e = tt
  answered_less link number answer (Some o) e =
      let h = without_less (is_begun link number) os o e in
      let fewer = h.0 in
      let shorter = h.1 in
      let l = left_at_least o in
      let k = keeping_push past (entry (event.Reply link number answer)) in
      (omega arith, omega arith)

  received_less : (link number : ℕ) (value : List ℤ) (q : Option Operation) → find (is_to_receive link) os ≡ q
      → LessAfter past (entry (event.Got link number value)) os (ends_received store os link value q)
  received_less link number value None e = tt
  received_less link number value (Some o) e =
      let h = without_less (is_to_receive link) os o e in
      let fewer = h.0 in
      let shorter = h.1 in
      let l = left_at_least o in
      let k = keeping_push past (entry (event.Got link number value)) in
      (omega arith, omega arith)

  passed_less : (link number : ℕ) (q : Option Operation) → LessAfter past (entry (event.Pass link number)) os (passes_over store os q)
  passed_less link number None = tt
  passed_less link number (Some o) = let k = keeping_push past (entry (event.Pass link number)) in (omega arith, omega arith)

  -- room comes back once at most
  room_is_less : (link number : ℕ) (b : Bool) → keeps_room link number past ≡ b → LessAfter past (entry (event.Room link number)) os (gives_room store os b)
  room_is_less link number true e = let k = room_less past stamp turn link number e in (omega arith, omega arith)
  room_is_less link number false e = tt

  event_less : (v : Event) → LessAfter past (entry v) os (arrives past store os v)
  event_less (event.Offer link number payload) = at (nat_eq number (offers_on link past))
    where
      at : (b : Bool) → LessAfter past (entry (event.Offer link number payload)) os (if b then offers store os link number payload (find (is_to_offer link) os) else None)
      at true = offers_less link number payload (find (is_to_offer link) os) refl
      at false = tt
  event_less (event.Know link number) = known_less link number (find (is_offered link number) os) refl
  event_less (event.Got link number value) = received_less link number value (find (is_to_receive link) os) refl
  event_less (event.Pass link number) = passed_less link number (find (is_to_receive link) os)
  event_less (event.Room link number) = room_is_less link number (keeps_room link number past) refl
  event_less (event.Reply link number answer) = answered_less link number answer (find (is_begun link number) os) refl
  event_less _ = tt

pub arrives_less : (past : List Entry) (store : Store) (os : List Operation) (e : Entry) → LessAfter past e os (arrives past store os e.event)
arrives_less past store os e = event_less past store os e.stamp e.turn e.event

-- ---- a cancel

at_most_one : (v : Event) → withdrawal_of v ≤ 1
at_most_one (event.Withdraw link number) = omega arith
at_most_one other = omega arith

when_under : (number : ℕ) (o : Operation) → o.progress ≡ progress.Offered number → entries_left o ≡ 2
when_under number o e = ap (λ (p : Progress). left_in p (is_outgoing o.asked)) e

-- what says that a peer has taken an offer withdraws none
no_withdrawal : (link number : ℕ) (v : Event) → outcome link number v ≡ Some IsTaken → withdrawal_of v ≡ 0
no_withdrawal link number (event.Withdraw l n) e = at (nat_eq l link && nat_eq n number) e
  where
    at : (b : Bool) → (if b then Some NeverHappens else None) ≡ Some IsTaken → ◌≡◌ {A = ℕ} 1 0
    at true e = cc
    at false e = cc
no_withdrawal link number other e = refl

-- what decides of an offer makes none
no_offer : (link number : ℕ) (v : Event) (it : Fate) → outcome link number v ≡ Some it → offer_of v ≡ 0
no_offer link number (event.Offer l n payload) it e = let no : None ≡ Some it = e in absurd (cc)
no_offer link number other it e = refl

-- whatever the outcome of an offer is
pub decided_less : (past : List Entry) (e : Entry) (store : Store) (test : Operation → Bool) (os : List Operation) (o : Operation) (number : ℕ) → find test os ≡ Some o
    → o.progress ≡ progress.Offered number → (it : Fate) → outcome o.link number e.event ≡ Some it → Less past e os (by_outcome it store test os o).operations
decided_less past e store test os o number found under NeverHappens is =
    let h = without_less test os o found in
    let fewer = h.0 in
    let shorter = h.1 in
    let two = when_under number o under in
    let one = at_most_one e.event in
    let unmade = no_offer o.link number e.event NeverHappens is in
    let k = keeping_push past e in
    (omega arith, omega arith)
decided_less past e store test os o number found under IsTaken is =
    taken_less past e store test os (λ y its. let same : o ≡ y = (let both : Some o ≡ Some y = sym found ∙ its in cc) in subst (λ z. Falls 0 as_begun z) same (begun_under number o under))
    (no_withdrawal o.link number e.event is) (no_offer o.link number e.event IsTaken is) o found
