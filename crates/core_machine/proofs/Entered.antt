-- What a core makes of an event that comes in, one lemma for each kind: for `offered`, `know`, `got`, `replied`, `passed` and `roomed`.
-- Each finds the operation by the test that the event names, and compares the fields after the call with the arrival that the code's meaning makes of it.
use Rattle.std.proofs.Common.{◌≡◌, ℕ, List, [], ◌∷◌, ◌++◌, Option, Some, None, IsSome, Bool, true, false, refl, sym, ap, ◌∙◌, subst}
use Rattle.std.specs.Prelude.{find, IfSome, if◌then◌else◌, ℤ}
use Rattle.std.proofs.lemmas.Bool.{eq-eqb}
use Rattle.ac_base.specs.Log.{Log}
use Rattle.ac_base.specs.declared.entry.Entry.{Entry}
use Rattle.ac_base.specs.declared.entry.Event.{Event}
use Rattle.ac_base.specs.declared.entry.Event.TheVariants as event
use Rattle.ac_base.specs.declared.entry.Answer.{Answer}
use Rattle.ac_base.specs.declared.entry.Payload.{Payload}
use Rattle.work_item.specs.declared.cell.Cell.TheVariants as cell
use Rattle.work_item.specs.declared.cell.Place.{Place}
use Rattle.work_item.specs.Store.{Store}
use Rattle.core_state.specs.Messages.{with_ints_at}
use Rattle.cancel_scope.specs.declared.operation.Asked.TheVariants as asked
use Rattle.cancel_scope.specs.declared.operation.Operation.{Operation}
use Rattle.cancel_scope.specs.Outstanding.{is_to_offer, is_offered, is_begun, is_to_receive, is_request, carries, offered_as, as_begun, change_first, without_first}
use Rattle.cancel_scope.specs.Roomy.{Roomy}
use Rattle.core_state.specs.Arrivals as arrivals
use Rattle.core_state.specs.Arrivals.{goes_on_waiting, has_ended, has_ended_as, offers, offers_on, is_known, is_answered, ends_received, passes_over, gives_room, keeps_room, with_message, ok}
use Rattle.core_state.specs.Shared.{Shared, with_entry}
use Rattle.core_state.specs.Requests.{value_of, with_answer}
use Rattle.code_meaning.specs.Machine.{Flat, resumed}
use Rattle.core_machine.specs.declared.running.Running.{Running}
use Rattle.core_machine.specs.State.{shared_of, flat_of, HasSeats}
use Rattle.core_machine.specs.inner.Changes.{Keeps, Enters, entry_now}

module _ (m : Running) (v : Event) (stamp : ℕ) where
  abbrev entry : Entry
  entry = entry_now m v stamp

  abbrev shared : Shared
  shared = with_entry (shared_of m) entry []

  -- with these operations and globals and frames, and the entry in the journal
  abbrev pub noted : Roomy → Store → Log → Running
  noted q store j = record m { outstanding = q; frames = store; journal = j }

  noted_is : (b : Running) (q : Roomy) (store store' : Store) (j : Log) (os : List Operation) → b ≡ noted q store' j → q.operations ≡ os → store' ≡ store → j.entries ≡ m.journal.entries ++ entry ∷ []
      → flat_of b ≡ record (flat_of m) { shared = shared; store = store; operations = os }
  noted_is b q store store' j os is ops frames entries =
      ap flat_of is ∙ ap (λ es. record (flat_of m) { shared = record (shared_of m) { past = es }; store = store'; operations = q.operations }) entries
      ∙ ap (λ s. record (flat_of m) { shared = shared; store = s; operations = q.operations }) frames ∙ ap (λ l. record (flat_of m) { shared = shared; store = store; operations = l }) ops

  -- its operation has ended, and its thread has its value
  ended_enters : (value : ℤ) (b after : Running) (q : Roomy) (store store' : Store) (j : Log) (os : List Operation) (o : Operation)
      → arrivals.arrives m.journal.entries m.frames m.outstanding.operations v ≡ Some (has_ended_as value store os o)
      → b ≡ noted q store' j → q.operations ≡ os → store' ≡ store → j.entries ≡ m.journal.entries ++ entry ∷ []
      → flat_of after ≡ resumed (flat_of b) (cell.Int value) (Some o.item) → after.ended ≡ b.ended → Keeps b after → Enters m v stamp after
  ended_enters value b after q store store' j os o fits is ops frames entries flat ended kept = record {
    arrival = has_ended_as value store os o;
    fits = fits;
    flat = flat ∙ ap (λ (f : Flat). resumed f (cell.Int value) (Some o.item)) (noted_is b q store store' j os is ops frames entries);
    ended = ended ∙ ap (λ (y : Running). y.ended) is;
    lives = kept.lives ∙ ap (λ (y : Running). y.threads.lives) is;
    same = record {
      code = kept.code ∙ ap (λ (y : Running). y.code.now) is;
      core = kept.core ∙ ap (λ (y : Running). y.core) is;
      bound = kept.bound ∙ ap (λ (y : Running). y.bound) is;
      seats = λ h. kept.seats (subst HasSeats (sym is) h);
    };
  }

  -- an operation goes on waiting
  waiting_enters : (after : Running) (q : Roomy) (j : Log) (os : List Operation) → arrivals.arrives m.journal.entries m.frames m.outstanding.operations v ≡ Some (goes_on_waiting m.frames os)
      → after ≡ noted q m.frames j → q.operations ≡ os → j.entries ≡ m.journal.entries ++ entry ∷ [] → Enters m v stamp after
  waiting_enters after q j os fits is ops entries = record {
    arrival = goes_on_waiting m.frames os;
    fits = fits;
    flat = noted_is after q m.frames m.frames j os is ops refl entries;
    ended = ap (λ (y : Running). y.ended) is;
    lives = ap (λ (y : Running). y.threads.lives) is;
    same = record {
      code = ap (λ (y : Running). y.code.now) is;
      core = ap (λ (y : Running). y.core) is;
      bound = ap (λ (y : Running). y.bound) is;
      seats = λ h. subst HasSeats (sym is) h;
    };
  }

-- ---- an offer

offers_it : (store : Store) (os : List Operation) (link number : ℕ) (p : Payload) (f : Option Operation) → IsSome f → IfSome f (λ (o : Operation). carries o.asked p ≡ true)
    → offers store os link number p f ≡ Some (goes_on_waiting store (change_first (is_to_offer link) (offered_as number) os))
offers_it store os link number p None some e = let no : false ≡ true = some in absurd (cc)
offers_it store os link number p (Some o) some e = ap (λ b. if b then Some (goes_on_waiting store (change_first (is_to_offer link) (offered_as number) os)) else None) e

pub offer_enters : (m after : Running) (q : Roomy) (j : Log) (link number stamp : ℕ) (p : Payload) → number ≡ offers_on link m.journal.entries → IsSome (find
    (is_to_offer link) m.outstanding.operations)
    → IfSome (find (is_to_offer link) m.outstanding.operations) (λ (o : Operation). carries o.asked p ≡ true)
    → after ≡ noted m (event.Offer link number p) stamp q m.frames j → q.operations ≡ change_first (is_to_offer link) (offered_as number) m.outstanding.operations
    → j.entries ≡ m.journal.entries ++ entry_now m (event.Offer link number p) stamp ∷ []
    → Enters m (event.Offer link number p) stamp after
offer_enters m after q j link number stamp p next some sends is ops entries =
    let os = m.outstanding.operations in
    let v = event.Offer link number p in
    let fits : arrivals.arrives m.journal.entries m.frames os v ≡ Some (goes_on_waiting m.frames (change_first (is_to_offer link) (offered_as number) os)) =
    ap (λ (b : Bool). if b then offers m.frames os link number p (find (is_to_offer link) os) else None) (eq-eqb number (offers_on link m.journal.entries) next)
    ∙ offers_it m.frames os link number p (find (is_to_offer link) os) some sends in
    waiting_enters m v stamp after q j (change_first (is_to_offer link) (offered_as number) os) fits is ops entries

-- ---- ends

-- of a request and of another
pub known_begins : (store : Store) (os : List Operation) (link number : ℕ) (f : Option Operation) → IsSome f → IfSome f (λ (o : Operation). is_request o.asked ≡ true)
    → is_known store os link number f ≡ Some (goes_on_waiting store (change_first (is_offered link number) as_begun os))
known_begins store os link number None some e = let no : false ≡ true = some in absurd (cc)
known_begins store os link number (Some o) some e =
    ap (λ b. Some (if b then goes_on_waiting store (change_first (is_offered link number) as_begun os) else has_ended store (without_first (is_offered link number) os) o)) e

known_ends : (store : Store) (os : List Operation) (link number : ℕ) (f : Option Operation) (o : Operation) → f ≡ Some o → IfSome f (λ (p : Operation). is_request p.asked ≡ false)
    → is_known store os link number f ≡ Some (has_ended store (without_first (is_offered link number) os) o)
known_ends store os link number None o is e = let no : None ≡ Some o = is in absurd (cc)
known_ends store os link number (Some p) o is e =
    let same : p ≡ o = cc in
    ap (λ b. Some (if b then goes_on_waiting store (change_first (is_offered link number) as_begun os) else has_ended store (without_first (is_offered link number) os) p)) e
    ∙ ap (λ y. Some (has_ended store (without_first (is_offered link number) os) y)) same

pub begun_enters : (m after : Running) (q : Roomy) (j : Log) (link number stamp : ℕ) → IsSome (find (is_offered link number) m.outstanding.operations)
    → IfSome (find (is_offered link number) m.outstanding.operations) (λ (o : Operation). is_request o.asked ≡ true)
    → after ≡ noted m (event.Know link number) stamp q m.frames j → q.operations ≡ change_first (is_offered link number) as_begun m.outstanding.operations
    → j.entries ≡ m.journal.entries ++ entry_now m (event.Know link number) stamp ∷ [] → Enters m (event.Know link number) stamp after
begun_enters m after q j link number stamp some request is ops entries =
    let os = m.outstanding.operations in
    waiting_enters m (event.Know link number) stamp after q j (change_first (is_offered link number) as_begun os)
    (known_begins m.frames os link number (find (is_offered link number) os) some request) is ops entries

-- whether the operation that stands there is a request
pub is_the_request : (f : Option Operation) (o : Operation) (b : Bool) → f ≡ Some o → is_request o.asked ≡ b → IfSome f (λ (p : Operation). is_request p.asked ≡ b)
is_the_request f o b found is = subst (λ (r : Option Operation). IfSome r (λ (p : Operation). is_request p.asked ≡ b)) (sym found) is

pub know_enters : (m b after : Running) (q : Roomy) (j : Log) (link number stamp : ℕ) (o : Operation) → find (is_offered link number) m.outstanding.operations ≡ Some o
    → IfSome (find (is_offered link number) m.outstanding.operations) (λ (p : Operation). is_request p.asked ≡ false)
    → b ≡ noted m (event.Know link number) stamp q m.frames j → q.operations ≡ without_first (is_offered link number) m.outstanding.operations
    → j.entries ≡ m.journal.entries ++ entry_now m (event.Know link number) stamp ∷ [] → flat_of after ≡ resumed (flat_of b) (cell.Int ok) (Some o.item) → after.ended ≡ b.ended → Keeps b after
    → Enters m (event.Know link number) stamp after
know_enters m b after q j link number stamp o found other is ops entries flat ended kept =
    let os = m.outstanding.operations in
    ended_enters m (event.Know link number) stamp ok b after q m.frames m.frames j (without_first (is_offered link number) os) o
    (known_ends m.frames os link number (find (is_offered link number) os) o found other)
    is ops refl entries flat ended kept

pub got_enters : (m b after : Running) (q : Roomy) (store : Store) (j : Log) (link number stamp : ℕ) (value : List ℤ) (o : Operation) (place : Place)
    → find (is_to_receive link) m.outstanding.operations ≡ Some o → o.asked ≡ asked.Recv place → b ≡ noted m (event.Got link number value) stamp q store j
    → q.operations ≡ without_first (is_to_receive link) m.outstanding.operations → store ≡ with_ints_at m.frames place value
    → j.entries ≡ m.journal.entries ++ entry_now m (event.Got link number value) stamp ∷ [] → flat_of after ≡ resumed (flat_of b) (cell.Int ok) (Some o.item) → after.ended ≡ b.ended
    → Keeps b after
    → Enters m (event.Got link number value) stamp after
got_enters m b after q store j link number stamp value o place found asks is ops frames entries flat ended kept =
    let os = m.outstanding.operations in
    let put : store ≡ with_message m.frames o value = frames ∙ sym (ap (λ a. with_ints_at m.frames (arrivals.place_for a) value) asks) in
    ended_enters m (event.Got link number value) stamp ok b after q (with_message m.frames o value) store j (without_first (is_to_receive link) os) o
    (ap (ends_received m.frames os link value) found) is ops put entries flat ended kept

-- ---- an answer

pub reply_enters : (m b after : Running) (q : Roomy) (store : Store) (j : Log) (link number stamp : ℕ) (answer : Answer) (value : ℤ) (o : Operation)
    → find (is_begun link number) m.outstanding.operations ≡ Some o → value ≡ value_of o.asked answer → b ≡ noted m (event.Reply link number answer) stamp q store j
    → q.operations ≡ without_first (is_begun link number) m.outstanding.operations → store ≡ with_answer m.frames o.asked answer
    → j.entries ≡ m.journal.entries ++ entry_now m (event.Reply link number answer) stamp ∷ [] → flat_of after ≡ resumed (flat_of b) (cell.Int value) (Some o.item) → after.ended ≡ b.ended
    → Keeps b after → Enters m (event.Reply link number answer) stamp after
reply_enters m b after q store j link number stamp answer value o found told is ops frames entries flat ended kept =
    let os = without_first (is_begun link number) m.outstanding.operations in
    let put = with_answer m.frames o.asked answer in
    ended_enters m (event.Reply link number answer) stamp value b after q put store j os o
    (ap (is_answered m.frames m.outstanding.operations link number answer) found ∙ ap (λ v. Some (has_ended_as v put os o)) (sym told)) is ops frames entries flat ended kept

-- ---- an offer that is passed over

passes_it : (store : Store) (os : List Operation) (f : Option Operation) → IsSome f → passes_over store os f ≡ Some (goes_on_waiting store os)
passes_it store os None some = let no : false ≡ true = some in absurd (cc)
passes_it store os (Some o) some = refl

pub pass_enters : (m after : Running) (j : Log) (link number stamp : ℕ) → IsSome (find (is_to_receive link) m.outstanding.operations)
    → after ≡ noted m (event.Pass link number) stamp m.outstanding m.frames j → j.entries ≡ m.journal.entries ++ entry_now m (event.Pass link number) stamp ∷ []
    → Enters m (event.Pass link number) stamp after
pass_enters m after j link number stamp some is entries =
    waiting_enters m (event.Pass link number) stamp after m.outstanding j m.outstanding.operations
    (passes_it m.frames m.outstanding.operations (find (is_to_receive link) m.outstanding.operations) some) is refl entries

-- ---- room that is given back

pub room_enters : (m after : Running) (j : Log) (link number stamp : ℕ) → keeps_room link number m.journal.entries ≡ true
    → after ≡ noted m (event.Room link number) stamp m.outstanding m.frames j → j.entries ≡ m.journal.entries ++ entry_now m (event.Room link number) stamp ∷ []
    → Enters m (event.Room link number) stamp after
room_enters m after j link number stamp keeps is entries =
    waiting_enters m (event.Room link number) stamp after m.outstanding j m.outstanding.operations (ap (gives_room m.frames m.outstanding.operations) keeps) is refl entries
