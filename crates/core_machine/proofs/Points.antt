-- What callers see of a running core at its dispatch points, and of the entries that come in there. For the public calls of `CoreMachine`.
-- Callers see a machine (`machine_of`), whose state is computed from the fields; each lemma carries one fact over that equality, from `Running` to what is seen.
use Rattle.std.proofs.Common.{◌≡◌, ℕ, ◌<◌, ◌≤◌, List, Option, Some, None, IsSome, Ok, Err, Bool, true, false, refl, sym, ap, ◌∙◌, subst, arith}
use Rattle.std.specs.Prelude.{is_none, is_some, find, nat_eq, nat_lt, not, if◌then◌else◌, ◌&&◌, IfSome, OnOk, Result}
use Rattle.std.proofs.lemmas.Bool.{and_parts, eq-eqb, ltb-true}
use Rattle.std.proofs.lemmas.Bool.Decides.{nat_tests}
use Rattle.std.proofs.lemmas.Result.{on_ok_weaker}
use Rattle.ac_base.specs.declared.entry.Event.{Event}
use Rattle.ac_base.specs.declared.entry.Event.TheVariants as event
use Rattle.ac_base.specs.declared.entry.Payload.{Payload}
use Rattle.ac_base.specs.declared.memory.NoMemory.{NoMemory}
use Rattle.work_item.specs.declared.ids.Item.{Item}
use Rattle.cancel_scope.specs.declared.operation.Operation.{Operation}
use Rattle.cancel_scope.specs.Outstanding.{is_outgoing, is_waiting, is_to_offer, carries}
use Rattle.core_state.specs.Moves.{GoesOn, On}
use Rattle.core_state.specs.Cancelling.{Fate, NeverHappens, IsTaken, outcome}
use Rattle.stack_code.specs.Kept.{IsRanked}
use Rattle.code_meaning.specs.Machine.{Flat, exec}
use Rattle.code_safety.specs.Left.{left}
use Rattle.code_safety.proofs.Waiting.{found_at}
use Rattle.replay_laws.specs.Given.{Passes, passes_first}
use Rattle.core_machine.specs.declared.ending.Ending.{Ending}
use Rattle.core_machine.specs.declared.running.Running.{Running}
use Rattle.core_machine.specs.declared.tried.Tried.{Tried}
use Rattle.core_machine.specs.Machine.{Machine, IsSameCore, has_ended, is_idle, is_resting}
use Rattle.core_machine.specs.Points.{HasCome, HasTracks, carried_by, is_at_point, left_at, offer_carries, operations_of, work_left}
use Rattle.core_machine.specs.State.{IsSound, end_or, own_link, flat_of, has_room, machine_of, state_of}
use Rattle.core_machine.specs.Tracks.{Tracks}
use Rattle.core_machine.specs.Tried.{HasDecided, tried_in, tried_of, tried_within}
use Rattle.core_machine.specs.inner.Changes.{Enters, IsSameCode, Stays}
use Rattle.core_machine.specs.inner.Deciding.{Decides}
use Rattle.core_machine.specs.inner.Left.{left_from, left_of}
use Rattle.core_machine.proofs.Decided.{asks_on, decided_journal, decided_less, decided_on, decided_sound}
use Rattle.core_machine.proofs.Sound.{entered_journal, entered_less, entered_on, entered_sound, running, stays_sound, stays_state}

-- ---- the fields of a core at a dispatch point

none_of : (o : Option Item) → is_none o ≡ true → o ≡ None
none_of None h = refl
none_of (Some t) h = let no : false ≡ true = h in absurd (cc)

pub at_point : (m : Running) → is_at_point (state_of m) ≡ true → (m.ended ≡ None) × (m.schedule.running ≡ None)
at_point m h = by m.ended refl h
  where
    by : (o : Option Ending) → m.ended ≡ o → is_at_point (end_or (flat_of m) o) ≡ true → (m.ended ≡ None) × (m.schedule.running ≡ None)
    by None e h = (e, none_of m.schedule.running h)
    by (Some ending) e h = let no : false ≡ true = h in absurd (cc)

pub going_on : (m : Running) → has_ended (state_of m) ≡ false → m.ended ≡ None
going_on m h = by m.ended refl h
  where
    by : (o : Option Ending) → m.ended ≡ o → has_ended (end_or (flat_of m) o) ≡ false → m.ended ≡ None
    by None e h = e
    by (Some ending) e h = let no : true ≡ false = h in absurd (cc)

pub not_resting : (m : Running) → has_ended (state_of m) ≡ false → is_idle (state_of m) ≡ false → is_resting (flat_of m) ≡ false
not_resting m h busy = subst (λ o. is_idle (end_or (flat_of m) o) ≡ false) (going_on m h) busy

pub operations_are : (m : Running) → has_ended (state_of m) ≡ false → operations_of (state_of m) ≡ m.outstanding.operations
operations_are m h = ap (λ o. operations_of (end_or (flat_of m) o)) (going_on m h)

-- one at a dispatch point has not ended
pub point_goes : (m : Running) → is_at_point (state_of m) ≡ true → has_ended (state_of m) ≡ false
point_goes m h = ap (λ o. has_ended (end_or (flat_of m) o)) (at_point m h).0

pub work_is : (ranks : List ℕ) (m : Running) → work_left ranks (machine_of m) ≡ left_of ranks m
work_is ranks m = by m.ended
  where
    by : (o : Option Ending) → left_at ranks m.bound (end_or (flat_of m) o) ≡ left_from o (left ranks m.bound (flat_of m))
    by None = refl
    by (Some ending) = refl

-- ---- room

pub record Roomed (m : Running) : Type 0 where
  pub journal : 0 < m.journal.spare
  pub ready : 0 < m.schedule.spare
  pub settled : m.threads.pending ≡ false

not_true : (b : Bool) → not b ≡ true → b ≡ false
not_true true h = let no : false ≡ true = h in absurd (cc)
not_true false h = refl

pub roomed : (m : Running) → has_room m ≡ true → Roomed m
roomed m h =
    let one = and_parts (nat_lt 0 m.journal.spare) (nat_lt 0 m.schedule.spare && not m.threads.pending) h in
    let two = and_parts (nat_lt 0 m.schedule.spare) (not m.threads.pending) one.1 in
    record { journal = ltb-true 0 m.journal.spare one.0; ready = ltb-true 0 m.schedule.spare two.0; settled = not_true m.threads.pending two.1 }

-- ---- what callers see of it

module _ (m : Running) (old : Machine) (is : machine_of m ≡ old) where
  pub roomed_by : old.room ≡ true → Roomed m
  roomed_by h = roomed m (subst (λ (n : Machine). n.room ≡ true) (sym is) h)

  pub point_by : is_at_point old.state ≡ true → (m.ended ≡ None) × (m.schedule.running ≡ None)
  point_by h = at_point m (subst (λ (n : Machine). is_at_point n.state ≡ true) (sym is) h)

  pub goes_by : has_ended old.state ≡ false → has_ended (state_of m) ≡ false
  goes_by h = subst (λ (n : Machine). has_ended n.state ≡ false) (sym is) h

  pub busy_by : is_idle old.state ≡ false → is_idle (state_of m) ≡ false
  busy_by h = subst (λ (n : Machine). is_idle n.state ≡ false) (sym is) h

  pub operations_there : is_at_point old.state ≡ true → operations_of old.state ≡ m.outstanding.operations
  operations_there h = ap (λ (n : Machine). operations_of n.state) (sym is) ∙ operations_are m (point_goes m (subst (λ (n : Machine). is_at_point n.state ≡ true) (sym is) h))

  pub journal_by : old.journal ≡ m.journal.entries
  journal_by = ap (λ (n : Machine). n.journal) (sym is)

-- ---- what an offer carries

carried : (o : Option Operation) (p : Payload) → carried_by o p ≡ true → IsSome o × IfSome o (λ (x : Operation). carries x.asked p ≡ true)
carried None p h = let no : false ≡ true = h in absurd (cc)
carried (Some x) p h = (refl, h)

pub oldest_carries : (os : List Operation) (link : ℕ) (p : Payload) → offer_carries os link p ≡ true
    → IsSome (find (is_to_offer link) os) × IfSome (find (is_to_offer link) os) (λ (x : Operation). carries x.asked p ≡ true)
oldest_carries os link p h = carried (find (is_to_offer link) os) p h

-- what is to be offered goes out
pub goes_out : (os : List Operation) (link : ℕ) (o : Operation) → find (is_to_offer link) os ≡ Some o → is_outgoing o.asked ≡ true
goes_out os link o found =
    let one = and_parts (nat_eq o.link link) (is_outgoing o.asked && is_waiting o.progress) (found_at (is_to_offer link) os o found).passes in
    (and_parts (is_outgoing o.asked) (is_waiting o.progress) one.1).0

pub some_of : {A : Type 0} (o : Option A) → is_some o ≡ true → IsSome o
some_of o h = h

-- ---- an entry that has come in

module _ (before after : Running) (v : Event) (stamp : ℕ) (old : Machine) (is : machine_of before ≡ old) (sound : IsSound before) (point : is_at_point old.state ≡ true)
    (enters : Enters before v stamp after) where
  here : (before.ended ≡ None) × (before.schedule.running ≡ None)
  here = at_point before (subst (λ (n : Machine). is_at_point n.state ≡ true) (sym is) point)

  pub come_sound : IsSound after
  come_sound = entered_sound before after v stamp here.0 here.1 sound enters

  pub has_come : HasCome old v stamp (machine_of after)
  has_come = subst (λ (n : Machine). HasCome n v stamp (machine_of after)) is (record {
    flat = flat_of before;
    stood = running (flat_of before) before.ended here.0;
    arrival = enters.arrival;
    fits = enters.fits;
    state = running (flat_of after) after.ended (entered_on before after v stamp here.0 here.1 sound enters) ∙ ap (λ f. On f) enters.flat;
    journal = entered_journal before after v stamp here.0 here.1 sound enters;
    code = enters.same.code;
    core = enters.same.core;
    bound = enters.same.bound;
  })

  pub come_less : (ranks : List ℕ) → work_left ranks (machine_of after) ≤ work_left ranks old
  come_less ranks =
      let was : work_left ranks old ≡ left_of ranks before = ap (work_left ranks) (sym is) ∙ work_is ranks before in
      let now = work_is ranks after in
      let less = entered_less before after v stamp here.0 here.1 sound enters ranks in
      omega (arith, was, now, less)

-- ---- the outcome of an offer

module _ (m : Running) (old : Machine) (is : machine_of m ≡ old) where
  pub asks_by : (tried : Tried) → tried_of old.code old.state ≡ Some tried → tried_of m.code.now (state_of m) ≡ Some tried
  asks_by tried h = subst (λ (n : Machine). tried_of n.code n.state ≡ Some tried) (sym is) h

  pub asks_some : (tried : Tried) → tried_of old.code old.state ≡ Some tried → IsSome (tried_of m.code.now (state_of m))
  asks_some tried h = ap is_some (asks_by tried h)

  pub asks_none : tried_of old.code old.state ≡ None → tried_of m.code.now (state_of m) ≡ None
  asks_none h = subst (λ (n : Machine). tried_of n.code n.state ≡ None) (sym is) h

module _ (before after : Running) (tried : Tried) (it : Fate) (v : Event) (stamp : ℕ) (old : Machine) (is : machine_of before ≡ old) (sound : IsSound before)
    (asks : tried_of old.code old.state ≡ Some tried) (outcome_is : outcome tried.link tried.number v ≡ Some it) (decides : Decides before it v stamp after) where
  on : before.ended ≡ None
  on = asks_on before (asks_some before old is tried asks)

  offered : tried_in (Some decides.operation) ≡ Some tried
  offered =
      ap tried_in (sym decides.found) ∙ ap (tried_within (flat_of before)) (sym decides.cancels) ∙ ap (λ o. tried_of before.code.now (end_or (flat_of before) o)) (sym on)
      ∙ asks_by before old is tried asks

  pub decide_sound : IsSound after
  decide_sound = decided_sound before after tried it v stamp on sound decides offered outcome_is

  pub has_decided : HasDecided old tried it v stamp (machine_of after)
  has_decided = subst (λ (n : Machine). HasDecided n tried it v stamp (machine_of after)) is (record {
    flat = flat_of before;
    stood = running (flat_of before) before.ended on;
    block = decides.block;
    cancels = decides.cancels;
    operation = decides.operation;
    found = decides.found;
    offered = offered;
    state = running (flat_of after) after.ended (decided_on before after tried it v stamp on sound decides offered outcome_is) ∙ ap (λ f. On f) decides.makes.flat;
    journal = decided_journal before after tried it v stamp on sound decides offered outcome_is;
    code = decides.makes.same.code;
    core = decides.makes.same.core;
    bound = decides.makes.same.bound;
  })

  pub decide_less : (ranks : List ℕ) → work_left ranks (machine_of after) < work_left ranks old
  decide_less ranks =
      let was : work_left ranks old ≡ left_of ranks before = ap (work_left ranks) (sym is) ∙ work_is ranks before in
      let now = work_is ranks after in
      let less = decided_less before after tried it v stamp on sound decides offered outcome_is ranks in
      omega (arith, was, now, less)

-- its withdrawal, or that it is known, decides an offer
both_same : (link number : ℕ) → (nat_eq link link && nat_eq number number) ≡ true
both_same link number = ap (λ b. b && nat_eq number number) (eq-eqb link link refl) ∙ eq-eqb number number refl

pub withdrawal_decides : (link number : ℕ) → outcome link number (event.Withdraw link number) ≡ Some NeverHappens
withdrawal_decides link number = ap (λ (b : Bool). if b then Some NeverHappens else None) (both_same link number)

pub taking_decides : (link number : ℕ) → outcome link number (event.Know link number) ≡ Some IsTaken
taking_decides link number = ap (λ (b : Bool). if b then Some IsTaken else None) (both_same link number)

-- ---- what it keeps

pub tracks_of : (m : Running) (old : Machine) → machine_of m ≡ old → IsSound m → HasTracks old
tracks_of m old is sound = subst HasTracks is (λ h. subst (Tracks (own_link m) m.journal.entries) (sym (operations_are m h)) (sound.tracks (going_on m h)))

-- ---- where nothing has changed that the code's meaning sees

module _ (before after : Running) (old : Machine) (is : machine_of before ≡ old) (sound : IsSound before) (stays : Stays before after) (same : IsSameCode before after) where
  pub room_sound : IsSound after
  room_sound = stays_sound before after sound stays same

  pub room_same : IsSameCore old (machine_of after)
  room_same = subst (λ (n : Machine). IsSameCore n (machine_of after)) is
      (record { code = same.code; core = same.core; bound = same.bound; journal = ap (λ (f : Flat). f.shared.past) stays.flat })

  pub room_state : state_of after ≡ old.state
  room_state = stays_state before after stays ∙ ap (λ (n : Machine). n.state) is

  pub room_tracks : HasTracks (machine_of after)
  room_tracks = tracks_of after (machine_of after) refl room_sound

-- ---- room is made

lt-ltb : (n : ℕ) → 0 < n → nat_lt 0 n ≡ true
lt-ltb n h = grind (arith, nat_tests, h)

pub makes_room : (m : Running) (r : Result Unit NoMemory) → OnOk r (0 < m.journal.spare) → OnOk r (0 < m.schedule.spare) → OnOk r (m.threads.pending ≡ false) → OnOk r (has_room m ≡ true)
makes_room m (Ok x) journal ready settled = rw (lt-ltb m.journal.spare journal, lt-ltb m.schedule.spare ready, settled) refl
makes_room m (Err e) journal ready settled = journal

-- ---- a turn

module _ (before after : Running) (old : Machine) (is : machine_of before ≡ old) where
  pub turn_goes : GoesOn (exec before.code.now before.bound) (state_of before) (state_of after) → GoesOn (exec old.code old.bound) old.state (state_of after)
  turn_goes h = subst (λ (n : Machine). GoesOn (exec n.code n.bound) n.state (state_of after)) is h

  pub turn_passes : ((turn : ℕ) → passes_first before.code.now turn (state_of before) ≡ true
      → (k : ℕ) × Passes before.code.now before.bound turn k (state_of before) (state_of after))
      → (turn : ℕ) → passes_first old.code turn old.state ≡ true → (k : ℕ) × Passes old.code old.bound turn k old.state (state_of after)
  turn_passes h = subst (λ (n : Machine). (turn : ℕ) → passes_first n.code turn n.state ≡ true → (k : ℕ) × Passes n.code n.bound turn k n.state (state_of after)) is h

  pub turn_same : IsSameCode before after → after.journal.entries ≡ before.journal.entries → IsSameCore old (machine_of after)
  turn_same same journal = subst (λ (n : Machine). IsSameCore n (machine_of after)) is (record { code = same.code; core = same.core; bound = same.bound; journal = journal })

  pub turn_less : (ranks : List ℕ) (r : Result Unit NoMemory) → OnOk r (left_of ranks after < left_of ranks before) → OnOk r (work_left ranks (machine_of after) < work_left ranks old)
  turn_less ranks r h = on_ok_weaker r (λ less.
      let was : work_left ranks old ≡ left_of ranks before = ap (work_left ranks) (sym is) ∙ work_is ranks before in
      let now = work_is ranks after in
      omega (arith, was, now, less)) h

pub turn_ranked : (m : Running) (old : Machine) → machine_of m ≡ old → (ranks : List ℕ) → IsRanked old.code ranks → IsRanked m.code.now ranks
turn_ranked m old is ranks h = subst (λ (n : Machine). IsRanked n.code ranks) (sym is) h
