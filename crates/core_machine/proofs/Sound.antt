-- A core stays where its code can stand, and comes to its end. `IsSound` is the invariant of a machine.
-- After a move its parts hold again: fitness and chains by code_safety, the link of its requests since nothing changes it, offers by Started and Standing, and places by Lived.
-- After an entry likewise. What is left to do falls with each move and does not rise with an entry, so a core that is given turns comes to its end.
use Rattle.std.proofs.Common.{◌≡◌, ℕ, suc, ◌-◌, ◌<◌, ◌≤◌, ◌^◌, List, [], ◌∷◌, ◌++◌, length, Option, Some, None, IsSome, Bool, true, false, refl, sym, ap, ◌∙◌, subst, arith}
use Rattle.std.specs.Prelude.{slice_get, slice_index_or, is_some, nat_eq, nat_lt, not}
use Rattle.std.proofs.lemmas.Bool.{ltb-true}
use Rattle.std.proofs.lemmas.Bool.Decides.{nat_tests}
use Rattle.std.proofs.lemmas.Option.{slice_get_within}
use Rattle.ac_base.specs.declared.entry.Entry.{Entry}
use Rattle.ac_base.specs.declared.entry.Event.{Event}
use Rattle.work_item.specs.declared.ids.Item.{Item}
use Rattle.work_item.specs.declared.cell.Cell.{Cell}
use Rattle.work_item.specs.declared.cell.Cell.TheVariants as cell
use Rattle.core_state.specs.Moves.{Move, On, GoesOn}
use Rattle.core_state.specs.Shared.{Shared, request_link, with_entry}
use Rattle.core_state.proofs.Runs.{GoesOn-none, GoesOn-more}
use Rattle.stack_code.specs.declared.instr.Instr.{Instr}
use Rattle.stack_code.specs.declared.instr.Instr.TheVariants as i
use Rattle.stack_code.specs.declared.shape.Shape.{Shape}
use Rattle.stack_code.specs.declared.parts.Entered.{Entered}
use Rattle.stack_code.specs.Parts.{Parts, Begins}
use Rattle.stack_code.specs.Shapes.{channels_of, effect}
use Rattle.stack_code.specs.Valid.{Fits, IsValid}
use Rattle.stack_code.specs.Kept.{IsRanked}
use Rattle.code_safety.specs.Left.{left, left_to_come}
use Rattle.code_safety.specs.Fit.{IsFit}
use Rattle.code_safety.specs.Chains.{AreChained}
use Rattle.code_safety.specs.Living.{LivesAs}
use Rattle.code_meaning.specs.Machine.{Flat, FlatEnd, arrived, begin, exec, exec_of, first_flat, resumed}
use Rattle.code_safety.proofs.ArrivalChains.{comes_chained}
use Rattle.code_safety.proofs.ArrivalWeights.{arrived_falls}
use Rattle.code_safety.proofs.Arriving.{Comes, arrived_fit, comes_of}
use Rattle.code_safety.proofs.Journal.{run_arrives}
use Rattle.code_safety.proofs.Plain.{Onward}
use Rattle.code_safety.proofs.Own.{thread_of}
use Rattle.code_safety.proofs.Moving.{moves_on}
use Rattle.code_safety.proofs.NoDangling.{chained_on, names_living}
use Rattle.code_safety.proofs.Taken.{if_is}
use Rattle.core_machine.specs.declared.ending.Ending.{Ending}
use Rattle.core_machine.specs.declared.running.Running.{Running}
use Rattle.core_machine.specs.inner.Needs.{Finds}
use Rattle.core_machine.specs.Machine.{Machine, IsOnItsWay}
use Rattle.core_machine.specs.State.{shared_of, flat_of, end_or, own_link, state_of, machine_of, HavePlaces, IsSound}
use Rattle.core_machine.specs.Tracks.{Tracks}
use Rattle.core_machine.specs.Tried.{cancelled_by, cancelled_at, tried_within, tried_of}
use Rattle.core_machine.specs.inner.Left.{left_from, left_of}
use Rattle.core_machine.specs.inner.Changes.{IsSameCode, KeepsCode, Keeps, Does, Places, PlacesAfter, Stays, Enters, entry_now, item_of, at_address}
use Rattle.core_machine.proofs.Found.{finds}
use Rattle.core_machine.proofs.Lived.{AllLived, AllPlaced, comes_lived, placed, rest_lived}
use Rattle.core_machine.proofs.Standing.{tracks_entered}
use Rattle.core_machine.proofs.Started.{IsAtItsLink, StartsTo, exec_starts, tracks_started}

-- ---- where the code can stand

module _ (code : Parts) (bound : ℕ) (m : Flat) (fit : IsFit code m) (v : IsValid code) (t : Item) (run : m.running ≡ Some t) where
  fits_there : Fits code m.current.place (thread_of code m fit t run).shape
  fits_there = let h = thread_of code m fit t run in v.shaped.fits m.current.place h.shape h.top.reached

  pub within : m.current.place < length code.instrs
  within = slice_get_within code.instrs m.current.place fits_there.instr fits_there.here

  pub inside : m.current.place < 2 ^ 32
  inside = omega (arith, within, v.lists.few)

  effect_there : (instr : Instr) → slice_get code.instrs m.current.place ≡ Some instr → effect code m.current.place instr (thread_of code m fit t run).shape ≡ Some fits_there.leads
  effect_there instr here =
      let h = thread_of code m fit t run in
      let same : fits_there.instr ≡ instr = let both : Some fits_there.instr ≡ Some instr = sym fits_there.here ∙ here in cc in
      subst (λ x. effect code m.current.place x h.shape ≡ Some fits_there.leads) same fits_there.finds

  pub finds_there : AreChained code m → (instr : Instr) → slice_get code.instrs m.current.place ≡ Some instr → Finds code m instr
  finds_there chained instr here = finds code bound m fit t run v (names_living code m fit chained) instr fits_there.leads here (effect_there instr here)

  -- it sends and receives on channels alone, which come before the link of requests
  at_its_link : (core : ℕ) → m.shared.requests ≡ request_link (length code.ends) core → (instr : Instr) → slice_get code.instrs m.current.place ≡ Some instr
      → IsAtItsLink m.shared.requests instr
  at_its_link core own instr here = by instr (effect_there instr here)
    where
      s : Shape
      s = (thread_of code m fit t run).shape

      no_channel : (channel : ℕ) → nat_lt channel (channels_of code) ≡ true → nat_eq channel m.shared.requests ≡ false
      no_channel channel low =
          let lt : channel < length code.capacities - length code.entries = ltb-true channel (channels_of code) low in
          let all = v.lists.links.each in
          let differ : channel ≡ m.shared.requests → ⊥ = λ e. absurd (omega (arith, lt, all, own, e)) in
          grind (arith, nat_tests, differ)

      by : (x : Instr) → effect code m.current.place x s ≡ Some fits_there.leads → IsAtItsLink m.shared.requests x
      by (i.Send channel) e = no_channel channel (if_is (nat_lt channel (channels_of code)) _ fits_there.leads e).0
      by (i.Recv channel) e = no_channel channel (if_is (nat_lt channel (channels_of code)) _ fits_there.leads e).0
      by (i.Read file) e = (if_is (nat_lt file 16) _ fits_there.leads e).0
      by (i.Write file) e = (if_is (nat_lt file 16) _ fits_there.leads e).0
      by x e = tt

-- ---- a turn of a core

pub running : (m : Flat) (o : Option Ending) → o ≡ None → end_or m o ≡ On m
running m o e = ap (end_or m) e

-- the machine has come to a state to which its code comes
pub on_its_way : (n : Machine) (code : Parts) (core bound : ℕ) (journal : List Entry) (state : Move Flat FlatEnd) (function : Entered) → n.code ≡ code → n.core ≡ core → n.bound ≡ bound
    → n.journal ≡ journal → n.state ≡ state → Begins code core function → GoesOn (exec code bound) (first_flat code core function journal) state → IsOnItsWay n
on_its_way n code core bound journal state function c k d j s b g = record { function = function; begins = rw (c, k) b; goes = rw (c, k, d, j, s) g }

-- the link of a core's requests stays
pub own_stays : (before after : Running) → IsSameCode before after → own_link after ≡ own_link before
own_stays before after same = ap (λ (code : Parts). request_link (length code.ends) after.core) same.code ∙ ap (request_link (length before.code.now.ends)) same.core

-- those that live have lived before, and no place was taken away
pub still_placed : (before after : Running) → HavePlaces before → AllLived (flat_of before) (flat_of after) → after.threads.lives ≡ before.threads.lives → HavePlaces after
still_placed before after places lived same u h l =
    let k = lived u h l in
    subst (λ (lives : List Bool). slice_index_or lives u.number false ≡ true) (sym same) (places u k.0 k.1)

-- where nothing has changed that the code's meaning sees
pub stays_sound : (before after : Running) → IsSound before → Stays before after → IsSameCode before after → IsSound after
stays_sound before after sound stays same =
    let was : after.ended ≡ None → before.ended ≡ None = λ e. sym stays.ended ∙ e in
    let journal : after.journal.entries ≡ before.journal.entries = ap (λ (f : Flat). f.shared.past) stays.flat in
    let operations : after.outstanding.operations ≡ before.outstanding.operations = ap (λ (f : Flat). f.operations) stays.flat in
    let state : state_of after ≡ state_of before = ap (λ f. end_or f after.ended) stays.flat ∙ ap (end_or (flat_of before)) stays.ended in
    let r = sound.ran in
    record {
      fit = λ e. subst (λ code. IsFit code (flat_of after)) (sym same.code) (subst (IsFit before.code.now) (sym stays.flat) (sound.fit (was e)));
      chained = λ e. subst (λ code. AreChained code (flat_of after)) (sym same.code) (subst (AreChained before.code.now) (sym stays.flat) (sound.chained (was e)));
      requests = λ e. ap (λ (f : Flat). f.shared.requests) stays.flat ∙ sound.requests (was e) ∙ sym (own_stays before after same);
      tracks = λ e. subst (λ link. Tracks link after.journal.entries after.outstanding.operations) (sym (own_stays before after same))
          (subst (λ past. Tracks (own_link before) past after.outstanding.operations) (sym journal)
          (subst (Tracks (own_link before) before.journal.entries) (sym operations) (sound.tracks (was e))));
      places = λ e. still_placed before after (sound.places (was e)) (λ u h l. (h, subst (λ f. LivesAs f u h) stays.flat l)) stays.lives;
      seats = same.seats sound.seats;
      valid = subst IsValid (sym same.code) sound.valid;
      ran = on_its_way (machine_of after) before.code.now before.core before.bound before.journal.entries (state_of before) r.function
          same.code same.core same.bound journal state r.begins r.goes;
    }

pub code_of : (before after : Running) → KeepsCode before after → IsSameCode before after
code_of before after k = record { code = k.code; core = k.core; bound = k.bound; seats = k.seats }

-- ---- a move

module _ (before after : Running) (still : before.ended ≡ None) (sound : IsSound before) (keeps : KeepsCode before after)
    (moved : exec before.code.now before.bound (flat_of before) ≡ state_of after) where
  abbrev fit : IsFit before.code.now (flat_of before)
  fit = sound.fit still

  leads_on : after.ended ≡ None → exec before.code.now before.bound (flat_of before) ≡ On (flat_of after)
  leads_on e = moved ∙ running (flat_of after) after.ended e

  -- a move leads to a fit state in which less is left to do
  better : (ranks : List ℕ) → IsRanked before.code.now ranks → after.ended ≡ None
      → IsFit before.code.now (flat_of after) × (left ranks before.bound (flat_of after) < left ranks before.bound (flat_of before))
  better ranks r e =
      let b = before.bound in
      let on = subst (Onward (λ n. IsFit before.code.now n × (left_to_come ranks b n < left_to_come ranks b (flat_of before)))) (leads_on e)
      (moves_on before.code.now b sound.valid ranks r (flat_of before) fit) in
      let less = on.1 in
      (on.0, omega (arith, less))

  still_chained : after.ended ≡ None → AreChained before.code.now (flat_of after)
  still_chained e = subst (Onward (AreChained before.code.now)) (leads_on e)
      (chained_on before.code.now before.bound (flat_of before) sound.valid fit (sound.chained still))

  starts : after.ended ≡ None → StartsTo (flat_of before) (flat_of after)
  starts e = subst (Onward (StartsTo (flat_of before))) (leads_on e) (exec_starts (flat_of before) before.code.now before.bound refl
      (λ t instr run here. at_its_link before.code.now before.bound (flat_of before) fit sound.valid t run before.core (sound.requests still) instr here))

  own_kept : own_link after ≡ own_link before
  own_kept = own_stays before after (code_of before after keeps)

  still_requests : after.ended ≡ None → after.requests ≡ own_link after
  still_requests e = (starts e).1 ∙ sound.requests still ∙ sym own_kept

  still_tracks : after.ended ≡ None → Tracks (own_link after) after.journal.entries after.outstanding.operations
  still_tracks e =
      let at = subst (λ link. Tracks link before.journal.entries before.outstanding.operations) (sym (sound.requests still)) (sound.tracks still) in
      let on = tracks_started before.requests before.journal.entries before.outstanding.operations after.outstanding.operations at (starts e).0 in
      subst (λ link. Tracks link after.journal.entries after.outstanding.operations) (sound.requests still ∙ sym own_kept)
      (subst (λ past. Tracks before.requests past after.outstanding.operations) (sym keeps.journal) on)

  -- one instruction, or a dispatch
  pub instr_placed : (t : Item) (instr : Instr) → before.schedule.running ≡ Some t → slice_get before.code.now.instrs before.place ≡ Some instr → Places before instr after
      → after.ended ≡ None → HavePlaces after
  instr_placed t instr run here given e =
      let begun : exec before.code.now before.bound (flat_of before) ≡ begin before.code.now before.bound (flat_of before) t (Some instr) =
      ap (exec_of before.code.now before.bound (flat_of before)) run ∙ ap (begin before.code.now before.bound (flat_of before) t) here in
      let fits = fits_there before.code.now before.bound (flat_of before) fit sound.valid t run in
      let its : PlacesAfter instr t before.threads after.threads = subst (λ o. PlacesAfter instr (item_of o) before.threads after.threads) run (given e) in
      subst (Onward (λ n. AllPlaced n after.threads)) (sym begun ∙ leads_on e)
      (placed before.code.now before.bound (flat_of before) fit sound.valid refl t run before.threads after.threads refl (sound.places still) instr fits.leads here
      (effect_there before.code.now before.bound (flat_of before) fit sound.valid t run instr here) its)

  pub next_placed : before.schedule.running ≡ None → after.threads.lives ≡ before.threads.lives → after.ended ≡ None → HavePlaces after
  next_placed idle same e = still_placed before after (sound.places still)
      (subst (Onward (AllLived (flat_of before))) (leads_on e) (rest_lived before.code.now before.bound (flat_of before) refl idle)) same

  pub still_sound : (ranks : List ℕ) → IsRanked before.code.now ranks → (after.ended ≡ None → HavePlaces after) → IsSound after
  still_sound ranks r places = record {
    fit = λ e. subst (λ code. IsFit code (flat_of after)) (sym keeps.code) (better ranks r e).0;
    chained = λ e. subst (λ code. AreChained code (flat_of after)) (sym keeps.code) (still_chained e);
    requests = still_requests;
    tracks = still_tracks;
    places = places;
    seats = keeps.seats sound.seats;
    valid = subst IsValid (sym keeps.code) sound.valid;
    ran = on_its_way (machine_of after) before.code.now before.core before.bound before.journal.entries (exec before.code.now before.bound (flat_of before)) sound.ran.function
        keeps.code keeps.core keeps.bound keeps.journal (sym moved) sound.ran.begins
        (GoesOn-more (exec before.code.now before.bound) (first_flat before.code.now before.core sound.ran.function before.journal.entries) (flat_of before)
        (subst (GoesOn (exec before.code.now before.bound) (first_flat before.code.now before.core sound.ran.function before.journal.entries)) (running
        (flat_of before) before.ended still) sound.ran.goes));
  }

  less_left : (ranks : List ℕ) → IsRanked before.code.now ranks → (o : Option Ending) → after.ended ≡ o
      → left_from o (left ranks after.bound (flat_of after)) < suc (left ranks before.bound (flat_of before))
  less_left ranks r None e =
      let less = (better ranks r e).1 in
      let same : left ranks after.bound (flat_of after) ≡ left ranks before.bound (flat_of after) = ap (λ bound. left ranks bound (flat_of after)) keeps.bound in
      omega (arith, less, same)
  less_left ranks r (Some ending) e = omega arith

  pub less : (ranks : List ℕ) → IsRanked before.code.now ranks → left_of ranks after < left_of ranks before
  less ranks r = rw still (less_left ranks r after.ended refl)

-- ---- whether an outcome is asked for

pub asks_at : (m : Running) (t : Item) (instr : Instr) → m.ended ≡ None → m.schedule.running ≡ Some t → slice_get m.code.now.instrs m.place ≡ Some instr
    → tried_of m.code.now (state_of m) ≡ tried_within (flat_of m) (cancelled_by (flat_of m) (Some instr))
asks_at m t instr still run here =
    ap (λ o. tried_of m.code.now (end_or (flat_of m) o)) still ∙ ap (λ o. tried_within (flat_of m) (cancelled_at m.code.now (flat_of m) o)) run
    ∙ ap (λ o. tried_within (flat_of m) (cancelled_by (flat_of m) o)) here

-- ---- an entry

pub resumed_shared : (m : Flat) (v : Cell) (o : Option Item) → (resumed m v o).shared ≡ m.shared
resumed_shared m v None = refl
resumed_shared m v (Some t) = refl

pub resumed_operations : (m : Flat) (v : Cell) (o : Option Item) → (resumed m v o).operations ≡ m.operations
resumed_operations m v None = refl
resumed_operations m v (Some t) = refl

module _ (before after : Running) (event : Event) (stamp : ℕ) (still : before.ended ≡ None) (idle : before.schedule.running ≡ None) (sound : IsSound before) (h : Enters before event stamp after) where
  abbrev entry : Entry
  entry = entry_now before event stamp

  abbrev shared : Shared
  shared = with_entry (shared_of before) entry []

  abbrev code : Parts
  code = before.code.now

  came : Comes before.frames before.outstanding.operations h.arrival
  came = comes_of before.frames before.outstanding.operations h.arrival before.journal.entries event h.fits

  pub entered_journal : after.journal.entries ≡ before.journal.entries ++ entry ∷ []
  entered_journal = ap (λ (f : Flat). f.shared.past) h.flat ∙ ap (λ (s : Shared). s.past)
      (resumed_shared (record (flat_of before) { shared = shared; store = h.arrival.store; operations = h.arrival.operations }) (cell.Int h.arrival.value) h.arrival.woken)

  entered_operations : after.outstanding.operations ≡ h.arrival.operations
  entered_operations = ap (λ (f : Flat). f.operations) h.flat
      ∙ resumed_operations (record (flat_of before) { shared = shared; store = h.arrival.store; operations = h.arrival.operations }) (cell.Int h.arrival.value) h.arrival.woken

  pub entered_on : after.ended ≡ None
  entered_on = h.ended ∙ still

  entered_fit : IsFit code (flat_of after)
  entered_fit = subst (IsFit code) (sym h.flat) (arrived_fit code (flat_of before) (sound.fit still) sound.valid.one_use shared h.arrival came)

  entered_chained : AreChained code (flat_of after)
  entered_chained = subst (AreChained code) (sym h.flat) (comes_chained code (flat_of before) (sound.fit still) (sound.chained still) shared h.arrival came)

  entered_requests : after.requests ≡ before.requests
  entered_requests = ap (λ (f : Flat). f.shared.requests) h.flat ∙ ap (λ (s : Shared). s.requests)
      (resumed_shared (record (flat_of before) { shared = shared; store = h.arrival.store; operations = h.arrival.operations }) (cell.Int h.arrival.value) h.arrival.woken)

  entered_own : own_link after ≡ own_link before
  entered_own = own_stays before after h.same

  entered_tracks : Tracks (own_link after) after.journal.entries after.outstanding.operations
  entered_tracks =
      let tracks = tracks_entered (own_link before) before.journal.entries before.outstanding.operations (sound.tracks still) entry before.frames h.arrival event refl h.fits in
      subst (λ link. Tracks link after.journal.entries after.outstanding.operations) (sym entered_own)
      (subst (λ past. Tracks (own_link before) past after.outstanding.operations) (sym entered_journal)
      (subst (Tracks (own_link before) (before.journal.entries ++ entry ∷ [])) (sym entered_operations) tracks))

  pub entered_sound : IsSound after
  entered_sound =
      let r = sound.ran in
      let run = subst (GoesOn (exec code before.bound) (first_flat code before.core r.function before.journal.entries)) (running (flat_of before) before.ended still) r.goes in
      let comes = run_arrives code before.bound entry before.core r.function before.journal.entries (flat_of before) run h.arrival idle refl refl h.fits in
      record {
        fit = λ e. subst (λ c. IsFit c (flat_of after)) (sym h.same.code) entered_fit;
        chained = λ e. subst (λ c. AreChained c (flat_of after)) (sym h.same.code) entered_chained;
        requests = λ e. entered_requests ∙ sound.requests still ∙ sym entered_own;
        tracks = λ e. entered_tracks;
        places = λ e. still_placed before after (sound.places still) (subst (AllLived (flat_of before)) (sym h.flat) (comes_lived (flat_of before) shared h.arrival came)) h.lives;
        seats = h.same.seats sound.seats;
        valid = subst IsValid (sym h.same.code) sound.valid;
        ran = on_its_way (machine_of after) code before.core before.bound (before.journal.entries ++ entry ∷ []) (On (arrived (flat_of before) shared h.arrival)) r.function
            h.same.code h.same.core h.same.bound entered_journal (running (flat_of after) after.ended entered_on ∙ ap (λ f. On f) h.flat) r.begins comes;
      }

  -- no more is left to do
  pub entered_less : (ranks : List ℕ) → left_of ranks after ≤ left_of ranks before
  entered_less ranks =
      let falls = arrived_falls code before.bound (flat_of before) (sound.fit still) ranks shared refl h.arrival came in
      let now : left ranks after.bound (flat_of after) ≡ left ranks before.bound (arrived (flat_of before) shared h.arrival) =
      ap (λ bound. left ranks bound (flat_of after)) h.same.bound ∙ ap (left ranks before.bound) h.flat in
      let was : left_of ranks before ≡ suc (left ranks before.bound (flat_of before)) = ap (λ o. left_from o (left ranks before.bound (flat_of before))) still in
      let is : left_of ranks after ≡ suc (left ranks after.bound (flat_of after)) = ap (λ o. left_from o (left ranks after.bound (flat_of after))) entered_on in
      omega (arith, falls, now, was, is)

-- an instruction is a move
pub moved_by : (before after : Running) (t : Item) (instr : Instr) → before.schedule.running ≡ Some t → slice_get before.code.now.instrs before.place ≡ Some instr → Does before instr after
    → exec before.code.now before.bound (flat_of before) ≡ state_of after
moved_by before after t instr run here does =
    ap (exec_of before.code.now before.bound (flat_of before)) run ∙ ap (begin before.code.now before.bound (flat_of before) t) here
    ∙ sym (does ∙ ap (λ o. begin before.code.now before.bound (flat_of before) (item_of o) (Some instr)) run)

-- ---- several turns

pub keeps_on : (a b c : Running) → KeepsCode a b → KeepsCode b c → KeepsCode a c
keeps_on a b c k l = record { code = l.code ∙ k.code; core = l.core ∙ k.core; bound = l.bound ∙ k.bound; journal = l.journal ∙ k.journal; seats = λ h. l.seats (k.seats h) }

-- the address of the running thread is none of them
pub keeps_to : (a b : Running) (to : ℕ) → KeepsCode a b → KeepsCode a (at_address b to)
keeps_to a b to k = record { code = k.code; core = k.core; bound = k.bound; journal = k.journal; seats = k.seats }

pub keeps_at : (a b : Running) (from to : ℕ) → KeepsCode a b → KeepsCode (at_address a from) (at_address b to)
keeps_at a b from to k = record { code = k.code; core = k.core; bound = k.bound; journal = k.journal; seats = k.seats }

-- where places stay too
pub keeps_code : (a b : Running) → Keeps a b → KeepsCode a b
keeps_code a b k = record { code = k.code; core = k.core; bound = k.bound; journal = k.journal; seats = k.seats }

-- the state of a core and of the address held apart, each of which is known
pub passed_on : (m n : Running) (a b : ℕ) → m ≡ n → a ≡ b → state_of (at_address m a) ≡ state_of (at_address n b)
passed_on m n a b e f = ap (λ x. state_of (at_address x a)) e ∙ ap (λ x. state_of (at_address n x)) f

-- one turn more of the same code
pub goes_on : (a b c : Running) → IsSameCode a b → b.ended ≡ None → GoesOn (exec a.code.now a.bound) (state_of a) (state_of b) → state_of c ≡ exec b.code.now b.bound (flat_of b)
    → GoesOn (exec a.code.now a.bound) (state_of a) (state_of c)
goes_on a b c k still g e =
    let same : state_of c ≡ exec a.code.now a.bound (flat_of b) = e ∙ ap (λ code. exec code b.bound (flat_of b)) k.code ∙ ap (λ n. exec a.code.now n (flat_of b)) k.bound in
    subst (GoesOn (exec a.code.now a.bound) (state_of a)) (sym same)
    (GoesOn-more (exec a.code.now a.bound) (state_of a) (flat_of b) (subst (GoesOn (exec a.code.now a.bound) (state_of a)) (running (flat_of b) b.ended still) g))

-- none
pub stays_there : (a b : Running) → state_of b ≡ state_of a → GoesOn (exec a.code.now a.bound) (state_of a) (state_of b)
stays_there a b e = subst (GoesOn (exec a.code.now a.bound) (state_of a)) (sym e) (GoesOn-none (exec a.code.now a.bound) (state_of a))

-- ---- whether a thread runs

pub is_item : (o : Option Item) → IsSome o → (t : Item) × (o ≡ Some t)
is_item None h = let no : false ≡ true = h in absurd (cc)
is_item (Some t) h = (t, refl)

pub none_item : (o : Option Item) (b : Bool) → b ≡ true → is_some o ≡ not b → o ≡ None
none_item None b e h = refl
none_item (Some t) b e h = let no : true ≡ false = h ∙ ap not e in absurd (cc)

-- ---- nothing that the code's meaning sees

pub stays_state : (before after : Running) → Stays before after → state_of after ≡ state_of before
stays_state before after stays = ap (λ f. end_or f after.ended) stays.flat ∙ ap (end_or (flat_of before)) stays.ended

pub stays_left : (before after : Running) → Stays before after → IsSameCode before after → (ranks : List ℕ) → left_of ranks after ≡ left_of ranks before
stays_left before after stays same ranks =
    ap (λ o. left_from o (left ranks after.bound (flat_of after))) stays.ended ∙ ap (λ bound. left_from before.ended (left ranks bound (flat_of after))) same.bound
    ∙ ap (λ f. left_from before.ended (left ranks before.bound f)) stays.flat
