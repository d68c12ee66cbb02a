-- A core and the machine that follows it, from their beginning on.
-- One move of the core by its kind: the running thread's next step (Steps, with `Turns` given by the files on blocks, threads and
-- operations), a dispatch, or an entry that comes in. Where the source stays where it is for ever, so does the machine (`stuck`).
use Rattle.std.proofs.Common.{◌≡◌, ◌≢◌, ℕ, zero, suc, ◌-◌, ◌^◌, List, [], ◌∷◌, ◌++◌, set, Option, Some, None, Bool, true, false, refl, sym, ap, ◌∙◌, subst, arith}
use Rattle.std.specs.Prelude.{ℤ, nat_lt, nat_eq, Result, Ok, Err, if◌then◌else◌}
use Rattle.std.specs.List.{sum_by}
use Rattle.std.proofs.lemmas.List.{set-get_or, get_or-set_other, length-set}
use Rattle.ac_base.specs.declared.ends.Trap.{Trap}
use Rattle.ac_base.specs.declared.ends.CoreEnd.{CoreEnd}
use Rattle.ac_base.specs.declared.ends.EndWord.TheVariants.{OutOfSteps, Stalled}
use Rattle.work_item.specs.declared.ids.Item.{Item}
use Rattle.work_item.specs.declared.ids.BlockId.{BlockId}
use Rattle.work_item.specs.Store.{Store}
use Rattle.core_state.specs.Moves.{Move, On, Over}
use Rattle.core_state.specs.Frames.{first_frame}
use Rattle.ac_base.specs.declared.entry.Entry.{Entry}
use Rattle.core_state.specs.Shared.{Shared, with_entry, begins_with}
use Rattle.core_state.specs.Arrivals.{Arrival, arrives, at_point}
use Rattle.core_state.proofs.Simulation.{one as one_move, over_at, Follows, follows_on, follows_over}
use Rattle.core_state.proofs.Beginnings.{BothBegin, begin_on, begin_over}
use Rattle.ac_commands.specs.declared.program.Function.{Function}
use Rattle.ac_commands.specs.declared.program.Resolved.{Resolved}
use Rattle.ac_semantics.specs.Held.{Held, turned, seen_of}
use Rattle.ac_semantics.specs.Work.{Work, Leave, before, closes}
use Rattle.ac_semantics.specs.Statements.{next_of}
use Rattle.ac_semantics.specs.Threads.{applied, Phase, Active, AtFinish, Ended, Thread, nobody, CoreState, thread_at, arrived, dispatched, step, first_item, first_core}
use Rattle.stack_code.specs.declared.parts.Entered.{Entered}
use Rattle.stack_code.specs.Parts.{Parts}
use Rattle.code_meaning.specs.Machine.{Block, Flat, FlatEnd, Thread as Stack, nobody as no_stack}
use Rattle.code_meaning.specs.Machine.{thread_at as stack_of, told, arrived as arrives_there, dispatched as dispatched_there, exec, first_core as first_machine}
use Rattle.ac_translation.proofs.WellFormed.{IsWellFormed}
use Rattle.ac_translation.proofs.Functions.{IsCodeOf}
use Rattle.ac_translation.proofs.Tables.{total_one, one_same, one_other}
use Rattle.ac_translation.proofs.Blocks.{among, Lives, held, at, OwnerOf, Falls, path_of, Waits, held_at}
use Rattle.ac_translation.proofs.Tracks.{Tracks}
use Rattle.ac_translation.proofs.Wakes.{is_active, active as is_counted, asked_by, Listed}
use Rattle.ac_translation.proofs.Keeps.{Activation, flat, Answers, moves, sticks}
use Rattle.ac_translation.proofs.Works.{Works, works_closes}
use Rattle.ac_translation.proofs.Turns.{Turns}
use Rattle.ac_translation.proofs.Steps.{next_follows}
use Rattle.ac_translation.proofs.Standing.{running, around_of, resting, halted, seated, stack_at, Others, Parked, Together, Stands, rests, runs, Seat, seat_of, stands_on}
use Rattle.ac_translation.proofs.Starting.{enters_follow, starts_follow, yields_follow}
use Rattle.ac_translation.proofs.Finishing.{arrives_follow}
use Rattle.ac_translation.proofs.Ending.{dies_follow}
use Rattle.ac_translation.proofs.Operating.{waits_follow}
use Rattle.ac_translation.proofs.Cancelling.{cancels_follow}
use Rattle.ac_translation.proofs.Arriving.{arrival_balance, arrival_stands}

module _ (code : Parts) (program : Resolved) (bound : ℕ) where
  -- the machine stands where the core stands, or neither ever comes to another state
  pub data Accords : CoreState → Flat → Type 0 where
    together : {c : CoreState} {m : Flat} → Stands code.instrs c m → Accords c m
    stuck : {c : CoreState} {m : Flat} → step program bound c ≡ On c → exec code bound m ≡ On m → Accords c m

module _ (code : Parts) (program : Resolved) (same : IsCodeOf code program) (fine : IsWellFormed program) (bound : ℕ) where
  abbrev R : CoreState → Flat → Type 0
  R = Stands code.instrs

  abbrev FollowsTo : Flat → Move CoreState (Option CoreEnd) → Type 0
  FollowsTo m next = Follows (exec code bound) (Accords code program bound) (λ x. x.core) m next

  accords : (m : Flat) (next : Move CoreState (Option CoreEnd)) → Follows (exec code bound) R (λ x. x.core) m next → FollowsTo m next
  accords m _ (follows_on d l r) = follows_on d l (together r)
  accords m _ (follows_over x h e) = follows_over x h e

  -- ---- a thread runs

  turns : (s : Held) (t : Item) (ws : List Work) (ready : List Item) (ts : List Thread) (activation : Activation) (stacks : List Stack) (bs : List (Option Block)) → Seat ts t ws activation →
      Together code.instrs (seated ts t ws) s.marks s.operations ready (Some t) stacks bs →
      Turns code bound R (around_of t activation ready stacks bs) (running s t ws ready ts)
  turns s t ws ready ts activation stacks bs x h = record {
    enters = enters_follow code bound s t ws ready ts activation stacks bs x h;
    arrives = arrives_follow code bound s t ws ready ts activation stacks bs x h;
    starts = starts_follow code bound s t ws ready ts activation stacks bs x h;
    yields = yields_follow code bound s t ws ready ts activation stacks bs x h;
    waits = waits_follow code bound s t ws ready ts activation stacks bs x h;
    cancels = cancels_follow code bound s t ws ready ts activation stacks bs x h;
    dies = dies_follow code bound s t ws ready ts activation stacks bs x h;
  }

  -- ---- none runs

  -- the front of the ready list is dispatched
  dispatched_stands : (s : Held) (t : Item) (ready : List Item) (ts : List Thread) (stacks : List Stack) (bs : List (Option Block)) (count : ℕ) →
      Together code.instrs ts s.marks s.operations (t ∷ ready) None stacks bs →
      R (running (turned s) t (thread_at ts t).work ready ts) (record (halted (turned s) ready (set stacks t.number no_stack) bs count) { running = Some t; current = stack_of stacks t })
  dispatched_stands s t ready ts stacks bs count h =
      let active : (thread_at ts t).phase ≡ Active = is_active (thread_at ts t).phase (let k = h.listed t.number in let o = one_same t.number in omega (arith, k, o)) in
      let none : asked_by t.number s.operations ≡ 0 = (let k = h.listed t.number in let o = one_same t.number in let a = ap is_counted active in omega (arith, k, o, a)) in
      let p = subst (λ n. Parked code.instrs n (at ts t.number) (stack_at stacks t.number)) none (h.others t.number tt (subst Lives (sym active) tt)) in
      let is : seated ts t (thread_at ts t).work ≡ ts = ap (λ (z : Phase). set ts t.number (record (thread_at ts t) { phase = z })) (sym active) ∙ set-get_or ts t.number _ in
      let left = set stacks t.number no_stack in
      let together : Together code.instrs ts s.marks s.operations ready (Some t) left bs = record {
        stacks_are = length-set stacks t.number no_stack ∙ h.stacks_are;
        blocks_are = h.blocks_are;
        good = h.good;
        waits = h.waits;
        listed = λ u. let k = h.listed u in omega (arith, k);
        tracks = h.tracks;
        others = λ u ne l. subst (Parked code.instrs (asked_by u s.operations) (at ts u)) (sym (get_or-set_other stacks t.number u no_stack no_stack (λ e. ne (sym e)))) (h.others u tt l);
      } in
      subst (λ y. R (running (turned s) t (thread_at ts t).work ready ts) (record (halted (turned s) ready left bs count) { running = Some t; current = y })) (sym p.is)
      (runs (turned s) t (thread_at ts t).work ready ts p.activation p.place p.operands left bs count active p.around
      (subst (λ z. Together code.instrs z s.marks s.operations ready (Some t) left bs) (sym is) together) p.works)

  dispatch_follows : (s : Held) (ready : List Item) (ts : List Thread) (stacks : List Stack) (bs : List (Option Block)) (count : ℕ) →
      Together code.instrs ts s.marks s.operations ready None stacks bs → exec code bound (halted s ready stacks bs count) ≡ dispatched_there (halted s ready stacks bs count) ready
      → FollowsTo (halted s ready stacks bs count) (dispatched (resting s ready ts) ready)
  dispatch_follows s [] ts stacks bs count h goes = follows_over (told count (seen_of Stalled true s)) (over_at (exec code bound) _ _ goes) refl
  dispatch_follows s (t ∷ ready) ts stacks bs count h goes = turn (nat_lt s.shared.turn (2 ^ 64 - 1)) refl
    where
      turn : (b : Bool) → nat_lt s.shared.turn (2 ^ 64 - 1) ≡ b → FollowsTo (halted s (t ∷ ready) stacks bs count) (dispatched (resting s (t ∷ ready) ts) (t ∷ ready))
      turn true e =
          let d = running (turned s) t (thread_at ts t).work ready ts in
          let m = record (halted (turned s) ready (set stacks t.number no_stack) bs count) { running = Some t; current = stack_of stacks t } in
          subst (λ (b : Bool). FollowsTo (halted s (t ∷ ready) stacks bs count) (if b then On d else Over (seen_of OutOfSteps false s))) (sym e)
          (follows_on m (one_move (exec code bound) (halted s (t ∷ ready) stacks bs count) m (goes ∙ rw e refl)) (together (dispatched_stands s t ready ts stacks bs count h)))
      turn false e =
          let d = running (turned s) t (thread_at ts t).work ready ts in
          let end = told count (seen_of OutOfSteps false s) in
          subst (λ (b : Bool). FollowsTo (halted s (t ∷ ready) stacks bs count) (if b then On d else Over (seen_of OutOfSteps false s))) (sym e)
          (follows_over end (over_at (exec code bound) (halted s (t ∷ ready) stacks bs count) end (goes ∙ rw e refl)) refl)

  -- no thread runs: an entry of this turn comes in, and one that does not fit leaves both without an end
  module _ (s : Held) (ready : List Item) (ts : List Thread) (stacks : List Stack) (bs : List (Option Block)) (count : ℕ)
      (h : Together code.instrs ts s.marks s.operations ready None stacks bs) where
    abbrev core : CoreState
    core = resting s ready ts

    abbrev m : Flat
    m = halted s ready stacks bs count

    abbrev here : List Entry → Move CoreState (Option CoreEnd)
    here todo = at_point (λ o. o) s.shared s.store s.operations (λ shared x. On (arrived core shared x)) (dispatched core ready) todo

    abbrev there : List Entry → Move Flat FlatEnd
    there todo = at_point (told count) s.shared s.store s.operations (λ shared x. On (arrives_there m shared x)) (dispatched_there m ready) todo

    entry : (y : Entry) (ys : List Entry) → s.shared.todo ≡ y ∷ ys → nat_eq y.turn s.shared.turn ≡ true → (r : Option Arrival) → arrives s.shared.past s.store s.operations y.event ≡ r →
        FollowsTo m (here (y ∷ ys))
    entry y ys e now None a =
        subst (FollowsTo m) (rw (now, a) refl) (follows_over (told count None) (over_at (exec code bound) m (told count None) (ap there e ∙ rw (now, a) refl)) refl)
    entry y ys e now (Some x) a =
        let s' = with_entry s.shared y ys in
        let next = arrives_there m s' x in
        subst (FollowsTo m) (rw (now, a) refl)
        (follows_on next (one_move (exec code bound) m next (ap there e ∙ rw (now, a) refl))
        (together (arrival_stands code s ready ts stacks bs count h s' x (arrival_balance s.shared.past s.store s.operations y.event x a))))

    turn : (y : Entry) (ys : List Entry) → s.shared.todo ≡ y ∷ ys → (b : Bool) → nat_eq y.turn s.shared.turn ≡ b → FollowsTo m (here (y ∷ ys))
    turn y ys e true now = entry y ys e now (arrives s.shared.past s.store s.operations y.event) refl
    turn y ys e false now = subst (FollowsTo m) (rw now refl) (dispatch_follows s ready ts stacks bs count h (ap there e ∙ rw now refl))

    at_entries : (todo : List Entry) → s.shared.todo ≡ todo → FollowsTo m (here s.shared.todo)
    at_entries [] e = subst (λ todo. FollowsTo m (here todo)) (sym e) (dispatch_follows s ready ts stacks bs count h (ap there e))
    at_entries (y ∷ ys) e = subst (λ todo. FollowsTo m (here todo)) (sym e) (turn y ys e (nat_eq y.turn s.shared.turn) refl)

    rests_follow : FollowsTo m (step program bound core)
    rests_follow = at_entries s.shared.todo refl

  -- the next step of the running thread
  answered : (s : Held) (t : Item) (ws : List Work) (ready : List Item) (ts : List Thread) (activation : Activation) (stacks : List Stack) (bs : List (Option Block)) (m : Flat) →
      Answers code bound R (around_of t activation ready stacks bs) (running s t ws ready ts) m (next_of program bound ws s) → FollowsTo m (step program bound (running s t ws ready ts))
  answered s t ws ready ts activation stacks bs m (moves f) = accords m (step program bound (running s t ws ready ts)) f
  answered s t ws ready ts activation stacks bs m (sticks e d l h) =
      let core = running s t ws ready ts in
      let stays : step program bound core ≡ On core = ap (applied core t) e in
      subst (FollowsTo m) (sym stays) (follows_on d l (stuck stays h))

  stands_follow : (c : CoreState) (m : Flat) → R c m → FollowsTo m (step program bound c)
  stands_follow _ _ (rests s ready ts stacks bs count h) = rests_follow s ready ts stacks bs count h
  stands_follow _ _ (runs s t ws ready ts activation place operands stacks bs count active round h w) =
      let x = seat_of ts t ws activation active round (works_closes code.instrs activation place operands ws w) in
      let stands = stands_on code.instrs s t ws ready ts activation place operands stacks bs active round h w in
      answered s t ws ready ts activation stacks bs (flat (around_of t activation ready stacks bs) s place operands count)
      ((next_follows code program same fine bound R (around_of t activation ready stacks bs) (running s t ws ready ts) stands
      (turns s t ws ready ts activation stacks bs x h) ws place operands s (refl, refl) w).by count)

  pub core_follows : (c : CoreState) (m : Flat) → Accords code program bound c m → FollowsTo m (step program bound c)
  core_follows c m (together r) = stands_follow c m r
  core_follows c m (stuck e h) = subst (FollowsTo m) (sym e) (follows_on m (one_move (exec code bound) m m h) (stuck e h))

-- ---- the beginning

-- the only thread, which has entered nothing
module _ (work : List Work) (none : closes work ≡ []) where
  abbrev only : List Thread
  only = record { around = []; phase = Active; work = work } ∷ []

  held_none : (b : BlockId) → sum_by (held b) only ≡ 0
  held_none b = let z : among b (closes work) ≡ 0 = ap (among b) none in omega (arith, z)

  nested : (u : ℕ) (c : BlockId) (rest : List BlockId) → Lives (at only u).phase → (at only u).around ≡ c ∷ rest → OwnerOf only c rest
  nested zero c rest l e = absurd (let no : [] ≡ c ∷ rest = e in cc)
  nested (suc u) c rest l e = absurd l

  falls : (u : ℕ) → Lives (at only u).phase → Falls 0 (path_of (at only u))
  falls zero l = subst (λ (bs : List BlockId). Falls 0 (bs ++ [])) (sym none) tt
  falls (suc u) l = absurd l

  waits : Waits only
  waits zero b e = absurd (let no : Active ≡ AtFinish b = e in cc)
  waits (suc u) b e = absurd (let no : Ended ≡ AtFinish b = e in cc)

  listed : Listed only [] (first_item ∷ []) None
  listed zero = let h = one_same 0 in omega (arith, h)
  listed (suc u) = let ne : suc u ≢ 0 = (λ e. omega (arith, e)) in let h = one_other (suc u) 0 ne in omega (arith, h)

  tracks : Tracks [] only []
  tracks zero b inside outside l e =
      absurd (
      let h = held_at only 0 b inside outside l e in
      let z = held_none b in
      let k = total_one nobody (held b) refl only 0 in
      omega (arith, h, z, k))
  tracks (suc u) b inside outside l e = absurd l

-- the activation of a core's entry
abbrev pub first_activation : Activation
first_activation = record { frame = first_frame; callers = []; entered = []; around = [] }

module _ (code : Parts) where
  -- the core of a function, where the code does what the function is to do
  pub first_stands : (f : Function) (e : Entered) (s : Shared) (store : Store) → Works code.instrs first_activation e.at [] (before first_frame f.body (Leave ∷ [])) →
      Stands code.instrs (first_core f s store) (first_machine e s store)
  first_stands f e s store w =
      let work = before first_frame f.body (Leave ∷ []) in
      let none = works_closes code.instrs first_activation e.at [] work w in
      rests (record { shared = s; store = store; marks = []; operations = [] }) (first_item ∷ []) (only work none) (record no_stack { place = e.at } ∷ []) [] 0 (record {
        stacks_are = refl;
        blocks_are = refl;
        good = record { nested = nested work none; once = λ b. (let h = held_none work none b in omega (arith, h)); fresh = λ b le. held_none work none b; falls = falls work none };
        waits = waits work none;
        listed = listed work none;
        tracks = tracks work none;
        others = first_others work none w;
      })
    where
      first_others : (work : List Work) (none : closes work ≡ []) → Works code.instrs first_activation e.at [] work
          → Others code.instrs (only work none) [] None (record no_stack { place = e.at } ∷ [])
      first_others work none w zero ne l = record { activation = first_activation; place = e.at; operands = []; is = refl; around = refl; works = w }
      first_others work none w (suc u) ne l = absurd l

-- both begin, or there is no room for the frame
pub cores_begin : (R : CoreState → Flat → Type 0) (globals : List ℤ) (s : Shared) (r : Result Store Trap) (f : Function) (e : Entered) →
    ((store : Store) → R (first_core f s store) (first_machine e s store)) →
    BothBegin R (λ (x : FlatEnd). x.core) (begins_with (λ o. o) globals s r (λ store. On (first_core f s store)))
    (begins_with (told 0) globals s r (λ store. On (first_machine e s store)))
cores_begin R globals s (Ok store) f e h = begin_on (h store)
cores_begin R globals s (Err trap) f e h = begin_over refl
