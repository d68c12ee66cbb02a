-- What a core makes of the outcome of an offer that a cancel tries: it ends as cancelled, it is done, or its request has begun.
-- First where the core stands and which operation it tries; then what the calls make of the fields is what the code's meaning makes of the state (`Makes`, `Decides`);
-- last, that a core which was sound is so afterwards, and has less left to do. Fitness and chains are taken over from code_safety, the count of offers from Standing.
use Rattle.std.proofs.Common.{◌≡◌, ℕ, suc, ◌<◌, List, [], ◌∷◌, ◌++◌, Option, Some, None, IsSome, Bool, true, false, refl, sym, ap, ◌∙◌, subst, arith}
use Rattle.std.specs.Prelude.{ℤ, find, is_some, position, slice_get, slice_set, if◌then◌else◌}
use Rattle.std.specs.List.{remove}
use Rattle.ac_base.specs.Log.{Log}
use Rattle.ac_base.specs.declared.entry.Entry.{Entry}
use Rattle.ac_base.specs.declared.entry.Event.{Event}
use Rattle.work_item.specs.declared.ids.Item.{Item}
use Rattle.work_item.specs.declared.ids.BlockId.{BlockId}
use Rattle.work_item.specs.declared.cell.Cell.TheVariants as cell
use Rattle.work_item.specs.Store.{cell_at}
use Rattle.cancel_scope.specs.declared.operation.Progress.{Progress}
use Rattle.cancel_scope.specs.declared.operation.Progress.TheVariants.{Waiting, Offered, Started}
use Rattle.cancel_scope.specs.declared.operation.Operation.{Operation}
use Rattle.cancel_scope.specs.Outstanding.{as_begun, change_first, is_request, without_first}
use Rattle.cancel_scope.specs.Roomy.{Roomy}
use Rattle.core_state.specs.Moves.{On, GoesOn}
use Rattle.core_state.specs.Arrivals.{Arrival, cancelled, goes_on_waiting, has_ended, has_ended_as, ok}
use Rattle.core_state.specs.Cancelling.{Fate, NeverHappens, IsTaken, is_to_try, outcome}
use Rattle.core_state.specs.Frames.{block_in}
use Rattle.core_state.specs.Shared.{Shared, with_entry}
use Rattle.finish_block.specs.Table as table
use Rattle.stack_code.specs.declared.instr.Instr.{Instr}
use Rattle.stack_code.specs.declared.instr.Instr.TheVariants as i
use Rattle.stack_code.specs.Parts.{Parts}
use Rattle.stack_code.specs.Valid.{IsValid}
use Rattle.code_meaning.specs.Machine.{Flat, arrived, exec, first_flat, is_inside, marked, resumed}
use Rattle.code_safety.specs.Chains.{AreChained}
use Rattle.code_safety.specs.Fit.{IsFit}
use Rattle.code_safety.specs.Left.{left}
use Rattle.code_safety.proofs.ArrivalChains.{comes_chained, ended_chained}
use Rattle.code_safety.proofs.ArrivalWeights.{begun_falls, ended_falls}
use Rattle.code_safety.proofs.Arriving.{Comes, arrived_fit, begun, ended_fit}
use Rattle.code_safety.proofs.Journal.{run_decides}
use Rattle.code_safety.proofs.LinkedFrames.{same_frames}
use Rattle.code_safety.proofs.Marking.{marked_chained, marked_fit, marked_left}
use Rattle.code_safety.proofs.Settings.{same_store}
use Rattle.code_safety.proofs.Waiting.{IsFound, found_at}
use Rattle.core_machine.specs.declared.ending.Ending.{Ending}
use Rattle.core_machine.specs.declared.running.Running.{Running}
use Rattle.core_machine.specs.declared.tried.Tried.{Tried}
use Rattle.core_machine.specs.Blocks.{blocks_of}
use Rattle.core_machine.specs.State.{shared_of, flat_of, end_or, own_link, state_of, machine_of, HavePlaces, IsSound, HasSeats}
use Rattle.core_machine.specs.Tracks.{Tracks}
use Rattle.core_machine.specs.Tried.{cancelled_at, cancelled_by, cancelled_in, tried_as, tried_in, tried_of, tried_within}
use Rattle.core_machine.specs.inner.Changes.{Keeps, entry_now}
use Rattle.core_machine.specs.inner.Deciding.{Decides, Makes, decided_within}
use Rattle.core_machine.specs.inner.Left.{left_from, left_of}
use Rattle.core_machine.proofs.Lived.{AllLived, cancel_begun, cancel_ended}
use Rattle.core_machine.proofs.Sound.{on_its_way, own_stays, resumed_operations, resumed_shared, running, still_placed}
use Rattle.core_machine.proofs.Standing.{tracks_decided}
use Rattle.core_machine.proofs.Rounds.{marked_blocks, none_within, oldest_changed, oldest_found, oldest_without}

-- ---- a core that asks for an outcome

-- it has not ended
pub asks_on : (m : Running) → IsSome (tried_of m.code.now (state_of m)) → m.ended ≡ None
asks_on m h = by m.ended refl h
  where
    by : (o : Option Ending) → m.ended ≡ o → IsSome (tried_of m.code.now (end_or (flat_of m) o)) → m.ended ≡ None
    by None e h = e
    by (Some ending) e h = let no : false ≡ true = h in absurd (cc)

module _ (m : Running) (asks : IsSome (tried_of m.code.now (state_of m))) where
  within : IsSome (tried_within (flat_of m) (cancelled_in m.code.now (flat_of m)))
  within = subst (λ o. IsSome (tried_of m.code.now (end_or (flat_of m) o))) (asks_on m asks) asks

  -- an operation lies within the block at whose cancel the running thread stands
  pub asks_place : (block : BlockId) → cancelled_in m.code.now (flat_of m) ≡ Some block → position (is_to_try (is_inside (flat_of m) block)) m.outstanding.operations ≡ None → ⊥
  asks_place block is e =
      let h = subst (λ o. IsSome (tried_within (flat_of m) o)) is within in
      let no : false ≡ true = subst (λ o. IsSome (tried_in o)) (none_within (is_to_try (is_inside (flat_of m) block)) m.outstanding.operations e) h in
      cc

-- ---- for which offer it asks

pub still_on : (o : Option Ending) → is_some o ≡ false → o ≡ None
still_on None h = refl
still_on (Some ending) h = let no : true ≡ false = h in absurd (cc)

module _ (m : Running) (still : m.ended ≡ None) (block : BlockId) (cancels : cancelled_in m.code.now (flat_of m) ≡ Some block) where
  abbrev test : Operation → Bool
  test = is_to_try (is_inside (flat_of m) block)

  tried_there : tried_of m.code.now (state_of m) ≡ tried_in (find test m.outstanding.operations)
  tried_there = ap (λ o. tried_of m.code.now (end_or (flat_of m) o)) still ∙ ap (tried_within (flat_of m)) cancels

  pub none_tried : position test m.outstanding.operations ≡ None → tried_of m.code.now (state_of m) ≡ None
  none_tried e = tried_there ∙ ap tried_in (none_within test m.outstanding.operations e)

  pub one_tried : (n : ℕ) (o : Operation) → position test m.outstanding.operations ≡ Some n → slice_get m.outstanding.operations n ≡ Some o
      → tried_of m.code.now (state_of m) ≡ tried_in (Some o)
  one_tried n o first there = tried_there ∙ ap tried_in (oldest_found test m.outstanding.operations n o first there)

-- ---- where it stands

-- which instruction that is
record StandsAt (code : Parts) (m : Flat) (block : BlockId) : Type 0 where
  t : Item
  run : m.running ≡ Some t
  level : ℕ
  slot : ℕ
  here : slice_get code.instrs m.current.place ≡ Some (i.Cancel level slot)
  block_is : block_in (cell_at m.store m.current.frame level slot) ≡ block

stands_at : (code : Parts) (m : Flat) (block : BlockId) → cancelled_in code m ≡ Some block → StandsAt code m block
stands_at code m block e = by m.running refl e
  where
    at : (t : Item) → m.running ≡ Some t → (o : Option Instr) → slice_get code.instrs m.current.place ≡ o → cancelled_by m o ≡ Some block → StandsAt code m block
    at t run (Some (i.Cancel level slot)) here e = record {
      t = t;
      run = run;
      level = level;
      slot = slot;
      here = here;
      block_is = let same : block_in (cell_at m.store m.current.frame level slot)
          ≡ block = cc in same;
    }
    at t run o here e = let no : None ≡ Some block = e in absurd (cc)

    by : (o : Option Item) → m.running ≡ o → cancelled_at code m o ≡ Some block → StandsAt code m block
    by None run e = let no : None ≡ Some block = e in absurd (cc)
    by (Some t) run e = at t run (slice_get code.instrs m.current.place) refl e

-- an operation that is tried stands under an offer
record StandsUnder (o : Operation) (tried : Tried) : Type 0 where
  link : o.link ≡ tried.link
  under : o.progress ≡ Offered tried.number

stands_under : (o : Operation) (tried : Tried) → tried_in (Some o) ≡ Some tried → StandsUnder o tried
stands_under o tried e = by o.progress refl e
  where
    by : (p : Progress) → o.progress ≡ p → tried_as o.link p ≡ Some tried → StandsUnder o tried
    by Waiting is e = let no : None ≡ Some tried = e in absurd (cc)
    by (Offered number) is e =
        let same : (record { link = o.link; number = number }) ≡ tried = cc in
        record { link = ap (λ (x : Tried). x.link) same; under = is ∙ ap (λ (x : Tried). Offered x.number) same }
    by (Started number) is e = let no : None ≡ Some tried = e in absurd (cc)

-- ---- the block is marked, and the entry is in the journal

module _ (m b : Running) (block : BlockId) (event : Event) (stamp : ℕ) where
  abbrev pub noted : Roomy → table.Table → Log → Running
  noted q t j = record m { outstanding = q; blocks = t; journal = j }

  noted_is : (q : Roomy) (t : table.Table) (j : Log) (os : List Operation) → b ≡ noted q t j → q.operations ≡ os → t ≡ table.marked m.blocks block
      → j.entries ≡ m.journal.entries ++ entry_now m event stamp ∷ []
      → flat_of b ≡ record (marked (flat_of m) block) { shared = with_entry (shared_of m) (entry_now m event stamp) []; operations = os }
  noted_is q t j os is ops mark entries =
      ap flat_of is
      ∙ ap (λ es. record (flat_of m) { shared = record (shared_of m) { past = es }; operations = q.operations; blocks = blocks_of t.blocks }) entries
      ∙ ap (λ l. record (flat_of m) { shared = with_entry (shared_of m) (entry_now m event stamp) []; operations = l; blocks = blocks_of t.blocks }) ops
      ∙ ap (λ bs. record (flat_of m) { shared = with_entry (shared_of m) (entry_now m event stamp) []; operations = os; blocks = bs })
      (ap (λ (x : table.Table). blocks_of x.blocks) mark ∙ marked_blocks m.blocks.blocks block)

  -- an operation has ended
  pub makes_end : (after : Running) (value : ℤ) (n : ℕ) (o p : Operation) (q : Roomy) (t : table.Table) (j : Log) → slice_get m.outstanding.operations n ≡ Some p
      → slice_get m.outstanding.operations n ≡ Some o → b ≡ noted q t j
      → q.operations ≡ remove m.outstanding.operations n → t ≡ table.marked m.blocks block → j.entries ≡ m.journal.entries ++ entry_now m event stamp ∷ []
      → flat_of after ≡ resumed (flat_of b) (cell.Int value) (Some p.item) → after.ended ≡ b.ended → Keeps b after
      → Makes m block event stamp (has_ended_as value m.frames (remove m.outstanding.operations n) o) after
  makes_end after value n o p q t j here there is ops mark entries flat ended kept =
      let one : p ≡ o = let both : Some p ≡ Some o = sym here ∙ there in cc in
      record {
        flat = flat ∙ ap (λ (f : Flat). resumed f (cell.Int value) (Some p.item)) (noted_is q t j (remove m.outstanding.operations n) is ops mark entries)
            ∙ ap (λ (x : Operation). arrived (marked (flat_of m) block) (with_entry (shared_of m) (entry_now m event stamp) [])
            (has_ended_as value m.frames (remove m.outstanding.operations n) x)) one;
        ended = ended ∙ ap (λ (y : Running). y.ended) is;
        lives = kept.lives ∙ ap (λ (y : Running). y.threads.lives) is;
        same = record {
          code = kept.code ∙ ap (λ (y : Running). y.code.now) is;
          core = kept.core ∙ ap (λ (y : Running). y.core) is;
          bound = kept.bound ∙ ap (λ (y : Running). y.bound) is;
          seats = λ h. kept.seats (subst HasSeats (sym is) h);
        };
      }

  -- an operation goes on
  pub makes_change : (q : Roomy) (t : table.Table) (j : Log) (os : List Operation) → b ≡ noted q t j → q.operations ≡ os → t ≡ table.marked m.blocks block
      → j.entries ≡ m.journal.entries ++ entry_now m event stamp ∷ [] → Makes m block event stamp (goes_on_waiting m.frames os) b
  makes_change q t j os is ops mark entries = record {
    flat = noted_is q t j os is ops mark entries;
    ended = ap (λ (y : Running). y.ended) is;
    lives = ap (λ (y : Running). y.threads.lives) is;
    same = record {
      code = ap (λ (y : Running). y.code.now) is;
      core = ap (λ (y : Running). y.core) is;
      bound = ap (λ (y : Running). y.bound) is;
      seats = λ h. subst HasSeats (sym is) h;
    };
  }

-- ---- what is made of the operation that is tried

module _ (m after : Running) (block : BlockId) (cancels : cancelled_in m.code.now (flat_of m) ≡ Some block) (n : ℕ) (o : Operation) (event : Event) (stamp : ℕ)
    (first : position (is_to_try (is_inside (flat_of m) block)) m.outstanding.operations ≡ Some n) (there : slice_get m.outstanding.operations n ≡ Some o) where
  abbrev sought : Operation → Bool
  sought = is_to_try (is_inside (flat_of m) block)

  decides : (it : Fate) → Makes m block event stamp (decided_within (flat_of m) block it o) after → Decides m it event stamp after
  decides it makes = record { block = block; cancels = cancels; operation = o; found = oldest_found sought m.outstanding.operations n o first there; makes = makes }

  gone : (value : ℤ) → has_ended_as value m.frames (remove m.outstanding.operations n) o ≡ has_ended_as value m.frames (without_first sought m.outstanding.operations) o
  gone value = ap (λ os. has_ended_as value m.frames os o) (sym (oldest_without sought m.outstanding.operations n o first there))

  pub never_happens : Makes m block event stamp (has_ended_as cancelled m.frames (remove m.outstanding.operations n) o) after → Decides m NeverHappens event stamp after
  never_happens makes = decides NeverHappens (subst (λ x. Makes m block event stamp x after) (gone cancelled) makes)

  pub is_done : is_request o.asked ≡ false → Makes m block event stamp (has_ended_as ok m.frames (remove m.outstanding.operations n) o) after → Decides m IsTaken event stamp after
  is_done other makes = decides IsTaken (subst (λ x. Makes m block event stamp x after)
      (gone ok ∙ sym (ap (λ b. if b then goes_on_waiting m.frames (change_first sought as_begun m.outstanding.operations) else has_ended m.frames
      (without_first sought m.outstanding.operations) o) other))
      makes)

  pub has_begun : is_request o.asked ≡ true → Makes m block event stamp (goes_on_waiting m.frames (slice_set m.outstanding.operations n (as_begun o))) after → Decides m IsTaken event stamp after
  has_begun request makes = decides IsTaken (subst (λ x. Makes m block event stamp x after)
      (ap (goes_on_waiting m.frames) (sym (oldest_changed sought m.outstanding.operations n o first there as_begun))
      ∙ sym (ap (λ b. if b then goes_on_waiting m.frames (change_first sought as_begun m.outstanding.operations) else has_ended m.frames (without_first sought m.outstanding.operations) o) request))
      makes)

-- ---- what holds after it

module _ (before after : Running) (tried : Tried) (it : Fate) (event : Event) (stamp : ℕ) (still : before.ended ≡ None) (sound : IsSound before) (h : Decides before it event stamp after)
    (offered : tried_in (Some h.operation) ≡ Some tried) (is : outcome tried.link tried.number event ≡ Some it) where
  abbrev entry : Entry
  entry = entry_now before event stamp

  abbrev shared : Shared
  shared = with_entry (shared_of before) entry []

  abbrev code : Parts
  code = before.code.now

  abbrev m : Flat
  m = flat_of before

  abbrev o : Operation
  o = h.operation

  abbrev tries : Operation → Bool
  tries = is_to_try (is_inside m h.block)

  abbrev now : Flat
  now = marked m h.block

  fit : IsFit code m
  fit = sound.fit still

  now_fit : IsFit code now
  now_fit = marked_fit code m fit h.block

  place : IsFound tries m.operations o
  place = found_at tries m.operations o h.found

  stood : StandsAt code m h.block
  stood = stands_at code m h.block h.cancels

  under : StandsUnder o tried
  under = stands_under o tried offered

  -- the operation has ended, or it is a request and has begun
  of_outcome : (P : Arrival → Type 0) → ((value : ℤ) → P (has_ended_as value m.store (place.front ++ place.back) o))
      → (is_request o.asked ≡ true → P (goes_on_waiting m.store (place.front ++ as_begun o ∷ place.back))) → P (decided_within m h.block it o)
  of_outcome P ended begins = by it
    where
      by_asked : (b : Bool) → is_request o.asked ≡ b → P (if b then goes_on_waiting m.store (change_first tries as_begun m.operations) else has_ended m.store (without_first tries m.operations) o)
      by_asked true r = subst (λ os. P (goes_on_waiting m.store os)) (sym (place.changed as_begun)) (begins r)
      by_asked false r = subst (λ os. P (has_ended m.store os o)) (sym place.without) (ended ok)

      by : (z : Fate) → P (decided_within m h.block z o)
      by NeverHappens = subst (λ os. P (has_ended_as cancelled m.store os o)) (sym place.without) (ended cancelled)
      by IsTaken = by_asked (is_request o.asked) refl

  comes_begun : is_request o.asked ≡ true → Comes m.store m.operations (goes_on_waiting m.store (place.front ++ as_begun o ∷ place.back))
  comes_begun request = begun place.front place.back o tried.number place.is request under.under

  pub decided_journal : after.journal.entries ≡ before.journal.entries ++ entry ∷ []
  decided_journal = ap (λ (f : Flat). f.shared.past) h.makes.flat ∙ ap (λ (s : Shared). s.past)
      (resumed_shared (record now { shared = shared; store = (decided_within m h.block it o).store; operations = (decided_within m h.block it o).operations })
      (cell.Int (decided_within m h.block it o).value) (decided_within m h.block it o).woken)

  decided_operations : after.outstanding.operations ≡ (decided_within m h.block it o).operations
  decided_operations = ap (λ (f : Flat). f.operations) h.makes.flat
      ∙ resumed_operations (record now { shared = shared; store = (decided_within m h.block it o).store; operations = (decided_within m h.block it o).operations })
      (cell.Int (decided_within m h.block it o).value) (decided_within m h.block it o).woken

  pub decided_on : after.ended ≡ None
  decided_on = h.makes.ended ∙ still

  decided_fit : IsFit code (flat_of after)
  decided_fit = subst (IsFit code) (sym h.makes.flat) (of_outcome (λ x. IsFit code (arrived now shared x))
      (λ value. ended_fit code now now_fit shared place.front place.back o place.is m.store (same_store code now_fit.births m.store now_fit.store) value)
      (λ request. arrived_fit code now now_fit sound.valid.one_use shared (goes_on_waiting m.store (place.front ++ as_begun o ∷ place.back)) (comes_begun request)))

  now_chained : AreChained code now
  now_chained = marked_chained code m fit h.block (sound.chained still) stood.t stood.run

  decided_chained : AreChained code (flat_of after)
  decided_chained = subst (AreChained code) (sym h.makes.flat) (of_outcome (λ x. AreChained code (arrived now shared x))
      (λ value. ended_chained code now now_fit now_chained shared place.front place.back o place.is value m.store (same_frames now_chained.origins m.store))
      (λ request. comes_chained code now now_fit now_chained shared (goes_on_waiting m.store (place.front ++ as_begun o ∷ place.back)) (comes_begun request)))

  decided_requests : after.requests ≡ before.requests
  decided_requests = ap (λ (f : Flat). f.shared.requests) h.makes.flat ∙ ap (λ (s : Shared). s.requests)
      (resumed_shared (record now { shared = shared; store = (decided_within m h.block it o).store; operations = (decided_within m h.block it o).operations })
      (cell.Int (decided_within m h.block it o).value) (decided_within m h.block it o).woken)

  decided_own : own_link after ≡ own_link before
  decided_own = own_stays before after h.makes.same

  decided_tracks : Tracks (own_link after) after.journal.entries after.outstanding.operations
  decided_tracks =
      let tracks = tracks_decided (own_link before) before.journal.entries before.outstanding.operations (sound.tracks still) entry before.frames tries o tried.link tried.number it h.found
      under.link under.under is in
      subst (λ link. Tracks link after.journal.entries after.outstanding.operations) (sym decided_own)
      (subst (λ past. Tracks (own_link before) past after.outstanding.operations) (sym decided_journal)
      (subst (Tracks (own_link before) (before.journal.entries ++ entry ∷ [])) (sym decided_operations) tracks))

  decided_placed : HavePlaces after
  decided_placed = still_placed before after (sound.places still) (subst (AllLived m) (sym h.makes.flat) (of_outcome (λ x. AllLived m (arrived now shared x))
      (λ value. cancel_ended m h.block shared m.store place.front place.back o place.is value) (λ request. cancel_begun m h.block shared m.store place.front place.back o place.is))) h.makes.lives

  pub decided_sound : IsSound after
  decided_sound =
      let r = sound.ran in
      let run = subst (GoesOn (exec code before.bound) (first_flat code before.core r.function before.journal.entries)) (running m before.ended still) r.goes in
      let its : outcome o.link tried.number event ≡ Some it = ap (λ l. outcome l tried.number event) under.link ∙ is in
      let comes = run_decides code before.bound entry before.core r.function before.journal.entries m run stood.t h.block o tried.number it
      (record { level = stood.level; slot = stood.slot; running = stood.run; here = stood.here; block_is = stood.block_is; found = h.found; offered = under.under }) refl refl its in
      record {
        fit = λ e. subst (λ c. IsFit c (flat_of after)) (sym h.makes.same.code) decided_fit;
        chained = λ e. subst (λ c. AreChained c (flat_of after)) (sym h.makes.same.code) decided_chained;
        requests = λ e. decided_requests ∙ sound.requests still ∙ sym decided_own;
        tracks = λ e. decided_tracks;
        places = λ e. decided_placed;
        seats = h.makes.same.seats sound.seats;
        valid = subst IsValid (sym h.makes.same.code) sound.valid;
        ran = on_its_way (machine_of after) code before.core before.bound (before.journal.entries ++ entry ∷ [])
            (On (arrived now shared (decided_within m h.block it o))) r.function h.makes.same.code h.makes.same.core h.makes.same.bound decided_journal
            (running (flat_of after) after.ended decided_on ∙ ap (λ f. On f) h.makes.flat) r.begins comes;
      }

  -- less is left to do
  pub decided_less : (ranks : List ℕ) → left_of ranks after < left_of ranks before
  decided_less ranks =
      let less = of_outcome (λ x. left ranks before.bound (arrived now shared x) < left ranks before.bound now)
      (λ value. let falls = ended_falls code before.bound now now_fit ranks shared refl place.front place.back o place.is value m.store in omega (arith, falls))
      (λ request. let falls = begun_falls code before.bound now now_fit ranks shared refl place.front place.back o place.is tried.number request under.under in omega (arith, falls)) in
      let mark = marked_left code m fit h.block ranks before.bound in
      let now_left : left ranks after.bound (flat_of after) ≡ left ranks before.bound (arrived now shared (decided_within m h.block it o)) =
      ap (λ bound. left ranks bound (flat_of after)) h.makes.same.bound ∙ ap (left ranks before.bound) h.makes.flat in
      let was : left_of ranks before ≡ suc (left ranks before.bound m) = ap (λ p. left_from p (left ranks before.bound m)) still in
      let later : left_of ranks after ≡ suc (left ranks after.bound (flat_of after)) = ap (λ p. left_from p (left ranks after.bound (flat_of after))) decided_on in
      omega (arith, less, mark, now_left, was, later)
