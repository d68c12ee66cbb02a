-- A thread enters a block, starts another thread, or yields.
-- One instruction each, in whose state `Together` is put together again from Changes, Tracks and Wakes.
use Rattle.std.proofs.Common.{◌≡◌, ℕ, ◌+◌, List, [], ◌∷◌, ◌++◌, length, set, replicate, Option, Some, None, false, refl, sym, ap, ◌∙◌, subst, arith, length-append}
use Rattle.std.specs.Prelude.{slice_get}
use Rattle.std.specs.List.{sum_by}
use Rattle.std.proofs.lemmas.List.{length-set, get_or_past}
use Rattle.std.proofs.Math.Seq.{get_or-append_seam, set-append_seam}
use Rattle.work_item.specs.declared.ids.FrameId.{FrameId}
use Rattle.work_item.specs.declared.ids.Item.{Item}
use Rattle.work_item.specs.declared.ids.BlockId.{BlockId}
use Rattle.work_item.specs.Store.{no_int, next_frame}
use Rattle.core_state.specs.Frames.{begun, with_entered}
use Rattle.ac_semantics.specs.Held.{Held, with_store, next_block, entered as enters}
use Rattle.ac_semantics.specs.Work.{Work, closes}
use Rattle.ac_semantics.specs.Statements.{Goes, Starts, Yields, or_trap}
use Rattle.ac_semantics.specs.Threads.{Active, Ended, Thread, nobody, CoreState, thread_at, starts}
use Rattle.stack_code.specs.declared.instr.Instr.TheVariants as i
use Rattle.stack_code.specs.Parts.{Parts}
use Rattle.code_meaning.specs.Machine.{Block, Flat, Thread as Stack, nobody as no_stack, block_at, counted_in, counted}
use Rattle.ac_translation.proofs.Tables.{Changed, pushed_changed, first, occ_append}
use Rattle.ac_translation.proofs.Blocks.{Lives, alive, entered, head_is, direct, at, Good}
use Rattle.ac_translation.proofs.Changes.{direct_change, open_good, start_good}
use Rattle.ac_translation.proofs.Tracks.{entry, mark_of, tracks_open, tracks_count, mark_open, tracks_marks}
use Rattle.ac_translation.proofs.Counts.{counted_in_tells, counted_in_length}
use Rattle.ac_translation.proofs.Wakes.{active as is_counted, asked_by, runs_without, listed_same, listed_new, waits_change, waits_start}
use Rattle.ac_translation.proofs.Keeps.{Activation, within, started, thread_in, Around, flat, SameBirths, FollowsAt, turn_follows, turns_or_ends}
use Rattle.ac_translation.proofs.Works.{Works, works_closes}
use Rattle.ac_translation.proofs.Standing.{running, around_of, resting, halted, seated, stack_at, Parked, Others, Together, Stands, rests, runs}
use Rattle.ac_translation.proofs.Standing.{with_births, still_stacks, in_stacks, others_kept, others_back, sitting, never_waits, Seat, on_together}

module _ (code : Parts) (bound : ℕ) (s0 : Held) (t : Item) (ws : List Work) (ready : List Item) (ts : List Thread) (activation : Activation) (stacks : List Stack)
    (bs : List (Option Block)) (x : Seat ts t ws activation)
    (h0 : Together code.instrs (seated ts t ws) s0.marks s0.operations ready (Some t) stacks bs) where
  abbrev R : CoreState → Flat → Type 0
  R = Stands code.instrs

  abbrev a : Around
  a = around_of t activation ready stacks bs

  abbrev c : CoreState
  c = running s0 t ws ready ts

  abbrev all : List Thread
  all = seated ts t ws

  abbrev old : Thread
  old = at all t.number

  -- the new block has the next number of its table in the machine, and the same in the source
  -- The thread stands in one block more, which was not born before: `Good` by `open_good`, the table by `tracks_open`.
  pub enters_follow : (slot : ℕ) (s : Held) (place : ℕ) (work : List Work) → SameBirths s0 s → slice_get code.instrs place ≡ Some (i.Enter slot) →
      Works code.instrs (within activation (next_block s ∷ activation.entered)) (place + 1) [] work →
      FollowsAt code bound R a c s place [] (Goes (enters s activation.frame slot) work)
  enters_follow slot s place work b is w =
      let h = with_births code.instrs s0 s b h0 in
      let block = next_block s in
      let inner = within activation (block ∷ activation.entered) in
      let s' = enters s activation.frame slot in
      let new = sitting ts t Active work in
      let change = x.changed Active work in
      let ts' = seated ts t work in
      let opened : entered new ≡ block ∷ entered old = works_closes code.instrs inner (place + 1) [] work w ∙ ap (λ l. block ∷ l) (sym x.has) in
      let parent : first (activation.entered ++ activation.around) ≡ first (entered old ++ old.around) =
      ap (λ l. first (l ++ activation.around)) (sym x.has) ∙ ap (λ l. first (entered old ++ l)) x.round in
      let bs' = bs ++ Some (entry (first (activation.entered ++ activation.around)) t.number 0 false false) ∷ [] in
      let pushed = pushed_changed None bs (Some (entry (first (activation.entered ++ activation.around)) t.number 0 false false)) in
      let made : Changed None bs bs' (length s.marks) (Some (entry (first (entered old ++ old.around)) t.number 0 false false)) =
      subst (λ n. Changed None bs bs' n (Some (entry (first (entered old ++ old.around)) t.number 0 false false))) h.blocks_are
      (subst (λ y. Changed None bs bs' (length bs) (Some (entry y t.number 0 false false))) parent pushed) in
      let unborn : mark_of s.marks block ≡ false = get_or_past s.marks (length s.marks) false (omega arith) in
      let more : length s.marks + 1 ≡ length s'.marks = omega (arith, length-append s.marks (false ∷ [])) in
      let together : Together code.instrs ts' s'.marks s'.operations ready (Some t) stacks bs' = record {
        stacks_are = still_stacks code.instrs ts t ws activation x h Active work;
        blocks_are = let n = h.blocks_are in omega (arith, n, more, length-append bs (Some (entry (first (activation.entered ++ activation.around)) t.number 0 false false) ∷ []));
        good = subst (Good ts') more (open_good all ts' t.number new change (length s.marks) h.good block refl x.lives tt x.around opened);
        waits = waits_change all ts' t.number new change h.waits (direct_change all ts' t.number new change x.lives tt x.around) (λ b e. absurd (never_waits b e));
        listed = listed_same all ts' t.number new change s.operations ready (Some t) (sym x.active) h.listed;
        tracks = tracks_marks s.marks s'.marks ts' bs' (λ b. mark_open s.marks b.number)
            (tracks_open all ts' t.number new change bs bs' s.marks (length s.marks) h.good h.tracks block refl unborn made x.active refl x.around opened);
        others = others_kept code.instrs all ts' t new change s.operations stacks h.others;
      } in
      let in_block = λ (n : ℕ). around_of t (within activation (record { number = n } ∷ activation.entered)) ready stacks bs' in
      let numbered = λ (n k : ℕ). flat (in_block n) (with_store s (with_entered s.store activation.frame slot n)) (place + 1) [] (counted k) in
      turn_follows code bound R a c (i.Enter slot) (running s' t work ready ts) (λ k. numbered (length bs) k) is refl (λ k. refl)
      (λ k. subst (λ n. R (running s' t work ready ts) (numbered n k)) (sym h.blocks_are) (runs s' t work ready ts inner (place + 1) [] stacks bs' (counted k) x.was_active x.was_around together w))

  -- a thread that rests stands where it goes on
  stays : (work : List Work) (place : ℕ) → Works code.instrs activation place [] work
      → Parked code.instrs 0 (record (thread_at ts t) { phase = Active; work = work }) (thread_in activation place [])
  stays work place w = record { activation = activation; place = place; operands = []; is = refl; around = x.was_around; works = w }

  pub yields_follow : (s : Held) (place : ℕ) (work : List Work) → SameBirths s0 s → slice_get code.instrs place ≡ Some i.Yield → Works code.instrs activation (place + 1) [] work →
      FollowsAt code bound R a c s place [] (Yields s work)
  yields_follow s place work b is w =
      let h = with_births code.instrs s0 s b h0 in
      let new = sitting ts t Active work in
      let change = x.changed Active work in
      let ts' = seated ts t work in
      let kept = thread_in activation (place + 1) [] in
      let on = on_together code.instrs ts t ws activation x work (works_closes code.instrs activation (place + 1) [] work w) h in
      let together : Together code.instrs ts' s.marks s.operations (ready ++ t ∷ []) None (set stacks t.number kept) bs = record {
        stacks_are = length-set stacks t.number kept ∙ on.stacks_are;
        blocks_are = on.blocks_are;
        good = on.good;
        waits = on.waits;
        listed = λ u. let k = on.listed u in let z = occ_append (λ (x : Item). x.number) u ready (t ∷ []) in omega (arith, k, z);
        tracks = on.tracks;
        others = others_back code.instrs all ts' t new change s.operations stacks h.others (runs_without all s.operations ready t h.listed) kept
            (in_stacks code.instrs ts t ws activation x h) (λ l. stays work (place + 1) w);
      } in
      turn_follows code bound R a c i.Yield (resting s (ready ++ t ∷ []) ts') (λ k. halted s (ready ++ t ∷ []) (set stacks t.number kept) bs (counted k)) is refl (λ k. refl)
      (λ k. rests s (ready ++ t ∷ []) ts' (set stacks t.number kept) bs (counted k) together)

  -- ---- a thread is started

  module _ (u : Held) (h : Together code.instrs all u.marks u.operations ready (Some t) stacks bs) (frame : FrameId) (to place : ℕ) (work own : List Work)
      (w : Works code.instrs activation to [] work) (w' : Works code.instrs (started activation frame) place [] own) where
    -- the thread that is born, as it is kept and in its place
    abbrev kept_born : Thread
    kept_born = record { around = closes work ++ (thread_at ts t).around; phase = Active; work = [] }

    abbrev born : Thread
    born = record { around = closes work ++ (thread_at ts t).around; phase = Active; work = own }

    abbrev before_it : List Thread
    before_it = seated ts t work

    abbrev new_item : Item
    new_item = record { number = length before_it }

    abbrev with_it : List Thread
    with_it = before_it ++ born ∷ []

    abbrev kept_it : List Thread
    kept_it = before_it ++ kept_born ∷ []

    abbrev creator : Stack
    creator = thread_in activation to []

    abbrev stacks' : List Stack
    stacks' = set stacks t.number creator ++ no_stack ∷ []

    abbrev path : List BlockId
    path = activation.entered ++ activation.around

    abbrev bs' : List (Option Block)
    bs' = counted_in bs (first path)

    on : Together code.instrs before_it u.marks u.operations ready (Some t) stacks bs
    on = on_together code.instrs ts t ws activation x work (works_closes code.instrs activation to [] work w) h

    path_is : closes work ++ (thread_at ts t).around ≡ path
    path_is = ap (λ l. l ++ (thread_at ts t).around) (works_closes code.instrs activation to [] work w) ∙ ap (λ l. activation.entered ++ l) (sym x.was_around)

    grows : Changed nobody before_it with_it (length before_it) born
    grows = pushed_changed nobody before_it born

    kept_is : thread_at kept_it new_item ≡ kept_born
    kept_is = get_or-append_seam before_it kept_born [] nobody

    seat_is : seated kept_it new_item own ≡ with_it
    seat_is = ap (λ (y : Thread). set kept_it (length before_it) (record y { phase = Active; work = own })) kept_is ∙ set-append_seam before_it kept_born [] born

    gone : (at before_it (length before_it)).phase ≡ Ended
    gone = ap (λ (y : Thread). y.phase) (get_or_past before_it (length before_it) nobody (omega arith))

    empty : entered born ≡ []
    empty = works_closes code.instrs (started activation frame) place [] own w'

    counts : (b : BlockId) (y : Block) → y.count ≡ sum_by (direct b) before_it → block_at bs b ≡ Some y → block_at bs' b ≡ Some (record y { count = sum_by (direct b) with_it })
    counts b y count q =
        let k = grows.sums (direct b) refl in
        let z : direct b (at before_it (length before_it)) ≡ 0 = ap (λ p. alive p (head_is b (at before_it (length before_it)).around)) gone in
        let p : head_is b (closes work ++ (thread_at ts t).around) ≡ head_is b path = ap (head_is b) path_is in
        counted_in_tells bs path b (sum_by (direct b) with_it) y (omega (arith, k, z, p, count)) q

    others_stay : Others code.instrs with_it u.operations (Some new_item) stacks'
    others_stay v ne l =
        let here = grows.there v ne in
        let back = others_back code.instrs all before_it t (sitting ts t Active work) (x.changed Active work) u.operations stacks h.others
        (runs_without all u.operations ready t h.listed) creator (in_stacks code.instrs ts t ws activation x h)
        (λ _. stays work to w) v tt (subst (λ (y : Thread). Lives y.phase) here l) in
        let n : length (set stacks t.number creator) ≡ length before_it = length-set stacks t.number creator ∙ on.stacks_are in
        let stack = (pushed_changed no_stack (set stacks t.number creator) no_stack).there v (λ e. ne (sym n ∙ e)) in
        subst (Parked code.instrs (asked_by v u.operations) (at with_it v)) (sym stack)
        (subst (λ y. Parked code.instrs (asked_by v u.operations) y (stack_at (set stacks t.number creator) v)) (sym here) back)

    together : Together code.instrs with_it u.marks u.operations (t ∷ ready) (Some new_item) stacks' bs'
    together =
        let creator_is = (x.changed Active work).here in
        let lives = subst (λ (y : Thread). Lives y.phase) (sym creator_is) tt in
        let around = ap (λ (y : Thread). entered y ++ y.around) (sym creator_is) in
        let m : length (set stacks t.number creator) ≡ length before_it = length-set stacks t.number creator ∙ on.stacks_are in
        record {
          stacks_are = omega (arith, m, length-append before_it (born ∷ []), length-append (set stacks t.number creator) (no_stack ∷ []));
          blocks_are = counted_in_length bs (first path) ∙ h.blocks_are;
          good = start_good before_it with_it (length before_it) born grows (length u.marks) on.good t.number lives gone empty around;
          waits = waits_start before_it with_it (length before_it) born grows gone refl on.waits;
          listed = listed_new before_it with_it (length before_it) born grows u.operations ready (t ∷ ready) (Some t) (Some new_item) (ap is_counted gone) refl (λ v. refl) on.listed;
          tracks = tracks_count before_it with_it (length before_it) born grows bs bs' u.marks (length u.marks) on.good on.tracks (λ _. empty) counts;
          others = others_stay;
        }

    -- the new thread has the next number of its table in the source, and so it has in the machine
    started_stands : (k : ℕ) → R (starts c t u own work) (flat (around_of (record { number = length stacks }) (started activation frame) (t ∷ ready) stacks' bs') u place [] k)
    started_stands k =
        let there = λ (n : ℕ). flat (around_of (record { number = n }) (started activation frame) (t ∷ ready) stacks' bs') u place [] k in
        let sits : Together code.instrs (seated kept_it new_item own) u.marks u.operations (t ∷ ready) (Some new_item) stacks' bs' =
        subst (λ ts'. Together code.instrs ts' u.marks u.operations (t ∷ ready) (Some new_item) stacks' bs') (sym seat_is) together in
        let active = ap (λ (y : Thread). y.phase) kept_is in
        let around = sym path_is ∙ ap (λ (y : Thread). y.around) (sym kept_is) in
        subst (λ n. R (running u (record { number = n }) own (t ∷ ready) kept_it) (there (length stacks))) (length-set ts t.number (sitting ts t Active work))
        (subst (λ n. R (running u new_item own (t ∷ ready) kept_it) (there n)) (sym on.stacks_are)
        (runs u new_item own (t ∷ ready) kept_it (started activation frame) place [] stacks' bs' k active around sits w'))

  pub starts_follow : (slots to : ℕ) (s : Held) (place : ℕ) (own work : List Work) → SameBirths s0 s → slice_get code.instrs place ≡ Some (i.Async slots to) →
      Works code.instrs activation to [] work → Works code.instrs (started activation (next_frame s.store)) (place + 1) [] own →
      FollowsAt code bound R a c s place [] (or_trap s (begun s.store (Some activation.frame) (replicate slots no_int)) (λ u. Starts (with_store s u) (next_frame s.store) own work))
  starts_follow slots to s place own work b is w w' =
      let frame = next_frame s.store in
      let made = begun s.store (Some activation.frame) (replicate slots no_int) in
      let path = activation.entered ++ activation.around in
      let stacks'' = set stacks t.number (thread_in activation to []) ++ no_stack ∷ [] in
      turns_or_ends code bound R a c (i.Async slots to) made (λ u. Starts (with_store s u) frame own work) (λ u. starts c t (with_store s u) own work)
      (λ u k. flat (around_of (record { number = length stacks }) (started activation frame) (t ∷ ready) stacks'' (counted_in bs (first path))) (with_store s u) (place + 1) [] (counted k)) is
      (λ u. refl) (λ k. refl)
      (λ u e k. started_stands (with_store s u) (with_births code.instrs s0 (with_store s u) b h0) frame to (place + 1) work own w w' (counted k))
