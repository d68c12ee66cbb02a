-- Where the machine stands that follows a core: its running thread, those that wait, and what holds of all of them.
-- `Stands` is the relation of the simulation. Threads have the same numbers in both, and each that does not run is parked where code stands
-- for its work; `Together` has what holds of all threads, blocks and operations. Then how it is kept where one thread changes.
use Rattle.std.proofs.Common.{◌≡◌, ◌≢◌, ℕ, zero, suc, ◌<◌, List, [], length, get_or, set, Option, Some, None, Bool, inl, inr, refl, sym, ap, ◌∙◌, subst, arith}
use Rattle.std.proofs.lemmas.List.{length-set}
use Rattle.work_item.specs.declared.ids.Item.{Item}
use Rattle.work_item.specs.declared.ids.BlockId.{BlockId}
use Rattle.work_item.specs.declared.cell.Cell.{Cell}
use Rattle.cancel_scope.specs.declared.operation.Operation.{Operation}
use Rattle.ac_semantics.specs.Held.{Held}
use Rattle.ac_semantics.specs.Work.{Work, closes}
use Rattle.ac_semantics.specs.Threads.{Phase, Active, AtFinish, Thread, nobody, CoreState, thread_at, with_phase}
use Rattle.stack_code.specs.declared.instr.Instr.{Instr}
use Rattle.code_meaning.specs.Machine.{Block, Flat, Thread as Stack, nobody as no_stack}
use Rattle.ac_translation.proofs.Tables.{Changed, set_changed, found, in_table, set_again}
use Rattle.ac_translation.proofs.Blocks.{Lives, entered, at, Good, Waits}
use Rattle.ac_translation.proofs.Changes.{direct_change, same_good}
use Rattle.ac_translation.proofs.Tracks.{Tracks, tracks_same}
use Rattle.ac_translation.proofs.Wakes.{asked_by, Listed, listed_same, waits_change}
use Rattle.ac_translation.proofs.Keeps.{Activation, called, Around, thread_in, flat, SameBirths}
use Rattle.ac_translation.proofs.Works.{Sleeps, Works, Relates, works_closes}

-- ---- cores and machines

-- the thread t runs with this work
abbrev pub running : Held → Item → List Work → List Item → List Thread → CoreState
running s t ws ready ts = record { held = s; running = Some t; work = ws; ready = ready; threads = ts }

abbrev pub around_of : Item → Activation → List Item → List Stack → List (Option Block) → Around
around_of t activation ready stacks bs = record { running = t; activation = activation; ready = ready; threads = stacks; blocks = bs }

-- none runs
abbrev pub resting : Held → List Item → List Thread → CoreState
resting s ready ts = record { held = s; running = None; work = []; ready = ready; threads = ts }

abbrev pub halted : Held → List Item → List Stack → List (Option Block) → ℕ → Flat
halted s ready stacks bs count =
    record {
      shared = s.shared;
      store = s.store;
      operations = s.operations;
      running = None;
      current = no_stack;
      ready = ready;
      threads = stacks;
      blocks = bs;
      count = count;
    }

-- the threads with the work of the running one in its place
abbrev pub seated : List Thread → Item → List Work → List Thread
seated ts t ws = with_phase ts t Active ws

abbrev pub NotRunning : ℕ → Option Item → Type 0
NotRunning u None = Unit {0}
NotRunning u (Some t) = t.number ≢ u

-- a thread of the machine is called a stack here
abbrev pub stack_at : List Stack → ℕ → Stack
stack_at stacks u = get_or stacks u no_stack

-- ---- the running thread in its place

abbrev pub sitting : List Thread → Item → Phase → List Work → Thread
sitting ts t phase work = record (thread_at ts t) { phase = phase; work = work }

pub never_waits : (b : BlockId) → Active ≡ AtFinish b → ⊥
never_waits b e = cc

-- what is known of it, in the table as it was kept and in its place
pub record Seat (ts : List Thread) (t : Item) (ws : List Work) (activation : Activation) : Type 0 where
  pub was_active : (thread_at ts t).phase ≡ Active
  pub was_around : activation.around ≡ (thread_at ts t).around
  pub inside : t.number < length ts
  pub lives : Lives (at (seated ts t ws) t.number).phase
  pub active : (at (seated ts t ws) t.number).phase ≡ Active
  pub around : (thread_at ts t).around ≡ (at (seated ts t ws) t.number).around
  pub round : activation.around ≡ (at (seated ts t ws) t.number).around
  pub has : entered (at (seated ts t ws) t.number) ≡ activation.entered
  pub changed : (phase : Phase) (work : List Work) → Changed nobody (seated ts t ws) (with_phase ts t phase work) t.number (sitting ts t phase work)

pub seat_of : (ts : List Thread) (t : Item) (ws : List Work) (activation : Activation) → (thread_at ts t).phase ≡ Active → activation.around ≡ (thread_at ts t).around → closes ws ≡ activation.entered
    → Seat ts t ws activation
seat_of ts t ws activation active around has =
    let lt = in_table (λ (x : Thread). x.phase ≡ Active) nobody ts t.number never active in
    let is = (set_changed nobody ts t.number (sitting ts t Active ws) lt).here in
    record {
      was_active = active;
      was_around = around;
      inside = lt;
      lives = subst (λ (x : Thread). Lives x.phase) (sym is) tt;
      active = ap (λ (x : Thread). x.phase) is;
      around = ap (λ (x : Thread). x.around) (sym is);
      round = around ∙ ap (λ (x : Thread). x.around) (sym is);
      has = ap entered is ∙ has;
      changed = λ phase work. set_again nobody ts t.number (sitting ts t Active ws) (sitting ts t phase work) lt;
    }
  where
    never : nobody.phase ≡ Active → ⊥
    never e = cc

module _ (code : List Instr) where
  -- the code at this address does this work, or does it with the value of the operation for which the thread waits
  abbrev pub IsKept : ℕ → Activation → ℕ → List Cell → List Work → Type 0
  IsKept zero activation place operands ws = Works code activation place operands ws
  IsKept (suc n) activation place operands ws = Sleeps code activation place operands ws

  -- a thread of the machine, which waits for so many operations, stands where one of the source stands
  pub record Parked (asked : ℕ) (th : Thread) (stack : Stack) : Type 0 where
    pub activation : Activation
    pub place : ℕ
    pub operands : List Cell
    pub is : stack ≡ thread_in activation place operands
    pub around : activation.around ≡ th.around
    pub works : IsKept asked activation place operands th.work

  abbrev pub Others : List Thread → List Operation → Option Item → List Stack → Type 0
  Others ts operations running stacks = (u : ℕ) → NotRunning u running → Lives (at ts u).phase → Parked (asked_by u operations) (at ts u) (stack_at stacks u)

  -- what holds of all threads, blocks and operations, and where the threads stand that do not run
  pub record Together (ts : List Thread) (marks : List Bool) (operations : List Operation) (ready : List Item) (running : Option Item) (stacks : List Stack) (bs : List (Option Block)) : Type 0 where
    pub stacks_are : length stacks ≡ length ts
    pub blocks_are : length bs ≡ length marks
    pub good : Good ts (length marks)
    pub waits : Waits ts
    pub listed : Listed ts operations ready running
    pub tracks : Tracks marks ts bs
    pub others : Others ts operations running stacks

  -- the machine stands where the core stands: each holds what the other holds, also the same operations, and numbers of threads and blocks are the same
  pub data Stands : CoreState → Flat → Type 0 where
    rests : (s : Held) (ready : List Item) (ts : List Thread) (stacks : List Stack) (bs : List (Option Block)) (count : ℕ) → Together ts s.marks s.operations ready None stacks bs →
        Stands (resting s ready ts) (halted s ready stacks bs count)
    runs : (s : Held) (t : Item) (ws : List Work) (ready : List Item) (ts : List Thread) (activation : Activation) (place : ℕ) (operands : List Cell) (stacks : List Stack) (bs : List (Option Block))
        (count : ℕ) →
        (thread_at ts t).phase ≡ Active → activation.around ≡ (thread_at ts t).around → Together (seated ts t ws) s.marks s.operations ready (Some t) stacks bs →
        Works code activation place operands ws →
        Stands (running s t ws ready ts) (flat (around_of t activation ready stacks bs) s place operands count)

  -- the same blocks were born and are marked, and the same operations have not ended
  pub with_births : (s u : Held) {ts : List Thread} {ready : List Item} {running : Option Item} {stacks : List Stack} {bs : List (Option Block)} → SameBirths s u →
      Together ts s.marks s.operations ready running stacks bs → Together ts u.marks u.operations ready running stacks bs
  with_births s u {ts} {ready} {running} {stacks} {bs} b h =
      subst (λ os. Together ts u.marks os ready running stacks bs) (sym b.1) (subst (λ n. Together ts n s.operations ready running stacks bs) (sym b.0) h)

  -- ---- how many there are

  module _ (ts : List Thread) (t : Item) (ws : List Work) (activation : Activation)
      (x : Seat ts t ws activation) {marks : List Bool} {operations : List Operation} {ready : List Item} {running : Option Item} {stacks : List Stack}
      {bs : List (Option Block)}
      (h : Together (seated ts t ws) marks operations ready running stacks bs) where
    pub still_stacks : (phase : Phase) (work : List Work) → length stacks ≡ length (with_phase ts t phase work)
    still_stacks phase work = h.stacks_are ∙ length-set ts t.number (sitting ts t Active ws) ∙ sym (length-set ts t.number (sitting ts t phase work))

    pub in_stacks : t.number < length stacks
    in_stacks =
        let lt = x.inside in
        let m = h.stacks_are in
        omega (arith, lt, m, length-set ts t.number (sitting ts t Active ws))

  -- ---- where one thread changes

  module _ (ts ts' : List Thread) (t : Item) (new : Thread) (change : Changed nobody ts ts' t.number new) (operations : List Operation) (stacks : List Stack)
      (others : Others ts operations (Some t) stacks) where
    -- the running thread changes
    pub others_kept : Others ts' operations (Some t) stacks
    others_kept u ne l =
        elim (found nobody ts ts' t.number new change u) as (λ _. Parked (asked_by u operations) (at ts' u) (stack_at stacks u)) [
          | inl q ↦ absurd (ne q.0)
          | inr q ↦ subst (λ x. Parked (asked_by u operations) x (stack_at stacks u)) (sym q.1) (others u ne (subst (λ (x : Thread). Lives x.phase) q.1 l))
        ]

    -- it runs no more, and is kept so; it may wait for an operation more, or for one less
    pub others_put : (operations' : List Operation) → ((u : ℕ) → t.number ≢ u → asked_by u operations' ≡ asked_by u operations) → (kept : Stack) → t.number < length stacks →
        (Lives new.phase → Parked (asked_by t.number operations') new kept) → Others ts' operations' None (set stacks t.number kept)
    others_put operations' same kept lt mine u ne l =
        let put = set_changed no_stack stacks t.number kept lt in
        elim (found nobody ts ts' t.number new change u) as (λ _. Parked (asked_by u operations') (at ts' u) (stack_at (set stacks t.number kept) u)) [
          | inl q ↦
              let here : stack_at (set stacks t.number kept) u ≡ kept = subst (λ z. stack_at (set stacks t.number kept) z ≡ kept) q.0 put.here in
              let own : Parked (asked_by u operations') new kept = subst (λ z. Parked (asked_by z operations') new kept) q.0 (mine (subst (λ (x : Thread). Lives x.phase) q.1 l)) in
              subst (λ x. Parked (asked_by u operations') (at ts' u) x) (sym here) (subst (λ x. Parked (asked_by u operations') x kept) (sym q.1) own)
          | inr q ↦
              let was = others u q.0 (subst (λ (x : Thread). Lives x.phase) q.1 l) in
              let now = subst (λ n. Parked n (at ts u) (stack_at stacks u)) (sym (same u q.0)) was in
              subst (λ x. Parked (asked_by u operations') (at ts' u) x) (sym (put.there u q.0)) (subst (λ x. Parked (asked_by u operations') x (stack_at stacks u)) (sym q.1) now)
        ]

    -- the same where it waits for none
    pub others_back : asked_by t.number operations ≡ 0 → (kept : Stack) → t.number < length stacks → (Lives new.phase → Parked 0 new kept) → Others ts' operations None (set stacks t.number kept)
    others_back none kept lt mine = others_put operations (λ u ne. refl) kept lt (λ l. subst (λ n. Parked n new kept) (sym none) (mine l))

  -- it goes on, in the same blocks
  pub on_together : (ts : List Thread) (t : Item) (ws : List Work) (activation : Activation)
      (x : Seat ts t ws activation) {marks : List Bool} {operations : List Operation} {ready : List Item} {stacks : List Stack}
      {bs : List (Option Block)} (work : List Work) → closes work ≡ activation.entered →
      Together (seated ts t ws) marks operations ready (Some t) stacks bs → Together (seated ts t work) marks operations ready (Some t) stacks bs
  on_together ts t ws activation x {marks} {operations} {ready} {stacks} {bs} work same h =
      let all = seated ts t ws in
      let all' = seated ts t work in
      let new = sitting ts t Active work in
      let change = x.changed Active work in
      let kept : entered new ≡ entered (at all t.number) = same ∙ sym x.has in
      record {
        stacks_are = still_stacks ts t ws activation x h Active work;
        blocks_are = h.blocks_are;
        good = same_good all all' t.number new change (length marks) h.good x.lives tt x.around kept;
        waits = waits_change all all' t.number new change h.waits (direct_change all all' t.number new change x.lives tt x.around) (λ b e. absurd (never_waits b e));
        listed = listed_same all all' t.number new change operations ready (Some t) (sym x.active) h.listed;
        tracks = tracks_same all all' t.number new change bs bs marks (length marks) h.good h.tracks refl x.lives (sym x.active) x.around kept;
        others = others_kept all all' t new change operations stacks h.others;
      }

  -- so the relation holds wherever the code stands that does the work
  pub stands_on : (s : Held) (t : Item) (ws : List Work) (ready : List Item) (ts : List Thread) (activation : Activation) (place : ℕ) (operands : List Cell) (stacks : List Stack)
      (bs : List (Option Block)) → (thread_at ts t).phase ≡ Active → activation.around ≡ (thread_at ts t).around →
      Together (seated ts t ws) s.marks s.operations ready (Some t) stacks bs → Works code activation place operands ws →
      Relates code Stands (around_of t activation ready stacks bs) (running s t ws ready ts)
  stands_on s t ws ready ts activation place operands stacks bs active round h w frame callers s' place' operands' ws' count b w' =
      let x = seat_of ts t ws activation active round (works_closes code activation place operands ws w) in
      let has = works_closes code (called activation frame callers) place' operands' ws' w' in
      runs s' t ws' ready ts (called activation frame callers) place' operands' stacks bs count active round (on_together ts t ws activation x ws' has (with_births s s' b h)) w'
