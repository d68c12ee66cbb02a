-- A state stays fit where its thread yields, and where another one runs.
-- A thread that goes is running, ready or waiting for an operation, once in all (`listed`); where it stops or is dispatched, this count
-- stays, and `stops_fit` says for each way to stop what else has to be given.
use Rattle.std.proofs.Common.{◌≡◌, ◌⊎◌, ℕ, ◌+◌, ◌<◌, List, [], ◌∷◌, ◌++◌, length, Option, Some, None, true, refl, sym, ap, ◌∙◌, subst, inl, inr, arith}
use Rattle.std.specs.Prelude.{All, slice_get, slice_set}
use Rattle.std.proofs.lemmas.Bool.{cases_eq}
use Rattle.std.proofs.lemmas.List.{length-set, get_or-set_same, get_or-set_other}
use Rattle.work_item.specs.declared.ids.Item.{Item}
use Rattle.work_item.specs.declared.ids.FrameId.{FrameId}
use Rattle.work_item.specs.declared.ids.BlockId.{BlockId}
use Rattle.work_item.specs.Store.{Store}
use Rattle.cancel_scope.specs.declared.operation.Operation.{Operation}
use Rattle.core_state.specs.Shared.{Shared}
use Rattle.stack_code.specs.declared.shape.Shape.{Shape}
use Rattle.stack_code.specs.declared.instr.Instr.TheVariants as i
use Rattle.stack_code.specs.Parts.{Parts}
use Rattle.stack_code.specs.declared.shape.Leads.TheVariants.{One}
use Rattle.stack_code.specs.Valid as valid
use Rattle.stack_code.specs.Valid.{Goes}
use Rattle.code_meaning.specs.Machine.{Thread, Block, Flat, block_at, thread_at, nobody, counted, stops}
use Rattle.code_safety.specs.Fit.{Birth, Born, IsStore, IsThread, HaveKinds, Going, AtFinish, Life, no_life, life_at, is_living, is_going, innermost}
use Rattle.code_safety.specs.Fit.{innermost_in}
use Rattle.code_safety.specs.Fit.{AreInBodies, HasEntered, IsBlock, IsWaiting, IsAlive, IsFit, one_if, one_at, occurs, runs, own_blocks, items_of, going_on, IsAsked}
use Rattle.code_safety.proofs.Lasting.{Grown, Carries, KeepsBlocks, IsBefore, AreRooted, thread_kept, callers_as}
use Rattle.code_safety.proofs.Lives.{same_item, one_same, one_true, one_at_most, life_cases, going_is, going_lives, occurs_append}
use Rattle.code_safety.proofs.Waiting.{waits_for_none}
use Rattle.code_safety.proofs.Own.{phase_of, lives_of, within_of, thread_of, same_phase, same_start, block_kept}

-- ---- a thread of which nothing changes

module _ (code : Parts) (births more : List Birth) (grown : Grown births more) (s t : Store) (P : FrameId → Type 0) (carries : Carries s t P) (old new : List (Option Block))
    (rooted : AreRooted old) where
  pub alive_kept : (u : Item) (l : Life) (k : ℕ) → ((g : FrameId) (birth : Birth) → Born births g birth → birth.item ≡ u → P g) → KeepsBlocks old new u k → IsBefore k l.thread.block →
      ((b : BlockId) (x : Block) → l.start ≡ Some b → block_at old b ≡ Some x → (y : Block) × ((block_at new b ≡ Some y) × (y.owner ≡ x.owner))) →
      ((b : BlockId) → l.phase ≡ AtFinish b → IsWaiting old u b l.thread → IsWaiting new u b l.thread) → IsAlive code births s old u l → IsAlive code more t new u l
  alive_kept u l k all keeps before start wait a = record {
    thread = thread_kept code births more grown s t P carries old new rooted u l.start l.thread k all keeps before a.thread;
    started = λ b e.
        let i = a.started b e in
        let y = start b i.block e i.here in
        record { block = y.0; here = y.1.0; older = subst (λ (o : Item). o.number < u.number) (sym y.1.1) i.older };
    waiting = λ b e. wait b e (a.waiting b e);
  }

-- the same activation at the next address, with another shape of the same bodies
pub next_thread : (code : Parts) (births : List Birth) (s : Store) (blocks : List (Option Block)) (t : Item) (start : Option BlockId) (h : Thread) (i : IsThread code births s blocks t start h)
    (place : ℕ)
    (shape : Shape) (after : List (Option Block)) (block : Option BlockId) → Goes code h.place i.shape place shape → shape.bodies ≡ i.shape.bodies → shape.operands ≡ i.shape.operands
    → AreInBodies (length shape.bodies) shape.blocks → HasEntered after t start (own_blocks shape + i.below) block → IsThread code births s after t start (record h { place = place; block = block })
next_thread code births s blocks t start h i place shape after block goes bodies operands inside entered = record {
  shape = shape;
  top = record {
    reached = valid.goes h.place i.shape place shape i.top.reached goes;
    have = subst (λ ks. HaveKinds code births ks h.operands) (sym operands) i.top.have;
    bodies = rw bodies i.top.bodies;
    goes = i.top.goes;
    blocks = inside;
  };
  below = i.below;
  callers = callers_as code births s t start h.frame i.shape shape h.callers i.below bodies i.callers;
  entered = entered;
}

-- ---- the running thread stops

-- how often a thread is ready or waits for the end of an operation
abbrev pub resting : Flat → ℕ → ℕ
resting m u = occurs u m.ready + occurs u (items_of m.operations)

module _ (code : Parts) (m : Flat) (fit : IsFit code m) (t : Item) (run : m.running ≡ Some t) where
  pub running_once : occurs t.number m.ready ≡ 0
  running_once =
      let l = fit.listed t.number in
      let r : runs t.number m.running ≡ 1 = ap (runs t.number) run ∙ one_same t.number in
      let most = one_at_most (is_going (life_at fit.lives t).phase) in
      omega (arith, l, r, most)

  -- and it waits for the end of no operation
  pub running_free : occurs t.number (items_of m.operations) ≡ 0
  running_free =
      let l = fit.listed t.number in
      let r : runs t.number m.running ≡ 1 = ap (runs t.number) run ∙ one_same t.number in
      let most = one_at_most (is_going (life_at fit.lives t).phase) in
      omega (arith, l, r, most)

  pub running_rests : resting m t.number ≡ 0
  running_rests = let r = running_once in let f = running_free in omega (arith, r, f)

  pub going_free : (h : Thread) → going_on m.operations t h ≡ h
  going_free h = waits_for_none t h m.operations running_free

  -- for each thread but the running one, that it is ready or waits for the end of an operation where it goes
  pub listed_other : (u : ℕ) → one_at u t + resting m u ≡ one_if (is_going (life_at fit.lives (record { number = u })).phase)
  listed_other u = ap (λ o. runs u o + resting m u) (sym run) ∙ fit.listed u

  -- A state in which the running thread has stopped: what is asked of births, lives, store and blocks for it to be fit.
  module _ (births : List Birth) (lives : List Life) (shared : Shared) (store : Store) (is_store : IsStore code births store) (operations : List Operation) (kept : Thread) (ready : List Item)
      (blocks : List (Option Block)) (count : ℕ)
      (alive : (u : Item) → is_living (life_at lives u).phase ≡ true → IsAlive code births store blocks u (life_at lives u))
      (block : (b : BlockId) (x : Block) → block_at blocks b ≡ Some x → IsBlock lives blocks b x)
      (first : is_living (life_at lives (record { number = 0 })).phase ≡ true) (free : (life_at lives (record { number = 0 })).start ≡ None)
      (listed : (u : ℕ) → occurs u ready + occurs u (items_of operations) ≡ one_if (is_going (life_at lives (record { number = u })).phase))
      (asks : All (λ (o : Operation). IsAsked code births o.link o.asked) operations) (many : length lives ≡ length fit.lives)
      (own : is_living (life_at lives t).phase ≡ true → going_on operations t kept ≡ (life_at lives t).thread)
      (aside : (u : Item) (h : Thread) → (t ≡ u → ⊥) → going_on operations u h ≡ going_on m.operations u h)
      (others : (u : Item) → (t ≡ u → ⊥) → is_living (life_at lives u).phase ≡ true → (is_living (life_at fit.lives u).phase ≡ true) × ((life_at fit.lives u).thread ≡ (life_at lives u).thread)) where
    pub stops_fit : IsFit code
        (record {
          shared = shared;
          store = store;
          operations = operations;
          running = None;
          current = nobody;
          ready = ready;
          threads = slice_set m.threads t.number kept;
          blocks = blocks;
          count = count;
        })
    stops_fit = record {
      births = births;
      lives = lives;
      store = is_store;
      alive = alive;
      block = block;
      first = first;
      free = free;
      listed = λ u. let l = listed u in omega (arith, l);
      asks = asks;
      many = many ∙ fit.many ∙ sym (length-set m.threads t.number kept);
      current = λ u e. let no : None ≡ Some u = e in absurd (cc);
      parked = λ u h not. parked u h (cases_eq t.number u.number);
    }
      where
        parked : (u : Item) → is_living (life_at lives u).phase ≡ true → (t.number ≡ u.number) ⊎ (t.number ≡ u.number → ⊥)
            → going_on operations u (thread_at (slice_set m.threads t.number kept) u) ≡ (life_at lives u).thread
        parked u h (inl e) =
            let lt : t.number < length m.threads = let w = within_of code m fit t run in let l = fit.many in omega (arith, w, l) in
            let same = same_item t u e in
            subst (λ (x : Item). going_on operations x (thread_at (slice_set m.threads t.number kept) x) ≡ (life_at lives x).thread) same
            (ap (going_on operations t) (get_or-set_same m.threads t.number kept nobody lt) ∙ own (subst (λ (x : Item). is_living (life_at lives x).phase ≡ true) (sym same) h))
        parked u h (inr ne) =
            let differ : t ≡ u → ⊥ = λ e. ne (ap (λ (x : Item). x.number) e) in
            let o = others u differ h in
            ap (going_on operations u) (get_or-set_other m.threads t.number u.number kept nobody (λ e. ne (sym e))) ∙ aside u (thread_at m.threads u) differ
            ∙ fit.parked u o.0 (λ e. let both : Some t ≡ Some u = sym run ∙ e in differ (cc)) ∙ o.1

-- ---- the running thread stops, and will go on later

module _ (code : Parts) (m : Flat) (fit : IsFit code m) (t : Item) (run : m.running ≡ Some t) (later : Thread) (same_block : later.block ≡ m.current.block)
    (thread : IsThread code fit.births m.store m.blocks t (life_at fit.lives t).start later) where
  abbrev was : Life
  was = life_at fit.lives t

  abbrev now : Life
  now = record was { thread = later }

  abbrev lives : List Life
  lives = slice_set fit.lives t.number now

  within : t.number < length fit.lives
  within = within_of code m fit t run

  inner : innermost now ≡ innermost was
  inner = ap (innermost_in was.phase) (same_block ∙ ap (λ (x : Thread). x.block) (fit.current t run))

  phase_same : (u : Item) → (life_at lives u).phase ≡ (life_at fit.lives u).phase
  phase_same u = same_phase fit.lives t now within refl refl inner u

  alive : (u : Item) → is_living (life_at lives u).phase ≡ true → IsAlive code fit.births m.store m.blocks u (life_at lives u)
  alive u e = elim (life_cases fit.lives t u now within) as (λ _. IsAlive code fit.births m.store m.blocks u (life_at lives u)) [
    | inl p ↦
        let a = fit.alive t (lives_of code m fit t run) in
        let mine : IsAlive code fit.births m.store m.blocks t now =
        record { thread = thread; started = a.started; waiting = λ b w. absurd (let no : Going ≡ AtFinish b = sym (phase_of code m fit t run) ∙ w in cc) } in
        subst (λ l. IsAlive code fit.births m.store m.blocks u l) (sym p.1) (subst (λ x. IsAlive code fit.births m.store m.blocks x now) p.0 mine)
    | inr p ↦ subst (λ l. IsAlive code fit.births m.store m.blocks u l) (sym p.1) (fit.alive u (sym (ap is_living (phase_same u)) ∙ e))
  ]

  pub rests_fit : (kept : Thread) (ready : List Item) (operations : List Operation) → All (λ (o : Operation). IsAsked code fit.births o.link o.asked) operations →
      ((u : ℕ) → occurs u ready + occurs u (items_of operations) ≡ one_at u t + resting m u) → going_on operations t kept ≡ later →
      ((u : Item) (h : Thread) → (t ≡ u → ⊥) → going_on operations u h ≡ going_on m.operations u h) →
      IsFit code (record (stops m t kept ready m.blocks) { operations = operations })
  rests_fit kept ready operations asks more on aside = stops_fit code m fit t run fit.births lives m.shared m.store fit.store operations kept ready m.blocks (counted m.count) alive
      (λ b x there. block_kept fit.lives t now within refl refl inner m.blocks b x (fit.block b x there))
      (ap is_living (phase_same (record { number = 0 })) ∙ fit.first) (same_start fit.lives t now within refl refl inner (record { number = 0 }) ∙ fit.free)
      listed asks (length-set fit.lives t.number now) own aside others
    where
      listed : (u : ℕ) → occurs u ready + occurs u (items_of operations) ≡ one_if (is_going (life_at lives (record { number = u })).phase)
      listed u = more u ∙ listed_other code m fit t run u ∙ ap (λ p. one_if (is_going p)) (sym (phase_same (record { number = u })))

      own : is_living (life_at lives t).phase ≡ true → going_on operations t kept ≡ (life_at lives t).thread
      own e = on ∙ sym (ap (λ (l : Life). l.thread) (get_or-set_same fit.lives t.number now no_life within))

      others : (u : Item) → (t ≡ u → ⊥) → is_living (life_at lives u).phase ≡ true → (is_living (life_at fit.lives u).phase ≡ true) × ((life_at fit.lives u).thread ≡ (life_at lives u).thread)
      others u ne e = elim (life_cases fit.lives t u now within) as (λ _. (is_living (life_at fit.lives u).phase ≡ true) × ((life_at fit.lives u).thread ≡ (life_at lives u).thread)) [
        | inl p ↦ absurd (ne p.0)
        | inr p ↦ (sym (ap is_living (phase_same u)) ∙ e, sym (ap (λ (l : Life). l.thread) p.1))
      ]

-- ---- yield

module _ (code : Parts) (m : Flat) (fit : IsFit code m) (t : Item) (run : m.running ≡ Some t) (here : slice_get code.instrs m.current.place ≡ Some i.Yield) where
  abbrev h : IsThread code fit.births m.store m.blocks t (life_at fit.lives t).start m.current
  h = thread_of code m fit t run

  abbrev yielded : Thread
  yielded = record m.current { place = m.current.place + 1 }

  goes_on : Goes code m.current.place h.shape (m.current.place + 1) h.shape
  goes_on = record { fits = record { instr = i.Yield; leads = One (m.current.place + 1) h.shape; here = here; finds = refl }; leads = (refl, refl) }

  after : IsThread code fit.births m.store m.blocks t (life_at fit.lives t).start yielded
  after = next_thread code fit.births m.store m.blocks t (life_at fit.lives t).start m.current h (m.current.place + 1) h.shape m.blocks m.current.block goes_on refl refl h.top.blocks h.entered

  pub yield_fit : IsFit code (stops m t yielded (m.ready ++ t ∷ []) m.blocks)
  yield_fit = rests_fit code m fit t run yielded refl after yielded (m.ready ++ t ∷ []) m.operations fit.asks
      (λ u. let a : occurs u (m.ready ++ t ∷ []) ≡ occurs u m.ready + (one_at u t + 0) = occurs_append u m.ready (t ∷ []) in omega (arith, a)) (going_free code m fit t run yielded)
      (λ u h ne. refl)

-- ---- another thread runs

module _ (code : Parts) (m : Flat) (fit : IsFit code m) (idle : m.running ≡ None) (t : Item) (ready : List Item) (first : m.ready ≡ t ∷ ready) where
  listed_now : (u : ℕ) → one_at u t + (occurs u ready + occurs u (items_of m.operations)) ≡ one_if (is_going (life_at fit.lives (record { number = u })).phase)
  listed_now u =
      let l : 0 + ((one_at u t + occurs u ready) + occurs u (items_of m.operations)) ≡ one_if (is_going (life_at fit.lives (record { number = u })).phase) =
      ap (λ o. runs u o + (occurs u (t ∷ ready) + occurs u (items_of m.operations))) (sym idle) ∙ ap (λ r. runs u m.running + (occurs u r + occurs u (items_of m.operations))) (sym first)
      ∙ fit.listed u in
      omega (arith, l)

  pub front_goes : is_going (life_at fit.lives t).phase ≡ true
  front_goes =
      let l = listed_now t.number in
      let one = one_same t.number in
      let most = one_at_most (is_going (life_at fit.lives t).phase) in
      one_true (is_going (life_at fit.lives t).phase) (omega (arith, l, one, most))

  -- it is ready once, and waits for the end of no operation
  pub front_once : (occurs t.number ready ≡ 0) × (occurs t.number (items_of m.operations) ≡ 0)
  front_once =
      let l = listed_now t.number in
      let one = one_same t.number in
      let most = one_at_most (is_going (life_at fit.lives t).phase) in
      (omega (arith, l, one, most), omega (arith, l, one, most))

  front_lives : is_living (life_at fit.lives t).phase ≡ true
  front_lives = going_lives (life_at fit.lives t).phase (going_is (life_at fit.lives t).phase front_goes)

  pub dispatch_fit : (shared : Shared) → IsFit code (record m { shared = shared; running = Some t; current = thread_at m.threads t; ready = ready; threads = slice_set m.threads t.number nobody })
  dispatch_fit shared = record {
    births = fit.births;
    lives = fit.lives;
    store = fit.store;
    alive = fit.alive;
    block = fit.block;
    first = fit.first;
    free = fit.free;
    listed = listed_now;
    asks = fit.asks;
    many = fit.many ∙ sym (length-set m.threads t.number nobody);
    current = λ u e.
        let same : t ≡ u = cc in
        sym (waits_for_none t (thread_at m.threads t) m.operations front_once.1) ∙ fit.parked t front_lives (λ k. let no : None ≡ Some t = sym idle ∙ k in cc)
        ∙ ap (λ x. (life_at fit.lives x).thread) same;
    parked = λ u h not.
        ap (going_on m.operations u) (get_or-set_other m.threads t.number u.number nobody nobody (λ e. not (ap (λ x. Some x) (same_item t u (sym e)))))
        ∙ fit.parked u h (λ k. let no : None ≡ Some u = sym idle ∙ k in cc);
  }
