-- A state stays fit where only the running thread's activation changes, with what it sets and the frames that are its own.
-- Most kinds of move are of this form: the life of one thread is set, with its phase, start and innermost block as they were, so no block
-- and no other thread sees a change.
use Rattle.std.proofs.Common.{◌≡◌, ◌⊎◌, ℕ, suc, ◌≤◌, ◌<◌, List, length, Option, Some, None, Bool, true, false, refl, sym, ap, ◌∙◌, subst, inl, inr, arith}
use Rattle.std.specs.Prelude.{slice_set}
use Rattle.std.proofs.lemmas.List.{length-set}
use Rattle.work_item.specs.declared.ids.Item.{Item}
use Rattle.work_item.specs.declared.ids.FrameId.{FrameId}
use Rattle.work_item.specs.declared.ids.BlockId.{BlockId}
use Rattle.work_item.specs.Store.{Store}
use Rattle.core_state.specs.Shared.{Shared}
use Rattle.stack_code.specs.Parts.{Parts}
use Rattle.code_meaning.specs.Machine.{Thread, Block, Flat, thread_at}
use Rattle.code_safety.specs.Fit.{Birth, Born, IsStore, IsThread, Going, AtFinish, Life, no_life, life_at, is_living, is_going, starts_in, total, innermost, innermost_in}
use Rattle.code_safety.specs.Fit.{IsBlock, IsAlive, IsFit, one_if, runs, going_on}
use Rattle.code_safety.proofs.Lasting.{Grown, Carries, KeepsBlocks, IsBefore, AreRooted, thread_kept}
use Rattle.code_safety.proofs.Waiting.{asks_grown}
use Rattle.code_safety.proofs.Lives.{total_same, one_same, one_true, life_cases, living_within, going_is, going_lives}

-- ---- what a fit state says of its running thread

module _ (code : Parts) (m : Flat) (fit : IsFit code m) where
  pub rooted_of : AreRooted m.blocks
  rooted_of b x p here up = ((fit.block b x here).rooted p up).0

  module _ (t : Item) (run : m.running ≡ Some t) where
    pub phase_of : (life_at fit.lives t).phase ≡ Going
    phase_of =
        let l = fit.listed t.number in
        let r : runs t.number m.running ≡ 1 = ap (runs t.number) run ∙ one_same t.number in
        let one : one_if (is_going (life_at fit.lives t).phase) ≡ 1 = small (is_going (life_at fit.lives t).phase) (omega (arith, l, r)) in
        going_is (life_at fit.lives t).phase (one_true (is_going (life_at fit.lives t).phase) one)
      where
        small : (b : Bool) → 1 ≤ one_if b → one_if b ≡ 1
        small true h = refl
        small false h = absurd (omega (arith, h))

    pub lives_of : is_living (life_at fit.lives t).phase ≡ true
    lives_of = going_lives (life_at fit.lives t).phase phase_of

    pub within_of : t.number < length fit.lives
    within_of = living_within fit.lives t lives_of

    pub thread_of : IsThread code fit.births m.store m.blocks t (life_at fit.lives t).start m.current
    thread_of = subst (IsThread code fit.births m.store m.blocks t (life_at fit.lives t).start) (sym (fit.current t run)) (fit.alive t lives_of).thread

pub block_bound : Option BlockId → ℕ
block_bound None = 0
block_bound (Some b) = suc b.number

pub is_bound : (o : Option BlockId) → IsBefore (block_bound o) o
unfolding block_bound
is_bound None = tt
is_bound (Some b) = omega arith

pub bound_below : (o : Option BlockId) (n : ℕ) → ((b : BlockId) → o ≡ Some b → b.number < n) → block_bound o ≤ n
unfolding block_bound
bound_below None n h = omega arith
bound_below (Some b) n h = h b refl

pub all_kept : (blocks : List (Option Block)) (t : Item) (k : ℕ) → KeepsBlocks blocks blocks t k
all_kept blocks t k b x here owner lt = (x, (here, (refl, refl)))

-- ---- lives that differ in one thread alone, of which phase, start and innermost block stay

module _ (lives : List Life) (t : Item) (l : Life) (lt : t.number < length lives) (phase : l.phase ≡ (life_at lives t).phase) (start : l.start ≡ (life_at lives t).start)
    (inner : innermost l ≡ innermost (life_at lives t)) where
  abbrev lives' : List Life
  lives' = slice_set lives t.number l

  -- what each life says of a thread that does not change
  same_of : {A : Type 0} (f : Life → A) → f l ≡ f (life_at lives t) → (u : Item) → f (life_at lives' u) ≡ f (life_at lives u)
  same_of f e u = elim (life_cases lives t u l lt) as (λ _. f (life_at lives' u) ≡ f (life_at lives u)) [
    | inl p ↦ ap f p.1 ∙ e ∙ ap (λ x. f (life_at lives x)) p.0
    | inr p ↦ ap f p.1
  ]

  pub same_phase : (u : Item) → (life_at lives' u).phase ≡ (life_at lives u).phase
  same_phase u = same_of (λ (x : Life). x.phase) phase u

  pub same_start : (u : Item) → (life_at lives' u).start ≡ (life_at lives u).start
  same_start u = same_of (λ (x : Life). x.start) start u

  pub same_inner : (u : Item) → innermost (life_at lives' u) ≡ innermost (life_at lives u)
  same_inner u = same_of innermost inner u

  pub same_count : (b : BlockId) → total (starts_in b) lives' ≡ total (starts_in b) lives
  same_count b = total_same (starts_in b) lives t.number l no_life lt (rw (phase, start) refl)

  pub block_kept : (blocks : List (Option Block)) (b : BlockId) (x : Block) → IsBlock lives blocks b x → IsBlock lives' blocks b x
  block_kept blocks b x h = record {
    inner = h.inner;
    innermost = same_inner x.owner ∙ h.innermost;
    within = h.within;
    nested = h.nested;
    rooted = λ p up. let r = h.rooted p up in (
      r.0,
      (
        r.1.0,
        (
          r.1.1.0,
          elim r.1.1.1 as (λ _. (r.1.0.owner ≡ x.owner) ⊎ ((life_at lives' x.owner).start ≡ Some p)) [
            | inl e ↦ inl e
            | inr e ↦ inr (same_start x.owner ∙ e)
          ],
        ),
      ),
    );
    newer = λ a e. h.newer a (sym (same_start x.owner) ∙ e);
    count = h.count ∙ sym (same_count b);
    waits = λ w. same_phase x.owner ∙ h.waits w;
  }

-- ---- the running thread alone

module _ (code : Parts) (m : Flat) (fit : IsFit code m) (t : Item) (run : m.running ≡ Some t) (births : List Birth) (grown : Grown fit.births births) (store : Store) (P : FrameId → Type 0)
    (carries : Carries m.store store P) (is_store : IsStore code births store) (others : (g : FrameId) (birth : Birth) → Born fit.births g birth → (birth.item ≡ t → ⊥) → P g)
    (shared : Shared) (current : Thread) (count : ℕ) (thread : IsThread code births store m.blocks t (life_at fit.lives t).start current) (block : current.block ≡ m.current.block) where
  abbrev was : Life
  was = life_at fit.lives t

  abbrev now : Life
  now = record was { thread = current }

  abbrev lives : List Life
  lives = slice_set fit.lives t.number now

  within : t.number < length fit.lives
  within = within_of code m fit t run

  abbrev next : Flat
  next = record m { shared = shared; store = store; current = current; count = count }

  inner : innermost now ≡ innermost was
  inner = ap (innermost_in was.phase) (block ∙ ap (λ (h : Thread). h.block) (fit.current t run))

  phase_same : (u : Item) → (life_at lives u).phase ≡ (life_at fit.lives u).phase
  phase_same u = same_phase fit.lives t now within refl refl inner u

  alive : (u : Item) → is_living (life_at lives u).phase ≡ true → IsAlive code births store m.blocks u (life_at lives u)
  alive u h = elim (life_cases fit.lives t u now within) as (λ _. IsAlive code births store m.blocks u (life_at lives u)) [
    | inl p ↦ subst (λ l. IsAlive code births store m.blocks u l) (sym p.1) (subst (λ x. IsAlive code births store m.blocks x now) p.0 mine)
    | inr p ↦ subst (λ l. IsAlive code births store m.blocks u l) (sym p.1) (theirs p.0)
  ]
    where
      mine : IsAlive code births store m.blocks t now
      mine = let a = fit.alive t (lives_of code m fit t run) in
          record { thread = thread; started = a.started; waiting = λ b w. absurd (let no : Going ≡ AtFinish b = sym (phase_of code m fit t run) ∙ w in cc) }

      theirs : (t ≡ u → ⊥) → IsAlive code births store m.blocks u (life_at fit.lives u)
      theirs ne =
          let a = fit.alive u (sym (ap is_living (phase_same u)) ∙ h) in
          let l = life_at fit.lives u in
          record {
            thread = thread_kept code fit.births births grown m.store store P carries m.blocks m.blocks (rooted_of code m fit) u l.start l.thread (block_bound l.thread.block)
                (λ g birth born is. others g birth born (λ e. ne (sym e ∙ is))) (all_kept m.blocks u (block_bound l.thread.block)) (is_bound l.thread.block) a.thread;
            started = a.started;
            waiting = a.waiting;
          }

  pub own_fit : IsFit code next
  own_fit = record {
    births = births;
    lives = lives;
    store = is_store;
    alive = alive;
    block = λ b x here. block_kept fit.lives t now within refl refl inner m.blocks b x (fit.block b x here);
    first = ap is_living (phase_same (record { number = 0 })) ∙ fit.first;
    free = same_start fit.lives t now within refl refl inner (record { number = 0 }) ∙ fit.free;
    listed = λ u. fit.listed u ∙ ap (λ p. one_if (is_going p)) (sym (phase_same (record { number = u })));
    many = length-set fit.lives t.number now ∙ fit.many;
    current = λ u e. own_current u e;
    asks = asks_grown code fit.births births grown m.operations fit.asks;
    parked = λ u h not. own_parked u h not;
  }
    where
      own_current : (u : Item) → m.running ≡ Some u → current ≡ (life_at lives u).thread
      own_current u e = elim (life_cases fit.lives t u now within) as (λ _. current ≡ (life_at lives u).thread) [
        | inl p ↦ sym (ap (λ (l : Life). l.thread) p.1)
        | inr p ↦ absurd (let both : Some t ≡ Some u = sym run ∙ e in p.0 (cc))
      ]

      own_parked : (u : Item) → is_living (life_at lives u).phase ≡ true → (m.running ≡ Some u → ⊥) → going_on m.operations u (thread_at m.threads u) ≡ (life_at lives u).thread
      own_parked u h not = elim (life_cases fit.lives t u now within) as (λ _. going_on m.operations u (thread_at m.threads u) ≡ (life_at lives u).thread) [
        | inl p ↦ absurd (not (run ∙ ap (λ x. Some x) p.0))
        | inr p ↦ fit.parked u (sym (ap is_living (phase_same u)) ∙ h) not ∙ sym (ap (λ (l : Life). l.thread) p.1)
      ]
