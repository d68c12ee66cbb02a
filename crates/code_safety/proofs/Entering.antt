-- A state stays fit where its thread enters a block.
-- The new block is the newest of the table and lies in the innermost one of its thread, and a slot of the innermost body keeps its number.
-- No thread was started in it.
use Rattle.std.proofs.Common.{◌≡◌, ◌⊎◌, ℕ, ◌+◌, ◌≤◌, ◌<◌, List, [], ◌∷◌, ◌++◌, length, Option, Some, None, true, false, refl, sym, ap, ◌∙◌, subst, inl, inr, arith}
use Rattle.std.specs.Prelude.{slice_get, slice_set, nat_eq, if◌then◌else◌}
use Rattle.std.proofs.lemmas.List.{length-set}
use Rattle.work_item.specs.declared.ids.Item.{Item}
use Rattle.work_item.specs.declared.ids.FrameId.{FrameId}
use Rattle.work_item.specs.declared.ids.BlockId.{BlockId}
use Rattle.work_item.specs.declared.cell.Cell.TheVariants as cell
use Rattle.work_item.specs.Store.{Store}
use Rattle.core_state.specs.Frames.{with_entered}
use Rattle.stack_code.specs.declared.instr.Instr.TheVariants as i
use Rattle.stack_code.specs.declared.shape.Home.{Home}
use Rattle.stack_code.specs.declared.shape.Body.{Body}
use Rattle.stack_code.specs.declared.shape.Shape.{Shape}
use Rattle.stack_code.specs.declared.shape.Leads.{Leads}
use Rattle.stack_code.specs.declared.shape.Leads.TheVariants.{One}
use Rattle.stack_code.specs.Parts.{Parts}
use Rattle.stack_code.specs.Shapes as shapes
use Rattle.stack_code.specs.Shapes.{effect, entered, body_with, is_entered}
use Rattle.stack_code.specs.Valid as valid
use Rattle.stack_code.specs.Valid.{IsValid, Goes, Uses, AsBlock}
use Rattle.code_meaning.specs.Machine.{Flat, Thread, Block, counted, block_at, thread_at}
use Rattle.code_safety.specs.Fit.{Birth, Born, IsSlot, AreBodies, last, more, HasEntered, outside, inside, IsThread, Going, AtFinish, Life, no_life, life_at, is_living}
use Rattle.code_safety.specs.Fit.{is_going, starts_in, total}
use Rattle.code_safety.specs.Fit.{innermost, innermost_in, IsBlock, IsAlive, IsFit, one_if, own_blocks, own_in, going_on}
use Rattle.code_safety.proofs.Taken.{on_some_is, if_not_is}
use Rattle.code_safety.proofs.Lasting.{KeepsBlocks, entered_kept, thread_kept}
use Rattle.code_safety.proofs.Settings.{KeepsStore, set_slot, used_as_block}
use Rattle.code_safety.proofs.Plain.{InFrame, in_frame, at_same_birth}
use Rattle.code_safety.proofs.Making.{at_end, still_there, new_there, there_within}
use Rattle.code_safety.proofs.Lives.{one_same, same_block, life_cases, life_same, total_same, total_none}
use Rattle.code_safety.proofs.Own.{rooted_of, phase_of, lives_of, within_of, thread_of, block_bound, is_bound, all_kept}
use Rattle.code_safety.proofs.Turns.{alive_kept, next_thread}

pub some_body : (births : List Birth) (s : Store) (bodies : List Body) (f : FrameId) → AreBodies births s bodies f → 1 ≤ length bodies
some_body births s _ _ (last body f h) = omega arith
some_body births s _ _ (more body bodies f p h up lt rest) = omega arith

-- the innermost block of a thread was entered by it, or it was started in it
pub data Stands (blocks : List (Option Block)) (t : Item) (start : Option BlockId) (b : BlockId) : Type 0 where
  own : (x : Block) → block_at blocks b ≡ Some x → x.owner ≡ t → Stands blocks t start b
  round : start ≡ Some b → Stands blocks t start b

pub stands_in : (blocks : List (Option Block)) (t : Item) (start : Option BlockId) (n : ℕ) (o : Option BlockId) (b : BlockId) → o ≡ Some b → HasEntered blocks t start n o → Stands blocks t start b
stands_in blocks t start _ _ b e outside = round e
stands_in blocks t start _ _ b e (inside n c x here owner rest) =
    let same : c ≡ b = cc in
    own x (subst (λ k. block_at blocks k ≡ Some x) same here) owner

module _ (code : Parts) (bound : ℕ) (m : Flat) (fit : IsFit code m) (t : Item) (run : m.running ≡ Some t) (v : IsValid code) (slot : ℕ)
    (here : slice_get code.instrs m.current.place ≡ Some (i.Enter slot)) where
  abbrev h : IsThread code fit.births m.store m.blocks t (life_at fit.lives t).start m.current
  h = thread_of code m fit t run

  abbrev s : Shape
  s = h.shape

  abbrev place : ℕ
  place = m.current.place

  abbrev b : BlockId
  b = record { number = length m.blocks }

  abbrev new : Block
  new = record { parent = m.current.block; owner = t; count = 0; waits = false; cancelled = false }

  abbrev blocks : List (Option Block)
  blocks = m.blocks ++ Some new ∷ []

  abbrev store : Store
  store = with_entered m.store m.current.frame slot (length m.blocks)

  abbrev current : Thread
  current = record m.current { place = place + 1; block = Some b }

  abbrev was : Life
  was = life_at fit.lives t

  abbrev now : Life
  now = record was { thread = current }

  abbrev lives : List Life
  lives = slice_set fit.lives t.number now

  within : t.number < length fit.lives
  within = within_of code m fit t run

  phase_same : (u : Item) → (life_at lives u).phase ≡ (life_at fit.lives u).phase
  phase_same u = life_same fit.lives t now within (λ (l : Life). l.phase) refl u

  start_same : (u : Item) → (life_at lives u).start ≡ (life_at fit.lives u).start
  start_same u = life_same fit.lives t now within (λ (l : Life). l.start) refl u

  count_same : (c : BlockId) → total (starts_in c) lives ≡ total (starts_in c) fit.lives
  count_same c = total_same (starts_in c) fit.lives t.number now no_life within refl

  inner_now : innermost now ≡ Some b
  inner_now = ap (λ p. innermost_in p (Some b)) (phase_of code m fit t run)

  inner_was : innermost was ≡ m.current.block
  inner_was = ap (λ p. innermost_in p was.thread.block) (phase_of code m fit t run) ∙ ap (λ (x : Thread). x.block) (sym (fit.current t run))

  there : (c : BlockId) (x : Block) → block_at m.blocks c ≡ Some x → block_at blocks c ≡ Some x
  there c x e = still_there m.blocks (Some new) c.number x e

  keeps : (u : Item) (k : ℕ) → KeepsBlocks m.blocks blocks u k
  keeps u k c x e owner lt = (x, (there c x e, (refl, refl)))

  -- ---- blocks

  old_block : (c : BlockId) (x : Block) → block_at m.blocks c ≡ Some x → IsBlock lives blocks c x
  old_block c x e =
      let o = fit.block c x e in
      let inner = elim (life_cases fit.lives t x.owner now within) as (λ _. (q : BlockId) × ((innermost (life_at lives x.owner) ≡ Some q) × (c.number ≤ q.number))) [
        | inl p ↦ (b, (ap innermost p.1 ∙ inner_now, let lt = there_within m.blocks c.number x e in omega (arith, lt)))
        | inr p ↦ (o.inner, (ap innermost p.1 ∙ o.innermost, o.within))
      ] in
      record {
        inner = inner.0;
        innermost = inner.1.0;
        within = inner.1.1;
        nested = λ d y f owner lt. elim (at_end m.blocks new d.number y f) as (λ _. (p : BlockId) × ((x.parent ≡ Some p) × (d.number ≤ p.number))) [
          | inl q ↦ o.nested d y q owner lt
          | inr q ↦ absurd (let w = there_within m.blocks c.number x e in let z = q.0 in omega (arith, w, z, lt))
        ];
        rooted = λ p up.
            let r = o.rooted p up in
            (r.0, (r.1.0, (there p r.1.0 r.1.1.0, elim r.1.1.1 as (λ _. (r.1.0.owner ≡ x.owner) ⊎ ((life_at lives x.owner).start ≡ Some p)) [ inl k ↦ inl k | inr k ↦ inr (start_same x.owner ∙ k) ])));
        newer = λ a k. o.newer a (sym (start_same x.owner) ∙ k);
        count = o.count ∙ sym (count_same c);
        waits = λ w. phase_same x.owner ∙ o.waits w;
      }

  started_there : (u : Item) (a : BlockId) → is_living (life_at fit.lives u).phase ≡ true → (life_at fit.lives u).start ≡ Some a → a.number < length m.blocks
  started_there u a l e = let i = (fit.alive u l).started a e in there_within m.blocks a.number i.block i.here

  parent_stands : (p : BlockId) → m.current.block ≡ Some p → (y : Block) × ((block_at m.blocks p ≡ Some y) × ((y.owner ≡ t) ⊎ (was.start ≡ Some p)))
  parent_stands p e = go (stands_in m.blocks t was.start (own_blocks s + h.below) m.current.block p e h.entered)
    where
      go : Stands m.blocks t was.start p → (y : Block) × ((block_at m.blocks p ≡ Some y) × ((y.owner ≡ t) ⊎ (was.start ≡ Some p)))
      go (own x here owner) = (x, (here, inl owner))
      go (round f) = let i = (fit.alive t (lives_of code m fit t run)).started p f in (i.block, (i.here, inr f))

  own_same : innermost (life_at lives t) ≡ Some b
  own_same = elim (life_cases fit.lives t t now within) as (λ _. innermost (life_at lives t) ≡ Some b) [ inl p ↦ ap innermost p.1 ∙ inner_now | inr p ↦ absurd (p.0 refl) ]

  new_block : IsBlock lives blocks b new
  new_block = record {
    inner = b;
    innermost = own_same;
    within = omega arith;
    nested = λ d y f owner lt. elim (at_end m.blocks new d.number y f) as (λ _. (p : BlockId) × ((m.current.block ≡ Some p) × (d.number ≤ p.number))) [
      | inl q ↦
          let o = fit.block d y q in
          (o.inner, (sym inner_was ∙ ap (λ u. innermost (life_at fit.lives u)) (sym owner) ∙ o.innermost, o.within))
      | inr q ↦ absurd (let z = q.0 in omega (arith, z, lt))
    ];
    rooted = λ p up.
        let y = parent_stands p up in (
          there_within m.blocks p.number y.0 y.1.0,
          (y.0, (there p y.0 y.1.0, elim y.1.1 as (λ _. (y.0.owner ≡ t) ⊎ ((life_at lives t).start ≡ Some p)) [ inl k ↦ inl k | inr k ↦ inr (start_same t ∙ k) ])),
        );
    newer = λ a k. started_there t a (lives_of code m fit t run) (sym (start_same t) ∙ k);
    count = sym (count_same b ∙ total_none b fit.lives (λ u l e. let lt = started_there u b l e in omega (arith, lt)));
    waits = λ w. let no : false ≡ true = w in absurd (cc);
  }

  all_blocks : (c : BlockId) (x : Block) → block_at blocks c ≡ Some x → IsBlock lives blocks c x
  all_blocks c x e = elim (at_end m.blocks new c.number x e) as (λ _. IsBlock lives blocks c x) [
    | inl p ↦ old_block c x p
    | inr p ↦ subst (λ d. IsBlock lives blocks d x) (same_block b c (sym p.0)) (subst (IsBlock lives blocks b) p.1 new_block)
  ]

  -- ---- threads

  module _ (body : Body) (found : body_with s 0 slot 1 ≡ Some body) (ways : effect code place (i.Enter slot) s ≡ Some (One (place + 1) (entered slot s))) where
    abbrev frame_of : InFrame fit.births m.store m.current.frame s 0 slot 1 body
    frame_of = in_frame fit.births m.store m.current.frame s 0 slot 1 body h.top.bodies found

    slot_fits : (birth : Birth) → Born fit.births m.current.frame birth → IsSlot code fit.births birth.home slot (cell.Block b)
    slot_fits birth born =
        let up = frame_of.up in
        let home : birth.home ≡ body.home = ap (λ (x : Birth). x.home) (at_same_birth fit.births m.current.frame birth up.birth born up.born) ∙ up.home in
        let u : Uses code body.home slot AsBlock = valid.enters place s h.top.reached here frame_of.home in
        subst (λ (z : Home). IsSlot code fit.births z slot (cell.Block b)) (sym home) (used_as_block code v.one_use body.home slot fit.births b u)

    abbrev kept : KeepsStore code fit.births m.store store
    kept = set_slot code fit.births m.store fit.store m.current.frame slot (cell.Block b) slot_fits

    goes_on : Goes code place s (place + 1) (entered slot s)
    goes_on = record { fits = record { instr = i.Enter slot; leads = One (place + 1) (entered slot s); here = here; finds = ways }; leads = (refl, refl) }

    more_entered : HasEntered blocks t was.start (own_blocks (entered slot s) + h.below) (Some b)
    more_entered =
        let k = block_bound m.current.block in
        let old = entered_kept m.blocks blocks (rooted_of code m fit) t was.start k (own_blocks s + h.below) m.current.block (keeps t k) (is_bound m.current.block) h.entered in
        let one : one_if (nat_eq (length s.bodies) (length s.bodies)) ≡ 1 = one_same (length s.bodies) in
        let n : 1 + (own_blocks s + h.below) ≡ (one_if (nat_eq (length s.bodies) (length s.bodies)) + own_in (length s.bodies) s.blocks) + h.below = omega (arith, one) in
        subst (λ j. HasEntered blocks t was.start j (Some b)) n (inside (own_blocks s + h.below) b new (new_there m.blocks new) refl old)

    thread : IsThread code fit.births store blocks t was.start current
    thread =
        let same = thread_kept code fit.births fit.births (λ n x e. e) m.store store (λ f. Unit {0}) kept.carries m.blocks m.blocks (rooted_of code m fit) t was.start m.current
        (block_bound m.current.block)
        (λ g x born is. tt) (all_kept m.blocks t (block_bound m.current.block)) (is_bound m.current.block) h in
        let some = some_body fit.births m.store s.bodies m.current.frame h.top.bodies in
        next_thread code fit.births store m.blocks t was.start m.current same (place + 1) (entered slot s) blocks (Some b) goes_on refl refl ((some, omega arith), h.top.blocks) more_entered

    alive : (u : Item) → is_living (life_at lives u).phase ≡ true → IsAlive code fit.births store blocks u (life_at lives u)
    alive u e = elim (life_cases fit.lives t u now within) as (λ _. IsAlive code fit.births store blocks u (life_at lives u)) [
      | inl p ↦ subst (λ l. IsAlive code fit.births store blocks u l) (sym p.1) (subst (λ x. IsAlive code fit.births store blocks x now) p.0 mine)
      | inr p ↦ subst (λ l. IsAlive code fit.births store blocks u l) (sym p.1) theirs
    ]
      where
        mine : IsAlive code fit.births store blocks t now
        mine =
            let a = fit.alive t (lives_of code m fit t run) in
            record {
              thread = thread;
              started = λ c k. let i = a.started c k in record { block = i.block; here = there c i.block i.here; older = i.older };
              waiting = λ c w. absurd (let no : Going ≡ AtFinish c = sym (phase_of code m fit t run) ∙ w in cc);
            }

        theirs : IsAlive code fit.births store blocks u (life_at fit.lives u)
        theirs =
            let l = life_at fit.lives u in
            alive_kept code fit.births fit.births (λ n x e. e) m.store store (λ f. Unit {0}) kept.carries m.blocks blocks (rooted_of code m fit) u l (block_bound l.thread.block) (λ g x born is. tt)
            (keeps u (block_bound l.thread.block)) (is_bound l.thread.block) (λ c x k f. (x, (there c x f, refl)))
            (λ c k w. record { block = w.block; here = there c w.block w.here; owner = w.owner; waits = w.waits; some = w.some; round = w.round })
            (fit.alive u (sym (ap is_living (phase_same u)) ∙ e))

    pub entered_fit : IsFit code (record m { store = store; current = current; blocks = blocks; count = counted m.count })
    entered_fit = record {
      births = fit.births;
      lives = lives;
      store = kept.store;
      alive = alive;
      block = all_blocks;
      first = ap is_living (phase_same (record { number = 0 })) ∙ fit.first;
      free = start_same (record { number = 0 }) ∙ fit.free;
      listed = λ u. fit.listed u ∙ ap (λ p. one_if (is_going p)) (sym (phase_same (record { number = u })));
      many = length-set fit.lives t.number now ∙ fit.many;
      current = λ u e. own_current u e;
      asks = fit.asks;
      parked = λ u l not. own_parked u l not;
    }
      where
        own_current : (u : Item) → m.running ≡ Some u → current ≡ (life_at lives u).thread
        own_current u e = elim (life_cases fit.lives t u now within) as (λ _. current ≡ (life_at lives u).thread) [
          | inl p ↦ sym (ap (λ (l : Life). l.thread) p.1)
          | inr p ↦ absurd (let both : Some t ≡ Some u = sym run ∙ e in p.0 (cc))
        ]

        own_parked : (u : Item) → is_living (life_at lives u).phase ≡ true → (m.running ≡ Some u → ⊥) → going_on m.operations u (thread_at m.threads u) ≡ (life_at lives u).thread
        own_parked u l not = elim (life_cases fit.lives t u now within) as (λ _. going_on m.operations u (thread_at m.threads u) ≡ (life_at lives u).thread) [
          | inl p ↦ absurd (not (run ∙ ap (λ x. Some x) p.0))
          | inr p ↦ fit.parked u (sym (ap is_living (phase_same u)) ∙ l) not ∙ sym (ap (λ (x : Life). x.thread) p.1)
        ]

  pub enter_fit : (leads : Leads) → effect code place (i.Enter slot) s ≡ Some leads → IsFit code (record m { store = store; current = current; blocks = blocks; count = counted m.count })
  enter_fit leads finds =
      let f = on_some_is (body_with s 0 slot 1) (λ body. if is_entered s 0 slot then None else shapes.goes place (entered slot s)) leads finds in
      let c = if_not_is (is_entered s 0 slot) (shapes.goes place (entered slot s)) leads f.1.1 in
      entered_fit f.0 f.1.0 (finds ∙ sym c.1)
