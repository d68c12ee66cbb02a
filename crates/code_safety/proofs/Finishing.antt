-- A state stays fit where its thread arrives at the finish of its innermost block.
-- The shape of the address says that a block of the own body is open, and `HasEntered` that the innermost one is it. With a count of 0 it
-- passes and the block is given back (Removing); else the thread waits, and its life says at which finish.
use Rattle.std.proofs.Common.{◌≡◌, ◌⊎◌, ℕ, ◌+◌, ◌<◌, List, [], ◌∷◌, length, Option, Some, None, Bool, true, false, refl, sym, ap, ◌∙◌, subst, inl, inr, arith}
use Rattle.std.specs.Prelude.{slice_get, slice_set, nat_eq}
use Rattle.std.proofs.lemmas.Bool.{and_parts, eqb-true}
use Rattle.std.proofs.lemmas.Bool.Decides.{nat_tests}
use Rattle.std.proofs.lemmas.List.{length-set, get_or-set_same}
use Rattle.work_item.specs.declared.ids.Item.{Item}
use Rattle.work_item.specs.declared.ids.BlockId.{BlockId}
use Rattle.stack_code.specs.declared.instr.Instr.TheVariants as i
use Rattle.stack_code.specs.declared.shape.OpenBlock.{OpenBlock}
use Rattle.stack_code.specs.declared.shape.Shape.{Shape}
use Rattle.stack_code.specs.declared.shape.Leads.{Leads}
use Rattle.stack_code.specs.declared.shape.Leads.TheVariants.{One}
use Rattle.stack_code.specs.Parts.{Parts}
use Rattle.stack_code.specs.Shapes as shapes
use Rattle.stack_code.specs.Shapes.{effect, finished, finished_in, is_block}
use Rattle.stack_code.specs.Valid.{Goes}
use Rattle.code_meaning.specs.Machine.{Flat, Thread, Block, begin, counted, block_at, with_block, thread_at, stops, arrives, arrives_in, arrives_at}
use Rattle.code_safety.specs.Fit.{AreInBodies, HasEntered, outside, inside, IsThread, Phase, Gone, Going, AtFinish, Life, no_life, life_at, is_living, is_going, starts_in, total}
use Rattle.code_safety.specs.Fit.{innermost, innermost_in, IsBlock, IsAlive, IsFit, one_if, one_at, own_blocks, own_in, going_on}
use Rattle.code_safety.proofs.Taken.{on_some_is, if_is}
use Rattle.code_safety.proofs.Lasting.{KeepsBlocks, IsBefore, entered_kept}
use Rattle.code_safety.proofs.Settings.{same_store}
use Rattle.code_safety.proofs.Plain.{Onward}
use Rattle.code_safety.proofs.Lives.{one_same, one_other, life_cases, life_same, total_same, one_counts}
use Rattle.code_safety.proofs.Own.{rooted_of, phase_of, lives_of, within_of, thread_of, block_bound, is_bound}
use Rattle.code_safety.proofs.Turns.{alive_kept, next_thread, stops_fit, listed_other, running_rests, resting, going_free}
use Rattle.code_safety.proofs.Removing.{same_or_not, set_aside, set_there, set_is, stays, keeps_others, keeps_before, other_blocks}

-- the innermost block that was entered
pub record Innermost (blocks : List (Option Block)) (t : Item) (start : Option BlockId) (n : ℕ) (o : Option BlockId) : Type 0 where
  pub b : BlockId
  pub is : o ≡ Some b
  pub x : Block
  pub here : block_at blocks b ≡ Some x
  pub owner : x.owner ≡ t
  pub rest : HasEntered blocks t start n x.parent

pub innermost_of : (blocks : List (Option Block)) (t : Item) (start : Option BlockId) (k n : ℕ) (o : Option BlockId) → k ≡ 1 + n → HasEntered blocks t start k o → Innermost blocks t start n o
innermost_of blocks t start _ n _ e outside = absurd (omega (arith, e))
innermost_of blocks t start _ n _ e (inside j b x here owner rest) =
    let same : j ≡ n = omega (arith, e) in
    record { b = b; is = refl; x = x; here = here; owner = owner; rest = subst (λ q. HasEntered blocks t start q x.parent) same rest }

-- the shape without its innermost block
pub record Finished (s u : Shape) : Type 0 where
  pub block : OpenBlock
  pub rest : List OpenBlock
  pub blocks : s.blocks ≡ block ∷ rest
  pub own : block.bodies ≡ length s.bodies
  pub is : record s { blocks = rest } ≡ u

pub finished_is : (slot : ℕ) (s u : Shape) (blocks : List OpenBlock) → blocks ≡ s.blocks → finished_in slot s blocks ≡ Some u → Finished s u
finished_is slot s u [] same e = let no : None ≡ Some u = e in cc
finished_is slot s u (block ∷ rest) same e =
    let c = if_is (is_block (length s.bodies) slot block) (Some (record s { blocks = rest })) u e in
    let p = and_parts (nat_eq block.bodies (length s.bodies)) (nat_eq block.slot slot) c.0 in
    let is : record s { blocks = rest } ≡ u = let both : Some (record s { blocks = rest }) ≡ Some u = c.1 in cc in
    record { block = block; rest = rest; blocks = sym same; own = eqb-true block.bodies (length s.bodies) p.0; is = is }

module _ (code : Parts) (bound : ℕ) (m : Flat) (fit : IsFit code m) (t : Item) (run : m.running ≡ Some t) (slot : ℕ) (here : slice_get code.instrs m.current.place ≡ Some (i.Finish slot)) where
  abbrev h : IsThread code fit.births m.store m.blocks t (life_at fit.lives t).start m.current
  h = thread_of code m fit t run

  abbrev s : Shape
  s = h.shape

  abbrev place : ℕ
  place = m.current.place

  abbrev was : Life
  was = life_at fit.lives t

  within : t.number < length fit.lives
  within = within_of code m fit t run

  inner_was : innermost was ≡ m.current.block
  inner_was = ap (λ p. innermost_in p was.thread.block) (phase_of code m fit t run) ∙ ap (λ (x : Thread). x.block) (sym (fit.current t run))

  module _ (u : Shape) (ways : effect code place (i.Finish slot) s ≡ Some (One (place + 1) u)) (f : Finished s u) (n : Innermost m.blocks t was.start (own_blocks u + h.below) m.current.block) where
    abbrev b : BlockId
    b = n.b

    abbrev x : Block
    x = n.x

    abbrev current : Thread
    current = record m.current { place = place + 1; block = x.parent }

    goes_on : Goes code place s (place + 1) u
    goes_on = record { fits = record { instr = i.Finish slot; leads = One (place + 1) u; here = here; finds = ways }; leads = (refl, refl) }

    same_bodies : u.bodies ≡ s.bodies
    same_bodies = ap (λ (z : Shape). z.bodies) (sym f.is)

    in_bodies : AreInBodies (length u.bodies) u.blocks
    in_bodies =
        let all : AreInBodies (length s.bodies) (f.block ∷ f.rest) = subst (AreInBodies (length s.bodies)) f.blocks h.top.blocks in
        subst (λ (z : Shape). AreInBodies (length z.bodies) z.blocks) f.is all.1

    -- the thread after the block, in a table that keeps its blocks round this one
    next : (blocks : List (Option Block)) → KeepsBlocks m.blocks blocks t b.number → IsThread code fit.births m.store blocks t was.start current
    next blocks keeps =
        let before = parent_is_before x.parent refl in
        let entered = entered_kept m.blocks blocks (rooted_of code m fit) t was.start b.number (own_blocks u + h.below) x.parent keeps before n.rest in
        next_thread code fit.births m.store m.blocks t was.start m.current h (place + 1) u blocks x.parent goes_on same_bodies (ap (λ (z : Shape). z.operands) (sym f.is)) in_bodies entered
      where
        parent_is_before : (o : Option BlockId) → x.parent ≡ o → IsBefore b.number x.parent
        parent_is_before None e = subst (IsBefore b.number) (sym e) tt
        parent_is_before (Some p) e = let lt = rooted_of code m fit b x p n.here e in subst (IsBefore b.number) (sym e) lt

    inner_is : innermost was ≡ Some b
    inner_is = inner_was ∙ n.is

    owner_inner : innermost (life_at fit.lives x.owner) ≡ Some b
    owner_inner = ap (λ k. innermost (life_at fit.lives k)) n.owner ∙ inner_is

    -- ---- it passes

    module _ (none : x.count ≡ 0) where
      abbrev now : Life
      now = record was { thread = current }

      abbrev lives : List Life
      lives = slice_set fit.lives t.number now

      abbrev blocks : List (Option Block)
      blocks = with_block m.blocks b None

      phase_same : (k : Item) → (life_at lives k).phase ≡ (life_at fit.lives k).phase
      phase_same k = life_same fit.lives t now within (λ (l : Life). l.phase) refl k

      start_same : (k : Item) → (life_at lives k).start ≡ (life_at fit.lives k).start
      start_same k = life_same fit.lives t now within (λ (l : Life). l.start) refl k

      count_same : (c : BlockId) → total (starts_in c) lives ≡ total (starts_in c) fit.lives
      count_same c = total_same (starts_in c) fit.lives t.number now no_life within refl

      none_in : (k : Item) → is_living (life_at fit.lives k).phase ≡ true → (life_at fit.lives k).start ≡ Some b → ⊥
      none_in k l e =
          let one = one_counts b fit.lives k l e in
          let count = (fit.block b x n.here).count in
          omega (arith, one, count, none)

      owner_lives : (c : BlockId) (y : Block) → block_at m.blocks c ≡ Some y → is_living (life_at fit.lives y.owner).phase ≡ true
      owner_lives c y e = let k = fit.block c y e in some_inner (life_at fit.lives y.owner).phase (life_at fit.lives y.owner).thread.block k.inner k.innermost
        where
          some_inner : (p : Phase) (o : Option BlockId) (q : BlockId) → innermost_in p o ≡ Some q → is_living p ≡ true
          some_inner Gone o q e = let no : None ≡ Some q = e in cc
          some_inner Going o q e = refl
          some_inner (AtFinish c) o q e = refl

      inner_now : innermost (life_at lives x.owner) ≡ x.parent
      inner_now = elim (life_cases fit.lives t x.owner now within) as (λ _. innermost (life_at lives x.owner) ≡ x.parent) [
        | inl p ↦ ap innermost p.1 ∙ ap (λ q. innermost_in q x.parent) (phase_of code m fit t run)
        | inr p ↦ absurd (p.0 (sym n.owner))
      ]

      inner_other : (c : BlockId) (y : Block) → block_at m.blocks c ≡ Some y → (y.owner ≡ x.owner → ⊥) → innermost (life_at lives y.owner) ≡ innermost (life_at fit.lives y.owner)
      inner_other c y e ne = elim (life_cases fit.lives t y.owner now within) as (λ _. innermost (life_at lives y.owner) ≡ innermost (life_at fit.lives y.owner)) [
        | inl p ↦ absurd (ne (sym p.0 ∙ sym n.owner))
        | inr p ↦ ap innermost p.1
      ]

      all_blocks : (c : BlockId) (y : Block) → block_at blocks c ≡ Some y → IsBlock lives blocks c y
      all_blocks = other_blocks fit.lives lives m.blocks b x n.here fit.block owner_inner (λ c y e k. none_in y.owner (owner_lives c y e) k) inner_now inner_other
          (λ c y e. start_same y.owner) (λ c y e ne. (fit.block c y e).count ∙ sym (count_same c)) (λ c y e ne w. phase_same y.owner ∙ (fit.block c y e).waits w)

      started_kept : (k : Item) → is_living (life_at fit.lives k).phase ≡ true → (c : BlockId) (y : Block) → (life_at fit.lives k).start ≡ Some c → block_at m.blocks c ≡ Some y
          → block_at blocks c ≡ Some y
      started_kept k l c y e f = stays fit.lives lives m.blocks b x n.here fit.block owner_inner c y (λ same. none_in k l (e ∙ ap (λ d. Some d) (sym same))) f

      alive : (k : Item) → is_living (life_at lives k).phase ≡ true → IsAlive code fit.births m.store blocks k (life_at lives k)
      alive k e = elim (life_cases fit.lives t k now within) as (λ _. IsAlive code fit.births m.store blocks k (life_at lives k)) [
        | inl p ↦ subst (λ l. IsAlive code fit.births m.store blocks k l) (sym p.1) (subst (λ z. IsAlive code fit.births m.store blocks z now) p.0 mine)
        | inr p ↦ subst (λ l. IsAlive code fit.births m.store blocks k l) (sym p.1) (theirs p.0)
      ]
        where
          mine : IsAlive code fit.births m.store blocks t now
          mine =
              let a = fit.alive t (lives_of code m fit t run) in
              record {
                thread = next blocks (keeps_before fit.lives lives m.blocks b x n.here fit.block owner_inner t);
                started = λ c q. let w = a.started c q in record { block = w.block; here = started_kept t (lives_of code m fit t run) c w.block q w.here; older = w.older };
                waiting = λ c w. absurd (let no : Going ≡ AtFinish c = sym (phase_of code m fit t run) ∙ w in cc);
              }

          theirs : (t ≡ k → ⊥) → IsAlive code fit.births m.store blocks k (life_at fit.lives k)
          theirs ne =
              let l = life_at fit.lives k in
              let living = sym (ap is_living (phase_same k)) ∙ e in
              let other : k ≡ x.owner → ⊥ = (λ q. ne (sym (q ∙ n.owner))) in
              let keeps = same_store code fit.births m.store fit.store in
              alive_kept code fit.births fit.births (λ j z q. q) m.store m.store (λ g. Unit {0}) keeps.carries m.blocks blocks (rooted_of code m fit) k l (block_bound l.thread.block)
              (λ g z born is. tt)
              (keeps_others fit.lives lives m.blocks b x n.here fit.block owner_inner k (block_bound l.thread.block) other) (is_bound l.thread.block)
              (λ c y q g. (y, (started_kept k living c y q g, refl)))
              (λ c q w. record {
                block = w.block;
                here = stays fit.lives lives m.blocks b x n.here fit.block owner_inner c w.block
                    (λ same. let z : x ≡ w.block = let both : Some x ≡ Some w.block = sym n.here ∙ ap (block_at m.blocks) same ∙ w.here in cc in
                    other (sym w.owner ∙ ap (λ (y : Block). y.owner) (sym z))) w.here;
                owner = w.owner;
                waits = w.waits;
                some = w.some;
                round = w.round;
              })
              (fit.alive k living)

      pub passes_fit : IsFit code (record m { current = current; blocks = blocks; count = counted m.count })
      passes_fit = record {
        births = fit.births;
        lives = lives;
        store = fit.store;
        alive = alive;
        block = all_blocks;
        first = ap is_living (phase_same (record { number = 0 })) ∙ fit.first;
        free = start_same (record { number = 0 }) ∙ fit.free;
        listed = λ k. fit.listed k ∙ ap (λ p. one_if (is_going p)) (sym (phase_same (record { number = k })));
        many = length-set fit.lives t.number now ∙ fit.many;
        current = λ k e. own_current k e;
        asks = fit.asks;
        parked = λ k l not. own_parked k l not;
      }
        where
          own_current : (k : Item) → m.running ≡ Some k → current ≡ (life_at lives k).thread
          own_current k e = elim (life_cases fit.lives t k now within) as (λ _. current ≡ (life_at lives k).thread) [
            | inl p ↦ sym (ap (λ (l : Life). l.thread) p.1)
            | inr p ↦ absurd (let both : Some t ≡ Some k = sym run ∙ e in p.0 (cc))
          ]

          own_parked : (k : Item) → is_living (life_at lives k).phase ≡ true → (m.running ≡ Some k → ⊥) → going_on m.operations k (thread_at m.threads k) ≡ (life_at lives k).thread
          own_parked k l not = elim (life_cases fit.lives t k now within) as (λ _. going_on m.operations k (thread_at m.threads k) ≡ (life_at lives k).thread) [
            | inl p ↦ absurd (not (run ∙ ap (λ z. Some z) p.0))
            | inr p ↦ fit.parked k (sym (ap is_living (phase_same k)) ∙ l) not ∙ sym (ap (λ (z : Life). z.thread) p.1)
          ]

    -- ---- it waits

    module _ (some : 0 < x.count) where
      abbrev asleep : Life
      asleep = record was { phase = AtFinish b; thread = current }

      abbrev later : List Life
      later = slice_set fit.lives t.number asleep

      abbrev waiting : Block
      waiting = record x { waits = true }

      abbrev table : List (Option Block)
      table = with_block m.blocks b (Some waiting)

      living_same : (k : Item) → is_living (life_at later k).phase ≡ is_living (life_at fit.lives k).phase
      living_same k = life_same fit.lives t asleep within (λ (l : Life). is_living l.phase) (sym (lives_of code m fit t run)) k

      start_still : (k : Item) → (life_at later k).start ≡ (life_at fit.lives k).start
      start_still k = life_same fit.lives t asleep within (λ (l : Life). l.start) refl k

      inner_still : (k : Item) → innermost (life_at later k) ≡ innermost (life_at fit.lives k)
      inner_still k = life_same fit.lives t asleep within innermost (sym inner_is) k

      count_still : (c : BlockId) → total (starts_in c) later ≡ total (starts_in c) fit.lives
      count_still c = total_same (starts_in c) fit.lives t.number asleep no_life within (rw (phase_of code m fit t run) refl)

      -- a block of the table and what it was
      pub record Still (c : BlockId) (y : Block) : Type 0 where
        pub old : Block
        pub there : block_at m.blocks c ≡ Some old
        pub owner : y.owner ≡ old.owner
        pub parent : y.parent ≡ old.parent
        pub count : y.count ≡ old.count
        pub waits : y.waits ≡ true → ((b ≡ c) × (y.owner ≡ t)) ⊎ ((y.owner ≡ t → ⊥) × ((life_at fit.lives y.owner).phase ≡ AtFinish c))

      still_of : (c : BlockId) (y : Block) → block_at table c ≡ Some y → Still c y
      still_of c y e = elim (set_is m.blocks b (Some waiting) x n.here c y e) as (λ _. Still c y) [
        | inl p ↦
            let z : waiting ≡ y = let both : Some waiting ≡ Some y = p.1 in cc in
            subst (Still c) z (record {
              old = x;
              there = subst (λ d. block_at m.blocks d ≡ Some x) p.0 n.here;
              owner = refl;
              parent = refl;
              count = refl;
              waits = λ w. inl (p.0, n.owner);
            })
        | inr p ↦ record {
          old = y;
          there = p.1;
          owner = refl;
          parent = refl;
          count = refl;
          waits = λ w.
              let phase = (fit.block c y p.1).waits w in
              inr (λ k. let no : Going ≡ AtFinish c = sym (phase_of code m fit t run) ∙ ap (λ z. (life_at fit.lives z).phase) (sym k) ∙ phase in cc, phase);
        }
      ]

      still_there_at : (c : BlockId) (y : Block) → block_at m.blocks c ≡ Some y → (z : Block) × ((block_at table c ≡ Some z) × ((z.owner ≡ y.owner) × (z.parent ≡ y.parent)))
      still_there_at c y e = elim (same_or_not b c) as (λ _. (z : Block) × ((block_at table c ≡ Some z) × ((z.owner ≡ y.owner) × (z.parent ≡ y.parent)))) [
        | inl same ↦
            let q : x ≡ y = let both : Some x ≡ Some y = sym n.here ∙ ap (block_at m.blocks) same ∙ e in cc in
            (waiting, (subst (λ d. block_at table d ≡ Some waiting) same (set_there m.blocks b (Some waiting) x n.here), (ap (λ (w : Block). w.owner) q, ap (λ (w : Block). w.parent) q)))
        | inr ne ↦ (y, (set_aside m.blocks b (Some waiting) c ne ∙ e, (refl, refl)))
      ]

      -- The block of the finish has its owner waiting now; of each other block all is as it was.
      later_block : (c : BlockId) (y : Block) → block_at table c ≡ Some y → IsBlock later table c y
      later_block c y e =
          let z = still_of c y e in
          let o = fit.block c z.old z.there in
          record {
            inner = o.inner;
            innermost = inner_still y.owner ∙ ap (λ k. innermost (life_at fit.lives k)) z.owner ∙ o.innermost;
            within = o.within;
            nested = λ d w g owner lt.
                let zw = still_of d w g in
                let r = o.nested d zw.old zw.there (sym zw.owner ∙ owner ∙ z.owner) lt in
                (r.0, (z.parent ∙ r.1.0, r.1.1));
            rooted = λ p up.
                let r = o.rooted p (sym z.parent ∙ up) in
                let w = still_there_at p r.1.0 r.1.1.0 in (
                  r.0,
                  (
                    w.0,
                    (
                      w.1.0,
                      elim r.1.1.1 as (λ _. (w.0.owner ≡ y.owner) ⊎ ((life_at later y.owner).start ≡ Some p)) [
                        | inl k ↦ inl (w.1.1.0 ∙ k ∙ sym z.owner)
                        | inr k ↦ inr (start_still y.owner ∙ ap (λ q. (life_at fit.lives q).start) z.owner ∙ k)
                      ],
                    ),
                  ),
                );
            newer = λ a k. o.newer a (ap (λ q. (life_at fit.lives q).start) (sym z.owner) ∙ sym (start_still y.owner) ∙ k);
            count = z.count ∙ o.count ∙ sym (count_still c);
            waits = λ w. elim (z.waits w) as (λ _. (life_at later y.owner).phase ≡ AtFinish c) [
              | inl k ↦ ap (λ q. (life_at later q).phase) k.1 ∙ ap (λ (l : Life). l.phase) (get_or-set_same fit.lives t.number asleep no_life within) ∙ ap AtFinish k.0
              | inr k ↦ elim (life_cases fit.lives t y.owner asleep within) as (λ _. (life_at later y.owner).phase ≡ AtFinish c) [
                | inl p ↦ absurd (k.0 (sym p.0))
                | inr p ↦ ap (λ (l : Life). l.phase) p.1 ∙ k.1
              ]
            ];
          }

      at_finish_is : (c : BlockId) → AtFinish b ≡ AtFinish c → b ≡ c
      at_finish_is c e = cc

      -- The thread itself is kept as it will go on behind the finish; each other thread is as it was.
      later_alive : (k : Item) → is_living (life_at later k).phase ≡ true → IsAlive code fit.births m.store table k (life_at later k)
      later_alive k e = elim (life_cases fit.lives t k asleep within) as (λ _. IsAlive code fit.births m.store table k (life_at later k)) [
        | inl p ↦ subst (λ l. IsAlive code fit.births m.store table k l) (sym p.1) (subst (λ z. IsAlive code fit.births m.store table z asleep) p.0 mine)
        | inr p ↦ subst (λ l. IsAlive code fit.births m.store table k l) (sym p.1) (theirs p.0)
      ]
        where
          mine : IsAlive code fit.births m.store table t asleep
          mine =
              let a = fit.alive t (lives_of code m fit t run) in
              record {
                thread = next table (λ c y q owner lt. still_there_at c y q);
                started = λ c q.
                    let w = a.started c q in
                    let z = still_there_at c w.block w.here in
                    record { block = z.0; here = z.1.0; older = subst (λ (o : Item). o.number < t.number) (sym z.1.1.0) w.older };
                waiting = λ c q.
                    let same = at_finish_is c q in
                    record {
                      block = waiting;
                      here = subst (λ d. block_at table d ≡ Some waiting) same (set_there m.blocks b (Some waiting) x n.here);
                      owner = n.owner;
                      waits = refl;
                      some = some;
                      round = refl;
                    };
              }

          theirs : (t ≡ k → ⊥) → IsAlive code fit.births m.store table k (life_at fit.lives k)
          theirs ne =
              let l = life_at fit.lives k in
              let keeps = same_store code fit.births m.store fit.store in
              alive_kept code fit.births fit.births (λ j z q. q) m.store m.store (λ g. Unit {0}) keeps.carries m.blocks table (rooted_of code m fit) k l (block_bound l.thread.block)
              (λ g z born is. tt)
              (λ c y q owner lt. still_there_at c y q) (is_bound l.thread.block) (λ c y q g. let z = still_there_at c y g in (z.0, (z.1.0, z.1.1.0)))
              (λ c q w. record {
                block = w.block;
                here = set_aside m.blocks b (Some waiting) c
                    (λ same. let z : x ≡ w.block = let both : Some x ≡ Some w.block = sym n.here ∙ ap (block_at m.blocks) same ∙ w.here in cc in
                    ne (sym n.owner ∙ ap (λ (y : Block). y.owner) z ∙ w.owner)) ∙ w.here;
                owner = w.owner;
                waits = w.waits;
                some = w.some;
                round = w.round;
              })
              (fit.alive k (sym (living_same k) ∙ e))

      pub waits_fit : IsFit code (stops m t current m.ready table)
      waits_fit = stops_fit code m fit t run fit.births later m.shared m.store fit.store m.operations current m.ready table (counted m.count) later_alive later_block
          (living_same (record { number = 0 }) ∙ fit.first) (start_still (record { number = 0 }) ∙ fit.free) listed fit.asks (length-set fit.lives t.number asleep) own (λ k h ne. refl) others
        where
          listed : (k : ℕ) → resting m k ≡ one_if (is_going (life_at later (record { number = k })).phase)
          listed k =
              let l = listed_other code m fit t run k in
              elim (life_cases fit.lives t (record { number = k }) asleep within) as (λ _. resting m k ≡ one_if (is_going (life_at later (record { number = k })).phase)) [
                | inl p ↦
                    let num : t.number ≡ k = ap (λ (z : Item). z.number) p.0 in
                    subst (λ j. resting m j ≡ one_if (is_going (life_at later (record { number = k })).phase)) num
                    (running_rests code m fit t run ∙ sym (ap (λ (l : Life). one_if (is_going l.phase)) p.1))
                | inr p ↦
                    let z : one_at k t ≡ 0 = one_other k t.number (λ q. p.0 (ap (λ j. record { number = j }) (sym q))) in
                    let e : resting m k ≡ one_at k t + resting m k = omega (arith, z) in
                    e ∙ l ∙ ap (λ (l : Life). one_if (is_going l.phase)) (sym p.1)
              ]

          own : is_living (life_at later t).phase ≡ true → going_on m.operations t current ≡ (life_at later t).thread
          own e = going_free code m fit t run current ∙ sym (ap (λ (l : Life). l.thread) (get_or-set_same fit.lives t.number asleep no_life within))

          others : (k : Item) → (t ≡ k → ⊥) → is_living (life_at later k).phase ≡ true → (is_living (life_at fit.lives k).phase ≡ true) × ((life_at fit.lives k).thread ≡ (life_at later k).thread)
          others k ne e = elim (life_cases fit.lives t k asleep within) as (λ _. (is_living (life_at fit.lives k).phase ≡ true) × ((life_at fit.lives k).thread ≡ (life_at later k).thread)) [
            | inl p ↦ absurd (ne p.0)
            | inr p ↦ (sym (living_same k) ∙ e, sym (ap (λ (l : Life). l.thread) p.1))
          ]

    arrives_there : Onward (IsFit code) (arrives m t m.current.block)
    arrives_there =
        subst (λ o. Onward (IsFit code) (arrives m t o)) (sym n.is) (subst (λ o. Onward (IsFit code) (arrives_in m t b o)) (sym n.here) (go (nat_eq x.count 0) refl))
      where
        go : (z : Bool) → nat_eq x.count 0 ≡ z → Onward (IsFit code) (arrives_at z m t b x)
        go true e = passes_fit (eqb-true x.count 0 e)
        go false e = let some : 0 < x.count = grind (arith, nat_tests) in waits_fit some

  -- what an arrival finds
  pub record Arrives : Type 0 where
    pub u : Shape
    pub ways : effect code place (i.Finish slot) s ≡ Some (One (place + 1) u)
    pub finished : Finished s u
    pub innermost : Innermost m.blocks t was.start (own_blocks u + h.below) m.current.block

  pub arrival : (leads : Leads) → effect code place (i.Finish slot) s ≡ Some leads → Arrives
  arrival leads finds =
      let f = on_some_is (finished slot s) (shapes.goes place) leads finds in
      let u = f.0 in
      let d = finished_is slot s u s.blocks refl f.1.0 in
      let one : one_if (nat_eq d.block.bodies (length s.bodies)) ≡ 1 = ap (λ k. one_if (nat_eq k (length s.bodies))) d.own ∙ one_same (length s.bodies) in
      let all : own_blocks s ≡ one_if (nat_eq d.block.bodies (length s.bodies)) + own_in (length s.bodies) d.rest = ap (own_in (length s.bodies)) d.blocks in
      let less : own_in (length s.bodies) d.rest ≡ own_blocks u = ap own_blocks d.is in
      let more : own_blocks s + h.below ≡ 1 + (own_blocks u + h.below) = omega (arith, one, all, less) in
      record {
        u = u;
        ways = finds ∙ sym f.1.1;
        finished = d;
        innermost = innermost_of m.blocks t was.start (own_blocks s + h.below) (own_blocks u + h.below) m.current.block more h.entered;
      }

  pub finish_fit : (leads : Leads) → effect code place (i.Finish slot) s ≡ Some leads → Onward (IsFit code) (begin code bound m t (Some (i.Finish slot)))
  finish_fit leads finds = let a = arrival leads finds in arrives_there a.u a.ways a.finished a.innermost
