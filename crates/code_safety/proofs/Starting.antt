-- A state stays fit where its thread starts another one.
-- There is one life, one birth and one frame more; the innermost block counts one more, and its new thread is younger than its owner. The
-- creator is ready, at the front.
use Rattle.std.proofs.Common.{◌≡◌, ◌⊎◌, ℕ, zero, suc, ◌+◌, ◌≤◌, ◌<◌, ◌^◌, List, [], ◌∷◌, ◌++◌, length, length-append, Option, Some, None, IsSome, true, false, refl, sym, ap, ◌∙◌}
use Rattle.std.proofs.Common.{subst, inl, inr, arith}
use Rattle.std.specs.Prelude.{slice_get, slice_index_or, slice_set, nat_eq, nat_lt, replicate}
use Rattle.std.proofs.lemmas.Bool.{and_parts, cases_eq, eq-eqb}
use Rattle.std.proofs.lemmas.Bool.Decides.{nat_tests}
use Rattle.std.proofs.lemmas.List.{length-set, length-replicate, get_or-set_same, get_or-set_other, get_or_append_left, get_or_past}
use Rattle.work_item.specs.declared.ids.Item.{Item}
use Rattle.work_item.specs.declared.ids.FrameId.{FrameId}
use Rattle.work_item.specs.declared.ids.BlockId.{BlockId}
use Rattle.work_item.specs.declared.cell.Cell.{Cell}
use Rattle.work_item.specs.Store.{Store, Frame, frame_at, made, next_frame, no_int}
use Rattle.core_state.specs.Moves.{On}
use Rattle.core_state.specs.Frames.{begun}
use Rattle.stack_code.specs.declared.instr.Instr.TheVariants as i
use Rattle.stack_code.specs.declared.shape.Home.TheVariants as home
use Rattle.stack_code.specs.declared.shape.CellKind.{CellKind}
use Rattle.stack_code.specs.declared.shape.OpenBlock.{OpenBlock}
use Rattle.stack_code.specs.declared.shape.Shape.{Shape}
use Rattle.stack_code.specs.declared.shape.Leads.{Leads}
use Rattle.stack_code.specs.declared.shape.Leads.TheVariants.{Two}
use Rattle.stack_code.specs.Parts.{Parts}
use Rattle.stack_code.specs.Shapes.{effect, inner, can_start, LeadsTo}
use Rattle.stack_code.specs.Valid as valid
use Rattle.stack_code.specs.Valid.{IsValid, Goes}
use Rattle.code_meaning.specs.Machine.{Flat, Thread, Block, Caller, begin, counted, block_at, with_block, thread_at, nobody, one_more, starts, counted_in}
use Rattle.code_safety.specs.Fit.{Birth, Born, AreSlots, HaveKinds, more, AreInBodies, AreCallers, bottom, above, HasEntered, outside, inside, IsThread, Phase, Gone, Going}
use Rattle.code_safety.specs.Fit.{AtFinish, Life, no_life, life_at}
use Rattle.code_safety.specs.Fit.{is_living, is_going, is_at, starts_in, total, innermost, innermost_in, IsBlock, IsStarted, IsAlive, IsFit, one_if, one_at, own_blocks, own_in, occurs}
use Rattle.code_safety.specs.Fit.{items_of, going_on}
use Rattle.code_safety.proofs.Taken.{if_is}
use Rattle.code_safety.proofs.Lasting.{Grown, Carries, KeepsBlocks, all_bodies_carried, thread_kept}
use Rattle.code_safety.proofs.Plain.{Onward, trap_on}
use Rattle.code_safety.proofs.Making.{grown_one, made_store, made_carries, new_born, new_there, there_within}
use Rattle.code_safety.proofs.Arguments.{slots_of_body}
use Rattle.code_safety.proofs.Calling.{is_made}
use Rattle.code_safety.proofs.Lives.{one_same, one_other, same_item, same_block, life_cases, life_same, living_within, total_same, total_append}
use Rattle.code_safety.proofs.Own.{rooted_of, phase_of, lives_of, within_of, thread_of, block_bound, is_bound}
use Rattle.code_safety.proofs.Turns.{alive_kept, next_thread, listed_other, going_free}
use Rattle.code_safety.proofs.Waiting.{asks_grown}
use Rattle.code_safety.proofs.Removing.{same_or_not, set_aside, set_there, set_is}

-- ---- blocks of bodies

wider : (n : ℕ) (blocks : List OpenBlock) → AreInBodies n blocks → AreInBodies (suc n) blocks
wider n [] h = tt
wider n (b ∷ blocks) h = let le = h.0.1 in ((h.0.0, omega (arith, le)), wider n blocks h.1)

pub none_own : (n : ℕ) (blocks : List OpenBlock) → AreInBodies n blocks → own_in (suc n) blocks ≡ 0
none_own n [] h = refl
none_own n (b ∷ blocks) h =
    let rest = none_own n blocks h.1 in
    let le = h.0.1 in
    let z : one_if (nat_eq b.bodies (suc n)) ≡ 0 = one_other b.bodies (suc n) (λ e. omega (arith, e, le)) in
    omega (arith, rest, z)

-- where one is entered but none in the innermost body, there are two bodies
pub two_bodies : (n : ℕ) (blocks : List OpenBlock) → 0 < length blocks → AreInBodies n blocks → own_in n blocks ≡ 0 → 1 < n
two_bodies n [] some h e = absurd (omega (arith, some))
two_bodies n (b ∷ blocks) some h e =
    elim (cases_eq b.bodies n) as (λ _. 1 < n) [
      | inl same ↦ absurd (let one : one_if (nat_eq b.bodies n) ≡ 1 = ap one_if (eq-eqb b.bodies n same) in let f : one_if (nat_eq b.bodies n) + own_in n blocks ≡ 0 = e in omega (arith, one, f))
      | inr ne ↦ let a = h.0.0 in let le = h.0.1 in omega (arith, a, le, ne)
    ]

no_kinds : (code : Parts) (births : List Birth) (kinds : List CellKind) → nat_eq (length kinds) 0 ≡ true → HaveKinds code births kinds []
no_kinds code births [] e = tt
no_kinds code births (k ∷ kinds) e = let no : suc (length kinds) ≡ 0 = grind (arith, nat_tests) in absurd (omega (arith, no))

-- ---- one life more

pub more_lives : (lives : List Life) (l : Life) (u : Item) →
    ((u.number ≡ length lives) × (life_at (lives ++ l ∷ []) u ≡ l)) ⊎ ((u.number ≡ length lives → ⊥) × (life_at (lives ++ l ∷ []) u ≡ life_at lives u))
more_lives lives l u = go lives u.number
  where
    go : (xs : List Life) (n : ℕ) → ((n ≡ length xs) × (slice_index_or (xs ++ l ∷ []) n no_life ≡ l)) ⊎ ((n ≡ length xs → ⊥) × (slice_index_or (xs ++ l ∷ []) n no_life ≡ slice_index_or xs n no_life))
    go [] zero = inl (refl, refl)
    go [] (suc n) = inr (λ e. omega (arith, e), refl)
    go (x ∷ xs) zero = inr (λ e. omega (arith, e), refl)
    go (x ∷ xs) (suc n) = elim (go xs n) as
        (λ _. ((suc n ≡ length (x ∷ xs)) × (slice_index_or ((x ∷ xs) ++ l ∷ []) (suc n) no_life ≡ l))
        ⊎ ((suc n ≡ length (x ∷ xs) → ⊥) × (slice_index_or ((x ∷ xs) ++ l ∷ []) (suc n) no_life ≡ slice_index_or (x ∷ xs) (suc n) no_life))) [
          | inl p ↦ inl (ap suc p.0, p.1)
          | inr p ↦ inr (λ e. p.0 (omega (arith, e)), p.1)
        ]

module _ (code : Parts) (bound : ℕ) (m : Flat) (fit : IsFit code m) (t : Item) (run : m.running ≡ Some t) (v : IsValid code) (slots to : ℕ)
    (here : slice_get code.instrs m.current.place ≡ Some (i.Async slots to)) where
  abbrev h : IsThread code fit.births m.store m.blocks t (life_at fit.lives t).start m.current
  h = thread_of code m fit t run

  abbrev s : Shape
  s = h.shape

  abbrev place : ℕ
  place = m.current.place

  abbrev was : Life
  was = life_at fit.lives t

  within : t.number < length fit.lives
  within = within_of code m fit t run

  -- the innermost block is there
  pub record There : Type 0 where
    pub b : BlockId
    pub is : m.current.block ≡ Some b
    pub x : Block
    pub at : block_at m.blocks b ≡ Some x

  some_start : (o : Option BlockId) → was.start ≡ o → IsSome o → m.current.block ≡ was.start → There
  some_start None e h same = let no : false ≡ true = h in absurd (cc)
  some_start (Some b) e h same =
      let w = (fit.alive t (lives_of code m fit t run)).started b e in
      record { b = b; is = same ∙ e; x = w.block; at = w.here }

  bottom_start : (f : FrameId) (shape : Shape) (callers : List Caller) (n : ℕ) → 1 < length shape.bodies → AreCallers code fit.births m.store t was.start f shape callers n → IsSome was.start
  bottom_start _ _ _ _ lt (bottom f shape q) = q lt
  bottom_start _ _ _ _ lt (above f shape c callers u n one older waits rest) = absurd (omega (arith, lt, one))

  block_there : 0 < length s.blocks → (k : ℕ) (o : Option BlockId) → k ≡ own_blocks s + h.below → o ≡ m.current.block → HasEntered m.blocks t was.start k o → There
  block_there some _ _ e same outside =
      let none : own_in (length s.bodies) s.blocks ≡ 0 = omega (arith, e) in
      let two = two_bodies (length s.bodies) s.blocks some h.top.blocks none in
      some_start was.start refl (bottom_start m.current.frame s m.current.callers h.below two h.callers) (sym same)
  block_there some _ _ e same (inside n b x here owner rest) = record { b = b; is = sym same; x = x; at = here }

  module _ (ways : effect code place (i.Async slots to) s ≡ Some (Two (place + 1) (inner place slots s) to s)) (free : nat_eq (length s.operands) 0 ≡ true) (there : There)
      (short : length (replicate slots no_int) < 2 ^ 32) where
    abbrev b : BlockId
    b = there.b

    abbrev x : Block
    x = there.x

    abbrev n : Item
    n = record { number = length m.threads }

    abbrev birth : Birth
    birth = record { home = home.Async place; slots = slots; item = n }

    abbrev births : List Birth
    births = fit.births ++ birth ∷ []

    abbrev cells : List Cell
    cells = replicate slots no_int

    abbrev store : Store
    store = made m.store (Some m.current.frame) cells

    abbrev frame : FrameId
    frame = next_frame m.store

    abbrev creator : Thread
    creator = record m.current { place = to }

    abbrev started : Thread
    started = record { place = place + 1; frame = frame; operands = []; callers = []; block = m.current.block }

    abbrev now : Life
    now = record was { thread = creator }

    abbrev new : Life
    new = record { phase = Going; start = m.current.block; thread = started }

    abbrev front : List Life
    front = slice_set fit.lives t.number now

    abbrev lives : List Life
    lives = front ++ new ∷ []

    abbrev counts : Block
    counts = record x { count = x.count + 1 }

    abbrev blocks : List (Option Block)
    blocks = with_block m.blocks b (Some counts)

    long : length front ≡ n.number
    long = length-set fit.lives t.number now ∙ fit.many

    -- a thread that lived before
    old_life : (u : Item) → is_living (life_at fit.lives u).phase ≡ true → life_at lives u ≡ life_at front u
    old_life u l = elim (more_lives front new u) as (λ _. life_at lives u ≡ life_at front u) [
      | inl p ↦ absurd (let lt = living_within fit.lives u l in let e = p.0 in let k = length-set fit.lives t.number now in omega (arith, lt, e, k))
      | inr p ↦ p.1
    ]

    front_same : {A : Type 0} (f : Life → A) → f now ≡ f was → (u : Item) → is_living (life_at fit.lives u).phase ≡ true → f (life_at lives u) ≡ f (life_at fit.lives u)
    front_same f e u l = ap f (old_life u l) ∙ life_same fit.lives t now within f e u

    owner_lives : (c : BlockId) (y : Block) → block_at m.blocks c ≡ Some y → is_living (life_at fit.lives y.owner).phase ≡ true
    owner_lives c y e = let k = fit.block c y e in some_inner (life_at fit.lives y.owner).phase (life_at fit.lives y.owner).thread.block k.inner k.innermost
      where
        some_inner : (p : Phase) (o : Option BlockId) (q : BlockId) → innermost_in p o ≡ Some q → is_living p ≡ true
        some_inner Gone o q e = let no : None ≡ Some q = e in cc
        some_inner Going o q e = refl
        some_inner (AtFinish c) o q e = refl

    inner_now : innermost now ≡ innermost was
    inner_now = ap (λ (z : Thread). innermost_in was.phase z.block) (fit.current t run)

    count_more : (c : BlockId) → total (starts_in c) lives ≡ total (starts_in c) fit.lives + one_if (is_at m.current.block c)
    count_more c =
        let a : total (starts_in c) lives ≡ total (starts_in c) front + (one_if (is_at m.current.block c) + 0) = total_append (starts_in c) front (new ∷ []) in
        let e : total (starts_in c) front ≡ total (starts_in c) fit.lives = total_same (starts_in c) fit.lives t.number now no_life within refl in
        omega (arith, a, e)

    -- ---- blocks

    pub record Still (c : BlockId) (y : Block) : Type 0 where
      pub old : Block
      pub at : block_at m.blocks c ≡ Some old
      pub owner : y.owner ≡ old.owner
      pub parent : y.parent ≡ old.parent
      pub waits : y.waits ≡ old.waits
      pub count : y.count ≡ old.count + one_if (is_at m.current.block c)

    still_of : (c : BlockId) (y : Block) → block_at blocks c ≡ Some y → Still c y
    still_of c y e = elim (set_is m.blocks b (Some counts) x there.at c y e) as (λ _. Still c y) [
      | inl p ↦
          let z : counts ≡ y = let both : Some counts ≡ Some y = p.1 in cc in
          let one : one_if (is_at m.current.block b) ≡ 1 = ap (λ o. one_if (is_at o b)) there.is ∙ one_same b.number in
          let more : x.count + 1 ≡ x.count + one_if (is_at m.current.block b) = omega (arith, one) in
          subst (λ d. Still d y) p.0 (subst (Still b) z (record { old = x; at = there.at; owner = refl; parent = refl; waits = refl; count = more }))
      | inr p ↦
          let none : one_if (is_at m.current.block c) ≡ 0 = ap (λ o. one_if (is_at o c)) there.is ∙ one_other b.number c.number (λ q. p.0 (same_block b c q)) in
          record { old = y; at = p.1; owner = refl; parent = refl; waits = refl; count = omega (arith, none) }
    ]

    there_still : (c : BlockId) (y : Block) → block_at m.blocks c ≡ Some y
        → (z : Block) × ((block_at blocks c ≡ Some z) × (((z.owner ≡ y.owner) × (z.parent ≡ y.parent)) × ((z.waits ≡ y.waits) × (y.count ≤ z.count))))
    there_still c y e = elim (same_or_not b c) as (λ _. (z : Block) × ((block_at blocks c ≡ Some z) × (((z.owner ≡ y.owner) × (z.parent ≡ y.parent)) × ((z.waits ≡ y.waits) × (y.count ≤ z.count))))) [
      | inl same ↦
          let q : x ≡ y = let both : Some x ≡ Some y = sym there.at ∙ ap (block_at m.blocks) same ∙ e in cc in
          let le : y.count ≤ x.count + 1 = let k = ap (λ (w : Block). w.count) q in omega (arith, k) in (
            counts,
            (
              subst (λ d. block_at blocks d ≡ Some counts) same (set_there m.blocks b (Some counts) x there.at),
              ((ap (λ (w : Block). w.owner) q, ap (λ (w : Block). w.parent) q), (ap (λ (w : Block). w.waits) q, le)),
            ),
          )
      | inr ne ↦ (y, (set_aside m.blocks b (Some counts) c ne ∙ e, ((refl, refl), (refl, omega arith))))
    ]

    keeps : (u : Item) (k : ℕ) → KeepsBlocks m.blocks blocks u k
    keeps u k c y e owner lt = let z = there_still c y e in (z.0, (z.1.0, z.1.1.0))

    -- The block in which it starts counts the new thread; each other block counts what it counted, in lives with one more.
    all_blocks : (c : BlockId) (y : Block) → block_at blocks c ≡ Some y → IsBlock lives blocks c y
    all_blocks c y e =
        let z = still_of c y e in
        let o = fit.block c z.old z.at in
        let l = owner_lives c z.old z.at in
        let l2 : is_living (life_at fit.lives y.owner).phase ≡ true = ap (λ q. is_living (life_at fit.lives q).phase) z.owner ∙ l in
        record {
          inner = o.inner;
          innermost = front_same innermost inner_now y.owner l2 ∙ ap (λ q. innermost (life_at fit.lives q)) z.owner ∙ o.innermost;
          within = o.within;
          nested = λ d w g owner lt.
              let zw = still_of d w g in
              let r = o.nested d zw.old zw.at (sym zw.owner ∙ owner ∙ z.owner) lt in
              (r.0, (z.parent ∙ r.1.0, r.1.1));
          rooted = λ p up.
              let r = o.rooted p (sym z.parent ∙ up) in
              let w = there_still p r.1.0 r.1.1.0 in (
                r.0,
                (
                  w.0,
                  (
                    w.1.0,
                    elim r.1.1.1 as (λ _. (w.0.owner ≡ y.owner) ⊎ ((life_at lives y.owner).start ≡ Some p)) [
                      | inl k ↦ inl (w.1.1.0.0 ∙ k ∙ sym z.owner)
                      | inr k ↦ inr (front_same (λ (q : Life). q.start) refl y.owner l2 ∙ ap (λ q. (life_at fit.lives q).start) z.owner ∙ k)
                    ],
                  ),
                ),
              );
          newer = λ a k. o.newer a (ap (λ q. (life_at fit.lives q).start) (sym z.owner) ∙ sym (front_same (λ (q : Life). q.start) refl y.owner l2) ∙ k);
          count = let k = o.count in let g = count_more c in let f = z.count in omega (arith, k, g, f);
          waits = λ w. front_same (λ (q : Life). q.phase) refl y.owner l2 ∙ ap (λ q. (life_at fit.lives q).phase) z.owner ∙ o.waits (sym z.waits ∙ w);
        }

    -- ---- threads

    slot_fits : AreSlots code births (home.Async place) cells
    slot_fits = slots_of_body code births (home.Async place) slots v.one_use refl

    abbrev carries : Carries m.store store (λ f. Unit {0})
    carries = made_carries code fit.births m.store fit.store (Some m.current.frame) cells birth slot_fits (length-replicate slots no_int) short

    abbrev grown : Grown fit.births births
    grown = grown_one fit.births birth

    born : Born births frame birth
    born = new_born code fit.births m.store fit.store (Some m.current.frame) cells birth slot_fits (length-replicate slots no_int) short

    abbrev new_frame : Frame
    new_frame = record { parent = Some m.current.frame; cells = cells; over = false }

    frame_there : frame_at store frame ≡ Some new_frame
    frame_there = new_there m.store.frames new_frame

    older : m.current.frame.number < frame.number
    older = there_within m.store.frames m.current.frame.number h.top.goes.frame h.top.goes.here

    goes_to : (a : ℕ) (u : Shape) → LeadsTo (Two (place + 1) (inner place slots s) to s) a u → Goes code place s a u
    goes_to a u l = record { fits = record { instr = i.Async slots to; leads = Two (place + 1) (inner place slots s) to s; here = here; finds = ways }; leads = l }

    creator_thread : IsThread code births store blocks t was.start creator
    creator_thread =
        let k = block_bound m.current.block in
        let same = thread_kept code fit.births births grown m.store store (λ f. Unit {0}) carries m.blocks blocks (rooted_of code m fit) t was.start m.current k (λ g z q is. tt) (keeps t k)
        (is_bound m.current.block) h in
        next_thread code births store blocks t was.start m.current same to s blocks m.current.block (goes_to to s (inr (refl, refl))) refl refl h.top.blocks same.entered

    started_thread : IsThread code births store blocks n m.current.block started
    started_thread = record {
      shape = inner place slots s;
      top = record {
        reached = valid.goes place s (place + 1) (inner place slots s) h.top.reached (goes_to (place + 1) (inner place slots s) (inl (refl, refl)));
        have = no_kinds code births s.operands free;
        bodies = more (record { home = home.Async place; slots = slots }) s.bodies frame m.current.frame
            (record { birth = birth; born = born; home = refl; frame = new_frame; here = frame_there; slots = length-replicate slots no_int }) refl older
            (all_bodies_carried fit.births births grown m.store store (λ f. Unit {0}) carries t s.bodies m.current.frame h.top.goes tt h.top.bodies);
        goes = record { birth = birth; born = born; item = refl; frame = new_frame; here = frame_there; going = refl };
        blocks = wider (length s.bodies) s.blocks h.top.blocks;
      };
      below = 0;
      callers = bottom frame (inner place slots s) (λ lt. subst IsSome (sym there.is) refl);
      entered = let none = none_own (length s.bodies) s.blocks h.top.blocks in
          let z : 0 ≡ own_blocks (inner place slots s) + 0 = omega (arith, none) in
          subst (λ k. HasEntered blocks n m.current.block k m.current.block) z outside;
    }

    started_in : (u : Item) (st : Option BlockId) → ((c : BlockId) → st ≡ Some c → IsStarted m.blocks u c) → (c : BlockId) → st ≡ Some c → IsStarted blocks u c
    started_in u st all c e =
        let w = all c e in
        let z = there_still c w.block w.here in
        record { block = z.0; here = z.1.0; older = subst (λ (o : Item). o.number < u.number) (sym z.1.1.0.0) w.older }

    new_alive : IsAlive code births store blocks n new
    new_alive = record {
      thread = started_thread;
      started = started_in n m.current.block (λ c e.
          let same : b ≡ c = let both : Some b ≡ Some c = sym there.is ∙ e in cc in
          let lt = living_within fit.lives x.owner (owner_lives b x there.at) in
          let k = fit.many in
          subst (IsStarted m.blocks n) same (record { block = x; here = there.at; older = omega (arith, lt, k) }));
      waiting = λ c w. absurd (let no : Going ≡ AtFinish c = w in cc);
    }

    old_alive : (u : Item) → is_living (life_at front u).phase ≡ true → IsAlive code births store blocks u (life_at front u)
    old_alive u e = elim (life_cases fit.lives t u now within) as (λ _. IsAlive code births store blocks u (life_at front u)) [
      | inl p ↦ subst (λ l. IsAlive code births store blocks u l) (sym p.1) (subst (λ z. IsAlive code births store blocks z now) p.0 mine)
      | inr p ↦ subst (λ l. IsAlive code births store blocks u l) (sym p.1) theirs
    ]
      where
        mine : IsAlive code births store blocks t now
        mine =
            let a = fit.alive t (lives_of code m fit t run) in
            record {
              thread = creator_thread;
              started = started_in t was.start a.started;
              waiting = λ c w. absurd (let no : Going ≡ AtFinish c = sym (phase_of code m fit t run) ∙ w in cc);
            }

        theirs : IsAlive code births store blocks u (life_at fit.lives u)
        theirs =
            let l = life_at fit.lives u in
            alive_kept code fit.births births grown m.store store (λ f. Unit {0}) carries m.blocks blocks (rooted_of code m fit) u l (block_bound l.thread.block) (λ g z q is. tt)
            (keeps u (block_bound l.thread.block)) (is_bound l.thread.block) (λ c y q g. let z = there_still c y g in (z.0, (z.1.0, z.1.1.0.0)))
            (λ c q w. let z = there_still c w.block w.here in
            let some = w.some in let le = z.1.1.1.1 in
            record { block = z.0; here = z.1.0; owner = z.1.1.0.0 ∙ w.owner; waits = z.1.1.1.0 ∙ w.waits; some = omega (arith, some, le); round = w.round ∙ sym z.1.1.0.1 })
            (fit.alive u (sym (life_same fit.lives t now within (λ (q : Life). is_living q.phase) refl u) ∙ e))

    alive : (u : Item) → is_living (life_at lives u).phase ≡ true → IsAlive code births store blocks u (life_at lives u)
    alive u e = elim (more_lives front new u) as (λ _. IsAlive code births store blocks u (life_at lives u)) [
      | inl p ↦ subst (λ l. IsAlive code births store blocks u l) (sym p.1) (subst (λ z. IsAlive code births store blocks z new) (same_item n u (sym long ∙ sym p.0)) new_alive)
      | inr p ↦ subst (λ l. IsAlive code births store blocks u l) (sym p.1) (old_alive u (sym (ap (λ (l : Life). is_living l.phase) p.1) ∙ e))
    ]

    -- ---- the whole

    abbrev zeroth : Item
    zeroth = record { number = 0 }

    going_same : (u : Item) → is_going (life_at front u).phase ≡ is_going (life_at fit.lives u).phase
    going_same u = life_same fit.lives t now within (λ (q : Life). is_going q.phase) refl u

    listed : (u : ℕ) → one_at u n + ((one_at u t + occurs u m.ready) + occurs u (items_of m.operations)) ≡ one_if (is_going (life_at lives (record { number = u })).phase)
    listed u =
        let l = listed_other code m fit t run u in
        elim (more_lives front new (record { number = u })) as
        (λ _. one_at u n + ((one_at u t + occurs u m.ready) + occurs u (items_of m.operations)) ≡ one_if (is_going (life_at lives (record { number = u })).phase)) [
          | inl p ↦
              let num : u ≡ length m.threads = p.0 ∙ long in
              let one : one_at u n ≡ 1 = ap (λ k. one_if (nat_eq u k)) (sym num) ∙ one_same u in
              let past : life_at fit.lives (record { number = u }) ≡ no_life = (let k = fit.many in get_or_past fit.lives u no_life (omega (arith, num, k))) in
              let gone : one_if (is_going (life_at fit.lives (record { number = u })).phase) ≡ 0 = ap (λ (q : Life). one_if (is_going q.phase)) past in
              let now_one : one_if (is_going (life_at lives (record { number = u })).phase) ≡ 1 = ap (λ (q : Life). one_if (is_going q.phase)) p.1 in
              omega (arith, l, one, gone, now_one)
          | inr p ↦
              let none : one_at u n ≡ 0 = one_other u (length m.threads) (λ q. p.0 (q ∙ sym long)) in
              let same : one_if (is_going (life_at lives (record { number = u })).phase) ≡ one_if (is_going (life_at fit.lives (record { number = u })).phase) =
              ap (λ (q : Life). one_if (is_going q.phase)) p.1 ∙ ap one_if (going_same (record { number = u })) in
              omega (arith, l, none, same)
        ]

    -- The parts of a fit state for the creator, which rests behind the `Async`, for the new thread, which runs, and for all others.
    pub started_fit : IsFit code
        (record {
          shared = m.shared;
          store = store;
          operations = m.operations;
          running = Some n;
          current = started;
          ready = t ∷ m.ready;
          threads = slice_set m.threads t.number creator ++ nobody ∷ [];
          blocks = blocks;
          count = counted m.count;
        })
    started_fit = record {
      births = births;
      lives = lives;
      store = made_store code fit.births m.store fit.store (Some m.current.frame) cells birth slot_fits (length-replicate slots no_int) short;
      alive = alive;
      block = all_blocks;
      first = front_same (λ (q : Life). is_living q.phase) refl zeroth fit.first ∙ fit.first;
      free = front_same (λ (q : Life). q.start) refl zeroth fit.first ∙ fit.free;
      listed = listed;
      many = length-append front (new ∷ []) ∙ ap (λ k. k + 1) (length-set fit.lives t.number now ∙ fit.many ∙ sym (length-set m.threads t.number creator))
          ∙ sym (length-append (slice_set m.threads t.number creator) (nobody ∷ []));
      current = λ u e. new_current u e;
      asks = asks_grown code fit.births births grown m.operations fit.asks;
      parked = λ u l not. new_parked u l not;
    }
      where
        new_current : (u : Item) → Some n ≡ Some u → started ≡ (life_at lives u).thread
        new_current u e =
            let same : n ≡ u = cc in
            elim (more_lives front new u) as (λ _. started ≡ (life_at lives u).thread) [
              | inl p ↦ sym (ap (λ (l : Life). l.thread) p.1)
              | inr p ↦ absurd (p.0 (sym (ap (λ (z : Item). z.number) same) ∙ sym long))
            ]

        old_parked : (u : Item) → is_living (life_at front u).phase ≡ true → going_on m.operations u (thread_at (slice_set m.threads t.number creator) u) ≡ (life_at front u).thread
        old_parked u l = elim (life_cases fit.lives t u now within) as (λ _. going_on m.operations u (thread_at (slice_set m.threads t.number creator) u) ≡ (life_at front u).thread) [
          | inl p ↦
              let lt : t.number < length m.threads = let w = within in let k = fit.many in omega (arith, w, k) in
              subst (λ z. going_on m.operations z (thread_at (slice_set m.threads t.number creator) z) ≡ creator) p.0
              (ap (going_on m.operations t) (get_or-set_same m.threads t.number creator nobody lt) ∙ going_free code m fit t run creator) ∙ sym (ap (λ (q : Life). q.thread) p.1)
          | inr p ↦
              ap (going_on m.operations u) (get_or-set_other m.threads t.number u.number creator nobody (λ e. p.0 (same_item t u (sym e))))
              ∙ fit.parked u (sym (life_same fit.lives t now within (λ (q : Life). is_living q.phase) refl u) ∙ l) (λ e. let both : Some t ≡ Some u = sym run ∙ e in p.0 (cc))
              ∙ sym (ap (λ (q : Life). q.thread) p.1)
        ]

        new_parked : (u : Item) → is_living (life_at lives u).phase ≡ true → (Some n ≡ Some u → ⊥)
            → going_on m.operations u (thread_at (slice_set m.threads t.number creator ++ nobody ∷ []) u) ≡ (life_at lives u).thread
        new_parked u l not = elim (more_lives front new u) as (λ _. going_on m.operations u (thread_at (slice_set m.threads t.number creator ++ nobody ∷ []) u) ≡ (life_at lives u).thread) [
          | inl p ↦ absurd (not (ap (λ z. Some z) (same_item n u (sym long ∙ sym p.0))))
          | inr p ↦
              let living : is_living (life_at front u).phase ≡ true = sym (ap (λ (q : Life). is_living q.phase) p.1) ∙ l in
              let lt = living_within front u living in
              let k = length-set m.threads t.number creator in
              let e = long in
              ap (going_on m.operations u) (get_or_append_left (slice_set m.threads t.number creator) (nobody ∷ []) nobody u.number (omega (arith, lt, k, e))) ∙ old_parked u living
              ∙ sym (ap (λ (q : Life). q.thread) p.1)
        ]

    counted_is : counted_in m.blocks m.current.block ≡ blocks
    counted_is = ap (counted_in m.blocks) there.is ∙ ap (λ o. with_block m.blocks b (one_more o)) there.at

    pub starts_fit : IsFit code (starts m t to store)
    starts_fit = rw counted_is started_fit

  -- the block in which it starts, and the ways of the two
  pub record Starts : Type 0 where
    pub ways : effect code place (i.Async slots to) s ≡ Some (Two (place + 1) (inner place slots s) to s)
    pub free : nat_eq (length s.operands) 0 ≡ true
    pub there : There

  pub starting : (leads : Leads) → effect code place (i.Async slots to) s ≡ Some leads → Starts
  starting leads finds =
      let c = if_is (can_start s) (Some (Two (place + 1) (inner place slots s) to s)) leads finds in
      let p = and_parts (nat_eq (length s.operands) 0) (nat_lt 0 (length s.blocks)) c.0 in
      let some : 0 < length s.blocks = let q = p.1 in grind (arith, nat_tests) in
      record { ways = finds ∙ sym c.1; free = p.0; there = block_there some (own_blocks s + h.below) m.current.block refl refl h.entered }

  pub async_fit : (leads : Leads) → effect code place (i.Async slots to) s ≡ Some leads → Onward (IsFit code) (begin code bound m t (Some (i.Async slots to)))
  async_fit leads finds =
      let z = starting leads finds in
      trap_on (IsFit code) m (begun m.store (Some m.current.frame) (replicate slots no_int)) (λ store. On (starts m t to store))
      (λ store e. let k = is_made m.store (Some m.current.frame) (replicate slots no_int) store e in
      subst (λ (z : Store). IsFit code (starts m t to z)) k.is (starts_fit z.ways z.free z.there k.short))
