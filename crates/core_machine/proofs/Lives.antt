-- What a running thread finds of its block and of the table of threads: for `finish`, `start`, `end_thread` and a turn.
-- By counting over all threads: each block has as many threads as its count says, and each living one runs, is ready or waits, once.
use Rattle.std.proofs.Common.{◌≡◌, ◌⊎◌, ℕ, ◌+◌, ◌≤◌, ◌<◌, List, [], ◌∷◌, length, Option, Some, None, IsSome, Bool, true, false, refl, sym, ap, ◌∙◌, subst, inl, inr, arith}
use Rattle.std.specs.Prelude.{slice_get, slice_index_or, slice_set, IfSome, is_none, ◌&&◌}
use Rattle.std.proofs.lemmas.Bool.{cases_eq}
use Rattle.std.proofs.lemmas.List.{length-set, get_or-set_other}
use Rattle.work_item.specs.declared.ids.Item.{Item}
use Rattle.work_item.specs.declared.ids.BlockId.{BlockId}
use Rattle.work_item.specs.Conditions.{Lives, IsGoing}
use Rattle.core_scheduler.specs.Schedule.{front}
use Rattle.stack_code.specs.declared.instr.Instr.TheVariants as i
use Rattle.stack_code.specs.declared.shape.Leads.{Leads}
use Rattle.stack_code.specs.Parts.{Parts}
use Rattle.stack_code.specs.Shapes.{effect}
use Rattle.stack_code.specs.Valid.{IsValid}
use Rattle.code_meaning.specs.Machine.{Flat, Block, block_at}
use Rattle.code_safety.specs.Fit.{IsThread, Phase, Gone, Going, AtFinish, Life, no_life, life_at, is_living, is_at, starts_in}
use Rattle.code_safety.specs.Fit.{total, one_if, innermost, innermost_in, own_blocks, IsFit}
use Rattle.code_safety.proofs.Lives.{total_set, total_one, starts_one, living_within, one_at_most, same_item}
use Rattle.code_safety.proofs.Own.{phase_of, lives_of, within_of, thread_of}
use Rattle.code_safety.proofs.Entering.{Stands, own, round, stands_in}
use Rattle.code_safety.proofs.Finishing.{arrival}
use Rattle.code_safety.proofs.Starting.{starting}
use Rattle.code_safety.proofs.Dying.{leaving}
use Rattle.core_machine.specs.Machine.{is_resting, none_ready}
use Rattle.core_machine.specs.inner.Needs.{IsChildless, IsListed, CanFinish, CanStart, CanEnd, HasNext}

-- ---- whether one is ready

pub none_at_front : (ready : List Item) → is_none (front ready) ≡ none_ready ready
none_at_front [] = refl
none_at_front (t ∷ ready) = refl

pub has_next : (m : Flat) → m.running ≡ None → is_resting m ≡ false → HasNext m
has_next m idle some = go m.ready refl (sym (ap (λ o. is_none o && none_ready m.ready) idle) ∙ some)
  where
    go : (ready : List Item) → m.ready ≡ ready → none_ready m.ready ≡ false → HasNext m
    go [] e still = let both : true ≡ false = sym (ap none_ready e) ∙ still in absurd (cc)
    go (t ∷ ready) e still = record { next = t; later = ready; is = e }

-- ---- counts

starts_at_most : (b : BlockId) (l : Life) → starts_in b l ≤ 1
starts_at_most b l = go (is_living l.phase) refl
  where
    go : (r : Bool) → is_living l.phase ≡ r → starts_in b l ≤ 1
    go true e = let o = one_at_most (is_at l.start b) in let s : starts_in b l ≡ one_if (is_at l.start b) = rw e refl in omega (arith, o, s)
    go false e = let s : starts_in b l ≡ 0 = rw e refl in omega (arith, s)

total_at_most : (b : BlockId) (lives : List Life) → total (starts_in b) lives ≤ length lives
total_at_most b [] = omega arith
total_at_most b (l ∷ lives) = let one = starts_at_most b l in let rest = total_at_most b lives in omega (arith, one, rest)

lives_in : (p : Phase) (block : Option BlockId) (b : BlockId) → innermost_in p block ≡ Some b → is_living p ≡ true
lives_in Gone block b e = let no : None ≡ Some b = e in cc
lives_in Going block b e = refl
lives_in (AtFinish a) block b e = refl

module _ (code : Parts) (m : Flat) (fit : IsFit code m) where
  counted_once : (b : BlockId) (u : Item) → is_living (life_at fit.lives u).phase ≡ true → (life_at fit.lives u).start ≡ Some b → 1 ≤ total (starts_in b) fit.lives
  counted_once b u l s =
      let within = living_within fit.lives u l in
      let one = starts_one b (life_at fit.lives u) l s in
      let some = total_one (starts_in b) fit.lives u.number no_life within in
      omega (arith, one, some)

  -- the owner of a block lives
  owner_lives : (c : BlockId) (y : Block) → block_at m.blocks c ≡ Some y → is_living (life_at fit.lives y.owner).phase ≡ true
  owner_lives c y e = let o = fit.block c y e in lives_in (life_at fit.lives y.owner).phase (life_at fit.lives y.owner).thread.block o.inner o.innermost

  -- a block that lies in another one is newer, and so lies not in the innermost one of its owner
  not_innermost : (b c : BlockId) (y : Block) → block_at m.blocks c ≡ Some y → y.parent ≡ Some b → innermost (life_at fit.lives y.owner) ≡ Some b → ⊥
  not_innermost b c y e up inner =
      let o = fit.block c y e in
      let same : o.inner ≡ b = let both : Some o.inner ≡ Some b = sym o.innermost ∙ inner in cc in
      let newer = (o.rooted b up).0 in
      let within : c.number ≤ b.number = subst (λ (k : BlockId). c.number ≤ k.number) same o.within in
      omega (arith, newer, within)

  module _ (t : Item) (run : m.running ≡ Some t) where
    h : IsThread code fit.births m.store m.blocks t (life_at fit.lives t).start m.current
    h = thread_of code m fit t run

    pub is_listed : IsListed m
    is_listed = subst (λ o. IfSome o (λ (u : Item). u.number < length m.threads)) (sym run) (let w = within_of code m fit t run in let l = fit.many in omega (arith, w, l))

    inner_now : innermost (life_at fit.lives t) ≡ m.current.block
    inner_now = ap (λ p. innermost_in p (life_at fit.lives t).thread.block) (phase_of code m fit t run) ∙ ap (λ x. x.block) (sym (fit.current t run))

    pub round_lives : IfSome m.current.block (λ b. IsSome (block_at m.blocks b))
    round_lives = go m.current.block refl
      where
        there : (b : BlockId) → Stands m.blocks t (life_at fit.lives t).start b → IsSome (block_at m.blocks b)
        there b (own x here owner) = rw here refl
        there b (round s) = let w = (fit.alive t (lives_of code m fit t run)).started b s in rw w.here refl

        go : (o : Option BlockId) → m.current.block ≡ o → IfSome o (λ b. IsSome (block_at m.blocks b))
        go None e = tt
        go (Some b) e = let k = thread_of code m fit t run in there b (stands_in m.blocks t (life_at fit.lives t).start (own_blocks k.shape + k.below) m.current.block b e k.entered)

    frame_goes : IsGoing m.store m.current.frame
    frame_goes = let k = thread_of code m fit t run in rw k.top.goes.here k.top.goes.going

    frame_lives : Lives m.store m.current.frame
    frame_lives = let k = thread_of code m fit t run in rw k.top.goes.here refl

    module _ (b : BlockId) (is : m.current.block ≡ Some b) (x : Block) (here : block_at m.blocks b ≡ Some x) where
      owned : (c : BlockId) (y : Block) → block_at m.blocks c ≡ Some y → y.parent ≡ Some b → y.owner ≡ t → ⊥
      owned c y e up mine = not_innermost b c y e up (ap (λ u. innermost (life_at fit.lives u)) mine ∙ inner_now ∙ is)

      parted : (c : BlockId) (y : Block) → block_at m.blocks c ≡ Some y → y.parent ≡ Some b → (x.owner ≡ y.owner) ⊎ ((life_at fit.lives y.owner).start ≡ Some b)
      parted c y e up =
          let r = ((fit.block c y e).rooted b up).1 in
          let same : r.0 ≡ x = let both : Some r.0 ≡ Some x = sym r.1.0 ∙ here in cc in
          subst (λ (z : Block). (z.owner ≡ y.owner) ⊎ ((life_at fit.lives y.owner).start ≡ Some b)) same r.1.1

      passes_childless : x.owner ≡ t → x.count ≡ 0 → IsChildless m.blocks b
      passes_childless mine zero_left c y e up = elim (parted c y e up) as (λ _. ⊥) [
        | inl same ↦ owned c y e up (sym same ∙ mine)
        | inr s ↦
            let some = counted_once b y.owner (owner_lives c y e) s in
            let count = (fit.block b x here).count in
            omega (arith, zero_left, some, count)
      ]

      ends_childless : (life_at fit.lives t).start ≡ Some b → x.count ≡ 1 → x.waits ≡ true → IsChildless m.blocks b
      ends_childless mine one_left waits c y e up = elim (parted c y e up) as (λ _. ⊥) [
        | inl same ↦
            let at : innermost (life_at fit.lives x.owner) ≡ Some b = ap (λ p. innermost_in p (life_at fit.lives x.owner).thread.block) ((fit.block b x here).waits waits) in
            not_innermost b c y e up (ap (λ u. innermost (life_at fit.lives u)) (sym same) ∙ at)
        | inr s ↦ two s
      ]
        where
          left : List Life
          left = slice_set fit.lives t.number no_life

          two : (life_at fit.lives y.owner).start ≡ Some b → ⊥
          two s = elim (cases_eq y.owner.number t.number) as (λ _. ⊥) [
            | inl same ↦ owned c y e up (same_item y.owner t same)
            | inr other ↦
                let within = within_of code m fit t run in
                let l = owner_lives c y e in
                let long : y.owner.number < length left = let w = living_within fit.lives y.owner l in let n = length-set fit.lives t.number no_life in omega (arith, w, n) in
                let set = total_set (starts_in b) fit.lives t.number no_life no_life within in
                let none : starts_in b no_life ≡ 0 = refl in
                let own_one = starts_one b (life_at fit.lives t) (lives_of code m fit t run) mine in
                let there : slice_index_or left y.owner.number no_life ≡ life_at fit.lives y.owner = get_or-set_other fit.lives t.number y.owner.number no_life no_life other in
                let its_one : starts_in b (slice_index_or left y.owner.number no_life) ≡ 1 = ap (starts_in b) there ∙ starts_one b (life_at fit.lives y.owner) l s in
                let some = total_one (starts_in b) left y.owner.number no_life long in
                let count = (fit.block b x here).count in
                omega (arith, one_left, set, none, own_one, its_one, some, count)
          ]

module _ (code : Parts) (bound : ℕ) (m : Flat) (fit : IsFit code m) (t : Item) (run : m.running ≡ Some t) where
  abbrev here_now : IsThread code fit.births m.store m.blocks t (life_at fit.lives t).start m.current
  here_now = thread_of code m fit t run

  pub finish_there : (slot : ℕ) → slice_get code.instrs m.current.place ≡ Some (i.Finish slot) → (leads : Leads) → effect code m.current.place (i.Finish slot) here_now.shape ≡ Some leads → CanFinish m
  finish_there slot here leads e =
      let a = (arrival code bound m fit t run slot here leads e).innermost in
      record {
        has = record { number = a.b; is = a.is; block = a.x; there = a.here };
        childless = passes_childless code m fit t run a.b a.is a.x a.here a.owner;
      }

  pub start_there : IsValid code → (slots to : ℕ) → slice_get code.instrs m.current.place ≡ Some (i.Async slots to) → (leads : Leads)
      → effect code m.current.place (i.Async slots to) here_now.shape ≡ Some leads → CanStart m
  start_there v slots to here leads e =
      let a = (starting code bound m fit t run v slots to here leads e).there in
      let count = (fit.block a.b a.x a.at).count in
      let most = total_at_most a.b fit.lives in
      let many = fit.many in
      record {
        has = record { number = a.b; is = a.is; block = a.x; there = a.at };
        few = omega (arith, count, most, many);
        frame = frame_lives code m fit t run;
        listed = is_listed code m fit t run;
      }

  pub end_there : (leads : Leads) → effect code m.current.place i.End here_now.shape ≡ Some leads → CanEnd m
  end_there leads e =
      let a = leaving code bound m fit t run leads e in
      let count = (fit.block a.b a.x a.here).count in
      let some = counted_once code m fit a.b t (lives_of code m fit t run) a.start in
      record {
        has = record { number = a.b; is = a.block; block = a.x; there = a.here };
        some = omega (arith, count, some);
        childless = ends_childless code m fit t run a.b a.block a.x a.here a.start;
        frame = frame_goes code m fit t run;
      }
