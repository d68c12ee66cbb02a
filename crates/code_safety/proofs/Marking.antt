-- That a block is marked as cancelled changes nothing of what holds of a state.
-- Neither fitness, nor what is left to do, nor chains speak of marks: each is carried over from a table of blocks to one that is alike but
-- for them.
use Rattle.std.proofs.Common.{◌≡◌, ◌⊎◌, ℕ, List, length, Option, Some, None, true, refl, sym, ap, ◌∙◌, subst, inl, inr, arith}
use Rattle.std.proofs.lemmas.Bool.{cases_lt}
use Rattle.std.proofs.lemmas.List.{length-set, get_or-set_same, set_past}
use Rattle.work_item.specs.declared.ids.Item.{Item}
use Rattle.work_item.specs.declared.ids.BlockId.{BlockId}
use Rattle.stack_code.specs.Parts.{Parts}
use Rattle.code_meaning.specs.Machine.{Thread, Block, Flat, block_at, with_block, with_mark, marked}
use Rattle.code_safety.specs.Fit.{life_at, innermost, total, IsBlock, IsWaiting, IsFit}
use Rattle.code_safety.specs.Left.{owner_weight, left}
use Rattle.code_safety.specs.Living.{as_running}
use Rattle.code_safety.specs.Chains.{HasStack, AreChained}
use Rattle.code_safety.proofs.Lasting.{KeepsBlocks}
use Rattle.code_safety.proofs.Lives.{total_same}
use Rattle.code_safety.proofs.LinkedFrames.{same_frames, linked_same}
use Rattle.code_safety.proofs.Own.{rooted_of, block_bound, is_bound}
use Rattle.code_safety.proofs.OwnChains.{KeepsWaiting, own_chained, active_on, extends_same}
use Rattle.code_safety.proofs.Removing.{same_or_not, set_there, set_aside}
use Rattle.code_safety.proofs.Settings.{same_store}
use Rattle.code_safety.proofs.Stacks.{KeepsStart, has_stack_kept}
use Rattle.code_safety.proofs.Turns.{alive_kept}

-- the one is the other but for its mark
pub record IsAlike (x y : Block) : Type 0 where
  pub parent : y.parent ≡ x.parent
  pub owner : y.owner ≡ x.owner
  pub count : y.count ≡ x.count
  pub waits : y.waits ≡ x.waits

module _ (bs : List (Option Block)) (b : BlockId) where
  abbrev pub noted : List (Option Block)
  noted = with_block bs b (with_mark (block_at bs b))

  on : (c : BlockId) (x : Block) → block_at bs c ≡ Some x → (y : Block) × ((block_at noted c ≡ Some y) × IsAlike x y)
  on c x e = elim (same_or_not b c) as (λ _. (y : Block) × ((block_at noted c ≡ Some y) × IsAlike x y)) [
    | inl same ↦
        let here : block_at bs b ≡ Some x = ap (block_at bs) same ∙ e in
        let there : block_at noted c ≡ with_mark (block_at bs b) = subst (λ d. block_at noted d ≡ with_mark (block_at bs b)) same (set_there bs b (with_mark (block_at bs b)) x here) in
        (record x { cancelled = true }, (there ∙ ap with_mark here, record { parent = refl; owner = refl; count = refl; waits = refl }))
    | inr ne ↦ (x, (set_aside bs b (with_mark (block_at bs b)) c ne ∙ e, record { parent = refl; owner = refl; count = refl; waits = refl }))
  ]

  none_on : (c : BlockId) → block_at bs c ≡ None → block_at noted c ≡ None
  none_on c e = elim (same_or_not b c) as (λ _. block_at noted c ≡ None) [
    | inl same ↦ ap (λ o. block_at (with_block bs b (with_mark o)) c) (ap (block_at bs) same ∙ e) ∙ none_set c e same
    | inr ne ↦ set_aside bs b (with_mark (block_at bs b)) c ne ∙ e
  ]
    where
      none_set : (c : BlockId) → block_at bs c ≡ None → b ≡ c → block_at (with_block bs b None) c ≡ None
      none_set c e same = elim (cases_lt b.number (length bs)) as (λ _. block_at (with_block bs b None) c ≡ None) [
        | inl lt ↦ subst (λ (d : BlockId). block_at (with_block bs b None) d ≡ None) same (get_or-set_same bs b.number None None lt)
        | inr le ↦ ap (λ os. block_at os c) (set_past bs b.number None le) ∙ e
      ]

  back : (c : BlockId) (y : Block) → block_at noted c ≡ Some y → (x : Block) × ((block_at bs c ≡ Some x) × IsAlike x y)
  back c y e = go (block_at bs c) refl
    where
      go : (o : Option Block) → block_at bs c ≡ o → (x : Block) × ((block_at bs c ≡ Some x) × IsAlike x y)
      go None k = absurd (let no : None ≡ Some y = sym (none_on c k) ∙ e in cc)
      go (Some x) k =
          let z = on c x k in
          let same : z.0 ≡ y = let both : Some z.0 ≡ Some y = sym z.1.0 ∙ e in cc in
          (x, (k, subst (IsAlike x) same z.1.1))

module _ (code : Parts) (m : Flat) (fit : IsFit code m) (b : BlockId) where
  abbrev new : List (Option Block)
  new = noted m.blocks b

  kept : (u : Item) (k : ℕ) → KeepsBlocks m.blocks new u k
  kept u k c x e owner lt = let z = on m.blocks b c x e in (z.0, (z.1.0, (z.1.1.owner, z.1.1.parent)))

  starts : (start : Option BlockId) → KeepsStart m.blocks new start
  starts start c x s e = let z = on m.blocks b c x e in (z.0, (z.1.0, z.1.1.owner))

  still_waits : (u : Item) (c : BlockId) (h : Thread) → IsWaiting m.blocks u c h → IsWaiting new u c h
  still_waits u c h w =
      let z = on m.blocks b c w.block w.here in
      let count = z.1.1.count in
      let some = w.some in
      record { block = z.0; here = z.1.0; owner = z.1.1.owner ∙ w.owner; waits = z.1.1.waits ∙ w.waits; some = omega (arith, count, some); round = w.round ∙ sym z.1.1.parent }

  -- What a block is asked for goes by parent, owner, count and whether its owner waits, and these four stay.
  still_block : (c : BlockId) (y : Block) → block_at new c ≡ Some y → IsBlock fit.lives new c y
  still_block c y e =
      let z = back m.blocks b c y e in
      let o = fit.block c z.0 z.1.0 in
      let a = z.1.1 in
      record {
        inner = o.inner;
        innermost = ap (λ (u : Item). innermost (life_at fit.lives u)) a.owner ∙ o.innermost;
        within = o.within;
        nested = λ d w g owner lt.
            let k = back m.blocks b d w g in
            let r = o.nested d k.0 k.1.0 (sym k.1.1.owner ∙ owner ∙ a.owner) lt in
            (r.0, (a.parent ∙ r.1.0, r.1.1));
        rooted = λ p up.
            let r = o.rooted p (sym a.parent ∙ up) in
            let k = on m.blocks b p r.1.0 r.1.1.0 in (
              r.0,
              (
                k.0,
                (
                  k.1.0,
                  elim r.1.1.1 as (λ _. (k.0.owner ≡ y.owner) ⊎ ((life_at fit.lives y.owner).start ≡ Some p)) [
                    | inl q ↦ inl (k.1.1.owner ∙ q ∙ sym a.owner)
                    | inr q ↦ inr (ap (λ (u : Item). (life_at fit.lives u).start) a.owner ∙ q)
                  ],
                ),
              ),
            );
        newer = λ d q. o.newer d (ap (λ (u : Item). (life_at fit.lives u).start) (sym a.owner) ∙ q);
        count = a.count ∙ o.count;
        waits = λ w. ap (λ (u : Item). (life_at fit.lives u).phase) a.owner ∙ o.waits (sym a.waits ∙ w);
      }

  pub marked_fit : IsFit code (marked m b)
  marked_fit = record {
    births = fit.births;
    lives = fit.lives;
    store = fit.store;
    alive = λ u l.
        let z = life_at fit.lives u in
        alive_kept code fit.births fit.births (λ j y q. q) m.store m.store (λ g. Unit {0}) (same_store code fit.births m.store fit.store).carries m.blocks new (rooted_of code m fit) u z
        (block_bound z.thread.block) (λ g y born own. tt) (kept u (block_bound z.thread.block)) (is_bound z.thread.block) (λ c x s e. starts z.start c x s e) (λ c q w. still_waits u c z.thread w)
        (fit.alive u l);
    block = still_block;
    first = fit.first;
    free = fit.free;
    listed = fit.listed;
    asks = fit.asks;
    many = fit.many;
    current = fit.current;
    parked = fit.parked;
  }

  -- no more is left to do, and no less
  pub marked_left : (ranks : List ℕ) (bound : ℕ) → left ranks bound (marked m b) ≡ left ranks bound m
  marked_left ranks bound = let e = same_weight (owner_weight ranks m.threads) (weighs (block_at m.blocks b)) in omega (arith, e)
    where
      weighs : (o : Option Block) → owner_weight ranks m.threads (with_mark o) ≡ owner_weight ranks m.threads o
      weighs None = refl
      weighs (Some x) = refl

      same_weight : (f : Option Block → ℕ) → f (with_mark (block_at m.blocks b)) ≡ f (block_at m.blocks b) → total f new ≡ total f m.blocks
      same_weight f e = elim (cases_lt b.number (length m.blocks)) as (λ _. total f new ≡ total f m.blocks) [
        | inl lt ↦ total_same f m.blocks b.number (with_mark (block_at m.blocks b)) None lt e
        | inr le ↦ ap (total f) (set_past m.blocks b.number (with_mark (block_at m.blocks b)) le)
      ]

  module _ (chained : AreChained code m) (t : Item) (run : m.running ≡ Some t) where
    waits_back : KeepsWaiting new m.blocks
    waits_back c y e w = let z = back m.blocks b c y e in (z.0, (z.1.0, (sym z.1.1.owner, sym z.1.1.waits ∙ w)))

    waits_on : KeepsWaiting m.blocks new
    waits_on c x e w = let z = on m.blocks b c x e in (z.0, (z.1.0, (z.1.1.owner, z.1.1.waits ∙ w)))

    stack : HasStack code chained.origins new chained.sites t m.current
    stack =
        let z = chained.threads t m.current (as_running t run) in
        has_stack_kept code chained.origins chained.origins (extends_same chained.origins) m.blocks new (rooted_of code m fit) chained.sites chained.sites (extends_same chained.sites) t m.current
        (kept t (block_bound m.current.block)) z (starts z.start)

    pub marked_chained : AreChained code (marked m b)
    marked_chained = own_chained code m fit chained t run m.shared m.store m.current new m.count waits_back waits_on chained.origins chained.sites (extends_same chained.origins)
        (extends_same chained.sites) chained.long (chained.many ∙ sym (length-set m.blocks b.number (with_mark (block_at m.blocks b)))) chained.older
        (linked_same chained.origins m (marked m b) (same_frames chained.origins m.store)
        (λ f a. active_on code m fit chained t run m.shared m.store m.current new m.count waits_back waits_on f (λ has. has) a) chained.frames) stack
        (λ u ne k. kept u k) (λ u h l ne. starts (life_at fit.lives u).start)
