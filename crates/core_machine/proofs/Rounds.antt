-- The blocks round a block, and its mark, in the table and in the code's meaning; and the oldest operation within a block, by its place.
-- Both make the same list of blocks, by induction on its length. The search is the invariant `Seeks`: no operation before this place passes the test. For `oldest_within`.
use Rattle.std.proofs.Common.{◌≡◌, ℕ, zero, suc, ◌+◌, ◌<◌, List, ◌∷◌, length, drop, set, Option, Some, None, Bool, true, false, refl, sym, ap, ◌∙◌, inl, inr, arith}
use Rattle.std.specs.Prelude.{cond, find, position, slice_get, slice_set, nat_eq}
use Rattle.std.specs.List.{remove, position_from, list_any}
use Rattle.std.proofs.lemmas.Iterator.Adapters.{position_from-zero}
use Rattle.std.proofs.lemmas.List.{drop_more, length-map, map-set}
use Rattle.std.proofs.lemmas.Option.{get_or_from_slice_get, slice_get_cases}
use Rattle.work_item.specs.declared.ids.BlockId.{BlockId}
use Rattle.cancel_scope.specs.declared.operation.Operation.{Operation}
use Rattle.cancel_scope.specs.Outstanding.{change_first, without_first}
use Rattle.cancel_scope.proofs.Finding.{is_first, none_found}
use Rattle.finish_block.specs.declared.block.Block as kept
use Rattle.finish_block.specs.Table as table
use Rattle.finish_block.specs.Ancestors as ancestors
use Rattle.code_meaning.specs.Machine as flat
use Rattle.core_machine.specs.declared.running.Running.{Running}
use Rattle.core_machine.specs.Blocks.{block_of, blocks_of}
use Rattle.core_machine.specs.State.{flat_of}
use Rattle.core_machine.proofs.Blocks.{at_blocks}

-- ---- the blocks round a block

module _ (xs : List (Option kept.Block)) where
  parent_is : (o : Option kept.Block) → flat.parent_of (block_of o) ≡ table.parent_at o
  parent_is None = refl
  parent_is (Some x) = refl

  few_same : (k : ℕ) (b : Option BlockId) → ancestors.few_round k xs b ≡ flat.few_round k (blocks_of xs) b
  few_same k None = refl
  few_same zero (Some b) = refl
  few_same (suc k) (Some b) =
      let up : table.parent_at (table.block_at xs b) ≡ flat.parent_of (flat.block_at (blocks_of xs) b) = sym (ap flat.parent_of (at_blocks xs b.number) ∙ parent_is (table.block_at xs b)) in
      ap (λ bs. b ∷ bs) (few_same k (table.parent_at (table.block_at xs b)) ∙ ap (flat.few_round k (blocks_of xs)) up)

  pub round_same : (b : Option BlockId) → ancestors.round xs b ≡ flat.round (blocks_of xs) b
  round_same b = few_same (length xs) b ∙ ap (λ k. flat.few_round k (blocks_of xs) b) (sym (length-map xs block_of))

-- whether an operation lies within a block, asked of the block in which its thread stands
pub inside_same : (m : Running) (block : BlockId) (o : Operation) (own : Option BlockId) → own ≡ (flat.thread_at m.threads.threads o.item).block
    → list_any (λ (x : BlockId). nat_eq block.number x.number) (ancestors.round m.blocks.blocks own) ≡ flat.is_inside (flat_of m) block o
inside_same m block o own is =
    ap (list_any (λ (x : BlockId). nat_eq block.number x.number)) (ap (ancestors.round m.blocks.blocks) is ∙ round_same m.blocks.blocks (flat.thread_at m.threads.threads o.item).block)

-- ---- the block is marked

mark_of : (o : Option kept.Block) → block_of (table.with_mark o) ≡ flat.with_mark (block_of o)
mark_of None = refl
mark_of (Some x) = refl

pub marked_blocks : (xs : List (Option kept.Block)) (b : BlockId) → blocks_of (slice_set xs b.number (table.with_mark (table.block_at xs b)))
    ≡ flat.with_block (blocks_of xs) b (flat.with_mark (flat.block_at (blocks_of xs) b))
marked_blocks xs b = map-set block_of xs b.number (table.with_mark (table.block_at xs b))
    ∙ ap (λ o. flat.with_block (blocks_of xs) b o) (mark_of (table.block_at xs b) ∙ ap flat.with_mark (sym (at_blocks xs b.number)))

-- ---- the oldest operation within

module _ (test : Operation → Bool) (os : List Operation) where
  -- from that place on it is sought in what is left
  abbrev pub Seeks : ℕ → Type 0
  Seeks n = position test os ≡ position_from test n (drop n os)

  pub seeks_first : Seeks 0
  seeks_first = position_from-zero test os

  module _ (n : ℕ) (o : Operation) (sought : Seeks n) (within : n < length os) (there : slice_get os n ≡ Some o) where
    left : drop n os ≡ o ∷ drop (n + 1) os
    left = drop_more os n o within ∙ ap (λ x. x ∷ drop (n + 1) os) (get_or_from_slice_get os n o o there)

    by_test : (b : Bool) → test o ≡ b → position test os ≡ cond b (Some n) (position_from test (n + 1) (drop (n + 1) os))
    by_test b e = sought ∙ ap (position_from test n) left ∙ ap (λ (z : Bool). cond z (Some n) (position_from test (n + 1) (drop (n + 1) os))) e

    pub seeks_next : test o ≡ false → Seeks (n + 1)
    seeks_next e = by_test false e

    pub sought_here : test o ≡ true → position test os ≡ Some n
    sought_here e = by_test true e

  -- it stands there
  pub place_there : (n : ℕ) → position test os ≡ Some n → (o : Operation) × (slice_get os n ≡ Some o)
  place_there n first = elim (slice_get_cases os n).1 as (λ _. (o : Operation) × (slice_get os n ≡ Some o)) [
    | inl h ↦ (h.0, h.2)
    | inr h ↦ let within = (is_first test os n (sym first)).within in let past = h.0 in absurd (omega (arith, within, past))
  ]

  pub none_within : position test os ≡ None → find test os ≡ None
  none_within e = none_found test os (sym e)

  module _ (n : ℕ) (o : Operation) (first : position test os ≡ Some n) (there : slice_get os n ≡ Some o) where
    pub oldest_found : find test os ≡ Some o
    oldest_found = (is_first test os n (sym first)).found ∙ there

    pub oldest_without : without_first test os ≡ remove os n
    oldest_without = (is_first test os n (sym first)).without

    pub oldest_changed : (change : Operation → Operation) → change_first test change os ≡ set os n (change o)
    oldest_changed change = (is_first test os n (sym first)).changed change o there
