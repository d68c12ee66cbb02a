-- The blocks of a core as the code's meaning sees them, where one of them changes.
-- The meaning keeps the same fields under other types; each change that finish_block makes to a block that lives is read as a change of the meaning's list.
use Rattle.std.proofs.Common.{◌≡◌, ℕ, zero, suc, ◌+◌, ◌-◌, List, [], ◌∷◌, Option, Some, None, Bool, true, false, refl, sym, ap, ◌∙◌}
use Rattle.std.specs.Prelude.{slice_index_or, slice_set, nat_eq, ◌&&◌, if◌then◌else◌}
use Rattle.std.proofs.lemmas.List.{map-set}
use Rattle.work_item.specs.declared.ids.BlockId.{BlockId}
use Rattle.finish_block.specs.declared.block.Block as kept
use Rattle.finish_block.specs.declared.blocks.Arrival.TheVariants.{Passes, Waits}
use Rattle.finish_block.specs.Table as table
use Rattle.finish_block.specs.Table.{arrival, arrival_at, left_at, one_more, one_less, wakes, woken, woken_by, parent_at}
use Rattle.finish_block.specs.Conditions.{Childless}
use Rattle.code_meaning.specs.Machine.{Block, block_at, with_block}
use Rattle.core_machine.specs.Blocks.{block_of, blocks_of}
use Rattle.core_machine.specs.inner.Needs.{IsChildless}

pub at_blocks : (xs : List (Option kept.Block)) (n : ℕ) → slice_index_or (blocks_of xs) n None ≡ block_of (slice_index_or xs n None)
at_blocks [] n = refl
at_blocks (x ∷ xs) zero = refl
at_blocks (x ∷ xs) (suc n) = at_blocks xs n

-- what is kept of a block that lives
pub record Kept (xs : List (Option kept.Block)) (b : BlockId) (x : Block) : Type 0 where
  pub block : kept.Block
  pub there : table.block_at xs b ≡ Some block
  pub is : (record { parent = block.parent; owner = block.owner; count = block.count; waits = block.waits; cancelled = block.cancelled }) ≡ x

kept_in : (xs : List (Option kept.Block)) (b : BlockId) (x : Block) (o : Option kept.Block) → table.block_at xs b ≡ o → block_of o ≡ Some x → Kept xs b x
kept_in xs b x None e f = let no : None ≡ Some x = f in cc
kept_in xs b x (Some y) e f = record { block = y; there = e; is = cc }

pub kept_of : (xs : List (Option kept.Block)) (b : BlockId) (x : Block) → block_at (blocks_of xs) b ≡ Some x → Kept xs b x
kept_of xs b x e = kept_in xs b x (table.block_at xs b) refl (sym (at_blocks xs b.number) ∙ e)

pub childless : (xs : List (Option kept.Block)) (b : BlockId) → IsChildless (blocks_of xs) b → Childless xs b
childless xs b none c x e = none c (record { parent = x.parent; owner = x.owner; count = x.count; waits = x.waits; cancelled = x.cancelled }) (at_blocks xs c.number ∙ ap block_of e)

module _ (xs : List (Option kept.Block)) (b : BlockId) (x : Block) (h : block_at (blocks_of xs) b ≡ Some x) where
  k : Kept xs b x
  k = kept_of xs b x h

  pub parent_is : parent_at (table.block_at xs b) ≡ x.parent
  parent_is = ap parent_at k.there ∙ ap (λ (y : Block). y.parent) k.is

  set_of : (o : Option kept.Block) → blocks_of (slice_set xs b.number o) ≡ with_block (blocks_of xs) b (block_of o)
  set_of o = map-set block_of xs b.number o

  -- ---- an arrival

  pub passes_count : arrival xs b ≡ Passes → nat_eq x.count 0 ≡ true
  passes_count e = go (nat_eq k.block.count 0) refl (sym (ap arrival_at k.there) ∙ e) ∙ refl
    where
      go : (r : Bool) → nat_eq k.block.count 0 ≡ r → arrival_at (Some k.block) ≡ Passes → nat_eq x.count 0 ≡ true
      go true t f = ap (λ (y : Block). nat_eq y.count 0) (sym k.is) ∙ t
      go false t f = let no : Waits ≡ Passes = sym (ap (λ (q : Bool). if q then Passes else Waits) t) ∙ f in absurd (cc)

  pub waits_count : arrival xs b ≡ Waits → nat_eq x.count 0 ≡ false
  waits_count e = go (nat_eq k.block.count 0) refl (sym (ap arrival_at k.there) ∙ e)
    where
      go : (r : Bool) → nat_eq k.block.count 0 ≡ r → arrival_at (Some k.block) ≡ Waits → nat_eq x.count 0 ≡ false
      go false t f = ap (λ (y : Block). nat_eq y.count 0) (sym k.is) ∙ t
      go true t f = let no : Passes ≡ Waits = sym (ap (λ (q : Bool). if q then Passes else Waits) t) ∙ f in absurd (cc)

  kept_count : (r : Bool) → nat_eq x.count 0 ≡ r → nat_eq k.block.count 0 ≡ r
  kept_count r e = ap (λ (y : Block). nat_eq y.count 0) k.is ∙ e

  pub passed : nat_eq x.count 0 ≡ true → blocks_of (slice_set xs b.number (left_at (table.block_at xs b))) ≡ with_block (blocks_of xs) b None
  passed e = set_of (left_at (table.block_at xs b)) ∙ ap (λ o. with_block (blocks_of xs) b (block_of (left_at o))) k.there
      ∙ ap (λ (q : Bool). with_block (blocks_of xs) b (block_of (if q then None else Some (record k.block { waits = true })))) (kept_count true e)

  pub waited : nat_eq x.count 0 ≡ false → blocks_of (slice_set xs b.number (left_at (table.block_at xs b))) ≡ with_block (blocks_of xs) b (Some (record x { waits = true }))
  waited e = set_of (left_at (table.block_at xs b)) ∙ ap (λ o. with_block (blocks_of xs) b (block_of (left_at o))) k.there
      ∙ ap (λ (q : Bool). with_block (blocks_of xs) b (block_of (if q then None else Some (record k.block { waits = true })))) (kept_count false e)
      ∙ ap (λ (y : Block). with_block (blocks_of xs) b (Some (record y { waits = true }))) k.is

  -- ---- a thread more, and one less

  pub more : blocks_of (slice_set xs b.number (one_more (table.block_at xs b))) ≡ with_block (blocks_of xs) b (Some (record x { count = x.count + 1 }))
  more = set_of (one_more (table.block_at xs b)) ∙ ap (λ o. with_block (blocks_of xs) b (block_of (one_more o))) k.there
      ∙ ap (λ (y : Block). with_block (blocks_of xs) b (Some (record y { count = y.count + 1 }))) k.is

  kept_wakes : (r : Bool) → (nat_eq x.count 1 && x.waits) ≡ r → wakes k.block ≡ r
  kept_wakes r e = ap (λ (y : Block). nat_eq y.count 1 && y.waits) k.is ∙ e

  pub woken_is : (nat_eq x.count 1 && x.waits) ≡ true → woken xs b ≡ Some x.owner
  woken_is e = ap woken_by k.there ∙ ap (λ (q : Bool). if q then Some k.block.owner else None) (kept_wakes true e) ∙ ap (λ (y : Block). Some y.owner) k.is

  pub none_woken : (nat_eq x.count 1 && x.waits) ≡ false → woken xs b ≡ None
  none_woken e = ap woken_by k.there ∙ ap (λ (q : Bool). if q then Some k.block.owner else None) (kept_wakes false e)

  pub last_ended : (nat_eq x.count 1 && x.waits) ≡ true → blocks_of (slice_set xs b.number (one_less (table.block_at xs b))) ≡ with_block (blocks_of xs) b None
  last_ended e = set_of (one_less (table.block_at xs b)) ∙ ap (λ o. with_block (blocks_of xs) b (block_of (one_less o))) k.there
      ∙ ap (λ (q : Bool). with_block (blocks_of xs) b (block_of (if q then None else Some (record k.block { count = k.block.count - 1 })))) (kept_wakes true e)

  pub one_ended : (nat_eq x.count 1 && x.waits) ≡ false → blocks_of (slice_set xs b.number (one_less (table.block_at xs b))) ≡ with_block (blocks_of xs) b (Some (record x { count = x.count - 1 }))
  one_ended e = set_of (one_less (table.block_at xs b)) ∙ ap (λ o. with_block (blocks_of xs) b (block_of (one_less o))) k.there
      ∙ ap (λ (q : Bool). with_block (blocks_of xs) b (block_of (if q then None else Some (record k.block { count = k.block.count - 1 })))) (kept_wakes false e)
      ∙ ap (λ (y : Block). with_block (blocks_of xs) b (Some (record y { count = y.count - 1 }))) k.is
