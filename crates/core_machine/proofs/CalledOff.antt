-- What a cancel makes of a running core, and what a send or receive in a cancelled block does. For `cancel`, `send` and `receive`.
-- The table and the code's meaning agree on whether a block is cancelled (Rounds), so both take the same branch; in each the fields are compared one by one.
use Rattle.std.proofs.Common.{◌≡◌, ℕ, ◌+◌, ◌≤◌, List, [], ◌∷◌, ◌++◌, length, Option, Some, None, IsSome, Bool, true, false, refl, sym, ap, ◌∙◌, subst, arith}
use Rattle.std.specs.Prelude.{find, drop, not, ◌||◌}
use Rattle.std.proofs.lemmas.Bool.{and_parts}
use Rattle.std.specs.List.{list_any}
use Rattle.work_item.specs.declared.ids.Item.{Item}
use Rattle.work_item.specs.declared.ids.BlockId.{BlockId}
use Rattle.work_item.specs.declared.cell.Cell.{Cell}
use Rattle.work_item.specs.declared.cell.Cell.TheVariants as cell
use Rattle.work_item.specs.Store.{cell_at}
use Rattle.cancel_scope.specs.declared.operation.Asked.{Asked}
use Rattle.cancel_scope.specs.declared.operation.Progress.{Progress}
use Rattle.cancel_scope.specs.declared.operation.Progress.TheVariants as progress
use Rattle.cancel_scope.specs.declared.operation.Operation.{Operation}
use Rattle.cancel_scope.specs.Outstanding.{started, has_begun, without_first}
use Rattle.cancel_scope.specs.Roomy.{Roomy}
use Rattle.core_state.specs.Moves.{Move, On}
use Rattle.core_state.specs.Arrivals.{cancelled}
use Rattle.core_state.specs.Cancelling.{by_outcome, is_to_try, tried, tries}
use Rattle.core_state.specs.Frames.{block_in}
use Rattle.finish_block.specs.declared.block.Block as kept
use Rattle.finish_block.specs.Table as table
use Rattle.finish_block.specs.Table.{Table}
use Rattle.finish_block.specs.Ancestors as ancestors
use Rattle.thread_table.specs.Operands.{on_top}
use Rattle.stack_code.specs.declared.instr.Instr.TheVariants as i
use Rattle.code_meaning.specs.Machine as flat
use Rattle.code_meaning.specs.Machine.{Flat, FlatEnd, arrived, asks, asks_in, block_at, counted, goes, is_cancelled, is_inside, marked, operates, resumed, told}
use Rattle.code_safety.proofs.Waiting.{found_at}
use Rattle.core_machine.specs.declared.running.Running.{Running}
use Rattle.core_machine.specs.Blocks.{block_of, blocks_of}
use Rattle.core_machine.specs.State.{flat_of, end_or, state_of}
use Rattle.core_machine.specs.Tried.{tried_as, tried_in, tried_within}
use Rattle.core_machine.specs.inner.Changes.{Does, item_of}
use Rattle.core_machine.proofs.Blocks.{at_blocks}
use Rattle.core_machine.proofs.Rounds.{round_same, marked_blocks}

-- ---- whether a block is cancelled

module _ (xs : List (Option kept.Block)) where
  mark_in : (o : Option kept.Block) → ancestors.is_marked o ≡ flat.is_marked (block_of o)
  mark_in None = refl
  mark_in (Some x) = refl

  marked_at : (b : BlockId) → ancestors.is_marked (table.block_at xs b) ≡ flat.is_marked (block_at (blocks_of xs) b)
  marked_at b = mark_in (table.block_at xs b) ∙ sym (ap flat.is_marked (at_blocks xs b.number))

  any_same : (bs : List BlockId) → ancestors.any_marked xs bs ≡ list_any (λ (b : BlockId). flat.is_marked (block_at (blocks_of xs) b)) bs
  any_same [] = refl
  any_same (b ∷ bs) = ap (λ (z : Bool). z || ancestors.any_marked xs bs) (marked_at b) ∙ ap (λ (z : Bool). flat.is_marked (block_at (blocks_of xs) b) || z) (any_same bs)

  pub cancelled_same : (b : Option BlockId) → ancestors.any_marked xs (ancestors.round xs b) ≡ is_cancelled (blocks_of xs) b
  cancelled_same b = any_same (ancestors.round xs b) ∙ ap (list_any (λ (x : BlockId). flat.is_marked (block_at (blocks_of xs) x))) (round_same xs b)

-- ---- a send or a receive

pub stands_on : (test : Cell → Bool) (ops : List Cell) → on_top test ops ≡ true → (x : Cell) × ((below : List Cell) × (ops ≡ x ∷ below))
stands_on test [] h = let no : false ≡ true = h in absurd (cc)
stands_on test (x ∷ below) h = (x, (below, refl))

pub some_stands : (ops : List Cell) → 1 ≤ length ops → (x : Cell) × ((below : List Cell) × (ops ≡ x ∷ below))
some_stands [] h = absurd (omega (arith, h))
some_stands (x ∷ below) h = (x, (below, refl))

module _ (m : Running) (still : m.ended ≡ None) (link : ℕ) (ask : Cell → Asked) (x : Cell) (below : List Cell) (stand : m.operands ≡ x ∷ below) where
  -- what the instruction makes of the core
  abbrev Asking : Move Flat FlatEnd
  Asking = flat.on_top (flat_of m) (λ y rest. asks (flat_of m) (item_of m.schedule.running) link (ask y) rest) m.operands

  asking : (item : Item) → item_of m.schedule.running ≡ item → (b : Bool) → b ≡ ancestors.any_marked m.blocks.blocks (ancestors.round m.blocks.blocks m.block)
      → Asking ≡ asks_in b (flat_of m) item link (ask x) below
  asking item run b is =
      ap (flat.on_top (flat_of m) (λ y rest. asks (flat_of m) (item_of m.schedule.running) link (ask y) rest)) stand
      ∙ ap (λ t. asks (flat_of m) t link (ask x) below) run
      ∙ ap (λ z. asks_in z (flat_of m) item link (ask x) below) (sym (is ∙ cancelled_same m.blocks.blocks m.block))

  -- in a cancelled block it has its value at once
  pub at_once : true ≡ ancestors.any_marked m.blocks.blocks (ancestors.round m.blocks.blocks m.block) → (after : Running)
      → after ≡ record m { operands = cell.Int cancelled ∷ drop 1 m.operands; place = m.place + 1; count = counted m.count } → state_of after ≡ Asking
  at_once is after e =
      let end : Running = record m { operands = cell.Int cancelled ∷ drop 1 m.operands; place = m.place + 1; count = counted m.count } in
      ap state_of e ∙ ap (end_or (flat_of end)) still ∙ ap (λ (l : List Cell). goes (flat_of m) (cell.Int cancelled ∷ drop 1 l)) stand
      ∙ sym (asking (item_of m.schedule.running) refl true is)

  -- in another it waits
  pub waits_there : false ≡ ancestors.any_marked m.blocks.blocks (ancestors.round m.blocks.blocks m.block) → (item : Item) → m.schedule.running ≡ Some item → (q : Roomy)
      → q.operations ≡ m.outstanding.operations → (after : Running) → flat_of after ≡ operates (flat_of (record m { outstanding = q; operands = below })) item link (ask x) below
      → after.ended ≡ m.ended → state_of after ≡ Asking
  waits_there is item run q same after e ended =
      ap (end_or (flat_of after)) (ended ∙ still)
      ∙ ap (λ y. On y) (e ∙ ap (λ os. record (operates (flat_of m) item link (ask x) below) { operations = os ++ started link (ask x) item ∷ [] }) same)
      ∙ sym (asking item (ap item_of run) false is)

-- ---- a cancel

module _ (m : Running) (still : m.ended ≡ None) (level slot : ℕ) (block : BlockId) (is : block ≡ block_in (cell_at m.frames m.frame level slot))
    (blocks : Table) (marks : blocks ≡ table.marked m.blocks block) where
  abbrev f : Flat
  f = flat_of m

  abbrev now : Flat
  now = marked f block

  abbrev test : Operation → Bool
  test = is_to_try (is_inside f block)

  -- the core with the block marked
  stands : (b : Running) → b ≡ record m { blocks = blocks } → flat_of b ≡ now
  stands b e =
      ap flat_of e ∙ ap (λ (x : Table). record f { blocks = blocks_of x.blocks }) marks ∙ ap (λ bs. record f { blocks = bs }) (marked_blocks m.blocks.blocks block)

  -- none is left to try
  pub goes_past : find test f.operations ≡ None → (after : Running) → after ≡ record m { blocks = blocks; place = m.place + 1; count = counted m.count }
      → Does m (i.Cancel level slot) after
  goes_past none after e =
      let was : Running = record m { blocks = blocks } in
      let past : Flat → Flat = λ x. record x { current = flat.at x.current (x.current.place + 1) x.current.operands; count = counted x.count } in
      let ends : state_of after ≡ On (past (flat_of was)) = ap state_of e ∙ ap (end_or (past (flat_of was))) still in
      let ways : (Option Operation) → Move Flat FlatEnd =
      λ r. tries (told (counted m.count)) f.shared f.store f.operations test (λ shared x. On (arrived now shared x)) (goes now f.current.operands) r in
      ends ∙ ap (λ (x : Flat). On (past x)) (stands was refl) ∙ sym (ap (λ b. flat.calls_off f b) (sym is) ∙ ap ways none)

  -- the oldest, which was not offered, has ended
  pub tries_oldest : (o : Operation) → find test f.operations ≡ Some o → o.progress ≡ progress.Waiting → (q : Roomy) → q.operations ≡ without_first test f.operations
      → (between after : Running) → between ≡ record m { outstanding = q; blocks = blocks } → flat_of after ≡ resumed (flat_of between) (cell.Int cancelled) (Some o.item)
      → after.ended ≡ between.ended → Does m (i.Cancel level slot) after
  tries_oldest o found waits q left between after e now_is ended =
      let was : Running = record m { blocks = blocks } in
      let gone : flat_of between ≡ record now { operations = without_first test f.operations } =
      ap flat_of e ∙ ap (λ (x : Flat). record x { operations = q.operations }) (stands was refl) ∙ ap (λ (os : List Operation). record now { operations = os }) left in
      let ways : (Option Operation) → Move Flat FlatEnd =
      λ r. tries (told (counted m.count)) f.shared f.store f.operations test (λ shared x. On (arrived now shared x)) (goes now f.current.operands) r in
      let tried_now : Progress → Move Flat FlatEnd = λ p. tried (told (counted m.count)) f.shared f.store.globals f.operations o.link p
      (λ shared it. On (arrived now shared (by_outcome it f.store test f.operations o))) in
      let over : after.ended ≡ None = ended ∙ ap (λ (x : Running). x.ended) e ∙ still in
      ap (end_or (flat_of after)) over ∙ ap (λ (x : Flat). On x) (now_is ∙ ap (λ (x : Flat). resumed x (cell.Int cancelled) (Some o.item)) gone)
      ∙ sym (ap (λ b. flat.calls_off f b) (sym is) ∙ ap ways found ∙ ap tried_now waits)

-- what is tried has not begun
pub none_begun : (m : Flat) (block : BlockId) (o : Operation) (number : ℕ) → find (is_to_try (is_inside m block)) m.operations ≡ Some o → o.progress ≡ progress.Started number → ⊥
none_begun m block o number found is =
    let both = and_parts (is_inside m block o) (not (has_begun o.progress)) (found_at (is_to_try (is_inside m block)) m.operations o found).passes in
    let no : false ≡ true = sym (ap (λ p. not (has_begun p)) is) ∙ both.1 in
    cc

-- the oldest operation within the block that has not begun was offered
pub asks_of : (m : Flat) (block : BlockId) (o : Operation) (number : ℕ) → find (is_to_try (is_inside m block)) m.operations ≡ Some o → o.progress ≡ progress.Offered number → IsSome (tried_within m
    (Some block))
asks_of m block o number found is = subst (λ (r : Option Operation). IsSome (tried_in r)) (sym found) (subst (λ p. IsSome (tried_as o.link p)) (sym is) refl)
