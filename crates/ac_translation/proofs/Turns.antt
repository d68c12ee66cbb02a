-- What a thread asks of its core: blocks, other threads, operations, and its own end.
-- A list of what Cores has to give Steps, so that statements can be shown to follow without knowing how threads and blocks are kept.
use Rattle.std.proofs.Common.{◌≡◌, ℕ, ◌+◌, List, [], ◌∷◌, replicate, Some}
use Rattle.std.specs.Prelude.{slice_get}
use Rattle.work_item.specs.declared.ids.BlockId.{BlockId}
use Rattle.work_item.specs.Store.{cell_at, no_int, next_frame}
use Rattle.work_item.specs.declared.cell.Cell.{Cell}
use Rattle.cancel_scope.specs.declared.operation.Asked.{Asked}
use Rattle.core_state.specs.Frames.{begun, block_in}
use Rattle.ac_semantics.specs.Held.{Held, with_store, next_block, entered}
use Rattle.ac_semantics.specs.Work.{Work}
use Rattle.ac_semantics.specs.Statements.{Goes, Starts, Yields, Arrives, Cancels, Operates, Dies, or_trap}
use Rattle.ac_semantics.specs.Threads.{CoreState}
use Rattle.stack_code.specs.declared.instr.Instr.{Instr}
use Rattle.stack_code.specs.declared.instr.Instr.TheVariants as i
use Rattle.stack_code.specs.Parts.{Parts}
use Rattle.code_meaning.specs.Machine.{Flat, begin, asks}
use Rattle.ac_translation.proofs.Keeps.{within, started, Around, flat, SameBirths, FollowsAt}
use Rattle.ac_translation.proofs.Works.{Sleeps, Works}

-- one instruction does each of these, and then the two stand in relation again
pub record Turns (code : Parts) (bound : ℕ) (R : CoreState → Flat → Type 0) (a : Around) (c : CoreState) : Type 0 where
  pub enters : (slot : ℕ) (s : Held) (place : ℕ) (ws : List Work) → SameBirths c.held s → slice_get code.instrs place ≡ Some (i.Enter slot) →
      Works code.instrs (within a.activation (next_block s ∷ a.activation.entered)) (place + 1) [] ws → FollowsAt code bound R a c s place [] (Goes (entered s a.activation.frame slot) ws)
  pub arrives : (slot : ℕ) (s : Held) (place : ℕ) (block : BlockId) (below : List BlockId) (ws : List Work) → SameBirths c.held s → slice_get code.instrs place ≡ Some (i.Finish slot) →
      a.activation.entered ≡ block ∷ below →
      Works code.instrs (within a.activation below) (place + 1) [] ws → FollowsAt code bound R a c s place [] (Arrives block s ws)
  pub starts : (slots to : ℕ) (s : Held) (place : ℕ) (own ws : List Work) → SameBirths c.held s → slice_get code.instrs place ≡ Some (i.Async slots to) →
      Works code.instrs a.activation to [] ws → Works code.instrs (started a.activation (next_frame s.store)) (place + 1) [] own →
      FollowsAt code bound R a c s place [] (or_trap s (begun s.store (Some a.activation.frame) (replicate slots no_int)) (λ t. Starts (with_store s t) (next_frame s.store) own ws))
  pub yields : (s : Held) (place : ℕ) (ws : List Work) → SameBirths c.held s → slice_get code.instrs place ≡ Some i.Yield → Works code.instrs a.activation (place + 1) [] ws →
      FollowsAt code bound R a c s place [] (Yields s ws)
  pub waits : (link : ℕ) (asked : Asked) (instr : Instr) (s : Held) (place : ℕ) (operands below : List Cell) (ws : List Work) → SameBirths c.held s →
      slice_get code.instrs place ≡ Some instr →
      ((k : ℕ) → begin code bound (flat a s place operands k) a.running (Some instr) ≡ asks (flat a s place operands k) a.running link asked below) →
      Sleeps code.instrs a.activation (place + 1) below ws → FollowsAt code bound R a c s place operands (Operates link asked s ws)
  pub cancels : (level slot : ℕ) (s : Held) (place : ℕ) (again ws : List Work) → SameBirths c.held s → slice_get code.instrs place ≡ Some (i.Cancel level slot) →
      Works code.instrs a.activation place [] again → Works code.instrs a.activation (place + 1) [] ws →
      FollowsAt code bound R a c s place [] (Cancels (block_in (cell_at s.store a.activation.frame level slot)) s again ws)
  pub dies : (s : Held) (place : ℕ) (block : BlockId) (others : List BlockId) → SameBirths c.held s → slice_get code.instrs place ≡ Some i.End → a.activation.entered ≡ [] →
      a.activation.around ≡ block ∷ others →
      FollowsAt code bound R a c s place [] (Dies a.activation.frame s)
