-- What a read or a write of a file makes of a running core. For `request`, `read` and `write`.
-- What the instruction comes to is computed from its three operands; then either the block is cancelled and the value is there at once, or the thread waits (CalledOff).
use Rattle.std.proofs.Common.{◌≡◌, ℕ, ◌+◌, ◌≤◌, List, [], ◌∷◌, ◌++◌, length, Some, None, Ok, Err, Result, Bool, true, false, drop, refl, sym, ap, ◌∙◌, arith}
use Rattle.std.specs.Prelude.{◌-◌, ◌^◌, min}
use Rattle.ac_base.specs.declared.ends.Trap.{Trap}
use Rattle.work_item.specs.declared.cell.Cell.{Cell}
use Rattle.work_item.specs.declared.cell.Cell.TheVariants as cell
use Rattle.work_item.specs.declared.ids.Item.{Item}
use Rattle.work_item.specs.Store.{int_in, place_in}
use Rattle.cancel_scope.specs.declared.operation.Asked.{Asked}
use Rattle.cancel_scope.specs.Outstanding.{started}
use Rattle.cancel_scope.specs.Roomy.{Roomy}
use Rattle.core_state.specs.Arrivals.{cancelled}
use Rattle.core_state.specs.Moves.{Move, On}
use Rattle.core_state.specs.Requests.{read_of, write_of}
use Rattle.finish_block.specs.Ancestors as ancestors
use Rattle.stack_code.specs.declared.instr.Instr.TheVariants as i
use Rattle.code_meaning.specs.Machine.{Flat, FlatEnd, asks, asks_in, begin, counted, goes, on_three, operates, requests}
use Rattle.core_machine.specs.declared.ending.Ending.TheVariants as ending
use Rattle.core_machine.specs.declared.running.Running.{Running}
use Rattle.core_machine.specs.State.{flat_of, end_or, state_of}
use Rattle.core_machine.specs.inner.Changes.{Does, item_of}
use Rattle.core_machine.specs.inner.Operands.{first_place, int_below}
use Rattle.core_machine.proofs.CalledOff.{cancelled_same}

module _ (m : Running) where
  abbrev f : Flat
  f = flat_of m

  abbrev t : Item
  t = item_of m.schedule.running

  -- ---- what is asked for

  -- what the instruction comes to
  module _ (three : 3 ≤ length m.operands) (it : Result Asked Trap) where
    abbrev Requesting : Move Flat FlatEnd
    Requesting = requests f t it (drop 3 m.operands)

    reads : (file : ℕ) → read_of file (int_below m.operands 2) (int_below m.operands 1) (first_place m.operands) ≡ it → begin m.code.now m.bound f t (Some (i.Read file)) ≡ Requesting
    reads file is = by m.operands three ∙ ap (λ r. requests f t r (drop 3 m.operands)) is
      where
        by : (ops : List Cell) → 3 ≤ length ops → on_three f (λ x y z below. requests f t (read_of file (int_in x) (int_in y) (place_in z)) below) ops
            ≡ requests f t (read_of file (int_below ops 2) (int_below ops 1) (first_place ops)) (drop 3 ops)
        by [] h = absurd (omega (arith, h))
        by (z ∷ []) h = absurd (omega (arith, h))
        by (z ∷ y ∷ []) h = absurd (omega (arith, h))
        by (z ∷ y ∷ x ∷ below) h = refl

    writes : (file : ℕ) → write_of m.frames file (int_below m.operands 2) (int_below m.operands 1) (first_place m.operands) ≡ it → begin m.code.now m.bound f t (Some (i.Write file)) ≡ Requesting
    writes file is = by m.operands three ∙ ap (λ r. requests f t r (drop 3 m.operands)) is
      where
        by : (ops : List Cell) → 3 ≤ length ops → on_three f (λ x y z below. requests f t (write_of m.frames file (int_in x) (int_in y) (place_in z)) below) ops
            ≡ requests f t (write_of m.frames file (int_below ops 2) (int_below ops 1) (first_place ops)) (drop 3 ops)
        by [] h = absurd (omega (arith, h))
        by (z ∷ []) h = absurd (omega (arith, h))
        by (z ∷ y ∷ []) h = absurd (omega (arith, h))
        by (z ∷ y ∷ x ∷ below) h = refl

  module _ (three : 3 ≤ length m.operands) (after : Running) where
    -- a wrong range traps
    trapped : (trap : Trap) → after ≡ record m { count = min (m.count + 1) (2 ^ 64 - 1); ended = Some (ending.Trapped trap) } → state_of after ≡ requests f t (Err trap) (drop 3 m.operands)
    trapped trap e = ap state_of e

    pub read_traps : (file : ℕ) (trap : Trap) → read_of file (int_below m.operands 2) (int_below m.operands 1) (first_place m.operands) ≡ Err trap
        → after ≡ record m { count = min (m.count + 1) (2 ^ 64 - 1); ended = Some (ending.Trapped trap) } → Does m (i.Read file) after
    read_traps file trap is e = trapped trap e ∙ sym (reads three (Err trap) file is)

    pub write_traps : (file : ℕ) (trap : Trap) → write_of m.frames file (int_below m.operands 2) (int_below m.operands 1) (first_place m.operands) ≡ Err trap
        → after ≡ record m { count = min (m.count + 1) (2 ^ 64 - 1); ended = Some (ending.Trapped trap) } → Does m (i.Write file) after
    write_traps file trap is e = trapped trap e ∙ sym (writes three (Err trap) file is)

    -- what is asked for in a right range starts
    pub read_does : (file : ℕ) (asked : Asked) → read_of file (int_below m.operands 2) (int_below m.operands 1) (first_place m.operands) ≡ Ok asked
        → state_of after ≡ asks f t m.requests asked (drop 3 m.operands) → Does m (i.Read file) after
    read_does file asked is e = e ∙ sym (reads three (Ok asked) file is)

    pub write_does : (file : ℕ) (asked : Asked) → write_of m.frames file (int_below m.operands 2) (int_below m.operands 1) (first_place m.operands) ≡ Ok asked
        → state_of after ≡ asks f t m.requests asked (drop 3 m.operands) → Does m (i.Write file) after
    write_does file asked is e = e ∙ sym (writes three (Ok asked) file is)

  -- ---- it starts

  module _ (still : m.ended ≡ None) (link : ℕ) (asked : Asked) (below : List Cell) where
    asking : (item : Item) (b : Bool) → b ≡ ancestors.any_marked m.blocks.blocks (ancestors.round m.blocks.blocks m.block) → asks f item link asked below ≡ asks_in b f item link asked below
    asking item b is = ap (λ z. asks_in z f item link asked below) (sym (is ∙ cancelled_same m.blocks.blocks m.block))

    -- in a cancelled block it has its value at once
    pub asks_at_once : true ≡ ancestors.any_marked m.blocks.blocks (ancestors.round m.blocks.blocks m.block) → (ops : List Cell) → ops ≡ cell.Int cancelled ∷ below → (after : Running)
        → after ≡ record m { operands = ops; place = m.place + 1; count = counted m.count } → state_of after ≡ asks f t link asked below
    asks_at_once is ops same after e =
        let end : Running = record m { operands = ops; place = m.place + 1; count = counted m.count } in
        ap state_of e ∙ ap (end_or (flat_of end)) still ∙ ap (λ (l : List Cell). goes f l) same ∙ sym (asking t true is)

    -- in another it waits
    pub asks_waits : false ≡ ancestors.any_marked m.blocks.blocks (ancestors.round m.blocks.blocks m.block) → (item : Item) → m.schedule.running ≡ Some item → (q : Roomy)
        → q.operations ≡ m.outstanding.operations → (after : Running) → flat_of after ≡ operates (flat_of (record m { outstanding = q; operands = below })) item link asked below
        → after.ended ≡ m.ended → state_of after ≡ asks f t link asked below
    asks_waits is item run q same after e ended =
        ap (end_or (flat_of after)) (ended ∙ still)
        ∙ ap (λ y. On y) (e ∙ ap (λ os. record (operates f item link asked below) { operations = os ++ started link asked item ∷ [] }) same)
        ∙ sym (ap (λ x. asks f x link asked below) (ap item_of run) ∙ asking item false is)

-- ---- three operands

-- what is left below them
pub drop_two_one : (ops : List Cell) → drop 1 (drop 2 ops) ≡ drop 3 ops
drop_two_one [] = refl
drop_two_one (z ∷ []) = refl
drop_two_one (z ∷ y ∷ []) = refl
drop_two_one (z ∷ y ∷ x ∷ below) = refl
