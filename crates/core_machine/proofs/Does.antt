-- What the instructions on blocks and threads make of a running core. For `finish`, `start` and `end_thread`.
-- What the calls leave in the fields is compared with what the code's meaning makes of the state, by the count of the block and whether its owner waits (Blocks).
use Rattle.std.proofs.Common.{◌≡◌, ℕ, ◌+◌, ◌<◌, ◌^◌, List, [], ◌∷◌, ◌++◌, length, Option, Some, None, Bool, true, false, refl, sym, ap, ◌∙◌, subst, arith}
use Rattle.std.specs.Prelude.{slice_set, replicate, nat_eq, ◌&&◌, if◌then◌else◌, IfSome, IsSomeAnd, Result, Ok, Err}
use Rattle.std.proofs.lemmas.List.{length-replicate, set-append_left}
use Rattle.ac_base.specs.declared.ends.Trap.{Trap}
use Rattle.ac_base.specs.declared.ends.Trap.TheVariants.{StackFull}
use Rattle.work_item.specs.declared.ids.Item.{Item}
use Rattle.work_item.specs.declared.ids.BlockId.{BlockId}
use Rattle.work_item.specs.Store.{Store, made, released, no_int, next_frame}
use Rattle.core_scheduler.specs.Schedule.{Schedule, suspended, yielded_to, left_by}
use Rattle.core_state.specs.Moves.{On}
use Rattle.core_state.specs.Frames.{has_words}
use Rattle.finish_block.specs.Table as table
use Rattle.finish_block.specs.Table.{Table, parent_at, arrival, arrived, begun, ended, woken}
use Rattle.finish_block.specs.Conditions.{Childless, CanCountMore, ChildlessAtFinish, ChildlessAtEnd}
use Rattle.finish_block.specs.declared.blocks.Arrival.TheVariants.{Passes, Waits}
use Rattle.stack_code.specs.declared.instr.Instr.TheVariants as i
use Rattle.code_meaning.specs.Machine.{Flat, Thread, Block, begin, nobody, block_at, with_block, counted}
use Rattle.code_meaning.specs.Machine.{arrives, arrives_in, arrives_at, dies, dies_in, counted_out, counted_in, one_more, or_trap, starts, with_store}
use Rattle.core_machine.specs.declared.running.Running.{Running}
use Rattle.core_machine.specs.Blocks.{blocks_of}
use Rattle.core_machine.specs.State.{flat_of, thread_of, end_or, state_of}
use Rattle.core_machine.specs.inner.Needs.{HasBlock, IsChildless}
use Rattle.core_machine.specs.inner.Changes.{Does, item_of, with_woken}
use Rattle.core_machine.proofs.Blocks.{kept_of, childless, parent_is, passes_count, waits_count, passed, waited, more, woken_is, none_woken, last_ended, one_ended}

-- the state with another thread in the place of the running one, which is kept to go on at that address
abbrev pub parked : Running → Item → ℕ → Thread → Flat
parked m item place next = record (flat_of m) { current = next; threads = slice_set m.threads.threads item.number (record (thread_of m) { place = place }) }

abbrev pub buried : Running → Item → Flat
buried m item = record (flat_of m) { current = nobody; threads = slice_set m.threads.threads item.number nobody }

still_on : (m after : Running) (f : Flat) → flat_of after ≡ f → after.ended ≡ None → state_of after ≡ On f
still_on m after f e over = ap (end_or (flat_of after)) over ∙ ap (λ x. On x) e

module _ (m : Running) (still : m.ended ≡ None) (item : Item) (run : m.schedule.running ≡ Some item) (h : HasBlock (flat_of m)) (number : BlockId) (inner : m.block ≡ Some number) where
  abbrev f : Flat
  f = flat_of m

  abbrev x : Block
  x = h.block

  abbrev kept : Table
  kept = m.blocks

  same : h.number ≡ number
  same = let both : Some h.number ≡ Some number = sym h.is ∙ inner in cc

  there : block_at (blocks_of kept.blocks) number ≡ Some x
  there = subst (λ n. block_at (blocks_of kept.blocks) n ≡ Some x) same h.there

  pub childless_at_finish : (x.count ≡ 0 → IsChildless (blocks_of kept.blocks) h.number) → ChildlessAtFinish kept.blocks number
  childless_at_finish none =
      let k = kept_of kept.blocks number x there in
      subst (λ o. IfSome o (λ y. y.count ≡ 0 → Childless kept.blocks number)) (sym k.there)
      (λ e. childless kept.blocks number (subst (IsChildless (blocks_of kept.blocks)) same (none (sym (ap (λ (y : Block). y.count) k.is) ∙ e))))

  pub childless_at_end : (x.count ≡ 1 → x.waits ≡ true → IsChildless (blocks_of kept.blocks) h.number) → ChildlessAtEnd kept.blocks number
  childless_at_end none =
      let k = kept_of kept.blocks number x there in
      subst (λ o. IfSome o (λ y. y.count ≡ 1 → y.waits ≡ true → Childless kept.blocks number)) (sym k.there)
      (λ e w. childless kept.blocks number (subst (IsChildless (blocks_of kept.blocks)) same (none (sym (ap (λ (y : Block). y.count) k.is) ∙ e) (sym (ap (λ (y : Block). y.waits) k.is) ∙ w))))

  -- ---- finish

  finish_is : (slot : ℕ) → begin m.code.now m.bound f (item_of m.schedule.running) (Some (i.Finish slot)) ≡ arrives_at (nat_eq x.count 0) f item number x
  finish_is slot = ap (λ o. arrives f (item_of m.schedule.running) o) inner ∙ ap (λ o. arrives_in f (item_of m.schedule.running) number o) there
      ∙ ap (λ o. arrives_at (nat_eq x.count 0) f (item_of o) number x) run

  module _ (slot : ℕ) (parent : Option BlockId) (blocks : Table) (up : parent ≡ parent_at (table.block_at kept.blocks number)) (arrives : blocks ≡ arrived kept number) where
    up_is : parent ≡ x.parent
    up_is = up ∙ parent_is kept.blocks number x there

    pub passes : arrival kept.blocks number ≡ Passes → Does m (i.Finish slot) (record m { block = parent; blocks = blocks; place = m.place + 1; count = counted m.count })
    passes a =
        let e = passes_count kept.blocks number x there a in
        let after : Running = record m { block = parent; blocks = blocks; place = m.place + 1; count = counted m.count } in
        ap (end_or (flat_of after)) still
        ∙ ap (λ o. On (record f { current = record (thread_of m) { place = m.place + 1; block = o }; blocks = blocks_of blocks.blocks; count = counted m.count })) up_is
        ∙ ap (λ bs. On (record f { current = record (thread_of m) { place = m.place + 1; block = x.parent }; blocks = bs; count = counted m.count }))
        (ap (λ (t : Table). blocks_of t.blocks) arrives ∙ passed kept.blocks number x there e)
        ∙ sym (finish_is slot ∙ ap (λ r. arrives_at r f item number x) e)

    abbrev waiting : Running
    waiting = record m { block = parent; blocks = blocks; schedule = suspended m.schedule; count = counted m.count }

    pub waits : (between after : Running) (next : Thread) → arrival kept.blocks number ≡ Waits → between ≡ waiting → next ≡ nobody → after.ended ≡ between.ended
        → flat_of after ≡ parked between item (between.place + 1) next → Does m (i.Finish slot) after
    waits between after next a b n over e =
        let w = waits_count kept.blocks number x there a in
        let is : flat_of after ≡ parked waiting item (m.place + 1) nobody = e ∙ ap (λ y. parked between item (between.place + 1) y) n ∙ ap (λ (y : Running). parked y item (y.place + 1) nobody) b in
        still_on m after (parked waiting item (m.place + 1) nobody) is (over ∙ ap (λ (y : Running). y.ended) b ∙ still)
        ∙ ap (λ o. On (record (parked waiting item (m.place + 1) nobody) { threads = slice_set m.threads.threads item.number (record (thread_of m) { place = m.place + 1; block = o }) })) up_is
        ∙ ap (λ bs. On (record (parked waiting item (m.place + 1) nobody) {
          threads = slice_set m.threads.threads item.number (record (thread_of m) { place = m.place + 1; block = x.parent });
          blocks = bs;
        })) (ap (λ (t : Table). blocks_of t.blocks) arrives ∙ waited kept.blocks number x there w)
        ∙ sym (finish_is slot ∙ ap (λ r. arrives_at r f item number x) w)

  -- ---- a thread is started

  pub can_count : x.count + 1 < 2 ^ 64 → CanCountMore kept.blocks number
  can_count few =
      let k = kept_of kept.blocks number x there in
      let count : k.block.count ≡ x.count = ap (λ (y : Block). y.count) k.is in
      subst (λ o. IsSomeAnd o (λ y. y.count + 1 < 2 ^ 64)) (sym k.there) (omega (arith, few, count))

  abbrev pub starting : ℕ → Flat
  starting slots = record f {
    store = made m.frames (Some m.frame) (replicate slots no_int);
    running = Some (record { number = length m.threads.threads });
    ready = item ∷ m.schedule.ready;
    threads = m.threads.threads ++ nobody ∷ [];
    blocks = blocks_of (begun kept number).blocks;
    count = counted m.count;
  }

  abbrev pub born : Thread
  born = record nobody { place = m.place + 1; frame = next_frame m.frames; block = m.block }

  pub between_is : (slots : ℕ) (store : Store) (reserved schedule : Schedule) (threads : List Thread) (blocks : Table) (next : ℕ) → store ≡ made m.frames (Some m.frame) (replicate slots no_int)
      → reserved.running ≡ m.schedule.running → reserved.ready ≡ m.schedule.ready → schedule ≡ yielded_to reserved (record { number = next }) → next ≡ length m.threads.threads
      → threads ≡ m.threads.threads ++ nobody ∷ [] → blocks ≡ begun kept number
      → record f { store = store; running = schedule.running; ready = schedule.ready; threads = threads; blocks = blocks_of blocks.blocks; count = counted m.count } ≡ starting slots
  between_is slots store reserved schedule threads blocks next a b c d e g k =
      let turned : schedule ≡ left_by reserved (Some item) (record { number = next }) = d ∙ ap (λ o. left_by reserved o (record { number = next })) (b ∙ run) in
      ap (λ y. record f { store = y; running = schedule.running; ready = schedule.ready; threads = threads; blocks = blocks_of blocks.blocks; count = counted m.count }) a
      ∙ ap (λ (y : Schedule). record (starting slots) { running = y.running; ready = y.ready; threads = threads; blocks = blocks_of blocks.blocks }) turned
      ∙ ap (λ n. record (starting slots) { running = Some (record { number = n }); ready = item ∷ reserved.ready; threads = threads; blocks = blocks_of blocks.blocks }) e
      ∙ ap (λ r. record (starting slots) { ready = item ∷ r; threads = threads; blocks = blocks_of blocks.blocks }) c
      ∙ ap (λ ts. record (starting slots) { threads = ts; blocks = blocks_of blocks.blocks }) g
      ∙ ap (λ (t : Table). record (starting slots) { blocks = blocks_of t.blocks }) k

  counted_more : blocks_of (begun kept number).blocks ≡ counted_in (blocks_of kept.blocks) m.block
  counted_more = more kept.blocks number x there ∙ ap (λ o. with_block (blocks_of kept.blocks) number (one_more o)) (sym there) ∙ ap (λ o. counted_in (blocks_of kept.blocks) o) (sym inner)

  pub started : (slots to : ℕ) (between after : Running) (next : Thread) → has_words m.frames slots ≡ true → item.number < length m.threads.threads
      → flat_of between ≡ starting slots → thread_of between ≡ thread_of m
      → between.ended ≡ m.ended
      → next ≡ born → after.ended ≡ between.ended → flat_of after ≡ parked between item to next → Does m (i.Async slots to) after
  started slots to between after next room lt b t o n over e =
      let before : between.threads.threads ≡ m.threads.threads ++ nobody ∷ [] = ap (λ (y : Flat). y.threads) b in
      let is : flat_of after ≡ record (starting slots) { current = born; threads = slice_set m.threads.threads item.number (record (thread_of m) { place = to }) ++ nobody ∷ [] } =
      e ∙ ap (λ y. parked between item to y) n ∙ ap (λ (y : Flat). record y { current = born; threads = slice_set between.threads.threads item.number (record (thread_of between) { place = to }) }) b
      ∙ ap (λ (y : Thread). record (starting slots) { current = born; threads = slice_set between.threads.threads item.number (record y { place = to }) }) t
      ∙ ap (λ ts. record (starting slots) { current = born; threads = ts }) (ap (λ ts. slice_set ts item.number (record (thread_of m) { place = to })) before
      ∙ set-append_left m.threads.threads (nobody ∷ []) item.number (record (thread_of m) { place = to }) lt) in
      let fits : has_words m.frames (length (replicate slots no_int)) ≡ true = ap (has_words m.frames) (length-replicate slots no_int) ∙ room in
      let result : Bool → Result Store Trap = λ b. if b then Ok (made m.frames (Some m.frame) (replicate slots no_int)) else Err StackFull in
      still_on m after _ is (over ∙ o ∙ still)
      ∙ ap (λ bs. On (record (starting slots) { current = born; threads = slice_set m.threads.threads item.number (record (thread_of m) { place = to }) ++ nobody ∷ []; blocks = bs })) counted_more
      ∙ sym (ap (λ b. or_trap f (result b) (λ store. On (starts f (item_of m.schedule.running) to store))) fits
      ∙ ap (λ o. On (starts f (item_of o) to (made m.frames (Some m.frame) (replicate slots no_int)))) run)

  -- ---- a thread ends

  abbrev pub after_end : Running
  after_end = record m { frames = released m.frames m.frame; schedule = with_woken (suspended m.schedule) (woken kept.blocks number); blocks = ended kept number; count = counted m.count }

  abbrev left : Flat
  left = with_store f (released m.frames m.frame)

  end_is : begin m.code.now m.bound f (item_of m.schedule.running) (Some i.End) ≡ On (counted_out (nat_eq x.count 1 && x.waits) left item number x)
  end_is = ap (λ o. On (dies left (item_of m.schedule.running) o)) inner ∙ ap (λ o. On (dies_in left (item_of m.schedule.running) number o)) there
      ∙ ap (λ o. On (counted_out (nat_eq x.count 1 && x.waits) left (item_of o) number x)) run

  ended_by : (r : Bool) → (nat_eq x.count 1 && x.waits) ≡ r → buried after_end item ≡ counted_out r left item number x
  ended_by true e = ap (λ o. buried (record after_end { schedule = with_woken (suspended m.schedule) o }) item) (woken_is kept.blocks number x there e)
      ∙ ap (λ bs. record (buried (record after_end { schedule = with_woken (suspended m.schedule) (Some x.owner) }) item) { blocks = bs }) (last_ended kept.blocks number x there e)
  ended_by false e = ap (λ o. buried (record after_end { schedule = with_woken (suspended m.schedule) o }) item) (none_woken kept.blocks number x there e)
      ∙ ap (λ bs. record (buried (record after_end { schedule = with_woken (suspended m.schedule) None }) item) { blocks = bs }) (one_ended kept.blocks number x there e)

  pub ends : (between after : Running) → between ≡ after_end → after.ended ≡ between.ended → flat_of after ≡ buried between item → Does m i.End after
  ends between after b over is =
      still_on m after (buried after_end item) (is ∙ ap (λ (y : Running). buried y item) b) (over ∙ ap (λ (y : Running). y.ended) b ∙ still)
      ∙ ap (λ y. On y) (ended_by (nat_eq x.count 1 && x.waits) refl) ∙ sym end_is
