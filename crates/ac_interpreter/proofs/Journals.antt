-- No statement concerns the journal: whatever is still to come, a core goes the same way, up to where the next entry comes in.
-- By cases on the work and on the next step: entries that have come in and those to come are only handed on. A cancel (Trying) and a
-- dispatch point alone look at the first one.
use Rattle.std.proofs.Common.{◌≡◌, ℕ, ◌+◌, ◌^◌, ◌-◌, ℤ, List, [], ◌∷◌, ◌++◌, length, map, refl, sym, ap, ◌∙◌, subst, inl, inr}
use Rattle.std.specs.Prelude.{Option, Some, None, Bool, true, false, Result, Ok, Err, slice_get, slice_index_or, reverse, nat_lt, nat_le, nat_eq, replicate, if◌then◌else◌}
use Rattle.ac_base.specs.declared.ends.Trap.{Trap}
use Rattle.ac_base.specs.declared.ends.Trap.TheVariants.{OutputFull}
use Rattle.ac_base.specs.declared.ends.EndWord.{EndWord}
use Rattle.ac_base.specs.declared.ends.EndWord.TheVariants as word
use Rattle.ac_base.specs.declared.ends.CoreEnd.{CoreEnd}
use Rattle.ac_base.specs.declared.entry.Entry.{Entry}
use Rattle.work_item.specs.declared.ids.FrameId.{FrameId}
use Rattle.work_item.specs.declared.ids.Item.{Item}
use Rattle.work_item.specs.declared.ids.BlockId.{BlockId}
use Rattle.work_item.specs.declared.cell.Cell.{Cell}
use Rattle.work_item.specs.declared.cell.Cell.TheVariants as cell
use Rattle.cancel_scope.specs.declared.operation.Asked.{Asked}
use Rattle.work_item.specs.Store.{Store, no_int, int_in, place_in, next_frame, released}
use Rattle.core_state.specs.Frames.{begun, begun_with, first_store}
use Rattle.core_state.specs.Moves.{Move, On, Over}
use Rattle.core_state.specs.Shared.{output_limit, formatted, with_entry, core_end, begins_with}
use Rattle.core_state.specs.Requests.{read_of, write_of}
use Rattle.core_state.specs.Arrivals as arrivals
use Rattle.core_state.specs.Arrivals.{Arrival, comes_in, at_point}
use Rattle.ac_commands.specs.declared.value.Action.TheVariants as a
use Rattle.ac_commands.specs.declared.command.Command.{Command, out-Command}
use Rattle.ac_commands.specs.declared.command.Command.TheOpen.{Command-F}
use Rattle.ac_commands.specs.declared.program.Function.{Function}
use Rattle.ac_commands.specs.declared.program.Resolved.{Resolved}
use Rattle.ac_semantics.specs.Evaluation.{Acting, Ending, Evaluated, Comes, Traps, Stops, row_goes, resumes}
use Rattle.ac_semantics.specs.Held.{Held, with_shared, with_store, stepped, any_marked, turned, seen_of}
use Rattle.ac_semantics.specs.Work as work
use Rattle.ac_semantics.specs.Statements as s
use Rattle.ac_interpreter.specs.inner.Under.{held_under, core_under, unless_left, move_under, IsLater}
use Rattle.ac_interpreter.proofs.Growing.{Moved, core_with_todo, IsOut, grown, Follows}
use Rattle.ac_interpreter.proofs.Trying.{cancel_out, cancel_follows, cancel_grows}
use Rattle.ac_semantics.specs.Threads.{CoreState, thread_at, none_within, arrives, wakes, woken, stops, Ended, path, operates, rests}
use Rattle.ac_semantics.specs.Threads.{resumed, arrived, applied, dispatched, step_of, step, first_core, first_globals, shared_at_first, first_state}

-- ---- another journal

abbrev pub next_under : List Entry → List Entry → s.Next → s.Next
next_under past todo (s.Goes h ws) = s.Goes (held_under past todo h) ws
next_under past todo (s.Ends word h) = s.Ends word (held_under past todo h)
next_under past todo (s.Starts h frame own ws) = s.Starts (held_under past todo h) frame own ws
next_under past todo (s.Yields h ws) = s.Yields (held_under past todo h) ws
next_under past todo (s.Arrives block h ws) = s.Arrives block (held_under past todo h) ws
next_under past todo (s.Cancels block h again ws) = s.Cancels block (held_under past todo h) again ws
next_under past todo (s.Operates link asked h ws) = s.Operates link asked (held_under past todo h) ws
next_under past todo (s.Dies frame h) = s.Dies frame (held_under past todo h)
next_under past todo s.Stays = s.Stays

-- it is no cancel
abbrev pub IsNoCancel : s.Next → Type 0
IsNoCancel (s.Cancels block h again ws) = ⊥
IsNoCancel _ = Unit {0}

-- ---- a step of a thread

module _ (past todo : List Entry) where
  put_too : (h : Held) (r : Result Store Trap) (ws : List work.Work)
      → s.or_trap (held_under past todo h) r (λ store. s.Goes (with_store (held_under past todo h) store) ws) ≡ next_under past todo (s.or_trap h r (λ store. s.Goes (with_store h store) ws))
  put_too h (Ok x) ws = refl
  put_too h (Err trap) ws = refl

  start_too : (h : Held) (r : Result Store Trap) (own : FrameId) (body ws : List work.Work)
      → s.or_trap (held_under past todo h) r (λ store. s.Starts (with_store (held_under past todo h) store) own body ws)
      ≡ next_under past todo (s.or_trap h r (λ store. s.Starts (with_store h store) own body ws))
  start_too h (Ok x) own body ws = refl
  start_too h (Err trap) own body ws = refl

  shared_too : (test : Bool) (h : Held) (bytes : List ℕ) (ws : List work.Work)
      → s.or_trap (held_under past todo h) (if test then Ok (record (held_under past todo h).shared { output = h.shared.output ++ bytes }) else Err OutputFull)
      (λ shared. s.Goes (with_shared (held_under past todo h) shared) ws)
      ≡ next_under past todo (s.or_trap h (if test then Ok (record h.shared { output = h.shared.output ++ bytes }) else Err OutputFull) (λ shared. s.Goes (with_shared h shared) ws))
  shared_too true h bytes ws = refl
  shared_too false h bytes ws = refl

  returns_too : (value : ℤ) (ws : List work.Work) (h : Held) → s.returns value ws (held_under past todo h) ≡ next_under past todo (s.returns value ws h)
  returns_too value [] h = refl
  returns_too value (work.Back own ∷ ws) h = refl
  returns_too value (work.Leave ∷ ws) h = refl
  returns_too value (work.Do frame command ∷ ws) h = returns_too value ws h
  returns_too value (work.Pend frame command around ∷ ws) h = returns_too value ws h
  returns_too value (work.Given cell frame command around ∷ ws) h = returns_too value ws h
  returns_too value (work.CallOff frame level slot ∷ ws) h = returns_too value ws h
  returns_too value (work.Turn frame loop ∷ ws) h = returns_too value ws h
  returns_too value (work.Close block ∷ ws) h = returns_too value ws h
  returns_too value (work.End frame ∷ ws) h = returns_too value ws h

  finish_too : (program : Resolved) (self : Command) (c : Command-F Command) (operands : List Cell) (frame : FrameId) (ws : List work.Work) (h : Held)
      → s.finish_form program self c operands frame ws (held_under past todo h) ≡ next_under past todo (s.finish_form program self c operands frame ws h)
  finish_too program self Command-F.Nothing operands frame ws h = refl
  finish_too program self (Command-F.Set target value) operands frame ws h = put_too h (s.put_in target operands frame h.store) ws
  finish_too program self (Command-F.Clear slot len) operands frame ws h = refl
  finish_too program self (Command-F.Run value) operands frame ws h = refl
  finish_too program self (Command-F.Print text args) operands frame ws h =
      let bytes = formatted (slice_index_or program.texts text []) (map int_in (reverse operands)) in
      shared_too (nat_le (length h.shared.output + length bytes) output_limit) h bytes ws
  finish_too program self (Command-F.If test body other) operands frame ws h = refl
  finish_too program self (Command-F.While test body) operands frame ws h = refl
  finish_too program self (Command-F.For test next body) operands frame ws h = refl
  finish_too program self Command-F.Break operands frame ws h = refl
  finish_too program self Command-F.Continue operands frame ws h = refl
  finish_too program self (Command-F.Return value) operands frame ws h = returns_too (s.value_or_zero value operands) ws h
  finish_too program self (Command-F.Do slot body) operands frame ws h = refl
  finish_too program self (Command-F.Async slots body) operands frame ws h =
      let own = next_frame h.store in
      start_too h (begun h.store (Some frame) (replicate slots no_int)) own (work.before own body (work.End own ∷ [])) ws
  finish_too program self (Command-F.Cancel level slot) operands frame ws h = refl
  finish_too program self Command-F.Yield operands frame ws h = refl

  calls_too : (f : Option Function) (operands : List Cell) (ws : List work.Work) (h : Held) → s.calls f operands ws (held_under past todo h) ≡ next_under past todo (s.calls f operands ws h)
  calls_too None operands ws h = refl
  calls_too (Some f) operands ws h =
      let own = next_frame h.store in
      put_too h (begun_with h.store f.params f.slots (reverse operands)) (work.before own f.body (work.Back own ∷ ws))

  requests_too : (it : Result Asked Trap) (ws : List work.Work) (h : Held) → s.requests it ws (held_under past todo h) ≡ next_under past todo (s.requests it ws h)
  requests_too (Ok asked) ws h = refl
  requests_too (Err trap) ws h = refl

  settles_too : (program : Resolved) (command : Command) (frame : FrameId) (ws : List work.Work) (h : Held) (out : Evaluated)
      → s.settles program command frame ws (held_under past todo h) out ≡ next_under past todo (s.settles program command frame ws h out)
  settles_too program command frame ws h (Comes value) = refl
  settles_too program command frame ws h (Traps trap) = refl
  settles_too program command frame ws h (Stops Ending operands around) = finish_too program command _ operands frame ws h
  settles_too program command frame ws h (Stops (Acting (a.Call function)) operands around) = calls_too (slice_get program.functions function) operands _ h
  settles_too program command frame ws h (Stops (Acting (a.Send channel)) operands around) = refl
  settles_too program command frame ws h (Stops (Acting (a.Recv channel)) operands around) = refl
  settles_too program command frame ws h (Stops (Acting (a.Read file)) operands around) =
      requests_too (read_of file (s.place_operand operands) (s.length_operand operands) (place_in (s.last_of operands))) _ h
  settles_too program command frame ws h (Stops (Acting (a.Write file)) operands around) =
      requests_too (write_of h.store file (s.place_operand operands) (s.length_operand operands) (place_in (s.last_of operands))) _ h

  if_step_too : (test : Bool) (h : Held) (next next' : s.Next) → next' ≡ next_under past todo next
      → (if test then next' else s.Ends word.OutOfSteps (held_under past todo h)) ≡ next_under past todo (if test then next else s.Ends word.OutOfSteps h)
  if_step_too true h next next' e = e
  if_step_too false h next next' e = refl

  pub next_too : (program : Resolved) (bound : ℕ) (ws : List work.Work) (h : Held) → s.next_at program bound ws (held_under past todo h) ≡ next_under past todo (s.next_at program bound ws h)
  next_too program bound [] h = refl
  next_too program bound (work.Do frame command ∷ ws) h =
      if_step_too (nat_lt h.shared.steps bound) h _ _ (settles_too program command frame ws (stepped h) (row_goes h.store frame Ending [] (s.operands_of (out-Command command)) []))
  next_too program bound (work.CallOff frame level slot ∷ ws) h = refl
  next_too program bound (work.Turn frame loop ∷ ws) h = refl
  next_too program bound (work.Close block ∷ ws) h = if_step_too (nat_lt h.shared.steps bound) h _ _ refl
  next_too program bound (work.Back own ∷ ws) h = refl
  next_too program bound (work.Pend frame command around ∷ ws) h = refl
  next_too program bound (work.Given value frame command around ∷ ws) h = settles_too program command frame ws h (resumes h.store frame around value)
  next_too program bound (work.Leave ∷ ws) h = refl
  next_too program bound (work.End frame ∷ ws) h = refl

  -- ---- a move of the core

  ends_too : (word : EndWord) (idle : Bool) (h : Held) → seen_of word idle (held_under past todo h) ≡ unless_left todo (seen_of word idle (held_under [] [] h))
  ends_too word idle h = by_todo todo
    where
      by_todo : (xs : List Entry) → seen_of word idle (held_under past xs h) ≡ unless_left xs (seen_of word idle (held_under [] [] h))
      by_todo [] = refl
      by_todo (x ∷ xs) = refl

  arrives_too : (passes : Bool) (c : CoreState) (t : Item) (block : BlockId) (h : Held) (ws : List work.Work)
      → arrives passes (core_under past todo c) t block (held_under past todo h) ws ≡ core_under past todo (arrives passes (core_under [] [] c) t block (held_under [] [] h) ws)
  arrives_too true c t block h ws = refl
  arrives_too false c t block h ws = refl

  wakes_too : (owner : Option Item) (c : CoreState) → wakes owner (core_under past todo c) ≡ core_under past todo (wakes owner (core_under [] [] c))
  wakes_too None c = refl
  wakes_too (Some owner) c = refl

  operates_too : (marked : Bool) (c : CoreState) (t : Item) (link : ℕ) (asked : Asked) (h : Held) (ws : List work.Work)
      → operates marked (core_under past todo c) t link asked (held_under past todo h) ws ≡ core_under past todo (operates marked (core_under [] [] c) t link asked (held_under [] [] h) ws)
  operates_too true c t link asked h ws = refl
  operates_too false c t link asked h ws = refl

  pub applied_too : (c : CoreState) (t : Item) (next : s.Next) → IsNoCancel next
      → applied (core_under past todo c) t (next_under past todo next) ≡ move_under past todo (applied (core_under [] [] c) t (next_under [] [] next))
  applied_too c t (s.Goes h ws) plain = refl
  applied_too c t (s.Ends word h) plain = ap (λ (end : Option CoreEnd). Over end) (ends_too word false h)
  applied_too c t (s.Starts h frame own ws) plain = refl
  applied_too c t (s.Yields h ws) plain = refl
  applied_too c t (s.Cancels block h again ws) plain = absurd plain
  applied_too c t (s.Arrives block h ws) plain = ap (λ (x : CoreState). On x) (arrives_too (none_within block c.threads) c t block h ws)
  applied_too c t (s.Operates link asked h ws) plain =
      ap (λ (x : CoreState). On x) (operates_too (any_marked h.marks (path ws (thread_at c.threads t))) c t link asked h ws)
  applied_too c t (s.Dies frame h) plain =
      let left = stops (core_under [] [] c) t Ended (with_store h (released h.store frame)) [] c.ready in
      ap (λ (x : CoreState). On x) (wakes_too (woken left.threads left.threads 0) left)
  applied_too c t s.Stays plain = refl

  turn_too : (test : Bool) (c next : CoreState)
      → (if test then On (core_under past todo next) else Over (seen_of word.OutOfSteps false (held_under past todo c.held)))
      ≡ move_under past todo (if test then On (core_under [] [] next) else Over (seen_of word.OutOfSteps false (held_under [] [] c.held)))
  turn_too true c next = refl
  turn_too false c next = ap (λ (end : Option CoreEnd). Over end) (ends_too word.OutOfSteps false c.held)

  pub dispatched_too : (c : CoreState) (ready : List Item) → dispatched (core_under past todo c) ready ≡ move_under past todo (dispatched (core_under [] [] c) ready)
  dispatched_too c [] = ap (λ (end : Option CoreEnd). Over end) (ends_too word.Stalled true c.held)
  dispatched_too c (t ∷ ready) =
      turn_too (nat_lt c.held.shared.turn (2 ^ 64 - 1)) c (record { held = turned c.held; running = Some t; work = (thread_at c.threads t).work; ready = ready; threads = c.threads })

-- ---- where no entry is left, something is seen of an end

module _ (past : List Entry) where
  end_out : (word : EndWord) (idle : Bool) (h : Held) → (x : CoreEnd) × (seen_of word idle (held_under past [] h) ≡ Some x)
  end_out word idle h = (core_end word idle h.store.globals h.operations h.shared, refl)

  arrives_out : (passes : Bool) (c : CoreState) (t : Item) (block : BlockId) (h : Held) (ws : List work.Work) → (arrives passes c t block (held_under past [] h) ws).held.shared.todo ≡ []
  arrives_out true c t block h ws = refl
  arrives_out false c t block h ws = refl

  wakes_out : (owner : Option Item) (c : CoreState) → (wakes owner (core_under past [] c)).held.shared.todo ≡ []
  wakes_out None c = refl
  wakes_out (Some owner) c = refl

  operates_out : (marked : Bool) (c : CoreState) (t : Item) (link : ℕ) (asked : Asked) (h : Held) (ws : List work.Work)
      → (operates marked c t link asked (held_under past [] h) ws).held.shared.todo ≡ []
  operates_out true c t link asked h ws = refl
  operates_out false c t link asked h ws = refl

  applied_out : (c : CoreState) (t : Item) (next : s.Next) → IsOut (applied (core_under past [] c) t (next_under past [] next))
  applied_out c t (s.Goes h ws) = refl
  applied_out c t (s.Ends word h) = end_out word false h
  applied_out c t (s.Starts h frame own ws) = refl
  applied_out c t (s.Yields h ws) = refl
  applied_out c t (s.Arrives block h ws) = arrives_out (none_within block c.threads) (core_under past [] c) t block h ws
  applied_out c t (s.Cancels block h again ws) = cancel_out c block h again ws past
  applied_out c t (s.Operates link asked h ws) = operates_out (any_marked h.marks (path ws (thread_at c.threads t))) (core_under past [] c) t link asked h ws
  applied_out c t (s.Dies frame h) =
      let left = stops c t Ended (with_store h (released h.store frame)) [] c.ready in
      wakes_out (woken left.threads left.threads 0) left
  applied_out c t s.Stays = refl

  turn_out : (test : Bool) (c next : CoreState) → IsOut (if test then On (core_under past [] next) else Over (seen_of word.OutOfSteps false (held_under past [] c.held)))
  turn_out true c next = refl
  turn_out false c next = end_out word.OutOfSteps false c.held

  dispatched_out : (c : CoreState) (ready : List Item) → IsOut (dispatched (core_under past [] c) ready)
  dispatched_out c [] = end_out word.Stalled true c.held
  dispatched_out c (t ∷ ready) =
      turn_out (nat_lt c.held.shared.turn (2 ^ 64 - 1)) c (record { held = turned c.held; running = Some t; work = (thread_at c.threads t).work; ready = ready; threads = c.threads })

-- ---- where one is left, those behind it are of no matter

module _ (e : Entry) (es : List Entry) where
  told_follows : (past : List Entry) (m : Move CoreState (Option CoreEnd)) → Follows e es (move_under past (e ∷ es) m)
  told_follows past (On c) = inl refl
  told_follows past (Over end) = refl

  resumed_follows : (c : CoreState) (value : Cell) (waked : Option Item) → Follows e es (On (resumed (core_with_todo es c) value waked))
  resumed_follows c value None = inr refl
  resumed_follows c value (Some t) = inr refl

  -- a core after an entry
  abbrev after : CoreState → Arrival → CoreState
  after c x = record c { held = record c.held { shared = with_entry c.held.shared e []; store = x.store; operations = x.operations } }

  comes_follows : (c : CoreState) (o : Option Arrival)
      → Follows e es (comes_in (λ (end : Option CoreEnd). end) (λ x. On (arrived (core_with_todo (e ∷ es) c) (with_entry (held_under c.held.shared.past (e ∷ es) c.held).shared e es) x)) o)
  comes_follows c None = refl
  comes_follows c (Some x) = resumed_follows (after c x) (cell.Int x.value) x.woken

  point_follows : (test : Bool) (c : CoreState) (o : Option Arrival)
      → Follows e es (if test then comes_in (λ (end : Option CoreEnd). end) (λ x. On (arrived (core_with_todo (e ∷ es) c) (with_entry (held_under c.held.shared.past (e ∷ es) c.held).shared e es) x)) o
      else dispatched (core_with_todo (e ∷ es) c) c.ready)
  point_follows true c o = comes_follows c o
  point_follows false c o = subst (Follows e es) (sym (dispatched_too c.held.shared.past (e ∷ es) c c.ready)) (told_follows c.held.shared.past (dispatched (core_under [] [] c) c.ready))

  applied_follows : (c : CoreState) (t : Item) (next : s.Next) → Follows e es (applied (core_with_todo (e ∷ es) c) t (next_under c.held.shared.past (e ∷ es) next))
  applied_follows c t (s.Cancels block h again ws) = cancel_follows c block h again ws c.held.shared.past e es
  applied_follows c t next =
      subst (Follows e es) (sym (applied_too c.held.shared.past (e ∷ es) c t next tt)) (told_follows c.held.shared.past (applied (core_under [] [] c) t (next_under [] [] next)))

  module _ (later : List Entry) where
    told_grows : (past : List Entry) (m : Move CoreState (Option CoreEnd)) → move_under past (e ∷ es ++ later) m ≡ grown later (move_under past (e ∷ es) m)
    told_grows past (On c) = refl
    told_grows past (Over end) = refl

    resumed_grows : (c : CoreState) (value : Cell) (waked : Option Item)
        → ◌≡◌ {A = Moved} (On (resumed (core_with_todo (es ++ later) c) value waked)) (grown later (On (resumed (core_with_todo es c) value waked)))
    resumed_grows c value None = refl
    resumed_grows c value (Some t) = refl

    comes_grows : (c : CoreState) (o : Option Arrival)
        → comes_in (λ (end : Option CoreEnd). end)
        (λ x. On (arrived (core_with_todo (e ∷ es ++ later) c) (with_entry (held_under c.held.shared.past (e ∷ es ++ later) c.held).shared e (es ++ later)) x)) o
        ≡ grown later (comes_in (λ (end : Option CoreEnd). end) (λ x. On (arrived (core_with_todo (e ∷ es) c) (with_entry (held_under c.held.shared.past (e ∷ es) c.held).shared e es) x)) o)
    comes_grows c None = refl
    comes_grows c (Some x) = resumed_grows (after c x) (cell.Int x.value) x.woken

    point_grows : (test : Bool) (c : CoreState) (o : Option Arrival)
        → (if test then comes_in (λ (end : Option CoreEnd). end)
        (λ x. On (arrived (core_with_todo (e ∷ es ++ later) c) (with_entry (held_under c.held.shared.past (e ∷ es ++ later) c.held).shared e (es ++ later)) x)) o
        else dispatched (core_with_todo (e ∷ es ++ later) c) c.ready)
        ≡ grown later (if test then comes_in (λ (end : Option CoreEnd). end)
        (λ x. On (arrived (core_with_todo (e ∷ es) c) (with_entry (held_under c.held.shared.past (e ∷ es) c.held).shared e es) x)) o
        else dispatched (core_with_todo (e ∷ es) c) c.ready)
    point_grows true c o = comes_grows c o
    point_grows false c o =
        dispatched_too c.held.shared.past (e ∷ es ++ later) c c.ready ∙ told_grows c.held.shared.past (dispatched (core_under [] [] c) c.ready)
        ∙ ap (grown later) (sym (dispatched_too c.held.shared.past (e ∷ es) c c.ready))

    applied_grows : (c : CoreState) (t : Item) (next : s.Next)
        → applied (core_with_todo (e ∷ es ++ later) c) t (next_under c.held.shared.past (e ∷ es ++ later) next)
        ≡ grown later (applied (core_with_todo (e ∷ es) c) t (next_under c.held.shared.past (e ∷ es) next))
    applied_grows c t (s.Cancels block h again ws) = cancel_grows c block h again ws c.held.shared.past e es later
    applied_grows c t next =
        applied_too c.held.shared.past (e ∷ es ++ later) c t next tt ∙ told_grows c.held.shared.past (applied (core_under [] [] c) t (next_under [] [] next))
        ∙ ap (grown later) (sym (applied_too c.held.shared.past (e ∷ es) c t next tt))

-- ---- no thread runs

module _ (c : CoreState) (past : List Entry) where
  -- these are still to come
  abbrev resting : List Entry → List Entry → Moved
  resting todo xs =
      at_point (λ (end : Option CoreEnd). end) (held_under past todo c.held).shared c.held.store c.held.operations (λ shared x. On (arrived (core_under past todo c) shared x))
      (dispatched (core_under past todo c) c.ready) xs

  module _ (todo : List Entry) (e : Entry) (es : List Entry) (front : todo ≡ e ∷ es) where
    abbrev by_arrival : Option Arrival → Moved
    by_arrival x = comes_in (λ (end : Option CoreEnd). end) (λ x. On (arrived (core_under past todo c) (with_entry (held_under past todo c.held).shared e es) x)) x

    abbrev by_turn : Bool → Moved
    by_turn now = if now then by_arrival (arrivals.arrives past c.held.store c.held.operations e.event) else dispatched (core_under past todo c) c.ready

    at_first : (now : Bool) → nat_eq e.turn c.held.shared.turn ≡ now → rests (core_under past todo c) ≡ by_turn now
    at_first now is = ap (resting todo) front ∙ ap by_turn is

    pub does_not_fit : nat_eq e.turn c.held.shared.turn ≡ true → arrivals.arrives past c.held.store c.held.operations e.event ≡ None → rests (core_under past todo c) ≡ Over None
    does_not_fit is none = at_first true is ∙ ap by_arrival none

    resumed_under : (c : CoreState) (value : Cell) (waked : Option Item) → resumed (core_under (past ++ e ∷ []) es c) value waked ≡ core_under (past ++ e ∷ []) es (resumed c value waked)
    resumed_under c value None = refl
    resumed_under c value (Some t) = refl

    pub comes_now : (x : Arrival) → nat_eq e.turn c.held.shared.turn ≡ true → arrivals.arrives past c.held.store c.held.operations e.event ≡ Some x
        → rests (core_under past todo c) ≡ On (core_under (past ++ e ∷ []) es (arrived c c.held.shared x))
    comes_now x is fits =
        at_first true is ∙ ap by_arrival fits
        ∙ ap (λ (s : CoreState). On s) (resumed_under (record c { held = record c.held { store = x.store; operations = x.operations } }) (cell.Int x.value) x.woken)

  pub none_comes : (todo : List Entry) → IsLater todo c.held.shared.turn → rests (core_under past todo c) ≡ move_under past todo (dispatched (core_under [] [] c) c.ready)
  none_comes [] later = dispatched_too past [] c c.ready
  none_comes (e ∷ es) later = at_first (e ∷ es) e es refl false later ∙ dispatched_too past (e ∷ es) c c.ready

-- ---- a move

module _ (program : Resolved) (bound : ℕ) where
  -- the running thread does what comes next
  pub runs_under : (past todo : List Entry) (c : CoreState) (t : Item) (next : s.Next) → c.running ≡ Some t → s.next_of program bound c.work c.held ≡ next
      → step program bound (core_under past todo c) ≡ applied (core_under past todo c) t (next_under past todo next)
  runs_under past todo c t next runs is =
      ap (step_of program bound (core_under past todo c)) runs ∙ ap (applied (core_under past todo c) t) (next_too past todo program bound (work.ahead c.work) c.held)
      ∙ ap (λ (x : s.Next). applied (core_under past todo c) t (next_under past todo x)) is

  pub rests_under : (past todo : List Entry) (c : CoreState) → c.running ≡ None → step program bound (core_under past todo c) ≡ rests (core_under past todo c)
  rests_under past todo c idle = ap (step_of program bound (core_under past todo c)) idle

  by_running_out : (c : CoreState) (running : Option Item) → IsOut (step_of program bound (core_with_todo [] c) running)
  by_running_out c None = dispatched_out c.held.shared.past c c.ready
  by_running_out c (Some t) =
      let ws = work.ahead c.work in
      let past = c.held.shared.past in
      subst (λ (next : s.Next). IsOut (applied (core_under past [] c) t next)) (sym (next_too past [] program bound ws c.held)) (applied_out past c t (s.next_at program bound ws c.held))

  pub step_out : (c : CoreState) → IsOut (step program bound (core_with_todo [] c))
  step_out c = by_running_out c c.running

  module _ (e : Entry) (es : List Entry) where
    by_running_follows : (c : CoreState) (running : Option Item) → Follows e es (step_of program bound (core_with_todo (e ∷ es) c) running)
    by_running_follows c None = point_follows e es (nat_eq e.turn c.held.shared.turn) c (arrivals.arrives c.held.shared.past c.held.store c.held.operations e.event)
    by_running_follows c (Some t) =
        let ws = work.ahead c.work in
        subst (λ (next : s.Next). Follows e es (applied (core_with_todo (e ∷ es) c) t next)) (sym (next_too c.held.shared.past (e ∷ es) program bound ws c.held))
        (applied_follows e es c t (s.next_at program bound ws c.held))

    pub step_follows : (c : CoreState) → Follows e es (step program bound (core_with_todo (e ∷ es) c))
    step_follows c = by_running_follows c c.running

    module _ (later : List Entry) where
      by_running_grows : (c : CoreState) (running : Option Item)
          → step_of program bound (core_with_todo (e ∷ es ++ later) c) running ≡ grown later (step_of program bound (core_with_todo (e ∷ es) c) running)
      by_running_grows c None = point_grows e es later (nat_eq e.turn c.held.shared.turn) c (arrivals.arrives c.held.shared.past c.held.store c.held.operations e.event)
      by_running_grows c (Some t) =
          let ws = work.ahead c.work in
          let past = c.held.shared.past in
          ap (applied (core_with_todo (e ∷ es ++ later) c) t) (next_too past (e ∷ es ++ later) program bound ws c.held)
          ∙ applied_grows e es later c t (s.next_at program bound ws c.held)
          ∙ ap (λ (next : s.Next). grown later (applied (core_with_todo (e ∷ es) c) t next)) (sym (next_too past (e ∷ es) program bound ws c.held))

      pub step_grows : (c : CoreState) → step program bound (core_with_todo (e ∷ es ++ later) c) ≡ grown later (step program bound (core_with_todo (e ∷ es) c))
      step_grows c = by_running_grows c c.running

-- ---- the beginning

module _ (program : Resolved) (core : ℕ) (function : Function) where
  begins_too : (journal : List Entry) (r : Result Store Trap)
      → begins_with (λ (end : Option CoreEnd). end) (first_globals program) (shared_at_first program core journal) r (λ store. On (first_core function (shared_at_first program core journal) store))
      ≡ move_under [] journal (begins_with (λ (end : Option CoreEnd). end) (first_globals program) (shared_at_first program core []) r (λ store. On (first_core function
      (shared_at_first program core []) store)))
  begins_too journal (Ok store) = refl
  begins_too [] (Err trap) = refl
  begins_too (e ∷ es) (Err trap) = refl

  pub first_too : (journal : List Entry) → first_state program core function journal ≡ move_under [] journal (first_state program core function [])
  first_too journal = begins_too journal (begun (first_store (first_globals program)) None (replicate function.slots no_int))
