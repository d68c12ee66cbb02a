-- What a step of a thread leaves to come, and that it starts one operation at most.
-- By the cases of what the step does. A statement that begins brings as much as it has and takes the step that pays for it (`next_takes`); others bring nothing new.
use Rattle.std.proofs.Common.{◌≡◌, ℕ, zero, suc, ◌+◌, ◌<◌, ◌≤◌, List, [], ◌∷◌, ◌++◌, length, Option, Some, None, Result, Ok, Err, Bool, true, false, refl, inl, inr, ◌⊎◌, subst, arith}
use Rattle.std.specs.Prelude.{ℤ, pos, negsuc, nat_lt, nat_le, replicate, slice_get, slice_index_or, map, reverse, if◌then◌else◌}
use Rattle.std.proofs.lemmas.Bool.Decides.{nat_tests}
use Rattle.std.proofs.Math.Nat.{le-max_left, le-max_right}
use Rattle.ac_base.specs.declared.ends.EndWord.TheVariants as word
use Rattle.ac_base.specs.declared.ends.Trap.{Trap}
use Rattle.ac_base.specs.declared.ends.Trap.TheVariants.{OutputFull}
use Rattle.work_item.specs.declared.ids.FrameId.{FrameId}
use Rattle.work_item.specs.declared.cell.Cell.{Cell}
use Rattle.work_item.specs.declared.cell.Cell.TheVariants as cell
use Rattle.work_item.specs.Store.{no_int, next_frame, int_in, place_in}
use Rattle.cancel_scope.specs.declared.operation.Asked.{Asked}
use Rattle.core_state.specs.Arithmetic.{at_zero}
use Rattle.core_state.specs.Frames.{begun, begun_with}
use Rattle.core_state.specs.Shared.{output_limit, formatted}
use Rattle.core_state.specs.Requests.{read_of, write_of}
use Rattle.ac_commands.specs.declared.value.Action.TheVariants.{Call, Send, Recv, Read, Write}
use Rattle.ac_commands.specs.declared.command.Command.{Command, out-Command}
use Rattle.ac_commands.specs.declared.command.Command.TheOpen.{Command-F}
use Rattle.ac_commands.specs.declared.program.Function.{Function}
use Rattle.ac_commands.specs.declared.program.Resolved.{Resolved}
use Rattle.ac_semantics.specs.Evaluation.{Acting, Ending, Evaluated, Comes, Traps, Stops, row_goes, resumes}
use Rattle.ac_semantics.specs.Held.{Held, with_shared, with_store, stepped, next_block}
use Rattle.ac_semantics.specs.Work.{Work, Do, Pend, Given, CallOff, Turn, Close, Back, Leave, End, before, ahead, past_loop, at_turn}
use Rattle.ac_semantics.specs.Statements.{Next, Goes, Ends, Starts, Yields, Arrives, Cancels, Operates, Dies, Stays}
use Rattle.ac_semantics.specs.Statements.{or_trap, operands_of, put_in, returns, value_or_zero, some_body, test_or_true, last_of, loops}
use Rattle.ac_semantics.specs.Statements.{finish_form, calls, requests, place_operand, length_operand, settles, does, next_at, next_of}
use Rattle.journal_bounds.specs.Actions.{most_in, most_of, most_within, actions_of, most_actions}
use Rattle.journal_bounds.proofs.Expressions.{around_actions, Within, within_more, operands_within, resumes_within}
use Rattle.journal_bounds.proofs.Work.{counts_in, own_few, inner_few, some_few, body_few, works_actions, AreFew, before_few, past_few, turn_few, given_few, ahead_few}
use Rattle.journal_bounds.proofs.Work.{before_actions, past_actions, turn_actions, given_actions, ahead_actions}

-- ---- what a step comes to

-- the journal, the steps and the operations are as before
pub record Keeps (s t : Held) : Type 0 where
  pub past : t.shared.past ≡ s.shared.past
  pub todo : t.shared.todo ≡ s.shared.todo
  pub steps : t.shared.steps ≡ s.shared.steps
  pub operations : t.operations ≡ s.operations

abbrev same : (s : Held) → Keeps s s
same s = record { past = refl; todo = refl; steps = refl; operations = refl }

-- a thread goes on with work in which no more than n calls and operations are to come
pub record Leaves (w n : ℕ) (s t : Held) (ws : List Work) : Type 0 where
  pub keeps : Keeps s t
  pub few : AreFew w ws
  pub actions : works_actions ws ≤ n

-- no more than n are to come, of which an operation that is started is one
abbrev pub Leads : ℕ → ℕ → Held → Next → Type 0
Leads w n s (Goes t ws) = Leaves w n s t ws
Leads w n s (Ends word t) = Keeps s t
Leads w n s (Starts t frame own ws) = Leaves w n s t ws × AreFew w own × (works_actions own ≡ 0)
Leads w n s (Yields t ws) = Leaves w n s t ws
Leads w n s (Arrives block t ws) = Leaves w n s t ws
Leads w n s (Cancels block t again ws) = Leaves w n s t again × Leaves w n s t ws
Leads w n s (Operates link asked t ws) = Keeps s t × AreFew w ws × (works_actions ws + 1 ≤ n)
Leads w n s (Dies frame t) = Keeps s t
Leads w n s Stays = Unit {0}

module _ (w n : ℕ) (s : Held) where
  goes_on : (t : Held) (ws : List Work) → Keeps s t → AreFew w ws → works_actions ws ≤ n → Leaves w n s t ws
  goes_on t ws k a h = record { keeps = k; few = a; actions = h }

  trap_leads : {A : Type 0} (r : Result A Trap) (go : A → Next) → ((x : A) → Leads w n s (go x)) → Leads w n s (or_trap s r go)
  trap_leads (Ok x) go h = h x
  trap_leads (Err trap) go h = same s

  zero_leads : (x : ℤ) (a c : List Work) → Leaves w n s s a → Leaves w n s s c → Leaves w n s s (at_zero x a c)
  zero_leads (pos zero) a c p q = p
  zero_leads (pos (suc k)) a c p q = q
  zero_leads (negsuc k) a c p q = q

  returns_leads : (value : ℤ) (ws : List Work) → AreFew w ws → works_actions ws ≤ n → Leads w n s (returns value ws s)
  returns_leads value [] a h = tt
  returns_leads value (Back own ∷ ws) a h =
      let e = given_actions (cell.Int value) ws in
      record { keeps = record { past = refl; todo = refl; steps = refl; operations = refl }; few = given_few w (cell.Int value) ws a.1; actions = omega arith }
  returns_leads value (Leave ∷ ws) a h = same s
  returns_leads value (x ∷ ws) a h = returns_leads value ws a.1 (omega arith)

  prints : (b : Bool) (output : List ℕ) (ws : List Work) → AreFew w ws → works_actions ws ≤ n
      → Leads w n s (or_trap s (if b then Ok (record s.shared { output = output }) else Err OutputFull) (λ shared. Goes (with_shared s shared) ws))
  prints true output ws a h = record { keeps = record { past = refl; todo = refl; steps = refl; operations = refl }; few = a; actions = h }
  prints false output ws a h = same s

  loops_lead : (test : ℤ) (loop : Command) (body : List Command) (frame : FrameId) (ws : List Work) → most_in loop ≤ w → most_of body ≤ w → AreFew w ws → works_actions ws ≤ n
      → Leads w n s (loops test loop body frame ws s)
  loops_lead test loop body frame ws l m a h =
      let e = before_actions frame body (Turn frame loop ∷ ws) in
      zero_leads test ws (before frame body (Turn frame loop ∷ ws)) (goes_on s ws (same s) a h)
      (goes_on s (before frame body (Turn frame loop ∷ ws)) (same s) (before_few w frame body (Turn frame loop ∷ ws) m (l, a)) (omega arith))

  -- ---- a statement whose operands are there

  -- One form of statement at a time, its operands evaluated. Bodies that it enters have not begun, so nothing is to come of them yet; they are no greater than the most.
  finish_leads : (program : Resolved) (self : Command) (x : Command-F Command) (operands : List Cell) (frame : FrameId) (ws : List Work)
      → most_in self ≤ w → most_within (counts_in x) ≤ w → AreFew w ws → works_actions ws ≤ n → Leads w n s (finish_form program self x operands frame ws s)
  finish_leads program self Command-F.Nothing operands frame ws l m a h = goes_on s ws (same s) a h
  finish_leads program self (Command-F.Set target value) operands frame ws l m a h =
      trap_leads (put_in target operands frame s.store) (λ store. Goes (with_store s store) ws)
      (λ store. record { keeps = record { past = refl; todo = refl; steps = refl; operations = refl }; few = a; actions = h })
  finish_leads program self (Command-F.Clear slot len) operands frame ws l m a h =
      record { keeps = record { past = refl; todo = refl; steps = refl; operations = refl }; few = a; actions = h }
  finish_leads program self (Command-F.Run value) operands frame ws l m a h = goes_on s ws (same s) a h
  finish_leads program self (Command-F.Print text args) operands frame ws l m a h =
      let bytes = formatted (slice_index_or program.texts text []) (map int_in (reverse operands)) in
      prints (nat_le (length s.shared.output + length bytes) output_limit) (s.shared.output ++ bytes) ws a h
  finish_leads program self (Command-F.If test body other) operands frame ws l m a h =
      let b = before_actions frame body ws in
      let o = before_actions frame (some_body other) ws in
      let inner = counts_in (Command-F.If test body other) in
      let left : most_of body ≤ most_within inner = le-max_left (most_of body) _ in
      let right : most_of (some_body other) ≤ most_within inner = some_few other (Command-F.If test body other) test body refl in
      zero_leads (int_in (last_of operands)) (before frame (some_body other) ws) (before frame body ws)
      (goes_on s (before frame (some_body other) ws) (same s) (before_few w frame (some_body other) ws (omega arith) a) (omega arith))
      (goes_on s (before frame body ws) (same s) (before_few w frame body ws (omega arith) a) (omega arith))
  finish_leads program self (Command-F.While test body) operands frame ws l m a h = loops_lead (int_in (last_of operands)) self body frame ws l m a h
  finish_leads program self (Command-F.For test next body) operands frame ws l m a h =
      let right : most_of body ≤ most_within (counts_in (Command-F.For test next body)) = le-max_right (most_of next) (most_of body) in
      loops_lead (test_or_true test operands) self body frame ws l (omega arith) a h
  finish_leads program self Command-F.Break operands frame ws l m a h = let e = past_actions ws in goes_on s (past_loop ws) (same s) (past_few w ws a) (omega arith)
  finish_leads program self Command-F.Continue operands frame ws l m a h = let e = turn_actions ws in goes_on s (at_turn ws) (same s) (turn_few w ws a) (omega arith)
  finish_leads program self (Command-F.Return value) operands frame ws l m a h = returns_leads (value_or_zero value operands) ws a h
  finish_leads program self (Command-F.Do slot body) operands frame ws l m a h =
      let rest = Close (next_block s) ∷ ws in
      let e = before_actions frame body rest in
      record { keeps = record { past = refl; todo = refl; steps = refl; operations = refl }; few = before_few w frame body rest m (tt, a); actions = omega arith }
  finish_leads program self (Command-F.Async slots body) operands frame ws l m a h =
      trap_leads (begun s.store (Some frame) (replicate slots no_int))
      (λ store. Starts (with_store s store) (next_frame s.store) (before (next_frame s.store) body (End (next_frame s.store) ∷ [])) ws)
      (λ store.
      let own = End (next_frame s.store) ∷ [] in
      let e = before_actions (next_frame s.store) body own in
      (record { keeps = record { past = refl; todo = refl; steps = refl; operations = refl }; few = a; actions = h }, before_few w (next_frame s.store) body own m (tt, tt), omega arith))
  finish_leads program self (Command-F.Cancel level slot) operands frame ws l m a h = goes_on s (CallOff frame level slot ∷ ws) (same s) (tt, a) (omega arith)
  finish_leads program self Command-F.Yield operands frame ws l m a h = goes_on s ws (same s) a h

  calls_lead : (f : Option Function) (operands : List Cell) (ws : List Work) → ((x : Function) → f ≡ Some x → most_of x.body ≤ w) → AreFew w ws → works_actions ws ≤ n →
      Leads w n s (calls f operands ws s)
  calls_lead None operands ws m a h = tt
  calls_lead (Some f) operands ws m a h =
      trap_leads (begun_with s.store f.params f.slots (reverse operands)) (λ store. Goes (with_store s store) (before (next_frame s.store) f.body (Back (next_frame s.store) ∷ ws)))
      (λ store.
      let rest = Back (next_frame s.store) ∷ ws in
      let e = before_actions (next_frame s.store) f.body rest in
      record { keeps = record { past = refl; todo = refl; steps = refl; operations = refl }; few = before_few w (next_frame s.store) f.body rest (m f refl) (tt, a); actions = omega arith })

  requests_lead : (it : Result Asked Trap) (ws : List Work) → AreFew w ws → works_actions ws + 1 ≤ n → Leads w n s (requests it ws s)
  requests_lead it ws a h = trap_leads it (λ asked. Operates s.shared.requests asked s ws) (λ asked. (same s, a, h))

module _ (program : Resolved) where
  abbrev most : ℕ
  most = most_actions program

  settles_lead : (n k : ℕ) (s : Held) (command : Command) (frame : FrameId) (ws : List Work) (o : Evaluated) → Within k o → most_in command ≤ most → AreFew most ws → k + works_actions ws ≤ n
      → Leads most n s (settles program command frame ws s o)
  settles_lead n k s command frame ws (Comes value) i l a h = tt
  settles_lead n k s command frame ws (Traps trap) i l a h = same s
  settles_lead n k s command frame ws (Stops Ending operands around) i l a h =
      let m = inner_few command in
      finish_leads most n s program command (out-Command command) operands frame ws l (omega arith) a (omega arith)
  settles_lead n k s command frame ws (Stops (Acting (Call function)) operands around) i l a h =
      calls_lead most n s (slice_get program.functions function) operands (Pend frame command around ∷ ws) (λ f is. body_few program.functions function f is) (l, a) (omega arith)
  settles_lead n k s command frame ws (Stops (Acting (Send channel)) operands around) i l a h = (same s, (l, a), omega arith)
  settles_lead n k s command frame ws (Stops (Acting (Recv channel)) operands around) i l a h = (same s, (l, a), omega arith)
  settles_lead n k s command frame ws (Stops (Acting (Read file)) operands around) i l a h =
      requests_lead most n s (read_of file (place_operand operands) (length_operand operands) (place_in (last_of operands))) (Pend frame command around ∷ ws) (l, a) (omega arith)
  settles_lead n k s command frame ws (Stops (Acting (Write file)) operands around) i l a h =
      requests_lead most n s (write_of s.store file (place_operand operands) (length_operand operands) (place_in (last_of operands))) (Pend frame command around ∷ ws) (l, a) (omega arith)

  -- a step that is used allows for as many as a statement has
  abbrev pub Takes : ℕ → List Work → Held → Next → Type 0
  Takes bound ws s next = Leads most (works_actions ws) s next ⊎ ((s.shared.steps < bound) × Leads most (most + works_actions ws) (stepped s) next)

  less : (m n : ℕ) → nat_lt m n ≡ true → m < n
  less m n e = grind (arith, nat_tests)

  step_takes : (bound : ℕ) (ws : List Work) (s : Held) (next : Next) → Leads most (most + works_actions ws) (stepped s) next → (b : Bool) → nat_lt s.shared.steps bound ≡ b
      → Takes bound ws s (if b then next else Ends word.OutOfSteps s)
  step_takes bound ws s next h true e = inr (less _ _ e, h)
  step_takes bound ws s next h false e = inl (same s)

  at_takes : (bound : ℕ) (ws : List Work) (s : Held) → AreFew most ws → Takes bound ws s (next_at program bound ws s)
  at_takes bound [] s a = inl tt
  at_takes bound (Do frame command ∷ ws) s a =
      let few = own_few command in
      let l = a.0 in
      let xs = operands_of (out-Command command) in
      let goes = row_goes (stepped s).store frame Ending [] xs [] in
      step_takes bound (Do frame command ∷ ws) s (does program command frame ws (stepped s))
      (settles_lead (most + works_actions (Do frame command ∷ ws)) most (stepped s) command frame ws goes
      (within_more (0 + (actions_of xs + around_actions [])) most (omega arith) goes (operands_within (stepped s).store frame Ending [] xs [])) l a.1 (omega arith))
      (nat_lt s.shared.steps bound) refl
  at_takes bound (CallOff frame level slot ∷ ws) s a =
      let n = works_actions (CallOff frame level slot ∷ ws) in
      inl (goes_on most n s s (CallOff frame level slot ∷ ws) (same s) a (omega arith), goes_on most n s s ws (same s) a.1 (omega arith))
  at_takes bound (Turn frame loop ∷ ws) s a = inl tt
  at_takes bound (Close block ∷ ws) s a =
      step_takes bound (Close block ∷ ws) s (Arrives block (stepped s) ws) (record { keeps = same (stepped s); few = a.1; actions = omega arith }) (nat_lt s.shared.steps bound) refl
  at_takes bound (Back own ∷ ws) s a = inl (returns_leads most (works_actions (Back own ∷ ws)) s (pos 0) (Back own ∷ ws) a (omega arith))
  at_takes bound (Pend frame command around ∷ ws) s a = inl tt
  at_takes bound (Given value frame command around ∷ ws) s a =
      inl (settles_lead (around_actions around + works_actions ws) (around_actions around) s command frame ws (resumes s.store frame around value)
      (resumes_within s.store frame around value) a.0 a.1 (omega arith))
  at_takes bound (Leave ∷ ws) s a = inl (same s)
  at_takes bound (End frame ∷ ws) s a = inl (same s)

  pub next_takes : (bound : ℕ) (ws : List Work) (s : Held) → AreFew most ws → Leads most (works_actions ws) s (next_of program bound ws s)
      ⊎ ((s.shared.steps < bound) × Leads most (most + works_actions ws) (stepped s) (next_of program bound ws s))
  next_takes bound ws s a = let e = ahead_actions ws in
      subst (λ n. Leads most n s (next_of program bound ws s) ⊎ ((s.shared.steps < bound) × Leads most (most + n) (stepped s) (next_of program bound ws s))) e
      (at_takes bound (ahead ws) s (ahead_few most ws a))
