-- A statement whose calls and operations stand alone leaves work of such statements, where each that waits has only the rest of its operands
-- round the open place. By the cases of what a statement does.
use Rattle.std.proofs.Common.{◌≡◌, ℕ, zero, suc, List, [], ◌∷◌, map, Option, Some, None, Bool, true, false, refl, ap, ◌∙◌, subst, arith}
use Rattle.std.specs.Prelude.{ℤ, pos, negsuc, nat_lt, replicate, reverse, slice_get, slice_index_or, Result, Ok, Err, if◌then◌else◌}
use Rattle.std.specs.List.{AllByRecursion}
use Rattle.ac_base.specs.declared.ends.Trap.{Trap}
use Rattle.ac_base.specs.declared.ends.EndWord.TheVariants as word
use Rattle.ac_tree.specs.Weight.{total}
use Rattle.work_item.specs.declared.ids.FrameId.{FrameId}
use Rattle.work_item.specs.declared.cell.Cell.{Cell}
use Rattle.work_item.specs.declared.cell.Cell.TheVariants as cell
use Rattle.work_item.specs.Store.{no_int, next_frame, int_in, place_in}
use Rattle.cancel_scope.specs.declared.operation.Asked.{Asked}
use Rattle.core_state.specs.Arithmetic.{at_zero}
use Rattle.core_state.specs.Frames.{begun, begun_with}
use Rattle.core_state.specs.Shared.{printed, formatted}
use Rattle.core_state.specs.Requests.{read_of, write_of}
use Rattle.ac_commands.specs.declared.value.Action.{Action}
use Rattle.ac_commands.specs.declared.value.Action.TheVariants.{Call, Send, Recv, Read, Write}
use Rattle.ac_commands.specs.declared.value.Value.{Value, out-Value}
use Rattle.ac_commands.specs.declared.value.ValueLink.{ValueLink}
use Rattle.ac_commands.specs.declared.value.Value.TheOpen.{Value-F}
use Rattle.ac_commands.specs.declared.command.Command.{Command, map-Command, out-Command}
use Rattle.ac_commands.specs.declared.command.Command.TheOpen.{Command-F}
use Rattle.ac_commands.specs.declared.program.Function.{Function}
use Rattle.ac_commands.specs.declared.program.Resolved.{Resolved}
use Rattle.ac_semantics.specs.Evaluation.{Acting, Ending, Context, Operands, Stops}
use Rattle.ac_semantics.specs.Held.{Held, with_shared, with_store, stepped, next_block}
use Rattle.ac_semantics.specs.Work.{Work, Do, Pend, Given, CallOff, Turn, Close, Back, Leave, End, before, next_in, next_part, ahead, past_loop, at_turn, given}
use Rattle.ac_semantics.specs.Statements.{Next, Goes, Ends, Starts, Yields, Arrives, Cancels, Operates, Dies, Stays}
use Rattle.ac_semantics.specs.Statements.{or_trap, operands_of, put_in, returns, value_or_zero, some_body, test_or_true, last_of, loops}
use Rattle.ac_semantics.specs.Statements.{finish, finish_form, calls, requests, place_operand, length_operand, settles, goes_on_with, if_step, next_at}
use Rattle.ac_compile.specs.Alone.{nested_within, command_nested, IsAlone, body_nested, function_nested, AreAlone}
use Rattle.ac_compile.specs.Plain.{plain_row, rest_of, waits_for, ends_plainly, begins_plainly, goes_plainly, plain_does, plain_goes_on}
use Rattle.ac_compile.specs.PlainRuns.{plain_next_at}
use Rattle.ac_compile.proofs.Plainly.{nested_is, does_plainly, goes_on_plainly}

-- ---- statements by their form

abbrev counts_in : Command-F Command → Command-F ℕ
counts_in x = map-Command Command ℕ command_nested x

within_none : (c : Command) → IsAlone c → nested_within (counts_in (out-Command c)) ≡ 0
within_none c h = let e = nested_is c in omega (arith, e, h)

some_none : (test : Value) (body : List Command) (other : Option (List Command)) → nested_within (counts_in (Command-F.If test body other)) ≡ 0 → body_nested (some_body other) ≡ 0
some_none test body None h = refl
some_none test body (Some other) h = omega (arith, h)

next_none : (x : Command-F Command) → nested_within (counts_in x) ≡ 0 → body_nested (next_in x) ≡ 0
next_none (Command-F.For test next body) h = omega (arith, h)
next_none Command-F.Nothing h = refl
next_none (Command-F.Set target value) h = refl
next_none (Command-F.Clear slot len) h = refl
next_none (Command-F.Run value) h = refl
next_none (Command-F.Print text args) h = refl
next_none (Command-F.If test body other) h = refl
next_none (Command-F.While test body) h = refl
next_none Command-F.Break h = refl
next_none Command-F.Continue h = refl
next_none (Command-F.Return value) h = refl
next_none (Command-F.Do slot body) h = refl
next_none (Command-F.Async slots body) h = refl
next_none (Command-F.Cancel level slot) h = refl
next_none Command-F.Yield h = refl

-- the bodies of functions
pub function_alone : (fs : List Function) → total (map function_nested fs) ≡ 0 → (k : ℕ) (f : Function) → slice_get fs k ≡ Some f → body_nested f.body ≡ 0
function_alone [] none k f is = cc
function_alone (x ∷ fs) none zero f is = let e : x ≡ f = cc in subst (λ y. body_nested y.body ≡ 0) e (omega (arith, none))
function_alone (x ∷ fs) none (suc k) f is = function_alone fs (omega (arith, none)) k f is

-- ---- work

-- round its open place is what is left of its operands
abbrev Waits : Command → List Context → Type 0
Waits command around = around ≡ Operands Ending [] (waits_for command) ∷ []

abbrev pub IsCalm : Work → Type 0
IsCalm (Do frame command) = IsAlone command
IsCalm (Pend frame command around) = IsAlone command × Waits command around
IsCalm (Given value frame command around) = IsAlone command × Waits command around
IsCalm (CallOff frame level slot) = Unit {0}
IsCalm (Turn frame loop) = IsAlone loop
IsCalm (Close block) = Unit {0}
IsCalm (Back frame) = Unit {0}
IsCalm Leave = Unit {0}
IsCalm (End frame) = Unit {0}

abbrev pub AreCalm : List Work → Type 0
AreCalm = AllByRecursion IsCalm

pub before_calm : (frame : FrameId) (body : List Command) (ws : List Work) → body_nested body ≡ 0 → AreCalm ws → AreCalm (before frame body ws)
before_calm frame [] ws h a = a
before_calm frame (c ∷ body) ws h a = (omega (arith, h), before_calm frame body ws (omega (arith, h)) a)

past_calm : (ws : List Work) → AreCalm ws → AreCalm (past_loop ws)
past_calm [] a = tt
past_calm (Turn frame loop ∷ ws) a = a.1
past_calm (_ ∷ ws) a = past_calm ws a.1

turn_calm : (ws : List Work) → AreCalm ws → AreCalm (at_turn ws)
turn_calm [] a = tt
turn_calm (Turn frame loop ∷ ws) a = a
turn_calm (_ ∷ ws) a = turn_calm ws a.1

pub given_calm : (value : Cell) (ws : List Work) → AreCalm ws → AreCalm (given value ws)
given_calm value [] a = a
given_calm value (Pend frame command around ∷ ws) a = a
given_calm value (x ∷ ws) a = a

pub ahead_calm : (ws : List Work) → AreCalm ws → AreCalm (ahead ws)
ahead_calm [] a = a
ahead_calm (Turn frame loop ∷ ws) a = before_calm frame (next_part loop) (Do frame loop ∷ ws) (next_none (out-Command loop) (within_none loop a.0)) a
ahead_calm (x ∷ ws) a = a

-- ---- what a step comes to

abbrev pub LeavesCalm : Next → Type 0
LeavesCalm (Goes s ws) = AreCalm ws
LeavesCalm (Ends word s) = Unit {0}
LeavesCalm (Starts s frame own ws) = AreCalm own × AreCalm ws
LeavesCalm (Yields s ws) = AreCalm ws
LeavesCalm (Arrives block s ws) = AreCalm ws
LeavesCalm (Cancels block s again ws) = AreCalm again × AreCalm ws
LeavesCalm (Operates link asked s ws) = AreCalm ws
LeavesCalm (Dies frame s) = Unit {0}
LeavesCalm Stays = Unit {0}

trap_calm : {A : Type 0} (s : Held) (r : Result A Trap) (go : A → Next) → ((x : A) → LeavesCalm (go x)) → LeavesCalm (or_trap s r go)
trap_calm s (Ok x) go h = h x
trap_calm s (Err trap) go h = tt

zero_calm : (x : ℤ) (a c : List Work) → AreCalm a → AreCalm c → AreCalm (at_zero x a c)
zero_calm (pos zero) a c p q = p
zero_calm (pos (suc k)) a c p q = q
zero_calm (negsuc k) a c p q = q

returns_calm : (value : ℤ) (ws : List Work) (s : Held) → AreCalm ws → LeavesCalm (returns value ws s)
returns_calm value [] s a = tt
returns_calm value (Back own ∷ ws) s a = given_calm (cell.Int value) ws a.1
returns_calm value (Leave ∷ ws) s a = tt
returns_calm value (x ∷ ws) s a = returns_calm value ws s a.1

loops_calm : (test : ℤ) (loop : Command) (body : List Command) (frame : FrameId) (ws : List Work) (s : Held) → IsAlone loop → body_nested body ≡ 0 → AreCalm ws → LeavesCalm
    (loops test loop body frame ws s)
loops_calm test loop body frame ws s l h a = zero_calm test ws (before frame body (Turn frame loop ∷ ws)) a (before_calm frame body (Turn frame loop ∷ ws) h (l, a))

-- One form of statement at a time, its operands evaluated.
finish_calm : (program : Resolved) (self : Command) (x : Command-F Command) (operands : List Cell) (frame : FrameId) (ws : List Work) (s : Held)
    → IsAlone self → nested_within (counts_in x) ≡ 0 → AreCalm ws → LeavesCalm (finish_form program self x operands frame ws s)
finish_calm program self Command-F.Nothing operands frame ws s l h a = a
finish_calm program self (Command-F.Set target value) operands frame ws s l h a = trap_calm s (put_in target operands frame s.store) (λ store. Goes (with_store s store) ws) (λ store. a)
finish_calm program self (Command-F.Clear slot len) operands frame ws s l h a = a
finish_calm program self (Command-F.Run value) operands frame ws s l h a = a
finish_calm program self (Command-F.Print text args) operands frame ws s l h a =
    trap_calm s (printed s.shared (formatted (slice_index_or program.texts text []) (map int_in (reverse operands)))) (λ shared. Goes (with_shared s shared) ws) (λ shared. a)
finish_calm program self (Command-F.If test body other) operands frame ws s l h a =
    zero_calm (int_in (last_of operands)) (before frame (some_body other) ws) (before frame body ws)
    (before_calm frame (some_body other) ws (some_none test body other h) a) (before_calm frame body ws (omega (arith, h)) a)
finish_calm program self (Command-F.While test body) operands frame ws s l h a = loops_calm (int_in (last_of operands)) self body frame ws s l h a
finish_calm program self (Command-F.For test next body) operands frame ws s l h a = loops_calm (test_or_true test operands) self body frame ws s l (omega (arith, h)) a
finish_calm program self Command-F.Break operands frame ws s l h a = past_calm ws a
finish_calm program self Command-F.Continue operands frame ws s l h a = turn_calm ws a
finish_calm program self (Command-F.Return value) operands frame ws s l h a = returns_calm (value_or_zero value operands) ws s a
finish_calm program self (Command-F.Do slot body) operands frame ws s l h a = before_calm frame body (Close (next_block s) ∷ ws) h (tt, a)
finish_calm program self (Command-F.Async slots body) operands frame ws s l h a =
    trap_calm s (begun s.store (Some frame) (replicate slots no_int))
    (λ store. Starts (with_store s store) (next_frame s.store) (before (next_frame s.store) body (End (next_frame s.store) ∷ [])) ws)
    (λ store. (before_calm (next_frame s.store) body (End (next_frame s.store) ∷ []) h (tt, tt), a))
finish_calm program self (Command-F.Cancel level slot) operands frame ws s l h a = (tt, a)
finish_calm program self Command-F.Yield operands frame ws s l h a = a

calls_calm : (f : Option Function) (operands : List Cell) (ws : List Work) (s : Held) → ((x : Function) → f ≡ Some x → body_nested x.body ≡ 0) → AreCalm ws → LeavesCalm (calls f operands ws s)
calls_calm None operands ws s h a = tt
calls_calm (Some f) operands ws s h a =
    trap_calm s (begun_with s.store f.params f.slots (reverse operands)) (λ store. Goes (with_store s store) (before (next_frame s.store) f.body (Back (next_frame s.store) ∷ ws)))
    (λ store. before_calm (next_frame s.store) f.body (Back (next_frame s.store) ∷ ws) (h f refl) (tt, a))

requests_calm : (it : Result Asked Trap) (ws : List Work) (s : Held) → AreCalm ws → LeavesCalm (requests it ws s)
requests_calm it ws s a = trap_calm s it (λ asked. Operates s.shared.requests asked s ws) (λ asked. a)

module _ (program : Resolved) (alone : AreAlone program) where
  module _ (command : Command) (l : IsAlone command) (frame : FrameId) (ws : List Work) (a : AreCalm ws) (s : Held) where
    starts_calm : (action : Action) (operands : List Cell) (around : List Context) → Waits command around → LeavesCalm (settles program command frame ws s (Stops (Acting action) operands around))
    starts_calm (Call function) operands around e =
        calls_calm (slice_get program.functions function) operands (Pend frame command around ∷ ws) s (λ f is. function_alone program.functions alone function f is) ((l, e), a)
    starts_calm (Send channel) operands around e = ((l, e), a)
    starts_calm (Recv channel) operands around e = ((l, e), a)
    starts_calm (Read file) operands around e =
        requests_calm (read_of file (place_operand operands) (length_operand operands) (place_in (last_of operands))) (Pend frame command around ∷ ws) s ((l, e), a)
    starts_calm (Write file) operands around e =
        requests_calm (write_of s.store file (place_operand operands) (length_operand operands) (place_in (last_of operands))) (Pend frame command around ∷ ws) s ((l, e), a)

    ends_calm : (operands : List Cell) (rest : List Value) → LeavesCalm (ends_plainly program command frame ws s operands rest)
    ends_calm operands rest =
        trap_calm s (plain_row s.store frame operands rest) (λ all. finish program command all frame ws s)
        (λ all. finish_calm program command (out-Command command) all frame ws s l (within_none command l) a)

    begins_calm : (form : Value-F Value ValueLink) (x : Value) (rest : List Value) → rest ≡ waits_for command → LeavesCalm (begins_plainly program command frame ws s form x rest)
    begins_calm (Value-F.Act action operands) x rest e =
        trap_calm s (plain_row s.store frame [] operands) (λ cells. settles program command frame ws s (Stops (Acting action) cells (Operands Ending [] rest ∷ [])))
        (λ cells. starts_calm action cells (Operands Ending [] rest ∷ []) (ap (λ xs. Operands Ending [] xs ∷ []) e))
    begins_calm (Value-F.Number value) x rest e = ends_calm [] (x ∷ rest)
    begins_calm (Value-F.Variable place) x rest e = ends_calm [] (x ∷ rest)
    begins_calm (Value-F.Reference whole) x rest e = ends_calm [] (x ∷ rest)
    begins_calm (Value-F.Element whole index) x rest e = ends_calm [] (x ∷ rest)
    begins_calm (Value-F.Part whole index) x rest e = ends_calm [] (x ∷ rest)
    begins_calm (Value-F.Unary op operand) x rest e = ends_calm [] (x ∷ rest)
    begins_calm (Value-F.Chain first links) x rest e = ends_calm [] (x ∷ rest)

    goes_calm : (xs : List Value) → rest_of xs ≡ waits_for command → LeavesCalm (goes_plainly program command frame ws s xs)
    goes_calm [] e = ends_calm [] []
    goes_calm (x ∷ rest) e = begins_calm (out-Value x) x rest e

    pub does_calm : LeavesCalm (plain_does program command frame ws s)
    does_calm = goes_calm (operands_of (out-Command command)) refl

    pub goes_on_calm : (value : Cell) → LeavesCalm (plain_goes_on program command frame ws s value)
    goes_on_calm value = ends_calm (value ∷ []) (waits_for command)

  if_calm : (b : Bool) (s : Held) (next : Next) → LeavesCalm next → LeavesCalm (if b then next else Ends word.OutOfSteps s)
  if_calm true s next h = h
  if_calm false s next h = tt

  -- such work goes on by plain steps, and leaves such work
  pub next_same : (bound : ℕ) (ws : List Work) (s : Held) → AreCalm ws → next_at program bound ws s ≡ plain_next_at program bound ws s
  next_same bound [] s a = refl
  next_same bound (Do frame command ∷ ws) s a = ap (if_step bound s) (does_plainly program command a.0 frame ws (stepped s))
  next_same bound (CallOff frame level slot ∷ ws) s a = refl
  next_same bound (Turn frame loop ∷ ws) s a = refl
  next_same bound (Close block ∷ ws) s a = refl
  next_same bound (Back own ∷ ws) s a = refl
  next_same bound (Pend frame command around ∷ ws) s a = refl
  next_same bound (Given value frame command around ∷ ws) s a =
      ap (λ x. goes_on_with program value command x frame ws s) a.0.1 ∙ goes_on_plainly program command a.0.0 frame ws s value
  next_same bound (Leave ∷ ws) s a = refl
  next_same bound (End frame ∷ ws) s a = refl

  pub next_calm : (bound : ℕ) (ws : List Work) (s : Held) → AreCalm ws → LeavesCalm (plain_next_at program bound ws s)
  next_calm bound [] s a = tt
  next_calm bound (Do frame command ∷ ws) s a =
      if_calm (nat_lt s.shared.steps bound) s (plain_does program command frame ws (stepped s)) (does_calm command a.0 frame ws a.1 (stepped s))
  next_calm bound (CallOff frame level slot ∷ ws) s a = (a, a.1)
  next_calm bound (Turn frame loop ∷ ws) s a = tt
  next_calm bound (Close block ∷ ws) s a = if_calm (nat_lt s.shared.steps bound) s (Arrives block (stepped s) ws) a.1
  next_calm bound (Back own ∷ ws) s a = returns_calm (pos 0) (Back own ∷ ws) s a
  next_calm bound (Pend frame command around ∷ ws) s a = tt
  next_calm bound (Given value frame command around ∷ ws) s a = goes_on_calm command a.0.0 frame ws a.1 s value
  next_calm bound (Leave ∷ ws) s a = tt
  next_calm bound (End frame ∷ ws) s a = tt
