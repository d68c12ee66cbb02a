-- What a thread has still to do: how many calls and operations of statements that have begun, and that no other statement has too many.
-- By induction on the work: statements put before it have not begun and count nothing; what is left out only lowers the count.
use Rattle.std.proofs.Common.{◌≡◌, ℕ, zero, suc, ◌+◌, ◌≤◌, max, List, [], ◌∷◌, map, Option, Some, None, refl, sym, ap, subst, arith}
use Rattle.std.specs.Prelude.{slice_get}
use Rattle.std.specs.List.{AllByRecursion}
use Rattle.std.proofs.Math.Nat.{le-max_left, le-max_right}
use Rattle.work_item.specs.declared.ids.FrameId.{FrameId}
use Rattle.work_item.specs.declared.cell.Cell.{Cell}
use Rattle.ac_commands.specs.declared.value.Value.{Value}
use Rattle.ac_commands.specs.declared.command.Command.{Command, map-Command, out-Command, fold_out-Command}
use Rattle.ac_commands.specs.declared.command.Command.TheOpen.{Command-F}
use Rattle.ac_commands.specs.declared.program.Function.{Function}
use Rattle.ac_semantics.specs.Work.{Work, Do, Pend, Given, CallOff, Turn, Close, Back, Leave, End, before, next_in, next_part, ahead, past_loop, at_turn, given}
use Rattle.ac_semantics.specs.Statements.{operands_of, some_body}
use Rattle.journal_bounds.specs.Actions.{greatest, actions_of, most_within, command_step, most_in, most_of, most_in_function}
use Rattle.journal_bounds.proofs.Expressions.{around_actions}

-- ---- statements by their form

abbrev pub counts_in : Command-F Command → Command-F ℕ
counts_in x = map-Command Command ℕ most_in x

most_by_form : (c : Command) → most_in c ≡ command_step (counts_in (out-Command c))
most_by_form c = fold_out-Command ℕ command_step c

same_operands : (x : Command-F Command) → operands_of (counts_in x) ≡ operands_of x
same_operands (Command-F.Set target value) = refl
same_operands (Command-F.For test next body) = refl
same_operands (Command-F.If test body other) = refl
same_operands (Command-F.While test body) = refl
same_operands x = refl

pub own_few : (c : Command) → actions_of (operands_of (out-Command c)) ≤ most_in c
own_few c =
    let x = out-Command c in
    let e = most_by_form c in
    let o : actions_of (operands_of (counts_in x)) ≡ actions_of (operands_of x) = ap actions_of (same_operands x) in
    let m : actions_of (operands_of (counts_in x)) ≤ command_step (counts_in x) = le-max_left (actions_of (operands_of (counts_in x))) (most_within (counts_in x)) in
    omega arith

pub inner_few : (c : Command) → most_within (counts_in (out-Command c)) ≤ most_in c
inner_few c =
    let x = out-Command c in
    let e = most_by_form c in
    let m : most_within (counts_in x) ≤ command_step (counts_in x) = le-max_right (actions_of (operands_of (counts_in x))) (most_within (counts_in x)) in
    omega arith

pub some_few : (other : Option (List Command)) (x : Command-F Command) (test : Value) (body : List Command) → x ≡ Command-F.If test body other → most_of (some_body other) ≤ most_within (counts_in x)
some_few None x test body e = omega arith
some_few (Some other) x test body e =
    let m : most_of other ≤ max (most_of body) (most_of other) = le-max_right (most_of body) (most_of other) in
    subst (λ y. most_of other ≤ most_within (counts_in y)) (sym e) m

-- the bodies of functions
pub body_few : (fs : List Function) (k : ℕ) (f : Function) → slice_get fs k ≡ Some f → most_of f.body ≤ greatest (map most_in_function fs)
body_few [] k f is = cc
body_few (x ∷ fs) zero f is =
    let e : x ≡ f = cc in
    subst (λ y. most_of y.body ≤ greatest (map most_in_function (x ∷ fs))) e (le-max_left (most_in_function x) (greatest (map most_in_function fs)))
body_few (x ∷ fs) (suc k) f is =
    let ih = body_few fs k f is in
    let m = le-max_right (most_in_function x) (greatest (map most_in_function fs)) in
    omega arith

-- ---- work

-- the calls and operations that are to come in statements that wait or go on
abbrev pub work_actions : Work → ℕ
work_actions (Do frame command) = 0
work_actions (Pend frame command around) = around_actions around
work_actions (Given value frame command around) = around_actions around
work_actions (CallOff frame level slot) = 0
work_actions (Turn frame loop) = 0
work_actions (Close block) = 0
work_actions (Back frame) = 0
work_actions Leave = 0
work_actions (End frame) = 0

abbrev pub works_actions : List Work → ℕ
works_actions [] = 0
works_actions (x ∷ ws) = work_actions x + works_actions ws

module _ (w : ℕ) where
  -- no statement in it has more than w
  abbrev pub IsFew : Work → Type 0
  IsFew (Do frame command) = most_in command ≤ w
  IsFew (Pend frame command around) = most_in command ≤ w
  IsFew (Given value frame command around) = most_in command ≤ w
  IsFew (CallOff frame level slot) = Unit {0}
  IsFew (Turn frame loop) = most_in loop ≤ w
  IsFew (Close block) = Unit {0}
  IsFew (Back frame) = Unit {0}
  IsFew Leave = Unit {0}
  IsFew (End frame) = Unit {0}

  abbrev pub AreFew : List Work → Type 0
  AreFew = AllByRecursion IsFew

  pub before_few : (frame : FrameId) (body : List Command) (ws : List Work) → most_of body ≤ w → AreFew ws → AreFew (before frame body ws)
  before_few frame [] ws h a = a
  before_few frame (c ∷ body) ws h a =
      let m = le-max_left (most_in c) (most_of body) in
      let n = le-max_right (most_in c) (most_of body) in
      (omega arith, before_few frame body ws (omega arith) a)

  pub past_few : (ws : List Work) → AreFew ws → AreFew (past_loop ws)
  past_few [] a = tt
  past_few (Turn frame loop ∷ ws) a = a.1
  past_few (_ ∷ ws) a = past_few ws a.1

  pub turn_few : (ws : List Work) → AreFew ws → AreFew (at_turn ws)
  turn_few [] a = tt
  turn_few (Turn frame loop ∷ ws) a = a
  turn_few (_ ∷ ws) a = turn_few ws a.1

  pub given_few : (value : Cell) (ws : List Work) → AreFew ws → AreFew (given value ws)
  given_few value [] a = a
  given_few value (Pend frame command around ∷ ws) a = a
  given_few value (x ∷ ws) a = a

  next_few : (x : Command-F Command) → most_of (next_in x) ≤ most_within (counts_in x)
  next_few (Command-F.For test next body) = le-max_left (most_of next) (most_of body)
  next_few x = omega arith

  pub ahead_few : (ws : List Work) → AreFew ws → AreFew (ahead ws)
  ahead_few [] a = a
  ahead_few (Turn frame loop ∷ ws) a =
      let h = a.0 in
      let n = next_few (out-Command loop) in
      let m = inner_few loop in
      before_few frame (next_part loop) (Do frame loop ∷ ws) (omega arith) a
  ahead_few (x ∷ ws) a = a

-- ---- what is left to come

pub before_actions : (frame : FrameId) (body : List Command) (ws : List Work) → works_actions (before frame body ws) ≡ works_actions ws
before_actions frame [] ws = refl
before_actions frame (c ∷ body) ws = let ih = before_actions frame body ws in omega arith

pub past_actions : (ws : List Work) → works_actions (past_loop ws) ≤ works_actions ws
past_actions [] = omega arith
past_actions (Turn frame loop ∷ ws) = omega arith
past_actions (x ∷ ws) = let ih = past_actions ws in omega arith

pub turn_actions : (ws : List Work) → works_actions (at_turn ws) ≤ works_actions ws
turn_actions [] = omega arith
turn_actions (Turn frame loop ∷ ws) = omega arith
turn_actions (x ∷ ws) = let ih = turn_actions ws in omega arith

pub given_actions : (value : Cell) (ws : List Work) → works_actions (given value ws) ≡ works_actions ws
given_actions value [] = refl
given_actions value (Pend frame command around ∷ ws) = refl
given_actions value (x ∷ ws) = refl

pub ahead_actions : (ws : List Work) → works_actions (ahead ws) ≡ works_actions ws
ahead_actions [] = refl
ahead_actions (Turn frame loop ∷ ws) = before_actions frame (next_part loop) (Do frame loop ∷ ws)
ahead_actions (x ∷ ws) = refl
