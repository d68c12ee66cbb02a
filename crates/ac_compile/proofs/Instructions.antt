-- What holds of each instruction of the code of a value, a command or a body: it holds of the code of the whole where it holds of that of
-- the parts, of what the whole does with them, and of each instruction that concerns neither another function nor another core.
-- One law for each form, for any property of instructions.
use Rattle.std.proofs.Common.{◌≡◌, ℕ, ◌+◌, List, [], ◌∷◌, ◌++◌, length, map, Option, Some, None, Bool, true, false, refl, sym, subst}
use Rattle.std.specs.Prelude.{ℤ, pos}
use Rattle.ac_tree.specs.declared.expr.UnaryOp.{UnaryOp}
use Rattle.ac_tree.specs.declared.expr.UnaryOp.TheVariants as u
use Rattle.ac_tree.specs.declared.expr.BinaryOp.{BinaryOp}
use Rattle.ac_tree.specs.declared.expr.BinaryOp.TheVariants as b
use Rattle.ac_names.specs.declared.meaning.Meaning.{Meaning}
use Rattle.ac_names.specs.declared.meaning.Meaning.TheVariants as m
use Rattle.ac_commands.specs.declared.value.Place.{Place}
use Rattle.ac_commands.specs.declared.value.Place.TheVariants as p
use Rattle.ac_commands.specs.declared.value.Action.{Action}
use Rattle.ac_commands.specs.declared.value.Array.{Array}
use Rattle.ac_commands.specs.declared.value.Array.TheVariants as a
use Rattle.ac_commands.specs.declared.value.Value.{Value}
use Rattle.ac_commands.specs.declared.value.Value.TheVariants as v
use Rattle.ac_commands.specs.declared.value.ValueLink.{ValueLink}
use Rattle.ac_commands.specs.declared.command.Target.{Target}
use Rattle.ac_commands.specs.declared.command.Target.TheVariants as t
use Rattle.ac_commands.specs.declared.command.Command.{Command}
use Rattle.ac_commands.specs.declared.command.Command.TheVariants as c
use Rattle.stack_code.specs.declared.instr.Instr.{Instr}
use Rattle.stack_code.specs.declared.instr.Instr.TheVariants as instr
use Rattle.code_meaning.specs.Alone.{is_alone}
use Rattle.ac_resolve.specs.Places.{place_of, name_argument}
use Rattle.ac_translation.specs.Pieces.{Exits, Piece, no_code, one, ◌⨾◌, over, out_past, out_turn, loop_exits, loop}
use Rattle.ac_translation.specs.Translation.{unary_code, operator_code, lazily, joined_code, chained_code, variable_code, array_code, action_code}
use Rattle.ac_translation.specs.Translation.{value_code, link_code, values_code, target_code, test_code}
use Rattle.ac_translation.specs.Translation.{at_loop, at_next, operand_code, command_code, body_code, last_code}
use Rattle.ac_compile.proofs.Forms.{number_form, variable_form, reference_form, element_form, part_form, unary_form, chain_form, act_form, link_form}
use Rattle.ac_compile.proofs.Forms.{nothing_form, set_form, clear_form, run_form, print_form}
use Rattle.ac_compile.proofs.Forms.{if_alone_form, if_else_form, while_form, for_form, break_form, continue_form, return_form, do_form, async_form, cancel_form, yield_form}

-- it neither calls a function nor has to do with another core
abbrev pub is_own : Instr → Bool
is_own (instr.Call function count) = false
is_own x = is_alone x

pub own_alone : (x : Instr) → is_own x ≡ true → is_alone x ≡ true
own_alone (instr.Call function count) e = refl
own_alone x e = e

module _ (P : Instr → Type 0) (own : (x : Instr) → is_own x ≡ true → P x) where
  -- ---- pieces

  abbrev pub Each : List Instr → Type 0
  Each [] = Unit {0}
  Each (x ∷ xs) = P x × Each xs

  each_append : (xs ys : List Instr) → Each xs → Each ys → Each (xs ++ ys)
  each_append [] ys p q = q
  each_append (x ∷ xs) ys p q = (p.0, each_append xs ys p.1 q)

  -- in each loop and at each address
  pub record Holds (p : Piece) : Type 0 where
    pub each : (exits : Exits) (place : ℕ) → Each (p.at exits place)

  pub none_holds : Holds no_code
  none_holds = record { each = λ exits place. tt }

  one_holds : (x : Instr) → P x → Holds (one x)
  one_holds x h = record { each = λ exits place. (h, tt) }

  alone_holds : (x : Instr) → is_own x ≡ true → Holds (one x)
  alone_holds x e = one_holds x (own x e)

  pub both_hold : (a b : Piece) → Holds a → Holds b → Holds (a ⨾ b)
  both_hold a b p q = record { each = λ exits place. each_append (a.at exits place) (b.at exits (place + a.size)) (p.each exits place) (q.each exits (place + a.size)) }

  after_one : (x : Instr) (b : Piece) → is_own x ≡ true → Holds b → Holds (one x ⨾ b)
  after_one x b e q = both_hold (one x) b (alone_holds x e) q

  then_one : (a : Piece) (x : Instr) → Holds a → is_own x ≡ true → Holds (a ⨾ one x)
  then_one a x p e = both_hold a (one x) p (alone_holds x e)

  over_holds : (jump : ℕ → Instr) (count : ℕ) → ((n : ℕ) → is_own (jump n) ≡ true) → Holds (over jump count)
  over_holds jump count e = record { each = λ exits place. (own (jump (place + 1 + count)) (e (place + 1 + count)), tt) }

  past_holds : Holds out_past
  past_holds = record { each = λ exits place. (own (instr.Jump exits.past) refl, tt) }

  turn_holds : Holds out_turn
  turn_holds = record { each = λ exits place. (own (instr.Jump exits.turn) refl, tt) }

  loop_holds : (turns : ℕ → ℕ → ℕ) (head body next : Piece) → Holds head → Holds body → Holds next → Holds (loop turns head body next)
  loop_holds turns head body next p q r = record {
    each = λ exits place.
        each_append (head.at exits place) _ (p.each exits place)
        (each_append (body.at (loop_exits turns place head body next) (place + head.size)) _ (q.each (loop_exits turns place head body next) (place + head.size))
        (each_append (next.at exits (place + (head.size + body.size))) _ (r.each exits (place + (head.size + body.size))) (own (instr.Jump place) refl, tt)));
  }

  as_form : (p q : Piece) → p ≡ q → Holds q → Holds p
  as_form p q e f = subst Holds (sym e) f

  stepped : (p : Piece) → Holds p → Holds (one instr.Step ⨾ p)
  stepped p h = after_one instr.Step p refl h

  -- ---- values

  unary_own : (op : UnaryOp) → is_own (unary_code op) ≡ true
  unary_own u.Neg = refl
  unary_own u.Not = refl
  unary_own u.Flip = refl

  lazily_holds : (jump : ℕ → Instr) (decided : Instr) (right : Piece) → ((n : ℕ) → is_own (jump n) ≡ true) → is_own decided ≡ true → Holds right → Holds (lazily jump decided right)
  lazily_holds jump decided right e f p =
      both_hold (over jump (right.size + 2)) _ (over_holds jump (right.size + 2) e)
      (both_hold right _ p (after_one instr.Bool _ refl (then_one (over instr.Jump 1) decided (over_holds instr.Jump 1 (λ n. refl)) f)))

  joined_holds : (op : BinaryOp) (right : Piece) → Holds right → Holds (joined_code op right)
  joined_holds b.Or right p = lazily_holds instr.Jnz (instr.Push (pos 1)) right (λ n. refl) refl p
  joined_holds b.And right p = lazily_holds instr.Jz (instr.Push (pos 0)) right (λ n. refl) refl p
  joined_holds op right p = then_one right (operator_code op) p refl

  variable_own : (place : Place) → is_own (variable_code place) ≡ true
  variable_own (p.Global slot) = refl
  variable_own (p.Local level slot) = refl

  array_own : (array : Array) → is_own (array_code array) ≡ true
  array_own (a.Global slot len) = refl
  array_own (a.Local level slot len) = refl
  array_own (a.Param level slot) = refl

  abbrev pub Values : Value → Type 0
  Values x = Holds (value_code x)

  abbrev pub Links : List ValueLink → Type 0
  Links ls = Holds (chained_code (map link_code ls))

  abbrev pub Targets : Target → Type 0
  Targets x = Holds (target_code x)

  pub number_holds : (n : ℤ) → Values (v.Number n)
  number_holds n = as_form _ _ (number_form n) (alone_holds (instr.Push n) refl)

  pub variable_holds : (place : Place) → Values (v.Variable place)
  variable_holds place = as_form _ _ (variable_form place) (alone_holds (variable_code place) (variable_own place))

  pub reference_holds : (array : Array) → Values (v.Reference array)
  reference_holds array = as_form _ _ (reference_form array) (alone_holds (array_code array) (array_own array))

  pub element_holds : (array : Array) (index : Value) → Values index → Values (v.Element array index)
  element_holds array index p = as_form _ _ (element_form array index) (after_one (array_code array) _ (array_own array) (then_one (value_code index) instr.Elem p refl))

  pub part_holds : (array : Array) (index : Value) → Values index → Values (v.Part array index)
  part_holds array index p = as_form _ _ (part_form array index) (after_one (array_code array) _ (array_own array) (then_one (value_code index) instr.Place p refl))

  pub unary_holds : (op : UnaryOp) (operand : Value) → Values operand → Values (v.Unary op operand)
  unary_holds op operand p = as_form _ _ (unary_form op operand) (then_one _ (unary_code op) p (unary_own op))

  pub no_link : Links []
  no_link = none_holds

  pub one_link : (l : ValueLink) (ls : List ValueLink) → Values l.operand → Links ls → Links (l ∷ ls)
  one_link l ls p q =
      both_hold _ _ (subst (λ (z : BinaryOp × Piece). Holds (joined_code z.0 z.1)) (sym (link_form l)) (joined_holds l.op _ p)) q

  pub chain_holds : (first : Value) (rest : List ValueLink) → Values first → Links rest → Values (v.Chain first rest)
  chain_holds first rest p q = as_form _ _ (chain_form first rest) (both_hold _ _ p q)

  -- an operation or a call, after its operands
  pub act_holds : (action : Action) (operands : List Value) → P (action_code action (length operands)) → Holds (values_code operands) → Values (v.Act action operands)
  act_holds action operands h p = as_form _ _ (act_form action operands) (both_hold _ _ p (one_holds _ h))

  pub operand_holds : (x : Value) → Values x → Holds (values_code (x ∷ []))
  operand_holds x p = both_hold (value_code x) no_code p none_holds

  -- a name as an argument
  pub argument_holds : (o : Option Meaning) (depth : ℕ) → Values (name_argument o depth)
  argument_holds (Some (m.GlobalArray slot len)) depth = reference_holds _
  argument_holds (Some (m.LocalArray there slot len)) depth = reference_holds _
  argument_holds (Some (m.ArrayParam slot)) depth = reference_holds _
  argument_holds (Some what) depth = variable_holds (place_of (Some what) depth)
  argument_holds None depth = variable_holds (place_of None depth)

  pub target_holds : (place : Place) → Targets (t.Variable place)
  target_holds (p.Global slot) = alone_holds (instr.StoreG slot) refl
  target_holds (p.Local level slot) = alone_holds (instr.Store level slot) refl

  pub put_holds : (array : Array) (index : Value) → Values index → Targets (t.Element array index)
  put_holds array index p = after_one (array_code array) _ (array_own array) (then_one (value_code index) instr.SetElem p refl)

  -- ---- commands

  -- each of the commands
  abbrev pub Bodies : List Command → Type 0
  Bodies [] = Unit {0}
  Bodies (x ∷ xs) = Holds (command_code x) × Bodies xs

  body_holds : (xs : List Command) → Bodies xs → Holds (body_code xs)
  body_holds [] h = none_holds
  body_holds (x ∷ xs) h = both_hold (command_code x) (body_code xs) h.0 (body_holds xs h.1)

  single : (x : Command) (p : Piece) → command_code x ≡ p → Holds p → Bodies (x ∷ [])
  single x p e h = (as_form _ p e h, tt)

  pub bodies_append : (xs ys : List Command) → Bodies xs → Bodies ys → Bodies (xs ++ ys)
  bodies_append [] ys p q = q
  bodies_append (x ∷ xs) ys p q = (p.0, bodies_append xs ys p.1 q)

  -- the operand of a `return`, where there is one
  abbrev pub Operands : Option Value → Type 0
  Operands None = Unit {0}
  Operands (Some x) = Values x

  operand_at : (x : Option Value) → Operands x → Holds (operand_code x)
  operand_at None h = alone_holds (instr.Push (pos 0)) refl
  operand_at (Some x) h = h

  tests : (x : Option Value) (count : ℕ) → Operands x → Holds (test_code x count)
  tests None count h = alone_holds instr.Step refl
  tests (Some x) count h = after_one instr.Step _ refl (both_hold _ (over instr.Jz count) h (over_holds instr.Jz count (λ n. refl)))

  pub nothing_holds : Bodies (c.Nothing ∷ [])
  nothing_holds = single c.Nothing _ nothing_form (alone_holds instr.Step refl)

  pub set_holds : (target : Target) (value : Value) → Values value → Targets target → Bodies (c.Set target value ∷ [])
  set_holds target value p q = single _ _ (set_form target value) (stepped _ (both_hold _ _ p q))

  pub clear_holds : (slot len : ℕ) → Bodies (c.Clear slot len ∷ [])
  clear_holds slot len = single _ _ (clear_form slot len) (stepped _ (alone_holds (instr.Clear slot len) refl))

  pub run_holds : (value : Value) → Values value → Bodies (c.Run value ∷ [])
  run_holds value p = single _ _ (run_form value) (stepped _ (then_one _ instr.Drop p refl))

  pub print_holds : (text : ℕ) (args : List Value) → Holds (values_code args) → Bodies (c.Print text args ∷ [])
  print_holds text args p = single _ _ (print_form text args) (stepped _ (then_one _ (instr.Print text (length args)) p refl))

  pub if_alone_holds : (test : Value) (body : List Command) → Values test → Bodies body → Bodies (c.If test body None ∷ [])
  if_alone_holds test body p q =
      single _ _ (if_alone_form test body)
      (stepped _ (both_hold _ _ p (both_hold (over instr.Jz (body_code body).size) _ (over_holds instr.Jz _ (λ n. refl)) (body_holds body q))))

  pub if_else_holds : (test : Value) (body other : List Command) → Values test → Bodies body → Bodies other → Bodies (c.If test body (Some other) ∷ [])
  if_else_holds test body other p q r =
      single _ _ (if_else_form test body other)
      (stepped _ (both_hold _ _ p
      (both_hold (over instr.Jz ((body_code body).size + 1)) _ (over_holds instr.Jz _ (λ n. refl))
      (both_hold _ _ (body_holds body q)
      (both_hold (over instr.Jump (body_code other).size) _ (over_holds instr.Jump _ (λ n. refl)) (body_holds other r))))))

  pub while_holds : (test : Value) (body : List Command) → Values test → Bodies body → Bodies (c.While test body ∷ [])
  while_holds test body p q = single _ _ (while_form test body) (loop_holds at_loop _ (body_code body) no_code (tests (Some test) _ p) (body_holds body q) none_holds)

  pub for_holds : (test : Option Value) (next body : List Command) → Operands test → Bodies next → Bodies body → Bodies (c.For test next body ∷ [])
  for_holds test next body p q r =
      single _ _ (for_form test next body) (loop_holds at_next _ (body_code body) (body_code next) (tests test _ p) (body_holds body r) (body_holds next q))

  pub break_holds : Bodies (c.Break ∷ [])
  break_holds = single c.Break _ break_form (stepped _ past_holds)

  pub continue_holds : Bodies (c.Continue ∷ [])
  continue_holds = single c.Continue _ continue_form (stepped _ turn_holds)

  pub return_holds : (value : Option Value) → Operands value → Bodies (c.Return value ∷ [])
  return_holds value p = single _ _ (return_form value) (stepped _ (then_one _ instr.Ret (operand_at value p) refl))

  pub do_holds : (slot : ℕ) (body : List Command) → Bodies body → Bodies (c.Do slot body ∷ [])
  do_holds slot body p =
      single _ _ (do_form slot body) (stepped _ (after_one (instr.Enter slot) _ refl (both_hold _ _ (body_holds body p) (stepped _ (alone_holds (instr.Finish slot) refl)))))

  pub async_holds : (slots : ℕ) (body : List Command) → Bodies body → Bodies (c.Async slots body ∷ [])
  async_holds slots body p =
      single _ _ (async_form slots body)
      (stepped _ (both_hold (over (instr.Async slots) ((body_code body).size + 1)) _ (over_holds (instr.Async slots) _ (λ n. refl)) (then_one _ instr.End (body_holds body p) refl)))

  pub cancel_holds : (level slot : ℕ) → P (instr.Cancel level slot) → Bodies (c.Cancel level slot ∷ [])
  cancel_holds level slot h = single _ _ (cancel_form level slot) (stepped _ (one_holds (instr.Cancel level slot) h))

  pub yield_holds : Bodies (c.Yield ∷ [])
  yield_holds = single c.Yield _ yield_form (stepped _ (alone_holds instr.Yield refl))

  -- ---- functions

  pub function_holds : (body : List Command) → Bodies body → Holds (body_code body ⨾ last_code)
  function_holds body p = both_hold (body_code body) last_code (body_holds body p) (after_one (instr.Push (pos 0)) _ refl (alone_holds instr.Ret refl))
