-- What the interpreter's parts of pending statements stand for.
use Rattle.std.specs.Prelude.{◌≡◌, List, [], ◌∷◌, reverse}
use Rattle.ac_commands.specs.declared.value.Value.{Value}
use Rattle.ac_semantics.specs.Evaluation as s
use Rattle.ac_semantics.specs.Statements.{target_operands}
use Rattle.interpreter_steps.specs.declared.pending.Head.{Head}
use Rattle.interpreter_steps.specs.declared.pending.Head.TheVariants as h
use Rattle.interpreter_steps.specs.declared.pending.Rest.{Rest}
use Rattle.interpreter_steps.specs.declared.pending.Rest.TheVariants as r
use Rattle.interpreter_steps.specs.declared.pending.Context.{Context}
use Rattle.interpreter_steps.specs.declared.pending.Context.TheVariants as c
use Rattle.interpreter_steps.specs.declared.pending.Evaluated.{Evaluated}
use Rattle.interpreter_steps.specs.declared.pending.Evaluated.TheVariants as o

abbrev pub head_of : Head → s.Head
head_of (h.Acting action) = s.Acting action
head_of h.Ending = s.Ending

abbrev pub rest_of : Rest → List Value
rest_of r.Nothing = []
rest_of (r.Values values) = values.now
rest_of (r.One value) = value.now ∷ []
rest_of (r.Target target) = target_operands target.now
rest_of (r.Into value target) = value.now ∷ target_operands target.now

abbrev pub context_of : Context → s.Context
context_of (c.ElementAt place) = s.ElementAt place
context_of (c.PartAt place) = s.PartAt place
context_of (c.Operand op) = s.Operand op
context_of (c.First links) = s.First links.now
context_of (c.Right x op links) = s.Right x op links.now
context_of (c.Operands head done rest) = s.Operands (head_of head) (reverse done.items) (rest_of rest)

-- what it comes to, with what is round the open place at a stop; a value leaves what was round it before
abbrev pub IsOutcome : Evaluated → List s.Context → List s.Context → s.Evaluated → Type 0
IsOutcome (o.Comes x) left around out = (around ≡ left) × (out ≡ s.Comes x)
IsOutcome (o.Traps trap) left around out = out ≡ s.Traps trap
IsOutcome (o.Stops head operands) left around out = out ≡ s.Stops (head_of head) (reverse operands.items) around

abbrev pub outcome_of : Evaluated → List s.Context → s.Evaluated
outcome_of (o.Comes x) around = s.Comes x
outcome_of (o.Traps trap) around = s.Traps trap
outcome_of (o.Stops head operands) around = s.Stops (head_of head) (reverse operands.items) around
