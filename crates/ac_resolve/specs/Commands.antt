-- Statements without their names. What a statement declares and the slots that it takes are those by which the rules are judged.
use Rattle.std.specs.Prelude.{ℕ, ◌+◌, List, [], ◌∷◌, ◌++◌, length, map, Option, None, Some, option_map}
use Rattle.ac_tree.specs.declared.stmt.Stmt.{Stmt}
use Rattle.ac_tree.specs.declared.stmt.Stmt.TheFolds.{fold-Stmt, map-Stmt}
use Rattle.ac_tree.specs.declared.stmt.Stmt.TheOpen.{Stmt-F}
use Rattle.ac_names.specs.declared.names.Names.{Names}
use Rattle.ac_names.specs.Scopes.{visible}
use Rattle.ac_names.specs.Statements.{Shape, shape_step, part_words, array_len, listed}
use Rattle.ac_names.specs.Statements.{some_words, some_listed, opened, moved, in_do, in_async}
use Rattle.ac_commands.specs.declared.value.Place.TheVariants as p
use Rattle.ac_commands.specs.declared.command.Target.TheVariants as t
use Rattle.ac_commands.specs.declared.command.Command.{Command}
use Rattle.ac_commands.specs.declared.command.Command.TheVariants as c
use Rattle.ac_resolve.specs.Places.{cancel_of}
use Rattle.ac_resolve.specs.Computed.{value_in, values_in, some_in, target_in, initial_in}

abbrev pub Texts : Type 0
Texts = List (List ℕ)

-- A statement: its shape, the texts after it by those before it, and its commands by the names round it, the number of async bodies
-- round it, and the texts before it. A block gives the commands of the statements in it, one after the other. A `for` gives those of
-- its first part, and then the loop. Any other statement gives one command.
pub record Told : Type 0 where
  pub shape : Shape
  pub texts : Texts → Texts
  pub commands : Names → ℕ → Texts → List Command

abbrev pub shape_of : Told → Shape
shape_of q = q.shape

abbrev pub shapes : List Told → List Shape
shapes qs = map shape_of qs

abbrev pub some_shape : Option Told → Option Shape
some_shape None = None
some_shape (Some q) = Some q.shape

abbrev pub all_texts : List Told → Texts → Texts
all_texts [] texts = texts
all_texts (q ∷ qs) texts = all_texts qs (q.texts texts)

abbrev pub commands : List Told → Names → ℕ → Texts → List Command
commands [] n depth texts = []
commands (q ∷ qs) n depth texts = q.commands n depth texts ++ commands qs (listed q.shape depth n) depth (q.texts texts)

-- a part that may be left out
abbrev pub some_texts : Option Told → Texts → Texts
some_texts None texts = texts
some_texts (Some q) texts = q.texts texts

abbrev pub some_commands : Option Told → Names → ℕ → Texts → List Command
some_commands None n depth texts = []
some_commands (Some q) n depth texts = q.commands n depth texts

-- an `else` without commands is still one
abbrev pub other_commands : Option Told → Names → ℕ → Texts → Option (List Command)
other_commands None n depth texts = None
other_commands (Some q) n depth texts = Some (q.commands n depth texts)

-- the texts of a whole statement are numbered in the order of the text
abbrev pub texts_step : Stmt-F Told → Texts → Texts
texts_step (Stmt-F.Block at body) texts = all_texts body texts
texts_step (Stmt-F.Print at format args) texts = texts ++ format ∷ []
texts_step (Stmt-F.If at test body other) texts = some_texts other (body.texts texts)
texts_step (Stmt-F.While at test body) texts = body.texts texts
texts_step (Stmt-F.For at init test next body) texts = body.texts (some_texts next (some_texts init texts))
texts_step (Stmt-F.Do at label body) texts = all_texts body texts
texts_step (Stmt-F.Async at body) texts = body.texts texts
texts_step _ texts = texts

-- the names in a `for` whose first part declares
abbrev pub for_names : Option Told → ℕ → Names → Names
for_names init depth n = some_listed (some_shape init) depth (opened n)

abbrev pub commands_step : Stmt-F Told → Names → ℕ → Texts → List Command
commands_step (Stmt-F.Block at body) n depth texts = commands body (opened n) depth texts
commands_step (Stmt-F.Empty at) n depth texts = c.Nothing ∷ []
commands_step (Stmt-F.Int at name value) n depth texts = c.Set (t.Variable (p.Local 0 n.slot)) (initial_in value n.scopes depth) ∷ []
commands_step (Stmt-F.Array at name size) n depth texts = c.Clear n.slot (array_len size) ∷ []
commands_step (Stmt-F.Assign at place value) n depth texts = c.Set (target_in place n.scopes depth) (value_in value n.scopes depth) ∷ []
commands_step (Stmt-F.Call at call) n depth texts = c.Run (value_in call n.scopes depth) ∷ []
commands_step (Stmt-F.Print at format args) n depth texts = c.Print (length texts) (values_in args n.scopes depth) ∷ []
commands_step (Stmt-F.If at test body other) n depth texts =
    c.If (value_in test n.scopes depth) (body.commands n depth texts)
    (other_commands other (moved n (part_words body.shape)) depth (body.texts texts)) ∷ []
commands_step (Stmt-F.While at test body) n depth texts = c.While (value_in test n.scopes depth) (body.commands n depth texts) ∷ []
commands_step (Stmt-F.For at init test next body) n depth texts =
    some_commands init (opened n) depth texts
    ++ c.For (some_in test (for_names init depth n).scopes depth)
    (some_commands next (for_names init depth n) depth (some_texts init texts))
    (body.commands (moved (for_names init depth n) (some_words (some_shape next))) depth (some_texts next (some_texts init texts)))
    ∷ []
commands_step (Stmt-F.Break at) n depth texts = c.Break ∷ []
commands_step (Stmt-F.Continue at) n depth texts = c.Continue ∷ []
commands_step (Stmt-F.Return at value) n depth texts = c.Return (some_in value n.scopes depth) ∷ []
commands_step (Stmt-F.Do at label body) n depth texts = c.Do n.slot (commands body (opened (in_do label depth n)) depth texts) ∷ []
commands_step (Stmt-F.Async at body) n depth texts = c.Async (part_words body.shape) (body.commands (in_async n) (depth + 1) texts) ∷ []
commands_step (Stmt-F.Cancel at label) n depth texts = cancel_of (visible label n.labels) depth ∷ []
commands_step (Stmt-F.Yield at) n depth texts = c.Yield ∷ []

abbrev pub told_step : Stmt-F Told → Told
told_step x = record { shape = shape_step (map-Stmt Told Shape shape_of x); texts = texts_step x; commands = commands_step x }

abbrev pub told : Stmt → Told
told = fold-Stmt Told told_step

abbrev pub some_told : Option Stmt → Option Told
some_told x = option_map told x

abbrev pub body_told : List Stmt → List Told
body_told body = map told body
