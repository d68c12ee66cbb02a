-- Statements by their parts; where their first bytes are does not matter.
use Rattle.std.specs.Prelude.{ℕ, ℤ, List, Option}
use Rattle.ac_tree.specs.declared.expr.Expr.{Expr}
use Rattle.ac_tree.specs.declared.stmt.Stmt.TheOpen.{Stmt-F}
use Rattle.ac_resolve.specs.Commands.{Told, told_step}

abbrev pub print_told : List ℕ → List Expr → Told
print_told format args = told_step (Stmt-F.Print 0 format args)

abbrev pub int_told : List ℕ → Option Expr → Told
int_told name value = told_step (Stmt-F.Int 0 name value)

abbrev pub array_told : List ℕ → ℤ → Told
array_told name size = told_step (Stmt-F.Array 0 name size)

abbrev pub if_told : Expr → Told → Option Told → Told
if_told test body other = told_step (Stmt-F.If 0 test body other)

abbrev pub while_told : Expr → Told → Told
while_told test body = told_step (Stmt-F.While 0 test body)

abbrev pub for_told : Option Told → Option Expr → Option Told → Told → Told
for_told init test next body = told_step (Stmt-F.For 0 init test next body)

abbrev pub do_told : Option (List ℕ) → List Told → Told
do_told label body = told_step (Stmt-F.Do 0 label body)

abbrev pub async_told : Told → Told
async_told body = told_step (Stmt-F.Async 0 body)
