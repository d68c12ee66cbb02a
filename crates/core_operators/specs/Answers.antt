-- What storing an answer asks for.
use Rattle.work_item.specs.Store.{Store}
use Rattle.work_item.specs.Conditions.{HomeLives}
use Rattle.cancel_scope.specs.declared.operation.Asked.{Asked}
use Rattle.cancel_scope.specs.declared.operation.Asked.TheVariants as asked

-- what is read goes into the globals, or into a frame that lives
abbrev pub ReadsIntoLiving : Store → Asked → Type 0
ReadsIntoLiving s (asked.Read file from into) = HomeLives s into.home
ReadsIntoLiving s _ = Unit {0}
