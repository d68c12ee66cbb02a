use Rattle.std.proofs.Common.{◌≡◌, List, map}
use Rattle.work_item.specs.declared.cell.Cell.{Cell}
use Rattle.work_item.specs.Store.{int_in, cleared}
use Rattle.work_item.proofs.words.clear_words.Given as goal

abbrev pub invariant-loop-index : goal.invariant-loop-index
invariant-loop-index l = (cells : List Cell) → l.fn.words ≡ map int_in cells → l.words ≡ map int_in (cleared l.start l.index cells)
