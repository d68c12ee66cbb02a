-- The frame with which a core begins.
use Rattle.std.specs.Prelude.{◌≡◌, ℕ, Option, Some, None, true, false, replicate}
use Rattle.ac_base.specs.declared.ends.Trap.TheVariants.{StackFull}
use Rattle.work_item.specs.Store.{Store, made, no_int}
use Rattle.core_state.specs.Frames.{has_words}
use Rattle.core_machine.specs.declared.ending.Ending.{Ending}
use Rattle.core_machine.specs.declared.ending.Ending.TheVariants.{Trapped}

-- it is made where there is room for it; where there is none, nothing has changed
abbrev pub HasBegun : Store → Store → ℕ → Option Ending → Type 0
HasBegun before after words None = (has_words before words ≡ true) × (after ≡ made before None (replicate words no_int))
HasBegun before after words (Some ending) = (has_words before words ≡ false) × (after ≡ before) × (ending ≡ Trapped StackFull)
