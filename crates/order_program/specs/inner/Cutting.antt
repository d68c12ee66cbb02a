-- What is told of the cores of a run at a cut, by the code of its program.
use Rattle.std.specs.Prelude.{◌≡◌, ℕ, List}
use Rattle.ac_base.specs.declared.ends.CoreEnd.{CoreEnd}
use Rattle.ac_causal.specs.Run.{CausalRun}
use Rattle.ac_causal.specs.States.{AreStates}
use Rattle.ac_compile.specs.Compiled.{IsCodeOf}
use Rattle.ac_resolve.specs.Resolution.{resolved}
use Rattle.ac_translation.specs.Same.{IsSame}
use Rattle.ac_tree.specs.declared.item.Program.{Program}
use Rattle.stack_code.specs.Parts.{Parts}
use Rattle.order_program.specs.Asking.{IsDueOfCut}
use Rattle.order_program.specs.Lines.{states_text}
use Rattle.order_program.specs.declared.told.Told.{Told}

-- of a closed cut the lines of the ends to which the cores come, whatever program has this code
pub record IsDueOfClosed (code : Parts) (run : CausalRun) (counts : List ℕ) (told : Told) : Type 0 where
  pub ends : List CoreEnd
  pub status : told.status.number ≡ 0
  pub text_is : told.text ≡ states_text code.names ends
  pub are_states : (program : Program) → IsCodeOf program code → IsSame code (resolved program)
      → AreStates (resolved program) run.steps run.entries counts ends

-- what is due of the counts, whatever program has this code
abbrev pub IsDueOfCounts : Parts → CausalRun → List ℕ → Told → Type 0
IsDueOfCounts code run counts told = (program : Program) → IsCodeOf program code → IsSame code (resolved program)
    → IsDueOfCut program run.steps run.entries counts told.status.number told.text
