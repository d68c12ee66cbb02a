-- What the interpreter keeps of the work of threads and answers to a step, as the meaning has it.
-- Three items of work and what stands behind the first; then answers to a step in a core whose thread stands at a cancel.
use Rattle.std.proofs.Common.{◌≡◌, List, [], ◌∷◌, refl}
use Rattle.ac_base.specs.declared.ends.EndWord.TheVariants.{Finished}
use Rattle.work_item.specs.declared.ids.BlockId.{BlockId}
use Rattle.work_item.specs.declared.ids.FrameId.{FrameId}
use Rattle.ac_semantics.specs.Held.{Held}
use Rattle.ac_semantics.specs.Statements as s
use Rattle.ac_semantics.specs.Work as w
use Rattle.interpreter_steps.specs.declared.statements.Next.TheVariants as n
use Rattle.interpreter_steps.specs.declared.work.Work.TheVariants as k
use Rattle.interpreter_steps.specs.Works.{work_of, past_first}
use Rattle.interpreter_steps.specs.Nexts.{next_with}

abbrev block : BlockId
block = record { number = 3 }

abbrev frame : FrameId
frame = record { number = 1 }

-- ---- work

pub a_block_is_closed : work_of (k.Close block) ≡ w.Close block
a_block_is_closed = refl

pub a_cancel_goes_on : work_of (k.CallOff frame 2 0) ≡ w.CallOff frame 2 0
a_cancel_goes_on = refl

pub a_call_goes_back : work_of (k.Back frame) ≡ w.Back frame
a_call_goes_back = refl

-- ---- what a step comes to, in a core that holds this, where a cancel and then the end of the core's entry are to come

abbrev to_come : List w.Work
to_come = w.CallOff frame 2 0 ∷ w.Leave ∷ []

pub behind_the_first : past_first to_come ≡ w.Leave ∷ []
behind_the_first = refl

pub behind_none : past_first [] ≡ []
behind_none = refl

module _ (held : Held) where
  pub it_goes_on : next_with n.Goes held to_come ≡ s.Goes held to_come
  it_goes_on = refl

  pub the_core_has_finished : next_with (n.Ends Finished) held to_come ≡ s.Ends Finished held
  the_core_has_finished = refl

  pub it_arrives_at_a_finish : next_with (n.Arrives block) held to_come ≡ s.Arrives block held to_come
  it_arrives_at_a_finish = refl

  -- the thread stays at its cancel
  pub it_cancels_a_block : next_with (n.Cancels block) held to_come ≡ s.Cancels block held to_come (w.Leave ∷ [])
  it_cancels_a_block = refl
