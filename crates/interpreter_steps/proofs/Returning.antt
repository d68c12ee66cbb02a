-- What the innermost call comes to, by what the thread has first.
-- For the loop of `return_value`, which passes over the rest of the call: behind it is a caller that waits, the entry of the core, or
-- nothing, each as `returns` has it.
use Rattle.std.proofs.Common.{◌≡◌, List, [], ◌∷◌, sym, ap, ◌∙◌}
use Rattle.std.specs.Prelude.{Result, Ok, Err, IfOk}
use Rattle.ac_base.specs.declared.memory.NoMemory.{NoMemory}
use Rattle.ac_base.specs.declared.ends.EndWord.TheVariants as word
use Rattle.work_item.specs.declared.ids.FrameId.{FrameId}
use Rattle.work_item.specs.declared.cell.Cell.{Cell}
use Rattle.work_item.specs.declared.cell.Cell.TheVariants as cell
use Rattle.work_item.specs.Store.{int_in, released}
use Rattle.ac_semantics.specs.Held.{Held, with_store}
use Rattle.ac_semantics.specs.Work as w
use Rattle.ac_semantics.specs.Statements.{Next, Goes, Ends, Stays, returns}
use Rattle.interpreter_steps.specs.declared.work.Work.{Work}
use Rattle.interpreter_steps.specs.declared.work.Work.TheVariants as k
use Rattle.interpreter_steps.specs.declared.statements.Next as n
use Rattle.interpreter_steps.specs.Works.{work_of}
use Rattle.interpreter_steps.specs.Nexts.{next_with}

module _ (value : Cell) (top : Work) (work left whole : List w.Work) (h : Held) (all : Next) (is : work ≡ work_of top ∷ left) (same : returns (int_in value) work h ≡ all) where
  pub by_call : (own : FrameId) (result : Result n.Next NoMemory) (after : Held) (rest : List w.Work) → value ≡ cell.Int (int_in value) → top ≡ k.Back own
      → IfOk result (λ x. next_with x after rest ≡ Goes (with_store h (released h.store own)) (w.given value left)) → IfOk result (λ x. next_with x after rest ≡ all)
  by_call own (Err e) after rest v t r = tt
  by_call own (Ok x) after rest v t r =
      r ∙ ap (λ c. Goes (with_store h (released h.store own)) (w.given c left)) v
      ∙ sym (ap (λ ws. returns (int_in value) ws h) (is ∙ ap (λ y. work_of y ∷ left) t)) ∙ same

  pub by_entry : top ≡ k.Leave → Ends word.Finished h ≡ all
  by_entry t = sym (ap (λ ws. returns (int_in value) ws h) (is ∙ ap (λ y. work_of y ∷ left) t)) ∙ same

pub by_none : (value : Cell) (work : List w.Work) (h : Held) (all : Next) → work ≡ [] → returns (int_in value) work h ≡ all → Stays ≡ all
by_none value work h all is same = sym (ap (λ ws. returns (int_in value) ws h) is) ∙ same
