-- What a move of the running thread comes to under a journal, by what its next step is.
-- The interpreter makes the step without a journal and then moves its core; here that is the meaning's move, for a cancel, a step without a
-- meaning, and any other.
use Rattle.std.proofs.Common.{◌≡◌, ℕ, List, [], refl, sym, ap, ◌∙◌, subst}
use Rattle.std.specs.Prelude.{Some, Bool, true, false, Result, Ok, Err, IfOk, OnOk, MatchBool}
use Rattle.ac_base.specs.declared.entry.Entry.{Entry}
use Rattle.ac_base.specs.declared.memory.NoMemory.{NoMemory}
use Rattle.work_item.specs.declared.ids.BlockId.{BlockId}
use Rattle.work_item.specs.declared.ids.Item.{Item}
use Rattle.cancel_scope.specs.declared.operation.Asked.{Asked}
use Rattle.core_state.specs.Moves.{On}
use Rattle.ac_commands.specs.declared.program.Resolved.{Resolved}
use Rattle.ac_semantics.specs.Held.{Held, any_marked}
use Rattle.ac_semantics.specs.Work as w
use Rattle.ac_semantics.specs.Statements as s
use Rattle.ac_semantics.specs.Threads.{CoreState, thread_at, none_within, path, arrives, operates, applied, calls_off, step}
use Rattle.interpreter_steps.specs.declared.statements.Next.{Next}
use Rattle.interpreter_steps.specs.declared.statements.Next.TheVariants as n
use Rattle.ac_interpreter.specs.declared.turns.Came.{Came}
use Rattle.ac_interpreter.specs.declared.running.InterpretedCore.{InterpretedCore}
use Rattle.interpreter_state.specs.Operations.{asked_of}
use Rattle.interpreter_steps.specs.Works.{past_first}
use Rattle.interpreter_steps.specs.Nexts.{next_with}
use Rattle.ac_interpreter.specs.inner.Plain.{IsPlain}
use Rattle.ac_interpreter.specs.inner.Under.{held_under, core_under, move_under, IsMoved}
use Rattle.ac_interpreter.proofs.Growing.{Moved}
use Rattle.ac_interpreter.proofs.Journals.{next_under, applied_too, runs_under}

-- the same move, told in another way
pub moved_as : (m m' : Moved) (past todo : List Entry) (after : InterpretedCore) (r : Result Came NoMemory) → m' ≡ m → IfOk r (λ now. IsMoved now past todo m after)
    → IfOk r (λ now. IsMoved now past todo m' after)
moved_as m m' past todo after r e h = subst (λ (x : Moved). IfOk r (λ now. IsMoved now past todo x after)) (sym e) h

-- a core stays whose running thread has nothing to do that has a meaning
pub stays_under : (program : Resolved) (bound : ℕ) (past todo : List Entry) (c : CoreState) (t : Item) → c.running ≡ Some t → s.next_of program bound c.work c.held ≡ s.Stays
    → step program bound (core_under past todo c) ≡ On (core_under past todo c)
stays_under program bound past todo c t runs is = runs_under program bound past todo c t s.Stays runs is

-- it has a meaning, and is no cancel
pub is_plain : (next : Next) → ((block : BlockId) → next ≡ n.Cancels block → ⊥) → (next ≡ n.Stays → ⊥) → IsPlain next
is_plain (n.Cancels block) cancels stays = absurd (cancels block refl)
is_plain n.Stays cancels stays = absurd (stays refl)
is_plain next cancels stays = tt

module _ (program : Resolved) (bound : ℕ) (past todo : List Entry) (c : CoreState) (t : Item) (runs : c.running ≡ Some t) (next : Next) (h : Held) (ws : List w.Work)
    (is : next_with next h ws ≡ s.next_of program bound c.work c.held) where
  -- the thread does this
  does : step program bound (core_under past todo c) ≡ applied (core_under past todo c) t (next_under past todo (next_with next h ws))
  does = runs_under program bound past todo c t (next_with next h ws) runs (sym is)

  pub cancels_here : (block : BlockId) → next ≡ n.Cancels block → step program bound (core_under past todo c) ≡ calls_off (core_under past todo c) block (held_under past todo h) ws (past_first ws)
  cancels_here block e = does ∙ ap (λ (x : Next). applied (core_under past todo c) t (next_under past todo (next_with x h ws))) e

  -- the core that has gone as far
  abbrev pub gone : CoreState
  gone = record c { held = held_under [] [] h; work = ws }

  arrives_gone : (passes : Bool) (block : BlockId) → arrives passes (core_under [] [] c) t block (held_under [] [] h) ws ≡ arrives passes gone t block (held_under [] [] h) ws
  arrives_gone true block = refl
  arrives_gone false block = refl

  operates_gone : (marked : Bool) (link : ℕ) (asked : Asked) → operates marked (core_under [] [] c) t link asked (held_under [] [] h) ws ≡ operates marked gone t link asked (held_under [] [] h) ws
  operates_gone true link asked = refl
  operates_gone false link asked = refl

  applied_plain : (x : Next) → IsPlain x → applied (core_under past todo c) t (next_under past todo (next_with x h ws)) ≡ move_under past todo (applied gone t (next_with x (held_under [] [] h) ws))
  applied_plain (n.Cancels block) plain = absurd plain
  applied_plain n.Stays plain = absurd plain
  applied_plain (n.Arrives block) plain = applied_too past todo c t (s.Arrives block h ws) tt ∙ ap (λ (x : CoreState). On (core_under past todo x)) (arrives_gone (none_within block c.threads) block)
  applied_plain (n.Operates link asked) plain =
      applied_too past todo c t (s.Operates link (asked_of asked) h ws) tt
      ∙ ap (λ (x : CoreState). On (core_under past todo x)) (operates_gone (any_marked h.marks (path ws (thread_at c.threads t))) link (asked_of asked))
  applied_plain x plain = applied_too past todo c t (next_with x h ws) tt

  pub plain_here : IsPlain next → step program bound (core_under past todo c) ≡ move_under past todo (applied gone t (next_with next (held_under [] [] h) ws))
  plain_here plain = does ∙ applied_plain next plain

pub on_ok : {A E : Type 0} (r : Result A E) (P Q : Type 0) → OnOk r P → (P → Q) → OnOk r Q
on_ok (Ok x) P Q h f = f h
on_ok (Err e) P Q h f = tt

pub if_ok : {A E : Type 0} (r : Result A E) (P Q : A → Type 0) → IfOk r P → ((x : A) → P x → Q x) → IfOk r Q
if_ok (Ok x) P Q h f = f x h
if_ok (Err e) P Q h f = tt

pub if_true : (P Q : Type 0) (b : Bool) → b ≡ true → MatchBool b P Q → P
if_true P Q true e h = h
if_true P Q false e h = let no : false ≡ true = e in cc

pub if_false : (P Q : Type 0) (b : Bool) → b ≡ false → MatchBool b P Q → Q
if_false P Q true e h = let no : true ≡ false = e in cc
if_false P Q false e h = h
