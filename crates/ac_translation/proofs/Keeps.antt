-- What a move of the source wants of the machine, and one instruction of it.
-- `FollowsAt` and `KeepsAt` say that the machine, wherever the code of some work stands, comes to what the source comes to; the second also
-- where it need not move. Then one law for each way in which an instruction takes part: it computes, traps, jumps, or changes the machine.
use Rattle.std.proofs.Common.{◌≡◌, ℕ, ◌+◌, List, [], ◌++◌, Option, Some, refl, sym, ap, ◌∙◌, subst}
use Rattle.std.specs.Prelude.{slice_get, Result, Ok, Err}
use Rattle.ac_base.specs.declared.ends.Trap.{Trap}
use Rattle.ac_base.specs.declared.ends.CoreEnd.{CoreEnd}
use Rattle.work_item.specs.declared.ids.FrameId.{FrameId}
use Rattle.work_item.specs.declared.ids.Item.{Item}
use Rattle.work_item.specs.declared.ids.BlockId.{BlockId}
use Rattle.work_item.specs.declared.cell.Cell.{Cell}
use Rattle.core_state.specs.Moves.{On, Over}
use Rattle.core_state.proofs.Simulation.{Leads, one, then_on, over_at, Follows, follows_on, follows_over, Reaches, follows, reaches_later}
use Rattle.ac_semantics.specs.Held.{Held}
use Rattle.ac_semantics.specs.Statements.{Next, Stays, or_trap}
use Rattle.ac_semantics.specs.Threads.{CoreState, applied}
use Rattle.stack_code.specs.declared.instr.Instr.{Instr}
use Rattle.stack_code.specs.declared.instr.Instr.TheVariants as i
use Rattle.stack_code.specs.Parts.{Parts}
use Rattle.code_meaning.specs.Machine.{Caller, Thread, Block, Flat, counted, ends, or_trap as or_end, begin, exec}
use Rattle.ac_translation.specs.Pieces.{Exits, one as one_code}
use Rattle.ac_translation.proofs.Tables.{first}
use Rattle.ac_translation.proofs.Placed.{Placed, Jumps, here, jump}

-- the innermost activation of a thread: its frame and its callers; the blocks that the thread has entered and not left, and those round the
-- place where it was started, the innermost first
pub record Activation : Type 0 where
  pub frame : FrameId
  pub callers : List Caller
  pub entered : List BlockId
  pub around : List BlockId

-- the same thread in another activation
abbrev pub called : Activation → FrameId → List Caller → Activation
called x frame callers = record x { frame = frame; callers = callers }

-- the same where it has entered these blocks
abbrev pub within : Activation → List BlockId → Activation
within x entered = record x { entered = entered }

-- a thread that is started there in a frame of its own
abbrev pub started : Activation → FrameId → Activation
started x frame = record { frame = frame; callers = []; entered = []; around = x.entered ++ x.around }

-- the machine's thread
abbrev pub thread_in : Activation → ℕ → List Cell → Thread
thread_in x place operands = record { place = place; frame = x.frame; operands = operands; callers = x.callers; block = first (x.entered ++ x.around) }

-- what instructions that only compute and jump leave as it is
pub record Around : Type 0 where
  pub running : Item
  pub activation : Activation
  pub ready : List Item
  pub threads : List Thread
  pub blocks : List (Option Block)

-- it shares what the source shares, and its globals, frames and operations are the same
abbrev pub flat : Around → Held → ℕ → List Cell → ℕ → Flat
flat a s place operands count =
    record {
      shared = s.shared;
      store = s.store;
      operations = s.operations;
      running = Some a.running;
      current = thread_in a.activation place operands;
      ready = a.ready;
      threads = a.threads;
      blocks = a.blocks;
      count = count;
    }

-- the same blocks have been born and are marked, and the same operations have not ended
abbrev pub SameBirths : Held → Held → Type 0
SameBirths s t = (t.marks ≡ s.marks) × (t.operations ≡ s.operations)

-- Cores of the source and of the machine are related by R. The source is at this state, but for what it holds and its work.
module _ (code : Parts) (bound : ℕ) (R : CoreState → Flat → Type 0) (a : Around) (c : CoreState) where
  -- the machine follows what the source comes to, or neither ever comes to another state
  pub data Answers (m : Flat) (next : Next) : Type 0 where
    moves : Follows (exec code bound) R (λ x. x.core) m (applied c a.running next) → Answers m next
    sticks : next ≡ Stays → (d : Flat) → Leads (exec code bound) m d → exec code bound d ≡ On d → Answers m next

  -- the same where it may be there
  pub data Meets (m : Flat) (next : Next) : Type 0 where
    is_there : Reaches (exec code bound) R (λ x. x.core) m (applied c a.running next) → Meets m next
    answers : Answers m next → Meets m next

  meets_later : (m d : Flat) (next : Next) → Leads (exec code bound) m d → Meets d next → Answers m next
  meets_later m d next l (is_there r) = moves (reaches_later (exec code bound) R (λ x. x.core) m d (applied c a.running next) l r)
  meets_later m d next l (answers (moves f)) = moves (reaches_later (exec code bound) R (λ x. x.core) m d (applied c a.running next) l (follows f))
  meets_later m d next l (answers (sticks e x h is)) = sticks e x (then_on (exec code bound) m d x l h) is

  -- the machine answers what the source comes to, whatever its count
  pub record FollowsAt (s : Held) (place : ℕ) (operands : List Cell) (next : Next) : Type 0 where
    pub by : (count : ℕ) → Answers (flat a s place operands count) next

  -- the same where it may be there
  pub record KeepsAt (s : Held) (place : ℕ) (operands : List Cell) (next : Next) : Type 0 where
    pub by : (count : ℕ) → Meets (flat a s place operands count) next

  pub keeps : {s : Held} {place : ℕ} {operands : List Cell} {next : Next} → FollowsAt s place operands next → KeepsAt s place operands next
  keeps h = record { by = λ k. answers (h.by k) }

  -- one instruction
  pub one_follows : {s s' : Held} {place to : ℕ} {operands operands' : List Cell} {next : Next} (instr : Instr) → slice_get code.instrs place ≡ Some instr → KeepsAt s' to operands' next →
      ((k : ℕ) → begin code bound (flat a s place operands k) a.running (Some instr) ≡ On (flat a s' to operands' (counted k))) → FollowsAt s place operands next
  one_follows {s} {s'} {place} {to} {operands} {operands'} {next} instr h f e = record {
    by = λ k. meets_later (flat a s place operands k) (flat a s' to operands' (counted k)) next
        (one (exec code bound) _ _ (ap (begin code bound (flat a s place operands k) a.running) h ∙ e k)) (f.by (counted k));
  }

  -- one instruction that stands there as a piece
  pub piece_follows : {s s' : Held} {place to : ℕ} {exits : Exits} {operands operands' : List Cell} {next : Next} (instr : Instr) → Placed code.instrs (one_code instr) exits place to →
      KeepsAt s' to operands' next →
      ((k : ℕ) → begin code bound (flat a s place operands k) a.running (Some instr) ≡ On (flat a s' (place + 1) operands' (counted k))) → FollowsAt s place operands next
  piece_follows {s} {s'} {place} {to} {exits} {operands} {operands'} {next} instr h f e =
      let near : KeepsAt s' (place + 1) operands' next = subst (λ n. KeepsAt s' n operands' next) (sym h.ends) f in
      one_follows instr h.has.0 near e

  -- an instruction without a meaning here
  pub stays_follow : {s : Held} {place : ℕ} {operands : List Cell} (instr : Instr) → slice_get code.instrs place ≡ Some instr →
      ((k : ℕ) → begin code bound (flat a s place operands k) a.running (Some instr) ≡ On (flat a s place operands k)) → FollowsAt s place operands Stays
  stays_follow {s} {place} {operands} instr h e = record {
    by = λ k. let m = flat a s place operands k in
        let is = ap (begin code bound m a.running) h ∙ e k in
        sticks refl m (one (exec code bound) m m is) is;
  }

  -- one instruction, and then the two stand in relation again, however the machine has changed
  pub turn_follows : {s : Held} {place : ℕ} {operands : List Cell} {next : Next} (instr : Instr) (d : CoreState) (m : ℕ → Flat) → slice_get code.instrs place ≡ Some instr →
      applied c a.running next ≡ On d →
      ((k : ℕ) → begin code bound (flat a s place operands k) a.running (Some instr) ≡ On (m k)) → ((k : ℕ) → R d (m k)) → FollowsAt s place operands next
  turn_follows {s} {place} {operands} {next} instr d m h o e r = record {
    by = λ k. moves (subst (Follows (exec code bound) R (λ x. x.core) (flat a s place operands k)) (sym o)
        (follows_on (m k) (one (exec code bound) _ _ (ap (begin code bound (flat a s place operands k) a.running) h ∙ e k)) (r k)));
  }

  -- one instruction that ends the core
  pub ends_follows : {s : Held} {place : ℕ} {operands : List Cell} {next : Next} (instr : Instr) (end : Option CoreEnd) (count : ℕ → ℕ) → slice_get code.instrs place ≡ Some instr →
      applied c a.running next ≡ Over end →
      ((k : ℕ) → begin code bound (flat a s place operands k) a.running (Some instr) ≡ ends end (count k)) → FollowsAt s place operands next
  ends_follows {s} {place} {operands} {next} instr end count h o e = record {
    by = λ k. moves (subst (Follows (exec code bound) R (λ x. x.core) (flat a s place operands k)) (sym o)
        (follows_over (record { core = end; count = count k }) (over_at (exec code bound) _ _ (ap (begin code bound (flat a s place operands k) a.running) h ∙ e k)) refl));
  }

  -- one instruction that computes something and then changes the machine, or traps just as the source does
  pub turns_or_ends : {A : Type 0} {s : Held} {place : ℕ} {operands : List Cell} (instr : Instr) (r : Result A Trap) (go : A → Next) (d : A → CoreState) (m : A → ℕ → Flat) →
      slice_get code.instrs place ≡ Some instr →
      ((x : A) → applied c a.running (go x) ≡ On (d x)) → ((k : ℕ) → begin code bound (flat a s place operands k) a.running (Some instr) ≡ or_end (flat a s place operands k) r (λ x. On (m x k))) →
      ((x : A) → r ≡ Ok x → (k : ℕ) → R (d x) (m x k)) → FollowsAt s place operands (or_trap s r go)
  turns_or_ends instr (Ok x) go d m h o e f = turn_follows instr (d x) (m x) h (o x) e (f x refl)
  turns_or_ends instr (Err trap) go d m h o e f = ends_follows instr _ counted h refl e

  -- one instruction that computes something, or traps just as the source does
  pub computes : {A : Type 0} {s : Held} {place to : ℕ} {exits : Exits} {operands : List Cell} (instr : Instr) (r : Result A Trap) (after : A → Held) (above : A → List Cell) (go : A → Next) →
      Placed code.instrs (one_code instr) exits place to →
      ((k : ℕ) → begin code bound (flat a s place operands k) a.running (Some instr) ≡ or_end (flat a s place operands k) r (λ x. On (flat a (after x) (place + 1) (above x) (counted k)))) →
      ((x : A) → KeepsAt (after x) to (above x) (go x)) → FollowsAt s place operands (or_trap s r go)
  computes {exits = exits} instr (Ok x) after above go h e f = piece_follows {exits = exits} instr h (f x) e
  computes instr (Err trap) after above go h e f = ends_follows instr _ counted h.has.0 refl e

  -- ---- jumps

  pub jumps_follow : {s : Held} {place at : ℕ} {operands : List Cell} {next : Next} → Jumps code.instrs place at → FollowsAt s at operands next → FollowsAt s place operands next
  jumps_follow here f = f
  jumps_follow (jump {to = to} h j) f = one_follows (i.Jump to) h (keeps (jumps_follow j f)) (λ k. refl)
