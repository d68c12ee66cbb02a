-- Calls, operations, and what calls give back.
-- The operands stand on the machine's stack in their order. A call makes the same frame in both, and the machine's callers are the waiting
-- statements of the source; a return drops what is left of the call.
use Rattle.std.proofs.Common.{◌≡◌, ℕ, ◌+◌, ◌≤◌, List, [], ◌∷◌, ◌++◌, length, Option, Some, None, true, false, refl, sym, ap, ◌∙◌, subst, arith, length-append}
use Rattle.std.specs.Prelude.{slice_get, nat_le, reverse, Result, Ok, Err}
use Rattle.std.proofs.Math.Seq.{take-append_seam, drop-append_seam}
use Rattle.std.proofs.lemmas.Bool.{eqb-true}
use Rattle.std.proofs.lemmas.Bool.Decides.{nat_tests}
use Rattle.ac_base.specs.declared.ends.Trap.{Trap}
use Rattle.ac_base.specs.declared.ends.EndWord.TheVariants.{Finished}
use Rattle.work_item.specs.declared.ids.FrameId.{FrameId}
use Rattle.work_item.specs.declared.cell.Cell.{Cell}
use Rattle.work_item.specs.declared.cell.Cell.TheVariants as cell
use Rattle.work_item.specs.Store.{Store, int_in, place_in, next_frame, released}
use Rattle.cancel_scope.specs.declared.operation.Asked.{Asked}
use Rattle.cancel_scope.specs.declared.operation.Asked.TheVariants as asked
use Rattle.core_state.specs.Moves.{Move, On}
use Rattle.core_state.specs.Frames.{begun_with}
use Rattle.core_state.specs.Messages.{message_in}
use Rattle.core_state.specs.Requests.{read_of, write_of}
use Rattle.core_state.proofs.Simulation.{arrived}
use Rattle.ac_commands.specs.declared.value.Action.{Action}
use Rattle.ac_commands.specs.declared.value.Action.TheVariants.{Call, Send, Recv, Read, Write}
use Rattle.ac_commands.specs.declared.command.Command.{Command}
use Rattle.ac_commands.specs.declared.program.Function.{Function}
use Rattle.ac_commands.specs.declared.program.Resolved.{Resolved}
use Rattle.ac_semantics.specs.Evaluation.{Acting, Context, Stops}
use Rattle.ac_semantics.specs.Held.{Held, with_store, seen_of}
use Rattle.ac_semantics.specs.Work.{Work, Do, Pend, Given, CallOff, Turn, Close, Back, Leave, End, before}
use Rattle.ac_semantics.specs.Statements.{Next, Goes, Operates, last_of, returns, calls, requests, place_operand, length_operand, settles}
use Rattle.ac_semantics.specs.Threads.{CoreState, goes_on}
use Rattle.stack_code.specs.declared.instr.Instr.{Instr}
use Rattle.stack_code.specs.declared.instr.Instr.TheVariants as i
use Rattle.stack_code.specs.declared.parts.Entered.{Entered}
use Rattle.stack_code.specs.Parts.{Parts}
use Rattle.code_meaning.specs.Machine.{Caller, Flat, FlatEnd, counted, on_many, or_trap as or_end, begin, requests as requests_there, calls as enters, returns as gives_back}
use Rattle.ac_translation.specs.Translation.{action_code, body_code, last_code}
use Rattle.ac_translation.proofs.WellFormed.{takes, in_function, are_well_formed, IsWellFormed}
use Rattle.ac_translation.proofs.Sized.{body_sized}
use Rattle.ac_translation.proofs.Placed.{first_part, other_part, here}
use Rattle.ac_translation.proofs.Functions.{EntersAt, entry_of, no_entry, IsCodeOf}
use Rattle.ac_translation.proofs.Keeps.{called, Around, flat, SameBirths, FollowsAt, KeepsAt, is_there, stays_follow, turn_follows, ends_follows, turns_or_ends}
use Rattle.ac_translation.proofs.Turns.{Turns}
use Rattle.ac_translation.proofs.Works.{not_both, Scope, no_scope, Does, Sleeps, Works, works, wakes, Relates, before_does}

-- so many operands, of which the last is the first
pub many_are : (m : Flat) (values below : List Cell) (count : ℕ) (go : List Cell → List Cell → Move Flat FlatEnd) → count ≡ length values →
    on_many m count go (values ++ below) ≡ go (reverse values) below
many_are m values below count go e =
    let enough : nat_le (length values) (length (values ++ below)) ≡ true = let le : length values ≤ length (values ++ below) = omega (arith, length-append values below) in grind (arith, nat_tests) in
    rw (e, enough, take-append_seam values below, drop-append_seam values below) refl

-- The relation holds wherever the code stands that does the work, in whichever activation of the thread.
module _ (code : Parts) (program : Resolved) (same : IsCodeOf code program) (fine : IsWellFormed program) (bound : ℕ) (R : CoreState → Flat → Type 0) (a : Around) (c : CoreState)
    (stands : Relates code.instrs R a c) where
  abbrev pub At : Held → ℕ → List Cell → Next → Type 0
  At s place operands next = KeepsAt code bound R a c s place operands next

  abbrev pub DoesAt : Scope → ℕ → List Work → Type 0
  DoesAt scope place ws = Does code.instrs scope a.activation place ws

  abbrev pub WorksAt : ℕ → List Cell → List Work → Type 0
  WorksAt place operands ws = Works code.instrs a.activation place operands ws

  abbrev pub Born : Held → Type 0
  Born s = SameBirths c.held s

  pub lands : (s : Held) (place : ℕ) (operands : List Cell) (ws : List Work) → Born s → WorksAt place operands ws → At s place operands (Goes s ws)
  lands s place operands ws b w = record { by = λ k. is_there (arrived (stands a.activation.frame a.activation.callers s place operands ws k b w)) }

  pub lands_in : (s : Held) (place : ℕ) (ws : List Work) (scope : Scope) → Born s → DoesAt scope place ws → At s place [] (Goes s ws)
  lands_in s place ws scope b d = lands s place [] ws b (works scope d)

  -- the new frame is made, and the function is entered
  -- There is room for the frame in both or in neither; then the body stands at the function's first address, with the caller on top of its
  -- callers.
  enters_follow : (f : Function) (e : Entered) (number count : ℕ) (x : Command) (around : List Context) (ws : List Work) (s : Held) (place : ℕ) (values below : List Cell) → Born s →
      EntersAt code.instrs f e → are_well_formed f.body in_function ≡ true → slice_get code.instrs place ≡ Some (i.Call number count) → slice_get code.functions number ≡ Some e →
      count ≡ length values → Sleeps code.instrs a.activation (place + 1) below (Pend a.activation.frame x around ∷ ws) →
      FollowsAt code bound R a c s place (values ++ below) (calls (Some f) values (Pend a.activation.frame x around ∷ ws) s)
  enters_follow f e number count x around ws s place values below b h form is found many d =
      let frame = next_frame s.store in
      let caller : Caller = record { place = place + 1; frame = a.activation.frame; operands = below } in
      let callers = caller ∷ a.activation.callers in
      let callee = called a.activation frame callers in
      let rest = Back frame ∷ Pend a.activation.frame x around ∷ ws in
      let work = before frame f.body rest in
      let made = begun_with s.store f.params f.slots (reverse values) in
      let enter = λ (t : Store) (k : ℕ). flat (record a { activation = callee }) (with_store s t) e.at [] (counted k) in
      let m = λ (k : ℕ). flat a s place (values ++ below) k in
      let body_at = first_part code.instrs (body_code f.body) last_code h.stands in
      let last_at = other_part code.instrs (body_code f.body) last_code (body_sized f.body) h.stands in
      turns_or_ends code bound R a c (i.Call number count) made (λ t. Goes (with_store s t) work) (λ t. goes_on c (with_store s t) work) enter is (λ t. refl)
      (λ k. many_are (m k) values below count (λ args under. enters (m k) (slice_get code.functions number) args under) many
      ∙ ap (λ o. enters (m k) o (reverse values) below) found
      ∙ ap (λ params. or_end (m k) (begun_with s.store params e.words (reverse values)) (λ t. On (enter t k))) h.params
      ∙ ap (λ words. or_end (m k) (begun_with s.store f.params words (reverse values)) (λ t. On (enter t k))) h.words)
      (λ t is_made k. stands frame callers (with_store s t) e.at [] work (counted k) b
      (works no_scope (before_does code.instrs callee f.body rest no_scope form body_at (record {
        last = record { at = e.at + (body_code f.body).size; to = h.to; jumps = here; stands = last_at; no_loop = refl; no_block = refl };
        own_is = refl;
        caller = caller;
        others = a.activation.callers;
        is = refl;
        rest = d;
      }))))

  -- without such a function the core stays where it is, and so does the machine
  call_follows : (number count : ℕ) (x : Command) (around : List Context) (ws : List Work) (s : Held) (place : ℕ) (values below : List Cell) → Born s →
      slice_get code.instrs place ≡ Some (i.Call number count) → count ≡ length values → Sleeps code.instrs a.activation (place + 1) below (Pend a.activation.frame x around ∷ ws) →
      (o : Option Function) → slice_get program.functions number ≡ o → FollowsAt code bound R a c s place (values ++ below) (calls o values (Pend a.activation.frame x around ∷ ws) s)
  call_follows number count x around ws s place values below b is many d None found =
      let none = no_entry code.instrs (slice_get program.functions number) (slice_get code.functions number) (same.functions number) found in
      let m = λ (k : ℕ). flat a s place (values ++ below) k in
      stays_follow code bound R a c (i.Call number count) is
      (λ k. many_are (m k) values below count (λ args under. enters (m k) (slice_get code.functions number) args under) many
      ∙ ap (λ o. enters (m k) o (reverse values) below) none)
  call_follows number count x around ws s place values below b is many d (Some f) found =
      let entry = entry_of code.instrs f (slice_get program.functions number) (slice_get code.functions number) (same.functions number) found in
      enters_follow f entry.entered number count x around ws s place values below b entry.enters (fine.bodies number f found) is entry.is many d

  -- what takes one operand
  takes_one : (place : ℕ) (values below : List Cell) (s : Held) (next : Cell → Next) → length values ≡ 1 → ((v : Cell) → FollowsAt code bound R a c s place (v ∷ below) (next v)) →
      FollowsAt code bound R a c s place (values ++ below) (next (last_of values))
  takes_one place [] below s next e f = absurd (omega (arith, e))
  takes_one place (v ∷ []) below s next e f = f v
  takes_one place (v ∷ w ∷ values) below s next e f = absurd (omega (arith, e))

  -- what takes three, the last of which is the first
  takes_three : (place : ℕ) (values below : List Cell) (s : Held) (next : List Cell → Next) → length values ≡ 3 →
      ((u v w : Cell) → FollowsAt code bound R a c s place (u ∷ v ∷ w ∷ below) (next (u ∷ v ∷ w ∷ []))) → FollowsAt code bound R a c s place (values ++ below) (next values)
  takes_three place [] below s next e f = absurd (omega (arith, e))
  takes_three place (u ∷ []) below s next e f = absurd (omega (arith, e))
  takes_three place (u ∷ v ∷ []) below s next e f = absurd (omega (arith, e))
  takes_three place (u ∷ v ∷ w ∷ []) below s next e f = f u v w
  takes_three place (u ∷ v ∷ w ∷ y ∷ values) below s next e f = absurd (omega (arith, e))

  -- what is asked for starts on the core's own link, or its range is wrong in both
  requests_follow : Turns code bound R a c → (it : Result Asked Trap) (instr : Instr) (s : Held) (place : ℕ) (operands below : List Cell) (rest : List Work) → Born s →
      slice_get code.instrs place ≡ Some instr →
      ((k : ℕ) → begin code bound (flat a s place operands k) a.running (Some instr) ≡ requests_there (flat a s place operands k) a.running it below) →
      Sleeps code.instrs a.activation (place + 1) below rest → FollowsAt code bound R a c s place operands (requests it rest s)
  requests_follow turns (Ok asked) instr s place operands below rest b is begins d = turns.waits s.shared.requests asked instr s place operands below rest b is begins d
  requests_follow turns (Err trap) instr s place operands below rest b is begins d = ends_follows code bound R a c instr _ counted is refl begins

  -- what an action does with its operands
  pub acts_follow : Turns code bound R a c → (action : Action) (count : ℕ) (x : Command) (around : List Context) (ws : List Work) (s : Held) (place : ℕ) (values below : List Cell) → Born s →
      slice_get code.instrs place ≡ Some (action_code action count) → count ≡ length values → takes action count ≡ true → Sleeps code.instrs a.activation (place + 1) below
      (Pend a.activation.frame x around ∷ ws) →
      FollowsAt code bound R a c s place (values ++ below) (settles program x a.activation.frame ws s (Stops (Acting action) values around))
  acts_follow turns (Call number) count x around ws s place values below b is many one d = call_follows number count x around ws s place values below b is many d
      (slice_get program.functions number) refl
  acts_follow turns (Send channel) count x around ws s place values below b is many one d =
      let rest = Pend a.activation.frame x around ∷ ws in
      takes_one place values below s (λ v. Operates channel (asked.Send (message_in s.store v)) s rest) (sym many ∙ eqb-true count 1 one)
      (λ v. turns.waits channel (asked.Send (message_in s.store v)) (i.Send channel) s place (v ∷ below) below rest b is (λ k. refl) d)
  acts_follow turns (Recv channel) count x around ws s place values below b is many one d =
      let rest = Pend a.activation.frame x around ∷ ws in
      takes_one place values below s (λ v. Operates channel (asked.Recv (place_in v)) s rest) (sym many ∙ eqb-true count 1 one)
      (λ v. turns.waits channel (asked.Recv (place_in v)) (i.Recv channel) s place (v ∷ below) below rest b is (λ k. refl) d)
  acts_follow turns (Read file) count x around ws s place values below b is many three d =
      let rest = Pend a.activation.frame x around ∷ ws in
      let asks_for = λ (vs : List Cell). read_of file (place_operand vs) (length_operand vs) (place_in (last_of vs)) in
      takes_three place values below s (λ vs. requests (asks_for vs) rest s) (sym many ∙ eqb-true count 3 three)
      (λ u v w. requests_follow turns (asks_for (u ∷ v ∷ w ∷ [])) (i.Read file) s place (u ∷ v ∷ w ∷ below) below rest b is (λ k. refl) d)
  acts_follow turns (Write file) count x around ws s place values below b is many three d =
      let rest = Pend a.activation.frame x around ∷ ws in
      let asks_for = λ (vs : List Cell). write_of s.store file (place_operand vs) (length_operand vs) (place_in (last_of vs)) in
      takes_three place values below s (λ vs. requests (asks_for vs) rest s) (sym many ∙ eqb-true count 3 three)
      (λ u v w. requests_follow turns (asks_for (u ∷ v ∷ w ∷ [])) (i.Write file) s place (u ∷ v ∷ w ∷ below) below rest b is (λ k. refl) d)

  -- the innermost call gives a value, and what was left of it is dropped
  pub returns_follow : (ws : List Work) (scope : Scope) (place : ℕ) → scope.block ≡ false → DoesAt scope place ws → (s : Held) (at : ℕ) (o : Cell) → Born s → slice_get code.instrs at ≡ Some i.Ret →
      FollowsAt code bound R a c s at (o ∷ []) (returns (int_in o) ws s)
  returns_follow [] scope place e d s at o b h = absurd d
  returns_follow (Do own x ∷ ws) scope place e d s at o b h = returns_follow ws scope d.to e d.rest s at o b h
  returns_follow (Pend own x around ∷ ws) scope place e d s at o b h = absurd d
  returns_follow (Given value own x around ∷ ws) scope place e d s at o b h = absurd d
  returns_follow (CallOff own level slot ∷ ws) scope place e d s at o b h = returns_follow ws scope (d.at + 1) e d.rest s at o b h
  returns_follow (Turn own x ∷ ws) scope place e d s at o b h = returns_follow ws d.outer d.to (ap (λ (x : Scope). x.block) (sym d.is) ∙ e) d.rest s at o b h
  returns_follow (Close block ∷ ws) scope place e d s at o b h = absurd (not_both scope.block e d.in_block)
  returns_follow (Back own ∷ Pend to x around ∷ ws) scope place e d s at o b h =
      let value = cell.Int (int_in o) in
      let operands = value ∷ d.caller.operands in
      let t = with_store s (released s.store a.activation.frame) in
      let core = λ (f : FrameId). goes_on c (with_store s (released s.store f)) (Given value to x around ∷ ws) in
      let m = λ (k : ℕ). flat (record a { activation = called a.activation d.caller.frame d.others }) t d.caller.place operands (counted k) in
      turn_follows code bound R a c i.Ret (core own) m h refl
      (λ k. ap (gives_back (flat a s at (o ∷ []) k) value) d.is)
      (λ k. subst (λ f. R (core f) (m k)) (sym d.own_is) (stands d.caller.frame d.others t d.caller.place operands (Given value to x around ∷ ws) (counted k) b (wakes value to x around d.rest)))
  returns_follow (Back own ∷ ws) scope place e d s at o b h = absurd d.rest
  returns_follow (Leave ∷ ws) scope place e d s at o b h =
      ends_follows code bound R a c i.Ret (seen_of Finished false s) counted h refl (λ k. ap (gives_back (flat a s at (o ∷ []) k) (cell.Int (int_in o))) d.alone)
  returns_follow (End own ∷ ws) scope place e d s at o b h = absurd (not_both scope.block e d.in_block)
