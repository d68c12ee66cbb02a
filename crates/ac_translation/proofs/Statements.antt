-- What a statement does with its operands, and the instructions after them.
-- By cases on the statement. Each leads, by instructions of its own, to a place where code for the work that is left stands (Works); loops
-- and branches need that their parts are placed and where their jumps lead.
use Rattle.std.proofs.Common.{◌≡◌, ℕ, ◌+◌, List, [], ◌∷◌, length, map, replicate, Option, Some, None, Bool, true, false, refl, sym, ap, ◌∙◌, subst, arith, append-nil}
use Rattle.std.specs.Prelude.{slice_index_or, reverse, not, ◌&&◌, pos}
use Rattle.work_item.specs.declared.cell.Cell.{Cell}
use Rattle.work_item.specs.declared.cell.Cell.TheVariants as cell
use Rattle.work_item.specs.Store.{no_int, int_in, place_in, next_frame, with_cleared}
use Rattle.core_state.specs.Arithmetic.{at_zero}
use Rattle.core_state.specs.Frames.{begun, set_element}
use Rattle.core_state.specs.Shared.{printed, formatted}
use Rattle.ac_commands.specs.declared.value.Place.TheVariants as pl
use Rattle.ac_commands.specs.declared.value.Value.{Value}
use Rattle.ac_commands.specs.declared.command.Target.{Target}
use Rattle.ac_commands.specs.declared.command.Target.TheVariants as t
use Rattle.ac_commands.specs.declared.command.Command.{Command, out-Command}
use Rattle.ac_commands.specs.declared.command.Command.TheOpen.{Command-F}
use Rattle.ac_commands.specs.declared.program.Resolved.{Resolved}
use Rattle.ac_semantics.specs.Held.{Held, with_shared, with_store, entered, next_block}
use Rattle.ac_semantics.specs.Work.{Work, CallOff, Turn, Close, End, before, past_loop, at_turn}
use Rattle.ac_semantics.specs.Statements.{Next, Goes, Starts, Yields, or_trap, some_operand, target_operands, operands_of, last_of, with_variable, put_in}
use Rattle.ac_semantics.specs.Statements.{returns, value_or_zero, some_body, test_or_true, loops, finish_form}
use Rattle.ac_semantics.specs.Threads.{CoreState}
use Rattle.stack_code.specs.declared.instr.Instr.{Instr}
use Rattle.stack_code.specs.declared.instr.Instr.TheVariants as i
use Rattle.stack_code.specs.Parts.{Parts}
use Rattle.code_meaning.specs.Machine.{Flat, on_many, with_shared as shares, goes, text_at, or_trap as or_end}
use Rattle.ac_translation.specs.Pieces.{Exits, Piece, no_code, one, ◌⨾◌, over, out_past, out_turn, loop_exits, loop}
use Rattle.ac_translation.specs.Translation.{array_code, value_code, values_code, target_code, test_code, at_loop, at_next, command_step, command_code, body_code}
use Rattle.ac_translation.proofs.WellFormed.{both_true, in_loop, in_block, placed_step, is_well_formed, are_well_formed, IsWellFormed}
use Rattle.ac_translation.proofs.Sized.{IsSized, no_sized, one_sized, over_sized, value_sized, values_sized, test_sized, body_sized}
use Rattle.ac_translation.proofs.Codes.{reference_code}
use Rattle.ac_translation.proofs.Placed.{Placed, first_part, other_part, both_parts, Jumps, here, jump, LoopAt, loop_at}
use Rattle.ac_translation.proofs.Functions.{IsCodeOf}
use Rattle.ac_translation.proofs.Keeps.{within, started, Around, flat, SameBirths, FollowsAt, KeepsAt, keeps, one_follows, piece_follows, computes}
use Rattle.ac_translation.proofs.Works.{Scope, round_of, looped, blocked, exits_in, exits_of, pieces_of, tests_of, Does, Works, works, Relates}
use Rattle.ac_translation.proofs.Works.{does_in_block, jumps_do, before_does, zero_works, break_works, continue_works}
use Rattle.ac_translation.proofs.Turns.{Turns}
use Rattle.ac_translation.proofs.Calls.{many_are, lands, lands_in, returns_follow}

-- ---- where the operands stand

abbrev pub size_of : List Value → ℕ
size_of xs = (values_code xs).size

module _ (code : List Instr) where
  one_operand : (x : Value) {exits : Exits} {place : ℕ} → Placed code (value_code x) exits place (place + (value_code x).size) →
      Placed code (values_code (x ∷ [])) exits place (place + size_of (x ∷ []))
  one_operand x h = both_parts code (value_code x) no_code (value_sized x) h (record { has = tt; ends = omega arith })

  target_operands_at : (x : Value) (target : Target) {exits : Exits} {place to : ℕ} → Placed code (value_code x ⨾ target_code target) exits place to →
      Placed code (values_code (x ∷ target_operands target)) exits place (place + size_of (x ∷ target_operands target))
  target_operands_at x (t.Variable place) h = one_operand x (first_part code (value_code x) (target_code (t.Variable place)) h)
  target_operands_at x (t.Element whole index) {exits} {place} h =
      let all = λ (p : Piece). value_code x ⨾ p ⨾ value_code index ⨾ no_code in
      let last = one i.SetElem in
      let rest = one (array_code whole) ⨾ value_code index ⨾ last in
      let rest_at = other_part code (value_code x) rest (value_sized x) h in
      let whole_at = first_part code (one (array_code whole)) (value_code index ⨾ last) rest_at in
      let index_at = other_part code (one (array_code whole)) (value_code index ⨾ last) (one_sized (array_code whole)) rest_at in
      let last_at = one_operand index (first_part code (value_code index) last index_at) in
      let both_at = both_parts code (one (array_code whole)) (values_code (index ∷ [])) (one_sized (array_code whole)) whole_at last_at in
      let all_at = both_parts code (value_code x) (one (array_code whole) ⨾ values_code (index ∷ [])) (value_sized x) (first_part code (value_code x) rest h) both_at in
      subst (λ (p : Piece). Placed code (all p) exits place (place + (all p).size)) (sym (reference_code whole)) (record { has = all_at.has; ends = refl })

  test_operand : (test : Value) (count : ℕ) {exits : Exits} {at to : ℕ} → Placed code (test_code (Some test) count) exits at to →
      Placed code (values_code (test ∷ [])) exits (at + 1) (at + 1 + size_of (test ∷ []))
  test_operand test count h = one_operand test (first_part code (value_code test) (over i.Jz count) (other_part code (one i.Step) (value_code test ⨾ over i.Jz count) (one_sized i.Step) h))

  -- the operands of a statement stand after its step
  pub operands_at : (x : Command-F Command) {exits : Exits} {at to : ℕ} → Placed code (command_step (pieces_of x)) exits at to →
      Placed code (values_code (operands_of x)) exits (at + 1) (at + 1 + size_of (operands_of x))
  operands_at (Command-F.Set target value) h = target_operands_at value target (other_part code (one i.Step) (value_code value ⨾ target_code target) (one_sized i.Step) h)
  operands_at (Command-F.Run value) h =
      one_operand value (first_part code (value_code value) (one i.Drop) (other_part code (one i.Step) (value_code value ⨾ one i.Drop) (one_sized i.Step) h))
  operands_at (Command-F.Print text args) h =
      let last = one (i.Print text (length args)) in
      first_part code (values_code args) last (other_part code (one i.Step) (values_code args ⨾ last) (one_sized i.Step) h)
  operands_at (Command-F.If test body None) h =
      let rest = over i.Jz (body_code body).size ⨾ body_code body in
      one_operand test (first_part code (value_code test) rest (other_part code (one i.Step) (value_code test ⨾ rest) (one_sized i.Step) h))
  operands_at (Command-F.If test body (Some other)) h =
      let rest = over i.Jz ((body_code body).size + 1) ⨾ body_code body ⨾ over i.Jump (body_code other).size ⨾ body_code other in
      one_operand test (first_part code (value_code test) rest (other_part code (one i.Step) (value_code test ⨾ rest) (one_sized i.Step) h))
  operands_at (Command-F.While test body) h =
      let count = (body_code body).size + 1 in
      let parts = loop_at code at_loop (test_code (Some test) count) (body_code body) no_code (test_sized (Some test) count) (body_sized body) no_sized h in
      test_operand test count parts.head_at
  operands_at (Command-F.For (Some test) next body) h =
      let count = (body_code body).size + ((body_code next).size + 1) in
      let parts = loop_at code at_next (test_code (Some test) count) (body_code body) (body_code next) (test_sized (Some test) count) (body_sized body) (body_sized next) h in
      test_operand test count parts.head_at
  operands_at (Command-F.Return (Some value)) h =
      one_operand value (first_part code (value_code value) (one i.Ret) (other_part code (one i.Step) (value_code value ⨾ one i.Ret) (one_sized i.Step) h))
  operands_at x h = record { has = tt; ends = omega arith }

not_true : (b : Bool) → not b ≡ true → b ≡ false
not_true true e = let no : false ≡ true = e in cc
not_true false e = refl

-- The relation holds wherever the code stands that does the work, in whichever activation of the thread.
module _ (code : Parts) (program : Resolved) (same : IsCodeOf code program) (fine : IsWellFormed program) (bound : ℕ) (R : CoreState → Flat → Type 0) (a : Around) (c : CoreState)
    (stands : Relates code.instrs R a c)
    (turns : Turns code bound R a c) where
  abbrev At : Held → ℕ → List Cell → Next → Type 0
  At s place operands next = KeepsAt code bound R a c s place operands next

  abbrev FollowsOn : Held → ℕ → List Cell → Next → Type 0
  FollowsOn s place operands next = FollowsAt code bound R a c s place operands next

  abbrev DoesAt : Scope → ℕ → List Work → Type 0
  DoesAt scope place ws = Does code.instrs scope a.activation place ws

  abbrev WorksAt : ℕ → List Cell → List Work → Type 0
  WorksAt place operands ws = Works code.instrs a.activation place operands ws

  abbrev Born : Held → Type 0
  Born s = SameBirths c.held s

  land : (s : Held) (place : ℕ) (ws : List Work) → Born s → WorksAt place [] ws → At s place [] (Goes s ws)
  land s place ws b w = lands code program same fine bound R a c stands s place [] ws b w

  lands_here : (s : Held) (place : ℕ) (ws : List Work) (scope : Scope) → Born s → DoesAt scope place ws → At s place [] (Goes s ws)
  lands_here s place ws scope b d = lands_in code program same fine bound R a c stands s place ws scope b d

  -- ---- by the number of operands: with none of them the machine may be there

  abbrev pub FinishesAt : Held → ℕ → List Cell → Next → Type 0
  FinishesAt s place [] next = KeepsAt code bound R a c s place [] next
  FinishesAt s place (x ∷ values) next = FollowsAt code bound R a c s place (x ∷ values) next

  any_finish : (s : Held) (place : ℕ) (values : List Cell) (next : Next) → FollowsOn s place values next → FinishesAt s place values next
  any_finish s place [] next f = keeps code bound R a c f
  any_finish s place (x ∷ values) next f = f

  no_finish : (s : Held) (place : ℕ) (values : List Cell) (r : List Cell → Next) → length values ≡ 0 → At s place [] (r []) → FinishesAt s place values (r values)
  no_finish s place [] r e f = f
  no_finish s place (x ∷ values) r e f = absurd (omega (arith, e))

  one_finishes : (s : Held) (place : ℕ) (values : List Cell) (r : List Cell → Next) → length values ≡ 1 → ((x : Cell) → FollowsOn s place (x ∷ []) (r (x ∷ []))) → FinishesAt s place values (r values)
  one_finishes s place [] r e f = absurd (omega (arith, e))
  one_finishes s place (x ∷ []) r e f = f x
  one_finishes s place (x ∷ y ∷ values) r e f = absurd (omega (arith, e))

  three_finish : (s : Held) (place : ℕ) (values : List Cell) (r : List Cell → Next) → length values ≡ 3 →
      ((z y x : Cell) → FollowsOn s place (z ∷ y ∷ x ∷ []) (r (z ∷ y ∷ x ∷ []))) → FinishesAt s place values (r values)
  three_finish s place [] r e f = absurd (omega (arith, e))
  three_finish s place (z ∷ []) r e f = absurd (omega (arith, e))
  three_finish s place (z ∷ y ∷ []) r e f = absurd (omega (arith, e))
  three_finish s place (z ∷ y ∷ x ∷ []) r e f = f z y x
  three_finish s place (z ∷ y ∷ x ∷ w ∷ values) r e f = absurd (omega (arith, e))

  -- ---- assignments and output

  -- A variable is one instruction. An element has its reference and its index on the stack above the value, and both trap alike where the
  -- index is out of range.
  set_finishes : (target : Target) (value : Value) (values : List Cell) {exits : Exits} {at to : ℕ} (s : Held) (ws : List Work) (scope : Scope) → Born s →
      Placed code.instrs (one i.Step ⨾ value_code value ⨾ target_code target) exits at to → length values ≡ length (value ∷ target_operands target) → DoesAt scope to ws →
      FinishesAt s (at + 1 + size_of (value ∷ target_operands target)) values (or_trap s (put_in target values a.activation.frame s.store) (λ store. Goes (with_store s store) ws))
  set_finishes (t.Variable (pl.Global slot)) value values {exits} {at} {to} s ws scope b h e d =
      let value_at = other_part code.instrs (one i.Step) (value_code value ⨾ one (i.StoreG slot)) (one_sized i.Step) h in
      let store_at = other_part code.instrs (value_code value) (one (i.StoreG slot)) (value_sized value) value_at in
      let near : at + 1 + (value_code value).size ≡ at + 1 + size_of (value ∷ []) = omega arith in
      one_finishes s (at + 1 + size_of (value ∷ [])) values (λ vs. or_trap s (put_in (t.Variable (pl.Global slot)) vs a.activation.frame s.store) (λ store. Goes (with_store s store) ws)) e (λ x.
      let u = with_store s (with_variable s.store a.activation.frame (pl.Global slot) (int_in x)) in
      subst (λ n. FollowsOn s n (x ∷ []) (Goes u ws)) near
      (piece_follows code bound R a c {exits = exits} (i.StoreG slot) store_at (lands_here u to ws scope b d) (λ k. refl)))
  set_finishes (t.Variable (pl.Local level slot)) value values {exits} {at} {to} s ws scope b h e d =
      let value_at = other_part code.instrs (one i.Step) (value_code value ⨾ one (i.Store level slot)) (one_sized i.Step) h in
      let store_at = other_part code.instrs (value_code value) (one (i.Store level slot)) (value_sized value) value_at in
      let near : at + 1 + (value_code value).size ≡ at + 1 + size_of (value ∷ []) = omega arith in
      one_finishes s (at + 1 + size_of (value ∷ [])) values (λ vs. or_trap s (put_in (t.Variable (pl.Local level slot)) vs a.activation.frame s.store) (λ store. Goes (with_store s store) ws)) e (λ x.
      let u = with_store s (with_variable s.store a.activation.frame (pl.Local level slot) (int_in x)) in
      subst (λ n. FollowsOn s n (x ∷ []) (Goes u ws)) near
      (piece_follows code bound R a c {exits = exits} (i.Store level slot) store_at (lands_here u to ws scope b d) (λ k. refl)))
  set_finishes (t.Element whole index) value values {exits} {at} {to} s ws scope b h e d =
      let last = one i.SetElem in
      let rest = one (array_code whole) ⨾ value_code index ⨾ last in
      let value_at = other_part code.instrs (one i.Step) (value_code value ⨾ rest) (one_sized i.Step) h in
      let whole_at = other_part code.instrs (value_code value) rest (value_sized value) value_at in
      let index_at = other_part code.instrs (one (array_code whole)) (value_code index ⨾ last) (one_sized (array_code whole)) whole_at in
      let set_at = other_part code.instrs (value_code index) last (value_sized index) index_at in
      let all = value ∷ target_operands (t.Element whole index) in
      let one_is = ap (λ (p : Piece). p.size) (reference_code whole) in
      let near : at + 1 + (value_code value).size + 1 + (value_code index).size ≡ at + 1 + size_of all = omega (arith, one_is) in
      three_finish s (at + 1 + size_of all) values (λ vs. or_trap s (put_in (t.Element whole index) vs a.activation.frame s.store) (λ store. Goes (with_store s store) ws)) e (λ z y x.
      let r = set_element s.store (place_in y) (int_in z) (int_in x) in
      subst (λ n. FollowsOn s n (z ∷ y ∷ x ∷ []) (or_trap s r (λ u. Goes (with_store s u) ws))) near
      (computes code bound R a c {exits = exits} i.SetElem r (λ u. with_store s u) (λ u. []) (λ u. Goes (with_store s u) ws) set_at (λ k. refl) (λ u. lands_here (with_store s u) to ws scope b d)))

  print_finishes : (text : ℕ) (args : List Value) (values : List Cell) {x : Exits} {place to : ℕ} (s : Held) (ws : List Work) (scope : Scope) → Born s →
      Placed code.instrs (one (i.Print text (length args))) x place to → length values ≡ length args → DoesAt scope to ws →
      FinishesAt s place values (or_trap s (printed s.shared (formatted (slice_index_or program.texts text []) (map int_in (reverse values)))) (λ shared. Goes (with_shared s shared) ws))
  print_finishes text args values {x} {place} {to} s ws scope b h e d =
      let ints = map int_in (reverse values) in
      let r = printed s.shared (formatted (slice_index_or program.texts text []) ints) in
      any_finish s place values (or_trap s r (λ shared. Goes (with_shared s shared) ws))
      (computes code bound R a c {exits = x} (i.Print text (length args)) r (λ shared. with_shared s shared) (λ shared. []) (λ shared. Goes (with_shared s shared) ws) h
      (λ k. let m = flat a s place values k in
      let go = λ (vs below : List Cell). or_end m (printed m.shared (formatted (text_at code text) (map int_in vs))) (λ t. goes (shares m t) below) in
      ap (on_many m (length args) go) (sym (append-nil values))
      ∙ many_are m values [] (length args) go (sym e)
      ∙ ap (λ ts. or_end m (printed s.shared (formatted (slice_index_or ts text []) ints)) (λ t. goes (shares m t) [])) same.texts)
      (λ shared. lands_here (with_shared s shared) to ws scope b d))

  -- ---- choices

  -- a jump over so many instructions where the test is 0
  jz_lands : {x : Exits} {place to : ℕ} (count : ℕ) (s : Held) (xs ys : List Work) (o : Cell) → Born s → Placed code.instrs (over i.Jz count) x place to → WorksAt (to + count) [] xs →
      WorksAt to [] ys →
      FollowsOn s place (o ∷ []) (Goes s (at_zero (int_in o) xs ys))
  jz_lands {place = place} {to} count s xs ys o b h zero_at other_at =
      let ends = h.ends in
      let near : to ≡ place + 1 = omega (arith, ends) in
      let far : to + count ≡ place + 1 + count = omega (arith, ends) in
      let ws = at_zero (int_in o) xs ys in
      one_follows code bound R a c (i.Jz (place + 1 + count)) h.has.0
      (land s (at_zero (int_in o) (place + 1 + count) (place + 1)) ws b
      (zero_works code.instrs a.activation (int_in o) (subst (λ n. WorksAt n [] xs) far zero_at) (subst (λ n. WorksAt n [] ys) near other_at)))
      (λ k. refl)

  -- the test of a loop, after its step
  test_finishes : (test : Option Value) (values : List Cell) {x : Exits} {at to : ℕ} (count : ℕ) (s : Held) (xs ys : List Work) → Born s → length values ≡ length (some_operand test) →
      Placed code.instrs (test_code test count) x at to → WorksAt (to + count) [] xs → WorksAt to [] ys →
      FinishesAt s (at + 1 + size_of (some_operand test)) values (Goes s (at_zero (test_or_true test values) xs ys))
  test_finishes None values {at = at} {to} count s xs ys b e h zero_at other_at =
      let ends = h.ends in
      let near : to ≡ at + 1 + 0 = omega (arith, ends) in
      no_finish s (at + 1 + 0) values (λ vs. Goes s ys) e (subst (λ n. At s n [] (Goes s ys)) near (land s to ys b other_at))
  test_finishes (Some test) values {at = at} {to} count s xs ys b e h zero_at other_at =
      let last = over i.Jz count in
      let value_at = other_part code.instrs (one i.Step) (value_code test ⨾ last) (one_sized i.Step) h in
      let jump_at = other_part code.instrs (value_code test) last (value_sized test) value_at in
      let near : at + 1 + (value_code test).size ≡ at + 1 + size_of (test ∷ []) = omega arith in
      one_finishes s (at + 1 + size_of (test ∷ [])) values (λ vs. Goes s (at_zero (test_or_true (Some test) vs) xs ys)) e (λ o.
      subst (λ n. FollowsOn s n (o ∷ []) (Goes s (at_zero (int_in o) xs ys))) near (jz_lands count s xs ys o b jump_at zero_at other_at))

  -- ---- loops

  -- Where the test is not 0 the body follows, with the end of its turn behind it; where it is, a jump leads past the loop.
  loop_finishes : (self : Command) (ws : List Work) (scope : Scope) (turns : ℕ → ℕ → ℕ) (test : Option Value) (body : List Command) (next : Piece) (values : List Cell) {at to : ℕ} (s : Held) →
      Born s → IsSized next → length values ≡ length (some_operand test) →
      Placed code.instrs (command_code self) scope.exits at to → is_well_formed self (round_of scope) ≡ true → DoesAt scope to ws →
      let head = test_code test ((body_code body).size + (next.size + 1)) in
      Placed code.instrs (loop turns head (body_code body) next) scope.exits at to → are_well_formed body (in_loop (round_of scope)) ≡ true
      → exits_of self at ≡ loop_exits turns at head (body_code body) next →
      (LoopAt code.instrs turns head (body_code body) next scope.exits at to → Jumps code.instrs (at + (head.size + (body_code body).size)) (turns at (at + (head.size + (body_code body).size)))) →
      FinishesAt s (at + 1 + size_of (some_operand test)) values (loops (test_or_true test values) self body a.activation.frame ws s)
  loop_finishes self ws scope turns test body next values {at} {to} s b z e whole form d h forms same turn =
      let count = (body_code body).size + (next.size + 1) in
      let head = test_code test count in
      let parts = loop_at code.instrs turns head (body_code body) next (test_sized test count) (body_sized body) z h in
      let ends = parts.ends in
      let mid = at + (head.size + (body_code body).size) in
      let around : DoesAt (looped scope (exits_of self at)) mid (Turn a.activation.frame self ∷ ws) = record {
        at = at;
        to = to;
        outer = scope;
        is = refl;
        jumps = subst (λ (x : Exits). Jumps code.instrs mid x.turn) (sym same) (turn parts);
        stands = whole;
        form = form;
        own_is = refl;
        rest = d;
      } in
      let body_at : Placed code.instrs (body_code body) (exits_of self at) (at + head.size) mid = subst (λ x. Placed code.instrs (body_code body) x (at + head.size) mid) (sym same) parts.body_at in
      let past : to ≡ at + head.size + count = omega (arith, ends) in
      let within = before_does code.instrs a.activation body (Turn a.activation.frame self ∷ ws) (looped scope (exits_of self at)) forms body_at around in
      test_finishes test values count s ws (before a.activation.frame body (Turn a.activation.frame self ∷ ws)) b e parts.head_at
      (subst (λ n. WorksAt n [] ws) past (works scope d))
      (works (looped scope (exits_of self at)) within)

  -- ---- statements in statements

  -- By the value of the test: the body, and a jump past the `else`, or a jump to the `else` or past the statement.
  if_finishes : (test : Value) (body : List Command) (other : Option (List Command)) (values : List Cell) (ws : List Work) (scope : Scope) {at to : ℕ} (s : Held) → Born s →
      Placed code.instrs (command_step (pieces_of (Command-F.If test body other))) scope.exits at to → length values ≡ 1 →
      are_well_formed body (round_of scope) ≡ true → are_well_formed (some_body other) (round_of scope) ≡ true → DoesAt scope to ws →
      FinishesAt s (at + 1 + size_of (test ∷ [])) values
      (Goes s (at_zero (int_in (last_of values)) (before a.activation.frame (some_body other) ws) (before a.activation.frame body ws)))
  if_finishes test body None values ws scope {at} {to} s b h e f g d =
      let first = value_code test in
      let inside = body_code body in
      let test_at = other_part code.instrs (one i.Step) (first ⨾ over i.Jz inside.size ⨾ inside) (one_sized i.Step) h in
      let jump_at = other_part code.instrs first (over i.Jz inside.size ⨾ inside) (value_sized test) test_at in
      let body_at = other_part code.instrs (over i.Jz inside.size) inside (over_sized i.Jz inside.size) jump_at in
      let ends = body_at.ends in
      let near : at + 1 + first.size ≡ at + 1 + size_of (test ∷ []) = omega arith in
      one_finishes s (at + 1 + size_of (test ∷ [])) values (λ vs. Goes s (at_zero (int_in (last_of vs)) ws (before a.activation.frame body ws))) e (λ o.
      subst (λ n. FollowsOn s n (o ∷ []) (Goes s (at_zero (int_in o) ws (before a.activation.frame body ws)))) near
      (jz_lands inside.size s ws (before a.activation.frame body ws) o b (first_part code.instrs (over i.Jz inside.size) inside jump_at)
      (works scope (subst (λ n. DoesAt scope n ws) (sym ends) d))
      (works scope (before_does code.instrs a.activation body ws scope f body_at d))))
  if_finishes test body (Some other) values ws scope {at} {to} s b h e f g d =
      let first = value_code test in
      let inside = body_code body in
      let others = body_code other in
      let past = over i.Jump others.size ⨾ others in
      let test_at = other_part code.instrs (one i.Step) (first ⨾ over i.Jz (inside.size + 1) ⨾ inside ⨾ past) (one_sized i.Step) h in
      let jz_at = other_part code.instrs first (over i.Jz (inside.size + 1) ⨾ inside ⨾ past) (value_sized test) test_at in
      let body_at = other_part code.instrs (over i.Jz (inside.size + 1)) (inside ⨾ past) (over_sized i.Jz (inside.size + 1)) jz_at in
      let jump_at = other_part code.instrs inside past (body_sized body) body_at in
      let other_at = other_part code.instrs (over i.Jump others.size) others (over_sized i.Jump others.size) jump_at in
      let ends = other_at.ends in
      let start = at + 1 + first.size + 1 in
      let far : start + inside.size + 1 ≡ start + (inside.size + 1) = omega arith in
      let near : at + 1 + first.size ≡ at + 1 + size_of (test ∷ []) = omega arith in
      let after_body = jumps_do code.instrs a.activation scope ws (jump jump_at.has.0 here) (subst (λ n. DoesAt scope n ws) (sym ends) d) in
      one_finishes s (at + 1 + size_of (test ∷ [])) values (λ vs. Goes s (at_zero (int_in (last_of vs)) (before a.activation.frame other ws) (before a.activation.frame body ws))) e (λ o.
      subst (λ n. FollowsOn s n (o ∷ []) (Goes s (at_zero (int_in o) (before a.activation.frame other ws) (before a.activation.frame body ws)))) near
      (jz_lands (inside.size + 1) s (before a.activation.frame other ws) (before a.activation.frame body ws) o b (first_part code.instrs (over i.Jz (inside.size + 1)) (inside ⨾ past) jz_at)
      (works scope (subst (λ n. DoesAt scope n (before a.activation.frame other ws)) far (before_does code.instrs a.activation other ws scope g other_at d)))
      (works scope (before_does code.instrs a.activation body ws scope f (first_part code.instrs inside past body_at) after_body))))

  -- ---- blocks and threads

  do_keeps : (slot : ℕ) (body : List Command) (ws : List Work) (scope : Scope) {at to : ℕ} (s : Held) → Born s →
      Placed code.instrs (command_step (pieces_of (Command-F.Do slot body))) scope.exits at to → are_well_formed body in_block ≡ true → DoesAt scope to ws →
      At s (at + 1) [] (Goes (entered s a.activation.frame slot) (before a.activation.frame body (Close (next_block s) ∷ ws)))
  do_keeps slot body ws scope {at} {to} s b h g d =
      let last = one i.Step ⨾ one (i.Finish slot) in
      let enter_at = other_part code.instrs (one i.Step) (one (i.Enter slot) ⨾ body_code body ⨾ last) (one_sized i.Step) h in
      let body_at = other_part code.instrs (one (i.Enter slot)) (body_code body ⨾ last) (one_sized (i.Enter slot)) enter_at in
      let last_at = other_part code.instrs (body_code body) last (body_sized body) body_at in
      let inner = within a.activation (next_block s ∷ a.activation.entered) in
      keeps code bound R a c (turns.enters slot s (at + 1) (before a.activation.frame body (Close (next_block s) ∷ ws)) b enter_at.has.0
      (works (blocked scope) (before_does code.instrs inner body (Close (next_block s) ∷ ws) (blocked scope) g (first_part code.instrs (body_code body) last body_at) (record {
        at = at + 1 + 1 + (body_code body).size;
        to = to;
        jumps = here;
        slot = slot;
        exits = scope.exits;
        stands = last_at;
        no_loop = refl;
        in_block = refl;
        below = a.activation.entered;
        entered = refl;
        outer = scope;
        rest = d;
      }))))

  -- The instruction leads two ways: the new thread to the body, whose code ends with `End`, and its creator past it.
  async_keeps : (slots : ℕ) (body : List Command) (ws : List Work) (scope : Scope) {at to : ℕ} (s : Held) → Born s →
      Placed code.instrs (command_step (pieces_of (Command-F.Async slots body))) scope.exits at to → scope.block && are_well_formed body in_block ≡ true →
      DoesAt scope to ws → At s (at + 1) []
      (or_trap s (begun s.store (Some a.activation.frame) (replicate slots no_int))
      (λ t. Starts (with_store s t) (next_frame s.store) (before (next_frame s.store) body (End (next_frame s.store) ∷ [])) ws))
  async_keeps slots body ws scope {at} {to} s b h g d =
      let forms = both_true scope.block (are_well_formed body in_block) g in
      let size = (body_code body).size in
      let start = over (i.Async slots) (size + 1) in
      let start_at = other_part code.instrs (one i.Step) (start ⨾ body_code body ⨾ one i.End) (one_sized i.Step) h in
      let body_at = other_part code.instrs start (body_code body ⨾ one i.End) (over_sized (i.Async slots) (size + 1)) start_at in
      let end_at = other_part code.instrs (body_code body) (one i.End) (body_sized body) body_at in
      let ends = end_at.ends in
      let past : to ≡ at + 1 + 1 + (size + 1) = omega (arith, ends) in
      let held = does_in_block code.instrs scope a.activation to ws forms.0 d in
      let own = started a.activation (next_frame s.store) in
      keeps code bound R a c (turns.starts slots (at + 1 + 1 + (size + 1)) s (at + 1) (before (next_frame s.store) body (End (next_frame s.store) ∷ [])) ws b start_at.has.0
      (works scope (subst (λ n. DoesAt scope n ws) past d))
      (works (blocked scope) (before_does code.instrs own body (End (next_frame s.store) ∷ []) (blocked scope) forms.1 (first_part code.instrs (body_code body) (one i.End) body_at)
      (record {
        at = at + 1 + 1 + size;
        jumps = here;
        stands = end_at.has.0;
        no_loop = refl;
        in_block = refl;
        own_is = refl;
        alone = refl;
        entered = refl;
        block = held.block;
        others = held.others;
        around = held.is;
        nothing = refl;
      }))))

  -- ---- all statements

  -- a statement without operands
  none_finish : (values : List Cell) (s : Held) (at : ℕ) (next : Next) → length values ≡ 0 → At s (at + 1) [] next → FinishesAt s (at + 1 + 0) values next
  none_finish values s at next e f =
      let near : at + 1 ≡ at + 1 + 0 = omega arith in
      no_finish s (at + 1 + 0) values (λ vs. next) e (subst (λ n. At s n [] next) near f)

  -- Each form hands its parts to the law of its own above.
  pub form_finishes : (self : Command) (ws : List Work) (scope : Scope) {at to : ℕ} (s : Held) → Born s → Placed code.instrs (command_code self) scope.exits at to →
      is_well_formed self (round_of scope) ≡ true → DoesAt scope to ws →
      (x : Command-F Command) → out-Command self ≡ x → Placed code.instrs (command_step (pieces_of x)) scope.exits at to → placed_step (tests_of x) (round_of scope) ≡ true →
      (values : List Cell) → length values ≡ length (operands_of x) → FinishesAt s (at + 1 + size_of (operands_of x)) values (finish_form program self x values a.activation.frame ws s)
  form_finishes self ws scope {at} {to} s b whole form d Command-F.Nothing e h g values n =
      none_finish values s at (Goes s ws) n (subst (λ p. At s p [] (Goes s ws)) (sym h.ends) (lands_here s to ws scope b d))
  form_finishes self ws scope s b whole form d (Command-F.Set target value) e h g values n = set_finishes target value values s ws scope b h n d
  form_finishes self ws scope {at} {to} s b whole form d (Command-F.Clear slot len) e h g values n =
      let clear_at = other_part code.instrs (one i.Step) (one (i.Clear slot len)) (one_sized i.Step) h in
      let u = with_store s (with_cleared s.store a.activation.frame slot len) in
      none_finish values s at (Goes u ws) n (keeps code bound R a c (piece_follows code bound R a c {exits = scope.exits} (i.Clear slot len) clear_at (lands_here u to ws scope b d) (λ k. refl)))
  form_finishes self ws scope {at} {to} s b whole form d (Command-F.Run value) e h g values n =
      let value_at = other_part code.instrs (one i.Step) (value_code value ⨾ one i.Drop) (one_sized i.Step) h in
      let drop_at = other_part code.instrs (value_code value) (one i.Drop) (value_sized value) value_at in
      let near : at + 1 + (value_code value).size ≡ at + 1 + size_of (value ∷ []) = omega arith in
      one_finishes s (at + 1 + size_of (value ∷ [])) values (λ vs. Goes s ws) n (λ o.
      subst (λ p. FollowsOn s p (o ∷ []) (Goes s ws)) near (piece_follows code bound R a c {exits = scope.exits} i.Drop drop_at (lands_here s to ws scope b d) (λ k. refl)))
  form_finishes self ws scope s b whole form d (Command-F.Print text args) e h g values n =
      let last = one (i.Print text (length args)) in
      let args_at = other_part code.instrs (one i.Step) (values_code args ⨾ last) (one_sized i.Step) h in
      print_finishes text args values s ws scope b (other_part code.instrs (values_code args) last (values_sized args) args_at) n d
  form_finishes self ws scope s b whole form d (Command-F.If test body None) e h g values n =
      if_finishes test body None values ws scope s b h n (both_true (are_well_formed body (round_of scope)) true g).0 refl d
  form_finishes self ws scope s b whole form d (Command-F.If test body (Some other)) e h g values n =
      let forms = both_true (are_well_formed body (round_of scope)) (are_well_formed other (round_of scope)) g in
      if_finishes test body (Some other) values ws scope s b h n forms.0 forms.1 d
  form_finishes self ws scope {at} {to} s b whole form d (Command-F.While test body) e h g values n =
      loop_finishes self ws scope at_loop (Some test) body no_code values s b no_sized n whole form d h g (ap (λ x. exits_in (pieces_of x) at) e) (λ parts.
      let head = test_code (Some test) ((body_code body).size + 1) in
      let mid = at + (head.size + (body_code body).size) in
      let near : mid + 0 ≡ mid = omega arith in
      subst (λ n. Jumps code.instrs n at) near (jump parts.back here))
  form_finishes self ws scope {at} {to} s b whole form d (Command-F.For test next body) e h g values n =
      loop_finishes self ws scope at_next test body (body_code next) values s b (body_sized next) n whole form d h
      (both_true (are_well_formed body (in_loop (round_of scope))) (are_well_formed next (round_of scope)) g).0 (ap (λ x. exits_in (pieces_of x) at) e)
      (λ parts. here)
  form_finishes self ws scope {at} {to} s b whole form d Command-F.Break e h g values n =
      let out_at = other_part code.instrs (one i.Step) out_past (one_sized i.Step) h in
      none_finish values s at (Goes s (past_loop ws)) n (keeps code bound R a c (one_follows code bound R a c (i.Jump scope.exits.past) out_at.has.0
      (land s scope.exits.past (past_loop ws) b (break_works code.instrs a.activation ws scope to g d)) (λ k. refl)))
  form_finishes self ws scope {at} {to} s b whole form d Command-F.Continue e h g values n =
      let out_at = other_part code.instrs (one i.Step) out_turn (one_sized i.Step) h in
      none_finish values s at (Goes s (at_turn ws)) n (keeps code bound R a c (one_follows code bound R a c (i.Jump scope.exits.turn) out_at.has.0
      (land s scope.exits.turn (at_turn ws) b (continue_works code.instrs a.activation ws scope to g d)) (λ k. refl)))
  form_finishes self ws scope {at} {to} s b whole form d (Command-F.Return None) e h g values n =
      let push_at = other_part code.instrs (one i.Step) (one (i.Push (pos 0)) ⨾ one i.Ret) (one_sized i.Step) h in
      let ret_at = other_part code.instrs (one (i.Push (pos 0))) (one i.Ret) (one_sized (i.Push (pos 0))) push_at in
      none_finish values s at (returns (pos 0) ws s) n
      (keeps code bound R a c (piece_follows code bound R a c {exits = scope.exits} (i.Push (pos 0)) (first_part code.instrs (one (i.Push (pos 0))) (one i.Ret) push_at)
      (keeps code bound R a c (returns_follow code program same fine bound R a c stands ws scope to (not_true scope.block g) d s (at + 1 + 1) (cell.Int (pos 0)) b ret_at.has.0)) (λ k. refl)))
  form_finishes self ws scope {at} {to} s b whole form d (Command-F.Return (Some value)) e h g values n =
      let value_at = other_part code.instrs (one i.Step) (value_code value ⨾ one i.Ret) (one_sized i.Step) h in
      let ret_at = other_part code.instrs (value_code value) (one i.Ret) (value_sized value) value_at in
      let near : at + 1 + (value_code value).size ≡ at + 1 + size_of (value ∷ []) = omega arith in
      one_finishes s (at + 1 + size_of (value ∷ [])) values (λ vs. returns (value_or_zero (Some value) vs) ws s) n (λ o.
      subst (λ p. FollowsOn s p (o ∷ []) (returns (int_in o) ws s)) near
      (returns_follow code program same fine bound R a c stands ws scope to (not_true scope.block g) d s (at + 1 + (value_code value).size) o b ret_at.has.0))
  form_finishes self ws scope {at} {to} s b whole form d (Command-F.Do slot body) e h g values n = none_finish values s at _ n (do_keeps slot body ws scope s b h g d)
  form_finishes self ws scope {at} {to} s b whole form d (Command-F.Async slots body) e h g values n = none_finish values s at _ n (async_keeps slots body ws scope s b h g d)
  form_finishes self ws scope {at} {to} s b whole form d (Command-F.Cancel level slot) e h g values n =
      let cancel_at = other_part code.instrs (one i.Step) (one (i.Cancel level slot)) (one_sized i.Step) h in
      let goes = CallOff a.activation.frame level slot ∷ ws in
      none_finish values s at (Goes s goes) n
      (lands_in code program same fine bound R a c stands s (at + 1) goes scope b
      (record { at = at + 1; jumps = here; stands = cancel_at.has.0; own_is = refl; rest = subst (λ n. DoesAt scope n ws) (sym cancel_at.ends) d }))
  form_finishes self ws scope {at} {to} s b whole form d Command-F.Yield e h g values n =
      let yield_at = other_part code.instrs (one i.Step) (one i.Yield) (one_sized i.Step) h in
      let after : DoesAt scope (at + 1 + 1) ws = subst (λ n. DoesAt scope n ws) (sym yield_at.ends) d in
      none_finish values s at (Yields s ws) n (keeps code bound R a c (turns.yields s (at + 1) ws b yield_at.has.0 (works scope after)))
