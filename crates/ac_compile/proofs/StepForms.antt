-- What tests, branches and blocks emit.
-- The jump of a test is emitted without its address, which is set when the end of the body is known; with `else` there are two such jumps.
-- Each law follows one emitting function from state to state.
use Rattle.std.proofs.Common.{◌≡◌, ℕ, ◌+◌, List, [], ◌++◌, length, Option, Some, None, refl, sym, ap, ◌∙◌, append-nil}
use Rattle.ac_commands.specs.declared.value.Value.{Value}
use Rattle.stack_code.specs.declared.instr.Instr.TheVariants as i
use Rattle.ac_translation.specs.Pieces.{Piece, one, ◌⨾◌, over}
use Rattle.ac_translation.specs.Translation.{value_code, if_code}
use Rattle.ac_compile.specs.inner.Emission.{Emitted, with_code, with_instr, with_outs, enclosed, decided, open_test}
use Rattle.ac_translation.proofs.Sized.{IsSized, one_sized, over_sized, both_sized, value_sized}
use Rattle.ac_compile.proofs.Emissions.{emitted, both_are, apart, over_then, grown, grown_to, two_are, three_are, four_are}

-- ---- tests

pub decided_sized : (test : Value) → IsSized (decided test)
decided_sized test = both_sized (one i.Step) (value_code test) (one_sized i.Step) (value_sized test)

-- a test that is there
pub tested : (x : Option Value) (test : Value) (e d : Emitted) → x ≡ Some test → d ≡ with_code (one (i.Jz 0)) (with_code (decided test) e) → d ≡ with_code (open_test x) e
tested x test e d is h = two_are (decided test) (one (i.Jz 0)) (decided_sized test) e _ d refl h ∙ ap (λ y. with_code (open_test y) e) (sym is)

pub jump_place : (test : Value) (e : Emitted) (jump : ℕ) → jump ≡ length (with_code (decided test) e).instrs → jump ≡ length e.instrs + (1 + (value_code test).size)
jump_place test e jump h = h ∙ grown (decided test) e (decided_sized test)

pub test_length : (test : Value) (e d : Emitted) → d ≡ with_code (one (i.Jz 0)) (with_code (decided test) e) → length d.instrs ≡ length e.instrs + (1 + (value_code test).size) + 1
test_length test e d h = grown_to (one (i.Jz 0)) (with_code (decided test) e) d (one_sized (i.Jz 0)) h ∙ ap (λ n. n + 1) (grown (decided test) e (decided_sized test))

-- ---- `if`

module _ (test : Value) (body : Piece) (s : IsSized body) (e d1 : Emitted) (jump : ℕ) (h : d1 ≡ with_code (one (i.Jz 0)) (with_code (decided test) e))
    (j : jump ≡ length (with_code (decided test) e).instrs) where
  -- what the test leaves
  at_test : Emitted
  at_test = with_code (decided test) e

  from_value : at_test ≡ with_code (value_code test) (with_code (one i.Step) e)
  unfolding at_test
  from_value = both_are (one i.Step) (value_code test) e (one_sized i.Step)

  pub then_emitted : (d2 d3 : Emitted) (to : ℕ) → d2 ≡ with_code body d1 → to ≡ length d2.instrs → d3 ≡ with_instr jump (i.Jz to) d2 → d3 ≡ with_code (if_code (value_code test) body None) e
  unfolding at_test
  then_emitted d2 d3 to f t g =
      four_are (one i.Step) (value_code test) (over i.Jz body.size) body (one_sized i.Step) (value_sized test) (over_sized i.Jz body.size) e (with_code (one i.Step) e) at_test
      (with_code (over i.Jz body.size) at_test) d3 refl from_value
      refl (over_then i.Jz (i.Jz 0) body at_test d1 d2 d3 jump to s h j f t g)

  pub else_emitted : (other : Piece) (r : IsSized other) (d2 d3 d4 d5 d6 : Emitted) (end to past : ℕ) → d2 ≡ with_code body d1 → end ≡ length d2.instrs → d3 ≡ with_code (one (i.Jump 0)) d2
      → to ≡ length d3.instrs → d4 ≡ with_instr jump (i.Jz to) d3 →
      d5 ≡ with_code other d4 → past ≡ length d5.instrs → d6 ≡ with_instr end (i.Jump past) d5 →
      d6 ≡ with_code (one i.Step ⨾ value_code test ⨾ over i.Jz (body.size + 1) ⨾ body ⨾ over i.Jump other.size ⨾ other) e
  unfolding at_test
  else_emitted other r d2 d3 d4 d5 d6 end to past f n g t k l p m =
      let q = body ⨾ one (i.Jump 0) in
      let o = over i.Jz (body.size + 1) in
      let y0 = with_code o at_test in
      let y1 = with_code body y0 in
      let whole = over_then i.Jz (i.Jz 0) q at_test d1 d3 d4 jump to (both_sized body (one (i.Jump 0)) s (one_sized (i.Jump 0))) h j (two_are body (one (i.Jump 0)) s d1 d2 d3 f g) t k in
      let fourth : d4 ≡ with_code (one (i.Jump 0)) y1 = apart body (one (i.Jump 0)) y0 d4 s whole in
      let here : end ≡ length y1.instrs =
      n
      ∙ grown_to body d1 d2 s f
      ∙ ap (λ k. k + body.size) (grown_to (one (i.Jz 0)) at_test d1 (one_sized (i.Jz 0)) h ∙ sym (grown o at_test (over_sized i.Jz (body.size + 1))))
      ∙ sym (grown body y0 s) in
      let sixth = over_then i.Jump (i.Jump 0) other y1 d4 d5 d6 end past r fourth here l p m in
      let behind = four_are o body (over i.Jump other.size) other (over_sized i.Jz (body.size + 1)) s (over_sized i.Jump other.size) at_test y0 y1
      (with_code (over i.Jump other.size) y1) d6 refl refl refl sixth in
      three_are (one i.Step) (value_code test) (o ⨾ (body ⨾ (over i.Jump other.size ⨾ other))) (one_sized i.Step) (value_sized test) e (with_code (one i.Step) e) at_test d6 refl from_value behind

-- ---- `do` and `async`

module _ (body : Piece) (s : IsSized body) where
  pub do_emitted : (slot : ℕ) (e d1 d2 d3 : Emitted) → d1 ≡ with_code (one i.Step ⨾ one (i.Enter slot)) e → d2 ≡ with_code body d1 → d3 ≡ with_code (one i.Step ⨾ one (i.Finish slot)) d2 →
      d3 ≡ with_code (one i.Step ⨾ one (i.Enter slot) ⨾ body ⨾ one i.Step ⨾ one (i.Finish slot)) e
  do_emitted slot e d1 d2 d3 f g h =
      four_are (one i.Step) (one (i.Enter slot)) body (one i.Step ⨾ one (i.Finish slot)) (one_sized i.Step) (one_sized (i.Enter slot)) s e (with_code (one i.Step) e) d1 d2 d3 refl
      (apart (one i.Step) (one (i.Enter slot)) e d1 (one_sized i.Step) f) g h

  pub async_emitted : (slots : ℕ) (e d1 d2 d3 d4 d5 : Emitted) (jump to : ℕ) → d1 ≡ with_code (one i.Step) e → jump ≡ length d1.instrs → d2 ≡ with_code (one (i.Async slots 0)) d1
      → d3 ≡ with_code body d2 → d4 ≡ with_code (one i.End) d3 →
      to ≡ length d4.instrs → d5 ≡ with_instr jump (i.Async slots to) d4 → d5 ≡ with_code (one i.Step ⨾ over (i.Async slots) (body.size + 1) ⨾ body ⨾ one i.End) e
  async_emitted slots e d1 d2 d3 d4 d5 jump to f j g h k t l =
      let q = body ⨾ one i.End in
      let o = over (i.Async slots) (body.size + 1) in
      let fifth = over_then (i.Async slots) (i.Async slots 0) q d1 d2 d4 d5 jump to (both_sized body (one i.End) s (one_sized i.End)) g j (two_are body (one i.End) s d2 d3 d4 h k) t l in
      three_are (one i.Step) o q (one_sized i.Step) (over_sized (i.Async slots) (body.size + 1)) e d1 (with_code o d1) d5 f refl fifth

-- ---- a body in a loop of its own

module _ (body : Piece) (ps ts : List ℕ) (e d1 d2 : Emitted) (p : ps ≡ []) (t : ts ≡ []) (f : d1 ≡ with_outs ps ts e) (g : d2 ≡ with_code body d1) where
  alone : d2 ≡ with_code body (with_outs [] [] e)
  alone = g ∙ ap (with_code body) (f ∙ ap (λ k. with_outs k ts e) p ∙ ap (λ k. with_outs [] k e) t)

  pub inside_emitted : (qs us : List ℕ) (d3 : Emitted) → qs ≡ e.pasts → us ≡ e.turns → d3 ≡ with_outs qs us d2 → d3 ≡ with_code (enclosed body) e
  unfolding with_code with_outs
  inside_emitted qs us d3 q u h =
      h
      ∙ ap (with_outs qs us) alone
      ∙ ap (λ k. emitted (e.instrs ++ (enclosed body).at (record { past = 0; turn = 0 }) (length e.instrs)) k us) (q ∙ sym (append-nil e.pasts))
      ∙ ap (λ k. emitted (e.instrs ++ (enclosed body).at (record { past = 0; turn = 0 }) (length e.instrs)) (e.pasts ++ []) k) (u ∙ sym (append-nil e.turns))

  pub inside_pasts : d2.pasts ≡ body.pasts (length e.instrs)
  unfolding with_code with_outs
  inside_pasts = ap (λ (d : Emitted). d.pasts) alone

  pub inside_turns : d2.turns ≡ body.turns (length e.instrs)
  unfolding with_code with_outs
  inside_turns = ap (λ (d : Emitted). d.turns) alone
