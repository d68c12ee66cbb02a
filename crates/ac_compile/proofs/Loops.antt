-- What loops emit.
-- The body of a loop is emitted while the exits of the loop round it are put aside; when the end of the loop is known its own are set
-- (Filling). Here these steps together make the piece `loop`.
use Rattle.std.proofs.Common.{◌≡◌, ℕ, ◌+◌, ◌<◌, ◌≤◌, List, [], ◌∷◌, ◌++◌, length, Option, Some, None, refl, sym, ap, ◌∙◌, subst, arith, append_assoc, append-nil, length-append}
use Rattle.std.specs.Prelude.{IfSome}
use Rattle.ac_commands.specs.declared.value.Value.{Value}
use Rattle.stack_code.specs.declared.instr.Instr.{Instr}
use Rattle.stack_code.specs.declared.instr.Instr.TheVariants as i
use Rattle.ac_translation.specs.Pieces.{Piece, one, ◌⨾◌, over, loop_end, loop}
use Rattle.ac_translation.specs.Translation.{no_exits, value_code, test_code}
use Rattle.ac_compile.specs.inner.Emission.{Emitted, with_code, with_jumps, jumps_set, AreBelow, enclosed, decided, open_test, test_jump, with_test}
use Rattle.ac_translation.proofs.Sized.{IsSized, one_sized, both_sized, value_sized, test_sized}
use Rattle.ac_compile.proofs.Filling.{exits, IsFilled, set_in_loop, below_more}
use Rattle.ac_compile.proofs.Emissions.{same, both_are, apart, over_then, grown_to, same_length, three_are}
use Rattle.ac_compile.proofs.StepForms.{decided_sized}

enclosed_sized : (p : Piece) → IsSized p → IsSized (enclosed p)
enclosed_sized p s = record { sized = λ exits place. s.sized no_exits place }

pub inside_length : (body : Piece) (e d : Emitted) → IsSized body → d ≡ with_code (enclosed body) e → length d.instrs ≡ length e.instrs + body.size
inside_length body e d s h = grown_to (enclosed body) e d (enclosed_sized body s) h

-- the jumps of a body stand before what is emitted after it
pub below_at : (ps qs : List ℕ) (n len : ℕ) → ps ≡ qs → AreBelow n qs → n ≤ len → AreBelow len ps
below_at ps qs n len e h le = subst (AreBelow len) (sym e) (below_more n len qs le h)

-- ---- the test

open_sized : (x : Option Value) → IsSized (open_test x)
open_sized None = one_sized i.Step
open_sized (Some test) = both_sized (decided test) (one (i.Jz 0)) (decided_sized test) (one_sized (i.Jz 0))

open_size : (x : Option Value) (count : ℕ) → (open_test x).size ≡ (test_code x count).size
open_size None count = refl
open_size (Some test) count = omega arith

pub open_length : (x : Option Value) (count : ℕ) (e d : Emitted) → d ≡ with_code (open_test x) e → length d.instrs ≡ length e.instrs + (test_code x count).size
open_length x count e d h = grown_to (open_test x) e d (open_sized x) h ∙ ap (λ n. length e.instrs + n) (open_size x count)

-- the jump of a test stands before what is emitted after it
pub jump_before : (x : Option Value) (e d : Emitted) (jump : Option ℕ) (len : ℕ) → d ≡ with_code (open_test x) e → jump ≡ test_jump x e → length d.instrs ≤ len → IfSome jump (λ at. at < len)
jump_before None e d jump len h j le = subst (λ k. IfSome k (λ at. at < len)) (sym j) tt
jump_before (Some test) e d jump len h j le =
    let x = with_code (decided test) e in
    let n = grown_to (one (i.Jz 0)) x d (one_sized (i.Jz 0)) (apart (decided test) (one (i.Jz 0)) e d (decided_sized test) h) in
    let lt : length x.instrs < len = omega (arith, n, le) in
    subst (λ k. IfSome k (λ at. at < len)) (sym j) lt

pub with_test_length : (jump : Option ℕ) (to : ℕ) (e d : Emitted) → d ≡ with_test jump to e → length d.instrs ≡ length e.instrs
with_test_length None to e d h = ap (λ (x : Emitted). length x.instrs) h
with_test_length (Some at) to e d h = same_length at (i.Jz to) e d h

-- the test once its jump is set
closed_test : (x : Option Value) (q : Piece) (s : IsSized q) (e d1 d2 d3 : Emitted) (jump : Option ℕ) (past : ℕ) → d1 ≡ with_code (open_test x) e → jump ≡ test_jump x e → d2 ≡ with_code q d1
    → past ≡ length d2.instrs → d3 ≡ with_test jump past d2 →
    d3 ≡ with_code q (with_code (test_code x q.size) e)
closed_test None q s e d1 d2 d3 jump past h j g p k = k ∙ ap (λ y. with_test y past d2) j ∙ g ∙ ap (with_code q) h
closed_test (Some test) q s e d1 d2 d3 jump past h j g p k =
    let x = with_code (decided test) e in
    let o = over i.Jz q.size in
    let first = apart (decided test) (one (i.Jz 0)) e d1 (decided_sized test) h in
    let head =
    three_are (one i.Step) (value_code test) o (one_sized i.Step) (value_sized test) e (with_code (one i.Step) e) x (with_code o x) refl
    (both_are (one i.Step) (value_code test) e (one_sized i.Step)) refl in
    over_then i.Jz (i.Jz 0) q x d1 d2 d3 (length x.instrs) past s first refl g p (k ∙ ap (λ y. with_test y past d2) j) ∙ ap (with_code q) head

-- ---- the whole

module _ (turns : ℕ → ℕ → ℕ) (body next : Piece) (f : IsFilled body) (r : IsSized next) (e : Emitted) where
  -- the body, and what stands after it
  abbrev behind : ℕ → Piece
  behind place = enclosed body ⨾ next ⨾ one (i.Jump place)

  behind_sized : (place : ℕ) → IsSized (behind place)
  behind_sized place = both_sized (enclosed body) _ (enclosed_sized body f.sized) (both_sized next (one (i.Jump place)) r (one_sized (i.Jump place)))

  -- the jumps of the body are set
  filled : (head : Piece) → IsSized head → (past turn : ℕ) → past ≡ loop_end (length e.instrs) head body next → turn ≡ turns (length e.instrs) (length e.instrs + (head.size + body.size)) →
      with_jumps turn (body.turns (length e.instrs + head.size)) (with_jumps past (body.pasts (length e.instrs + head.size)) (with_code (behind (length e.instrs)) (with_code head e)))
      ≡ with_code (loop turns head body next) e
  unfolding with_code with_jumps
  filled head s past turn p t =
      let n = length e.instrs in
      let front = head.at no_exits n in
      let start = e.instrs ++ front in
      let m : length start ≡ n + head.size = length-append e.instrs front ∙ ap (λ k. n + k) (s.sized no_exits n) in
      let after = λ (k : ℕ). next.at no_exits k ++ i.Jump n ∷ [] in
      let there : length start + body.size ≡ n + (head.size + body.size) = omega (arith, m) in
      same _ _ _ _ _ _
      (
      ap (λ k. jumps (start ++ (body.at no_exits k ++ after (length start + body.size)))) m
      ∙ set_in_loop body f past turn (n + head.size) start (after (length start + body.size)) m
      ∙ append_assoc e.instrs front (body.at (exits past turn) (n + head.size) ++ after (length start + body.size))
      ∙ ap (λ k. e.instrs ++ (front ++ (body.at (exits past turn) (n + head.size) ++ after k))) there
      ∙ ap (λ k. e.instrs ++ (front ++ (body.at (exits k turn) (n + head.size) ++ after (n + (head.size + body.size))))) p
      ∙ ap (λ k. e.instrs ++ (front ++ (body.at (exits (loop_end n head body next) k) (n + head.size) ++ after (n + (head.size + body.size))))) t
      )
      (outs e.pasts (head.pasts n) next.pasts (length start + body.size) (n + (head.size + body.size)) there)
      (outs e.turns (head.turns n) next.turns (length start + body.size) (n + (head.size + body.size)) there) where
        jumps : List Instr → List Instr
        jumps l = jumps_set turn (body.turns (length e.instrs + head.size)) (jumps_set past (body.pasts (length e.instrs + head.size)) l)

        outs : (xs ys : List ℕ) (zs : ℕ → List ℕ) (k l : ℕ) → k ≡ l → (xs ++ ys) ++ (zs k ++ []) ≡ xs ++ (ys ++ zs l)
        outs xs ys zs k l h = ap (λ w. (xs ++ ys) ++ w) (append-nil (zs k) ∙ ap zs h) ∙ append_assoc xs ys (zs l)

  pub loop_emitted : (x : Option Value) (d1 d2 d3 d4 d5 d6 : Emitted) (jump : Option ℕ) (place past turn : ℕ) (ps ts : List ℕ) → d1 ≡ with_code (open_test x) e → jump ≡ test_jump x e
      → d2 ≡ with_code (enclosed body) d1 →
      ps ≡ body.pasts (length d1.instrs) → ts ≡ body.turns (length d1.instrs) → d3 ≡ with_code next d2 → d4 ≡ with_code (one (i.Jump place)) d3 → place ≡ length e.instrs → past ≡ length d4.instrs
      → d5 ≡ with_test jump past d4 →
      turn ≡ turns place (length d2.instrs) → d6 ≡ with_jumps turn ts (with_jumps past ps d5) → d6 ≡ with_code (loop turns (test_code x (body.size + (next.size + 1))) body next) e
  loop_emitted x d1 d2 d3 d4 d5 d6 jump place past turn ps ts h1 j h2 p t h3 h4 l q h5 u h6 =
      let n = length e.instrs in
      let head = test_code x (body.size + (next.size + 1)) in
      let size1 = open_length x (body.size + (next.size + 1)) e d1 h1 in
      let size2 = grown_to (enclosed body) d1 d2 (enclosed_sized body f.sized) h2 in
      let rest = three_are (enclosed body) next (one (i.Jump place)) (enclosed_sized body f.sized) r d1 d2 d3 d4 h2 h3 h4 in
      let size4 = grown_to (behind place) d1 d4 (behind_sized place) rest in
      let code = closed_test x (behind place) (behind_sized place) e d1 d4 d5 jump past h1 j rest q h5 in
      h6
      ∙ ap (λ k. with_jumps turn k (with_jumps past ps d5)) (t ∙ ap body.turns size1)
      ∙ ap (λ k. with_jumps turn (body.turns (n + head.size)) (with_jumps past k d5)) (p ∙ ap body.pasts size1)
      ∙ ap (λ k. with_jumps turn (body.turns (n + head.size)) (with_jumps past (body.pasts (n + head.size)) k)) (code ∙ ap (λ k. with_code (behind k) (with_code head e)) l)
      ∙ filled head (test_sized x (body.size + (next.size + 1))) past turn (omega (arith, q, size4, size1)) (u ∙ ap (λ k. turns k (length d2.instrs)) l ∙ ap (turns n) (omega (arith, size1, size2)))
