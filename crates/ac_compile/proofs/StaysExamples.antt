-- A program that was accepted, and stays as it was.
use Rattle.std.proofs.Common.{◌≡◌, refl, sym, ap, subst, ℕ, zero, suc, [], ◌∷◌, codes, true, false, Some, None, arith}
use Rattle.std.specs.Prelude.{pos, slice_get}
use Rattle.ac_tree.specs.declared.expr.Expr.{Expr}
use Rattle.ac_tree.specs.declared.expr.Expr.TheVariants as e
use Rattle.ac_tree.specs.declared.stmt.Stmt.TheVariants as s
use Rattle.ac_tree.specs.declared.stmt.Stmt.{Stmt}
use Rattle.ac_tree.specs.declared.item.Item.TheVariants as i
use Rattle.ac_tree.specs.declared.item.Program.{Program}
use Rattle.ac_tree.proofs.Folds.{expr_folds, stmt_folds}
use Rattle.core_state.specs.Frames.{first_frame}
use Rattle.ac_semantics.specs.Statements.{does}
use Rattle.ac_compile.specs.Plain.{plain_does}
use Rattle.ac_semantics.proofs.Examples.{two_functions, prints_a_call}
use Rattle.ac_reach.specs.declared.reached.Reached.{Reached}
use Rattle.ac_reach.specs.declared.reached.Reached.TheVariants as row
use Rattle.ac_reach.specs.Reached.{here_is, is_entry, is_called, Reaches, IsReachedBy, AreRows}
use Rattle.ac_types.specs.Reached.{all_calls, BreaksNone}
use Rattle.ac_types.proofs.Forms.{expr_is, stmt_is}
use Rattle.ac_types.proofs.Judging.{program_told, program_first}
use Rattle.ac_compile.specs.StandAlone.{Acts, expr_step, link_step, stmt_step, StandAlone}
use Rattle.ac_compile.specs.Earlier.{WasAccepted, IsPlainStep, StaysAsItWas, EarlierProgramsStay}
use Rattle.ac_compile.proofs.Staying.{plain_steps, programs_stay}
use Rattle.ac_compile.proofs.EarlierExamples.{program_of, assigns, one_more, it_does_not, gets, gets_one, it_is_alone, at_first, work_left, it_calls, it_is_over_plainly}

-- core a(f); core b(f); async void f() { int x = g(); } int g() { return 1; }
abbrev g_call : Expr
g_call = e.Call 46 (codes "g") []

abbrev gets_g : Stmt
gets_g = s.Int 38 (codes "x") (Some g_call)

abbrev gives_one : Stmt
gives_one = s.Return 64 (Some (e.Number 71 (pos 1)))

abbrev calls_once : Program
calls_once = record {
  items = i.Core 0 (codes "a") (codes "f")
      ∷ i.Core 11 (codes "b") (codes "f")
      ∷ i.Function (record { at = 22; is_async = true; gives_int = false; name = codes "f"; params = []; body = gets_g ∷ [] })
      ∷ i.Function (record { at = 54; is_async = false; gives_int = true; name = codes "g"; params = []; body = gives_one ∷ [] })
      ∷ [];
}

f_calls_g : all_calls calls_once.items ≡ (1 ∷ []) ∷ [] ∷ []
f_calls_g = rw (
  stmt_is _ (s.rolls-Int 38 (codes "x") (Some g_call)),
  expr_is _ (e.rolls-Call 46 (codes "g") []),
  stmt_is _ (s.rolls-Return 64 (Some (e.Number 71 (pos 1)))),
  expr_is _
      (e.rolls-Number 71 (pos 1)),
) refl

zero_is_not_one : ◌≡◌ {A = ℕ} 0 1 → ⊥
zero_is_not_one h = omega (arith, h)

-- both cores reach both functions
its_rows : AreRows ((1 ∷ []) ∷ [] ∷ []) (Some 0 ∷ Some 0 ∷ []) (row.BySeveral ∷ row.BySeveral ∷ [])
its_rows = record { count = refl; each = each }
  where
    reaches : (core : ℕ) → Reaches ((1 ∷ []) ∷ [] ∷ []) (Some 0 ∷ Some 0 ∷ []) core 0 → Reaches ((1 ∷ []) ∷ [] ∷ []) (Some 0 ∷ Some 0 ∷ []) core 1
    reaches core h = is_called 0 1 h (record { row = 1 ∷ []; stands = refl; among = here_is [] })

    each : (function : ℕ) (found : Reached) → slice_get (row.BySeveral ∷ row.BySeveral ∷ []) function ≡ Some found → IsReachedBy ((1 ∷ []) ∷ [] ∷ []) (Some 0 ∷ Some 0 ∷ []) function found
    each zero row.ByNone h = cc
    each zero (row.ByOne k) h = cc
    each zero row.BySeveral h = record { one = 0; other = 1; differ = zero_is_not_one; one_does = is_entry 0 refl; other_does = is_entry 0 refl }
    each (suc zero) row.ByNone h = cc
    each (suc zero) (row.ByOne k) h = cc
    each (suc zero) row.BySeveral h = record { one = 0; other = 1; differ = zero_is_not_one; one_does = reaches 0 (is_entry 0 refl); other_does = reaches 1 (is_entry 0 refl) }
    each (suc (suc function)) found h = cc

it_breaks_none : BreaksNone calls_once.items
it_breaks_none =
    program_told calls_once.items (row.BySeveral ∷ row.BySeveral ∷ []) (subst (λ calls. AreRows calls (Some 0 ∷ Some 0 ∷ []) (row.BySeveral ∷ row.BySeveral ∷ [])) (sym f_calls_g) its_rows) None
    (rw (
      stmt_is _ (s.rolls-Int 38 (codes "x") (Some g_call)),
      expr_is _ (e.rolls-Call 46 (codes "g") []),
      stmt_is _ (s.rolls-Return 64 (Some (e.Number 71 (pos 1)))),
      expr_is _ (e.rolls-Number 71
          (pos 1)),
    ) refl)

its_calls_stand_alone : StandAlone calls_once
its_calls_stand_alone = rw (
  stmt_folds stmt_step _ (s.rolls-Int 38 (codes "x") (Some g_call)),
  stmt_folds stmt_step _ (s.rolls-Return 64 (Some (e.Number 71 (pos 1)))),
  ap (λ (x : Acts). x.nested) (expr_folds expr_step link_step _ (e.rolls-Call 46 (codes "g") [])),
  ap (λ (x : Acts). x.nested) (expr_folds expr_step link_step _ (e.rolls-Number 71 (pos 1))),
) refl

pub it_was_accepted : WasAccepted calls_once
it_was_accepted = (it_breaks_none, its_calls_stand_alone)

-- x = 1 + f();
pub it_was_not : WasAccepted (program_of (assigns one_more ∷ [])) → ⊥
it_was_not h = it_does_not h.1

pub it_stays : StaysAsItWas calls_once
it_stays = programs_stay calls_once it_was_accepted

-- a program without a core is none
pub no_program_stays : StaysAsItWas (record { items = [] }) → ⊥
no_program_stays h = let first = program_first [] _ refl in h.accepted first.number _ first.is

pub they_stay : EarlierProgramsStay
they_stay = programs_stay

-- x = f(2);
pub its_step_is_plain : IsPlainStep gets_one gets
its_step_is_plain = plain_steps gets_one gets it_is_alone

-- printf("%d\n", 1+f(2)*3);
pub its_step_is_not_plain : IsPlainStep two_functions prints_a_call → ⊥
its_step_is_not_plain h =
    let e : work_left (does two_functions prints_a_call first_frame [] at_first) ≡ work_left (plain_does two_functions prints_a_call first_frame [] at_first)
    = ap work_left (h.first first_frame [] at_first) in
    omega (arith, e, it_calls, it_is_over_plainly)
