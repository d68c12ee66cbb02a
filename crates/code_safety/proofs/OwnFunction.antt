-- An instruction leads on in its own function, or to the first address of one that it calls; so what a core comes to lies in a function
-- that it reaches.
-- In a code without functions `effect` leaves the bodies as they are or goes one in; only a call looks at the functions, and it alone leads
-- to another one.
use Rattle.std.proofs.Common.{◌≡◌, ℕ, ◌+◌, List, [], ◌∷◌, length, Option, Some, None, inl, inr, refl, sym, ap, subst}
use Rattle.std.specs.Prelude.{slice_get, nat_eq}
use Rattle.stack_code.specs.declared.instr.Instr.{Instr}
use Rattle.stack_code.specs.declared.instr.Instr.TheVariants as i
use Rattle.stack_code.specs.declared.parts.Entered.{Entered}
use Rattle.stack_code.specs.declared.shape.Home.{Home}
use Rattle.stack_code.specs.declared.shape.Home.TheVariants as home
use Rattle.stack_code.specs.declared.shape.Body.{Body}
use Rattle.stack_code.specs.declared.shape.CellKind.TheVariants as kind
use Rattle.stack_code.specs.declared.shape.Shape.{Shape}
use Rattle.stack_code.specs.declared.shape.Leads.{Leads}
use Rattle.stack_code.specs.declared.shape.Leads.TheVariants.{One, Two}
use Rattle.stack_code.specs.Parts.{Parts}
use Rattle.stack_code.specs.Shapes.{body_with, loaded, is_array, arguments, with_operands, pushed, first, calls, effect, LeadsTo}
use Rattle.stack_code.proofs.Effects.{Bodies, same, more, begin, leading}
use Rattle.code_safety.specs.KeptEnds.{outermost}
use Rattle.code_safety.proofs.Taken.{on_some_is, if_is, after_is}

-- ---- one instruction

-- the same bodies, one more round which they lie, or those of the function that is called, at its first address
pub data Stays (code : Parts) (instr : Instr) (s : Shape) (to : ℕ) (t : Shape) : Type 0 where
  within : t.bodies ≡ s.bodies → Stays code instr s to t
  into : (inner : Body) → t.bodies ≡ inner ∷ s.bodies → Stays code instr s to t
  called : (number count : ℕ) (function : Entered) → instr ≡ i.Call number count → slice_get code.functions number ≡ Some function → function.at ≡ to
      → first number function ≡ t → Stays code instr s to t

-- the code without its functions
abbrev bare : Parts → Parts
bare code = record code { functions = [] }

module _ (code : Parts) (at : ℕ) (s : Shape) (l : Leads) (to : ℕ) (t : Shape) (leads : LeadsTo l to t) where
  -- one that calls no function leads on as in code that has none
  as_bare : (instr : Instr) → Bodies (bare code) at instr s t → Stays code instr s to t
  as_bare instr (same e) = within e
  as_bare instr (more slots into_at is e) = into (record { home = home.Async at; slots = slots }) e
  as_bare instr (begin number function h e) = absurd (let no : ◌≡◌ {A = Option Entered} None (Some function) = h in cc)

  goes_alone : (instr : Instr) → effect (bare code) at instr s ≡ Some l → Stays code instr s to t
  goes_alone instr e = as_bare instr (leading (bare code) at instr s l e to t leads)

  loads : (level slot : ℕ) → effect code at (i.Load level slot) s ≡ Some l → Stays code (i.Load level slot) s to t
  loads level slot e =
      let x = on_some_is (body_with s level slot 1) _ l e in
      let is : One (at + 1) (pushed (loaded (is_array code x.0.home slot)) s) ≡ l = let both = x.1.1 in cc in
      let led = subst (λ k. LeadsTo k to t) (sym is) leads in
      within (ap (λ (z : Shape). z.bodies) (sym led.1))

  calls_one : (number count : ℕ) → effect code at (i.Call number count) s ≡ Some l → Stays code (i.Call number count) s to t
  calls_one number count e =
      let x = on_some_is (slice_get code.functions number) (calls at number count s) l e in
      let y = if_is (nat_eq count (length x.0.params)) _ l x.1.1 in
      let z = after_is (arguments x.0.params) s (λ (u : Shape). Some (Two (at + 1) (pushed kind.Int u) x.0.at (first number x.0))) l y.1 in
      let is : Two (at + 1) (pushed kind.Int (with_operands s z.0)) x.0.at (first number x.0) ≡ l = let both = z.1.1 in cc in
      elim (subst (λ k. LeadsTo k to t) (sym is) leads) as (λ _. Stays code (i.Call number count) s to t) [
        | inl h ↦ within (ap (λ (u : Shape). u.bodies) (sym h.1))
        | inr h ↦ called number count x.0 refl x.1.0 h.0 h.1
      ]

  pub stays : (instr : Instr) → effect code at instr s ≡ Some l → Stays code instr s to t
  stays (i.Load level slot) e = loads level slot e
  stays (i.Call number count) e = calls_one number count e
  stays instr e = goes_alone instr e

-- ---- the outermost body

pub still_outermost : (inner : Body) (bodies : List Body) (h : Home) → outermost bodies ≡ Some h → outermost (inner ∷ bodies) ≡ Some h
still_outermost inner [] h e = let no : ◌≡◌ {A = Option Home} None (Some h) = e in absurd (cc)
still_outermost inner (body ∷ bodies) h e = e
