-- The bodies in the shapes of a code are functions of it and `Async`s that stand in it.
-- By induction on how a shape is reached: a core's first shape has the body of its function, and Effects says what a way makes of the
-- bodies.
use Rattle.std.proofs.Common.{◌≡◌, ℕ, zero, suc, ◌<◌, List, length, Option, Some, None, refl, sym, ap, ◌∙◌, subst}
use Rattle.std.specs.Prelude.{slice_get, option_map}
use Rattle.stack_code.specs.declared.instr.Instr.{Instr}
use Rattle.stack_code.specs.declared.instr.Instr.TheVariants as i
use Rattle.stack_code.specs.declared.parts.Entered.{Entered}
use Rattle.stack_code.specs.declared.shape.Home.{Home}
use Rattle.stack_code.specs.declared.shape.Home.TheVariants as home
use Rattle.stack_code.specs.declared.shape.Body.{Body}
use Rattle.stack_code.specs.declared.shape.Shape.{Shape}
use Rattle.stack_code.specs.Parts.{Parts}
use Rattle.stack_code.specs.Shapes.{first, inner}
use Rattle.stack_code.specs.Valid.{Reaches, begins, goes, home_at}
use Rattle.stack_code.specs.inner.Bodies.{IsHome, IsBody}
use Rattle.graph_ranks.proofs.Places.{within}
use Rattle.stack_code.proofs.Effects.{Bodies, same, more, begin, leading}

abbrev pub AllBodies : Parts → List Body → Type 0
AllBodies code bodies = (level : ℕ) (body : Body) → slice_get bodies level ≡ Some body → IsBody code body

all_first : (code : Parts) (number : ℕ) (function : Entered) → slice_get code.functions number ≡ Some function → AllBodies code (first number function).bodies
all_first code number function f zero body h = let x : (record { home = home.Function number; slots = function.words }) ≡ body = cc in subst (IsBody code) x (function, (f, refl))
all_first code number function f (suc level) body h = let no : None ≡ Some body = h in cc

all_inner : (code : Parts) (at slots to : ℕ) (s : Shape) → slice_get code.instrs at ≡ Some (i.Async slots to) → AllBodies code s.bodies → AllBodies code (inner at slots s).bodies
all_inner code at slots to s here all zero body h = let x : (record { home = home.Async at; slots = slots }) ≡ body = cc in subst (IsBody code) x (to, here)
all_inner code at slots to s here all (suc level) body h = all level body h

all_on : (code : Parts) (at : ℕ) (instr : Instr) (s t : Shape) → slice_get code.instrs at ≡ Some instr → AllBodies code s.bodies → Bodies code at instr s t → AllBodies code t.bodies
all_on code at instr s t here all (same e) = subst (AllBodies code) (sym e) all
all_on code at instr s t here all (more slots to is e) = subst (AllBodies code) (sym e) (all_inner code at slots to s (here ∙ ap Some is) all)
all_on code at instr s t here all (begin number function f e) = subst (AllBodies code) (sym e) (all_first code number function f)

pub all_bodies : (code : Parts) (at : ℕ) (s : Shape) → Reaches code at s → AllBodies code s.bodies
all_bodies code _ _ (begins core function entry) = all_first code entry.entry function entry.function_is
all_bodies code _ _ (goes at s to t r g) = all_on code at g.fits.instr s t g.fits.here (all_bodies code at s r) (leading code at g.fits.instr s g.fits.leads g.fits.finds to t g.leads)

-- the number is one of the functions, or the address one of the code
abbrev pub HasHome : Parts → Home → Type 0
HasHome code (home.Function number) = number < length code.functions
HasHome code (home.Async at) = at < length code.instrs

has_home : (code : Parts) (h : Home) (slots : ℕ) → IsHome code h slots → HasHome code h
has_home code (home.Function number) slots w = within code.functions number w.0 w.1.0
has_home code (home.Async at) slots w = within code.instrs at (i.Async slots w.0) w.1

home_of : (code : Parts) (h : Home) (o : Option Body) → ((body : Body) → o ≡ Some body → IsBody code body) → option_map (λ (body : Body). body.home) o ≡ Some h → HasHome code h
home_of code h None all e = let no : None ≡ Some h = e in cc
home_of code h (Some body) all e = let x : body.home ≡ h = cc in subst (HasHome code) x (has_home code body.home body.slots (all body refl))

pub home_inside : (code : Parts) (at level : ℕ) (s : Shape) (h : Home) → Reaches code at s → home_at s level ≡ Some h → HasHome code h
home_inside code at level s h r e = home_of code h (slice_get s.bodies level) (λ body x. all_bodies code at s r level body x) e
