-- What is reached in a code each of whose addresses is fine: one shape for each address, one use for each slot, and no circle without a
-- `Step`.
-- By induction on how an address is reached it has the table's shape; the rest is read off there (Circles for the last).
use Rattle.std.proofs.Common.{◌≡◌, ℕ, ◌<◌, ◌⊎◌, length, Bool, Option, Some, None, refl, sym, ap, ◌∙◌, subst, arith}
use Rattle.std.specs.Prelude.{slice_get}
use Rattle.stack_code.specs.declared.instr.Instr.{Instr}
use Rattle.stack_code.specs.declared.instr.Instr.TheVariants as i
use Rattle.stack_code.specs.declared.shape.Home.{Home}
use Rattle.stack_code.specs.declared.shape.Shape.{Shape}
use Rattle.stack_code.specs.Parts.{Parts}
use Rattle.stack_code.specs.Shapes.{params_of, LeadsTo}
use Rattle.stack_code.specs.Valid as valid
use Rattle.stack_code.specs.Valid.{Fits, Reaches, begins, goes, IsShaped, Quiet, TakesSteps, Slots, ints_of, home_at, Uses, param, loads, sets, enters, HasOneUse}
use Rattle.stack_code.proofs.Shaped.{leads_as}
use Rattle.ac_resolve.specs.InPlace.{Use, AsInt, AsBlock}
use Rattle.ac_compile.proofs.Points.{Table, ShapeAt, shape_within, one_shape, HasUse, stack_use, UsesInts, UsesWell, IsStart, AreCalled, IsLed, IsFine, Range}
use Rattle.ac_compile.proofs.Circles.{no_circle}

module _ (code : Parts) (t : Table) (long : length t.points ≡ length code.instrs) (called : AreCalled code t) (fine : Range code t 0 (length code.instrs)) where
  fine_at : (at : ℕ) (s : Shape) → ShapeAt t at s → IsFine code t at
  fine_at at s e = let lt = shape_within t at s e in fine at (omega arith) (omega (arith, lt, long))

  -- where a way leads from there
  led : (at : ℕ) (s : Shape) (e : ShapeAt t at s) (f : Fits code at s) (to : ℕ) (u : Shape) → LeadsTo f.leads to u → IsLed code t at to u
  led at s e f to u l =
      let here = fine_at at s e in
      here.leads to u (leads_as code at s here.shape (one_shape t at s here.shape e here.here) f here.fits to u l)

  reached : (at : ℕ) (s : Shape) → Reaches code at s → ShapeAt t at s
  reached _ _ (begins core function entry) = (called entry.entry function entry.function_is).0
  reached _ _ (goes at s to u r g) = (led at s (reached at s r) g.fits to u g.leads).kept

  pub shaped : IsShaped code
  shaped = record {
    fits = λ at s r. let e = reached at s r in let here = fine_at at s e in subst (Fits code at) (one_shape t at here.shape s here.here e) here.fits;
    same = λ at s u r q. one_shape t at s u (reached at s r) (reached at u q);
  }

  ahead : (at to : ℕ) → Quiet code at to → (at < to) ⊎ IsStart code to
  ahead at to q = (led at q.shape (reached at q.shape q.reached) q.goes.fits to q.next q.goes.leads).ahead

  pub takes_steps : TakesSteps code
  takes_steps = no_circle code ahead

  -- ---- slots

  used : (at : ℕ) (s : Shape) (instr : Instr) → Reaches code at s → slice_get code.instrs at ≡ Some instr → UsesWell code t instr s
  used at s instr r h =
      let e = reached at s r in
      let here = fine_at at s e in
      let same_instr : here.fits.instr ≡ instr = one_instr here.fits.instr instr (sym here.fits.here ∙ h) in
      subst (UsesWell code t instr) (one_shape t at here.shape s here.here e) (subst (λ x. UsesWell code t x here.shape) same_instr here.used)
    where
      one_instr : (x y : Instr) → Some x ≡ Some y → x ≡ y
      one_instr x y e = cc

  sets_well : (instr : Instr) (s : Shape) (slots : Slots) → ints_of instr ≡ Some slots → UsesWell code t instr s → UsesInts code t s slots.level slots.slot slots.len
  sets_well (i.Store level slot) s slots e u = let same : (record { level = level; slot = slot; len = 1 }) ≡ slots = cc in subst (λ (x : Slots). UsesInts code t s x.level x.slot x.len) same u
  sets_well (i.Arr level slot len) s slots e u = let same : (record { level = level; slot = slot; len = len }) ≡ slots = cc in subst (λ (x : Slots). UsesInts code t s x.level x.slot x.len) same u
  sets_well (i.Clear slot len) s slots e u = let same : (record { level = 0; slot = slot; len = len }) ≡ slots = cc in subst (λ (x : Slots). UsesInts code t s x.level x.slot x.len) same u
  sets_well _ s slots e u = let no : ◌≡◌ {A = Option Slots} None (Some slots) = e in cc

  -- what the table has of a use
  record Told (home : Home) (slot : ℕ) (u : valid.Use) : Type 0 where
    held : Use
    there : HasUse t home slot held
    same : u ≡ stack_use held

  module _ (params_well : (home : Home) (slot : ℕ) (array : Bool) → slice_get (params_of code home) slot ≡ Some array
      → (held : Use) × HasUse t home slot held × (valid.use_of array ≡ stack_use held)) where
    told : (home : Home) (slot : ℕ) (u : valid.Use) → Uses code home slot u → Told home slot u
    told home slot _ (param array e) = let h = params_well home slot array e in record { held = h.0; there = h.1; same = h.2 }
    told home slot _ (loads at level s r h e) =
        let l = used at s (i.Load level slot) r h home e in
        record { held = l.held; there = l.there; same = l.loaded }
    told home slot _ (sets at s instr slots r h e f le lt) =
        record { held = AsInt; there = sets_well instr s slots e (used at s instr r h) home f slot le lt; same = refl }
    told home slot _ (enters at s r h e) = record { held = AsBlock; there = used at s (i.Enter slot) r h home e; same = refl }

    one_held : (o : Option Use) (x y : Use) → o ≡ Some x → o ≡ Some y → x ≡ y
    one_held o x y e f = cc

    pub one_use : HasOneUse code
    one_use home slot u v x y =
        let a = told home slot u x in
        let b = told home slot v y in
        a.same ∙ ap stack_use (one_held _ a.held b.held a.there b.there) ∙ sym b.same
