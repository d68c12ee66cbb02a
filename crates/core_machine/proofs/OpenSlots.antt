-- The slot that keeps a block which is entered lies in the frame of the body in which the block was entered. Used by Found for cancels.
-- An invariant of the shapes that code reaches (`Lie`), by induction on how they are reached; a body or a block more leaves the blocks before it where they lie.
use Rattle.std.proofs.Common.{◌≡◌, ℕ, zero, suc, ◌+◌, ◌-◌, ◌<◌, ◌≤◌, List, [], ◌∷◌, Some, None, Bool, true, false, refl, sym, ap, ◌∙◌, subst, arith}
use Rattle.std.specs.Prelude.{slice_get, length, nat_eq, nat_le, ◌||◌, if◌then◌else◌}
use Rattle.std.specs.List.{list_any}
use Rattle.std.proofs.lemmas.Bool.{and_parts, eqb-true}
use Rattle.std.proofs.lemmas.Bool.Decides.{nat_tests}
use Rattle.std.proofs.lemmas.Option.{slice_get_within}
use Rattle.stack_code.specs.declared.shape.Body.{Body}
use Rattle.stack_code.specs.declared.shape.OpenBlock.{OpenBlock}
use Rattle.stack_code.specs.declared.shape.Shape.{Shape}
use Rattle.stack_code.specs.Parts.{Parts}
use Rattle.stack_code.specs.Shapes.{body_with, is_block}
use Rattle.stack_code.specs.Valid as valid
use Rattle.stack_code.specs.Valid.{Reaches}
use Rattle.stack_code.proofs.Leading.{HoldsAround, leading}
use Rattle.code_safety.proofs.Taken.{on_some_is, if_is}

-- ---- the blocks of a shape

-- the block lies in one of these bodies, and its slot in the frame of that
pub record LiesIn (bodies : List Body) (block : OpenBlock) : Type 0 where
  pub within : block.bodies ≤ length bodies
  pub slot : (level : ℕ) (body : Body) → slice_get bodies level ≡ Some body → length bodies - level ≡ block.bodies → block.slot < body.slots

abbrev pub AllLie : List Body → List OpenBlock → Type 0
AllLie bodies [] = Unit {0}
AllLie bodies (block ∷ blocks) = LiesIn bodies block × AllLie bodies blocks

abbrev pub Lie : Shape → Type 0
Lie s = AllLie s.bodies s.blocks

-- one body more
lies_deeper : (inner : Body) (bodies : List Body) (block : OpenBlock) → LiesIn bodies block → LiesIn (inner ∷ bodies) block
lies_deeper inner bodies block h = record { within = let w = h.within in omega (arith, w); slot = by }
  where
    by : (level : ℕ) (body : Body) → slice_get (inner ∷ bodies) level ≡ Some body → length (inner ∷ bodies) - level ≡ block.bodies → block.slot < body.slots
    by zero body there e = let w = h.within in absurd (omega (arith, w, e))
    by (suc level) body there e = h.slot level body there (omega (arith, e))

all_deeper : (inner : Body) (bodies : List Body) (blocks : List OpenBlock) → AllLie bodies blocks → AllLie (inner ∷ bodies) blocks
all_deeper inner bodies [] h = tt
all_deeper inner bodies (block ∷ blocks) h = (lies_deeper inner bodies block h.0, all_deeper inner bodies blocks h.1)

-- one block more
lies_there : (s : Shape) (slot : ℕ) (body : Body) → body_with s 0 slot 1 ≡ Some body → LiesIn s.bodies (record { bodies = length s.bodies; slot = slot })
lies_there s slot body e = record { within = omega arith; slot = by }
  where
    own : (b : Body) × ((slice_get s.bodies 0 ≡ Some b) × ((if nat_le (slot + 1) b.slots then Some b else None) ≡ Some body))
    own = on_some_is (slice_get s.bodies 0) (λ (b : Body). if nat_le (slot + 1) b.slots then Some b else None) body e

    by : (level : ℕ) (b : Body) → slice_get s.bodies level ≡ Some b → length s.bodies - level ≡ length s.bodies → slot < b.slots
    by zero b there same =
        let is : own.0 ≡ b = let both : Some own.0 ≡ Some b = sym own.1.0 ∙ there in cc in
        let room = (if_is (nat_le (slot + 1) own.0.slots) (Some own.0) body own.1.1).0 in
        let fits : slot < own.0.slots = grind (arith, nat_tests) in
        subst (λ (x : Body). slot < x.slots) is fits
    by (suc level) b there same = let w = slice_get_within s.bodies (suc level) b there in absurd (omega (arith, w, same))

-- the block in that slot, where it is entered
pub slot_of_entered : (n level slot : ℕ) (bodies : List Body) (blocks : List OpenBlock) (body : Body) → length bodies ≡ n → slice_get bodies level ≡ Some body → AllLie bodies blocks
    → list_any (is_block (n - level) slot) blocks ≡ true → slot < body.slots
slot_of_entered n level slot bodies [] body long there h e = let no : false ≡ true = e in absurd (cc)
slot_of_entered n level slot bodies (block ∷ blocks) body long there h e =
    by (slot_of_entered n level slot bodies blocks body long there h.1) (is_block (n - level) slot block) refl e
  where
    by : (list_any (is_block (n - level) slot) blocks ≡ true → slot < body.slots) → (b : Bool) → is_block (n - level) slot block ≡ b → (b || list_any (is_block (n - level) slot) blocks) ≡ true
        → slot < body.slots
    by later true is f =
        let parts = and_parts (nat_eq block.bodies (n - level)) (nat_eq block.slot slot) is in
        let same : block.bodies ≡ n - level = eqb-true block.bodies (n - level) parts.0 in
        let lies = h.0.slot level body there (ap (λ k. k - level) long ∙ sym same) in
        subst (λ x. x < body.slots) (eqb-true block.slot slot parts.1) lies
    by later false is f = later f

-- ---- what is reached

around : (code : Parts) (s : Shape) → Lie s → HoldsAround code s Lie
around code s lie = record {
  kept = λ kinds. lie;
  more = λ slot body r. (lies_there s slot body r, lie);
  less = λ block blocks is. (subst (AllLie s.bodies) is lie).1;
  begun = λ number function is. tt;
}

pub lie_there : (code : Parts) (at : ℕ) (s : Shape) → Reaches code at s → Lie s
lie_there code _ _ (valid.begins core function entry) = tt
lie_there code _ _ (valid.goes at s to t r g) =
    let lie = lie_there code at s r in
    leading code at s Lie (around code s lie) g.fits.leads g.fits.instr (λ slots to is. all_deeper _ s.bodies s.blocks lie) g.fits.finds to t g.leads
