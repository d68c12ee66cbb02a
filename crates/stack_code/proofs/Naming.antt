-- What an instruction names, and for what the code uses it.
-- From the table to the definition and back: `block_at` and `ints_at` name slots at an address by its one shape there, and `Uses` speaks of
-- every shape that is reached; the table has all of them (`IsTable`), so the two say the same.
use Rattle.std.proofs.Common.{◌≡◌, ℕ, ◌+◌, ◌<◌, ◌≤◌, List, Option, Some, None, Bool, true, false, refl, sym, ap, ◌∙◌, subst, arith}
use Rattle.std.specs.Prelude.{slice_get, if◌then◌else◌}
use Rattle.stack_code.specs.declared.instr.Instr.{Instr}
use Rattle.stack_code.specs.declared.instr.Instr.TheVariants as i
use Rattle.stack_code.specs.declared.shape.Home.{Home}
use Rattle.stack_code.specs.declared.shape.Shape.{Shape}
use Rattle.stack_code.specs.declared.uses.Named.{Named}
use Rattle.stack_code.specs.Parts.{Parts}
use Rattle.stack_code.specs.Shapes.{on_some, is_array}
use Rattle.stack_code.specs.Valid.{Slots, Reaches, home_at, ints_of, AsInt, AsBlock, use_of, Uses, loads, sets, enters}
use Rattle.stack_code.specs.Kept.{Has, IsTable}
use Rattle.stack_code.specs.inner.Reserve.{named_of, set_in, ints_in, block_in, named_at, ints_at, block_at}

-- the instruction at an address, where the address is reached, with its shape
pub record IsHere (code : Parts) (table : List (Option Shape)) (at : ℕ) (names : Shape → Instr → Option Named) (n : Named) : Type 0 where
  pub shape : Shape
  pub instr : Instr
  pub has : Has table at shape
  pub here : slice_get code.instrs at ≡ Some instr
  pub names_it : names shape instr ≡ Some n

is_here : (code : Parts) (table : List (Option Shape)) (at : ℕ) (names : Shape → Instr → Option Named) (n : Named) (o : Option (Option Shape)) (p : Option Instr) → slice_get table at ≡ o
    → slice_get code.instrs at ≡ p → named_at names o p ≡ Some n → IsHere code table at names n
is_here code table at names n None p t e h = let no : None ≡ Some n = h in cc
is_here code table at names n (Some None) p t e h = let no : None ≡ Some n = h in cc
is_here code table at names n (Some (Some s)) None t e h = let no : None ≡ Some n = h in cc
is_here code table at names n (Some (Some s)) (Some instr) t e h = record { shape = s; instr = instr; has = t; here = e; names_it = h }

pub here_of : (code : Parts) (table : List (Option Shape)) (at : ℕ) (names : Shape → Instr → Option Named) (n : Named) → named_at names (slice_get table at) (slice_get code.instrs at) ≡ Some n
    → IsHere code table at names n
here_of code table at names n h = is_here code table at names n (slice_get table at) (slice_get code.instrs at) refl refl h

pub here_named : (code : Parts) (table : List (Option Shape)) (at : ℕ) (names : Shape → Instr → Option Named) (s : Shape) (instr : Instr) → Has table at s → slice_get code.instrs at ≡ Some instr
    → named_at names (slice_get table at) (slice_get code.instrs at) ≡ names s instr
here_named code table at names s instr h e = ap (λ o. named_at names o (slice_get code.instrs at)) h ∙ ap (λ p. named_at names (Some (Some s)) p) e

-- ---- blocks

enters_by : (code : Parts) (at : ℕ) (s : Shape) (slot : ℕ) (n : Named) (o : Option Home) → Reaches code at s → slice_get code.instrs at ≡ Some (i.Enter slot) → home_at s 0 ≡ o
    → on_some o (λ home. Some (named_of home slot 1)) ≡ Some n → Uses code n.home n.slot AsBlock
enters_by code at s slot n None r here e h = let no : None ≡ Some n = h in cc
enters_by code at s slot n (Some home) r here e h =
    let x : named_of home slot 1 ≡ n = cc in
    subst (λ (z : Named). Uses code z.home z.slot AsBlock) x (enters at s r here e)

block_by : (code : Parts) (at : ℕ) (s : Shape) (instr : Instr) (n : Named) → Reaches code at s → slice_get code.instrs at ≡ Some instr → block_in code s instr ≡ Some n
    → Uses code n.home n.slot AsBlock
block_by code at s (i.Enter slot) n r here h = enters_by code at s slot n (home_at s 0) r here refl h
block_by code at s _ n r here h = let no : None ≡ Some n = h in cc

pub block_use : (code : Parts) (table : List (Option Shape)) (at : ℕ) (n : Named) → IsTable code table → block_at code table at ≡ Some n → Uses code n.home n.slot AsBlock
block_use code table at n t h = let w = here_of code table at (block_in code) n h in block_by code at w.shape w.instr n (t.reached at w.shape w.has) w.here w.names_it

-- ---- ints

-- the only slot there
one_slot : (slot x : ℕ) → slot ≤ x → x < slot + 1 → slot ≡ x
one_slot slot x a b = omega arith

loads_by : (code : Parts) (at : ℕ) (s : Shape) (level slot x : ℕ) (n : Named) (o : Option Home) → Reaches code at s → slice_get code.instrs at ≡ Some (i.Load level slot) → home_at s level ≡ o
    → on_some o (λ home. if is_array code home slot then None else Some (named_of home slot 1)) ≡ Some n → n.slot ≤ x → x < n.slot + n.len → Uses code n.home x AsInt
loads_by code at s level slot x n None r here e h a b = let no : None ≡ Some n = h in cc
loads_by code at s level slot x n (Some home) r here e h a b = by (is_array code home slot) refl h
  where
    by : (array : Bool) → is_array code home slot ≡ array → (if array then None else Some (named_of home slot 1)) ≡ Some n → Uses code n.home x AsInt
    by true q h = let no : None ≡ Some n = h in cc
    by false q h =
        let m : named_of home slot 1 ≡ n = cc in
        let a' : slot ≤ x = subst (λ (z : Named). z.slot ≤ x) (sym m) a in
        let b' : x < slot + 1 = subst (λ (z : Named). x < z.slot + z.len) (sym m) b in
        let u : Uses code home slot AsInt = subst (λ (c : Bool). Uses code home slot (use_of c)) q (loads at level s r here e) in
        subst (λ (z : Named). Uses code z.home x AsInt) m (subst (λ y. Uses code home y AsInt) (one_slot slot x a' b') u)

sets_home : (code : Parts) (at : ℕ) (s : Shape) (instr : Instr) (slots : Slots) (x : ℕ) (n : Named) (o : Option Home) → Reaches code at s → slice_get code.instrs at ≡ Some instr
    → ints_of instr ≡ Some slots → home_at s slots.level ≡ o → on_some o (λ home. Some (named_of home slots.slot slots.len)) ≡ Some n → n.slot ≤ x → x < n.slot + n.len → Uses code n.home x AsInt
sets_home code at s instr slots x n None r here k e h a b = let no : None ≡ Some n = h in cc
sets_home code at s instr slots x n (Some home) r here k e h a b =
    let m : named_of home slots.slot slots.len ≡ n = cc in
    let a' : slots.slot ≤ x = subst (λ (z : Named). z.slot ≤ x) (sym m) a in
    let b' : x < slots.slot + slots.len = subst (λ (z : Named). x < z.slot + z.len) (sym m) b in
    subst (λ (z : Named). Uses code z.home x AsInt) m (sets at s instr slots r here k e a' b')

sets_by : (code : Parts) (at : ℕ) (s : Shape) (instr : Instr) (x : ℕ) (n : Named) (o : Option Slots) → Reaches code at s → slice_get code.instrs at ≡ Some instr → ints_of instr ≡ o
    → set_in s o ≡ Some n → n.slot ≤ x → x < n.slot + n.len → Uses code n.home x AsInt
sets_by code at s instr x n None r here k h a b = let no : None ≡ Some n = h in cc
sets_by code at s instr x n (Some slots) r here k h a b = sets_home code at s instr slots x n (home_at s slots.level) r here k refl h a b

ints_by : (code : Parts) (at : ℕ) (s : Shape) (instr : Instr) (x : ℕ) (n : Named) → Reaches code at s → slice_get code.instrs at ≡ Some instr → ints_in code s instr ≡ Some n → n.slot ≤ x
    → x < n.slot + n.len → Uses code n.home x AsInt
ints_by code at s (i.Load level slot) x n r here h a b = loads_by code at s level slot x n (home_at s level) r here refl h a b
ints_by code at s instr x n r here h a b = sets_by code at s instr x n (ints_of instr) r here refl h a b

pub ints_use : (code : Parts) (table : List (Option Shape)) (at x : ℕ) (n : Named) → IsTable code table → ints_at code table at ≡ Some n → n.slot ≤ x → x < n.slot + n.len → Uses code n.home x AsInt
ints_use code table at x n t h a b = let w = here_of code table at (ints_in code) n h in ints_by code at w.shape w.instr x n (t.reached at w.shape w.has) w.here w.names_it a b

-- ---- the other way

pub block_named : (code : Parts) (table : List (Option Shape)) (at slot : ℕ) (s : Shape) (home : Home) → Has table at s → slice_get code.instrs at ≡ Some (i.Enter slot) → home_at s 0 ≡ Some home
    → block_at code table at ≡ Some (named_of home slot 1)
block_named code table at slot s home h here e = here_named code table at (block_in code) s (i.Enter slot) h here ∙ ap (λ o. on_some o (λ home. Some (named_of home slot 1))) e

pub load_named : (code : Parts) (table : List (Option Shape)) (at level slot : ℕ) (s : Shape) (home : Home) → Has table at s → slice_get code.instrs at ≡ Some (i.Load level slot)
    → home_at s level ≡ Some home → is_array code home slot ≡ false → ints_at code table at ≡ Some (named_of home slot 1)
load_named code table at level slot s home h here e q =
    here_named code table at (ints_in code) s (i.Load level slot) h here ∙ (ap (λ o. on_some o (λ home. if is_array code home slot then None else Some (named_of home slot 1))) e
    ∙ ap (λ (c : Bool). if c then None else Some (named_of home slot 1)) q)

-- what sets ints is no `Load`
set_named : (code : Parts) (s : Shape) (instr : Instr) (slots : Slots) → ints_of instr ≡ Some slots → ints_in code s instr ≡ set_in s (Some slots)
set_named code s (i.Load level slot) slots e = let no : None ≡ Some slots = e in cc
set_named code s instr slots e = ap (set_in s) e

pub sets_named : (code : Parts) (table : List (Option Shape)) (at : ℕ) (s : Shape) (instr : Instr) (slots : Slots) (home : Home) → Has table at s → slice_get code.instrs at ≡ Some instr
    → ints_of instr ≡ Some slots → home_at s slots.level ≡ Some home → ints_at code table at ≡ Some (named_of home slots.slot slots.len)
sets_named code table at s instr slots home h here k e =
    here_named code table at (ints_in code) s instr h here ∙ (set_named code s instr slots k ∙ ap (λ o. on_some o (λ home. Some (named_of home slots.slot slots.len))) e)
