-- What a mirror tells is what each of its sides in use holds (`known`). So what a call makes of the side that answers it, the call makes of what
-- the mirror tells (`told_next`), also where the other side answered before.
use Rattle.std.proofs.Common.{◌≡◌, ℕ, ◌⊎◌, Bool, true, false, None, Some, inl, inr, refl, sym, ap, ◌∙◌, subst}
use Rattle.std.specs.Prelude.{◌&&◌, ◌||◌, IfSome, is_some, if◌then◌else◌}
use Rattle.std.specs.Option.{option_map}
use Rattle.std.specs.declared.option.Option.{Option}
use Rattle.ac_outside.specs.Disks.{DiskTold, Held}
use Rattle.ac_mirror_disk.specs.Pairs.{IfBoth, HaveSameFiles}
use Rattle.ac_mirror_disk.specs.Mirrors.{Mirrored, counted, mirror_contents}
use Rattle.ac_mirror_disk.specs.Sound.{IsReady}

-- the same files, bound or not
pub record Like (x y : Held) : Type 0 where
  pub files : x.files ≡ y.files
  pub found : x.found ≡ y.found

pub like_counted : (n : ℕ) (x y : Held) → Like x y → counted n x ≡ counted n y
like_counted n x y e =
    ap (λ files. record { files = files; found = x.found; calls = n }) e.files
    ∙ ap (λ found. record { files = y.files; found = found; calls = n }) e.found

-- a disk holds the same as this
pub record Holding (held : Held) (told : Option Held) : Type 0 where
  pub side : Held
  pub is : told ≡ Some side
  pub like : Like side held

-- what a call makes of what a side holds
pub record Made (F : Held → Held) (h : Held) (after : Option Held) : Type 0 where
  pub held : Held
  pub is : after ≡ Some held
  pub like : Like held (F h)

abbrev pub Turns : (Held → Held) → Option Held → Option Held → Type 0
Turns F x x' = IfSome x (λ h. Made F h x')

-- ---- what a mirror tells

-- a mirror that tells what it holds, by its parts
pub record Tells (ua ub : Bool) (x y : Option Held) (calls : ℕ) (told : Option Held) : Type 0 where
  pub held : Held
  pub is : told ≡ Some held
  pub calls_is : held.calls ≡ calls
  pub first : ua ≡ true → Holding held x
  pub second : ub ≡ true → Holding held y

abbrev contents_by : Bool → Bool → Bool → Option Held → Option Held → ℕ → Option Held
contents_by ready alike ua x y calls = if ready && alike then option_map (counted calls) (if ua then x else y) else None

itself : (x y : Held) (n : ℕ) (e : y ≡ x) → Holding (counted n x) (Some y)
itself x y n e = record { side = y; is = refl; like = record { files = ap (λ (h : Held). h.files) e; found = ap (λ (h : Held). h.found) e } }

known_by : (ready alike ua ub : Bool) (x y : Option Held) (calls : ℕ) → ready ≡ true → alike ≡ true → (ua || ub) ≡ true → is_some x ≡ true → is_some y ≡ true
    → (ua ≡ true → ub ≡ true → IfBoth x y HaveSameFiles) → (ua ≡ true → ub ≡ true → IfBoth x y (λ h k. h.found ≡ k.found))
    → Tells ua ub x y calls (contents_by ready alike ua x y calls)
known_by false alike ua ub x y calls r l u one other files found = absurd (cc r)
known_by true false ua ub x y calls r l u one other files found = absurd (cc l)
known_by true true ua ub None y calls r l u one other files found = absurd (cc one)
known_by true true ua ub (Some h) None calls r l u one other files found = absurd (cc other)
known_by true true true ub (Some h) (Some k) calls r l u one other files found = record {
  held = counted calls h;
  is = refl;
  calls_is = refl;
  first = λ _. itself h h calls refl;
  second = λ in_use. record { side = k; is = refl; like = record { files = sym (files refl in_use); found = sym (found refl in_use) } };
}
known_by true true false true (Some h) (Some k) calls r l u one other files found =
    record { held = counted calls k; is = refl; calls_is = refl; first = λ e. absurd (cc e); second = λ _. itself k k calls refl }
known_by true true false false (Some h) (Some k) calls r l u one other files found = absurd (cc u)

told_by : (ready alike ua : Bool) (x y : Option Held) (calls : ℕ) (h : Held) → ready ≡ true → alike ≡ true → (if ua then x else y) ≡ Some h
    → contents_by ready alike ua x y calls ≡ Some (counted calls h)
told_by false alike ua x y calls h r l e = absurd (cc r)
told_by true false ua x y calls h r l e = absurd (cc l)
told_by true true ua x y calls h r l e = ap (option_map (counted calls)) e

untold_by : (ready alike ua : Bool) (x y : Option Held) (calls : ℕ) → (ready && alike) ≡ false → contents_by ready alike ua x y calls ≡ None
untold_by true true ua x y calls e = absurd (cc e)
untold_by true false ua x y calls e = refl
untold_by false alike ua x y calls e = refl

standing_first : (ua : Bool) (x y : Option Held) → ua ≡ true → (if ua then x else y) ≡ x
standing_first true x y e = refl
standing_first false x y e = absurd (cc e)

standing_second : (ua : Bool) (x y : Option Held) → ua ≡ false → (if ua then x else y) ≡ y
standing_second false x y e = refl
standing_second true x y e = absurd (cc e)

either : (b : Bool) → (b ≡ true) ⊎ (b ≡ false)
either true = inl refl
either false = inr refl

module _ {A B : Type 0} (told_a : A → DiskTold) (told_b : B → DiskTold) where
  abbrev pub Known : Mirrored A B → Type 0
  Known m = Tells m.a.in_use m.b.in_use (told_a m.a.disk).held (told_b m.b.disk).held m.calls (mirror_contents told_a told_b m)

  pub known : (m : Mirrored A B) → IsReady told_a told_b m → m.is_ready ≡ true → m.is_alike ≡ true → (m.a.in_use || m.b.in_use) ≡ true → Known m
  known m r ready alike some =
      let s = r.alike alike in
      known_by m.is_ready m.is_alike m.a.in_use m.b.in_use (told_a m.a.disk).held (told_b m.b.disk).held m.calls ready alike some s.one s.other r.equal
      (λ a b. s.found (s.even a b))

  pub untold : (m : Mirrored A B) → (m.is_ready && m.is_alike) ≡ false → mirror_contents told_a told_b m ≡ None
  untold m e = untold_by m.is_ready m.is_alike m.a.in_use (told_a m.a.disk).held (told_b m.b.disk).held m.calls e

  -- a side that stands after a call was in use before it, and this is what became of what it held
  pub record Stands (F : Held → Held) (m m' : Mirrored A B) : Type 0 where
    pub was_a : m'.a.in_use ≡ true → m.a.in_use ≡ true
    pub was_b : m'.a.in_use ≡ false → m.b.in_use ≡ true
    pub first : m'.a.in_use ≡ true → Turns F (told_a m.a.disk).held (told_a m'.a.disk).held
    pub second : m'.a.in_use ≡ false → Turns F (told_b m.b.disk).held (told_b m'.b.disk).held

  pub record Respects (F : Held → Held) : Type 0 where
    pub like : (x y : Held) → Like x y → Like (F x) (F y)

  made_next : (F : Held → Held) → Respects F → (held : Held) (x x' : Option Held) → Holding held x → Turns F x x' → Made F held x'
  made_next F respects held x x' holding turns =
      let made = subst (λ (o : Option Held). Turns F o x') holding.is turns in
      let more = respects.like holding.side held holding.like in
      record { held = made.held; is = made.is; like = record { files = made.like.files ∙ more.files; found = made.like.found ∙ more.found } }

  stands_by : (ua : Bool) → (ua ≡ true) ⊎ (ua ≡ false) → (F : Held → Held) → Respects F → (held : Held) (x x' y y' : Option Held)
      → (ua ≡ true → Holding held x) → (ua ≡ false → Holding held y) → (ua ≡ true → Turns F x x') → (ua ≡ false → Turns F y y') → Made F held (if ua then x' else y')
  stands_by ua (inl used) F respects held x x' y y' hx hy tx ty =
      subst (Made F held) (sym (standing_first ua x' y' used)) (made_next F respects held x x' (hx used) (tx used))
  stands_by ua (inr unused) F respects held x x' y y' hx hy tx ty =
      subst (Made F held) (sym (standing_second ua x' y' unused)) (made_next F respects held y y' (hy unused) (ty unused))

  pub told_next : (F : Held → Held) → Respects F → (m m' : Mirrored A B) (k : Known m) → m'.is_ready ≡ true → m'.is_alike ≡ true → Stands F m m'
      → mirror_contents told_a told_b m' ≡ Some (counted m'.calls (F k.held))
  told_next F respects m m' k ready alike s =
      let made = stands_by m'.a.in_use (either m'.a.in_use) F respects k.held (told_a m.a.disk).held (told_a m'.a.disk).held (told_b m.b.disk).held (told_b m'.b.disk).held
      (λ used. k.first (s.was_a used)) (λ unused. k.second (s.was_b unused)) s.first s.second in
      told_by m'.is_ready m'.is_alike m'.a.in_use (told_a m'.a.disk).held (told_b m'.b.disk).held m'.calls made.held ready alike made.is
      ∙ ap (λ h. Some h) (like_counted m'.calls made.held (F k.held) made.like)
