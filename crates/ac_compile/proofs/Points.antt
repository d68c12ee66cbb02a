-- A piece of code in its place: what each of its addresses finds, where it leads, and what it uses slots for.
-- `Fit` is what is shown of every piece, for any table in which it stands: it begins and ends with these shapes, and each address in it is
-- fine: its instruction fits, leads to the table's shapes, and goes forward, to a `Step` or to the end of a function. Then one law for each
-- way to make a piece.
use Rattle.std.proofs.Common.{◌≡◌, ℕ, zero, suc, ◌+◌, ◌<◌, ◌≤◌, ◌⊎◌, inl, inr, ⊎_elim, List, [], ◌∷◌, ◌++◌, length, Bool, true, false, Option, Some, None, refl, sym, ap, ◌∙◌, subst, subst₂}
use Rattle.std.proofs.Common.{arith, length-append}
use Rattle.std.specs.Prelude.{slice_get, pos}
use Rattle.std.proofs.lemmas.Bool.Decides.{leb_tells}
use Rattle.stack_code.specs.declared.instr.Instr.{Instr}
use Rattle.stack_code.specs.declared.instr.Instr.TheVariants as i
use Rattle.stack_code.specs.declared.parts.Entered.{Entered}
use Rattle.stack_code.specs.declared.shape.Home.{Home}
use Rattle.stack_code.specs.declared.shape.Home.TheVariants as home
use Rattle.stack_code.specs.declared.shape.Shape.{Shape}
use Rattle.stack_code.specs.declared.shape.Leads.{Leads}
use Rattle.stack_code.specs.declared.shape.Leads.TheVariants.{One, Two}
use Rattle.stack_code.specs.Parts.{Parts}
use Rattle.stack_code.specs.Shapes.{effect, first, is_array, LeadsTo}
use Rattle.stack_code.specs.Valid as valid
use Rattle.stack_code.specs.Valid.{Fits, home_at}
use Rattle.ac_compile.proofs.StepAt.{IsStep}
use Rattle.ac_resolve.specs.InPlace.{Use, AsInt, AsReference, AsBlock, FrameRound}
use Rattle.ac_translation.specs.Pieces.{Exits, Piece, no_code, one, ◌⨾◌, out_past, out_turn}
use Rattle.ac_translation.proofs.Sized.{IsSized, no_sized, one_sized, past_sized, turn_sized, both_sized}
use Rattle.ac_translation.proofs.Placed.{HasAt, Placed, first_part, other_part}
use Rattle.ac_compile.proofs.Frames.{first_home, other_homes}

-- ---- tables

-- the shape of an address, and what the slots of the body's frame hold that begins there
pub record Point : Type 0 where
  pub shape : Shape
  pub starts : List Use

-- where no body begins
abbrev pub point : Shape → Point
point s = record { shape = s; starts = [] }

-- of a whole code: each address, and what the slots of each function's frame hold
pub record Table : Type 0 where
  pub points : List Point
  pub functions : List (List Use)

-- the points stand in the list from this address on
abbrev pub Stands : List Point → ℕ → List Point → Type 0
Stands points place [] = Unit {0}
Stands points place (p ∷ ps) = (slice_get points place ≡ Some p) × Stands points (place + 1) ps

pub first_stand : (points : List Point) (place : ℕ) (a b : List Point) → Stands points place (a ++ b) → Stands points place a
first_stand points place [] b h = tt
first_stand points place (p ∷ a) b h = (h.0, first_stand points (place + 1) a b h.1)

pub other_stand : (points : List Point) (place to : ℕ) (a b : List Point) → place + length a ≡ to → Stands points place (a ++ b) → Stands points to b
other_stand points place to [] b e h = let same : place ≡ to = omega (arith, e) in subst (λ n. Stands points n b) same h
other_stand points place to (p ∷ a) b e h = other_stand points (place + 1) to a b (omega (arith, e)) h.1

abbrev shape_in : Option Point → Option Shape
shape_in None = None
shape_in (Some p) = Some p.shape

abbrev starts_in : Option Point → List Use
starts_in None = []
starts_in (Some p) = p.starts

abbrev pub uses_in : Option (List Use) → List Use
uses_in None = []
uses_in (Some uses) = uses

abbrev pub ShapeAt : Table → ℕ → Shape → Type 0
ShapeAt t at s = shape_in (slice_get t.points at) ≡ Some s

pub shape_there : (t : Table) (at : ℕ) (p : Point) → slice_get t.points at ≡ Some p → ShapeAt t at p.shape
shape_there t at p e = ap shape_in e

pub shape_within : (t : Table) (at : ℕ) (s : Shape) → ShapeAt t at s → at < length t.points
shape_within t at s e = within t.points at s e where
  within : (points : List Point) (n : ℕ) (u : Shape) → shape_in (slice_get points n) ≡ Some u → n < length points
  within [] n u h = let no : ◌≡◌ {A = Option Shape} None (Some u) = h in cc
  within (p ∷ points) zero u h = omega arith
  within (p ∷ points) (suc n) u h = let lt = within points n u h in omega (arith, lt)

pub one_shape : (t : Table) (at : ℕ) (s u : Shape) → ShapeAt t at s → ShapeAt t at u → s ≡ u
one_shape t at s u e f = cc

-- what the slots of the body's frame hold
abbrev pub home_uses : Table → Home → List Use
home_uses t (home.Function number) = uses_in (slice_get t.functions number)
home_uses t (home.Async at) = starts_in (slice_get t.points at)

pub starts_there : (t : Table) (at : ℕ) (p : Point) → slice_get t.points at ≡ Some p → home_uses t (home.Async at) ≡ p.starts
starts_there t at p e = ap starts_in e

abbrev pub HasUse : Table → Home → ℕ → Use → Type 0
HasUse t h slot held = slice_get (home_uses t h) slot ≡ Some held

-- as validity names it
abbrev pub stack_use : Use → valid.Use
stack_use AsInt = valid.AsInt
stack_use AsReference = valid.AsReference
stack_use AsBlock = valid.AsBlock

abbrev pub is_reference : Use → Bool
is_reference AsInt = false
is_reference AsReference = true
is_reference AsBlock = false

module _ (code : Parts) where
  -- ---- slots

  -- a body's frame is what the table says, and holds references just where the code has array parameters
  pub record Agrees (t : Table) (h : Home) (f : FrameRound) : Type 0 where
    pub uses : home_uses t h ≡ f.uses
    pub arrays : (slot : ℕ) (held : Use) → slice_get f.uses slot ≡ Some held → is_array code h slot ≡ is_reference held

  abbrev pub AllAgree : Table → List Home → List FrameRound → Type 0
  AllAgree t homes [] = Unit {0}
  AllAgree t homes (f ∷ frames) = Agrees t (first_home homes) f × AllAgree t (other_homes homes) frames

  -- the body so many levels up has ints in these slots
  abbrev pub UsesInts : Table → Shape → ℕ → ℕ → ℕ → Type 0
  UsesInts t s level slot len = (h : Home) → home_at s level ≡ Some h → (at : ℕ) → slot ≤ at → at < slot + len → HasUse t h at AsInt

  pub record Loads (t : Table) (h : Home) (slot : ℕ) : Type 0 where
    pub held : Use
    pub there : HasUse t h slot held
    pub loaded : valid.use_of (is_array code h slot) ≡ stack_use held

  -- what an instruction uses slots for is what they hold
  abbrev pub UsesWell : Table → Instr → Shape → Type 0
  UsesWell t (i.Load level slot) s = (h : Home) → home_at s level ≡ Some h → Loads t h slot
  UsesWell t (i.Store level slot) s = UsesInts t s level slot 1
  UsesWell t (i.Arr level slot len) s = UsesInts t s level slot len
  UsesWell t (i.Clear slot len) s = UsesInts t s 0 slot len
  UsesWell t (i.Enter slot) s = (h : Home) → home_at s 0 ≡ Some h → HasUse t h slot AsBlock
  UsesWell t _ s = Unit {0}

  -- ---- one address

  -- a function ends there with 0
  abbrev pub IsEnd : ℕ → Type 0
  IsEnd at = (slice_get code.instrs at ≡ Some (i.Push (pos 0))) × (slice_get code.instrs (at + 1) ≡ Some i.Ret)

  -- no way without a `Step` leads from there back there
  abbrev pub IsStart : ℕ → Type 0
  IsStart at = IsStep code at ⊎ IsEnd at

  -- each function begins with its shape
  abbrev pub AreCalled : Table → Type 0
  AreCalled t = (number : ℕ) (f : Entered) → slice_get code.functions number ≡ Some f → ShapeAt t f.at (first number f) × IsStart f.at

  -- a way that leads from the one address to the other
  pub record IsLed (t : Table) (at to : ℕ) (s : Shape) : Type 0 where
    pub kept : ShapeAt t to s
    pub ahead : (at < to) ⊎ IsStart to

  pub record IsFine (t : Table) (at : ℕ) : Type 0 where
    pub shape : Shape
    pub here : ShapeAt t at shape
    pub fits : Fits code at shape
    pub leads : (to : ℕ) (s : Shape) → LeadsTo fits.leads to s → IsLed t at to s
    pub used : UsesWell t fits.instr shape

  pub next_led : (t : Table) (at : ℕ) (s : Shape) → ShapeAt t (at + 1) s → IsLed t at (at + 1) s
  next_led t at s e = record { kept = e; ahead = inl (omega arith) }

  pub one_led : (t : Table) (at to : ℕ) (s : Shape) → IsLed t at to s → (n : ℕ) (u : Shape) → LeadsTo (One to s) n u → IsLed t at n u
  one_led t at to s x n u l = subst₂ (IsLed t at) l.0 l.1 x

  pub two_led : (t : Table) (at a b : ℕ) (s u : Shape) → IsLed t at a s → IsLed t at b u → (n : ℕ) (v : Shape) → LeadsTo (Two a s b u) n v → IsLed t at n v
  two_led t at a b s u x y n v l = ⊎_elim (λ h. subst₂ (IsLed t at) h.0 h.1 x) (λ h. subst₂ (IsLed t at) h.0 h.1 y) l

  pub fine_as : (t : Table) (at : ℕ) (instr : Instr) (s : Shape) (leads : Leads) → slice_get code.instrs at ≡ Some instr → ShapeAt t at s → effect code at instr s ≡ Some leads → UsesWell t instr s
      → ((to : ℕ) (u : Shape) → LeadsTo leads to u → IsLed t at to u) → IsFine t at
  fine_as t at instr s leads h e f u l = record {
    shape = s;
    here = e;
    fits = record { instr = instr; leads = leads; here = h; finds = f };
    leads = l;
    used = u;
  }

  pub jump_fine : (t : Table) (at to : ℕ) (s : Shape) → slice_get code.instrs at ≡ Some (i.Jump to) → ShapeAt t at s → IsLed t at to s → IsFine t at
  jump_fine t at to s h e x = fine_as t at (i.Jump to) s (One to s) h e refl tt (one_led t at to s x)

  -- ---- all addresses from one up to another

  abbrev pub Range : Table → ℕ → ℕ → Type 0
  Range t from to = (at : ℕ) → from ≤ at → at < to → IsFine t at

  pub no_range : (t : Table) (from to : ℕ) → from ≡ to → Range t from to
  no_range t from to e at le lt = absurd (omega arith)

  pub one_range : (t : Table) (from to : ℕ) → from + 1 ≡ to → IsFine t from → Range t from to
  one_range t from to e f at le lt = let here : from ≡ at = omega arith in subst (IsFine t) here f

  pub both_ranges : (t : Table) (from middle to : ℕ) → Range t from middle → Range t middle to → Range t from to
  both_ranges t from middle to f g at le lt = ⊎_elim (λ h. g at h.1 lt) (λ h. f at le h.1) (leb_tells middle at)

  -- ---- exits of loops

  -- a way from any address before the first one may lead there
  pub record IsExit (t : Table) (from exit : ℕ) (s : Shape) : Type 0 where
    pub kept : ShapeAt t exit s
    pub ahead : (from ≤ exit) ⊎ IsStart exit

  pub exit_led : (t : Table) (at from exit : ℕ) (s : Shape) → at < from → IsExit t from exit s → IsLed t at exit s
  exit_led t at from exit s lt x = record { kept = x.kept; ahead = ⊎_elim (λ le. inl (omega arith)) inr x.ahead }

  pub exit_before : (t : Table) (a from exit : ℕ) (s : Shape) → a ≤ from → IsExit t from exit s → IsExit t a exit s
  exit_before t a from exit s le x = record { kept = x.kept; ahead = ⊎_elim (λ h. inl (omega arith)) inr x.ahead }

  -- where a loop is round a piece, its exits have that shape
  abbrev pub HasExits : Table → Option Shape → Exits → ℕ → Type 0
  HasExits t None exits to = Unit {0}
  HasExits t (Some s) exits to = IsExit t to exits.past s × IsExit t to exits.turn s

  pub exits_before : (t : Table) (around : Option Shape) (exits : Exits) (a to : ℕ) → a ≤ to → HasExits t around exits to → HasExits t around exits a
  exits_before t None exits a to le w = tt
  exits_before t (Some s) exits a to le w = (exit_before t a to exits.past s le w.0, exit_before t a to exits.turn s le w.1)

  -- ---- pieces

  -- by what is known of the table
  module _ (K : Table → Type 0) where
    -- the instruction goes on at the next address, with this shape
    pub record Does (instr : Instr) (s u : Shape) : Type 0 where
      pub finds : (t : Table) → K t → (at : ℕ) → effect code at instr s ≡ Some (One (at + 1) u)
      pub used : (t : Table) → K t → UsesWell t instr s

    -- It begins with the one shape, and goes on with the other at its end; each of its addresses is fine.
    pub record Fit (around : Option Shape) (s u : Shape) (p : Piece) : Type 0 where
      pub sized : IsSized p
      pub points : ℕ → List Point
      pub long : (place : ℕ) → length (points place) ≡ p.size
      pub begins : (t : Table) (place to : ℕ) → Stands t.points place (points place) → place + p.size ≡ to → ShapeAt t to u → ShapeAt t place s
      pub fine : (t : Table) (exits : Exits) (place to : ℕ) → Placed code.instrs p exits place to → Stands t.points place (points place) → ShapeAt t to u → K t → HasExits t around exits to
          → Range t place to

    pub no_fit : (around : Option Shape) (s : Shape) → Fit around s s no_code
    no_fit around s = record {
      sized = no_sized;
      points = λ place. [];
      long = λ place. refl;
      begins = λ t place to h ends e. let same : to ≡ place = omega (arith, ends) in subst (λ n. ShapeAt t n s) same e;
      fine = λ t exits place to h d e k w. let ends = h.ends in no_range t place to (omega arith);
    }

    pub one_fit : (around : Option Shape) (instr : Instr) (s u : Shape) → Does instr s u → Fit around s u (one instr)
    one_fit around instr s u d = record {
      sized = one_sized instr;
      points = λ place. point s ∷ [];
      long = λ place. refl;
      begins = λ t place to h ends e. shape_there t place (point s) h.0;
      fine = λ t exits place to h x e k w.
          let ends : to ≡ place + 1 = let n = h.ends in omega (arith, n) in
          one_range t place to h.ends
          (fine_as t place instr s (One (place + 1) u) h.has.0 (shape_there t place (point s) x.0) (d.finds t k place) (d.used t k)
          (one_led t place (place + 1) u (next_led t place u (subst (λ n. ShapeAt t n u) ends e))));
    }

    -- two parts, one after the other
    module _ (around : Option Shape) (s u v : Shape) (a b : Piece) (f : Fit around s u a) (g : Fit around u v b) where
      both_points : ℕ → List Point
      both_points place = f.points place ++ g.points (place + a.size)

      second : (t : Table) (place : ℕ) → Stands t.points place (both_points place) → Stands t.points (place + a.size) (g.points (place + a.size))
      unfolding both_points
      second t place d = other_stand t.points place (place + a.size) (f.points place) (g.points (place + a.size)) (ap (λ n. place + n) (f.long place)) d

      middle : (t : Table) (place to : ℕ) → Stands t.points place (both_points place) → place + (a.size + b.size) ≡ to → ShapeAt t to v → ShapeAt t (place + a.size) u
      middle t place to d ends e = g.begins t (place + a.size) to (second t place d) (omega (arith, ends)) e

      pub both_fit : Fit around s v (a ⨾ b)
      unfolding both_points
      both_fit = record {
        sized = both_sized a b f.sized g.sized;
        points = both_points;
        long = λ place. length-append (f.points place) (g.points (place + a.size)) ∙ omega (arith, f.long place, g.long (place + a.size));
        begins = λ t place to d ends e.
            f.begins t place (place + a.size) (first_stand t.points place (f.points place) (g.points (place + a.size)) d) refl (middle t place to d ends e);
        fine = λ t exits place to h d e k w.
            let h1 = first_part code.instrs a b h in
            let h2 = other_part code.instrs a b f.sized h in
            let ends = h2.ends in
            let at_middle = middle t place to d h.ends e in
            both_ranges t place (place + a.size) to
            (f.fine t exits place (place + a.size) h1 (first_stand t.points place (f.points place) (g.points (place + a.size)) d) at_middle k
            (exits_before t around exits (place + a.size) to (omega arith) w))
            (g.fine t exits (place + a.size) to h2 (second t place d) e k w);
      }

    -- where no loop is round it, none of its ways leads to an exit
    pub alone_fit : (around : Option Shape) (s u : Shape) (p : Piece) → Fit None s u p → Fit around s u p
    alone_fit around s u p f = record {
      sized = f.sized;
      points = f.points;
      long = f.long;
      begins = f.begins;
      fine = λ t exits place to h d e k w. f.fine t exits place to h d e k tt;
    }

    pub same_fit : (around : Option Shape) (s u : Shape) (p q : Piece) → p ≡ q → Fit around s u q → Fit around s u p
    same_fit around s u p q e f = subst (Fit around s u) (sym e) f

    -- a jump to an exit
    out_fit : (exit : Exits → ℕ) (s u : Shape) (p : Piece) → IsSized p → p.size ≡ 1 → ((exits : Exits) (place : ℕ) → p.at exits place ≡ i.Jump (exit exits) ∷ [])
        → ((t : Table) (exits : Exits) (to : ℕ) → HasExits t (Some s) exits to → IsExit t to (exit exits) s) → Fit (Some s) s u p
    out_fit exit s u p z one_long jump_is which = record {
      sized = z;
      points = λ place. point s ∷ [];
      long = λ place. omega (arith, one_long);
      begins = λ t place to h ends e. shape_there t place (point s) h.0;
      fine = λ t exits place to h d e k w.
          let ends : place + 1 ≡ to = let n = h.ends in omega (arith, n, one_long) in
          one_range t place to ends
          (jump_fine t place (exit exits) s (jump_at exits place to h) (shape_there t place (point s) d.0) (exit_led t place to (exit exits) s (omega (arith, ends)) (which t exits to w)));
    } where
      jump_at : (exits : Exits) (place to : ℕ) → Placed code.instrs p exits place to → slice_get code.instrs place ≡ Some (i.Jump (exit exits))
      jump_at exits place to h = (subst (HasAt code.instrs place) (jump_is exits place) h.has).0

    pub past_fit : (s u : Shape) → Fit (Some s) s u out_past
    past_fit s u = out_fit (λ exits. exits.past) s u _ past_sized refl (λ exits place. refl) (λ t exits to w. w.0)

    pub turn_fit : (s u : Shape) → Fit (Some s) s u out_turn
    turn_fit s u = out_fit (λ exits. exits.turn) s u _ turn_sized refl (λ exits place. refl) (λ t exits to w. w.1)

  -- by more that is known
  pub known_fit : (K L : Table → Type 0) (around : Option Shape) (s u : Shape) (p : Piece) → ((t : Table) → K t → L t) → Fit L around s u p → Fit K around s u p
  known_fit K L around s u p more f = record {
    sized = f.sized;
    points = f.points;
    long = f.long;
    begins = f.begins;
    fine = λ t exits place to h d e k w. f.fine t exits place to h d e (more t k) w;
  }
