-- What is known of the frames round an address: what their slots hold, and what instructions do with them.
-- `Knows`: the table of the code has for each body what its frame holds. From it: a slot that is loaded, set or made an array of is there,
-- and its use is that which it has.
use Rattle.std.proofs.Common.{◌≡◌, ℕ, zero, suc, ◌+◌, ◌<◌, ◌≤◌, List, [], ◌∷◌, length, true, Option, Some, None, refl, sym, ap, ◌∙◌, subst, arith, lt-ltb, le-leb, eq-eqb}
use Rattle.std.specs.Prelude.{slice_get, option_map}
use Rattle.std.proofs.lemmas.Option.{slice_get_within}
use Rattle.ac_commands.specs.declared.value.Place.{Place}
use Rattle.ac_commands.specs.declared.value.Array.{Array}
use Rattle.ac_commands.specs.declared.value.Array.TheVariants as a
use Rattle.ac_commands.specs.declared.program.Channel.{Channel}
use Rattle.ac_commands.specs.declared.program.Function.{Function}
use Rattle.ac_commands.specs.declared.program.Resolved.{Resolved}
use Rattle.stack_code.specs.declared.parts.Entered.{Entered}
use Rattle.stack_code.specs.declared.shape.CellKind.{CellKind}
use Rattle.stack_code.specs.declared.shape.CellKind.TheVariants as kind
use Rattle.stack_code.specs.declared.shape.Home.{Home}
use Rattle.stack_code.specs.declared.shape.Body.{Body}
use Rattle.stack_code.specs.declared.shape.Shape.{Shape}
use Rattle.stack_code.specs.Parts.{Parts}
use Rattle.stack_code.specs.Shapes.{channels_of, width_of, is_known, is_array}
use Rattle.stack_code.specs.Valid.{use_of, home_at}
use Rattle.ac_resolve.specs.InPlace.{Use, AsInt, AsReference, FrameRound, Round, frame_at, Holds, HoldInts, IsPlace, global, local, IsArray, global_array, local_array, parameter, HasLength}
use Rattle.ac_translation.specs.Translation.{variable_code, array_code}
use Rattle.ac_compile.proofs.Frames.{other_homes, home_of, body_here, shape_of, body_there}
use Rattle.ac_compile.proofs.Points.{Table, HasUse, stack_use, is_reference, Agrees, AllAgree, UsesInts, Loads, AreCalled, Does}

abbrev pub entered_as : Function → ℕ → Entered
entered_as f at = record { name = f.name; at = at; params = f.params; words = f.slots }

-- the code has the globals, texts, channels and functions of the program
pub record Belongs (code : Parts) (program : Resolved) : Type 0 where
  pub globals : code.globals ≡ program.slots
  pub texts : code.texts ≡ program.texts
  pub channels : channels_of code ≡ length program.channels
  pub files : length program.files ≤ 16
  pub wide : (number : ℕ) (channel : Channel) → slice_get program.channels number ≡ Some channel → width_of code number ≡ channel.width
  pub functions : (number : ℕ) (f : Function) → slice_get program.functions number ≡ Some f → (at : ℕ) × (slice_get code.functions number ≡ Some (entered_as f at))

-- of a whole code, and of the frames round an address
pub record Knows (code : Parts) (homes : List Home) (frames : List FrameRound) (t : Table) : Type 0 where
  pub called : AreCalled code t
  pub agree : AllAgree code t homes frames

-- to how many elements a reference is, where that is known
abbrev pub known : Array → Option ℕ
known (a.Global slot len) = Some len
known (a.Local level slot len) = Some len
known (a.Param level slot) = None

pub length_known : (count : ℕ) (array : Array) → HasLength count array → is_known count (known array) ≡ true
length_known count (a.Global slot len) e = eq-eqb len count e
length_known count (a.Local level slot len) e = eq-eqb len count e
length_known count (a.Param level slot) e = absurd e

module _ (code : Parts) where
  agree_at : (t : Table) (homes : List Home) (frames : List FrameRound) (level : ℕ) → level < length frames → AllAgree code t homes frames
      → Agrees code t (home_of homes level) (frame_at frames level)
  agree_at t homes [] level lt h = absurd (omega arith)
  agree_at t homes (f ∷ frames) zero lt h = h.0
  agree_at t homes (f ∷ frames) (suc level) lt h = agree_at t (other_homes homes) frames level (omega arith) h.1

  -- the home of a body is that of its frame
  home_is : (homes : List Home) (frames : List FrameRound) (kinds : List CellKind) (level : ℕ) (h : Home) → level < length frames → home_at (shape_of homes frames kinds) level ≡ Some h
      → home_of homes level ≡ h
  home_is homes frames kinds level h lt e = one_home (home_of homes level) h (sym (ap (option_map (λ (body : Body). body.home)) (body_here homes frames level lt)) ∙ e) where
    one_home : (x y : Home) → Some x ≡ Some y → x ≡ y
    one_home x y f = cc

  module _ (homes : List Home) (r : Round) where
    abbrev K : Table → Type 0
    K = Knows code homes r.frames

    abbrev shape : List CellKind → Shape
    shape kinds = shape_of homes r.frames kinds

    -- a slot that the frame so many levels up holds
    module _ (level slot : ℕ) (held : Use) (lt : level < length r.frames) (h : Holds r level slot held) (t : Table) (k : K t) where
      there : Agrees code t (home_of homes level) (frame_at r.frames level)
      there = agree_at t homes r.frames level lt k.agree

      pub array_there : is_array code (home_of homes level) slot ≡ is_reference held
      array_there = there.arrays slot held h

      pub use_there : HasUse t (home_of homes level) slot held
      use_there = ap (λ (uses : List Use). slice_get uses slot) there.uses ∙ h

      pub loads_well : use_of (is_reference held) ≡ stack_use held → (kinds : List CellKind) (x : Home) → home_at (shape kinds) level ≡ Some x → Loads code t x slot
      loads_well same kinds x e =
          subst (λ y. Loads code t y slot) (home_is homes r.frames kinds level x lt e) (record { held = held; there = use_there; loaded = ap use_of array_there ∙ same })

      pub uses_well : (kinds : List CellKind) (x : Home) → home_at (shape kinds) level ≡ Some x → HasUse t x slot held
      uses_well kinds x e = subst (λ y. HasUse t y slot held) (home_is homes r.frames kinds level x lt e) use_there

    pub ints_well : (level slot len : ℕ) → level < length r.frames → HoldInts r level slot len → (t : Table) → K t → (kinds : List CellKind) → UsesInts code t (shape kinds) level slot len
    ints_well level slot len lt h t k kinds x e at le at_lt = uses_well level at AsInt lt (h at le at_lt) t k kinds x e

    pub one_int : (level slot : ℕ) → Holds r level slot AsInt → HoldInts r level slot 1
    one_int level slot h at le lt = let same : slot ≡ at = omega (arith, le, lt) in subst (λ n. Holds r level n AsInt) same h

    pub slot_in : (level slot : ℕ) (held : Use) → Holds r level slot held → slot + 1 ≤ length (frame_at r.frames level).uses
    slot_in level slot held h = let lt = slice_get_within (frame_at r.frames level).uses slot held h in omega (arith, lt)

    module _ (program : Resolved) (m : Belongs code program) where
      pub load_does : (place : Place) → IsPlace program r place → (kinds : List CellKind) → Does code K (variable_code place) (shape kinds) (shape (kind.Int ∷ kinds))
      load_does _ (global slot lt) kinds = record { finds = λ t k at. rw (m.globals, lt-ltb slot program.slots lt) refl; used = λ t k. tt }
      load_does _ (local level slot lt h) kinds = record {
        finds = λ t k at. rw (body_there homes r.frames kinds level slot 1 lt (slot_in level slot AsInt h), array_there level slot AsInt lt h t k) refl;
        used = λ t k. loads_well level slot AsInt lt h t k refl kinds;
      }

      pub array_does : (array : Array) → IsArray program r array → (kinds : List CellKind) → Does code K (array_code array) (shape kinds) (shape (kind.Reference (known array) ∷ kinds))
      array_does _ (global_array slot len le) kinds = record { finds = λ t k at. rw (m.globals, le-leb (slot + len) program.slots le) refl; used = λ t k. tt }
      array_does _ (local_array level slot len lt le h) kinds = record {
        finds = λ t k at. rw (body_there homes r.frames kinds level slot len lt le) refl;
        used = λ t k. ints_well level slot len lt h t k kinds;
      }
      array_does _ (parameter level slot lt h) kinds = record {
        finds = λ t k at. rw (body_there homes r.frames kinds level slot 1 lt (slot_in level slot AsReference h), array_there level slot AsReference lt h t k) refl;
        used = λ t k. loads_well level slot AsReference lt h t k refl kinds;
      }
