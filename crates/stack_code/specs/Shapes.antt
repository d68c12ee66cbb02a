-- What each instruction does to the shape of its address.
use Rattle.std.specs.Prelude.{◌≡◌, ◌⊎◌, ℕ, ◌+◌, ◌-◌, List, [], ◌∷◌, length, map, replicate, reverse, Option, Some, None, Bool}
use Rattle.std.specs.Prelude.{true, false, not, ◌&&◌, ◌||◌, nat_eq, nat_le, nat_lt, slice_get, slice_index, unwrap_or, if◌then◌else◌}
use Rattle.std.specs.List.{list_any}
use Rattle.stack_code.specs.declared.instr.Instr.{Instr}
use Rattle.stack_code.specs.declared.instr.Instr.TheVariants as i
use Rattle.stack_code.specs.declared.parts.Entered.{Entered}
use Rattle.stack_code.specs.declared.shape.CellKind.{CellKind}
use Rattle.stack_code.specs.declared.shape.CellKind.TheVariants as kind
use Rattle.stack_code.specs.declared.shape.Home.{Home}
use Rattle.stack_code.specs.declared.shape.Home.TheVariants as home
use Rattle.stack_code.specs.declared.shape.Body.{Body}
use Rattle.stack_code.specs.declared.shape.OpenBlock.{OpenBlock}
use Rattle.stack_code.specs.declared.shape.Shape.{Shape}
use Rattle.stack_code.specs.declared.shape.Leads.{Leads}
use Rattle.stack_code.specs.declared.shape.Leads.TheVariants.{Stop, One, Two}
use Rattle.stack_code.specs.declared.shape.Want.{Want}
use Rattle.stack_code.specs.declared.shape.Want.TheVariants as want
use Rattle.stack_code.specs.Parts.{Parts}

abbrev pub on_some : {A B : Type 0} → Option A → (A → Option B) → Option B
on_some None go = None
on_some (Some x) go = go x

-- ---- operands

-- a length that is known to be this one
abbrev pub is_known : ℕ → Option ℕ → Bool
is_known count None = false
is_known count (Some len) = nat_eq len count

abbrev pub takes : Want → CellKind → Bool
takes want.Int kind.Int = true
takes want.Int (kind.Reference len) = false
takes want.Reference kind.Int = false
takes want.Reference (kind.Reference len) = true
takes (want.Elements count) kind.Int = false
takes (want.Elements count) (kind.Reference len) = is_known count len
takes (want.Message count) kind.Int = nat_eq count 1
takes (want.Message count) (kind.Reference len) = is_known count len
takes want.Any kind.Int = true
takes want.Any (kind.Reference len) = true

-- the kinds that are left below the wanted operands, of which the topmost is the first
abbrev pub taken : List Want → List CellKind → Option (List CellKind)
taken [] kinds = Some kinds
taken (w ∷ wants) [] = None
taken (w ∷ wants) (k ∷ kinds) = if takes w k then taken wants kinds else None

abbrev pub with_operands : Shape → List CellKind → Shape
with_operands s kinds = record s { operands = kinds }

abbrev pub pushed : CellKind → Shape → Shape
pushed k s = with_operands s (k ∷ s.operands)

-- what `go` makes of the shape without the wanted operands
abbrev pub after : List Want → Shape → (Shape → Option Leads) → Option Leads
after wants s go = on_some (taken wants s.operands) (λ kinds. go (with_operands s kinds))

abbrev pub is_int_alone : List CellKind → Bool
is_int_alone (kind.Int ∷ []) = true
is_int_alone _ = false

-- ---- functions

-- by parameter, whether it is an array; a body of an `Async` has none
abbrev pub params_in : Option Entered → List Bool
params_in None = []
params_in (Some function) = function.params

abbrev pub params_of : Parts → Home → List Bool
params_of code (home.Function number) = params_in (slice_get code.functions number)
params_of code (home.Async at) = []

-- whether the slot of that body's frame is an array parameter
abbrev pub is_array : Parts → Home → ℕ → Bool
is_array code home slot = unwrap_or (slice_get (params_of code home) slot) false

-- what is loaded from a slot
abbrev pub loaded : Bool → CellKind
loaded true = kind.Reference None
loaded false = kind.Int

abbrev pub want_of : Bool → Want
want_of true = want.Reference
want_of false = want.Int

-- the arguments for these parameters; the last one stands on top
abbrev pub arguments : List Bool → List Want
arguments params = reverse (map want_of params)

-- the shape at a function's first address
abbrev pub first : ℕ → Entered → Shape
first number function = record {
  bodies = (record { home = home.Function number; slots = function.words }) ∷ [];
  blocks = [];
  operands = [];
}

-- ---- slots

-- the body so many levels up, where so many slots from that one on lie in its frame
abbrev pub body_with : Shape → ℕ → ℕ → ℕ → Option Body
body_with s level slot len = on_some (slice_get s.bodies level)
    (λ (body : Body). if nat_le (slot + len) body.slots then Some body else None)

-- ---- blocks

abbrev pub is_block : ℕ → ℕ → OpenBlock → Bool
is_block bodies slot block = nat_eq block.bodies bodies && nat_eq block.slot slot

-- whether the block in that slot of the frame so many levels up is entered
abbrev pub is_entered : Shape → ℕ → ℕ → Bool
is_entered s level slot = list_any (is_block (length s.bodies - level) slot) s.blocks

abbrev pub entered : ℕ → Shape → Shape
entered slot s = record s { blocks = (record { bodies = length s.bodies; slot = slot }) ∷ s.blocks }

-- without the innermost block, which is that of the own body and this slot
abbrev pub finished_in : ℕ → Shape → List OpenBlock → Option Shape
finished_in slot s [] = None
finished_in slot s (block ∷ blocks) = if is_block (length s.bodies) slot block then Some (record s { blocks = blocks }) else None

abbrev pub finished : ℕ → Shape → Option Shape
finished slot s = finished_in slot s s.blocks

-- whether a block of the own body is entered
abbrev pub has_own : Shape → Bool
has_own s = list_any (λ (block : OpenBlock). nat_eq block.bodies (length s.bodies)) s.blocks

-- ---- bodies

-- in the body of the `Async` at that address
abbrev pub inner : ℕ → ℕ → Shape → Shape
inner at slots s = record s { bodies = (record { home = home.Async at; slots = slots }) ∷ s.bodies }

-- a block is entered, and there is no operand
abbrev pub can_start : Shape → Bool
can_start s = nat_eq (length s.operands) 0 && nat_lt 0 (length s.blocks)

-- in the body of an `Async`, with no operand and just the blocks that were entered at the `Async`
abbrev pub can_end : Shape → Bool
can_end s = nat_lt 1 (length s.bodies) && (nat_eq (length s.operands) 0 && not (has_own s))

-- in the function itself, with one int and no block
abbrev pub can_return : Shape → Bool
can_return s = nat_eq (length s.bodies) 1 && (nat_eq (length s.blocks) 0 && is_int_alone s.operands)

-- ---- texts

-- the number of `%d` and `%c`, read from a place before or directly after a `%`; `%%` is one `%`
abbrev pub directives : Bool → List ℕ → ℕ
directives directly [] = 0
directives false (b ∷ text) = directives (nat_eq b 37) text
directives true (b ∷ text) = if nat_eq b 99 || nat_eq b 100 then 1 + directives false text else directives false text

abbrev pub directives_in : List ℕ → ℕ
directives_in text = directives false text

-- ---- instructions

abbrev pub channels_of : Parts → ℕ
channels_of code = length code.capacities - length code.entries

-- how many ints a message of the channel has
abbrev pub width_of : Parts → ℕ → ℕ
width_of code channel = slice_index code.widths channel

abbrev pub goes : ℕ → Shape → Option Leads
goes at s = Some (One (at + 1) s)

abbrev pub pushes : ℕ → CellKind → Shape → Option Leads
pushes at k s = goes at (pushed k s)

-- an operator
abbrev pub one_int : ℕ → Shape → Option Leads
one_int at s = after (want.Int ∷ []) s (pushes at kind.Int)

abbrev pub two_ints : ℕ → Shape → Option Leads
two_ints at s = after (want.Int ∷ want.Int ∷ []) s (pushes at kind.Int)

abbrev pub branches : ℕ → ℕ → Shape → Option Leads
branches at to s = after (want.Int ∷ []) s (λ t. Some (Two (at + 1) t to t))

-- the function's value comes on top where the arguments were, and its first address has its shape
abbrev pub calls : ℕ → ℕ → ℕ → Shape → Entered → Option Leads
calls at number count s function =
    if nat_eq count (length function.params)
    then after (arguments function.params) s (λ t. Some (Two (at + 1) (pushed kind.Int t) function.at (first number function)))
    else None

-- a place in a file, a length, and an array on top
abbrev pub transfers : ℕ → ℕ → Shape → Option Leads
transfers at file s = if nat_lt file 16 then after (want.Reference ∷ want.Int ∷ want.Int ∷ []) s (pushes at kind.Int) else None

-- where the instruction at an address leads from this shape; none where it does not find what it needs
abbrev pub effect : Parts → ℕ → Instr → Shape → Option Leads
effect code at i.Step s = goes at s
effect code at (i.Push value) s = pushes at kind.Int s
effect code at (i.Load level slot) s = on_some (body_with s level slot 1) (λ body. pushes at (loaded (is_array code body.home slot)) s)
effect code at (i.LoadG slot) s = if nat_lt slot code.globals then pushes at kind.Int s else None
effect code at (i.Store level slot) s = on_some (body_with s level slot 1) (λ body. after (want.Int ∷ []) s (goes at))
effect code at (i.StoreG slot) s = if nat_lt slot code.globals then after (want.Int ∷ []) s (goes at) else None
effect code at (i.Arr level slot len) s = on_some (body_with s level slot len) (λ body. pushes at (kind.Reference (Some len)) s)
effect code at (i.ArrG slot len) s = if nat_le (slot + len) code.globals then pushes at (kind.Reference (Some len)) s else None
effect code at i.Elem s = after (want.Int ∷ want.Reference ∷ []) s (pushes at kind.Int)
effect code at i.SetElem s = after (want.Int ∷ want.Reference ∷ want.Int ∷ []) s (goes at)
effect code at i.Place s = after (want.Int ∷ want.Reference ∷ []) s (pushes at (kind.Reference (Some 1)))
effect code at (i.Clear slot len) s = on_some (body_with s 0 slot len) (λ body. goes at s)
effect code at i.Neg s = one_int at s
effect code at i.Not s = one_int at s
effect code at i.Flip s = one_int at s
effect code at i.Bool s = one_int at s
effect code at i.BitOr s = two_ints at s
effect code at i.BitXor s = two_ints at s
effect code at i.BitAnd s = two_ints at s
effect code at i.Eq s = two_ints at s
effect code at i.Ne s = two_ints at s
effect code at i.Less s = two_ints at s
effect code at i.LessEq s = two_ints at s
effect code at i.More s = two_ints at s
effect code at i.MoreEq s = two_ints at s
effect code at i.Shl s = two_ints at s
effect code at i.Shr s = two_ints at s
effect code at i.Add s = two_ints at s
effect code at i.Sub s = two_ints at s
effect code at i.Mul s = two_ints at s
effect code at i.Div s = two_ints at s
effect code at i.Rem s = two_ints at s
effect code at i.Drop s = after (want.Any ∷ []) s (goes at)
effect code at (i.Jump to) s = Some (One to s)
effect code at (i.Jz to) s = branches at to s
effect code at (i.Jnz to) s = branches at to s
effect code at (i.Print text count) s =
    on_some (slice_get code.texts text) (λ bytes. if nat_eq count (directives_in bytes) then after (replicate count want.Int) s (goes at)
    else None)
effect code at (i.Call number count) s = on_some (slice_get code.functions number) (calls at number count s)
effect code at i.Ret s = if can_return s then Some Stop else None
effect code at (i.Enter slot) s = on_some (body_with s 0 slot 1) (λ body. if is_entered s 0 slot then None else goes at (entered slot s))
effect code at (i.Finish slot) s = on_some (finished slot s) (goes at)
effect code at (i.Async slots to) s = if can_start s then Some (Two (at + 1) (inner at slots s) to s) else None
effect code at i.End s = if can_end s then Some Stop else None
effect code at (i.Cancel level slot) s = on_some (slice_get s.bodies level) (λ body. if is_entered s level slot then goes at s else None)
effect code at i.Yield s = goes at s
effect code at (i.Send channel) s =
    if nat_lt channel (channels_of code) then after (want.Message (width_of code channel) ∷ []) s (pushes at kind.Int) else None
effect code at (i.Recv channel) s =
    if nat_lt channel (channels_of code) then after (want.Elements (width_of code channel) ∷ []) s (pushes at kind.Int) else None
effect code at (i.Read file) s = transfers at file s
effect code at (i.Write file) s = transfers at file s

-- one of the addresses to which it leads, with its shape there
abbrev pub LeadsTo : Leads → ℕ → Shape → Type 0
LeadsTo Stop to t = ⊥
LeadsTo (One a s) to t = (a ≡ to) × (s ≡ t)
LeadsTo (Two a s b u) to t = ((a ≡ to) × (s ≡ t)) ⊎ ((b ≡ to) × (u ≡ t))
