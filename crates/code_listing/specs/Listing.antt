-- The text that shows a code: its cores, its functions with their instructions, and its texts, each on lines of their own.
use Rattle.std.specs.Prelude.{ℕ, suc, ◌-◌, ℤ, pos, List, [], ◌∷◌, ◌++◌, length, take, drop, codes}
use Rattle.std.specs.Fmt.{decimal, signed_decimal}
use Rattle.ac_base.specs.Hexadecimal.{hex_of}
use Rattle.stack_code.specs.declared.instr.Instr.{Instr}
use Rattle.stack_code.specs.declared.instr.Instr.TheVariants as i
use Rattle.stack_code.specs.declared.parts.Entered.{Entered}
use Rattle.stack_code.specs.Parts.{Parts}

-- ---- instructions

abbrev pub instr_name : Instr → List ℕ
instr_name i.Step = codes "Step"
instr_name (i.Push value) = codes "Push"
instr_name (i.Load level slot) = codes "Load"
instr_name (i.LoadG slot) = codes "LoadG"
instr_name (i.Store level slot) = codes "Store"
instr_name (i.StoreG slot) = codes "StoreG"
instr_name (i.Arr level slot len) = codes "Arr"
instr_name (i.ArrG slot len) = codes "ArrG"
instr_name i.Elem = codes "Elem"
instr_name i.SetElem = codes "SetElem"
instr_name i.Place = codes "Place"
instr_name (i.Clear slot len) = codes "Clear"
instr_name i.Neg = codes "Neg"
instr_name i.Not = codes "Not"
instr_name i.Flip = codes "Flip"
instr_name i.Bool = codes "Bool"
instr_name i.BitOr = codes "BitOr"
instr_name i.BitXor = codes "BitXor"
instr_name i.BitAnd = codes "BitAnd"
instr_name i.Eq = codes "Eq"
instr_name i.Ne = codes "Ne"
instr_name i.Less = codes "Less"
instr_name i.LessEq = codes "LessEq"
instr_name i.More = codes "More"
instr_name i.MoreEq = codes "MoreEq"
instr_name i.Shl = codes "Shl"
instr_name i.Shr = codes "Shr"
instr_name i.Add = codes "Add"
instr_name i.Sub = codes "Sub"
instr_name i.Mul = codes "Mul"
instr_name i.Div = codes "Div"
instr_name i.Rem = codes "Rem"
instr_name i.Drop = codes "Drop"
instr_name (i.Jump to) = codes "Jump"
instr_name (i.Jz to) = codes "Jz"
instr_name (i.Jnz to) = codes "Jnz"
instr_name (i.Print text count) = codes "Print"
instr_name (i.Call function count) = codes "Call"
instr_name i.Ret = codes "Ret"
instr_name (i.Enter slot) = codes "Enter"
instr_name (i.Finish slot) = codes "Finish"
instr_name (i.Async slots to) = codes "Async"
instr_name i.End = codes "End"
instr_name (i.Cancel level slot) = codes "Cancel"
instr_name i.Yield = codes "Yield"
instr_name (i.Send channel) = codes "Send"
instr_name (i.Recv channel) = codes "Recv"
instr_name (i.Read file) = codes "Read"
instr_name (i.Write file) = codes "Write"

-- its operands, as they stand in the instruction
abbrev pub operands_of : Instr → List ℤ
operands_of (i.Push value) = value ∷ []
operands_of (i.Load level slot) = pos level ∷ pos slot ∷ []
operands_of (i.LoadG slot) = pos slot ∷ []
operands_of (i.Store level slot) = pos level ∷ pos slot ∷ []
operands_of (i.StoreG slot) = pos slot ∷ []
operands_of (i.Arr level slot len) = pos level ∷ pos slot ∷ pos len ∷ []
operands_of (i.ArrG slot len) = pos slot ∷ pos len ∷ []
operands_of (i.Clear slot len) = pos slot ∷ pos len ∷ []
operands_of (i.Jump to) = pos to ∷ []
operands_of (i.Jz to) = pos to ∷ []
operands_of (i.Jnz to) = pos to ∷ []
operands_of (i.Print text count) = pos text ∷ pos count ∷ []
operands_of (i.Call function count) = pos function ∷ pos count ∷ []
operands_of (i.Enter slot) = pos slot ∷ []
operands_of (i.Finish slot) = pos slot ∷ []
operands_of (i.Async slots to) = pos slots ∷ pos to ∷ []
operands_of (i.Cancel level slot) = pos level ∷ pos slot ∷ []
operands_of (i.Send channel) = pos channel ∷ []
operands_of (i.Recv channel) = pos channel ∷ []
operands_of (i.Read file) = pos file ∷ []
operands_of (i.Write file) = pos file ∷ []
operands_of _ = []

-- each number behind a space
abbrev pub spaced : List ℤ → List ℕ
spaced [] = []
spaced (n ∷ ns) = (32 ∷ signed_decimal n) ++ spaced ns

-- the address, the name and the operands
abbrev pub instr_line : ℕ → Instr → List ℕ
instr_line at instr = decimal at ++ 32 ∷ [] ++ instr_name instr ++ spaced (operands_of instr) ++ 10 ∷ []

-- ---- functions

-- the instructions from this address on, one line each
abbrev pub instr_lines : ℕ → List Instr → List ℕ
instr_lines at [] = []
instr_lines at (x ∷ xs) = instr_line at x ++ instr_lines (suc at) xs

abbrev pub function_line : Entered → List ℕ
function_line function = codes "function " ++ function.name ++ codes " words " ++ decimal function.words ++ 10 ∷ []

-- the instructions from one address up to another
abbrev pub between : ℕ → ℕ → List Instr → List Instr
between from to instrs = take (to - from) (drop from instrs)

-- a function ends where the next one begins, and the last one with the code
abbrev pub end_before : List Entered → List Instr → ℕ
end_before [] instrs = length instrs
end_before (next ∷ _) instrs = next.at

abbrev pub function_lines : List Entered → List Instr → List ℕ
function_lines [] instrs = []
function_lines (f ∷ fs) instrs =
    (function_line f ++ instr_lines f.at (between f.at (end_before fs instrs) instrs)) ++ function_lines fs instrs

-- ---- cores and texts

-- a core's name and the number of the function that it enters
abbrev pub core_line : List ℕ → ℕ → List ℕ
core_line name entry = codes "core " ++ name ++ 32 ∷ [] ++ decimal entry ++ 10 ∷ []

abbrev pub core_lines : List (List ℕ) → List ℕ → List ℕ
core_lines [] entries = []
core_lines (name ∷ names) [] = []
core_lines (name ∷ names) (entry ∷ entries) = core_line name entry ++ core_lines names entries

-- a text of `Print` with its number, in hexadecimal
abbrev pub text_line : ℕ → List ℕ → List ℕ
text_line number bytes = codes "text " ++ decimal number ++ 32 ∷ [] ++ hex_of bytes ++ 10 ∷ []

-- the texts of `Print`, of which the first has this number
abbrev pub text_lines : ℕ → List (List ℕ) → List ℕ
text_lines number [] = []
text_lines number (bytes ∷ more) = text_line number bytes ++ text_lines (suc number) more

-- ---- the whole

abbrev pub listing : Parts → List ℕ
listing code = core_lines code.names code.entries ++ function_lines code.functions code.instrs ++ text_lines 0 code.texts
