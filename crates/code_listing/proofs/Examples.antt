-- What the listing of a code and its lines say, worked out by hand: a line for each number and kind of operands, each part, and a whole listing.
-- All of it computes but the decimal numbers, which are rewritten by a lemma each.
use Rattle.std.proofs.Common.{◌≡◌, refl, pos, [], ◌∷◌, codes, true, arith}
use Rattle.std.specs.Prelude.{negsuc}
use Rattle.std.proofs.lemmas.Fmt.{decimal_digit}
use Rattle.std.specs.Fmt.{decimal}
use Rattle.ac_base.specs.Hexadecimal.{hex_of}
use Rattle.stack_code.specs.declared.instr.Instr.TheVariants as i
use Rattle.code_listing.specs.Listing.{instr_line, between, function_lines, core_lines, text_lines, listing}
use Rattle.stack_code.proofs.Examples.{entered, code_of}

nought : decimal 0 ≡ codes "0"
nought = decimal_digit 0 (omega arith)

one_is : decimal 1 ≡ codes "1"
one_is = decimal_digit 1 (omega arith)

two_is : decimal 2 ≡ codes "2"
two_is = decimal_digit 2 (omega arith)

seven_is : decimal 7 ≡ codes "7"
seven_is = decimal_digit 7 (omega arith)

-- a line of each number and kind of operands
pub lines_without_operands : instr_line 7 i.Step ∷ instr_line 7 i.SetElem ∷ instr_line 7 i.LessEq ∷ instr_line 7 i.End ∷ []
    ≡ codes "7 Step\n" ∷ codes "7 SetElem\n" ∷ codes "7 LessEq\n" ∷ codes "7 End\n" ∷ []
lines_without_operands = rw seven_is refl

pub lines_with_a_number : instr_line 7 (i.Push (pos 2)) ∷ instr_line 7 (i.Push (negsuc 1)) ∷ [] ≡ codes "7 Push 2\n" ∷ codes "7 Push -2\n" ∷ []
lines_with_a_number = rw (seven_is, two_is) refl

pub lines_with_one_operand : instr_line 7 (i.LoadG 2) ∷ instr_line 7 (i.Jz 2) ∷ instr_line 7 (i.Finish 2) ∷ instr_line 7 (i.Recv 2) ∷ instr_line 7 (i.Write 2) ∷ []
    ≡ codes "7 LoadG 2\n" ∷ codes "7 Jz 2\n" ∷ codes "7 Finish 2\n" ∷ codes "7 Recv 2\n" ∷ codes "7 Write 2\n" ∷ []
lines_with_one_operand = rw (seven_is, two_is) refl

-- the operands stand in their order
pub lines_with_two_operands :
    instr_line 7 (i.Store 1 2) ∷ instr_line 7 (i.ArrG 2 1) ∷ instr_line 7 (i.Clear 2 1) ∷ instr_line 7 (i.Print 0 2) ∷ instr_line 7 (i.Call 2 1) ∷ instr_line 7 (i.Async 1 2)
    ∷ instr_line 7 (i.Cancel 1 0) ∷ []
    ≡ codes "7 Store 1 2\n" ∷ codes "7 ArrG 2 1\n" ∷ codes "7 Clear 2 1\n" ∷ codes "7 Print 0 2\n" ∷ codes "7 Call 2 1\n" ∷ codes "7 Async 1 2\n" ∷ codes "7 Cancel 1 0\n" ∷ []
lines_with_two_operands = rw (seven_is, nought, one_is, two_is) refl

pub a_line_with_three_operands : instr_line 7 (i.Arr 0 1 2) ≡ codes "7 Arr 0 1 2\n"
a_line_with_three_operands = rw (seven_is, nought, one_is, two_is) refl

-- bytes in hexadecimal, where none are a dash
pub bytes_in_hexadecimal : hex_of (0 ∷ 10 ∷ 159 ∷ 255 ∷ []) ∷ hex_of [] ∷ [] ≡ codes "000a9fff" ∷ codes "-" ∷ []
bytes_in_hexadecimal = refl

pub texts_are_numbered : text_lines 0 (codes "a" ∷ [] ∷ []) ≡ codes "text 0 61\ntext 1 -\n"
texts_are_numbered = rw (nought, one_is) refl

pub cores_with_their_functions : core_lines (codes "a" ∷ codes "b" ∷ []) (1 ∷ 0 ∷ []) ≡ codes "core a 1\ncore b 0\n"
cores_with_their_functions = rw (one_is, nought) refl

pub from_one_address_to_another : between 1 2 (i.Step ∷ i.Drop ∷ i.Ret ∷ []) ∷ between 2 2 (i.Step ∷ []) ∷ [] ≡ (i.Drop ∷ []) ∷ [] ∷ []
from_one_address_to_another = refl

-- the first function ends where the second begins
pub functions_one_after_the_other :
    function_lines (entered 2 ∷ record { name = codes "g"; at = 1; params = true ∷ []; words = 1 } ∷ []) (i.Yield ∷ i.Ret ∷ []) ≡ codes "function f words 2\n0 Yield\nfunction g words 1\n1 Ret\n"
functions_one_after_the_other = rw (two_is, nought, one_is) refl

pub a_whole_listing : listing (code_of 0 (i.Push (pos 7) ∷ i.Ret ∷ [])) ≡ codes "core a 0\nfunction f words 0\n0 Push 7\n1 Ret\ntext 0 25640a\n"
a_whole_listing = rw (seven_is, nought, one_is) refl
