-- What the lines of a listing are made of, worked out by hand: names, operands, heads of the parts, digits, and where a function ends.
-- As in Examples, by computing and by the lemma of the one decimal.
use Rattle.std.proofs.Common.{◌≡◌, refl, pos, [], ◌∷◌, codes, arith}
use Rattle.std.specs.Prelude.{negsuc}
use Rattle.std.specs.Fmt.{decimal}
use Rattle.std.proofs.lemmas.Fmt.{decimal_digit}
use Rattle.ac_base.specs.Hexadecimal.{hex_digit, hex_digits}
use Rattle.stack_code.specs.declared.instr.Instr.TheVariants as i
use Rattle.stack_code.specs.declared.parts.Entered.{Entered}
use Rattle.code_listing.specs.Listing.{instr_name, spaced, instr_lines, core_line, function_line, end_before, text_line}

seven_is : decimal 7 ≡ codes "7"
seven_is = decimal_digit 7 (omega arith)

abbrev function_at_one : Entered
function_at_one = record { name = codes "f"; at = 1; params = []; words = 7 }

pub names_and_operands : (instr_name (i.Jz 2) ≡ codes "Jz") × (spaced (pos 7 ∷ negsuc 6 ∷ []) ≡ codes " 7 -7")
names_and_operands = (refl, rw seven_is refl)

pub instructions_stand_one_a_line : instr_lines 7 (i.Ret ∷ []) ≡ codes "7 Ret\n"
instructions_stand_one_a_line = rw seven_is refl

pub heads_of_the_parts : (core_line (codes "a") 7 ≡ codes "core a 7\n") × (function_line function_at_one ≡ codes "function f words 7\n") × (text_line 7 (codes "a") ≡ codes "text 7 61\n")
heads_of_the_parts = (rw seven_is refl, rw seven_is refl, rw seven_is refl)

pub digits_in_hexadecimal : (hex_digit 9 ∷ hex_digit 10 ∷ [] ≡ codes "9a") × (hex_digits (165 ∷ []) ≡ codes "a5")
digits_in_hexadecimal = (refl, refl)

-- before the next function, and the last one with the code
pub where_a_function_ends : end_before (function_at_one ∷ []) (i.Step ∷ i.Ret ∷ []) ∷ end_before [] (i.Step ∷ i.Ret ∷ []) ∷ [] ≡ 1 ∷ 2 ∷ []
where_a_function_ends = refl
