-- A format has as many directives for the code as it has places for arguments.
-- The rule of the language counts places (`HasHoles`), the code its directives; by induction on how the places were counted.
use Rattle.std.proofs.Common.{◌≡◌, ℕ, List, refl, arith}
use Rattle.std.proofs.lemmas.Bool.{ne_eqb}
use Rattle.ac_types.specs.Formats.{HasHoles, no_more, a_byte, a_percent_sign, a_number, a_letter}
use Rattle.stack_code.specs.Shapes.{directives_in}

pub directives_are : (format : List ℕ) (holes : ℕ) → HasHoles format holes → holes ≡ directives_in format
directives_are _ _ no_more = refl
directives_are _ _ (a_byte b bs n other h) = rw (ne_eqb b 37 other) (directives_are bs n h)
directives_are _ _ (a_percent_sign bs n h) = directives_are bs n h
directives_are _ _ (a_number bs n h) = let more = directives_are bs n h in omega (arith, more)
directives_are _ _ (a_letter bs n h) = let more = directives_are bs n h in omega (arith, more)
