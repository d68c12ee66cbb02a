-- The lines that the program writes, at small values: each is written out whole, as it is read.
-- Both sides are computed; only the digits of a number are known by a law.
use Rattle.std.proofs.Common.{◌≡◌, refl, codes, arith}
use Rattle.std.proofs.lemmas.Fmt.{decimal_digit}
use Rattle.program_reading.specs.Lines.{place_line, rule_line}
use Rattle.ac_program.specs.Lines.{usage_line}

pub the_usage : usage_line ≡ codes "usage: ac run|trace FILE [--steps N], ac code|check FILE, ac audit FILE TRACE, ac load N [--steps N]\n"
the_usage = refl

pub a_line_with_a_place : place_line (codes "unexpected token at ") 7 ≡ codes "unexpected token at 7\n"
a_line_with_a_place = rw (decimal_digit 7 (omega arith)) refl

pub a_line_with_a_rule : rule_line (record { rule = 2; at = 7 }) ≡ codes "rule C2 at 7\n"
a_line_with_a_rule = rw (decimal_digit 2 (omega arith), decimal_digit 7 (omega arith)) refl
