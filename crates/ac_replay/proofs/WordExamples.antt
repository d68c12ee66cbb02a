-- Words and lines of this program, by example.
use Rattle.std.proofs.Common.{◌≡◌, [], ◌∷◌, codes, refl, arith}
use Rattle.std.proofs.lemmas.Fmt.{decimal_digit}
use Rattle.std.proofs.lemmas.List.Elements.{All-from_recursion}
use Rattle.ac_words.specs.Words.IsArguments.{no_more, operand, only_operands}
use Rattle.ac_replay.specs.Lines.{differs_line, usage_line}
use Rattle.ac_replay.specs.Words.{IsCall, IsNoCall}
use Rattle.ac_replay.proofs.Calls.{IsNoDash, no_call_of_one}

pub two_words : IsCall (codes "x" ∷ codes "y" ∷ []) (codes "x") (codes "y")
two_words = operand (λ e. omega (arith, e)) (operand (λ e. omega (arith, e)) no_more)

-- behind `--` a word may begin with `-`
pub a_file_named_so : IsCall (codes "x" ∷ codes "--" ∷ codes "-y" ∷ []) (codes "x") (codes "-y")
a_file_named_so = operand (λ e. omega (arith, e)) (only_operands refl (All-from_recursion IsNoDash (codes "-y" ∷ []) ((λ e. cc (e)), tt)))

pub not_the_other_way : IsCall (codes "x" ∷ codes "y" ∷ []) (codes "y") (codes "x") → ⊥
not_the_other_way h = elim h [ ]

pub one_word_is_no_call : IsNoCall (codes "x" ∷ [])
one_word_is_no_call = no_call_of_one (codes "x")

pub two_words_are_one : IsNoCall (codes "x" ∷ codes "y" ∷ []) → ⊥
two_words_are_one h = h (codes "x") (codes "y") two_words

pub the_usage : usage_line ≡ codes "usage: ac_again FILE TRACE\n"
the_usage = refl

pub a_file_differs : differs_line 3 ≡ codes "file 3 differs\n"
a_file_differs = rw (decimal_digit 3 (omega arith)) refl
