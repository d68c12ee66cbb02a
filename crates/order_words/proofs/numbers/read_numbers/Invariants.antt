use Rattle.std.proofs.Common.{ℕ, List, ◌++◌, length}
use denote.Shadow.{shadow}
use denote.Text.{Utf8}
use Rattle.order_words.specs.Words.{IsNumbers, IsOfNumbers}
use Rattle.order_words.proofs.numbers.read_numbers.Given as goal

-- the numbers of the rest stand behind those that were read
abbrev pub invariant-taking : goal.invariant-taking
invariant-taking l = record {
  utf8 : shadow (Utf8 l.rest);
  some : IsOfNumbers l.rest;
  behind : (others : List ℕ) → IsNumbers l.rest others → IsNumbers l.text (l.numbers ++ others);
}

abbrev pub decreases-taking : goal.decreases-taking
decreases-taking l = length l.rest
