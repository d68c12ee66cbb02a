use Rattle.std.proofs.Common.{ℕ, List, length}
use denote.Shadow.{shadow}
use denote.Text.{Utf8}
use Rattle.order_words.specs.Words.{IsNumbers, IsOfNumbers}
use Rattle.order_words.proofs.numbers.are_numbers.Given as goal

-- the rest decides
abbrev pub invariant-looking : goal.invariant-looking
invariant-looking l = record {
  utf8 : shadow (Utf8 l.rest);
  yes : IsOfNumbers l.rest → IsOfNumbers l.text;
  no : (numbers : List ℕ) → IsNumbers l.text numbers → IsOfNumbers l.rest;
}

abbrev pub decreases-looking : goal.decreases-looking
decreases-looking l = length l.rest
