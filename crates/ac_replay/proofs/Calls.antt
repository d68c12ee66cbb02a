-- Which two operands words give: of two words each is one, of three one is `--`, and no other number of words gives two.
use Rattle.std.proofs.Common.{◌≡◌, ◌≢◌, ℕ, ◌<◌, List, [], ◌∷◌, codes, length, arith}
use Rattle.std.proofs.lemmas.List.Elements.{All-from_recursion, recursion_from_All}
use Rattle.ac_words.specs.Words.{IsPlain}
use Rattle.ac_words.specs.Words.IsArguments.{no_more, operand, only_operands}
use Rattle.ac_replay.specs.Words.{IsCall, IsNoCall}

abbrev pub IsNoDash : List ℕ → Type 0
IsNoDash word = word ≢ codes "-"

-- ---- two words

pub two_operands : (a b : List ℕ) → IsPlain a → IsPlain b → IsCall (a ∷ b ∷ []) a b
two_operands a b p q = operand p (operand q no_more)

-- ---- three

-- where `--` stands
pub data Way (a b c : List ℕ) : Type 0 where
  first : a ≡ codes "--" → b ≢ codes "-" → c ≢ codes "-" → Way a b c
  second : IsPlain a → b ≡ codes "--" → c ≢ codes "-" → Way a b c
  third : IsPlain a → IsPlain b → c ≡ codes "--" → Way a b c

pub way_of : (a b c file trace : List ℕ) → IsCall (a ∷ b ∷ c ∷ []) file trace → Way a b c
way_of a b c file trace (only_operands e all) = let h = recursion_from_All IsNoDash (b ∷ c ∷ []) all in first e h.0 h.1.0
way_of a b c file trace (operand p (only_operands e all)) = let h = recursion_from_All IsNoDash (c ∷ []) all in second p e h.0
way_of a b c file trace (operand p (operand q (only_operands e all))) = third p q e

pub behind_first : (a b c : List ℕ) → a ≡ codes "--" → b ≢ codes "-" → c ≢ codes "-" → IsCall (a ∷ b ∷ c ∷ []) b c
behind_first a b c e p q = only_operands e (All-from_recursion IsNoDash (b ∷ c ∷ []) (p, (q, tt)))

pub behind_second : (a b c : List ℕ) → IsPlain a → b ≡ codes "--" → c ≢ codes "-" → IsCall (a ∷ b ∷ c ∷ []) a c
behind_second a b c p e q = operand p (only_operands e (All-from_recursion IsNoDash (c ∷ []) (q, tt)))

pub behind_third : (a b c : List ℕ) → IsPlain a → IsPlain b → c ≡ codes "--" → IsCall (a ∷ b ∷ c ∷ []) a b
behind_third a b c p q e = operand p (operand q (only_operands e (All-from_recursion IsNoDash [] tt)))

pub no_call_of_three : (a b c : List ℕ) → (Way a b c → ⊥) → IsNoCall (a ∷ b ∷ c ∷ [])
no_call_of_three a b c none file trace h = none (way_of a b c file trace h)

-- ---- others

pub no_call_of_none : IsNoCall []
no_call_of_none file trace h = elim h [ ]

pub no_call_of_one : (a : List ℕ) → IsNoCall (a ∷ [])
no_call_of_one a file trace (operand p h) = elim h [ ]

pub no_call_of_four : (a b c d : List ℕ) (words : List (List ℕ)) → IsNoCall (a ∷ b ∷ c ∷ d ∷ words)
no_call_of_four a b c d words file trace (operand p (operand q h)) = elim h [ ]

pub no_call_of_few : (words : List (List ℕ)) → length words < 2 → IsNoCall words
no_call_of_few [] few = no_call_of_none
no_call_of_few (a ∷ []) few = no_call_of_one a
no_call_of_few (a ∷ b ∷ words) few = absurd (omega arith)

pub no_call_of_many : (words : List (List ℕ)) → 3 < length words → IsNoCall words
no_call_of_many [] many = absurd (omega arith)
no_call_of_many (a ∷ []) many = absurd (omega arith)
no_call_of_many (a ∷ b ∷ []) many = absurd (omega arith)
no_call_of_many (a ∷ b ∷ c ∷ []) many = absurd (omega arith)
no_call_of_many (a ∷ b ∷ c ∷ d ∷ words) many = no_call_of_four a b c d words
